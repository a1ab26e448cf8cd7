-- Proves that flushing a window returns the frames of the waiting numbers in order, and that each of these
-- numbers fails.
use Rattle.std.proofs.Common.{◌≡◌, ℕ, suc, ◌+◌, ◌-◌, ◌%◌, ◌<◌, ◌≤◌, max, Bool, true, false, cond, if◌then◌else◌, Option, Some, None, option_map, List, [], ◌∷◌, ◌++◌, length, get_or, set, map, append_assoc, refl, ap, sym, ◌∙◌, subst, arith, length-set, inl, inr}
use Rattle.std.specs.Prelude.{count_by}
use Rattle.std.specs.List.{filter}
use Rattle.std.proofs.lemmas.List.{append-nil}
use Rattle.std.proofs.lemmas.List.Sums.{sum_by-set}
use Rattle.std.proofs.lemmas.Bool.{cases_lt}
use Rattle.wf_frame.specs.Frames.{FrameValue}
use Rattle.wf_frame.specs.declared.classes.Fate.TheVariants.{Dropped}
use Rattle.wf_frame.specs.declared.classes.Cause.{Cause}
use Rattle.wf_def_lists.specs.Lists.{IsRising}
use Rattle.wf_def_lists.specs.Table.{at, change}
use Rattle.wf_def_agreement.specs.Session.{Session, Slot, no_slot, slot, on_slot, start_of, is_waiting, numbers_where, waiting_numbers, slot_given_up, slot_flushed, after_flush}
use Rattle.wf_octets.specs.Distance.{distance}
use Rattle.wf_send_parts.specs.declared.window.place.Place.{Place}
use Rattle.wf_send_parts.specs.declared.window.place.Place.TheVariants.{Waiting as Waits, Failed as Fails}
use Rattle.wf_send_parts.specs.Answers.{with_fate}
use Rattle.wf_send_parts.specs.Expelling.{frame_dropped, frames_dropped}
use Rattle.wf_send_parts.specs.Flushing.{IsFlushed, HasFlushed}
use Rattle.wf_send_parts.specs.Listing.{waiting_since}
use Rattle.wf_send_parts.specs.Places.{state_of_place, front, rest, passed_over}
use Rattle.wf_send_parts.specs.declared.window.passed.Passed.{Passed}
use Rattle.wf_send_parts.specs.Ring.{RingValue}
use Rattle.wf_send_parts.specs.Window.{WindowValue, WindowStandsFor, IsNumber, waiting_from, on_air, waits}
use Rattle.wf_send_parts.proofs.Calls.{IsWaitingSlot, waiting_slot}
use Rattle.wf_send_parts.proofs.Callers.{next_kept}
use Rattle.wf_send_parts.proofs.Counting.{counted_rest}
use Rattle.wf_send_parts.proofs.Fronts.{lengths}
use Rattle.wf_send_parts.proofs.Laws.{next_is, places_length, place_is, distance_is, slot_changed}
use Rattle.wf_send_parts.proofs.Listing.{all_since, first_since, none_since, numbers_rise, waiting_rise, listing_begins, listing_near}
use Rattle.wf_send_parts.proofs.Numbers.{IsWaitingFrom, waiting_from_is}
use Rattle.wf_send_parts.proofs.Steps.{shown, with_items, replaced_twice, moved_on_is}

-- ---- one call

pub none_waits : (o : Option ℕ) → None ≡ option_map on_air o → o ≡ None
none_waits None e = refl
none_waits (Some m) e = absurd (cc e)

module _ (size start start2 moved : ℕ) (passed passed2 : Passed) (r r0 r1 r2 : RingValue) (now : WindowValue)
    (parcel : FrameValue) (attempts i : ℕ) (is : shown size start passed r ≡ now)
    (found : Some (Waits parcel attempts) ≡ get_or r.items i None) (z : r0 ≡ with_items r
    (set r.items i None))
    (a : r1 ≡ with_items r0 (set r0.items i (Some Fails)))
    (b : r2 ≡ with_items r1 (rest state_of_place r1.items))
    (m_is : moved ≡ length (front state_of_place r1.items))
    (d_is : passed2 ≡ passed_over state_of_place passed (front state_of_place r1.items))
    (e_is : start2 ≡ (start + moved) % 4096) where
  failed_ring : r1 ≡ with_items r (set r.items i (Some Fails))
  failed_ring = replaced_twice r r0 r1 i None (Some Fails) z a

  left_items : r2.items ≡ rest state_of_place (set r.items i (Some Fails))
  left_items = ap (λ (v : RingValue). v.items) b
      ∙ ap (λ (v : RingValue). rest state_of_place v.items) failed_ring

  pub one_waits_less : i < length r.items → count_by waits r2.items < count_by waits r.items
  one_waits_less inside =
      let one : ◌≡◌ {A = ℕ} (cond (waits (get_or r.items i None)) 1 0) 1 =
      ap (λ (p : Option Place). cond {A = ℕ} (waits p) 1 0) (sym found) in
      omega (
        arith,
        ap (count_by waits) left_items,
        counted_rest state_of_place (set r.items i (Some Fails)),
        sum_by-set (λ p. cond (waits p) 1 0) r.items i (Some Fails) None inside,
        one,
      )

  module _ (cause : Cause) (seq past next limit : ℕ) (i_is : i ≡ distance seq start)
      (past_is : past ≡ (i + 1) - moved)
      (next_at : next ≡ (start2 + past) % 4096) (s : Session) (bodies : ℕ → FrameValue) (n : ℕ)
      (stands : WindowStandsFor now s bodies) where
    flushed_at : (m : ℕ) → waiting_from s n ≡ Some m → seq ≡ on_air m → (out : FrameValue) →
        out ≡ with_fate (Dropped cause) parcel → IsFlushed cause limit s bodies n
        (shown size start2 passed2 r2) out next
    flushed_at m first on_air_is out out_is =
        let W : WindowValue = shown size start passed r in
        let w : WindowStandsFor W s bodies =
        subst (λ (v : WindowValue). WindowStandsFor v s bodies) (sym is) stands in
        let f : IsWaitingFrom s n m = waiting_from_is s n m first in
        let number : IsNumber s m seq = record {
          from_start = f.number.from_start;
          given = f.number.given;
          on_air = on_air_is;
        } in
        let x : IsWaitingSlot bodies (slot s m) parcel attempts =
        waiting_slot bodies (slot s m) parcel attempts
        (found ∙ ap (λ (k : ℕ). get_or r.items k None) i_is ∙ place_is W s bodies w m seq number) in
        let after : Session = on_slot m (slot_given_up limit) s in
        let a_here : r1 ≡ with_items r (set r.items (distance seq start) (Some Fails)) =
        failed_ring ∙ ap (λ (k : ℕ). with_items r (set r.items k (Some Fails))) i_is in
        let left : WindowStandsFor (shown size start2 passed2 r2) after bodies =
        subst (λ (v : WindowValue). WindowStandsFor v after bodies)
        (sym (moved_on_is size start start2 moved passed passed2 r r1 r2 _ a_here b m_is d_is e_is))
        (slot_changed W s bodies w m seq number (slot_given_up limit) (Some Fails) refl) in
        let new_start : start_of after ≡ start_of s + moved = omega (
          arith,
          places_length (shown size start2 passed2 r2) after bodies left,
          places_length W s bodies w,
          next_kept W s bodies w m seq number (slot_given_up limit),
          ap length left_items,
          lengths state_of_place (set r.items i (Some Fails)),
          length-set r.items i (Some Fails),
          m_is,
          ap (λ (v : RingValue). length (front state_of_place v.items)) failed_ring,
        ) in
        record {
          number = m;
          first = first;
          dropped = out_is ∙ ap (with_fate (Dropped cause)) x.parcel_is;
          stands = left;
          goes_on = omega (
            arith,
            next_at,
            past_is,
            i_is,
            distance_is W s bodies w m seq number,
            number.from_start,
            left.start,
            new_start,
          );
        }

    pub flushed_one : Some seq ≡ option_map on_air (waiting_from s n) → (out : FrameValue) →
        out ≡ with_fate (Dropped cause) parcel → IsFlushed cause limit s bodies n
        (shown size start2 passed2 r2) out next
    flushed_one e out out_is = pick (waiting_from s n) refl e
      where
        pick : (o : Option ℕ) → waiting_from s n ≡ o → Some seq ≡ option_map on_air o →
            IsFlushed cause limit s bodies n (shown size start2 passed2 r2) out next
        pick None t e = absurd (cc e)
        pick (Some m) t e = let same : seq ≡ on_air m = cc e in flushed_at m t same out out_is

-- ---- the numbers that wait

abbrev waiting : List Slot → List Slot
waiting xs = filter (λ x. is_waiting x.state) xs

-- the first waiting number m, at place k, fails: the others still wait
record IsFirstFailed (limit first m k : ℕ) (xs ys : List Slot) : Type 0 where
  numbers : numbers_where is_waiting first xs ≡ m ∷ numbers_where is_waiting first ys
  slots : waiting xs ≡ at no_slot xs k ∷ waiting ys
  flushed : map (slot_flushed limit) ys ≡ map (slot_flushed limit) xs

first_fails : (limit first m : ℕ) (xs : List Slot) (ms : List ℕ) → numbers_where is_waiting first xs ≡ m
    ∷ ms →
    IsFirstFailed limit first m (m - first) xs (change no_slot xs (m - first) (slot_given_up limit))
first_fails limit first m [] ms e = absurd (cc e)
first_fails limit first m (x ∷ xs) ms e = pick (is_waiting x.state) refl (first_fails limit
    (suc first) m xs ms) e
  where
    after : ℕ → List Slot
    after k = change no_slot (x ∷ xs) k (slot_given_up limit)

    further : List Slot
    further = change no_slot xs (m - suc first) (slot_given_up limit)

    numbers_of : List Slot → List ℕ
    numbers_of ys = numbers_where is_waiting (suc first) ys

    pick : (b : Bool) → is_waiting x.state ≡ b →
        (numbers_of xs ≡ m ∷ ms → IsFirstFailed limit (suc first) m (m - suc first) xs further) →
        (if b then first ∷ numbers_of xs else numbers_of xs) ≡ m ∷ ms →
        IsFirstFailed limit first m (m - first) (x ∷ xs) (after (m - first))
    pick true t later e =
        let same : first ≡ m = cc e in
        let here : m - first ≡ 0 = omega (arith, same) in
        subst (λ (k : ℕ). IsFirstFailed limit first m k (x ∷ xs) (after k)) (sym here) (record {
          numbers = ap (λ (b : Bool). if b then first ∷ numbers_of xs else numbers_of xs) t
              ∙ ap (λ (k : ℕ). k ∷ numbers_of xs) same;
          slots = ap (λ (b : Bool). cond b (x ∷ waiting xs) (waiting xs)) t;
          flushed = ap (λ (b : Bool). (if b then slot_given_up limit x else x) ∷ map (slot_flushed limit) xs)
              (sym t);
        })
    pick false t later e =
        let l : IsFirstFailed limit (suc first) m (m - suc first) xs further = later e in
        let rising : IsRising (suc first) (m ∷ ms) = subst (IsRising (suc first)) e (numbers_rise
        (suc first) xs)
        in
        let past : m - first ≡ suc (m - suc first) = omega (arith, rising.0) in
        subst (λ (k : ℕ). IsFirstFailed limit first m k (x ∷ xs) (after k)) (sym past) (record {
          numbers = ap (λ (b : Bool). if b then first ∷ numbers_of xs else numbers_of xs) t ∙ l.numbers
              ∙ ap (λ (b : Bool). m ∷ (if b then first ∷ numbers_of further else numbers_of further)) (sym t);
          slots = ap (λ (b : Bool). cond b (x ∷ waiting xs) (waiting xs)) t ∙ l.slots
              ∙ ap (λ (b : Bool). at no_slot xs (m - suc first) ∷ cond b (x
              ∷ waiting further) (waiting further))
              (sym t);
          flushed = ap (λ (ys : List Slot). slot_flushed limit x ∷ ys) l.flushed;
        })

-- no number waits
none_fails : (limit first : ℕ) (xs : List Slot) → numbers_where is_waiting first xs ≡ [] →
    (waiting xs ≡ []) × (map (slot_flushed limit) xs ≡ xs)
none_fails limit first [] e = (refl, refl)
none_fails limit first (x ∷ xs) e = pick (is_waiting x.state) refl (none_fails limit (suc first) xs) e
  where
    numbers : List ℕ
    numbers = numbers_where is_waiting (suc first) xs

    pick : (b : Bool) → is_waiting x.state ≡ b →
        (numbers ≡ [] → (waiting xs ≡ []) × (map (slot_flushed limit) xs ≡ xs)) →
        (if b then first ∷ numbers else numbers) ≡ [] →
        (waiting (x ∷ xs) ≡ []) × (map (slot_flushed limit) (x ∷ xs) ≡ x ∷ xs)
    pick true t later e = absurd (cc e)
    pick false t later e =
        let l : (waiting xs ≡ []) × (map (slot_flushed limit) xs ≡ xs) = later e in (
          ap (λ (b : Bool). cond b (x ∷ waiting xs) (waiting xs)) t ∙ l.0,
          ap (λ (b : Bool). (if b then slot_given_up limit x else x) ∷ map (slot_flushed limit) xs) t
              ∙ ap (λ (ys : List Slot). x ∷ ys) l.1,
        )

-- ---- the loop

pub flushing_begins : (cause : Cause) (limit : ℕ) (w : WindowValue) (s : Session) (bodies : ℕ → FrameValue) →
    WindowStandsFor w s bodies → HasFlushed cause limit w s bodies [] w.start
flushing_begins cause limit w s bodies stands =
    record { now = s; stands = stands; search = listing_begins w s bodies stands; rest = refl; leads = refl }

module _ (cause : Cause) (limit : ℕ) (w : WindowValue) (before : Session) (bodies : ℕ → FrameValue)
    (frames : List FrameValue)
    (from : ℕ) (so_far : HasFlushed cause limit w before bodies frames from) where
  pub flushing_near : distance from w.start ≤ length w.places
  flushing_near = listing_near w so_far.now bodies so_far.stands [] from so_far.search

  module _ (v : WindowValue) (parcel : FrameValue) (next : ℕ)
      (f : IsFlushed cause limit so_far.now bodies so_far.search.number v parcel next) where
    abbrev after : Session
    after = on_slot f.number (slot_given_up limit) so_far.now

    fails : IsFirstFailed limit so_far.now.first f.number (f.number - so_far.now.first) so_far.now.slots
        after.slots
    fails = first_fails limit so_far.now.first f.number so_far.now.slots _ (sym so_far.search.rest
        ∙ (first_since (waiting_numbers so_far.now) (start_of so_far.now) so_far.search.number f.number
        (waiting_rise so_far.now) f.first).rest)

    all_past : waiting_since after (max (f.number + 1) (start_of after)) ≡ waiting_numbers after
    all_past = elim (cases_lt f.number (start_of after)) [
      | inl low ↦ all_since (waiting_numbers after) (start_of after) _ (omega (arith, low))
          (waiting_rise after)
      | inr high ↦ all_since (waiting_numbers after) (suc f.number) _ (omega (arith, high))
          (subst (IsRising (start_of so_far.now)) fails.numbers (waiting_rise so_far.now)).1
    ]

    pub flushing_next : HasFlushed cause limit v before bodies (frames ++ parcel ∷ []) next
    flushing_next =
        let y : Session = so_far.now in
        let waits : IsWaitingFrom y so_far.search.number f.number =
        waiting_from_is y so_far.search.number f.number f.first in
        let first : frames_dropped cause bodies y ≡ parcel ∷ frames_dropped cause bodies after =
        ap (map (frame_dropped cause bodies)) fails.slots
        ∙ ap (λ (p : FrameValue). p ∷ frames_dropped cause bodies after) (sym f.dropped) in
        record {
          now = after;
          stands = f.stands;
          search = record {
            number = max (f.number + 1) (start_of after);
            on_air = f.goes_on;
            from_start = omega arith;
            to_next = omega (
              arith,
              waits.number.given,
              next_kept w y bodies so_far.stands f.number (f.number % 4096) waits.number
                  (slot_given_up limit),
              next_is after,
            );
            rest = all_past;
          };
          rest = append_assoc frames (parcel ∷ []) (frames_dropped cause bodies after)
              ∙ ap (λ (fs : List FrameValue). frames ++ fs) (sym first) ∙ so_far.rest;
          leads = ap (λ (xs : List Slot). record y { slots = xs }) fails.flushed ∙ so_far.leads;
        }

  pub flushing_ends : (v : WindowValue) → waiting_from so_far.now so_far.search.number ≡ None →
      WindowStandsFor v so_far.now bodies →
      (frames ≡ frames_dropped cause bodies before) × WindowStandsFor v (after_flush limit before) bodies
  flushing_ends v e stands =
      let y : Session = so_far.now in
      let none = none_fails limit y.first y.slots
      (sym so_far.search.rest ∙ none_since (waiting_numbers y) so_far.search.number e) in
      let same : y ≡ after_flush limit before =
      ap (λ (xs : List Slot). record y { slots = xs }) (sym none.1) ∙ so_far.leads in (
        sym (append-nil frames) ∙ ap (λ (xs : List Slot). frames
            ++ map (frame_dropped cause bodies) xs) (sym none.0)
            ∙ so_far.rest,
        subst (λ (z : Session). WindowStandsFor v z bodies) same stands,
      )
