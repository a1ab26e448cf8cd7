-- Proves that a half that represents a world has exactly the frames that are inside there, each with its
-- body. Both ways: each frame of the half is inside, and each frame inside is in a queue, in a window or on
-- the finished list.
use Rattle.std.proofs.Common.{◌≡◌, refl, ap, sym, ◌∙◌, subst, arith, ℕ, zero, suc, ◌+◌, ◌-◌, ◌/◌, ◌%◌, ◌<◌, ◌==◌, nat_lt, Bool, true, false, ◌&&◌, ◌||◌, cond, if◌then◌else◌, inl, inr, List, [], ◌∷◌, ◌++◌, length, get_or, map, Option, None, Some, is_some, unwrap_or}
use Rattle.std.specs.Prelude.{All, find, option_map}
use Rattle.wf_frame.specs.Frames.{FrameValue}
use Rattle.wf_frame.specs.declared.classes.Fate.TheVariants.{Held}
use Rattle.wf_law_rules.proofs.Lemmas.Members.{has_head}
use Rattle.wf_law_rules.proofs.Lemmas.Numbers.{on_bool, either, yes_lt, lt_yes, eq_yes}
use Rattle.wf_def_codel.specs.Codel.{Item}
use Rattle.wf_def_agreement.specs.Session.{Session, Slot, State, no_slot, slot, is_settled, start_of}
use Rattle.wf_def_lists.specs.Table.{at, has}
use Rattle.wf_def_world.specs.World.{World, Station, no_station, no_tid, is_live, session, queue, frame, accepted_count, is_held}
use Rattle.wf_law_runs.specs.Places.{Place, Queued, Numbered, StandsAt, StandsOnce, KeepsPlaces, IsNumbered}
use Rattle.wf_law_runs.proofs.Frames.Owners.{IsOwned}
use Rattle.wf_law_runs.proofs.Frames.Places.{standing}
use Rattle.wf_queue_flows.specs.Backlog.{frames_at}
use Rattle.wf_frame.specs.Classes.{tid_number}
use Rattle.wf_queue_flows_refines.specs.Standing.{ids}
use Rattle.wf_queue_flows_refines.proofs.Purges.{item_ids}
use Rattle.wf_send_parts.specs.declared.window.place.Place.{Place as Spot}
use Rattle.wf_send_parts.specs.Places.{slot_place, place_as, slot_state, front}
use Rattle.wf_send_parts.specs.Window.{WindowValue, slots_from_start}
use Rattle.wf_send_parts.proofs.Fronts.{at_is, at_rest}
use Rattle.wf_send_parts.proofs.Laws.{start_of_is, next_is}
use Rattle.wf_send_parts.proofs.Numbers.{open_number}
use Rattle.wf_send_parts.specs.Windows.{no_window, window_of}
use Rattle.wf_send_half_model.specs.Half.{TransmitValue, all_of, frame_in, frames_in_window, frames_in, body_of}
use Rattle.wf_send_half_model.specs.Standing.{StandsFor}
use Rattle.wf_send_half_model.proofs.Enqueues.{places_kept}
use Rattle.wf_send_half_model.specs.Inside.{is_held_id, is_inside, body_inside}
use Rattle.wf_send_half_model.proofs.Inside.{not_true, fate_held}

-- ---- lists of frames

abbrev Each : (FrameValue → Type 0) → List FrameValue → Type 0
Each P [] = Unit {0}
Each P (f ∷ fs) = P f × Each P fs

module _ (P : FrameValue → Type 0) where
  each_append : (xs ys : List FrameValue) → Each P xs → Each P ys → Each P (xs ++ ys)
  each_append [] ys a b = b
  each_append (x ∷ xs) ys a b = (a.0, each_append xs ys a.1 b)

  each_from : (xs : List FrameValue) → All P xs → Each P xs
  each_from [] h = tt
  each_from (x ∷ xs) h = (h 0 x (omega arith), each_from xs (λ k d low. h (suc k) d (omega (arith, low))))

  each_lists : (fss : List (List FrameValue)) → ((i : ℕ) → Each P (get_or fss i [])) → Each P (all_of fss)
  each_lists [] h = tt
  each_lists (fs ∷ rest) h = each_append fs (all_of rest) (h 0) (each_lists rest (λ i. h (suc i)))

  each_windows : (xs : List WindowValue) → ((i : ℕ) → Each P (frames_in_window (get_or xs i no_window))) →
      Each P (all_of (map frames_in_window xs))
  each_windows [] h = tt
  each_windows (x ∷ xs) h = each_append (frames_in_window x) (all_of (map frames_in_window xs)) (h 0)
      (each_windows xs (λ i. h (suc i)))

module _ (id : ℕ) where
  in_first : (xs ys : List FrameValue) → has (ids xs) id ≡ true → has (ids (xs ++ ys)) id ≡ true
  in_first [] ys h = absurd (cc h)
  in_first (x ∷ xs) ys h = elim (either (x.id == id) (has (ids xs) id) h) [
    | inl here ↦ cc here
    | inr there ↦ (let more = in_first xs ys there in on_bool (x.id == id) (λ e. cc e) (λ e. cc (e, more)))
  ]

  in_second : (xs ys : List FrameValue) → has (ids ys) id ≡ true → has (ids (xs ++ ys)) id ≡ true
  in_second [] ys h = h
  in_second (x ∷ xs) ys h = let more = in_second xs ys h in
      on_bool (x.id == id) (λ e. cc e) (λ e. cc (e, more))

  in_lists : (fss : List (List FrameValue)) (i : ℕ) → has (ids (get_or fss i [])) id ≡ true →
      has (ids (all_of fss)) id ≡ true
  in_lists [] i h = absurd (cc h)
  in_lists (fs ∷ rest) zero h = in_first fs (all_of rest) h
  in_lists (fs ∷ rest) (suc i) h = in_second fs (all_of rest) (in_lists rest i h)

  in_windows : (xs : List WindowValue) (i : ℕ) →
      has (ids (frames_in_window (get_or xs i no_window))) id ≡ true →
      has (ids (all_of (map frames_in_window xs))) id ≡ true
  in_windows [] i h = absurd (cc h)
  in_windows (x ∷ xs) zero h = in_first (frames_in_window x) (all_of (map frames_in_window xs)) h
  in_windows (x ∷ xs) (suc i) h = in_second (frames_in_window x) (all_of (map frames_in_window xs))
      (in_windows xs i h)

  found_none : (fs : List FrameValue) → has (ids fs) id ≡ false → find (λ f. f.id == id) fs ≡ None
  found_none [] h = refl
  found_none (f ∷ fs) h = on_bool (f.id == id)
      (λ e. absurd (cc (e, h)))
      (λ e.
      let rest : has (ids fs) id ≡ false = sym (ap (λ (b : Bool). b || has (ids fs) id) e) ∙ h in
      ap (λ (b : Bool). cond b (Some f) (find (λ g. g.id == id) fs)) e ∙ found_none fs rest)

-- ---- a frame of the half is inside

-- f has the body of its id, and this id is inside
record IsInside (w : World) (bodies : ℕ → FrameValue) (f : FrameValue) : Type 0 where
  body : f.body ≡ (bodies f.id).body
  inside : is_inside w f.id ≡ true

module _ (w : World) (bodies : ℕ → FrameValue) (id : ℕ) where
  found_inside : (fs : List FrameValue) → Each (IsInside w bodies) fs → has (ids fs) id ≡ true →
      is_inside w id ≡ true
  found_inside [] each h = absurd (cc h)
  found_inside (f ∷ fs) each h = elim (either (f.id == id) (has (ids fs) id) h) [
    | inl here ↦ subst (λ k. is_inside w k ≡ true) (eq_yes f.id id here) each.0.inside
    | inr there ↦ found_inside fs each.1 there
  ]

  found_body : (fs : List FrameValue) → Each (IsInside w bodies) fs → has (ids fs) id ≡ true →
      option_map (λ f. f.body) (find (λ f. f.id == id) fs) ≡ Some (bodies id).body
  found_body [] each h = absurd (cc h)
  found_body (f ∷ fs) each h = on_bool (f.id == id)
      (λ e. ap (λ (b : Bool). option_map (λ (g : FrameValue). g.body)
      (cond b (Some f) (find (λ g. g.id == id) fs))) e
      ∙ ap (λ (b : List ℕ). Some b) (each.0.body ∙ ap (λ k. (bodies k).body) (eq_yes f.id id e)))
      (λ e.
      let rest : has (ids fs) id ≡ true = sym (ap (λ (b : Bool). b || has (ids fs) id) e) ∙ h in
      ap (λ (b : Bool). option_map (λ (g : FrameValue). g.body) (cond b (Some f) (find (λ g. g.id == id) fs)))
      e ∙ found_body fs each.1 rest)

held_inside : (w : World) (id : ℕ) → id < accepted_count w → (frame w id).fate ≡ Held → is_inside w id ≡ true
held_inside w id low held = let given = yes_lt id (accepted_count w) low in let kept = ap is_held held in
    cc (given, kept)

finished_inside : (w : World) (id : ℕ) → has w.finished id ≡ true → is_inside w id ≡ true
finished_inside w id there = on_bool (is_held_id w id) (λ e. cc e) (λ e. cc (e, there))

-- the frame at a valid place of a list is in the list
has_at : (fs : List FrameValue) (k : ℕ) (d : FrameValue) → k < length fs →
    has (ids fs) (get_or fs k d).id ≡ true
has_at [] k d low = absurd (omega (arith, low))
has_at (f ∷ fs) zero d low = has_head f.id (ids fs)
has_at (f ∷ fs) (suc k) d low = let rest = has_at fs k d (omega (arith, low)) in
    on_bool (f.id == (get_or fs k d).id) (λ e. cc e) (λ e. cc (e, rest))

-- ---- the places of a window

module _ (bodies : ℕ → FrameValue) where
  module _ (P : FrameValue → Type 0) where
    each_place : (x : Slot) → (is_settled x.state ≡ false → P (bodies x.id)) →
        Each P (frame_in (slot_place bodies x))
    each_place x h = elim x.state as (λ st. (is_settled st ≡ false → P (bodies x.id)) →
        Each P (frame_in (place_as st (bodies x.id) x.attempts))) [
          | State.Waiting ↦ λ h. (h refl, tt)
          | State.Flying exchange ↦ λ h. (h refl, tt)
          | State.Acked ↦ λ _. tt
          | State.Failed ↦ λ _. tt
        ] h

    each_places : (xs : List Slot) → ((k : ℕ) → k < length xs →
        is_settled (get_or xs k no_slot).state ≡ false → P (bodies (get_or xs k no_slot).id)) →
        Each P (all_of (map frame_in (map (slot_place bodies) xs)))
    each_places [] h = tt
    each_places (x ∷ xs) h = each_append P (frame_in (slot_place bodies x))
        (all_of (map frame_in (map (slot_place bodies) xs))) (each_place x (h 0 (omega arith)))
        (each_places xs (λ k low. h (suc k) (omega (arith, low))))

  in_place : (x : Slot) (id : ℕ) → is_settled x.state ≡ false → (bodies x.id).id ≡ id →
      has (ids (frame_in (slot_place bodies x))) id ≡ true
  in_place x id free same = elim x.state as (λ st. is_settled st ≡ false →
      has (ids (frame_in (place_as st (bodies x.id) x.attempts))) id ≡ true) [
        | State.Waiting ↦ λ _. subst (λ k. has ((bodies x.id).id ∷ []) k ≡ true) same
            (has_head (bodies x.id).id [])
        | State.Flying exchange ↦ λ _. subst (λ k. has ((bodies x.id).id ∷ []) k ≡ true) same
            (has_head (bodies x.id).id [])
        | State.Acked ↦ λ e. absurd (cc e)
        | State.Failed ↦ λ e. absurd (cc e)
      ] free

  in_places : (xs : List Slot) (k id : ℕ) → is_settled (get_or xs k no_slot).state ≡ false →
      (bodies (get_or xs k no_slot).id).id ≡ id →
      has (ids (all_of (map frame_in (map (slot_place bodies) xs)))) id ≡ true
  in_places [] k id free same = absurd (cc free)
  in_places (x ∷ xs) zero id free same = in_first id (frame_in (slot_place bodies x))
      (all_of (map frame_in (map (slot_place bodies) xs))) (in_place x id free same)
  in_places (x ∷ xs) (suc k) id free same = in_second id (frame_in (slot_place bodies x))
      (all_of (map frame_in (map (slot_place bodies) xs))) (in_places xs k id free same)

-- the slot of number start + k
slot_from : (s : Session) (k : ℕ) → slot s (start_of s + k) ≡ get_or (slots_from_start s) k no_slot
slot_from s k =
    let i : ℕ = (start_of s + k) - s.first in
    let in_front : length (front slot_state s.slots) + k ≡ i = omega (arith, start_of_is s) in
    at_rest s.slots i k in_front ∙ at_is no_slot (slots_from_start s) k

-- a station that is not live has no unsettled number
no_number : (w : World) (s t n : ℕ) → is_live w s ≡ false →
    is_settled (slot (session w s t) n).state ≡ false → ⊥
no_number w s t n dead free = of (at None w.stations s) dead free
  where
    of : (o : Option Station) → is_some o ≡ false →
        is_settled (slot (at no_tid (unwrap_or o no_station).tids t).session n).state ≡ false → ⊥
    of None e free = cc free
    of (Some x) e free = cc e

-- ---- a half that represents a world

module _ (v : TransmitValue) (w : World) (bodies : ℕ → FrameValue) (h : StandsFor v w bodies) where
  places : KeepsPlaces w
  places = places_kept w h.reached

  own_id : (id : ℕ) → id < accepted_count w → (bodies id).id ≡ id
  own_id id low = (h.parts.others.notes id low).id

  queue_ids : (q : ℕ) → map (λ (x : Item). x.id) (queue w q).items ≡ ids (frames_at v.flows.backlog q)
  queue_ids q = ap (map (λ (x : Item). x.id)) (h.parts.others.flows.items q)
      ∙ item_ids (frames_at v.flows.backlog q)

  queued_inside : (q : ℕ) → All (IsInside w bodies) (frames_at v.flows.backlog q)
  queued_inside q = λ k d low.
      let f : FrameValue = get_or (frames_at v.flows.backlog q) k d in
      let on_it : has (map (λ (x : Item). x.id) (queue w q).items) f.id ≡ true =
      ap (λ (l : List ℕ). has l f.id) (queue_ids q) ∙ has_at (frames_at v.flows.backlog q) k d low in
      let known = places.only_held f.id (Queued q) on_it in
      record {
        body = ap (λ (g : FrameValue). g.body) (h.parts.others.frames.queued q k d low);
        inside =
            held_inside w f.id known.0 known.1;
      }

  finished_inside_all : All (IsInside w bodies) v.flows.backlog.finished
  finished_inside_all = λ k d low.
      let f : FrameValue = get_or v.flows.backlog.finished k d in
      let on_it : has w.finished f.id ≡ true = ap (λ (l : List ℕ). has l f.id) h.parts.others.flows.finished
      ∙ has_at v.flows.backlog.finished k d low in
      record {
        body = ap (λ (g : FrameValue). g.body) (h.parts.others.frames.finished k d low).0;
        inside =
            finished_inside w f.id on_it;
      }

  number_inside : (s t k : ℕ) → k < length (slots_from_start (session w s t)) →
      is_settled (get_or (slots_from_start (session w s t)) k no_slot).state ≡ false →
      IsInside w bodies (bodies (get_or (slots_from_start (session w s t)) k no_slot).id)
  number_inside s t k low free =
      let y : Session = session w s t in
      let x : Slot = get_or (slots_from_start y) k no_slot in
      let same : slot y (start_of y + k) ≡ x = slot_from y k in
      let number : IsNumbered w x.id s t (start_of y + k) =
      record {
        from = omega (arith, start_of_is y);
        below = omega (arith, next_is y, low);
        carries =
            ap (λ (z : Slot). z.id) same;
        unsettled = ap (λ (z : Slot). is_settled z.state) same ∙ free;
      } in
      let known = places.only_held x.id (Numbered s t (start_of y + k)) number in
      let own : (bodies x.id).id ≡ x.id = own_id x.id known.0 in
      record {
        body = ap (λ i. (bodies i).body) (sym own);
        inside =
            subst (λ i. is_inside w i ≡ true) (sym own) (held_inside w x.id known.0 known.1);
      }

  window_inside : (s t : ℕ) → t < 8 → Each (IsInside w bodies) (frames_in_window (window_of v.windows s t))
  window_inside s t low = on_bool (is_live w s)
      (λ live.
      subst (λ (ps : List (Option Spot)). Each (IsInside w bodies) (all_of (map frame_in ps)))
      (sym (h.parts.windows.all.stands s t live low).places)
      (each_places bodies (IsInside w bodies) (slots_from_start (session w s t)) (number_inside s t)))
      (λ dead. subst (λ (ps : List (Option Spot)). Each (IsInside w bodies) (all_of (map frame_in ps)))
      (sym (h.parts.windows.all.empty s t dead low)) tt)

  windows_inside : (i : ℕ) → Each (IsInside w bodies) (frames_in_window (get_or v.windows i no_window))
  windows_inside i =
      let number : tid_number (i / 8) (i % 8) ≡ i = omega arith in
      subst (λ j. Each (IsInside w bodies) (frames_in_window (get_or v.windows j no_window))) number
      (window_inside (i / 8) (i % 8) (omega arith))

  all_inside : Each (IsInside w bodies) (frames_in v)
  all_inside =
      each_append (IsInside w bodies) (all_of v.flows.backlog.queues
      ++ all_of (map frames_in_window v.windows)) v.flows.backlog.finished
      (each_append (IsInside w bodies) (all_of v.flows.backlog.queues)
      (all_of (map frames_in_window v.windows))
      (each_lists (IsInside w bodies) v.flows.backlog.queues
      (λ q. each_from (IsInside w bodies) (frames_at v.flows.backlog q) (queued_inside q)))
      (each_windows (IsInside w bodies) v.windows windows_inside))
      (each_from (IsInside w bodies) v.flows.backlog.finished finished_inside_all)

  -- ---- a frame that is inside is in the half

  at_number : (id s t n : ℕ) → IsNumbered w id s t n → id < accepted_count w →
      has (ids (all_of (map frames_in_window v.windows))) id ≡ true
  at_number id s t n number low =
      let y : Session = session w s t in
      let owned : IsOwned w = subst IsOwned (sym h.reached.after)
      (standing w.config h.reached.history h.reached.in_range).stood.owned in
      let below : t < 8 = (owned.mine s t id n (record {
        from = number.from;
        below = number.below;
        id =
            number.carries;
      })).1 in
      let live : is_live w s ≡ true = on_bool (is_live w s) (λ e. e)
      (λ dead. absurd (no_number w s t n dead number.unsettled)) in
      let place : start_of y + (n - start_of y) ≡ n = let o =
      open_number y n (n % 4096) number.from number.unsettled refl in omega (arith, o.from_start) in
      let same : slot y n ≡ get_or (slots_from_start y) (n - start_of y) no_slot =
      ap (slot y) (sym place) ∙ slot_from y (n - start_of y) in
      let free : is_settled (get_or (slots_from_start y) (n - start_of y) no_slot).state ≡ false =
      sym (ap (λ (z : Slot). is_settled z.state) same) ∙ number.unsettled in
      let own : (bodies (get_or (slots_from_start y) (n - start_of y) no_slot).id).id ≡ id =
      ap (λ (z : Slot). (bodies z.id).id) (sym same) ∙ ap (λ i. (bodies i).id) number.carries
      ∙ own_id id low in
      in_windows id v.windows (tid_number s t)
      (subst (λ (ps : List (Option Spot)). has (ids (all_of (map frame_in ps))) id ≡ true)
      (sym (h.parts.windows.all.stands s t live below).places)
      (in_places bodies (slots_from_start y) (n - start_of y) id free own))

  at_place : (id : ℕ) (p : Place) → StandsAt w id p → id < accepted_count w →
      has (ids (frames_in v)) id ≡ true
  at_place id (Queued q) there low =
      in_first id (all_of v.flows.backlog.queues ++ all_of (map frames_in_window v.windows))
      v.flows.backlog.finished
      (in_first id (all_of v.flows.backlog.queues) (all_of (map frames_in_window v.windows))
      (in_lists id v.flows.backlog.queues q (sym (ap (λ (l : List ℕ). has l id) (queue_ids q)) ∙ there)))
  at_place id (Numbered s t n) there low =
      in_first id (all_of v.flows.backlog.queues ++ all_of (map frames_in_window v.windows))
      v.flows.backlog.finished
      (in_second id (all_of v.flows.backlog.queues) (all_of (map frames_in_window v.windows))
      (at_number id s t n there low))

  held_there : (id : ℕ) → is_held_id w id ≡ true → has (ids (frames_in v)) id ≡ true
  held_there id e =
      let given : nat_lt id (accepted_count w) ≡ true =
      on_bool (nat_lt id (accepted_count w)) (λ a. a) (λ a. absurd (cc (a, e))) in
      let kept : is_held (frame w id).fate ≡ true =
      sym (ap (λ (b : Bool). b && is_held (frame w id).fate) given) ∙ e in
      let low : id < accepted_count w = lt_yes id (accepted_count w) given in
      let once : StandsOnce w id = places.held id low (fate_held (frame w id).fate kept) in
      at_place id once.place once.stands low

  inside_there : (id : ℕ) → is_inside w id ≡ true → has (ids (frames_in v)) id ≡ true
  inside_there id e = elim (either (is_held_id w id) (has w.finished id) e) [
    | inl held ↦ held_there id held
    | inr there ↦ in_second id (all_of v.flows.backlog.queues ++ all_of (map frames_in_window v.windows))
        v.flows.backlog.finished
        (sym (ap (λ (l : List ℕ). has l id) h.parts.others.flows.finished) ∙ there)
  ]

  pub bodies_are : (id : ℕ) → body_of v id ≡ body_inside w bodies id
  bodies_are id = on_bool (has (ids (frames_in v)) id)
      (λ there. found_body w bodies id (frames_in v) all_inside there
      ∙ sym (ap (λ (b : Bool). if b then Some (bodies id).body else None)
      (found_inside w bodies id (frames_in v) all_inside there)))
      (λ none.
      let out : is_inside w id ≡ false = not_true (is_inside w id)
      (λ e. let there = inside_there id e in absurd (cc (there, none))) in
      ap (option_map (λ (f : FrameValue). f.body)) (found_none id (frames_in v) none)
      ∙ sym (ap (λ (b : Bool). if b then Some (bodies id).body else None) out))
