-- Proves that a waiting number flies and its frame counts an attempt, or that a flying number's frame takes
-- one back, while all other windows and frames are unchanged.
use Rattle.std.proofs.Common.{◌≡◌, ◌≢◌, ℕ, zero, suc, ◌+◌, ◌-◌, ◌<◌, ◌==◌, Bool, true, false, Option, Some, List, [], ◌∷◌, ◌++◌, length, get_or, set, map, refl, ap, sym, ◌∙◌, subst, arith, eq-eqb, inl, inr}
use Rattle.std.proofs.lemmas.Bool.{cases_eq, ne_eqb, cond-true, cond-false}
use Rattle.wf_frame.specs.Classes.{tid_number}
use Rattle.wf_frame.specs.Frames.{FrameValue, sent_again}
use Rattle.wf_def_agreement.specs.Session.{Session, Slot, State, no_slot, slot, on_slot, start_of, is_settled, with_state}
use Rattle.wf_def_lists.specs.Table.{change}
use Rattle.wf_octets.specs.Distance.{distance}
use Rattle.wf_send_parts.specs.declared.window.place.Place.{Place}
use Rattle.wf_send_parts.specs.declared.window.place.Place.TheVariants.{Waiting as Waits, Flying as Flies}
use Rattle.wf_send_parts.specs.Places.{state_of_place, slot_place, place_as}
use Rattle.wf_send_parts.specs.Sent.{with_frame_changed, with_one_sent, with_all_sent}
use Rattle.wf_send_parts.specs.Window.{WindowValue, WindowStandsFor, IsNumber, HasOwnFrame, holds_parcel, slots_from_start, place_at}
use Rattle.wf_send_parts.specs.Windows.{window_of, with_window}
use Rattle.wf_send_parts.specs.Many.{AllStand, IsSameElsewhere, HasSameFrames}
use Rattle.wf_send_parts.proofs.Calls.{IsWaitingSlot, waiting_slot, IsFlyingSlot, flying_slot, kept_law}
use Rattle.wf_send_parts.proofs.Fronts.{at_is, at_rest}
use Rattle.wf_send_parts.proofs.Changes.{is_this, window_same, window_other}
use Rattle.wf_send_parts.proofs.Held.{same_place, held_stand}
use Rattle.wf_send_parts.proofs.Laws.{start_of_is, next_is, place_is, distance_is}

-- ---- the frames by id

module _ (g : FrameValue → FrameValue) where
  pub frame_other : (bodies : ℕ → FrameValue) (id k : ℕ) → k ≢ id →
      with_frame_changed g id bodies k ≡ bodies k
  frame_other bodies id k other = cond-false (k == id) (g (bodies k)) (bodies k) (ne_eqb k id other)

  pub frame_own : (bodies : ℕ → FrameValue) (id : ℕ) → with_frame_changed g id bodies id ≡ g (bodies id)
  frame_own bodies id = cond-true (id == id) (g (bodies id)) (bodies id) (eq-eqb id id refl)

  -- what the change of a frame keeps
  pub frame_keeps : {X : Type 0} (h : FrameValue → X) → ((f : FrameValue) → h (g f) ≡ h f) →
      (bodies : ℕ → FrameValue) (id k : ℕ) → h (with_frame_changed g id bodies k) ≡ h (bodies k)
  frame_keeps h keeps bodies id k = elim (cases_eq k id) [
    | inl same ↦
        ap (λ (n : ℕ). h (with_frame_changed g id bodies n)) same
        ∙ ap h (frame_own bodies id)
        ∙ keeps (bodies id)
        ∙ ap (λ (n : ℕ). h (bodies n)) (sym same)
    | inr other ↦ ap h (frame_other bodies id k other)
  ]

pub sent_other : (bodies : ℕ → FrameValue) (id k : ℕ) → k ≢ id → with_one_sent id bodies k ≡ bodies k
sent_other = frame_other sent_again

pub sent_own : (bodies : ℕ → FrameValue) (id : ℕ) → with_one_sent id bodies id ≡ sent_again (bodies id)
sent_own = frame_own sent_again

-- only the frame's count of attempts changes
pub sent_keeps : {X : Type 0} (h : FrameValue → X) → ((f : FrameValue) → h (sent_again f) ≡ h f) →
    (bodies : ℕ → FrameValue) (id k : ℕ) → h (with_one_sent id bodies k) ≡ h (bodies k)
sent_keeps = frame_keeps sent_again

pub all_sent_keep : {X : Type 0} (g : FrameValue → X) → ((f : FrameValue) → g (sent_again f) ≡ g f) →
    (pairs : List (ℕ × ℕ)) (bodies : ℕ → FrameValue) (k : ℕ) → g (with_all_sent pairs bodies k) ≡ g (bodies k)
all_sent_keep g keeps [] bodies k = refl
all_sent_keep g keeps (p ∷ pairs) bodies k =
    all_sent_keep g keeps pairs (with_one_sent p.0 bodies) k ∙ sent_keeps g keeps bodies p.0 k

pub all_sent_then : (pairs : List (ℕ × ℕ)) (p : ℕ × ℕ) (bodies : ℕ → FrameValue) →
    with_all_sent (pairs ++ p ∷ []) bodies ≡ with_one_sent p.0 (with_all_sent pairs bodies)
all_sent_then [] p bodies = refl
all_sent_then (q ∷ pairs) p bodies = all_sent_then pairs p (with_one_sent q.0 bodies)

-- ---- the places

-- two lists of places that differ in one place only
set_but_one : (f g : Slot → Option Place) (xs : List Slot) (i : ℕ) (p : Option Place) →
    ((k : ℕ) → k < length xs → k ≢ i → f (get_or xs k no_slot) ≡ g (get_or xs k no_slot)) →
    set (map f xs) i p ≡ set (map g xs) i p
set_but_one f g [] i p same = refl
set_but_one f g (x ∷ xs) zero p same = ap (λ (ps : List (Option Place)). p ∷ ps)
    (map_same f g xs (λ k below. same (suc k) (omega (arith, below)) (λ (e : suc k ≡ 0). omega (arith, e))))
  where
    map_same : (f g : Slot → Option Place) (xs : List Slot) →
        ((k : ℕ) → k < length xs → f (get_or xs k no_slot) ≡ g (get_or xs k no_slot)) → map f xs ≡ map g xs
    map_same f g [] same = refl
    map_same f g (x ∷ xs) same = ap (λ (p : Option Place). p ∷ map f xs) (same 0 (omega arith))
        ∙ ap (λ (ps : List (Option Place)). g x ∷ ps)
        (map_same f g xs (λ k below. same (suc k) (omega (arith, below))))
set_but_one f g (x ∷ xs) (suc i) p same =
    ap (λ (q : Option Place). q ∷ set (map f xs) i p)
    (same 0 (omega arith) (λ (e : 0 ≡ suc i). omega (arith, e)))
    ∙ ap (λ (ps : List (Option Place)). g x ∷ ps) (set_but_one f g xs i p (λ k below other.
    same (suc k) (omega (arith, below)) (λ (e : suc k ≡ suc i). other (omega (arith, e)))))

-- a number's slot that is put back
slot_put_back : (xs : List Slot) (k : ℕ) → k < length xs → change no_slot xs k (λ x. x) ≡ xs
slot_put_back [] k inside = absurd (omega (arith, inside))
slot_put_back (x ∷ xs) zero inside = refl
slot_put_back (x ∷ xs) (suc k) inside = ap (λ (ys : List Slot). x ∷ ys)
    (slot_put_back xs k (omega (arith, inside)))

slot_unchanged : (s : Session) (n : ℕ) {seq : ℕ} → IsNumber s n seq → on_slot n (λ x. x) s ≡ s
slot_unchanged s n number = ap (λ (xs : List Slot). record s { slots = xs })
    (slot_put_back s.slots (n - s.first)
    (omega (arith, number.from_start, number.given, start_of_is s)))

module _ (g : FrameValue → FrameValue) (w : WindowValue) (s : Session) (bodies : ℕ → FrameValue)
    (stands : WindowStandsFor w s bodies) (n seq : ℕ) (number : IsNumber s n seq)
    (own : HasOwnFrame s n) where
  abbrev others : ℕ → FrameValue
  others = with_frame_changed g (slot s n).id bodies

  -- the same window, with the frames after the change
  abbrev counted : WindowValue
  counted = record w { places = map (slot_place others) (slots_from_start s) }

  counted_stands : WindowStandsFor counted s others
  counted_stands = record {
    size = stands.size;
    start = stands.start;
    places = refl;
    due = stands.due;
    unacked = stands.unacked;
    heard = stands.heard;
    room = stands.room;
    small = stands.small;
  }

  slot_at : (k : ℕ) → slot s (start_of s + k) ≡ get_or (slots_from_start s) k no_slot
  slot_at k = at_rest s.slots ((start_of s + k) - s.first) k (omega (arith, start_of_is s))
      ∙ at_is no_slot (slots_from_start s) k

  others_same : (k : ℕ) → k < length (slots_from_start s) → k ≢ n - start_of s →
      slot_place bodies (get_or (slots_from_start s) k no_slot)
      ≡ slot_place others (get_or (slots_from_start s) k no_slot)
  others_same k below other = same_place bodies others (get_or (slots_from_start s) k no_slot)
      (λ held. frame_other g bodies (slot s n).id (get_or (slots_from_start s) k no_slot).id (λ same.
      let e : start_of s + k ≡ n = own.sole (start_of s + k) (omega arith) (omega (arith, next_is s, below))
      (ap (λ (x : Slot). holds_parcel x.state) (slot_at k) ∙ held)
      (ap (λ (x : Slot). x.id) (slot_at k) ∙ same) in
      other (omega (arith, e))))

  -- the number's place changes, with its slot and its frame
  pub place_changed : (f : Slot → Slot) (p : Option Place) → p ≡ slot_place others (f (slot s n)) →
      is_settled (state_of_place p) ≡ false →
      WindowStandsFor (record w { places = set w.places (distance seq w.start) p }) (on_slot n f s) others
  place_changed f p same open_still =
      let places : set counted.places (distance seq w.start) p ≡ set w.places (distance seq w.start) p =
      sym (set_but_one (slot_place bodies) (slot_place others) (slots_from_start s) (distance seq w.start) p
      (λ k below other. others_same k below
      (λ e. other (e ∙ sym (distance_is w s bodies stands n seq number)))))
      ∙ ap (λ (ps : List (Option Place)). set ps (distance seq w.start) p) (sym stands.places) in
      subst (λ (ps : List (Option Place)). WindowStandsFor (record w { places = ps }) (on_slot n f s) others)
      places (kept_law counted s others counted_stands n seq number f p same open_still)

  -- the place of a number that flies, with its changed frame
  flies_changed : (exchange a b : ℕ) (parcel : FrameValue) → parcel ≡ bodies (slot s n).id → a ≡ b →
      Some (Flies (g parcel) a exchange) ≡ Some (Flies (others (slot s n).id) b exchange)
  flies_changed exchange a b parcel same e =
      ap (λ (k : ℕ). Some (Flies (g parcel) k exchange)) e
      ∙ ap (λ (f : FrameValue). Some (Flies f b exchange))
      (ap g same ∙ sym (frame_own g bodies (slot s n).id))

  -- a waiting number flies
  pub sent_law : (exchange attempts : ℕ) (parcel : FrameValue) →
      place_at w seq ≡ Some (Waits parcel attempts) →
      WindowStandsFor (record w {
        places = set w.places (distance seq w.start)
            (Some (Flies (g parcel) attempts exchange));
      }) (with_state (State.Flying exchange) n s) others
  sent_law exchange attempts parcel found =
      let x : IsWaitingSlot bodies (slot s n) parcel attempts = waiting_slot bodies (slot s n) parcel attempts
      (sym found ∙ place_is w s bodies stands n seq number) in
      place_changed (λ y. record y { state = State.Flying exchange })
      (Some (Flies (g parcel) attempts exchange))
      (flies_changed exchange attempts (slot s n).attempts parcel x.parcel_is x.attempts_is) refl

  -- a flying number still flies
  pub unsent_law : (exchange attempts : ℕ) (parcel : FrameValue) →
      place_at w seq ≡ Some (Flies parcel attempts exchange) →
      WindowStandsFor (record w {
        places = set w.places (distance seq w.start)
            (Some (Flies (g parcel) attempts exchange));
      }) s others
  unsent_law exchange attempts parcel found =
      let x : IsFlyingSlot bodies (slot s n) parcel attempts exchange =
      flying_slot bodies (slot s n) parcel attempts exchange
      (sym found ∙ place_is w s bodies stands n seq number) in
      let p : Option Place = Some (Flies (g parcel) attempts exchange) in
      let same : p ≡ slot_place others (slot s n) =
      flies_changed exchange attempts (slot s n).attempts parcel x.parcel_is x.attempts_is
      ∙ ap (λ (st : State). place_as st (others (slot s n).id) (slot s n).attempts) (sym x.state) in
      subst (λ (z : Session). WindowStandsFor (record w { places = set w.places (distance seq w.start) p }) z
      others) (slot_unchanged s n number) (place_changed (λ y. y) p same refl)

-- ---- one window among all

module _ (ws : List WindowValue) (s t : ℕ) (v : WindowValue) (is_live : ℕ → Bool)
    (before after : ℕ → ℕ → Session) (bodies others : ℕ → FrameValue) where
  -- one window changes with its session and its frames; those of the others are unchanged
  pub one_sent : AllStand ws is_live before bodies → is_live s ≡ true → t < 8 →
      tid_number s t < length ws → IsSameElsewhere before after s t →
      ((x y : ℕ) → is_live x ≡ true → y < 8 → (x ≡ s → y ≡ t → ⊥) →
      HasSameFrames (before x y) bodies others) →
      WindowStandsFor v (after s t) others → AllStand (with_window ws s t v) is_live after others
  one_sent all live low inside same frames stands =
      record {
        stands = λ x y live_x low_y. elim (is_this ws s t v x y) [
          | inl this ↦
              let P : ℕ → ℕ → Type 0 = λ a b. WindowStandsFor (window_of (with_window ws s t v) a b)
              (after a b) others in
              let Q : WindowValue → Type 0 = λ u. WindowStandsFor u (after s t) others in
              let here : P s t = subst Q (sym (window_same ws s t v inside)) stands in
              subst (λ (a : ℕ). P a y) (sym this.0) (subst (λ (b : ℕ). P s b) (sym this.1) here)
          | inr other ↦
              let P : WindowValue → Type 0 = λ u. WindowStandsFor u (after x y) others in
              let Q : Session → Type 0 = λ z. WindowStandsFor (window_of ws x y) z others in
              subst P (sym (window_other ws s t v x y low low_y other))
              (subst Q (sym (same.same x y low_y other))
              (held_stand bodies others (window_of ws x y) (before x y) (all.stands x y live_x low_y)
              (frames x y live_x low_y other)))
        ];
        empty = λ x y dead low_y.
            let other : x ≡ s → y ≡ t → ⊥ = λ e _. differ (sym dead ∙ ap is_live e ∙ live) in
            ap (λ (u : WindowValue). u.places) (window_other ws s t v x y low low_y other)
            ∙ all.empty x y dead low_y;
      }
    where
      differ : false ≡ true → ⊥
      differ e = absurd (cc e)
