-- Proves that a window depends only on the frames of ids that its session holds.
use Rattle.std.proofs.Common.{◌≡◌, ℕ, suc, ◌+◌, ◌-◌, ◌<◌, Bool, true, Option, Some, List, [], ◌∷◌, length, get_or, map, refl, ap, sym, ◌∙◌, arith}
use Rattle.wf_frame.specs.Frames.{FrameValue}
use Rattle.wf_def_agreement.specs.Session.{Session, Slot, State, no_slot, slot, start_of}
use Rattle.wf_send_parts.specs.declared.window.place.Place.{Place}
use Rattle.wf_send_parts.specs.declared.window.place.Place.TheVariants.{Waiting as Waits, Flying as Flies}
use Rattle.wf_send_parts.specs.Places.{slot_place, place_as, slot_state, front}
use Rattle.wf_send_parts.specs.Window.{WindowValue, WindowStandsFor, slots_from_start, holds_parcel}
use Rattle.wf_send_parts.proofs.Fronts.{at_is, at_rest}
use Rattle.wf_send_parts.proofs.Laws.{start_of_is, next_is}
use Rattle.wf_send_parts.proofs.Callers.{other_bodies}
use Rattle.wf_send_parts.specs.Windows.{window_of}
use Rattle.wf_send_parts.specs.Many.{AllStand, HasSameFrames}

module _ (bodies others : ℕ → FrameValue) where
  pub same_place : (x : Slot) → (holds_parcel x.state ≡ true → others x.id ≡ bodies x.id) →
      slot_place bodies x ≡ slot_place others x
  same_place x h = elim x.state as (λ st. (holds_parcel st ≡ true → others x.id ≡ bodies x.id) →
      place_as st (bodies x.id) x.attempts ≡ place_as st (others x.id) x.attempts) [
        | State.Waiting ↦ λ h. ap (λ (f : FrameValue). Some (Waits f x.attempts)) (sym (h refl))
        | State.Flying exchange ↦ λ h. ap (λ (f : FrameValue). Some (Flies f x.attempts exchange)) (sym
            (h refl))
        | State.Acked ↦ λ _. refl
        | State.Failed ↦ λ _. refl
      ] h

  same_places : (xs : List Slot) → ((k : ℕ) → k < length xs →
      holds_parcel (get_or xs k no_slot).state ≡ true →
      others (get_or xs k no_slot).id ≡ bodies (get_or xs k no_slot).id) →
      map (slot_place bodies) xs ≡ map (slot_place others) xs
  same_places [] h = refl
  same_places (x ∷ xs) h =
      ap (λ (p : Option Place). p ∷ map (slot_place bodies) xs) (same_place x (h 0 (omega arith)))
      ∙ ap (λ (ps : List (Option Place)). slot_place others x ∷ ps)
      (same_places xs (λ k below. h (suc k) (omega (arith, below))))

  pub held_stand : (w : WindowValue) (s : Session) → WindowStandsFor w s bodies →
      HasSameFrames s bodies others → WindowStandsFor w s others
  held_stand w s stands frames =
      other_bodies w s bodies stands others
      (same_places (slots_from_start s) (λ k below held.
      let i : ℕ = (start_of s + k) - s.first in
      let in_front : length (front slot_state s.slots) + k ≡ i = omega (arith, start_of_is s) in
      let same : slot s (start_of s + k) ≡ get_or (slots_from_start s) k no_slot =
      at_rest s.slots i k in_front ∙ at_is no_slot (slots_from_start s) k in
      ap (λ (x : Slot). others x.id) (sym same)
      ∙ frames.same (start_of s + k) (omega arith) (omega (arith, next_is s, below))
      (ap (λ (x : Slot). holds_parcel x.state) same ∙ held)
      ∙ ap (λ (x : Slot). bodies x.id) same))

  pub all_held_stand : (windows : List WindowValue) (is_live : ℕ → Bool) (sessions : ℕ → ℕ → Session) →
      AllStand windows is_live sessions bodies →
      ((s t : ℕ) → is_live s ≡ true → t < 8 → HasSameFrames (sessions s t) bodies others) →
      AllStand windows is_live sessions others
  all_held_stand windows is_live sessions all frames =
      record {
        stands = λ s t live low. held_stand (window_of windows s t) (sessions s t)
            (all.stands s t live low) (frames s t live low);
        empty = all.empty;
      }
