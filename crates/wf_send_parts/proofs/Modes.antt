-- Proves the loop that sets the modes of the TIDs of a station.
use Rattle.std.proofs.Common.{◌≡◌, ◌≢◌, ℕ, ◌+◌, ◌<◌, inl, inr, List, length, refl, ap, ◌∙◌, arith, length-set}
use Rattle.std.proofs.lemmas.List.{get_or-set_same, get_or-set_other}
use Rattle.std.proofs.lemmas.Bool.{cases_eq}
use Rattle.wf_frame.specs.Classes.{tid_number}
use Rattle.wf_send_parts.specs.declared.stations.modes.Mode.{Mode}
use Rattle.wf_send_parts.specs.declared.stations.modes.Mode.TheVariants.{Plain}
use Rattle.wf_send_parts.specs.Modes.{mode_of, with_mode_of}

-- the first k TIDs of station s have this mode, and all other TIDs are unchanged
pub record AreSet (before now : List Mode) (s : ℕ) (mode : Mode) (k : ℕ) : Type 0 where
  pub count : length now ≡ length before
  pub set : (t : ℕ) → t < k → mode_of now s t ≡ mode
  pub others : (x t : ℕ) → x ≢ s → t < 8 → mode_of now x t ≡ mode_of before x t

pub none_set : (before : List Mode) (s : ℕ) (mode : Mode) → AreSet before before s mode 0
none_set before s mode = record {
  count = refl;
  set = λ t h. absurd (omega (arith, h));
  others = λ x t _ _. refl;
}

-- one mode among all

module _ (modes : List Mode) (s t : ℕ) (mode : Mode) where
  pub mode_same : tid_number s t < length modes → mode_of (with_mode_of modes s t mode) s t ≡ mode
  mode_same inside = get_or-set_same modes (tid_number s t) mode Plain inside

  pub mode_other : (x y : ℕ) → t < 8 → y < 8 → (x ≡ s → y ≡ t → ⊥) →
      mode_of (with_mode_of modes s t mode) x y ≡ mode_of modes x y
  mode_other x y low_t low_y other = get_or-set_other modes (tid_number s t) (tid_number x y) mode Plain
      (λ (e : tid_number x y ≡ tid_number s t). other (omega arith) (omega arith))

-- the next TID gets the mode
pub one_more_set : (before now : List Mode) (s : ℕ) (mode : Mode) (k : ℕ) → k < 8 →
    tid_number s k < length now → AreSet before now s mode k →
    AreSet before (with_mode_of now s k mode) s mode (k + 1)
one_more_set before now s mode k low inside so_far =
    record {
      count = length-set now (tid_number s k) mode ∙ so_far.count;
      set = λ t h. elim (cases_eq t k) [
        | inl same ↦ ap (λ (j : ℕ). mode_of (with_mode_of now s k mode) s j) same
            ∙ mode_same now s k mode inside
        | inr other ↦ mode_other now s k mode s t low (omega (arith, h)) (λ _ e. other e)
            ∙ so_far.set t (omega (arith, h, other))
      ];
      others = λ x t other below. mode_other now s k mode x t low below (λ e _. other e)
          ∙ so_far.others x t other below;
    }
