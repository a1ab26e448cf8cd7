-- Proves the loop that begins new sessions for the TIDs of a station.
use Rattle.std.proofs.Common.{◌≡◌, ◌≢◌, ℕ, ◌+◌, ◌<◌, ◌≤◌, inl, inr, List, length, refl, ap, ◌∙◌, arith}
use Rattle.std.proofs.lemmas.Bool.{cases_eq}
use Rattle.wf_def_lists.specs.Bounds.{greatest_window}
use Rattle.wf_send_parts.specs.Window.{WindowValue, fresh_window}
use Rattle.wf_frame.specs.Classes.{tid_number}
use Rattle.wf_send_parts.specs.Windows.{window_of, with_window}
use Rattle.wf_send_parts.proofs.Changes.{window_same, window_other, windows_count}

-- the windows of the first k TIDs of station s are fresh, and all others are unchanged
pub record IsResetting (before now : List WindowValue) (s size start k : ℕ) : Type 0 where
  pub count : length now ≡ length before
  pub fresh : (t : ℕ) → t < k → window_of now s t ≡ fresh_window greatest_window size start
  pub later : (t : ℕ) → k ≤ t → t < 8 → window_of now s t ≡ window_of before s t
  pub others : (x t : ℕ) → x ≢ s → t < 8 → window_of now x t ≡ window_of before x t

pub none_yet : (before : List WindowValue) (s size start : ℕ) → IsResetting before before s size start 0
none_yet before s size start = record {
  count = refl;
  fresh = λ t h. absurd (omega (arith, h));
  later =
      λ t _ _. refl;
  others = λ x t _ _. refl;
}

pub one_more : (before now : List WindowValue) (s size start k : ℕ) → k < 8 → tid_number s k < length now →
    IsResetting before now s size start k → IsResetting before
    (with_window now s k (fresh_window greatest_window size start)) s size start (k + 1)
one_more before now s size start k low inside so_far =
    let v : WindowValue = fresh_window greatest_window size start in
    record {
      count = windows_count now s k v ∙ so_far.count;
      fresh = λ t h. elim (cases_eq t k) [
        | inl same ↦ ap (λ (j : ℕ). window_of (with_window now s k v) s j) same ∙ window_same now s k v inside
        | inr other ↦ window_other now s k v s t low (omega (arith, h)) (λ _ e. other e)
            ∙ so_far.fresh t (omega (arith, h, other))
      ];
      later = λ t h below. window_other now s k v s t low below
          (λ _ (e : t ≡ k). absurd (omega (arith, e, h))) ∙ so_far.later t (omega (arith, h)) below;
      others = λ x t other below. window_other now s k v x t low below (λ e _. other e)
          ∙ so_far.others x t other below;
    }
