-- Proves the windows after all sessions of a station are reset.
use Rattle.std.proofs.Common.{◌≡◌, ◌≢◌, ap, sym, ◌∙◌, ℕ, ◌+◌, ◌*◌, ◌/◌, ◌%◌, ◌<◌, List, length, inl, inr, arith}
use Rattle.std.specs.Prelude.{slice_index_or}
use Rattle.std.proofs.lemmas.Bool.{cases_eq}
use Rattle.wf_frame.specs.Frames.{FrameValue}
use Rattle.wf_def_lists.specs.Bounds.{greatest_window}
use Rattle.wf_def_agreement.specs.Session.{new_session}
use Rattle.wf_send_parts.specs.Window.{WindowValue, WindowStandsFor, fresh_window}
use Rattle.wf_send_parts.specs.Windows.{WindowsHaveRoom, no_window, window_of}
use Rattle.wf_send_half_model.specs.Changes.{AreReset}

module _ (before after : List WindowValue) (s size start : ℕ)
    (count : length after ≡ length before)
    (fresh : (t : ℕ) → t < 8 → window_of after s t ≡ fresh_window greatest_window size start)
    (others : (x t : ℕ) → x ≢ s → t < 8 → window_of after x t ≡ window_of before x t) where
  room_after : WindowsHaveRoom before → WindowsHaveRoom after
  room_after h = record {
    each = λ i low.
        let place : 8 * (i / 8) + i % 8 ≡ i = omega arith in
        let within : i % 8 < 8 = omega arith in
        let here : slice_index_or after i no_window ≡ window_of after (i / 8) (i % 8) =
        ap (λ (k : ℕ). slice_index_or after k no_window) (sym place) in
        elim (cases_eq (i / 8) s) [
          | inl same ↦ ap (λ (x : WindowValue). x.capacity)
              (here ∙ ap (λ (k : ℕ). window_of after k (i % 8)) same ∙ fresh (i % 8) within)
          | inr other ↦ ap (λ (x : WindowValue). x.capacity)
              (here ∙ others (i / 8) (i % 8) other within
              ∙ ap (λ (k : ℕ). slice_index_or before k no_window) place)
              ∙ h.each i (omega (arith, low, count))
        ];
  }

  pub reset : WindowsHaveRoom before → (first : ℕ) →
      ((t : ℕ) (bodies : ℕ → FrameValue) → t < 8 →
      WindowStandsFor (window_of after s t) (new_session first size) bodies) →
      AreReset before after s first size
  reset h first own = record { sized = count; room = room_after h; own = own; others = others }
