-- Proves the step of the loop that shows frames: one more entry shows its frame.
use Rattle.std.proofs.Common.{◌≡◌, ◌∙◌, ◌<◌, ◌+◌, ℕ, List, sym, subst, slice_get, Some, below_more}
use Rattle.std.specs.Prelude.{Option, IfSome}
use Rattle.wf_c.specs.Pulled.{ShowsPair}
use Rattle.wf_c.specs.declared.pulled.Frames.{Frames}

-- f shows the frames below i, and g shows those and the frame at i
module _ (f g : Frames) (pairs : List (ℕ × ℕ)) (i : ℕ) (pair : ℕ × ℕ)
    (before : (k : ℕ) (p : ℕ × ℕ) → k < i → slice_get pairs k ≡ Some p → ShowsPair f k p)
    (is_at : slice_get pairs i ≡ Some pair) (put : ShowsPair g i pair)
    (others : (k : ℕ) (p : ℕ × ℕ) → k < i → ShowsPair f k p → ShowsPair g k p) where
  abbrev Shown : ℕ → Type 0
  Shown k = (p : ℕ × ℕ) → slice_get pairs k ≡ Some p → ShowsPair g k p

  shown_below : (k : ℕ) → k < i → Shown k
  shown_below k low p is = others k p low (before k p low is)

  shown_at : Shown i
  shown_at p is = subst (λ (o : Option (ℕ × ℕ)). IfSome o (λ q. ShowsPair g i q)) (sym is_at ∙ is) put

  shown_through : (k : ℕ) → k < i + 1 → Shown k
  shown_through = below_more Shown i shown_below shown_at

  pub one_more : (k : ℕ) (p : ℕ × ℕ) → k < i + 1 → slice_get pairs k ≡ Some p → ShowsPair g k p
  one_more k p low is = shown_through k low p is
