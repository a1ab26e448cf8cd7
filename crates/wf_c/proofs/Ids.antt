-- Proves the step of the loop that shows ids: one more entry shows its id.
use Rattle.std.proofs.Common.{◌≡◌, ◌∙◌, ◌<◌, ◌+◌, ℕ, List, sym, subst, slice_get, slice_index, Some, below_more}
use Rattle.std.specs.Prelude.{Option, IfSome}

-- xs shows the ids below i, and ys shows those and the id at i
module _ (xs ys ids : List ℕ) (i id : ℕ) (before : (k j : ℕ) → k < i → slice_get ids k ≡ Some j →
    slice_index xs k ≡ j)
    (is_at : slice_get ids i ≡ Some id) (put : slice_index ys i ≡ id)
    (others : (k : ℕ) → k < i → slice_index ys k ≡ slice_index xs k) where
  abbrev Shown : ℕ → Type 0
  Shown k = (j : ℕ) → slice_get ids k ≡ Some j → slice_index ys k ≡ j

  shown_below : (k : ℕ) → k < i → Shown k
  shown_below k low j is = others k low ∙ before k j low is

  shown_at : Shown i
  shown_at j is = subst (λ (o : Option ℕ). IfSome o (λ q. slice_index ys i ≡ q)) (sym is_at ∙ is) put

  shown_through : (k : ℕ) → k < i + 1 → Shown k
  shown_through = below_more Shown i shown_below shown_at

  pub one_more_id : (k j : ℕ) → k < i + 1 → slice_get ids k ≡ Some j → slice_index ys k ≡ j
  one_more_id k j low is = shown_through k low j is
