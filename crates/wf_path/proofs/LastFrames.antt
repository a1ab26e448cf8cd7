-- Proves which transmission of an exchange sends its last frame: the numbers of its frames rise.
use Rattle.std.proofs.Common.{◌≡◌, refl, ap, sym, ◌∙◌, ℕ, zero, suc, ◌+◌, ◌<◌, ◌==◌, false, List, [], ◌∷◌, length, Option, Some, None, arith, inl, inr, eq-eqb}
use Rattle.std.specs.List.{last_or}
use Rattle.std.specs.Option.{option_map_or}
use Rattle.std.specs.Prelude.{slice_get}
use Rattle.std.proofs.lemmas.Bool.{cases_eq, ne_eqb}
use Rattle.std.proofs.lemmas.Option.{slice_get_within}
use Rattle.wf_def_world.specs.World.{Exchange, Mpdu}
use Rattle.wf_def_world.specs.Exchanges.{mpdus_of}
use Rattle.wf_law_runs.specs.Sent.{NumbersRise}
use Rattle.wf_path.specs.Transmissions.{is_last_frame}

-- the frame at the last index is the last one
last_is : (ms : List Mpdu) (i : ℕ) (m : Mpdu) → slice_get ms i ≡ Some m → i + 1 ≡ length ms →
    last_or None ms ≡ Some m
last_is [] i m there end = absurd (cc there)
last_is (x ∷ []) zero m there end = there
last_is (x ∷ []) (suc i) m there end = absurd (cc there)
last_is (x ∷ y ∷ ys) zero m there end = absurd (omega (arith, end))
last_is (x ∷ y ∷ ys) (suc i) m there end = last_is (y ∷ ys) i m there (omega (arith, end))

-- a lower number is not that of the last frame
not_lower : (ms : List Mpdu) (x : Mpdu) (n : ℕ) → n < x.number → NumbersRise (suc x.number) ms →
    option_map_or (λ (l : Mpdu). l.number == n) (last_or (Some x) ms) false ≡ false
not_lower [] x n low rises = ne_eqb x.number n (λ e. absurd (omega (arith, e, low)))
not_lower (y ∷ ys) x n low rises = not_lower ys y n (omega (arith, low, rises.0)) rises.1

-- a frame before the last one does not have its number
not_last : (ms : List Mpdu) (i lo : ℕ) (m : Mpdu) → NumbersRise lo ms → slice_get ms i ≡ Some m →
    i + 1 < length ms → option_map_or (λ (l : Mpdu). l.number == m.number) (last_or None ms) false ≡ false
not_last [] i lo m rises there low = absurd (cc there)
not_last (x ∷ []) i lo m rises there low = absurd (omega (arith, low))
not_last (x ∷ y ∷ ys) zero lo m rises there low =
    let same : x ≡ m = cc there in
    not_lower ys y m.number (omega (arith, ap (λ (k : Mpdu). k.number) same, rises.1.0)) rises.1.1
not_last (x ∷ y ∷ ys) (suc i) lo m rises there low =
    not_last (y ∷ ys) i (suc x.number) m rises.1 there (omega (arith, low))

pub last_at : (x : Exchange) (i lo : ℕ) (m : Mpdu) → NumbersRise lo (mpdus_of x.content) →
    slice_get (mpdus_of x.content) i ≡ Some m →
    (i + 1 == length (mpdus_of x.content)) ≡ is_last_frame x m
last_at x i lo m rises there = elim (cases_eq (i + 1) (length (mpdus_of x.content))) [
  | inl end ↦ eq-eqb (i + 1) (length (mpdus_of x.content)) end
      ∙ sym (ap (λ (o : Option Mpdu). option_map_or (λ (l : Mpdu). l.number == m.number) o false)
      (last_is (mpdus_of x.content) i m there end) ∙ eq-eqb m.number m.number refl)
  | inr other ↦ ne_eqb (i + 1) (length (mpdus_of x.content)) other
      ∙ sym (not_last (mpdus_of x.content) i lo m rises there
      (omega (arith, other, slice_get_within (mpdus_of x.content) i m there)))
]
