-- Proves that a call keeps the sums right and below 2^64. By cases of whether a sum belongs to the caller.
use Rattle.std.proofs.Common.{◌≡◌, ◌≢◌, ℕ, ◌+◌, ◌*◌, ◌-◌, ◌%◌, ◌^◌, ◌<◌, List, [], ◌∷◌, ◌++◌, length, get_or, set, sym, ap, arith, eq-eqb, ne_eqb, replicate}
use Rattle.std.specs.Prelude.{cond}
use Rattle.std.proofs.lemmas.List.{get_or-replicate, get_or-set_other}
use Rattle.std.proofs.lemmas.List.Sums.{sum_by_push}
use Rattle.std.proofs.lemmas.Grind.{get_or-set_at}
use mathlib.Core.Logic.{dite}
use native.Mathlib.Decide.{ℕ_discrete}
use Rattle.wf_show_gate.specs.Sums.{octets_if, octets_at, AreSumsOfCalls, AreSmall}

abbrev zeros : List ℕ
zeros = replicate 256 0

pub none_yet : (place : ℕ) → place < 256 → get_or zeros place 0 ≡ 0
none_yet place l = get_or-replicate 256 place 0 0 l

-- one more call, by the caller with this number
module _ (sums : List ℕ) (entries : List (ℕ × ℕ)) (left caller octets : ℕ) (are : AreSumsOfCalls sums entries)
    (small : AreSmall sums left) (some_left : 0 < left) (fits : octets < 2 ^ 32)
    (inside : caller % 256 < length sums) where
  abbrev place : ℕ
  place = caller % 256

  abbrev more : List ℕ
  more = set sums place (get_or sums place 0 + octets)

  at_place : (k : ℕ) → k ≡ place → get_or more k 0 ≡ get_or sums place 0 + octets
  at_place k same = get_or-set_at sums place k (get_or sums place 0 + octets) 0 same inside

  at_other : (k : ℕ) → k ≢ place → get_or more k 0 ≡ get_or sums k 0
  at_other k other = get_or-set_other sums place k (get_or sums place 0 + octets) 0 other

  pub are_more : AreSumsOfCalls more (entries ++ (caller, octets) ∷ [])
  are_more k l =
      let push : octets_at k (entries ++ (caller, octets) ∷ [])
      ≡ octets_at k entries + octets_if k (caller, octets) =
      sum_by_push (octets_if k) entries (caller, octets) in
      let before : get_or sums k 0 ≡ octets_at k entries = are k l in
      dite (ℕ_discrete k place)
      (λ same.
      let mine : octets_if k (caller, octets) ≡ octets =
      ap (λ b. cond b octets 0) (eq-eqb place k (sym same)) in
      let there : get_or sums k 0 ≡ get_or sums place 0 = ap (λ (z : ℕ). get_or sums z 0) same in
      omega (arith, at_place k same))
      (λ other.
      let none : octets_if k (caller, octets) ≡ 0 =
      ap (λ b. cond b octets 0) (ne_eqb place k (λ e. other (sym e))) in
      omega (arith, at_other k other))

  pub small_more : AreSmall more (left - 1)
  small_more k l =
      let before : get_or sums k 0 + 4294967295 * left < 2 ^ 64 = small k l in
      dite (ℕ_discrete k place)
      (λ same.
      let there : get_or sums k 0 ≡ get_or sums place 0 = ap (λ (z : ℕ). get_or sums z 0) same in
      omega (arith, at_place k same))
      (λ other. omega (arith, at_other k other))
