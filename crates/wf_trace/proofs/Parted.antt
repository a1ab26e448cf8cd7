-- Proves that the lines that end after a line has begun are those into which the octets are split, by
-- induction over the octets.
use Rattle.std.proofs.Common.{◌≡◌, ℕ, ◌+◌, List, [], ◌∷◌, ◌++◌, Bool, true, false, cond, nat_eq, refl, sym, ◌∙◌, ap, append_assoc, append-nil}
use Rattle.wf_trace.specs.Lines.{Line, lines, onto}
use Rattle.wf_trace.specs.Scanning.{lines_behind, rest_line}

-- the line that has begun is part of the first line
abbrev begun_with : Bool → ℕ → List ℕ → List Line → List Line
begun_with closed at begun [] = rest_line closed at begun
begun_with closed at begun (line ∷ others) = record { octets = begun ++ line.octets; end = line.end } ∷ others

some_rest : (at : ℕ) (begun : List ℕ) (octet : ℕ) →
    rest_line true at (begun ++ octet ∷ []) ≡ record { octets = begun ++ octet ∷ []; end = at } ∷ []
some_rest at [] octet = refl
some_rest at (x ∷ begun) octet = refl

moved : (closed : Bool) (at : ℕ) (begun : List ℕ) (octet : ℕ) (others : List Line) →
    begun_with closed (at + 1) (begun ++ octet ∷ []) others
    ≡ begun_with closed at begun (onto closed octet (at + 1) others)
moved false at begun octet [] = refl
moved true at begun octet [] = some_rest (at + 1) begun octet
moved closed at begun octet (line ∷ others) =
    ap (λ (l : List ℕ). let first : Line = record { octets = l; end = line.end } in first ∷ others)
    (append_assoc begun (octet ∷ []) line.octets)

nothing_begun : (closed : Bool) (at : ℕ) (others : List Line) → begun_with closed at [] others ≡ others
nothing_begun false at [] = refl
nothing_begun true at [] = refl
nothing_begun closed at (line ∷ others) = refl

with_begun : (closed : Bool) (at : ℕ) (begun octets : List ℕ) →
    lines_behind closed at begun octets ≡ begun_with closed at begun (lines closed at octets)
with_begun closed at begun [] = refl
with_begun closed at begun (octet ∷ octets) =
    let after = with_begun closed (at + 1) [] octets
    ∙ nothing_begun closed (at + 1) (lines closed (at + 1) octets) in
    let more = with_begun closed (at + 1) (begun ++ octet ∷ []) octets
    ∙ moved closed at begun octet (lines closed (at + 1) octets) in
    elim (nat_eq octet 10) as (λ b. cond b (record { octets = begun; end = at + 1 }
    ∷ lines_behind closed (at + 1) [] octets) (lines_behind closed (at + 1) (begun ++ octet ∷ []) octets)
    ≡ begun_with closed at begun (cond b (record { octets = []; end = at + 1 } ∷ lines closed (at + 1) octets)
    (onto closed octet (at + 1) (lines closed (at + 1) octets)))) [
      | true ↦ (let same : begun ≡ begun ++ [] = sym (append-nil begun) in
          rw after (ap (λ (l : List ℕ). let first : Line = record { octets = l; end = at + 1 } in
          first ∷ lines closed (at + 1) octets) same))
      | false ↦ more
    ]

pub lines_parted : (closed : Bool) (octets : List ℕ) → lines_behind closed 0 [] octets ≡ lines closed 0 octets
lines_parted closed octets = with_begun closed 0 [] octets ∙ nothing_begun closed 0 (lines closed 0 octets)
