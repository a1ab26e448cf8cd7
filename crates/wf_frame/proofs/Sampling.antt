-- Proves that one more octet extends the body of a frame of a trace: the octets count on from the flow,
-- modulo 256.
use Rattle.std.proofs.Common.{◌≡◌, ◌∙◌, ap, ℕ, suc, ◌+◌, ◌%◌, ◌<◌, List, [], ◌∷◌, ◌++◌, length, take, set, arith}
use Rattle.std.proofs.lemmas.List.{take_more_set}
use Rattle.wf_frame.specs.Frames.{sample_body}

pub next_octet : (flow i octet : ℕ) → octet ≡ (flow + i) % 256 → (octet + 1) % 256 ≡ (flow + (i + 1)) % 256
next_octet flow i octet is = omega (arith, is)

more_is_next : (i : ℕ) → suc i ≡ i + 1
more_is_next i = omega arith

pub one_more : (flow i octet : ℕ) (octets : List ℕ) → i < length octets → octet ≡ (flow + i) % 256 →
    take i octets ≡ sample_body flow i → take (i + 1) (set octets i octet) ≡ sample_body flow (i + 1)
one_more flow i octet octets inside is so =
    take_more_set octets i octet inside
    ∙ ap (λ (xs : List ℕ). xs ++ octet ∷ []) so
    ∙ ap (λ (y : ℕ). sample_body flow i ++ y ∷ []) is
    ∙ ap (λ (k : ℕ). sample_body flow k) (more_is_next i)
