-- The deficits after a pick, key by key.
use Rattle.std.proofs.Common.{◌≡◌, ℕ, zero, suc, ◌+◌, ◌*◌, ◌<◌, List, [], ◌∷◌, length, get_or, refl, sym, ap, ◌∙◌, arith}
use Rattle.std.specs.Prelude.{ℤ, pos, ◌+ℤ◌}
use Rattle.std.proofs.lemmas.List.{same_lists, get_or_default}
use Rattle.wf_queue_flows.specs.Flows.{with_quanta_paid}

length-paid : (quanta : ℕ → ℕ) (quantum k : ℕ) (ds : List ℤ) →
    length (with_quanta_paid quanta quantum k ds) ≡ length ds
length-paid quanta quantum k [] = refl
length-paid quanta quantum k (d ∷ ds) = ap suc (length-paid quanta quantum (suc k) ds)

get_or-paid : (quanta : ℕ → ℕ) (quantum k : ℕ) (ds : List ℤ) (q : ℕ) (e : ℤ) → q < length ds →
    get_or (with_quanta_paid quanta quantum k ds) q e ≡ get_or ds q e +ℤ pos (quanta (k + q) * quantum)
get_or-paid quanta quantum k [] q e low = absurd (omega arith)
get_or-paid quanta quantum k (d ∷ ds) zero e low =
    let same : k + 0 ≡ k = omega arith in
    rw same refl
get_or-paid quanta quantum k (d ∷ ds) (suc q) e low =
    let same : k + suc q ≡ suc k + q = omega arith in
    rw same (get_or-paid quanta quantum (suc k) ds q e (omega arith))

-- deficits that rose by some quanta each
pub paid_is : (quanta : ℕ → ℕ) (quantum : ℕ) (ds after : List ℤ) → length after ≡ length ds →
    ((q : ℕ) → q < length ds → get_or after q (pos 0) ≡ get_or ds q (pos 0) +ℤ pos (quanta q * quantum)) →
    after ≡ with_quanta_paid quanta quantum 0 ds
paid_is quanta quantum ds after long each = same_lists after (with_quanta_paid quanta quantum 0 ds)
    (long ∙ sym (length-paid quanta quantum 0 ds)) (λ q d low.
    let within : q < length ds = omega arith in
    let same : 0 + q ≡ q = omega arith in
    get_or_default after q d (pos 0) low ∙ each q within
    ∙ sym (ap (λ (m : ℕ). get_or ds q (pos 0) +ℤ pos (quanta m * quantum)) same)
    ∙ sym (get_or-paid quanta quantum 0 ds q (pos 0) within)
    ∙ get_or_default (with_quanta_paid quanta quantum 0 ds) q (pos 0) d
    (omega (arith, length-paid quanta quantum 0 ds)))
