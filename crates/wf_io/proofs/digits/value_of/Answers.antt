-- If the next digit overflows 64 bits, the whole value does, which needs more than 19 digits.
use Rattle.std.proofs.Common.{rules, ◌≡◌, ◌∙◌, ℕ, ◌+◌, ◌-◌, ◌*◌, ◌^◌, ◌≤◌, List, ◌∷◌, drop, get_or, ap, arith}
use Rattle.std.proofs.lemmas.List.{drop_more}
use Rattle.wf_io.specs.Digits.{value_from}
use Rattle.wf_io.proofs.Numerals.{at_least, power_at_most}
use Rattle.wf_io.proofs.digits.value_of.Goals as goal

pub returns-then-value-worth-clause-value : goal.returns-then-value-worth-clause-value
returns-then-value-worth-clause-value c =
    let i : ℕ = c.loop-digit.digit-index in
    let digits : List ℕ = c.args.digits.now in
    let value : ℕ = c.loop-digit.value in
    let here : drop i digits ≡ get_or digits i 0 ∷ drop (i + 1) digits =
    drop_more digits i 0 (search rules) in
    let is : value_from 0 digits ≡ value_from (value * 10 + (get_or digits i 0 - 48)) (drop (i + 1) digits) =
    c.loop-digit.invariant.0 ∙ ap (value_from value) here in
    omega (
      arith,
      is,
      at_least (drop (i + 1) digits) (value * 10 + (get_or digits i 0 - 48)),
      c.if-value-worth.true,
      c.from-worth.ensures,
    )

pub returns-then-value-worth-clause-few : goal.returns-then-value-worth-clause-few
returns-then-value-worth-clause-few c = λ few.
    let i : ℕ = c.loop-digit.digit-index in
    let below : 10 ^ i ≤ 10 ^ 18 = power_at_most i 18 (omega (arith, few, c.loop-digit-test.true)) in
    absurd (omega (arith, below, c.loop-digit.invariant.1, c.if-value-worth.true, c.from-worth.ensures))
