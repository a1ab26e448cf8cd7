-- Proves that the loop passes over one element per step.
use Rattle.std.proofs.Common.{◌≡◌, ℕ, ◌+◌, ◌-◌, List, take, drop, ap, sym, ◌∙◌, arith}
use Rattle.wf_report.specs.Frames.{tim_of}
use Rattle.wf_report.proofs.TimLaws.{found, passed, ended}
use Rattle.wf_report.proofs.captures.listing.frame.tim_among.Goals as goal

pub returns : goal.returns
returns c = sym (c.loop-place.invariant.0
    ∙ ended c.args.elements.now c.loop-place.place c.loop-place-test.false)

pub returns-then-elements-place-eq-TIM : goal.returns-then-elements-place-eq-TIM
returns-then-elements-place-eq-TIM c =
    let xs : List ℕ = c.args.elements.now in
    let place : ℕ = c.loop-place.place in
    let len : ℕ = c.from.result in
    let same : place + 2 + len - (place + 2) ≡ len = omega arith in
    c.tim_of.ensures ∙ ap (λ n. tim_of (take n (drop (place + 2) xs))) same
    ∙ sym (c.loop-place.invariant.0 ∙ found xs place len c.loop-place-test.true c.from.ensures
    c.if-elements-end.false c.if-elements-place-eq-TIM.true)

pub loop-place-preserved : goal.loop-place-preserved
loop-place-preserved c = (
  c.loop-place.invariant.0 ∙ passed c.args.elements.now c.loop-place.place c.from.result
      c.loop-place-test.true c.from.ensures c.if-elements-end.false c.if-elements-place-eq-TIM.false,
  c.if-elements-end.false,
)
