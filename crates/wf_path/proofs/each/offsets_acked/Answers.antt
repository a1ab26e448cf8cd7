-- Proves what `offsets_acked` promises: each step takes the next number into account.
use Rattle.std.proofs.Common.{refl, sym, ◌∙◌, arith}
use Rattle.wf_path.proofs.EachShown.{offsets_next, offsets_end, near_at}
use Rattle.wf_path.proofs.each.offsets_acked.Goals as goal

pub with_outcome-offsets-requires : goal.with_outcome-offsets-requires
with_outcome-offsets-requires c = omega (
  arith,
  c.ahead.ensures.number,
  near_at c.args.first c.args.numbers.now c.loop-i.i _ c.requires.near c.at.ensures
      (omega (arith, c.loop-i-test.true, c.len-i-end.ensures.count)),
)

pub loop-i-preserved : goal.loop-i-preserved
loop-i-preserved c =
    offsets_next c.args.first c.loop-i.offsets _ c.args.numbers.now c.args.outcomes.now c.loop-i.i _ _ _
    c.ahead.result c.at.ensures
    (omega (arith, c.loop-i-test.true, c.len-i-end.ensures.count, c.requires.long)) refl
    c.ahead.ensures.number
    c.with_outcome-offsets.ensures ∙ c.loop-i.invariant

pub returns : goal.returns
returns c = sym (offsets_end c.args.first c.loop-i.offsets c.args.numbers.now _ c.loop-i.i
    (omega (arith, c.loop-i-test.false, c.len-i-end.ensures.count))) ∙ c.loop-i.invariant
