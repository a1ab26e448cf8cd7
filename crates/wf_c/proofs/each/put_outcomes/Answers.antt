-- Proves that the loop puts each outcome at its place, one at a time.
use Rattle.std.proofs.Common.{refl, take, get_or, ◌∷◌, [], ◌∙◌, arith}
use Rattle.std.proofs.lemmas.List.{take_more, take_more_set, length-set, map-append}
use Rattle.wf_c.specs.Each.{outcome_shown}
use Rattle.wf_c.proofs.each.put_outcomes.Goals as goal

pub loop-i-preserved : goal.loop-i-preserved
loop-i-preserved c = (
  rw (
    take_more_set c.loop-i.outcomes c.loop-i.i c.outcome_of_number.result
        (omega (arith, c.loop-i-test.true, c.requires, c.loop-i.invariant.1)),
    c.outcome_of_number.ensures,
    c.loop-i.invariant.0,
    take_more c.args.numbers.now c.loop-i.i 0 c.loop-i-test.true,
    map-append outcome_shown (take c.loop-i.i c.args.numbers.now)
        (get_or c.args.numbers.now c.loop-i.i 0 ∷ []),
  )
      refl,
  length-set c.loop-i.outcomes c.loop-i.i c.outcome_of_number.result ∙ c.loop-i.invariant.1,
)
