-- Proves that the loop reads `count` octets, or that the input ends before.
use Rattle.std.proofs.Common.{◌∙◌, ◌++◌, take, arith, length-append}
use Rattle.std.proofs.lemmas.List.{length-take, length-take-le}
use Rattle.wf_report.proofs.TakenOctets.{taken_more}
use Rattle.wf_report.proofs.captures.listing.octets.pass.Goals as goal

pub loop-wanted-preserved : goal.loop-wanted-preserved
loop-wanted-preserved g c =
    let octets = c.loop-wanted.invariant.0.0 in
    let more = take c.in_ok-got.got c.read.new.buffer in (
      (
        octets ++ more,
        taken_more octets more _ _ _ c.loop-wanted.invariant.0.1 c.in_ok-got.ensures.octets,
        omega (
          arith,
          length-append octets more,
          length-take-le c.in_ok-got.got c.read.new.buffer
              c.in_ok-got.ensures.count,
          c.in_ok-got.ensures.count,
          c.read.auto.buffer,
          c.min-most.ensures,
          length-take c.min-most.result c.loop-wanted.scratch,
          c.loop-wanted.invariant.0.2,
        ),
      ),
      c.in_ok-got.ensures.cause.quiet ∙ c.loop-wanted.invariant.1,
    )
