-- Proves what `Half::fill` promises: the two loops add the numbers that the world's aggregate has.
use Rattle.std.proofs.Common.{refl}
use Rattle.wf_def_world.specs.Exchanges.{aggregate_of}
use Rattle.wf_send_half.proofs.half.Half.fill.Goals as goal

pub add_fresh-requires-clause-filling : goal.add_fresh-requires-clause-filling
add_fresh-requires-clause-filling c =
    let h = c.requires.choosing in
    record {
      bodies = h.bodies;
      after = aggregate_of h.world c.args.station c.args.tid;
      goes_on = c.if-add_waiting.ensures.all refl h.world h.bodies h.to_fill h.choosing;
    }

pub returns-then-add_waiting-clause-filled : goal.returns-then-add_waiting-clause-filled
returns-then-add_waiting-clause-filled c w bodies to choosing = c.add_fresh.ensures.filled bodies
    (aggregate_of w c.args.station c.args.tid) (c.if-add_waiting.ensures.all refl w bodies to choosing)

pub returns-else-add_waiting-clause-filled : goal.returns-else-add_waiting-clause-filled
returns-else-add_waiting-clause-filled c w bodies to choosing =
    c.if-add_waiting.ensures.some refl w bodies to choosing
