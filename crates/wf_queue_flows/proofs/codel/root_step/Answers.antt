-- The square root, rounded down, is the greatest step of the control law.
use Rattle.std.proofs.Common.{◌*◌, ◌/◌, arith}
use Rattle.wf_def_codel.specs.Codel.{step_of}
use Rattle.wf_law_rules.proofs.Lemmas.Roots.{greatest_step, same_root, step-is}
use Rattle.wf_queue_flows.proofs.codel.root_step.Goals as goal

pub returns-clause-greatest : goal.returns-clause-greatest
returns-clause-greatest c = greatest_step c.args.interval c.args.count c.isqrt.result (omega arith)
    (record { below = c.isqrt.ensures.square_le; above = c.isqrt.ensures.next_square_gt })

pub returns-clause-law : goal.returns-clause-law
returns-clause-law c =
    same_root (c.args.interval * c.args.interval / c.args.count) c.isqrt.result
    (step_of c.args.interval c.args.count) (record {
      below = c.isqrt.ensures.square_le;
      above =
          c.isqrt.ensures.next_square_gt;
    }) (step-is c.args.interval c.args.count (omega arith))
