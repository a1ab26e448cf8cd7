-- Proves what `Path::mark_each` promises: each step marks the next transmission.
use Rattle.std.proofs.Common.{refl, ◌∙◌, subst}
use Rattle.wf_path.specs.Heard.{IsMarked}
use Rattle.wf_path.proofs.Marks.{marked_none, marked_next, all_taken}
use Rattle.wf_path.proofs.path.Path.mark_each.Goals as goal

pub loop-i-init : goal.loop-i-init
loop-i-init c = (marked_none c.args.self.now.half c.args.exchange, refl)

pub loop-i-preserved : goal.loop-i-preserved
loop-i-preserved c = (
  marked_next c.args.self.now.half c.loop-i.self.half c.mark.new.self.half c.args.exchange c.loop-i.i
      c.args.outcomes.now _ _ c.loop-i-test.true refl c.loop-i.invariant.0 c.mark.ensures.marked,
  c.mark.ensures.addresses ∙ c.loop-i.invariant.1,
)

pub returns-clause-marked : goal.returns-clause-marked
returns-clause-marked c =
    subst (IsMarked c.args.self.now.half c.loop-i.self.half c.args.exchange 0)
    (all_taken c.loop-i.i c.args.outcomes.now c.loop-i-test.false) c.loop-i.invariant.0

pub returns-clause-addresses : goal.returns-clause-addresses
returns-clause-addresses c = c.loop-i.invariant.1
