-- A load that returns the first ticket gives the seat its turn; any other changes only the number read.
use Rattle.std.proofs.Common.{rules, ap, ◌∙◌, refl, Some}
use Rattle.wf_gate.specs.Turns.{having_read}
use Rattle.wf_gate.proofs.Steps.{looks, turn_of}
use Rattle.wf_gate.proofs.turn.wait.Goals as goal

pub loop-init : goal.loop-init
loop-init g c = (
  refl,
  refl,
  (
    c.args.pass.now.me.0.read,
    ap (λ l. (c.args.pass.now.me.0, l)) c.requires.waits.1,
  ),
)

pub load-serving-requires : goal.load-serving-requires
load-serving-requires g c = let i = c.loop.invariant in (
  i.0 ∙ c.requires.own.0,
  search rules,
  looks _ _ _ _ _ _ _ c.args.tickets.first c.args.tickets.count
      (ap (λ m. m.0.opening) i.2.1 ∙ c.requires.own.1) (ap (λ m. m.0.stage) i.2.1 ∙ c.requires.waits.0),
)

pub loop-preserved : goal.loop-preserved
loop-preserved g c = let i = c.loop.invariant in let l = c.load-serving.ensures in (
  l.0 ∙ i.0,
  l.1 ∙ i.1,
  (
    Some c.load-serving.result,
    (l.2 c.args.tickets.first c.args.tickets.count (ap (λ m. m.0.stage) i.2.1 ∙ c.requires.waits.0)).1
        c.if-serving-tickets.false
        ∙ ap (λ m. (having_read m.0 c.load-serving.result, m.1)) i.2.1,
  ),
)

pub returns-then-serving-tickets : goal.returns-then-serving-tickets
returns-then-serving-tickets g c = let i = c.loop.invariant in let l = c.load-serving.ensures in (
  l.0 ∙ i.0,
  l.1 ∙ i.1,
  turn_of _ _ _ _ _ _ c.args.pass.now.me.0 i.2.0
      (Some c.load-serving.result) c.args.tickets.first c.args.tickets.count i.2.1 c.requires.own.1
      ((l.2 c.args.tickets.first c.args.tickets.count (ap (λ m. m.0.stage) i.2.1 ∙ c.requires.waits.0)).0
      c.if-serving-tickets.true),
)
