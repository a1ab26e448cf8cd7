-- One more look either drops a frame or ends the dequeue, as in the definition.
use Rattle.std.proofs.Common.{◌∙◌, sym, arith}
use Rattle.wf_queue_flows.specs.CodelParams.{params_of}
use Rattle.wf_queue_flows.specs.CodelState.{codel_state_of}
use Rattle.wf_queue_flows.proofs.Lanes.{finished, bad-step, early-step, more-step}
use Rattle.wf_queue_flows.proofs.codel.Codel.keep_dropping.Goals as goal

pub returns-then-not-ok-clause-taken : goal.returns-then-not-ok-clause-taken
returns-then-not-ok-clause-taken g c =
    (finished _ _ _ _ c.args.self.now _ _ _ _ _ _ _ c.requires.dropping c.looks.invariant.outcome
    (bad-step g.L.Lane.look g.L.Lane.tossed (params_of c.args.params) c.args.now
    (codel_state_of c.looks.self-inside) c.looks.due (g.L.Lane.thrown c.looks.lane) c.looks.item
    (g.L.Lane.rest c.looks.lane) c.looks.sight.stamp c.looks.sight.left c.look-above.result.0
    c.look-above.result.1
    c.looks.invariant.stamp c.looks.invariant.left c.look-above.ensures.above c.look-above.ensures.ok
    c.if-not-ok.true)).taken

pub returns-then-not-ok-clause-state : goal.returns-then-not-ok-clause-state
returns-then-not-ok-clause-state g c =
    (finished _ _ _ _ c.args.self.now _ _ _ _ _ _ _ c.requires.dropping c.looks.invariant.outcome
    (bad-step g.L.Lane.look g.L.Lane.tossed (params_of c.args.params) c.args.now
    (codel_state_of c.looks.self-inside) c.looks.due (g.L.Lane.thrown c.looks.lane) c.looks.item
    (g.L.Lane.rest c.looks.lane) c.looks.sight.stamp c.looks.sight.left c.look-above.result.0
    c.look-above.result.1
    c.looks.invariant.stamp c.looks.invariant.left c.look-above.ensures.above c.look-above.ensures.ok
    c.if-not-ok.true)).state_is

pub returns-then-now-due-clause-taken : goal.returns-then-now-due-clause-taken
returns-then-now-due-clause-taken g c =
    (finished _ _ _ _ c.args.self.now _ _ _ _ _ _ _ c.requires.dropping c.looks.invariant.outcome
    (early-step g.L.Lane.look g.L.Lane.tossed (params_of c.args.params) c.args.now
    (codel_state_of c.looks.self-inside) c.looks.due (g.L.Lane.thrown c.looks.lane) c.looks.item
    (g.L.Lane.rest c.looks.lane) c.looks.sight.stamp c.looks.sight.left c.look-above.result.0
    c.look-above.result.1
    c.looks.invariant.stamp c.looks.invariant.left c.look-above.ensures.above c.look-above.ensures.ok
    c.if-not-ok.false
    c.if-now-due.true)).taken

pub returns-then-now-due-clause-state : goal.returns-then-now-due-clause-state
returns-then-now-due-clause-state g c =
    (finished _ _ _ _ c.args.self.now _ _ _ _ _ _ _ c.requires.dropping c.looks.invariant.outcome
    (early-step g.L.Lane.look g.L.Lane.tossed (params_of c.args.params) c.args.now
    (codel_state_of c.looks.self-inside) c.looks.due (g.L.Lane.thrown c.looks.lane) c.looks.item
    (g.L.Lane.rest c.looks.lane) c.looks.sight.stamp c.looks.sight.left c.look-above.result.0
    c.look-above.result.1
    c.looks.invariant.stamp c.looks.invariant.left c.look-above.ensures.above c.look-above.ensures.ok
    c.if-not-ok.false
    c.if-now-due.true)).state_is

pub looks-preserved : goal.looks-preserved
looks-preserved g c = record {
  outcome = sym (more-step g.L.Lane.look g.L.Lane.tossed (params_of c.args.params) c.args.now
      (codel_state_of c.looks.self-inside) c.looks.due (g.L.Lane.thrown c.looks.lane) c.looks.item
      (g.L.Lane.rest c.looks.lane) c.looks.sight.stamp c.looks.sight.left c.look-above.result.0
      c.look-above.result.1
      c.looks.invariant.stamp c.looks.invariant.left c.look-above.ensures.above c.look-above.ensures.ok
      c.saturating_add-self-inside.result c.saturating_add-self-inside-in-looks.result
      c.root_step-due.result _ _
      c.if-not-ok.false c.if-now-due.false
      c.saturating_add-self-inside.ensures c.saturating_add-self-inside-in-looks.ensures
      c.root_step-due.ensures.law
      (c.in-Some.ensures.thrown ∙ c.discard.ensures.thrown)
      (sym c.in-Some.ensures.first ∙ c.discard.ensures.rest)) ∙ c.looks.invariant.outcome;
  stamp = c.in-Some.ensures.stamp;
  left = c.in-Some.ensures.left;
  dropping = c.looks.invariant.dropping;
  counted = omega arith;
  spare = omega (arith, c.in-Some.ensures.spare, c.discard.ensures.spare, c.looks.invariant.spare);
  same = g.met.L.Lane.same_trans _ _ _ c.looks.invariant.same
      (g.met.L.Lane.same_trans _ _ _ c.discard.ensures.same c.in-Some.ensures.same);
}
