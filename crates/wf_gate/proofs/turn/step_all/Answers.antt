-- Each step makes the first of the calls that are left.
use Rattle.std.proofs.Common.{◌∙◌, sym, subst}
use Rattle.wf_gate.proofs.Stepping.{HasStepped, further, has_room}
use Rattle.wf_gate.proofs.turn.step_all.Goals as goal

pub loop-call-preserved : goal.loop-call-preserved
loop-call-preserved g c =
    let i = c.loop-call.invariant in let t = c.step.ensures in let p = c.push_reserved.ensures in
    let left = c.in-Some.ensures.items in
    let room = has_room g.M.Machine.past g.M.Machine.settings g.M.Machine.calls_left g.M.Machine.note
    g.M.Machine.right c.args.number c.args.machine.now c.args.calls.now.items c.loop-call.machine _ _ _ _
    c.requires.room i.0 left in (
      subst (λ l. HasStepped g.M.Machine.past g.M.Machine.settings g.M.Machine.calls_left g.M.Machine.note
          g.M.Machine.right c.args.number c.args.machine.now c.step.new.self c.args.calls.now.items
          c.pop_front.new.self.items l) (sym p.items)
          (further g.M.Machine.past g.M.Machine.settings g.M.Machine.calls_left g.M.Machine.note
          g.M.Machine.right c.args.number c.args.machine.now c.args.calls.now.items c.loop-call.machine
          c.step.new.self _ _ _ _ _ i.0 left (t.past room) (t.calls_left room) t.settings (t.reply room)),
      p.capacity ∙ i.1,
    )
