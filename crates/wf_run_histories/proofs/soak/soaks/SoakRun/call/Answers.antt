-- Proves that the cell makes the call of the definition. By cases: no call is left, or the cell has room for
-- one.
use Rattle.std.proofs.Common.{◌∙◌, ◌-◌, ◌<◌, Some, ap, sym, arith}
use Rattle.wf_frame.specs.declared.notes.Note.{Note}
use Rattle.wf_def_world.specs.World.{World}
use Rattle.wf_def_world.specs.Step.{step}
use Rattle.wf_def_world.specs.Run.{Past}
use Rattle.wf_cell.specs.Cells.{calls_left_in}
use Rattle.wf_path.specs.Jobs.{note_of}
use Rattle.wf_run_histories.specs.Soak.{Soak, call, reply_to}
use Rattle.wf_run_histories.proofs.SoakLemmas.{has_room, goes_on, as_standard, call_none, reply_none, call_one, reply_one}
use Rattle.wf_run_histories.proofs.soak.soaks.SoakRun.call.Goals as goal

pub returns-then-self-eq0-clause-made : goal.returns-then-self-eq0-clause-made
returns-then-self-eq0-clause-made c =
    sym (call_none (note_of c.args.job) _ (ap (λ (k : Soak). k.left) (sym c.self.view_is)
    ∙ c.if-self-eq0.true))

pub returns-then-self-eq0-clause-reply : goal.returns-then-self-eq0-clause-reply
returns-then-self-eq0-clause-reply c =
    sym (reply_none (note_of c.args.job) _ (ap (λ (k : Soak). k.left) (sym c.self.view_is)
    ∙ c.if-self-eq0.true))

pub invariant_of-self : goal.invariant_of-self
invariant_of-self c =
    let p : Past = c.self.inside.cell.past in
    let some : 0 < c.self.inside.left = omega (arith, c.if-self-eq0.false) in
    let room : 0 < calls_left_in p = has_room p c.self.inside.left c.self.invariant.0 c.self.invariant.1
    some in
    goes_on p c.step.new.self.past c.self.inside.left 0
    (note_of c.args.job) c.self.invariant.0 c.self.invariant.1 some (c.step.ensures.past room)

pub returns-clause-made : goal.returns-clause-made
returns-clause-made c =
    let p : Past = c.self.inside.cell.past in
    let some : 0 < c.self.inside.left = omega (arith, c.if-self-eq0.false) in
    let room : 0 < calls_left_in p = has_room p c.self.inside.left c.self.invariant.0 c.self.invariant.1
    some in
    ap (λ (x : Past). record {
      kind = c.self.inside.kind;
      past = x.history;
      words = c.self.inside.words;
      left = c.self.inside.left - 1;
    })
    (c.step.ensures.past room)
    ∙ sym (call_one (note_of c.args.job) _ some) ∙ ap (call (note_of c.args.job)) c.self.view_is

pub returns-clause-reply : goal.returns-clause-reply
returns-clause-reply c =
    let p : Past = c.self.inside.cell.past in
    let note : Note = note_of c.args.job in
    let some : 0 < c.self.inside.left = omega (arith, c.if-self-eq0.false) in
    let room : 0 < calls_left_in p = has_room p c.self.inside.left c.self.invariant.0 c.self.invariant.1
    some in
    ap Some (c.step.ensures.reply room ∙ ap (λ (w : World). (step w note).reply)
    (as_standard p c.self.invariant.0))
    ∙ sym (reply_one note _ some) ∙ ap (reply_to note) c.self.view_is
