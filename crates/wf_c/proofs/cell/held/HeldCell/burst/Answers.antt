-- Proves the loop of a burst of a cell: after each call its states have one more; and why the burst ends
-- before a call.
use Rattle.std.proofs.Common.{◌≡◌, ◌∙◌, refl, sym, subst, get_or, ◌<◌, w32, to_z, of_z}
use Rattle.std.specs.Prelude.{Some, pos}
use Rattle.wf_cell.specs.Cells.{calls_left_in}
use Rattle.wf_c.specs.Bursts.{IsSteppedAt, StopsCellAt, job_in_burst}
use Rattle.wf_c.specs.CallNumbers.{blank_call, call_noted}
use Rattle.wf_c.specs.CellCalls.{IsStepped, bad_call}
use Rattle.wf_c.specs.declared.burst.NoCall.TheVariants.{BadCall}
use Rattle.wf_c.specs.declared.cell.held.HeldCell.{HeldCell}
use Rattle.wf_c.proofs.Bursting.{none_made, call_at, code_read, of_shown, one_more_call, rest_stays, stops_at, stops_cell}
use Rattle.wf_c.proofs.cell.held.HeldCell.burst.Goals as goal

pub loop-i-init : goal.loop-i-init
loop-i-init c = (
  none_made (IsSteppedAt c.args.caller) c.args.self.now c.args.calls.now c.args.replies.now,
  ((λ i low. refl), refl),
)

pub returns-in_default-clause-ends : goal.returns-in_default-clause-ends
returns-in_default-clause-ends c =
    stops_at (λ why d. StopsCellAt why d c.loop-i.self) c.args.calls.now c.loop-i.i (pos bad_call)
    (get_or c.args.calls.now c.loop-i.i blank_call) BadCall
    (call_at c.args.calls.now c.loop-i.i c.loop-i-test.true) (sym c.call_noted.ensures ∙ c.in_default.is) refl

pub returns-in-Err-clause-ends : goal.returns-in-Err-clause-ends
returns-in-Err-clause-ends c =
    let call = get_or c.args.calls.now c.loop-i.i blank_call in
    stops_at (λ why d. StopsCellAt why d c.make.new.self) c.args.calls.now c.loop-i.i
    (to_z w32 (of_z w32 c.code.result)) call c.in-Err.why
    (call_at c.args.calls.now c.loop-i.i c.loop-i-test.true)
    (subst (λ (k : HeldCell). StopsCellAt c.in-Err.why call k) (sym c.in-Err.ensures.unchanged)
    (stops_cell c.in-Err.why call c.in-Some.note c.loop-i.self (sym c.call_noted.ensures ∙ c.in-Some.is)
    c.in-Err.ensures.stopped)) (code_read c.in-Err.why c.code.result c.code.ensures)

pub loop-i-preserved : goal.loop-i-preserved
loop-i-preserved c =
    let call = get_or c.args.calls.now c.loop-i.i blank_call in
    let noted_is : call_noted call ≡ Some c.in-Some.note = sym c.call_noted.ensures ∙ c.in-Some.is in (
      one_more_call (IsSteppedAt c.args.caller) c.args.self.now c.loop-i.self c.make.new.self c.args.calls.now
          c.loop-i.replies c.put_reply.new.replies c.loop-i.i call c.in-Ok.shown c.loop-i.invariant.0
          (call_at c.args.calls.now c.loop-i.i c.loop-i-test.true) c.put_reply.ensures.put
          c.put_reply.ensures.before
          (of_shown (λ note. (0 < calls_left_in c.loop-i.self.cell.past) ×
          IsStepped c.loop-i.self c.args.caller (job_in_burst note) c.make.new.self c.in-Ok.shown)
          (call_noted call) c.in-Some.note noted_is
          (c.in-Ok.ensures.room, c.in-Ok.ensures.made)),
      (
        rest_stays c.args.replies.now c.loop-i.replies c.put_reply.new.replies c.loop-i.i
            c.loop-i.invariant.1.0 c.put_reply.ensures.after,
        c.put_reply.ensures.size ∙ c.loop-i.invariant.1.1,
      ),
    )
