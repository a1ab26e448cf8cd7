-- Proves what `Half::check_enqueue` promises: each test is one row of the world's refusals of an Enqueue. By
-- cases of the first test that fails.
use Rattle.std.proofs.Common.{◌∙◌, refl, ap, sym, subst, ℕ, Bool, false, ◌&&◌, None}
use Rattle.std.specs.Prelude.{nat_le}
use Rattle.std.proofs.lemmas.Result.{err_from_is_err_and}
use Rattle.wf_frame.specs.Classes.{class_of}
use Rattle.wf_send_half_model.specs.Half.{TransmitValue}
use Rattle.wf_send_half_model.specs.Standing.{StandsFor}
use Rattle.wf_send_half.specs.Enqueues.{queued_in_class_of}
use Rattle.wf_send_half.proofs.Rows.{row_refuses, row_passes, out_of_range, in_range, not_there, there, live_of}
use Rattle.wf_send_half.proofs.CallSteps.{view_of}
use Rattle.wf_send_half.proofs.Enqueues.{room_row, sleeping_last}
use Rattle.wf_send_half.proofs.half.Half.check_enqueue.Goals as goal

pub returns-in_err-in_range-clause-refused : goal.returns-in_err-in_range-clause-refused
returns-in_err-in_range-clause-refused c w bodies flow len h =
    let p = err_from_is_err_and c.from_residual.result c.from_residual.ensures.1 in rw (p.1, p.2)
    (out_of_range c.args.self.now w bodies h c.args.station _ _ c.in_err-in_range.ensures.refused)

pub returns-in_err-refuse_where-clause-refused : goal.returns-in_err-refuse_where-clause-refused
returns-in_err-refuse_where-clause-refused c w bodies flow len h =
    let p = err_from_is_err_and c.from_residual-in_err-refuse_where.result
    c.from_residual-in_err-refuse_where.ensures.1 in rw (p.1, p.2)
    (row_refuses _ _ _ _ _ refl c.in_err-refuse_where.ensures.refused
    ∙ sym (in_range c.args.self.now w bodies h c.args.station _ c.in_ok-in_range.ensures.refused))

pub returns-in_err-live-clause-refused : goal.returns-in_err-live-clause-refused
returns-in_err-live-clause-refused c w bodies flow len h =
    let p = err_from_is_err_and c.from_residual-in_err-live.result c.from_residual-in_err-live.ensures.1 in
    rw (p.1, p.2)
    (not_there c.args.self.now w bodies h c.args.station _ _ c.in_err-live.ensures.refused
    ∙ sym (row_passes _ _ _ _ refl c.in_ok-refuse_where.ensures.refused)
    ∙ sym (in_range c.args.self.now w bodies h c.args.station _ c.in_ok-in_range.ensures.refused))

pub returns-in_err-refuse_where-2-clause-refused :
    goal.returns-in_err-refuse_where-2-clause-refused
returns-in_err-refuse_where-2-clause-refused c w bodies flow len h =
    let k : StandsFor (view_of c.self.inside) w bodies =
    subst (λ (z : TransmitValue). StandsFor z w bodies) (sym c.self.view_is) h in
    let p = err_from_is_err_and c.from_residual-in_err-refuse_where-2.result
    c.from_residual-in_err-refuse_where-2.ensures.1 in rw (p.1, p.2)
    (row_refuses _ _ _ _ _ refl c.in_err-refuse_where-2.ensures.refused
    ∙ sym (room_row (view_of c.self.inside) w bodies k _)
    ∙ sym (there c.args.self.now w bodies h c.args.station _ c.in_ok-live.ensures.refused)
    ∙ sym (row_passes _ _ _ _ refl c.in_ok-refuse_where.ensures.refused)
    ∙ sym (in_range c.args.self.now w bodies h c.args.station _ c.in_ok-in_range.ensures.refused))

pub returns-then-not-asleep-clause-refused : goal.returns-then-not-asleep-clause-refused
returns-then-not-asleep-clause-refused c w bodies flow len h =
    let v : TransmitValue = view_of c.self.inside in
    let k : StandsFor v w bodies =
    subst (λ (z : TransmitValue). StandsFor z w bodies) (sym c.self.view_is) h in
    let n : ℕ = queued_in_class_of v c.args.station (class_of c.args.tid) in
    sleeping_last v w bodies k None false n c.args.station c.args.tid (class_of c.args.tid) refl
    (ap (λ (b : Bool). b && nat_le v.config.sleeping n) (sym c.if-not-asleep.true ∙ c.asleep.ensures)) refl
    refl
    (live_of c.args.self.now w bodies h c.args.station c.in_ok-live.ensures.live)
    ∙ sym (row_passes _ _ _ _ refl c.in_ok-refuse_where-2.ensures.refused)
    ∙ sym (room_row (view_of c.self.inside) w bodies k _)
    ∙ sym (there c.args.self.now w bodies h c.args.station _ c.in_ok-live.ensures.refused)
    ∙ sym (row_passes _ _ _ _ refl c.in_ok-refuse_where.ensures.refused)
    ∙ sym (in_range c.args.self.now w bodies h c.args.station _ c.in_ok-in_range.ensures.refused)

pub returns-clause-refused : goal.returns-clause-refused
returns-clause-refused c w bodies flow len h =
    let v : TransmitValue = view_of c.self.inside in
    let k : StandsFor v w bodies =
    subst (λ (z : TransmitValue). StandsFor z w bodies) (sym c.self.view_is) h in
    sleeping_last v w bodies k _ _ _ c.args.station c.args.tid _
    c.refuse_where-3.ensures.refused
    (ap (λ (b : Bool). b && nat_le v.config.sleeping c.queued_in-queued.result)
    (sym c.if-not-asleep.false ∙ c.asleep.ensures))
    (c.queued_in-queued.ensures
    ∙ ap (λ (z : TransmitValue). queued_in_class_of z c.args.station c.of_tid.result) (sym c.self.view_is))
    c.of_tid.ensures
    (live_of c.args.self.now w bodies h c.args.station c.in_ok-live.ensures.live)
    ∙ sym (row_passes _ _ _ _ refl c.in_ok-refuse_where-2.ensures.refused)
    ∙ sym (room_row (view_of c.self.inside) w bodies k _)
    ∙ sym (there c.args.self.now w bodies h c.args.station _ c.in_ok-live.ensures.refused)
    ∙ sym (row_passes _ _ _ _ refl c.in_ok-refuse_where.ensures.refused)
    ∙ sym (in_range c.args.self.now w bodies h c.args.station _ c.in_ok-in_range.ensures.refused)
