-- Proves what `Half::rx` promises. By cases of the checks and of the scheduler's test: the call is refused,
-- the debt would be too large, or the half with the new deficit represents the world after the Rx.
use Rattle.std.proofs.Common.{◌≡◌, ◌∙◌, refl, sym, ap, ap₂, subst, arith, ℕ, ◌+◌, ◌≤◌, ◌^◌, ℤ, pos, ◌+ℤ◌, ◌-ℤ◌}
use Rattle.std.specs.Prelude.{◌<ℤ◌}
use Rattle.std.proofs.lemmas.Int.{ints}
use Rattle.wf_frame.specs.declared.notes.ReplyNote.TheVariants.{Charged, Refused}
use Rattle.wf_frame.specs.declared.notes.Refusal.TheVariants.{Debt}
use Rattle.wf_send_half_model.specs.Standing.{Meets}
use Rattle.std.proofs.lemmas.Result.{err_from_is_err_and}
use Rattle.wf_frame.specs.declared.notes.Note.TheVariants.{Asked}
use Rattle.wf_frame.specs.declared.notes.Ask.TheVariants.{Rx}
use Rattle.wf_send_half.proofs.Rows.{refused_call}
use Rattle.wf_def_lists.specs.Bounds.{deepest_deficit}
use Rattle.wf_send_half_model.specs.Half.{pending_air_of}
use Rattle.wf_sched.specs.ClassRotas.{deficit, with_deficit}
use Rattle.wf_send_half.proofs.CallSteps.{view_of, rx_done, rx_refused}
use Rattle.wf_send_half.proofs.Standings.{few_pending, own_pending, left_fits, left_plain}
use Rattle.wf_send_half.proofs.half.Half.rx.Goals as goal

pub returns-in_err-check_rx-clause-meets : goal.returns-in_err-check_rx-clause-meets
returns-in_err-check_rx-clause-meets c w bodies h =
    let p = err_from_is_err_and c.from_residual.result c.from_residual.ensures.1 in rw (p.1, p.2)
    (refused_call c.args.self.now w bodies _ _ (λ e. cc e, (λ e. cc e, (λ e. cc e, (λ e. cc e, tt)))) h
    (sym (c.in_err-check_rx.ensures.refused w bodies h)))

pub overflow_add-self-inside : goal.overflow_add-self-inside
overflow_add-self-inside c =
    let few : c.pending_air-pending.result ≤ 2 ^ 31 =
    few_pending (view_of c.self.inside) c.args.self.now c.self.view_is c.requires.some
    c.args.station c.args.class c.in_ok-check_rx.ensures.live c.pending_air-pending.result
    c.pending_air-pending.ensures in
    omega (arith, few, c.self.invariant.in_range.debt.1)

pub overflow_add-result : goal.overflow_add-result
overflow_add-result c = left_fits (view_of c.self.inside) c.args.self.now c.self.view_is c.requires.some
    c.args.station c.args.class c.in_ok-check_rx.ensures.live c.pending_air-pending.result
    c.pending_air-pending.ensures c.in-Ok.standing c.args.air (omega (arith, c.ranges.air))
    c.in-Ok.ensures.outcome.0 c.from.result c.from.ensures

pub overflow_add-result-in-Err : goal.overflow_add-result-in-Err
overflow_add-result-in-Err c = left_fits (view_of c.self.inside) c.args.self.now c.self.view_is
    c.requires.some
    c.args.station c.args.class c.in_ok-check_rx.ensures.live c.pending_air-pending.result
    c.pending_air-pending.ensures c.in-Err.debt.deficit 0 (omega arith)
    (c.in-Err.ensures.outcome.0 ∙ omega (arith, ints)) c.from-in-Err.result c.from-in-Err.ensures

pub returns-in-Ok-clause-meets : goal.returns-in-Ok-clause-meets
returns-in-Ok-clause-meets c w bodies h =
    let p_is : c.pending_air-pending.result ≡ pending_air_of
    (view_of c.self.inside) c.args.station c.args.class =
    own_pending (view_of c.self.inside) c.args.self.now c.self.view_is c.requires.some
    c.args.station c.args.class c.in_ok-check_rx.ensures.live c.pending_air-pending.result
    c.pending_air-pending.ensures in
    subst (λ (d : ℤ). Meets w bodies (Asked (Rx c.args.station c.args.class c.args.air)) c.list_in.new.self
    (Charged d)) (sym (left_plain (view_of c.self.inside) c.args.self.now c.self.view_is c.requires.some
    c.args.station c.args.class c.in_ok-check_rx.ensures.live c.pending_air-pending.result
    c.pending_air-pending.ensures c.in-Ok.standing c.args.air (omega (arith, c.ranges.air))
    c.in-Ok.ensures.outcome.0 c.from.result c.from.ensures))
    (rx_done c.args.self.now (view_of c.self.inside) c.self.view_is w bodies h c.args.station c.args.class
    c.args.air (c.in-Ok.standing +ℤ pos c.pending_air-pending.result) c.rx.new.self c.add_received.new.self
    c.list_in.new.self
    (ap₂ (λ (a : ℤ) (n : ℕ). a +ℤ pos n) c.in-Ok.ensures.outcome.0 p_is)
    (c.in-Ok.ensures.outcome.1 ∙ ap (λ (d : ℤ).
    with_deficit c.self.inside.sched c.args.class c.args.station d) c.in-Ok.ensures.outcome.0)
    c.add_received.ensures c.list_in.ensures.listed c.in_ok-check_rx.ensures.live
    (c.in_ok-check_rx.ensures.passed w bodies h)
    (λ below. cc (c.in-Ok.ensures.refused.1
    (subst (λ (n : ℕ). (deficit c.self.inside.sched c.args.class c.args.station -ℤ pos c.args.air)
    <ℤ deepest_deficit (c.self.inside.config.debt + n)) (sym p_is) below))))

pub returns-in-Err-clause-meets : goal.returns-in-Err-clause-meets
returns-in-Err-clause-meets c w bodies h =
    let p_is : c.pending_air-pending.result ≡ pending_air_of
    (view_of c.self.inside) c.args.station c.args.class =
    own_pending (view_of c.self.inside) c.args.self.now c.self.view_is c.requires.some
    c.args.station c.args.class c.in_ok-check_rx.ensures.live c.pending_air-pending.result
    c.pending_air-pending.ensures in
    subst (λ (d : ℤ). Meets w bodies (Asked (Rx c.args.station c.args.class c.args.air))
    (view_of (record c.self.inside { sched = c.rx.new.self })) (Refused (Debt d)))
    (sym (left_plain (view_of c.self.inside) c.args.self.now c.self.view_is c.requires.some
    c.args.station c.args.class c.in_ok-check_rx.ensures.live c.pending_air-pending.result
    c.pending_air-pending.ensures c.in-Err.debt.deficit 0 (omega arith)
    (c.in-Err.ensures.outcome.0 ∙ omega (arith, ints)) c.from-in-Err.result c.from-in-Err.ensures))
    (rx_refused c.args.self.now (view_of c.self.inside) c.self.view_is w bodies h c.args.station c.args.class
    c.args.air (c.in-Err.debt.deficit +ℤ pos c.pending_air-pending.result) c.rx.new.self
    (ap₂ (λ (a : ℤ) (n : ℕ). a +ℤ pos n) c.in-Err.ensures.outcome.0 p_is)
    c.in-Err.ensures.outcome.1 c.in_ok-check_rx.ensures.live
    (c.in_ok-check_rx.ensures.passed w bodies h)
    (subst (λ (n : ℕ). (deficit c.self.inside.sched c.args.class c.args.station -ℤ pos c.args.air)
    <ℤ deepest_deficit (c.self.inside.config.debt + n)) p_is (c.in-Err.ensures.refused.0 refl)))
