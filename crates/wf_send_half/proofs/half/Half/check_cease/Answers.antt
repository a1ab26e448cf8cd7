-- Proves what `Half::check_cease` promises: each test is one row of the world's refusals of a Cease. By cases
-- of the first test that fails.
use Rattle.std.proofs.Common.{◌∙◌, sym, ap, refl, not, ◌≡◌, ◌==◌, ◌&&◌, ℕ, nat_lt, Some, None, if◌then◌else◌}
use Rattle.std.proofs.lemmas.Result.{err_from_is_err_and}
use Rattle.std.specs.Prelude.{count_by}
use Rattle.wf_frame.specs.declared.notes.Refusal.TheVariants.{Open}
use Rattle.wf_def_world.specs.World.{is_agreed, has_agreement}
use Rattle.wf_send_parts.specs.declared.stations.modes.Mode.{Mode}
use Rattle.wf_send_parts.specs.Modes.{as_mode, mode_of}
use Rattle.wf_send_half_model.specs.Half.{TransmitValue}
use Rattle.wf_send_half.specs.Half.{rows_of_tid}
use Rattle.wf_send_half.proofs.Rows.{rows_refuse, rows_pass, row_refuses, row_passes, last_row, live_of, agreed_row, open_row}
use Rattle.wf_send_half.proofs.half.Half.check_cease.Goals as goal

pub returns-in_err-live_tid-clause-refused : goal.returns-in_err-live_tid-clause-refused
returns-in_err-live_tid-clause-refused c w bodies h =
    let p = err_from_is_err_and c.from_residual.result c.from_residual.ensures.1 in rw (p.1, p.2)
    (rows_refuse (rows_of_tid w c.args.station c.args.tid) _ _ (c.in_err-live_tid.ensures.refused w bodies h))

pub returns-in_err-refuse_where-clause-refused : goal.returns-in_err-refuse_where-clause-refused
returns-in_err-refuse_where-clause-refused c w bodies h =
    let p = err_from_is_err_and c.from_residual-in_err-refuse_where.result
    c.from_residual-in_err-refuse_where.ensures.1 in
    let agreed : is_agreed w c.args.station c.args.tid ≡ c.is_agreed.result =
    agreed_row c.args.self.now w bodies h c.args.station c.args.tid
    (live_of c.args.self.now w bodies h c.args.station c.in_ok-live_tid.ensures.live)
    c.in_ok-live_tid.ensures.tid
    ∙ sym (c.is_agreed.ensures ∙ ap (λ (m : Mode). has_agreement (as_mode m)) c.at.ensures
    ∙ ap (λ (v : TransmitValue). has_agreement (as_mode (mode_of v.modes c.args.station c.args.tid)))
    c.self.view_is) in rw (p.1, p.2)
    (row_refuses _ _ _ _ _ (ap not agreed) c.in_err-refuse_where.ensures.refused
    ∙ sym (rows_pass (rows_of_tid w c.args.station c.args.tid) _
    (c.in_ok-live_tid.ensures.refused w bodies h)))

pub returns-clause-refused : goal.returns-clause-refused
returns-clause-refused c w bodies h =
    let agreed : is_agreed w c.args.station c.args.tid ≡ c.is_agreed.result =
    agreed_row c.args.self.now w bodies h c.args.station c.args.tid
    (live_of c.args.self.now w bodies h c.args.station c.in_ok-live_tid.ensures.live)
    c.in_ok-live_tid.ensures.tid
    ∙ sym (c.is_agreed.ensures ∙ ap (λ (m : Mode). has_agreement (as_mode m)) c.at.ensures
    ∙ ap (λ (v : TransmitValue). has_agreement (as_mode (mode_of v.modes c.args.station c.args.tid)))
    c.self.view_is) in
    c.refuse_where-2.ensures.refused
    ∙ ap (λ (n : ℕ). if nat_lt 0 n then Some (Open n) else None)
    (c.of_tid-count.ensures ∙ ap (λ (v : TransmitValue).
    count_by (λ x. (x.station == c.args.station) && (x.tid == c.args.tid)) v.opened) c.self.view_is
    ∙ sym (open_row c.args.self.now w bodies h c.args.station c.args.tid))
    ∙ last_row _ _ _ refl
    ∙ sym (row_passes _ _ _ _ (ap not agreed) c.in_ok-refuse_where.ensures.refused)
    ∙ sym (rows_pass (rows_of_tid w c.args.station c.args.tid) _
    (c.in_ok-live_tid.ensures.refused w bodies h))
