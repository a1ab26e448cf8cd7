-- Proves what `Half::check_hold` promises: each test is one row of the world's refusals of a Hold. By cases
-- of the first test that fails.
use Rattle.std.proofs.Common.{◌∙◌, sym, ap, ◌≡◌}
use Rattle.std.proofs.lemmas.Result.{err_from_is_err_and}
use Rattle.wf_def_air.specs.Airtime.{is_single}
use Rattle.wf_def_world.specs.World.{station, is_agreed, is_held_back, is_offloaded, has_agreement, holds_back}
use Rattle.wf_send_parts.specs.Members.{member, is_offloaded_in}
use Rattle.wf_send_parts.specs.declared.stations.modes.Mode.{Mode}
use Rattle.wf_send_parts.specs.Modes.{as_mode, mode_of}
use Rattle.wf_send_half_model.specs.Half.{TransmitValue}
use Rattle.wf_send_half.specs.Half.{rows_of_tid}
use Rattle.wf_send_half.proofs.Rows.{rows_refuse, rows_pass, row_refuses, row_passes, last_row, live_of, single_row, offloaded_row, agreed_row, held_row}
use Rattle.wf_send_half.proofs.half.Half.check_hold.Goals as goal

pub returns-in_err-live_tid-clause-refused : goal.returns-in_err-live_tid-clause-refused
returns-in_err-live_tid-clause-refused c w bodies h =
    let p = err_from_is_err_and c.from_residual.result c.from_residual.ensures.1 in rw (p.1, p.2)
    (rows_refuse (rows_of_tid w c.args.station c.args.tid) _ _ (c.in_err-live_tid.ensures.refused w bodies h))

pub returns-in_err-refuse_where-clause-refused : goal.returns-in_err-refuse_where-clause-refused
returns-in_err-refuse_where-clause-refused c w bodies h =
    let p = err_from_is_err_and c.from_residual-in_err-refuse_where.result
    c.from_residual-in_err-refuse_where.ensures.1 in
    let offloaded : is_offloaded w c.args.station ≡ c.is_offloaded.result =
    offloaded_row c.args.self.now w bodies h c.args.station
    ∙ sym (c.is_offloaded.ensures
    ∙ ap (λ (v : TransmitValue). is_offloaded_in v.members c.args.station) c.self.view_is) in rw (p.1, p.2)
    (row_refuses _ _ _ _ _ offloaded c.in_err-refuse_where.ensures.refused
    ∙ sym (rows_pass (rows_of_tid w c.args.station c.args.tid) _
    (c.in_ok-live_tid.ensures.refused w bodies h)))

pub returns-in_err-refuse_where-2-clause-refused : goal.returns-in_err-refuse_where-2-clause-refused
returns-in_err-refuse_where-2-clause-refused c w bodies h =
    let p = err_from_is_err_and c.from_residual-in_err-refuse_where-2.result
    c.from_residual-in_err-refuse_where-2.ensures.1 in
    let offloaded : is_offloaded w c.args.station ≡ c.is_offloaded.result =
    offloaded_row c.args.self.now w bodies h c.args.station
    ∙ sym (c.is_offloaded.ensures
    ∙ ap (λ (v : TransmitValue). is_offloaded_in v.members c.args.station) c.self.view_is) in
    let agreed : is_agreed w c.args.station c.args.tid ≡ c.is_agreed.result =
    agreed_row c.args.self.now w bodies h c.args.station c.args.tid
    (live_of c.args.self.now w bodies h c.args.station c.in_ok-live_tid.ensures.live)
    c.in_ok-live_tid.ensures.tid
    ∙ sym (c.is_agreed.ensures ∙ ap (λ (m : Mode). has_agreement (as_mode m)) c.at-mode.ensures
    ∙ ap (λ (v : TransmitValue). has_agreement (as_mode (mode_of v.modes c.args.station c.args.tid)))
    c.self.view_is) in rw (p.1, p.2)
    (row_refuses _ _ _ _ _ agreed c.in_err-refuse_where-2.ensures.refused
    ∙ sym (row_passes _ _ _ _ offloaded c.in_ok-refuse_where.ensures.refused)
    ∙ sym (rows_pass (rows_of_tid w c.args.station c.args.tid) _
    (c.in_ok-live_tid.ensures.refused w bodies h)))

pub returns-in_err-refuse_where-3-clause-refused : goal.returns-in_err-refuse_where-3-clause-refused
returns-in_err-refuse_where-3-clause-refused c w bodies h =
    let p = err_from_is_err_and c.from_residual-in_err-refuse_where-3.result
    c.from_residual-in_err-refuse_where-3.ensures.1 in
    let offloaded : is_offloaded w c.args.station ≡ c.is_offloaded.result =
    offloaded_row c.args.self.now w bodies h c.args.station
    ∙ sym (c.is_offloaded.ensures
    ∙ ap (λ (v : TransmitValue). is_offloaded_in v.members c.args.station) c.self.view_is) in
    let agreed : is_agreed w c.args.station c.args.tid ≡ c.is_agreed.result =
    agreed_row c.args.self.now w bodies h c.args.station c.args.tid
    (live_of c.args.self.now w bodies h c.args.station c.in_ok-live_tid.ensures.live)
    c.in_ok-live_tid.ensures.tid
    ∙ sym (c.is_agreed.ensures ∙ ap (λ (m : Mode). has_agreement (as_mode m)) c.at-mode.ensures
    ∙ ap (λ (v : TransmitValue). has_agreement (as_mode (mode_of v.modes c.args.station c.args.tid)))
    c.self.view_is) in
    let held : is_held_back w c.args.station c.args.tid ≡ c.is_on_hold.result =
    held_row c.args.self.now w bodies h c.args.station c.args.tid
    (live_of c.args.self.now w bodies h c.args.station c.in_ok-live_tid.ensures.live)
    c.in_ok-live_tid.ensures.tid
    ∙ sym (c.is_on_hold.ensures ∙ ap (λ (m : Mode). holds_back (as_mode m)) c.at-mode.ensures
    ∙ ap (λ (v : TransmitValue). holds_back (as_mode (mode_of v.modes c.args.station c.args.tid)))
    c.self.view_is) in rw (p.1, p.2)
    (row_refuses _ _ _ _ _ held c.in_err-refuse_where-3.ensures.refused
    ∙ sym (row_passes _ _ _ _ agreed c.in_ok-refuse_where-2.ensures.refused)
    ∙ sym (row_passes _ _ _ _ offloaded c.in_ok-refuse_where.ensures.refused)
    ∙ sym (rows_pass (rows_of_tid w c.args.station c.args.tid) _
    (c.in_ok-live_tid.ensures.refused w bodies h)))

pub returns-clause-refused : goal.returns-clause-refused
returns-clause-refused c w bodies h =
    let offloaded : is_offloaded w c.args.station ≡ c.is_offloaded.result =
    offloaded_row c.args.self.now w bodies h c.args.station
    ∙ sym (c.is_offloaded.ensures
    ∙ ap (λ (v : TransmitValue). is_offloaded_in v.members c.args.station) c.self.view_is) in
    let agreed : is_agreed w c.args.station c.args.tid ≡ c.is_agreed.result =
    agreed_row c.args.self.now w bodies h c.args.station c.args.tid
    (live_of c.args.self.now w bodies h c.args.station c.in_ok-live_tid.ensures.live)
    c.in_ok-live_tid.ensures.tid
    ∙ sym (c.is_agreed.ensures ∙ ap (λ (m : Mode). has_agreement (as_mode m)) c.at-mode.ensures
    ∙ ap (λ (v : TransmitValue). has_agreement (as_mode (mode_of v.modes c.args.station c.args.tid)))
    c.self.view_is) in
    let held : is_held_back w c.args.station c.args.tid ≡ c.is_on_hold.result =
    held_row c.args.self.now w bodies h c.args.station c.args.tid
    (live_of c.args.self.now w bodies h c.args.station c.in_ok-live_tid.ensures.live)
    c.in_ok-live_tid.ensures.tid
    ∙ sym (c.is_on_hold.ensures ∙ ap (λ (m : Mode). holds_back (as_mode m)) c.at-mode.ensures
    ∙ ap (λ (v : TransmitValue). holds_back (as_mode (mode_of v.modes c.args.station c.args.tid)))
    c.self.view_is) in
    let single : is_single (station w c.args.station).rate ≡ c.is_single.result =
    single_row c.args.self.now w bodies h c.args.station
    (live_of c.args.self.now w bodies h c.args.station c.in_ok-live_tid.ensures.live)
    c.member.result.now
    (sym (ap (λ (v : TransmitValue). member v.members c.args.station) c.self.view_is) ∙ c.member.ensures)
    ∙ sym c.is_single.ensures in
    c.refuse_where-4.ensures.refused
    ∙ last_row _ _ _ single
    ∙ sym (row_passes _ _ _ _ held c.in_ok-refuse_where-3.ensures.refused)
    ∙ sym (row_passes _ _ _ _ agreed c.in_ok-refuse_where-2.ensures.refused)
    ∙ sym (row_passes _ _ _ _ offloaded c.in_ok-refuse_where.ensures.refused)
    ∙ sym (rows_pass (rows_of_tid w c.args.station c.args.tid) _
    (c.in_ok-live_tid.ensures.refused w bodies h))
