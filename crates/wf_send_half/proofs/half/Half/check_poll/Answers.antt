-- Proves what `Half::check_poll` promises: a Poll is refused as a Wake is, then for a credit that
-- blocks it, then if the station can send in no class of its polls.
use Rattle.std.proofs.Common.{◌≡◌, ◌∙◌, sym, ap, not, ℕ, true}
use Rattle.std.proofs.lemmas.Result.{err_from_is_err_and}
use Rattle.wf_frame.specs.declared.classes.Class.{Class}
use Rattle.wf_frame.specs.declared.notes.Note.TheVariants.{Asked}
use Rattle.wf_frame.specs.declared.notes.Ask.TheVariants.{Wake}
use Rattle.wf_frame.specs.Classes.{has_class}
use Rattle.wf_frame.specs.Frames.{FrameValue}
use Rattle.wf_def_world.specs.Refusals.{refusals}
use Rattle.wf_def_world.specs.Service.{is_polled}
use Rattle.wf_def_world.specs.World.{World, is_live, station}
use Rattle.wf_send_parts.specs.declared.stations.sleepers.Sleeper.{Sleeper}
use Rattle.wf_send_parts.specs.Sleepers.{sleeper, is_polled_in}
use Rattle.wf_send_half_model.specs.Half.{TransmitValue}
use Rattle.wf_send_half_model.specs.Standing.{StandsFor}
use Rattle.wf_send_half.proofs.Rows.{last_row, row_refuses, row_passes, rows_refuse, rows_pass, credit_same, rests_same, live_of}
use Rattle.wf_send_half.proofs.Polls.{class_sends, no_class_sends, first_class}
use Rattle.wf_send_half.proofs.half.Half.check_poll.Goals as goal

-- the classes of a poll are those of the world
polled_set : (v : TransmitValue) (w : World) (bodies : ℕ → FrameValue) → StandsFor v w bodies → (s : ℕ) →
    is_live w s ≡ true → (y : Sleeper) (classes : ℕ) → ((k : Class) → has_class classes k
    ≡ is_polled_in y k) → y ≡ sleeper v.sleepers s → (k : Class) →
    has_class classes k ≡ is_polled (station w s) k
polled_set v w bodies h s live y classes set is k = set k
    ∙ ap (λ (z : Sleeper). is_polled_in z k) (is ∙ rests_same v w bodies h s live)

pub returns-in_err-check_wake-clause-refused : goal.returns-in_err-check_wake-clause-refused
returns-in_err-check_wake-clause-refused c w bodies h =
    let p = err_from_is_err_and c.from_residual.result c.from_residual.ensures.1 in rw (p.1, p.2)
    (rows_refuse (refusals w (Asked (Wake c.args.station))) _ _
    (c.in_err-check_wake.ensures.refused w bodies h))

pub returns-in_err-refuse_where-clause-refused : goal.returns-in_err-refuse_where-clause-refused
returns-in_err-refuse_where-clause-refused c w bodies h =
    let p = err_from_is_err_and c.from_residual-in_err-refuse_where.result
    c.from_residual-in_err-refuse_where.ensures.1 in rw (p.1, p.2)
    (row_refuses _ _ _ _ _ (credit_same c.args.self.now w bodies h c.args.station
    (live_of c.args.self.now w bodies h c.args.station c.in_ok-check_wake.ensures.live)
    ∙ sym c.has_live_credit.ensures.value) c.in_err-refuse_where.ensures.refused
    ∙ sym (rows_pass (refusals w (Asked (Wake c.args.station))) _
    (c.in_ok-check_wake.ensures.refused w bodies h)))

pub returns-in-Some-clause-refused : goal.returns-in-Some-clause-refused
returns-in-Some-clause-refused c w bodies h =
    let live : is_live w c.args.station ≡ true =
    live_of c.args.self.now w bodies h c.args.station c.in_ok-check_wake.ensures.live in
    last_row _ _ _ (ap not (class_sends c.args.self.now w bodies h c.args.station live c.polled.result
    (is_polled (station w c.args.station))
    (polled_set c.args.self.now w bodies h c.args.station live c.at.result c.polled.result c.polled.ensures
    (c.at.ensures ∙ ap (λ (v : TransmitValue). sleeper v.sleepers c.args.station) c.self.view_is))
    c.in-Some.class (sym c.in-Some.ensures)))
    ∙ sym (row_passes _ _ _ _ (credit_same c.args.self.now w bodies h c.args.station live
    ∙ sym c.has_live_credit.ensures.value) c.in_ok-refuse_where.ensures.refused)
    ∙ sym (rows_pass (refusals w (Asked (Wake c.args.station))) _
    (c.in_ok-check_wake.ensures.refused w bodies h))

pub returns-in-Some-clause-class : goal.returns-in-Some-clause-class
returns-in-Some-clause-class c w bodies h =
    let live : is_live w c.args.station ≡ true =
    live_of c.args.self.now w bodies h c.args.station c.in_ok-check_wake.ensures.live in
    first_class c.args.self.now w bodies h c.args.station live c.polled.result
    (is_polled (station w c.args.station))
    (polled_set c.args.self.now w bodies h c.args.station live c.at.result c.polled.result c.polled.ensures
    (c.at.ensures ∙ ap (λ (v : TransmitValue). sleeper v.sleepers c.args.station) c.self.view_is))
    c.in-Some.class (sym c.in-Some.ensures)

pub returns-in-None-clause-refused : goal.returns-in-None-clause-refused
returns-in-None-clause-refused c w bodies h =
    let live : is_live w c.args.station ≡ true =
    live_of c.args.self.now w bodies h c.args.station c.in_ok-check_wake.ensures.live in
    last_row _ _ _ (ap not (no_class_sends c.args.self.now w bodies h c.args.station live c.polled.result
    (is_polled (station w c.args.station))
    (polled_set c.args.self.now w bodies h c.args.station live c.at.result c.polled.result c.polled.ensures
    (c.at.ensures ∙ ap (λ (v : TransmitValue). sleeper v.sleepers c.args.station) c.self.view_is))
    (sym c.in-None.ensures)))
    ∙ sym (row_passes _ _ _ _ (credit_same c.args.self.now w bodies h c.args.station live
    ∙ sym c.has_live_credit.ensures.value) c.in_ok-refuse_where.ensures.refused)
    ∙ sym (rows_pass (refusals w (Asked (Wake c.args.station))) _
    (c.in_ok-check_wake.ensures.refused w bodies h))
