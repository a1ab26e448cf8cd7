-- Proves what `Half::check_trigger` promises: a Trigger is refused as a Wake is, then if a service period is
-- open, then if the station can send in no delivery-enabled class.
use Rattle.std.proofs.Common.{◌≡◌, ◌∙◌, sym, ap, not, ℕ, true, Option, is_some}
use Rattle.std.proofs.lemmas.Result.{err_from_is_err_and}
use Rattle.wf_frame.specs.declared.classes.Class.{Class}
use Rattle.wf_frame.specs.declared.notes.Note.TheVariants.{Asked}
use Rattle.wf_frame.specs.declared.notes.Ask.TheVariants.{Wake}
use Rattle.wf_frame.specs.Classes.{has_class}
use Rattle.wf_frame.specs.Frames.{FrameValue}
use Rattle.wf_def_world.specs.Refusals.{refusals}
use Rattle.wf_def_world.specs.Service.{is_delivered}
use Rattle.wf_def_world.specs.World.{World, is_live, station}
use Rattle.wf_send_parts.specs.declared.stations.sleepers.Sleeper.{Sleeper}
use Rattle.wf_send_parts.specs.Sleepers.{sleeper}
use Rattle.wf_send_half_model.specs.Half.{TransmitValue}
use Rattle.wf_send_half_model.specs.Standing.{StandsFor}
use Rattle.wf_send_half.proofs.Rows.{last_row, row_refuses, row_passes, rows_refuse, rows_pass, service_same, rests_same, live_of}
use Rattle.wf_send_half.proofs.Polls.{class_sends, no_class_sends, first_class}
use Rattle.wf_send_half.proofs.half.Half.check_trigger.Goals as goal

-- the delivery-enabled classes are those of the world
delivered_set : (v : TransmitValue) (w : World) (bodies : ℕ → FrameValue) → StandsFor v w bodies → (s : ℕ) →
    is_live w s ≡ true → (y : Sleeper) → y ≡ sleeper v.sleepers s → (k : Class) →
    has_class y.delivery k ≡ is_delivered (station w s) k
delivered_set v w bodies h s live y is k =
    ap (λ (z : Sleeper). has_class z.delivery k) (is ∙ rests_same v w bodies h s live)

-- a service period is open in the world exactly if it is in the half
open_same : (v : TransmitValue) (w : World) (bodies : ℕ → FrameValue) → StandsFor v w bodies → (s : ℕ) →
    is_live w s ≡ true → (y : Sleeper) → y ≡ sleeper v.sleepers s →
    is_some (station w s).service ≡ is_some y.service
open_same v w bodies h s live y is = ap (λ (o : Option ℕ). is_some o)
    (service_same v w bodies h s live ∙ ap (λ (z : Sleeper). z.service) (sym is))

pub returns-in_err-check_wake-clause-refused : goal.returns-in_err-check_wake-clause-refused
returns-in_err-check_wake-clause-refused c w bodies h =
    let p = err_from_is_err_and c.from_residual.result c.from_residual.ensures.1 in rw (p.1, p.2)
    (rows_refuse (refusals w (Asked (Wake c.args.station))) _ _
    (c.in_err-check_wake.ensures.refused w bodies h))

pub returns-in_err-refuse_where-clause-refused : goal.returns-in_err-refuse_where-clause-refused
returns-in_err-refuse_where-clause-refused c w bodies h =
    let p = err_from_is_err_and c.from_residual-in_err-refuse_where.result
    c.from_residual-in_err-refuse_where.ensures.1 in rw (p.1, p.2)
    (row_refuses _ _ _ _ _ (open_same c.args.self.now w bodies h c.args.station
    (live_of c.args.self.now w bodies h c.args.station c.in_ok-check_wake.ensures.live) c.at-sleeper.result
    (c.at-sleeper.ensures ∙ ap (λ (v : TransmitValue). sleeper v.sleepers c.args.station) c.self.view_is)
    ∙ sym c.is_some.ensures) c.in_err-refuse_where.ensures.refused
    ∙ sym (rows_pass (refusals w (Asked (Wake c.args.station))) _
    (c.in_ok-check_wake.ensures.refused w bodies h)))

pub returns-in-Some-clause-refused : goal.returns-in-Some-clause-refused
returns-in-Some-clause-refused c w bodies h =
    let live : is_live w c.args.station ≡ true =
    live_of c.args.self.now w bodies h c.args.station c.in_ok-check_wake.ensures.live in
    let is : c.at-sleeper.result ≡ sleeper c.args.self.now.sleepers c.args.station =
    c.at-sleeper.ensures ∙ ap (λ (v : TransmitValue). sleeper v.sleepers c.args.station) c.self.view_is in
    last_row _ _ _ (ap not (class_sends c.args.self.now w bodies h c.args.station live
    c.at-sleeper.result.delivery (is_delivered (station w c.args.station))
    (delivered_set c.args.self.now w bodies h c.args.station live c.at-sleeper.result is)
    c.in-Some.class (sym c.in-Some.ensures)))
    ∙ sym (row_passes _ _ _ _ (open_same c.args.self.now w bodies h c.args.station live c.at-sleeper.result is
    ∙ sym c.is_some.ensures) c.in_ok-refuse_where.ensures.refused)
    ∙ sym (rows_pass (refusals w (Asked (Wake c.args.station))) _
    (c.in_ok-check_wake.ensures.refused w bodies h))

pub returns-in-Some-clause-class : goal.returns-in-Some-clause-class
returns-in-Some-clause-class c w bodies h =
    let live : is_live w c.args.station ≡ true =
    live_of c.args.self.now w bodies h c.args.station c.in_ok-check_wake.ensures.live in
    let is : c.at-sleeper.result ≡ sleeper c.args.self.now.sleepers c.args.station =
    c.at-sleeper.ensures ∙ ap (λ (v : TransmitValue). sleeper v.sleepers c.args.station) c.self.view_is in
    first_class c.args.self.now w bodies h c.args.station live c.at-sleeper.result.delivery
    (is_delivered (station w c.args.station))
    (delivered_set c.args.self.now w bodies h c.args.station live c.at-sleeper.result is)
    c.in-Some.class (sym c.in-Some.ensures)

pub returns-in-None-clause-refused : goal.returns-in-None-clause-refused
returns-in-None-clause-refused c w bodies h =
    let live : is_live w c.args.station ≡ true =
    live_of c.args.self.now w bodies h c.args.station c.in_ok-check_wake.ensures.live in
    let is : c.at-sleeper.result ≡ sleeper c.args.self.now.sleepers c.args.station =
    c.at-sleeper.ensures ∙ ap (λ (v : TransmitValue). sleeper v.sleepers c.args.station) c.self.view_is in
    last_row _ _ _ (ap not (no_class_sends c.args.self.now w bodies h c.args.station live
    c.at-sleeper.result.delivery (is_delivered (station w c.args.station))
    (delivered_set c.args.self.now w bodies h c.args.station live c.at-sleeper.result is)
    (sym c.in-None.ensures)))
    ∙ sym (row_passes _ _ _ _ (open_same c.args.self.now w bodies h c.args.station live c.at-sleeper.result is
    ∙ sym c.is_some.ensures) c.in_ok-refuse_where.ensures.refused)
    ∙ sym (rows_pass (refusals w (Asked (Wake c.args.station))) _
    (c.in_ok-check_wake.ensures.refused w bodies h))
