-- Proves what `Half::check_end` promises: the tests are the world's, for the station's number, whether it is
-- live, and whether a service period is open. By cases of the first test that fails.
use Rattle.std.proofs.Common.{◌≡◌, refl, ◌∙◌, sym, ap, ℕ, Bool, true, false, not, Option, Some, None, is_some}
use Rattle.std.specs.Prelude.{is_none}
use Rattle.std.proofs.lemmas.Result.{err_from_is_err_and}
use Rattle.wf_send_parts.specs.declared.stations.sleepers.Sleeper.{Sleeper}
use Rattle.wf_send_parts.specs.Sleepers.{sleeper}
use Rattle.wf_send_half_model.specs.Half.{TransmitValue}
use Rattle.wf_send_half.proofs.Rows.{last_row, out_of_range, in_range, not_there, there, service_same, live_of}
use Rattle.wf_send_half.proofs.half.Half.check_end.Goals as goal

-- `is_none` of the code is that of the definitions
none_by : (o : Option ℕ) (none : Bool) → is_some o ≡ not none → is_none o ≡ none
none_by None true is = refl
none_by None false is = absurd (cc is)
none_by (Some n) true is = absurd (cc is)
none_by (Some n) false is = refl

pub returns-in_err-in_range-clause-refused : goal.returns-in_err-in_range-clause-refused
returns-in_err-in_range-clause-refused c w bodies h =
    let p = err_from_is_err_and c.from_residual.result c.from_residual.ensures.1 in rw (p.1, p.2)
    (out_of_range c.args.self.now w bodies h c.args.station _ _ c.in_err-in_range.ensures.refused)

pub returns-in_err-live-clause-refused : goal.returns-in_err-live-clause-refused
returns-in_err-live-clause-refused c w bodies h =
    let p = err_from_is_err_and c.from_residual-in_err-live.result c.from_residual-in_err-live.ensures.1 in
    rw (p.1, p.2)
    (not_there c.args.self.now w bodies h c.args.station _ _ c.in_err-live.ensures.refused
    ∙ sym (in_range c.args.self.now w bodies h c.args.station _ c.in_ok-in_range.ensures.refused))

pub returns-clause-refused : goal.returns-clause-refused
returns-clause-refused c w bodies h =
    c.refuse_where.ensures.refused
    ∙ last_row _ _ _ (ap (λ (o : Option ℕ). is_none o) (service_same c.args.self.now w bodies h c.args.station
    (live_of c.args.self.now w bodies h c.args.station c.in_ok-live.ensures.live)
    ∙ sym (ap (λ (y : Sleeper). y.service) (c.at.ensures
    ∙ ap (λ (v : TransmitValue). sleeper v.sleepers c.args.station) c.self.view_is)))
    ∙ none_by c.at.result.service c.is_none.result c.is_none.ensures)
    ∙ sym (there c.args.self.now w bodies h c.args.station _ c.in_ok-live.ensures.refused)
    ∙ sym (in_range c.args.self.now w bodies h c.args.station _ c.in_ok-in_range.ensures.refused)
