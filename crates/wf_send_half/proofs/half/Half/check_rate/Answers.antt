-- Proves what `Half::check_rate` promises: the tests are the world's, for the station's number, the rate,
-- whether the station is live, and whether it has an agreement. By cases of the first test that fails.
use Rattle.std.proofs.Common.{◌≡◌, ◌∙◌, ap, ap₂, sym, not, ◌&&◌, Bool}
use Rattle.std.proofs.lemmas.Result.{err_from_is_err_and}
use Rattle.wf_def_air.specs.Airtime.{is_single}
use Rattle.wf_def_world.specs.Rates.{rate_asked, is_rate_with}
use Rattle.wf_def_world.specs.Refusals.{is_any_agreed}
use Rattle.wf_send_parts.specs.Modes.{any_set_in}
use Rattle.wf_send_half_model.specs.Half.{TransmitValue}
use Rattle.wf_send_half.proofs.Rows.{row_refuses, row_passes, no_row_left, out_of_range, in_range, not_there, there, live_of, rate_row, any_row}
use Rattle.wf_send_half.proofs.half.Half.check_rate.Goals.{then-is_single, else-is_single}
use Rattle.wf_send_half.proofs.half.Half.check_rate.Goals as goal

pub returns-in_err-in_range-clause-refused : goal.returns-in_err-in_range-clause-refused
returns-in_err-in_range-clause-refused c w bodies h =
    let p = err_from_is_err_and c.from_residual.result c.from_residual.ensures.1 in rw (p.1, p.2)
    (out_of_range c.args.self.now w bodies h c.args.station _ _ c.in_err-in_range.ensures.refused)

pub returns-in_err-rate-clause-refused : goal.returns-in_err-rate-clause-refused
returns-in_err-rate-clause-refused c w bodies h =
    let p = err_from_is_err_and c.from_residual-in_err-rate.result c.from_residual-in_err-rate.ensures.1 in
    let allowed : not (is_rate_with w.config.legacy (rate_asked c.args.asked)) ≡
    not (is_rate_with c.self.inside.config.legacy (rate_asked c.args.asked)) =
    ap not (rate_row c.args.self.now w bodies h c.args.station (rate_asked c.args.asked)
    ∙ sym (ap (λ (v : TransmitValue). is_rate_with v.config.legacy (rate_asked c.args.asked))
    c.self.view_is)) in
    rw (p.1, p.2)
    (row_refuses _ _ _ _ _ allowed c.in_err-rate.ensures.refused
    ∙ sym (in_range c.args.self.now w bodies h c.args.station _ c.in_ok-in_range.ensures.refused))

pub returns-in_err-live-clause-refused : goal.returns-in_err-live-clause-refused
returns-in_err-live-clause-refused c w bodies h =
    let p = err_from_is_err_and c.from_residual-in_err-live.result c.from_residual-in_err-live.ensures.1 in
    let allowed : not (is_rate_with w.config.legacy (rate_asked c.args.asked)) ≡
    not (is_rate_with c.self.inside.config.legacy (rate_asked c.args.asked)) =
    ap not (rate_row c.args.self.now w bodies h c.args.station (rate_asked c.args.asked)
    ∙ sym (ap (λ (v : TransmitValue). is_rate_with v.config.legacy (rate_asked c.args.asked))
    c.self.view_is)) in
    rw (p.1, p.2)
    (not_there c.args.self.now w bodies h c.args.station _ _ c.in_err-live.ensures.refused
    ∙ sym (row_passes _ _ _ _ allowed c.in_ok-rate.ensures.refused)
    ∙ sym (in_range c.args.self.now w bodies h c.args.station _ c.in_ok-in_range.ensures.refused))

pub returns-in_err-refuse_where-clause-refused : goal.returns-in_err-refuse_where-clause-refused
returns-in_err-refuse_where-clause-refused c w bodies h =
    let p = err_from_is_err_and c.from_residual-in_err-refuse_where.result
    c.from_residual-in_err-refuse_where.ensures.1 in
    let allowed : not (is_rate_with w.config.legacy (rate_asked c.args.asked)) ≡
    not (is_rate_with c.self.inside.config.legacy (rate_asked c.args.asked)) =
    ap not (rate_row c.args.self.now w bodies h c.args.station (rate_asked c.args.asked)
    ∙ sym (ap (λ (v : TransmitValue). is_rate_with v.config.legacy (rate_asked c.args.asked))
    c.self.view_is)) in
    let single : is_single (rate_asked c.args.asked) ≡ c.is_single.result =
    ap is_single (sym c.in_ok-rate.ensures.rate) ∙ sym c.is_single.ensures in
    let both : is_single (rate_asked c.args.asked) && is_any_agreed w c.args.station
    ≡ c.if-is_single.refuse_where = elim c.if-is_single.branch [
      | then-is_single x ↦ ap₂ (λ (a b : Bool). a && b) (single ∙ x.if-is_single.true)
          (any_row c.args.self.now w bodies h c.args.station
          (live_of c.args.self.now w bodies h c.args.station c.in_ok-live.ensures.live)
          ∙ sym (x.any_set.ensures
          ∙ ap (λ (v : TransmitValue). any_set_in v.modes c.args.station) c.self.view_is))
          ∙ sym x.refuse_where-is
      | else-is_single x ↦ ap (λ (b : Bool). b && is_any_agreed w c.args.station)
          (single ∙ x.if-is_single.false) ∙ sym x.if-is_single.false ∙ sym x.refuse_where-is
    ] in
    rw (p.1, p.2)
    (row_refuses _ _ _ _ _ both c.in_err-refuse_where.ensures.refused
    ∙ sym (there c.args.self.now w bodies h c.args.station _ c.in_ok-live.ensures.refused)
    ∙ sym (row_passes _ _ _ _ allowed c.in_ok-rate.ensures.refused)
    ∙ sym (in_range c.args.self.now w bodies h c.args.station _ c.in_ok-in_range.ensures.refused))

pub returns-clause-refused : goal.returns-clause-refused
returns-clause-refused c w bodies h =
    let allowed : not (is_rate_with w.config.legacy (rate_asked c.args.asked)) ≡
    not (is_rate_with c.self.inside.config.legacy (rate_asked c.args.asked)) =
    ap not (rate_row c.args.self.now w bodies h c.args.station (rate_asked c.args.asked)
    ∙ sym (ap (λ (v : TransmitValue). is_rate_with v.config.legacy (rate_asked c.args.asked))
    c.self.view_is)) in
    let single : is_single (rate_asked c.args.asked) ≡ c.is_single.result =
    ap is_single (sym c.in_ok-rate.ensures.rate) ∙ sym c.is_single.ensures in
    let both : is_single (rate_asked c.args.asked) && is_any_agreed w c.args.station
    ≡ c.if-is_single.refuse_where = elim c.if-is_single.branch [
      | then-is_single x ↦ ap₂ (λ (a b : Bool). a && b) (single ∙ x.if-is_single.true)
          (any_row c.args.self.now w bodies h c.args.station
          (live_of c.args.self.now w bodies h c.args.station c.in_ok-live.ensures.live)
          ∙ sym (x.any_set.ensures
          ∙ ap (λ (v : TransmitValue). any_set_in v.modes c.args.station) c.self.view_is))
          ∙ sym x.refuse_where-is
      | else-is_single x ↦ ap (λ (b : Bool). b && is_any_agreed w c.args.station)
          (single ∙ x.if-is_single.false) ∙ sym x.if-is_single.false ∙ sym x.refuse_where-is
    ] in
    no_row_left
    ∙ sym (row_passes _ _ _ _ both c.in_ok-refuse_where.ensures.refused)
    ∙ sym (there c.args.self.now w bodies h c.args.station _ c.in_ok-live.ensures.refused)
    ∙ sym (row_passes _ _ _ _ allowed c.in_ok-rate.ensures.refused)
    ∙ sym (in_range c.args.self.now w bodies h c.args.station _ c.in_ok-in_range.ensures.refused)
