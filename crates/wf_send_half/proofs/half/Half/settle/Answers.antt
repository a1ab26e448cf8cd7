-- Proves what `Half::settle` promises. By cases of the exchange: the numbers of an aggregate are settled one
-- by one, then the window catches up, and a request that was heard is recorded in its window.
use Rattle.std.proofs.Common.{sym, ap, ◌∙◌, subst, arith, ◌+◌, ◌≤◌, length}
use Rattle.wf_octets.specs.Distance.{distance}
use Rattle.wf_send_parts.specs.Windows.{window_of}
use Rattle.wf_frame.specs.declared.settings.Config.{Config}
use Rattle.wf_send_half_model.specs.Half.{TransmitValue}
use Rattle.wf_send_parts.specs.declared.exchanges.opened.Sending.{Sending}
use Rattle.wf_send_half_model.specs.Pulling.{is_wide_of}
use Rattle.wf_send_half.specs.declared.finish.Report.{Report}
use Rattle.wf_send_half.specs.Bits.{count_shown, numbers_carried, without_unsent}
use Rattle.wf_send_half.proofs.CallSteps.{view_of}
use Rattle.wf_send_half.proofs.Ends.{station_within, data_tid, data_within, data_place, data_some, data_settled, data_told, request_low, request_within, request_near, request_told, request_lost, request_heard}
use Rattle.wf_send_half.proofs.half.Half.settle.Goals as goal

pub report_on-report-requires-clause-tid : goal.report_on-report-requires-clause-tid
report_on-report-requires-clause-tid c = data_tid c.requires.some.before c.requires.some.world
    c.requires.some.bodies c.requires.some.stands c.requires.some.number c.requires.some.exchange_is
    c.requires.some.known c.requires.some.air c.args.self.now c.args.open.now c.requires.some.same
    c.requires.some.closed c.in-Data.numbers c.in-Data.is

pub report_on-report-requires-clause-within : goal.report_on-report-requires-clause-within
report_on-report-requires-clause-within c = data_within c.requires.some.before c.requires.some.world
    c.requires.some.bodies c.requires.some.stands c.requires.some.number c.requires.some.exchange_is
    c.requires.some.known c.requires.some.air c.args.self.now c.args.open.now c.requires.some.same
    c.requires.some.closed c.in-Data.numbers c.in-Data.is

pub catch_up-requires-clause-within : goal.catch_up-requires-clause-within
catch_up-requires-clause-within c =
    let low = station_within c.requires.some.before c.requires.some.world
    c.requires.some.bodies c.requires.some.stands c.requires.some.number c.requires.some.exchange_is
    c.requires.some.known c.requires.some.air c.args.self.now c.args.open.now c.requires.some.same
    c.requires.some.closed in
    omega (arith, low, ap (λ (k : Config). k.stations) c.settle_all-ended.ensures.config)

pub catch_up-requires-clause-tid : goal.catch_up-requires-clause-tid
catch_up-requires-clause-tid c = data_tid c.requires.some.before c.requires.some.world
    c.requires.some.bodies c.requires.some.stands c.requires.some.number c.requires.some.exchange_is
    c.requires.some.known c.requires.some.air c.args.self.now c.args.open.now c.requires.some.same
    c.requires.some.closed c.in-Data.numbers c.in-Data.is

pub settle_all-ended-requires-clause-some : goal.settle_all-ended-requires-clause-some
settle_all-ended-requires-clause-some c = data_some c.requires.some.before c.requires.some.world
    c.requires.some.bodies c.requires.some.stands c.requires.some.number c.requires.some.exchange_is
    c.requires.some.known c.requires.some.air c.args.self.now c.args.open.now c.requires.some.same
    c.requires.some.closed
    c.in-Data.numbers _ c.in-Data.is

pub settle_all-ended-requires-clause-room : goal.settle_all-ended-requires-clause-room
settle_all-ended-requires-clause-room c = data_place c.requires.some.before c.requires.some.world
    c.requires.some.bodies c.requires.some.stands c.requires.some.number c.requires.some.exchange_is
    c.requires.some.known c.requires.some.air c.args.self.now c.args.open.now c.requires.some.same
    c.requires.some.closed
    c.in-Data.numbers c.in-Data.is

pub returns-in-Data-clause-settled : goal.returns-in-Data-clause-settled
returns-in-Data-clause-settled c v w bodies e x answered air h known same closed goes =
    data_settled v w bodies h e x known air c.args.self.now c.args.open.now same closed c.in-Data.numbers
    c.report_on-report.result c.args.heard.now answered goes c.report_on-report.ensures
    c.settle_all-ended.new.self c.catch_up.new.self c.in-Data.is c.settle_all-ended.ensures.settled
    c.catch_up.ensures.caught_up

pub returns-in-Data-clause-reply : goal.returns-in-Data-clause-reply
returns-in-Data-clause-reply c v w bodies e x answered air h known same closed goes =
    data_told v w bodies h e x known air c.args.self.now c.args.open.now same closed c.in-Data.numbers
    c.report_on-report.result c.args.heard.now answered goes c.report_on-report.ensures
    c.settle_all-ended.result c.in-Data.is c.settle_all-ended.ensures.counted

pub bar_heard-requires-clause-tid : goal.bar_heard-requires-clause-tid
bar_heard-requires-clause-tid c = request_low c.requires.some.before c.requires.some.world
    c.requires.some.bodies c.requires.some.stands c.requires.some.number c.requires.some.exchange_is
    c.requires.some.known c.requires.some.air c.args.self.now c.args.open.now c.requires.some.same
    c.requires.some.closed
    c.in-Request.start c.in-Request.is

pub bar_heard-requires-clause-within : goal.bar_heard-requires-clause-within
bar_heard-requires-clause-within c = omega (
  arith,
  ap (λ (z : TransmitValue). length z.windows) c.self.view_is,
  request_within c.requires.some.before c.requires.some.world c.requires.some.bodies c.requires.some.stands
      c.requires.some.number c.requires.some.exchange_is c.requires.some.known c.requires.some.air
      c.args.self.now
      c.args.open.now
      c.requires.some.same c.requires.some.closed c.in-Request.start c.in-Request.is,
)

pub bar_heard-requires-clause-near : goal.bar_heard-requires-clause-near
bar_heard-requires-clause-near c =
    subst (λ (z : TransmitValue). distance (window_of z.windows c.args.open.now.station
    c.args.open.now.tid).start c.in-Request.start + length
    (window_of z.windows c.args.open.now.station c.args.open.now.tid).places
    ≤ (window_of z.windows c.args.open.now.station c.args.open.now.tid).size)
    (sym c.self.view_is)
    (request_near c.requires.some.before c.requires.some.world c.requires.some.bodies c.requires.some.stands
    c.requires.some.number c.requires.some.exchange_is c.requires.some.known c.requires.some.air
    c.args.self.now
    c.args.open.now c.requires.some.same c.requires.some.closed c.in-Request.start c.in-Request.is)

pub returns-then-is_some-clause-settled : goal.returns-then-is_some-clause-settled
returns-then-is_some-clause-settled c v w bodies e x answered air h known same closed goes =
    request_heard v w bodies h e x known air (view_of c.self.inside) c.args.open.now same
    (c.self.view_is ∙ closed) c.in-Request.start c.args.heard.now answered goes
    (sym c.is_some.ensures ∙ c.if-is_some.true) c.bar_heard.new.self c.bar_heard.ensures.room
    c.in-Request.is c.bar_heard.ensures.others c.bar_heard.ensures.stands

pub returns-then-is_some-clause-reply : goal.returns-then-is_some-clause-reply
returns-then-is_some-clause-reply c v w bodies e x answered air h known same closed goes =
    request_told v w bodies h e x known air c.args.self.now c.args.open.now same closed c.in-Request.start
    c.args.heard.now answered goes c.in-Request.is

pub returns-else-is_some-clause-settled : goal.returns-else-is_some-clause-settled
returns-else-is_some-clause-settled c v w bodies e x answered air h known same closed goes =
    request_lost v w bodies h e x known air c.args.self.now c.args.open.now same closed c.in-Request.start
    c.args.heard.now answered goes (sym c.is_some.ensures ∙ c.if-is_some.false) c.in-Request.is

pub returns-else-is_some-clause-reply : goal.returns-else-is_some-clause-reply
returns-else-is_some-clause-reply c v w bodies e x answered air h known same closed goes =
    request_told v w bodies h e x known air c.args.self.now c.args.open.now same closed c.in-Request.start
    c.args.heard.now answered goes c.in-Request.is

pub returns-in-Data-clause-acked : goal.returns-in-Data-clause-acked
returns-in-Data-clause-acked c = c.settle_all-ended.ensures.acked
    ∙ (ap (λ (k : Report). count_shown k.wide k.heard (without_unsent 0 k.unsent c.in-Data.numbers))
    c.report_on-report.ensures
    ∙ ap (λ (z : Sending). count_shown (is_wide_of c.args.self.now c.args.open.now.station
    c.args.open.now.tid) c.args.heard.now (without_unsent 0 c.args.open.now.unsent (numbers_carried z)))
    (sym c.in-Data.is))

pub returns-then-is_some-clause-acked : goal.returns-then-is_some-clause-acked
returns-then-is_some-clause-acked c = ap (λ (z : Sending).
    count_shown (is_wide_of c.args.self.now c.args.open.now.station c.args.open.now.tid) c.args.heard.now
    (without_unsent 0 c.args.open.now.unsent (numbers_carried z))) (sym c.in-Request.is)

pub returns-else-is_some-clause-acked : goal.returns-else-is_some-clause-acked
returns-else-is_some-clause-acked c = ap (λ (z : Sending).
    count_shown (is_wide_of c.args.self.now c.args.open.now.station c.args.open.now.tid) c.args.heard.now
    (without_unsent 0 c.args.open.now.unsent (numbers_carried z))) (sym c.in-Request.is)

pub returns-in-Data-clause-config : goal.returns-in-Data-clause-config
returns-in-Data-clause-config c = ap (λ (z : TransmitValue). z.config) c.catch_up.ensures.rest
    ∙ c.settle_all-ended.ensures.config

pub returns-then-is_some-clause-config : goal.returns-then-is_some-clause-config
returns-then-is_some-clause-config c = ap (λ (z : TransmitValue). z.config) c.self.view_is
