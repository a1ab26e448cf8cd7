-- Proves what `heard_of` promises. By cases: nothing was acknowledged, an aggregate, or a request.
use Rattle.std.proofs.Common.{◌∙◌, ap, sym, subst, arith}
use Rattle.wf_send_parts.specs.Exchanges.{transmissions_of}
use Rattle.wf_path.specs.Heard.{IsNarrow}
use Rattle.wf_path.proofs.EachShown.{near_first, some_there, heard_nothing, heard_data, heard_request}
use Rattle.wf_path.proofs.each.heard_of.Goals as goal

pub returns-then-not-some_acked : goal.returns-then-not-some_acked
returns-then-not-some_acked c =
    heard_nothing c.args.sending.now c.args.outcomes.now c.if-not-some_acked.ensures

pub at-first-requires : goal.at-first-requires
at-first-requires c = omega (
  arith,
  some_there c.args.outcomes.now (sym c.if-not-some_acked.ensures),
  c.requires.long,
  ap transmissions_of c.in-Data.is,
)

pub offsets_acked-requires-clause-long : goal.offsets_acked-requires-clause-long
offsets_acked-requires-clause-long c = c.requires.long ∙ ap transmissions_of c.in-Data.is

pub offsets_acked-requires-clause-near : goal.offsets_acked-requires-clause-near
offsets_acked-requires-clause-near c =
    near_first c.in-Data.numbers c.at-first.result c.at-first.ensures
    (subst IsNarrow c.in-Data.is c.requires.near)

pub returns-in-Data : goal.returns-in-Data
returns-in-Data c = heard_data c.args.sending.now c.args.outcomes.now c.if-not-some_acked.ensures
    c.in-Data.numbers c.at-first.result c.offsets_acked.result c.in-Data.is c.at-first.ensures
    c.offsets_acked.ensures

pub returns-in-Request : goal.returns-in-Request
returns-in-Request c = heard_request c.args.sending.now c.args.outcomes.now c.if-not-some_acked.ensures
    c.in-Request.start c.empty.result c.in-Request.is c.empty.ensures
