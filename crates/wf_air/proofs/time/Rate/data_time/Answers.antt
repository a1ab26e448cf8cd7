-- The three quotients equal the definition's, and no product overflows.
use Rattle.std.proofs.Common.{◌∙◌, ◌≤◌, ap, subst, arith}
use Rattle.wf_def_air.specs.Airtime.{Rate, data_time}
use Rattle.wf_def_air.specs.Fit.{alone_at}
use Rattle.wf_air.specs.Rates.{rate_of}
use Rattle.wf_air.proofs.Bounds.{time_most, time_single}
use Rattle.wf_air.proofs.Times.{some_bits, some_unit, few_in_octets, time_is, few_in_symbols, few_in_all}
use Rattle.wf_air.proofs.time.Rate.data_time.Goals as goal

pub div_ceil-symbols-requires : goal.div_ceil-symbols-requires
div_ceil-symbols-requires c = some_bits _ _ c.self.invariant.0 c.self.invariant.1 c.args.octets

pub overflow_mul-timing : goal.overflow_mul-timing
overflow_mul-timing c = omega (
  arith,
  few_in_octets _ _ c.self.invariant.0 c.self.invariant.1 c.args.octets c.requires,
)

pub overflow_add-timing : goal.overflow_add-timing
overflow_add-timing c = omega (
  arith,
  few_in_octets _ _ c.self.invariant.0 c.self.invariant.1 c.args.octets c.requires,
)

pub overflow_mul-timing-2 : goal.overflow_mul-timing-2
overflow_mul-timing-2 c = omega (
  arith,
  few_in_symbols _ _ c.self.invariant.0 c.self.invariant.1 c.args.octets _
      c.div_ceil-symbols.ensures c.requires,
)

pub div_ceil-requires : goal.div_ceil-requires
div_ceil-requires c = some_unit _ _ c.self.invariant.0 c.self.invariant.1 c.args.octets

pub overflow_mul-payload : goal.overflow_mul-payload
overflow_mul-payload c = omega (
  arith,
  few_in_all _ _ c.self.invariant.0 c.self.invariant.1 c.args.octets _
      c.div_ceil-symbols.ensures c.requires _ c.div_ceil.ensures,
)

pub overflow_add-timing-2 : goal.overflow_add-timing-2
overflow_add-timing-2 c = omega (
  arith,
  few_in_all _ _ c.self.invariant.0 c.self.invariant.1 c.args.octets _
      c.div_ceil-symbols.ensures c.requires _ c.div_ceil.ensures,
)

pub returns-clause-exact : goal.returns-clause-exact
returns-clause-exact c = time_is _ _ c.self.invariant.0 c.self.invariant.1 c.args.octets _
    c.div_ceil-symbols.ensures _ c.div_ceil.ensures _ c.div_ceil-2.ensures
    ∙ ap (λ (r : Rate). data_time r c.args.octets) c.self.view_is

pub returns-clause-most : goal.returns-clause-most
returns-clause-most c =
    let is = time_is _ _ c.self.invariant.0 c.self.invariant.1 c.args.octets _
    c.div_ceil-symbols.ensures _ c.div_ceil.ensures _ c.div_ceil-2.ensures in
    rw is (time_most (rate_of c.self.inside.format) c.args.octets c.self.invariant.0 c.requires)

pub returns-clause-single : goal.returns-clause-single
returns-clause-single c = λ short.
    let is = time_is _ _ c.self.invariant.0 c.self.invariant.1 c.args.octets _
    c.div_ceil-symbols.ensures _ c.div_ceil.ensures _ c.div_ceil-2.ensures in
    rw is (subst (λ (r : Rate). data_time (rate_of c.self.inside.format) c.args.octets ≤ alone_at r)
    c.self.view_is (time_single (rate_of c.self.inside.format) c.args.octets c.self.invariant.0 short))
