-- Each of the three tests is one condition of the definition of fitting.
use Rattle.std.proofs.Common.{◌≡◌, ap, ◌+◌, refl, arith}
use Rattle.wf_def_air.specs.Fit.{overhead_octets, subframe_octets, padded, alone_at}
use Rattle.wf_air.specs.Sizes.{AggregateSizeValue}
use Rattle.wf_air.proofs.Adding.{few, alone, alone_allowed, refused_full, refused_long, refused_late, taken, stands_after}
use Rattle.wf_air.proofs.fit.AggregateSize.add.Goals as goal
use Rattle.wf_air.proofs.fit.AggregateSize.add.Goals.{then-self-via-then-self, then-self-via-else-self+then-octets-self}

pub data_time-time-requires : goal.data_time-time-requires
data_time-time-requires c =
    few _ _ c.self.view_is c.self.invariant c.args.len _ (omega arith) c.if-octets-self.false

pub returns-then-self-clause-exact : goal.returns-then-self-clause-exact
returns-then-self-clause-exact c = λ lens stands.
    let octets_is : c.next_multiple_of.result + overhead_octets + c.from.result
    ≡ padded c.self.inside.octets + subframe_octets c.args.len = omega arith in
    elim c.then-self.branch [
      | then-self-via-then-self w ↦
          refused_full _ _ c.self.view_is c.self.invariant c.args.len _ octets_is lens stands w.if-self.true
      | then-self-via-else-self+then-octets-self w ↦
          refused_long _ _ c.self.view_is c.self.invariant c.args.len _ octets_is lens stands
          w.if-octets-self.true
    ]

pub returns-then-time-time_with_next-clause-exact : goal.returns-then-time-time_with_next-clause-exact
returns-then-time-time_with_next-clause-exact c = λ lens stands.
    let octets_is : c.next_multiple_of.result + overhead_octets + c.from.result
    ≡ padded c.self.inside.octets + subframe_octets c.args.len = omega arith in
    refused_late _ _ c.self.view_is c.self.invariant c.args.len _ octets_is lens stands
    (omega (arith, c.data_time-time.ensures.exact, c.time_with_next.ensures, c.if-time-time_with_next.true))

pub returns-then-self-clause-first : goal.returns-then-self-clause-first
returns-then-self-clause-first c = λ none.
    let octets_is : c.next_multiple_of.result + overhead_octets + c.from.result
    ≡ padded c.self.inside.octets + subframe_octets c.args.len = omega arith in
    let short = alone _ _ c.self.view_is c.self.invariant c.args.len _ octets_is none c.requires.1 in
    elim c.then-self.branch [
      | then-self-via-then-self w ↦
          absurd (omega (
            arith,
            w.if-self.true,
            c.self.invariant.frames_in,
            ap (λ (v : AggregateSizeValue). v.count) c.self.view_is,
            none,
          ))
      | then-self-via-else-self+then-octets-self w ↦
          absurd (omega (arith, w.if-octets-self.true, short.0, short.1))
    ]

pub returns-then-time-time_with_next-clause-first : goal.returns-then-time-time_with_next-clause-first
returns-then-time-time_with_next-clause-first c = λ none.
    let octets_is : c.next_multiple_of.result + overhead_octets + c.from.result
    ≡ padded c.self.inside.octets + subframe_octets c.args.len = omega arith in
    let short = alone _ _ c.self.view_is c.self.invariant c.args.len _ octets_is none c.requires.1 in
    absurd (omega (
      arith,
      c.if-time-time_with_next.true,
      c.time_with_next.ensures,
      c.data_time-time.ensures.single short.0,
      alone_allowed c.args.self.now none,
      ap (λ (v : AggregateSizeValue). alone_at v.rate) c.self.view_is,
    ))

pub returns-clause-exact : goal.returns-clause-exact
returns-clause-exact c = λ lens stands.
    let octets_is : c.next_multiple_of.result + overhead_octets + c.from.result
    ≡ padded c.self.inside.octets + subframe_octets c.args.len = omega arith in
    taken _ _ c.self.view_is c.self.invariant c.args.len _ octets_is lens stands c.if-self.false
    c.if-octets-self.false
    (omega (arith, c.data_time-time.ensures.exact, c.time_with_next.ensures, c.if-time-time_with_next.false))

pub returns-clause-taken : goal.returns-clause-taken
returns-clause-taken c = λ lens stands _.
    let octets_is : c.next_multiple_of.result + overhead_octets + c.from.result
    ≡ padded c.self.inside.octets + subframe_octets c.args.len = omega arith in
    stands_after _ _ c.self.view_is c.self.invariant c.args.len _ octets_is lens stands _ refl refl
