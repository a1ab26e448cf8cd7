-- Proves that the counts are right after a flag is set.
use Rattle.std.proofs.Common.{refl, sym, subst, arith, ◌<◌, length}
use Rattle.wf_send_half.specs.Flags.{Flags, flags_in}
use Rattle.wf_send_half.proofs.FlagCounts.{vectors_set, other_down, other_up, fits_up, goes_up, goes_down}
use Rattle.wf_send_half.proofs.flags.Ready.set.Goals as goal

pub overflow_add-self : goal.overflow_add-self
overflow_add-self c = omega (
  arith,
  fits_up c.self.inside.flags c.self.inside.counts c.self.invariant c.args.class c.number-place.result
      c.args.station c.from.result c.index-self-place.result c.index_mut-flag.result.now
      c.number-place.ensures.place c.from.ensures
      (subst (λ (r : Flags). c.args.station < length (flags_in r c.args.class)) (sym c.self.view_is)
      c.requires.room) c.index_mut-flag.ensures.value
      (other_down c.index_mut-flag.result.now c.args.is_ready c.if-flag-is_ready.false c.if-is_ready.true),
)

pub invariant_of-self-then-is_ready : goal.invariant_of-self-then-is_ready
invariant_of-self-then-is_ready c = vectors_set c.self.inside.flags c.self.inside.counts
    c.number-place.result _
    c.from.result c.args.is_ready _ c.index-self-place.result c.args.class c.self.invariant
    c.number-place.ensures.place refl
    (goes_up c.self.inside.flags c.self.inside.counts c.self.invariant c.args.class c.number-place.result
    c.args.station c.from.result c.index-self-place.result c.index_mut-flag.result.now
    c.number-place.ensures.place c.from.ensures
    (subst (λ (r : Flags). c.args.station < length (flags_in r c.args.class)) (sym c.self.view_is)
    c.requires.room) c.index_mut-flag.ensures.value c.args.is_ready c.if-is_ready.true
    (other_down c.index_mut-flag.result.now c.args.is_ready c.if-flag-is_ready.false c.if-is_ready.true))

pub invariant_of-self-else-is_ready : goal.invariant_of-self-else-is_ready
invariant_of-self-else-is_ready c = vectors_set c.self.inside.flags c.self.inside.counts
    c.number-place.result _
    c.from.result c.args.is_ready _ c.index-self-place.result c.args.class c.self.invariant
    c.number-place.ensures.place refl
    (goes_down c.self.inside.flags c.self.inside.counts c.self.invariant c.args.class c.number-place.result
    c.args.station c.from.result c.index-self-place.result c.index_mut-flag.result.now
    c.number-place.ensures.place c.from.ensures
    (subst (λ (r : Flags). c.args.station < length (flags_in r c.args.class)) (sym c.self.view_is)
    c.requires.room) c.index_mut-flag.ensures.value c.args.is_ready c.if-is_ready.false
    (other_up c.index_mut-flag.result.now c.args.is_ready c.if-flag-is_ready.false c.if-is_ready.false))
