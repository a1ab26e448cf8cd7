-- Proves that a step keeps the counter's invariant.
use Rattle.std.proofs.Common.{◌%◌, ◌^◌, ◌<◌, length, sym, ap, ◌∙◌, arith}
use Rattle.wf_show_gate.specs.Sums.{octets_at}
use Rattle.wf_show_gate.proofs.Adding.{are_more, small_more}
use Rattle.wf_show_gate.proofs.counter.CounterMachine.step.Goals as goal

pub invariant_of-self : goal.invariant_of-self
invariant_of-self c =
    let it = c.self.inside in
    let some_left : 0 < it.left = omega (arith, c.if-self-eq0.false) in
    let fits : c.args.call < 2 ^ 32 = c.ranges.call.fits in
    let inside : c.args.caller % 256 < length it.sums = omega (arith, c.self.told) in (
      λ k l. are_more it.sums it.history it.left c.args.caller c.args.call c.self.invariant.0
          c.self.invariant.1 some_left fits inside k l ∙ ap (octets_at k) (sym c.push.ensures),
      small_more it.sums it.history it.left c.args.caller c.args.call c.self.invariant.0
          c.self.invariant.1 some_left fits inside,
    )
