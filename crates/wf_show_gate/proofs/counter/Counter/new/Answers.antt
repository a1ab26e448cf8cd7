-- Proves the invariant of a new counter, whose sums are all 0.
use Rattle.std.proofs.Common.{◌+◌, ◌*◌, ◌^◌, ◌<◌, sym, ap, ◌∙◌, subst, arith}
use Rattle.wf_show_gate.specs.Sums.{octets_at}
use Rattle.wf_show_gate.proofs.Adding.{none_yet}
use Rattle.wf_show_gate.proofs.counter.Counter.new.Goals as goal

pub invariant_of-result : goal.invariant_of-result
invariant_of-result c =
    let calls = c.args.calls in
    let fits : calls < 2 ^ 32 = c.ranges.calls.fits in (
      λ i l. none_yet i l ∙ ap (octets_at i) (sym c.new.ensures),
      λ i l. subst (λ n. n + 4294967295 * calls < 2 ^ 64) (sym (none_yet i l)) (omega arith),
    )
