-- Proves that `sum` returns the caller's octets in the history, from the invariant.
use Rattle.std.proofs.Common.{◌%◌, ap, ◌∙◌, arith}
use Rattle.wf_show_gate.specs.Sums.{octets_at}
use Rattle.wf_show_gate.proofs.counter.Counter.sum.Goals as goal

pub returns : goal.returns
returns c = c.self.invariant.0 (c.args.caller % 256) (omega arith)
    ∙ ap (λ z. octets_at (c.args.caller % 256) z.0) c.self.view_is
