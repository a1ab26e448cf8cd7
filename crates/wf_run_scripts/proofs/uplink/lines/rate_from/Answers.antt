-- Proves that the arguments that were read are valid for a `rate`.
use Rattle.std.proofs.Common.{sym, ◌∙◌}
use Rattle.wf_trace.specs.Words.{words}
use Rattle.wf_run_scripts.proofs.UplinkArguments.{rate_read}
use Rattle.wf_run_scripts.proofs.uplink.lines.rate_from.Goals as goal

pub rate-requires : goal.rate-requires
rate-requires c =
    rw (c.as_slice.ensures.value)
    (rate_read (words c.args.line.now) c.in-Ok.values.items
    (sym c.is_no_width.ensures ∙ c.if-is_no_width.false) (sym c.in-Ok.ensures))
