-- Proves that the arguments that were read are valid for an `open`.
use Rattle.std.proofs.Common.{sym}
use Rattle.wf_trace.specs.Words.{words}
use Rattle.wf_run_scripts.proofs.UplinkArguments.{opening_read}
use Rattle.wf_run_scripts.proofs.uplink.lines.open_from.Goals as goal

pub opening-requires : goal.opening-requires
opening-requires c = rw (c.as_slice.ensures.value)
    (opening_read (words c.args.line.now) c.in-Ok.values.items (sym c.in-Ok.ensures))
