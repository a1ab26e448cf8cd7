-- Proves that the unused places stay 0.
use Rattle.std.proofs.Common.{◌/◌, length, arith}
use Rattle.wf_run_scripts.proofs.UplinkArguments.{frame_kept}
use Rattle.wf_run_scripts.proofs.uplink.frame.Frame.read.Goals as goal

pub invariant_of-result : goal.invariant_of-result
invariant_of-result c = frame_kept c.decode_to_slice.new.out
    (length c.args.word.now / 2) c.decode_to_slice.auto.out (omega (arith, c.if-word.false))
