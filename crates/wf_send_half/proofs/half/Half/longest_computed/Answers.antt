-- Proves that `Half::longest_computed` may ask for the longest charge: the greatest data time is small.
use Rattle.std.proofs.Common.{subst, arith}
use Rattle.wf_frame.specs.Settings.{IsInRange}
use Rattle.wf_send_half_model.specs.Half.{TransmitValue}
use Rattle.wf_send_half.proofs.Weighing.{cap_low}
use Rattle.wf_send_half.proofs.half.Half.longest_computed.Goals as goal

pub longest_charge-requires : goal.longest_charge-requires
longest_charge-requires c = omega (
  arith,
  c.cap.ensures,
  cap_low c.args.self.now.config c.args.class
      (subst (λ (z : TransmitValue). IsInRange z.config) c.self.view_is c.self.invariant.in_range),
)
