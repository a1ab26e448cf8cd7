-- The standard settings are in their ranges.
use Rattle.std.proofs.Common.{refl}
use Rattle.wf_run_histories.proofs.soak.soaks.SoakRun.new.Goals as goal

pub of-requires : goal.of-requires
of-requires c = rw (c.standard.ensures) refl
