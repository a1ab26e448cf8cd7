-- Proves that the driver's calls are a walk that ended, or that no call is left.
use Rattle.std.proofs.Common.{◌≡◌, refl}
use Rattle.wf_run_histories.specs.Drivers.{at}
use Rattle.wf_run_histories.specs.Workloads.{driver_of}
use Rattle.wf_run_histories.specs.Workloads.Phase.{Ticks, Ends}
use Rattle.wf_run_histories.proofs.Walks.{ends}
use Rattle.wf_run_histories.proofs.soak.workers.driver.drive.Goals as goal

pub returns : goal.returns
returns g c =
    let same : driver_of c.args.seed c.args.driver c.args.class c.args.senders
    ≡ at (record { class = c.args.class; senders = c.args.senders; words = c.new.result }) Ticks =
    rw (c.new.ensures, c.from.ensures) refl in
    record {
      walk = ends _ _ (at c.walk.new.self Ends) same refl c.walk.result c.walk.ensures.ended
          c.walk.ensures.spent;
    }
