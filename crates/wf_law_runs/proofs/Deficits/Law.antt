-- Proves the law of the deficits in every world of a run, from Shares and Ready.
use Rattle.std.proofs.Common.{List, take, sym, subst, ◌+◌, pos, ◌-ℤ◌, ◌≤ℤ◌, ◌≡◌, ◌*◌}
use Rattle.wf_frame.specs.declared.settings.Config.{Config}
use Rattle.wf_def_world.specs.World.{owed, rotation, share}
use Rattle.wf_def_world.specs.Run.{Entry}
use Rattle.wf_def_world.specs.Stretches.{world_at}
use Rattle.wf_frame.specs.Settings.{IsInRange}
use Rattle.wf_def_world.specs.Exchanges.{longest_computed}
use Rattle.wf_law_runs.specs.Deficits.{weight_at, DeficitLaw, most_owed, own_quantum}
use Rattle.wf_law_runs.proofs.Deficits.Shares.{IsMoney, own_base}
use Rattle.wf_law_runs.proofs.Fairness.Law.{share_at, config_at}
use Rattle.wf_law_runs.proofs.Deficits.MildStep.{lists-on}
use Rattle.wf_law_runs.proofs.Deficits.Ready.{IsOrderly, orderly, debtor_listed}
use Rattle.wf_law_runs.proofs.Deficits.Bounds.{counted}

pub deficits : (config : Config) (h : List Entry) → IsInRange config → DeficitLaw config h
deficits config h range m s c live =
    let money : IsMoney config c (owed s c (world_at config h m).opened) (weight_at config h m s)
    (share (world_at config h m) s c) = share_at config h m s c range live in
    let same : (world_at config h m).config ≡ config = config_at config h m in
    let order : IsOrderly (world_at config h m) = orderly config (take m h) range in
    record {
      exact = money.exact;
      own = λ e. subst (λ (z : Config). (share (world_at config h m) s c).base
          ≡ pos (z.quantum * weight_at config h m s)) same (own_base config (take m h) s c live e);
      most = money.most;
      least = money.least;
      quiet = money.quiet;
      floor = money.floor;
      ready = λ is. lists-on (rotation (world_at config h m) c) s (order.listed.all s c is);
      lowest = subst (λ (z : Config). (pos 0 -ℤ pos (config.debt + most_owed config c)) ≤ℤ
          ((share (world_at config h m) s c).deficit
          -ℤ pos (counted z (owed s c (world_at config h m).opened)))) (sym same) money.lowest;
      within = λ e. subst (λ (z : Config). ((share (world_at config h m) s c).deficit
          -ℤ pos (counted z (owed s c (world_at config h m).opened))) ≤ℤ
          pos (own_quantum config (world_at config h m) s)) (sym same) (money.within e);
      backed = λ p e r. subst (λ (z : Config). (pos 1 -ℤ pos (longest_computed config c)) ≤ℤ
          ((share (world_at config h m) s c).deficit
          -ℤ pos (counted z (owed s c (world_at config h m).opened)))) (sym same) (money.backed p e r);
      debtor = λ is. lists-on (rotation (world_at config h m) c) s
          (debtor_listed (world_at config h m) s c order is);
    }
