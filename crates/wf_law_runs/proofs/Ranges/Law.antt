-- Proves the law of ranges, in every world of a run, from the invariants of its parts.
use Rattle.std.proofs.Common.{◌≡◌, subst, ℕ, ◌<◌, true, List, take, Option, Some, None, is_some, unwrap_or, IfSome}
use Rattle.wf_frame.specs.declared.settings.Config.{Config}
use Rattle.wf_frame.specs.Settings.{IsInRange}
use Rattle.std.proofs.lemmas.Bool.{and_parts}
use Rattle.wf_def_lists.specs.Table.{at}
use Rattle.wf_def_air.specs.Airtime.{is_rate, IsAllowed}
use Rattle.wf_def_world.specs.Group.{bss_count}
use Rattle.wf_def_world.specs.World.{World, Station, no_station, station, opening}
use Rattle.wf_def_world.specs.Run.{Entry}
use Rattle.wf_def_world.specs.Stretches.{world_at}
use Rattle.wf_law_runs.specs.Ranges.{RangeLaw}
use Rattle.wf_law_runs.proofs.Deficits.Books.{books}
use Rattle.wf_law_runs.proofs.Deficits.Configs.{config_run}
use Rattle.wf_law_runs.proofs.Deficits.Kept.{IsKept}
use Rattle.wf_law_runs.proofs.Deficits.KeptStep.{kept, rate_kept}
use Rattle.wf_law_runs.proofs.Windows.Agreed.{IsLawful, lawful}
use Rattle.wf_law_runs.proofs.Windows.Sizes.{IsSized, sized}
use Rattle.wf_law_runs.proofs.Queues.Shelves.{shelves}
use Rattle.wf_law_runs.proofs.Queues.Shelved.{IsShelved}
use Rattle.wf_law_runs.proofs.Queues.Law.{longest_in, within, shelved}
use Rattle.wf_law_runs.proofs.Ranges.Traits.{HasTraits, has_traits}

of_live : (count : ℕ) (o : Option Station) → is_some o ≡ true → IfSome o (HasTraits count) →
    HasTraits count (unwrap_or o no_station)
of_live count None e h = absurd (cc e)
of_live count (Some x) e h = h

is_allowed_kept : (w : World) (s : ℕ) → IsKept (books w) → IsAllowed w.config.legacy (station w s).rate
is_allowed_kept w s k = (and_parts (is_rate (station w s).rate) _ (rate_kept w s k)).1

pub range_law : (config : Config) (h : List Entry) → IsInRange config → RangeLaw config h
range_law config h range m =
    let w : World = world_at config h m in
    let i : IsShelved (longest_in (take m h)) (shelves w) =
    shelved config (take m h) (longest_in (take m h)) range (within (take m h)) in
    let k : IsSized w = sized config (take m h) in
    let a : IsLawful w = lawful config (take m h) in
    record {
      stations = λ s live.
          let x : HasTraits (bss_count w.config.bsses) (station w s) = of_live _ (at None w.stations s) live
          (has_traits config (take m h) s) in
          record {
            number = subst (λ (c : Config). s < c.stations) (config_run (take m h) (opening config))
                (i.range s live);
            weight = x.weight;
            exponent = x.exponent;
            rate = x.rate;
            allowed = subst (λ (c : Config). IsAllowed c.legacy (station w s).rate)
                (config_run (take m h) (opening config)) (is_allowed_kept w s (kept config (take m h) range));
            ampdu = x.ampdu;
            bss = subst (λ (c : Config). (station w s).bss < bss_count c.bsses)
                (config_run (take m h) (opening config)) x.bss;
            credit = x.credit;
            delivery = x.delivery;
            service = x.service;
            window = λ t below. (k.some s t live below, k.size s t);
            both = λ t. (a.agreed s t).size;
          };
      queues = i.counts;
    }
