-- Proves the law of offloaded stations: each open exchange is right for its station, and no request is due
-- for an offloaded one. The invariant of the agreements says both.
use Rattle.std.proofs.Common.{List, [], ◌∷◌, refl, take}
use Rattle.wf_frame.specs.declared.settings.Config.{Config}
use Rattle.wf_frame.specs.Settings.{IsInRange}
use Rattle.wf_def_world.specs.World.{World, Exchange}
use Rattle.wf_def_world.specs.Run.{Entry}
use Rattle.wf_def_world.specs.Stretches.{world_at}
use Rattle.wf_law_runs.specs.Windows.{EachOpen}
use Rattle.wf_law_runs.specs.Offloads.{IsOffloadRight, KeepsOffloads, OffloadLaw}
use Rattle.wf_law_runs.proofs.Windows.Opened.{Each}
use Rattle.wf_law_runs.proofs.Windows.Agreed.{IsLawful, IsOpenIn, lawful, device_plain}

all_right : (w : World) (xs : List Exchange) → Each (IsOpenIn w) xs → EachOpen (IsOffloadRight w) xs
all_right w [] e = tt
all_right w (x ∷ xs) e = (e.0.right, all_right w xs e.1)

pub keeps_offloads : (w : World) → IsLawful w → KeepsOffloads w
keeps_offloads w i = record {
  opened = all_right w w.opened i.opened;
  none_due = λ s t d. i.quiet s t refl (device_plain w s t i d);
}

pub offload_law : (config : Config) (h : List Entry) → IsInRange config → OffloadLaw config h
offload_law config h range m = keeps_offloads (world_at config h m) (lawful config (take m h))
