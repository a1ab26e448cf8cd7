-- The loop of `Half::is_any_asleep`: whether one of all stations sleeps and is of the BSS is whether one of
-- those from `station` on does.
use Rattle.std.proofs.Common.{◌≡◌, ◌-◌}
use Rattle.std.specs.List.{list_any}
use Rattle.wf_def_lists.specs.Table.{count_from}
use Rattle.wf_send_half_model.specs.Half.{is_asleep_of}
use Rattle.wf_send_half.proofs.half.Half.is_any_asleep.Given as goal

abbrev pub invariant-loop-station : goal.invariant-loop-station
invariant-loop-station l = list_any (is_asleep_of l.self l.bss) (count_from 0 l.self.config.stations)
    ≡ list_any (is_asleep_of l.self l.bss) (count_from l.station (l.self.config.stations - l.station))
