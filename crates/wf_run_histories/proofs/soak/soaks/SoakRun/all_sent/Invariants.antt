-- The transmissions that remain lead to the same soak, and to the same answer whether one arrived, as all of
-- them from the start.
use Rattle.std.proofs.Common.{◌≡◌, ◌-◌, ◌≤◌, ◌||◌}
use Rattle.wf_run_histories.specs.Soak.{IsLater, all_sent, some_arrive}
use Rattle.wf_run_histories.proofs.soak.soaks.SoakRun.all_sent.Given as goal

abbrev pub invariant-loop-index : goal.invariant-loop-index
invariant-loop-index l =
    (l.index ≤ l.count) × IsLater l.fn.self l.self
    × (all_sent l.exchange l.index (l.count - l.index) l.self ≡ all_sent l.exchange 0 l.count l.fn.self)
    × ((l.some || some_arrive l.exchange l.index (l.count - l.index) l.self)
    ≡ some_arrive l.exchange 0 l.count l.fn.self)
