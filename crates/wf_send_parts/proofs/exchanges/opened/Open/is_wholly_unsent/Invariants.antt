-- The loop of `Open::has_nothing_sent`: the answer is that for the transmissions from here on.
use Rattle.std.proofs.Common.{◌≡◌, ◌-◌}
use Rattle.std.specs.List.{list_all}
use Rattle.wf_def_lists.specs.Table.{has, count_from}
use Rattle.wf_send_parts.specs.Exchanges.{transmissions_of, has_nothing_sent}
use Rattle.wf_send_parts.proofs.exchanges.opened.Open.is_wholly_unsent.Given as goal

abbrev pub invariant-loop-index : goal.invariant-loop-index
invariant-loop-index l =
    list_all (λ i. has l.self.unsent i) (count_from l.index (transmissions_of l.self.sending - l.index))
    ≡ has_nothing_sent l.self
