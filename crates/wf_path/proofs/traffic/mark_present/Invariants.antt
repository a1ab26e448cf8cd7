-- The invariant of the loop of `mark_present`: the entries are right for the stations before `number`.
use Rattle.wf_path.specs.Traffic.{is_awaited_of, ArePresent}
use Rattle.wf_path.proofs.traffic.mark_present.Given as goal

abbrev pub invariant-loop-number : goal.invariant-loop-number
invariant-loop-number l = ArePresent l.present l.fn.addresses (is_awaited_of l.fn.half l.fn.bss) l.number
