-- The invariant of the loop: the outcomes below i are marked.
use Rattle.std.proofs.Common.{◌≡◌, take}
use Rattle.wf_path.specs.Heard.{IsMarked}
use Rattle.wf_path.proofs.path.Path.mark_each.Given as goal

abbrev pub invariant-loop-i : goal.invariant-loop-i
invariant-loop-i l = IsMarked l.fn.self.half l.self.half l.exchange 0 (take l.i l.outcomes)
    × (l.self.addresses ≡ l.fn.self.addresses)
