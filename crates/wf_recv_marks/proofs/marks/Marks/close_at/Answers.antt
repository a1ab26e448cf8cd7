-- Proves the contract of `Marks::close_at`: the numbers rise, so only the mark at this place has its number.
use Rattle.std.proofs.Common.{◌≡◌, ◌∙◌, ◌==◌}
use Rattle.std.specs.Prelude.{position, Some}
use Rattle.wf_send_parts.proofs.Kept.{kept_remove}
use Rattle.wf_send_parts.proofs.Rising.{somewhere}
use Rattle.wf_recv_marks.specs.Marks.{mark_number}
use Rattle.wf_recv_marks.proofs.marks.Marks.close_at.Goals as goal

pub invariant_of-self : goal.invariant_of-self
invariant_of-self c =
    kept_remove mark_number c.self.inside.list.items _ c.args.place _ _ c.self.invariant
    c.remove.ensures.items c.remove.ensures.capacity

pub returns-clause-closed : goal.returns-clause-closed
returns-clause-closed c = λ number is.
    let at : position (λ m. mark_number m == number) c.self.inside.list.items ≡ Some c.args.place =
    rw c.self.view_is is in
    rw (← c.self.view_is) (c.remove.ensures.items
    ∙ (somewhere mark_number number c.self.inside.list.items c.args.place c.remove.result
    c.self.invariant.rising at).1)
