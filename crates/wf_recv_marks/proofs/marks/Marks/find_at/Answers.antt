-- Proves the contract of `Marks::find_at`: the numbers rise, so at most one mark has this one.
use Rattle.std.proofs.Common.{◌≡◌, ◌∙◌, sym, ap, ◌==◌}
use Rattle.std.specs.Prelude.{position, Some}
use Rattle.wf_send_parts.proofs.Rising.{nowhere, somewhere}
use Rattle.wf_recv_marks.specs.Marks.{mark_number}
use Rattle.wf_recv_marks.proofs.marks.Marks.find_at.Goals as goal

pub returns-in-Some-clause-mark : goal.returns-in-Some-clause-mark
returns-in-Some-clause-mark c =
    let at : position (λ m. mark_number m == c.args.number) c.self.inside.list.items ≡ Some c.in-Some.place =
    rw c.self.view_is (sym c.in-Some.ensures) in
    rw (← c.self.view_is) (ap Some c.index.ensures
    ∙ sym (somewhere mark_number c.args.number c.self.inside.list.items c.in-Some.place
    c.index.result.now c.self.invariant.rising at).0)

pub returns-in-None-clause-mark : goal.returns-in-None-clause-mark
returns-in-None-clause-mark c = sym (nowhere (λ m. m.number == c.args.number) c.args.self.now
    (sym c.in-None.ensures)).0
