-- Proves the contract of `Marks::arrive`, with and without a mark of this number.
use Rattle.std.proofs.Common.{refl, ap, sym, ◌∙◌, ℕ, ◌==◌, List, set}
use Rattle.wf_send_parts.proofs.Rising.{unchanged}
use Rattle.wf_recv_marks.specs.declared.marks.Mark.{Mark}
use Rattle.wf_recv_marks.specs.Marks.{with_arrival}
use Rattle.wf_recv_marks.proofs.Changed.{kept_changed, changed_where}
use Rattle.wf_recv_marks.proofs.marks.Marks.arrive.Goals as goal

pub invariant_of-self : goal.invariant_of-self
invariant_of-self c = kept_changed c.self.inside.list.items _ c.in-Some.place _ c.index_mut.result.now
    c.index_mut.ensures.value refl c.self.invariant

pub returns-in-Some : goal.returns-in-Some
returns-in-Some c =
    let d : Mark = c.index_mut.result.now in
    ap (λ (a : List ℕ). let m : Mark = record d { arrived = a } in
    set c.self.inside.list.items c.in-Some.place m) c.set.ensures.set
    ∙ changed_where (with_arrival c.args.index) c.args.number c.in-Some.place c.self.inside.list.items
    c.args.self.now d c.self.view_is c.self.invariant.rising c.in-Some.ensures c.index_mut.ensures.value

pub returns-in-None : goal.returns-in-None
returns-in-None c = sym (unchanged (λ m. m.number == c.args.number)
    (with_arrival c.args.index) c.args.self.now (sym c.in-None.ensures))
