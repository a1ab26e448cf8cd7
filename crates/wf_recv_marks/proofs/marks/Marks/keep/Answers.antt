-- Proves the contract of `Marks::keep`, with and without a mark of this number.
use Rattle.std.proofs.Common.{refl, sym, ◌==◌}
use Rattle.wf_send_parts.proofs.Rising.{unchanged}
use Rattle.wf_recv_marks.specs.Marks.{with_answer}
use Rattle.wf_recv_marks.proofs.Changed.{kept_changed, changed_where}
use Rattle.wf_recv_marks.proofs.marks.Marks.keep.Goals as goal

pub invariant_of-self : goal.invariant_of-self
invariant_of-self c = kept_changed c.self.inside.list.items _ c.in-Some.place _ c.index_mut.result.now
    c.index_mut.ensures.value refl c.self.invariant

pub returns-in-Some : goal.returns-in-Some
returns-in-Some c = changed_where (with_answer c.args.start c.args.bits) c.args.number c.in-Some.place
    c.self.inside.list.items c.args.self.now c.index_mut.result.now c.self.view_is c.self.invariant.rising
    c.in-Some.ensures c.index_mut.ensures.value

pub returns-in-None : goal.returns-in-None
returns-in-None c = sym (unchanged (λ m. m.number == c.args.number)
    (with_answer c.args.start c.args.bits) c.args.self.now (sym c.in-None.ensures))
