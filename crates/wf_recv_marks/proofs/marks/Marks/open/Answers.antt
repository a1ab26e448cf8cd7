-- Proves that `Marks::open` keeps the invariant: the new number is above all others.
use Rattle.wf_recv_marks.specs.Marks.{mark_number}
use Rattle.wf_send_parts.proofs.Kept.{kept_push}
use Rattle.wf_recv_marks.proofs.marks.Marks.open.Goals as goal

pub invariant_of-self : goal.invariant_of-self
invariant_of-self c =
    kept_push mark_number c.self.inside.list.items c.args.self.now _ _ _ _ c.self.invariant c.self.view_is
    c.requires.room c.requires.above c.push_reserved.ensures.items c.push_reserved.ensures.capacity
