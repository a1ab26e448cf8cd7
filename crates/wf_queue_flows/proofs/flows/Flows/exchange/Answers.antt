-- The count of the dropped frame's TID falls by one, and that of the new frame's TID rises by one.
use Rattle.std.proofs.Common.{arith}
use Rattle.wf_queue_flows.proofs.Leaves.{drop_fits, exchange_fits, exchange_keeps}
use Rattle.wf_queue_flows.proofs.flows.Flows.exchange.Goals as goal

pub overflow_sub-index_mut : goal.overflow_sub-index_mut
overflow_sub-index_mut c = drop_fits _ _ _ c.self.view_is c.self.invariant c.args.from.queue _
    c.args.from.list
    c.requires.from c.requires.loser c.requires.lists c.requires.frames c.index_mut.ensures.value

pub overflow_add-index_mut : goal.overflow_add-index_mut
overflow_add-index_mut c =
    let small = exchange_fits _ _ _ c.self.view_is c.self.invariant c.args.from.queue _ c.args.from.list
    c.requires.from c.requires.loser c.requires.lists c.requires.frames c.index_mut.ensures.value
    c.args.to.list _ c.requires.list c.requires.room c.index_mut-2.ensures.value in
    omega arith

pub invariant_of-self : goal.invariant_of-self
invariant_of-self c = exchange_keeps _ _ _ c.self.view_is c.self.invariant c.args.from.queue _
    c.args.from.list
    c.requires.from c.requires.loser c.requires.lists c.requires.frames c.index_mut.ensures.value
    c.args.to.list
    c.args.to.queue _ c.args.parcel c.exchange-id.new.self c.requires.list c.requires.to c.requires.listed
    c.index_mut-2.ensures.value c.exchange-id.ensures.exchanged
