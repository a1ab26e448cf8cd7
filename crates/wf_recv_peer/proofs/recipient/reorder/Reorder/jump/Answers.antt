-- Proves the contract of `Reorder::jump` as a move of the window, a store at its end, and a release.
use Rattle.std.proofs.Common.{◌++◌, ◌-◌, ◌∙◌, ap, subst}
use Rattle.wf_recv_peer.specs.Buffer.{Buffer, HasOneMore, items_of, items_below}
use Rattle.wf_recv_peer.proofs.Places.{window_of, window_moved, window_stored, settled_after, first_room, jumped_room, jumped_once}
use Rattle.wf_recv_peer.proofs.recipient.reorder.Reorder.jump.Goals as goal

pub move_on-requires : goal.move_on-requires
move_on-requires c = first_room c.args.past c.args.up.now c.self.inside.slots
    (window_of c.self.inside.slots c.self.invariant) c.requires.empty

pub release-requires : goal.release-requires
release-requires c =
    jumped_room c.args.past (c.size-last.result - 1) c.args.item c.move_on.new.up c.self.inside.slots
    c.move_on.new.self c.store.new.self c.self.invariant
    (c.move_on.ensures.up ∙ ap (λ up. up ++ items_below c.args.past c.self.inside.slots) c.requires.empty)
    c.move_on.ensures.slots c.store.ensures

pub invariant_of-self : goal.invariant_of-self
invariant_of-self c =
    settled_after c.move_on.new.up c.store.new.self c.release.new.self
    (window_stored (c.size-last.result - 1) c.args.item c.move_on.new.self c.store.new.self
    (window_moved c.args.past c.self.inside.slots c.move_on.new.self
    (window_of c.self.inside.slots c.self.invariant) c.move_on.ensures.slots)
    c.store.ensures)
    c.release.ensures.slots

pub returns-clause-each_once : goal.returns-clause-each_once
returns-clause-each_once c =
    subst (λ (t : Buffer). HasOneMore c.args.item (items_of t.places)
    (c.release.new.up ++ items_of c.release.new.self.places)) c.self.view_is
    (jumped_once c.args.past (c.size-last.result - 1) c.args.item c.self.inside.slots c.move_on.new.self
    c.store.new.self c.move_on.new.up
    c.release.new.up c.release.new.self (window_of c.self.inside.slots c.self.invariant) c.requires.past
    (ap (λ k. k - 1) (c.size-last.ensures.size ∙ ap (λ (t : Buffer). t.size) c.move_on.ensures.slots))
    (c.move_on.ensures.up ∙ ap (λ up. up ++ items_below c.args.past c.self.inside.slots) c.requires.empty)
    c.move_on.ensures.slots c.store.ensures c.release.ensures.up c.release.ensures.slots)
