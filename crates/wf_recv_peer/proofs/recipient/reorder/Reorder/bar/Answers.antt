-- Proves the contract of `Reorder::bar` for a newer start, as a move of the window and a release.
use Rattle.std.proofs.Common.{◌++◌, ◌∙◌, ap}
use Rattle.wf_recv_peer.specs.Buffer.{Buffer, items_of, items_below}
use Rattle.wf_recv_peer.proofs.Places.{window_of, window_moved, settled_after, first_room, moved_room, requested_once}
use Rattle.wf_recv_peer.proofs.recipient.reorder.Reorder.bar.Goals as goal

pub move_on-requires : goal.move_on-requires
move_on-requires c = first_room c.ahead.result c.args.up.now c.self.inside.slots
    (window_of c.self.inside.slots c.self.invariant) c.requires

pub release-requires : goal.release-requires
release-requires c =
    moved_room c.ahead.result c.move_on.new.up c.self.inside.slots c.move_on.new.self
    (window_of c.self.inside.slots c.self.invariant)
    (c.move_on.ensures.up ∙ ap (λ up. up ++ items_below c.ahead.result c.self.inside.slots) c.requires)
    c.move_on.ensures.slots

pub invariant_of-self : goal.invariant_of-self
invariant_of-self c =
    settled_after c.move_on.new.up c.move_on.new.self c.release.new.self
    (window_moved c.ahead.result c.self.inside.slots c.move_on.new.self
    (window_of c.self.inside.slots c.self.invariant) c.move_on.ensures.slots)
    c.release.ensures.slots

pub returns-then-is_newer-clause-each_once : goal.returns-then-is_newer-clause-each_once
returns-then-is_newer-clause-each_once c =
    requested_once c.ahead.result c.self.inside.slots c.move_on.new.self c.move_on.new.up c.release.new.up
    c.release.new.self
    (c.move_on.ensures.up ∙ ap (λ up. up ++ items_below c.ahead.result c.self.inside.slots) c.requires)
    c.move_on.ensures.slots c.release.ensures.up c.release.ensures.slots
    ∙ ap (λ (t : Buffer). items_of t.places) c.self.view_is
