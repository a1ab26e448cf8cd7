-- Proves the contract of `Reorder::store` for a number without an item, as a store and a release.
use Rattle.std.proofs.Common.{◌<◌, ◌++◌, ◌∙◌, sym, subst}
use Rattle.wf_recv_peer.specs.Buffer.{Buffer, HasOneMore, items_of}
use Rattle.wf_recv_peer.proofs.Places.{window_of, window_stored, settled_after, stored_room, stored_once}
use Rattle.wf_recv_peer.proofs.recipient.reorder.Reorder.store.Goals as goal

pub release-requires : goal.release-requires
release-requires c =
    stored_room c.args.place c.args.item c.args.up.now c.self.inside.slots c.store.new.self
    (window_of c.self.inside.slots c.self.invariant) c.requires.empty c.store.ensures

pub invariant_of-self : goal.invariant_of-self
invariant_of-self c =
    settled_after c.args.up.now c.store.new.self c.release.new.self
    (window_stored c.args.place c.args.item c.self.inside.slots c.store.new.self
    (window_of c.self.inside.slots c.self.invariant) c.store.ensures)
    c.release.ensures.slots

pub returns-clause-each_once : goal.returns-clause-each_once
returns-clause-each_once c =
    subst (λ (t : Buffer). HasOneMore c.args.item (items_of t.places)
    (c.release.new.up ++ items_of c.release.new.self.places)) c.self.view_is
    (stored_once c.args.place c.args.item c.self.inside.slots c.store.new.self c.args.up.now c.release.new.up
    c.release.new.self
    (window_of c.self.inside.slots c.self.invariant)
    (subst (λ (t : Buffer). c.args.place < t.size) (sym c.self.view_is) c.requires.place)
    (sym c.holds.ensures ∙ c.if-holds.false) c.requires.empty c.store.ensures c.release.ensures.up
    c.release.ensures.slots)
