-- Proves the contract of `Reorder::end` as a move of the window past all its places.
use Rattle.std.proofs.Common.{◌++◌, ◌∙◌, ap}
use Rattle.wf_recv_peer.specs.Buffer.{Buffer, items_below, items_of, ended_buffer}
use Rattle.wf_recv_peer.proofs.Places.{window_of, first_room, moved_past, all_below, ended_settled}
use Rattle.wf_recv_peer.proofs.recipient.reorder.Reorder.end.Goals as goal

pub move_on-requires : goal.move_on-requires
move_on-requires c = first_room c.size-size.result c.args.up.now c.self.inside.slots
    (window_of c.self.inside.slots c.self.invariant) c.requires

pub invariant_of-self : goal.invariant_of-self
invariant_of-self c =
    let window = window_of c.self.inside.slots c.self.invariant in
    ended_settled c.self.inside.slots c.move_on.new.self window
    (moved_past c.size-size.result c.self.inside.slots c.move_on.new.self window c.size-size.ensures.size
    c.move_on.ensures.slots)

pub returns : goal.returns
returns c =
    let window = window_of c.self.inside.slots c.self.invariant in
    record {
      up = c.move_on.ensures.up
          ∙ ap (λ up. up ++ items_below c.size-size.result c.self.inside.slots) c.requires
          ∙ all_below c.size-size.result c.self.inside.slots window c.size-size.ensures.size
          ∙ ap (λ (t : Buffer). items_of t.places) c.self.view_is;
      after = moved_past c.size-size.result c.self.inside.slots c.move_on.new.self window
          c.size-size.ensures.size c.move_on.ensures.slots
          ∙ ap ended_buffer c.self.view_is;
    }
