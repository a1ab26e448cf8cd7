-- The buffer stores the frame and releases the same frames as the definition.
use Rattle.std.proofs.Common.{◌≡◌, ◌+◌, ◌++◌, ◌∙◌, List, [], length, map, ap, sym, subst, arith, if◌then◌else◌}
use Rattle.wf_uplink.specs.Reordering.{Reordering, Passed, settled, with_frame}
use Rattle.wf_uplink.specs.Shown.{item_of}
use Rattle.wf_uplink.specs.Standing.{IsBufferFrom, frames_from, reordering_of_buffer}
use Rattle.wf_uplink.proofs.Standing.{IsPut, put}
use Rattle.wf_uplink.proofs.sequencer.Sequencer.store.Goals as goal
use Rattle.wf_uplink.proofs.sequencer.Sequencer.store.Goals.{After-is_some}

pub raise-self-inside-requires-clause-room : goal.raise-self-inside-requires-clause-room
raise-self-inside-requires-clause-room c =
    let p = put c.self.inside.start c.self.inside.window c.self.inside.since c.args.number c.args.id
    c.self.inside.buffer c.arrive-back.new.self c.arrive-back.new.up c.arrive-back.result
    c.args.self.now c.self.view_is c.self.invariant c.requires.from c.requires.within c.of.result c.of.ensures
    c.arrive-back.ensures.up c.arrive-back.ensures.back c.arrive-back.ensures.after in
    omega (arith, p.few, c.requires.room)

puts : (c : After-is_some) → IsPut c.self.inside.window c.self.inside.since c.args.number c.args.id
    c.arrive-back.new.self c.arrive-back.new.up c.arrive-back.result c.args.self.now
puts c =
    put c.self.inside.start c.self.inside.window c.self.inside.since c.args.number c.args.id
    c.self.inside.buffer c.arrive-back.new.self c.arrive-back.new.up c.arrive-back.result
    c.args.self.now c.self.view_is c.self.invariant c.requires.from c.requires.within c.of.result c.of.ensures
    c.arrive-back.ensures.up c.arrive-back.ensures.back c.arrive-back.ensures.after

pub invariant_of-self : goal.invariant_of-self
invariant_of-self c =
    let at = ap (λ (q : Reordering). q.start) c.self.view_is in
    subst (λ n. IsBufferFrom n c.self.inside.window c.arrive-back.new.self)
    (ap (λ n. n + length c.arrive-back.new.up) (sym at) ∙ sym c.raise-self-inside.ensures.next)
    (puts c).kept

pub returns : goal.returns
returns c =
    let p = puts c in
    let at = ap (λ (q : Reordering). q.start) c.self.view_is in
    let next : c.raise-self-inside.result ≡ c.args.self.now.start + length c.arrive-back.new.up =
    c.raise-self-inside.ensures.next ∙ ap (λ n. n + length c.arrive-back.new.up) at in
    record {
      stored = c.is_some.ensures ∙ p.stored;
      after = ap (λ n. reordering_of_buffer n c.self.inside.window c.self.inside.since c.arrive-back.new.self)
          next ∙ p.after
          ∙ ap (λ t. if t then c.args.self.now else (settled
          (with_frame c.args.number c.args.id c.args.self.now)).after) (sym c.is_some.ensures);
      items = c.raise-self-inside.ensures.items
          ∙ ap (λ n. c.args.items.now ++ map item_of (frames_from n c.arrive-back.new.up)) at
          ∙ ap (λ (ys : List Passed). c.args.items.now ++ map item_of ys)
          (p.items ∙ ap (λ t. if t then [] else (settled
          (with_frame c.args.number c.args.id c.args.self.now)).passed) (sym c.is_some.ensures));
    }
