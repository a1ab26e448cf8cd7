-- The buffer's answer to a BlockAckReq is the move of the definition.
use Rattle.std.proofs.Common.{◌-◌, ◌%◌, ◌∙◌, ◌++◌, ◌∷◌, [], length, map, refl, ap, ap₂, sym, subst, arith, append_assoc, length-append}
use Rattle.wf_uplink.specs.declared.items.UpItem.TheVariants.{Gap}
use Rattle.wf_uplink.specs.Reordering.{Reordering}
use Rattle.wf_recv_peer.specs.Buffer.{request_outcome}
use Rattle.wf_uplink.specs.Shown.{item_of}
use Rattle.wf_uplink.specs.Standing.{IsBufferFrom, frames_from, reordering_of_buffer}
use Rattle.wf_uplink.proofs.Standing.{IsSkipped, skip}
use Rattle.wf_uplink.proofs.sequencer.Sequencer.skip_to.Goals as goal

skips : (c : goal.After-self-1) → IsSkipped c.self.inside.window c.self.inside.since c.args.next
    c.self.inside.buffer c.bar.new.self c.bar.new.up c.args.self.now
skips c =
    skip c.self.inside.start c.self.inside.window c.self.inside.since c.args.next c.self.inside.buffer
    c.bar.new.self c.bar.new.up c.args.self.now c.self.view_is c.self.invariant
    c.requires.forward c.requires.near c.requires.first c.of.result c.of.ensures c.bar.ensures.up
    c.bar.ensures.after

pub push-requires : goal.push-requires
push-requires c =
    let t = skip c.self.inside.start c.self.inside.window c.self.inside.since c.args.next c.self.inside.buffer
    (request_outcome (c.args.next % 4096) c.self.inside.buffer).after
    (request_outcome (c.args.next % 4096) c.self.inside.buffer).up c.args.self.now c.self.view_is
    c.self.invariant c.requires.forward c.requires.near c.requires.first
    (c.args.next % 4096) refl refl refl in
    omega (arith, t.many, c.requires.room)

pub raise-self-inside-requires : goal.raise-self-inside-requires
raise-self-inside-requires c =
    let t = skip c.self.inside.start c.self.inside.window c.self.inside.since c.args.next c.self.inside.buffer
    c.bar.new.self c.bar.new.up c.args.self.now c.self.view_is c.self.invariant
    c.requires.forward c.requires.near c.requires.first c.of.result c.of.ensures c.bar.ensures.up
    c.bar.ensures.after in
    let more = ap length c.push.ensures ∙ length-append c.args.items.now
    (Gap c.raw-from.result (c.args.next - c.self.inside.start) ∷ []) in
    record {
      low = omega (arith, c.requires.near, c.requires.low);
      room =
          omega (arith, more, t.many, c.requires.room);
    }

pub returns-clause-items : goal.returns-clause-items
returns-clause-items c =
    c.raise-self-inside.ensures.items ∙ ap (λ us. us ++ map item_of (frames_from c.args.next c.bar.new.up))
    c.push.ensures
    ∙ append_assoc c.args.items.now (Gap c.raw-from.result (c.args.next - c.self.inside.start) ∷ [])
    (map item_of (frames_from c.args.next c.bar.new.up))
    ∙ ap (λ ys. c.args.items.now ++ ys) (ap₂ (λ n m. Gap n (c.args.next - m)
    ∷ map item_of (frames_from c.args.next c.bar.new.up)) (c.raw-from.ensures.number ∙ c.start.ensures)
    (ap (λ (r : Reordering). r.start) c.self.view_is) ∙ sym (skips c).items)

pub returns-clause-after : goal.returns-clause-after
returns-clause-after c =
    ap (λ n. reordering_of_buffer n c.self.inside.window c.self.inside.since c.bar.new.self)
    c.raise-self-inside.ensures.next ∙ (skips c).after

pub invariant_of-self : goal.invariant_of-self
invariant_of-self c = subst (λ n. IsBufferFrom n c.self.inside.window c.bar.new.self)
    (sym c.raise-self-inside.ensures.next) (skips c).kept
