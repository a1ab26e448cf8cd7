-- Proves that `Slots::store` keeps the count of items, by cases of whether the place held one.
use Rattle.std.proofs.Common.{◌≡◌, ◌<◌, ◌∙◌, true, false, length, get_or, None, is_some, ap, sym, subst, arith, length-set}
use Rattle.wf_recv_peer.specs.Buffer.{Buffer}
use Rattle.wf_recv_peer.proofs.Places.{stored_more, stored_same}
use Rattle.wf_recv_peer.proofs.recipient.reorder.Slots.store.Goals as goal

pub invariant_of-self : goal.invariant_of-self
invariant_of-self c =
    let here : is_some (get_or c.args.self.now.places c.args.place None) ≡ false =
    sym c.holds-is_more.ensures ∙ c.if-is_more.true in
    let at : is_some (get_or c.self.inside.ring.items c.from.result None) ≡ false =
    subst (λ n. is_some (get_or c.self.inside.ring.items n None) ≡ false) (sym c.from.ensures)
    (subst (λ (b : Buffer). is_some (get_or b.places c.args.place None) ≡ false) (sym c.self.view_is) here) in
    let low : c.from.result < length c.self.inside.ring.items = omega (
      arith,
      c.requires,
      c.from.ensures,
      ap (λ (b : Buffer). b.size) c.self.view_is,
      c.self.invariant.3,
    ) in (
      c.self.invariant.0,
      c.self.invariant.1,
      c.self.invariant.2,
      length-set _ _ _ ∙ c.self.invariant.3,
      c.self.invariant.4,
      c.self.invariant.5,
      omega (
        arith,
        c.self.invariant.6,
        stored_more c.self.inside.ring.items c.from.result c.args.item low at,
      ),
    )

pub invariant_of-self-else-is_more : goal.invariant_of-self-else-is_more
invariant_of-self-else-is_more c =
    let here : is_some (get_or c.args.self.now.places c.args.place None) ≡ true =
    sym c.holds-is_more.ensures ∙ c.if-is_more.false in
    let at : is_some (get_or c.self.inside.ring.items c.from.result None) ≡ true =
    subst (λ n. is_some (get_or c.self.inside.ring.items n None) ≡ true) (sym c.from.ensures)
    (subst (λ (b : Buffer). is_some (get_or b.places c.args.place None) ≡ true) (sym c.self.view_is)
    here) in (
      c.self.invariant.0,
      c.self.invariant.1,
      c.self.invariant.2,
      length-set _ _ _ ∙ c.self.invariant.3,
      c.self.invariant.4,
      c.self.invariant.5,
      c.self.invariant.6 ∙ sym (stored_same c.self.inside.ring.items c.from.result c.args.item at),
    )
