-- The leaf is on the list, at its end or instead of the oldest, whose value the tree then has.
use Rattle.std.proofs.Common.{◌≡◌, ◌∙◌, ◌<◌, ℕ, List, length, ap, arith}
use Rattle.std.specs.Prelude.{slice_index, slice_set}
use Rattle.std.proofs.lemmas.List.{get_or_read}
use Rattle.wf_queue_parts.proofs.LazyLemmas.{set_first, replaced}
use Rattle.wf_queue_parts.proofs.peak.lazy.LazyPeak.set_first.Goals as goal

pub invariant_of-self : goal.invariant_of-self
invariant_of-self c =
    let here : c.args.leaf < length c.self.inside.values.items =
    omega (arith, c.requires, ap (λ (xs : List ℕ). length xs) c.self.view_is) in (
      rw c.push_reserved.ensures.items (set_first _ _ _ _ c.args.leaf c.args.value c.self.invariant.0 here
          (omega (arith, c.if-len-lt-MOST_PENDING.true))),
      omega (arith, c.push_reserved.ensures.capacity, c.self.invariant.1),
      c.self.invariant.2,
    )

pub invariant_of-self-2 : goal.invariant_of-self-2
invariant_of-self-2 c =
    let here : c.args.leaf < length c.self.inside.values.items =
    omega (arith, c.requires, ap (λ (xs : List ℕ). length xs) c.self.view_is) in
    let place : c.self.inside.turn < length c.self.inside.pending.items =
    omega (arith, c.self.invariant.2, c.if-len-lt-MOST_PENDING.false) in
    let oldest : c.index-oldest.result.now ≡ slice_index c.self.inside.pending.items c.self.inside.turn =
    get_or_read c.self.inside.pending.items c.self.inside.turn c.index-oldest.result.now place
    c.index-oldest.ensures 0 in
    let tree : c.bring.new.tree ≡ slice_set c.self.inside.tree c.index-oldest.result.now
    (slice_index (slice_set c.self.inside.values.items c.args.leaf c.args.value) c.index-oldest.result.now) =
    c.bring.ensures.tree ∙ ap (λ (xs : List ℕ). slice_set c.self.inside.tree c.index-oldest.result.now
    (slice_index xs c.index-oldest.result.now)) c.deref.ensures.value in (
      rw (tree, c.bring.ensures.flag) (replaced _ _ _ _ c.args.leaf c.args.value c.self.inside.turn
          c.index-oldest.result.now c.self.invariant.0 here place oldest),
      c.self.invariant.1,
      omega arith,
    )
