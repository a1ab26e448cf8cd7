-- The chain is cut before the key, and its end is linked to its old start, in both directions.
use Rattle.std.proofs.Common.{◌∷◌, ◌∙◌, sym, subst, arith, length-set}
use Rattle.wf_rotation.specs.declared.side.Side.TheVariants.{Old}
use Rattle.wf_rotation.proofs.LinkLemmas.{head_there, tail_there, first_some, ends_read, not_empty, chains_disjoint}
use Rattle.wf_rotation.proofs.RotateLemmas.{rotate_read}
use Rattle.wf_rotation.specs.Lists.{AreDisjoint}
use Rattle.wf_rotation.specs.Links.{AreBacks}
use Rattle.wf_rotation.proofs.BackLemmas.{backs_rotated}
use Rattle.wf_rotation.proofs.links.Links.rotate.Goals as goal

pub index-first-requires : goal.index-first-requires
index-first-requires c = omega (
  arith,
  head_there c.args.list Old c.self.invariant.0 c.self.invariant.1 c.self.view_is
      c.requires.in_lists c.slot-old.ensures,
)

pub index-last-requires : goal.index-last-requires
index-last-requires c = omega (
  arith,
  tail_there c.args.list Old c.self.invariant.0 c.self.invariant.1 c.self.view_is
      c.requires.in_lists c.slot-old.ensures,
)

pub index_mut-requires-3 : goal.index_mut-requires-3
index_mut-requires-3 c =
    let first = first_some c.args.list Old c.self.invariant.0 c.self.invariant.1 c.self.view_is
    c.requires.in_lists c.slot-old.ensures c.index-first.result.now c.index-first.ensures
    (λ e. not_empty c.requires.follows.0 c.args.before (c.args.key ∷ c.requires.follows.1)
    (sym c.requires.follows.2 ∙ e)) in
    omega (arith, first.0, c.self.invariant.2.keys)

pub index_mut-requires-4 : goal.index_mut-requires-4
index_mut-requires-4 c = omega (
  arith,
  head_there c.args.list Old c.self.invariant.0 c.self.invariant.1 c.self.view_is
      c.requires.in_lists c.slot-old.ensures,
)

pub index_mut-requires-5 : goal.index_mut-requires-5
index_mut-requires-5 c = omega (
  arith,
  tail_there c.args.list Old c.self.invariant.0 c.self.invariant.1 c.self.view_is
      c.requires.in_lists c.slot-old.ensures,
)

pub index_mut-requires : goal.index_mut-requires
index_mut-requires c =
    let rotated = rotate_read c.args.list c.args.before c.args.key c.self.invariant.0 c.self.invariant.1
    c.self.view_is c.requires.in_lists c.slot-old.ensures c.index-first.ensures c.index-last.ensures
    c.requires.follows.0 c.requires.follows.1 c.requires.follows.2 in
    omega (arith, rotated.2)

pub index_mut-requires-2 : goal.index_mut-requires-2
index_mut-requires-2 c =
    let rotated = rotate_read c.args.list c.args.before c.args.key c.self.invariant.0 c.self.invariant.1
    c.self.view_is
    c.requires.in_lists c.slot-old.ensures c.index-first.ensures c.index-last.ensures c.requires.follows.0
    c.requires.follows.1 c.requires.follows.2 in
    omega (arith, rotated.3)

pub invariant_of-self : goal.invariant_of-self
invariant_of-self c =
    let first = first_some c.args.list Old c.self.invariant.0 c.self.invariant.1 c.self.view_is
    c.requires.in_lists c.slot-old.ensures c.index-first.result.now c.index-first.ensures
    (λ e. not_empty c.requires.follows.0 c.args.before (c.args.key ∷ c.requires.follows.1)
    (sym c.requires.follows.2 ∙ e)) in
    let apart : AreDisjoint c.args.self.now = rw (← c.self.view_is, c.self.invariant.1)
    (chains_disjoint _ _ _ _ c.self.invariant.0) in
    let rotated = rotate_read c.args.list c.args.before c.args.key c.self.invariant.0 c.self.invariant.1
    c.self.view_is
    c.requires.in_lists c.slot-old.ensures c.index-first.ensures c.index-last.ensures c.requires.follows.0
    c.requires.follows.1 c.requires.follows.2 in (
      rotated.0,
      rw (length-set, length-set) c.self.invariant.1,
      rw rotated.1 (backs_rotated _ c.args.self.now c.args.list c.args.before c.args.key
          c.index-first.result.now
          c.index-last.result.now c.requires.follows.0 c.requires.follows.1 apart
          (subst (AreBacks _) c.self.view_is c.self.invariant.2) c.requires.in_lists c.requires.follows.2
          first.1
          (ends_read c.args.list Old c.self.invariant.0 c.self.invariant.1
          c.self.view_is c.requires.in_lists c.slot-old.ensures c.index-last.result.now
          c.index-last.ensures)),
    )

pub returns : goal.returns
returns c = λ ys zs follows.
    (rotate_read c.args.list c.args.before c.args.key c.self.invariant.0 c.self.invariant.1 c.self.view_is
    c.requires.in_lists
    c.slot-old.ensures c.index-first.ensures c.index-last.ensures ys zs follows).1
