-- The head and the part of the bitmap belong to the shortest element, which has the layout.
use Rattle.std.proofs.Common.{◌∙◌, ℕ, ◌+◌, ◌-◌, [], ◌∷◌, ◌++◌, false, ap, sym, refl, subst, arith, length, take, drop, length-take, length-drop}
use Rattle.wf_def_tim.specs.Tim.{tim_element, with_group_bit}
use Rattle.wf_octets.proofs.Places.{then_put}
use Rattle.wf_octets.specs.declared.tim.Tim.{Tim}
use Rattle.wf_octets.specs.Tim.{IsTim, aids_of, octets_between}
use Rattle.wf_octets.proofs.Elements.{element_is, octets_bound, shortest_is_tim, bit_is, bit_is_tim}
use Rattle.wf_octets.proofs.tim.encode_tim.Goals as goal

pub returns-clause-octets : goal.returns-clause-octets
returns-clause-octets c =
    let first = c.octets_of-first.result.0 in
    let last = c.octets_of-first.result.1 in
    let tim = c.args.tim in
    let xs = take (last + 1 - first) (drop first c.bitmap_of-ends.result.0) in
    let of_ends = c.octets_of-first.ensures ∙ ap octets_between c.bitmap_of-ends.ensures.ends in
    let bound = octets_bound c.bitmap_of-ends.result.1
    (length c.args.present.now) c.requires.room c.bitmap_of-ends.ensures.within in
    let lower = ap (λ p. p.0) c.octets_of-first.ensures in
    let upper = ap (λ p. p.1) c.octets_of-first.ensures in
    then_put c.put.ensures.up_to_it c.put-end.ensures.up_to_it refl
    ∙ ap (λ b. (5 ∷ (last - first + 4) ∷ tim.count ∷ tim.period ∷ (first + b) ∷ []) ++ xs) c.from.ensures
    ∙ bit_is tim.group (last - first + 4) tim.count tim.period first xs
    ∙ ap (with_group_bit tim.group)
    (element_is (aids_of c.args.present.now) c.bitmap_of-ends.result.0 tim.count tim.period first last
    (ap (λ p. p.0) of_ends) (ap (λ p. p.1) of_ends) (omega arith) c.bitmap_of-ends.ensures.octets
    (omega (arith, lower, upper, bound.0)) (omega (arith, upper, bound.1)))

pub returns-clause-size : goal.returns-clause-size
returns-clause-size c =
    let bound = octets_bound c.bitmap_of-ends.result.1
    (length c.args.present.now) c.requires.room c.bitmap_of-ends.ensures.within in
    let lower = ap (λ p. p.0) c.octets_of-first.ensures in
    let upper = ap (λ p. p.1) c.octets_of-first.ensures in
    omega (
      arith,
      ap length (returns-clause-octets c),
      length-take c.put.result c.put.new.out,
      c.put.ensures.place,
      length-take {A = ℕ},
      length-drop {A = ℕ},
      lower,
      upper,
      bound.0,
      bound.1,
    )

pub returns-clause-layout : goal.returns-clause-layout
returns-clause-layout c =
    let plain : Tim = record c.args.tim { group = false } in
    subst (λ xs. IsTim xs c.args.tim c.args.present.now) (sym (returns-clause-octets c))
    (bit_is_tim c.args.tim.group plain
    (tim_element c.args.tim.count c.args.tim.period (aids_of c.args.present.now))
    c.args.present.now refl
    (shortest_is_tim c.args.present.now plain (aids_of c.args.present.now) c.requires.room refl refl))
