-- A new rota satisfies its invariant, since no key has a home and every deficit is the quantum.
use Rattle.std.proofs.Common.{◌≡◌, rules, arith, replicate, None, Option}
use Rattle.std.specs.Prelude.{pos}
use mir.Val.{to_z, of_z}
use mir.Syntax.{w64}
use Rattle.std.proofs.lemmas.Int.{ints}
use Rattle.wf_rotation.specs.declared.rota.Home.{Home}
use Rattle.wf_rotation.proofs.HomeLemmas.{kept_new}
use Rattle.wf_rotation.proofs.rota.Rota.new.Goals as goal

pub invariant_of-result : goal.invariant_of-result
invariant_of-result c =
    let homes : c.in_ok-homes.homes.items ≡ replicate {A = Option Home} c.args.keys None = search rules in
    let deficits : c.in_ok-deficits.deficits.items ≡ replicate c.args.keys (pos c.args.quantum) =
    (let f : c.from.result ≡ pos c.args.quantum = c.from.ensures in
    let plain : to_z w64 (of_z w64 c.from.result) ≡ pos c.args.quantum =
    omega (arith, ints, f, c.ranges.quantum.fits) in
    rw plain at (c.in_ok-deficits.ensures.items_if_clones_equal (λ y e. e))) in
    let quanta : c.in_ok-quanta.quanta.items ≡ replicate c.args.keys c.args.quantum =
    c.in_ok-quanta.ensures.items_if_clones_equal (λ y e. e) in
    kept_new _ _ _ _ c.args.keys c.args.lists c.args.quantum c.in_ok-links.ensures homes deficits quanta
    c.requires.positive c.ranges.quantum.fits c.ranges.keys.fits
