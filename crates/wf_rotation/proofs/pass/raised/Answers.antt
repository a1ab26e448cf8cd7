-- The quanta that are added are the least of the visits and of the need, so the deficit stays within its
-- bounds.
use Rattle.std.proofs.Common.{◌≡◌, ◌*◌, ◌^◌, ◌-◌, min, arith}
use Rattle.std.specs.Prelude.{pos, negsuc, ◌≤ℤ◌, ◌<ℤ◌}
use mir.Val.{to_z, of_z}
use mir.Syntax.{w64}
use Rattle.std.proofs.lemmas.Int.{ints}
use Rattle.wf_def_rotation.specs.Rotation.{need_of}
use Rattle.wf_rotation.proofs.NeedLemmas.{Lifted, lifted}
use Rattle.wf_rotation.proofs.pass.raised.Goals as goal

pub overflow_add-result : goal.overflow_add-result
overflow_add-result c =
    let up : Lifted c.args.deficit c.args.quantum c.args.visits =
    lifted c.args.deficit c.args.quantum c.args.visits c.requires.positive c.ranges.quantum.fits
    c.requires.low c.requires.high in
    let low : negsuc (2 ^ 62 - 1) ≤ℤ c.args.deficit = c.requires.low in
    let high : c.args.deficit <ℤ pos (2 ^ 32) = c.requires.high in
    let plain : to_z w64 (of_z w64 c.args.deficit) ≡ c.args.deficit = omega (arith, ints) in
    let few : c.min-quanta.result ≡ min c.args.visits (need_of c.args.quantum c.args.deficit) =
    (let needed : c.need_of.result ≡ need_of c.args.quantum c.args.deficit =
    rw plain at c.need_of.ensures.need in rw (← needed) (omega (arith, c.min-quanta.ensures))) in
    let product : c.min-quanta.result * c.from.result
    ≡ min c.args.visits (need_of c.args.quantum c.args.deficit) * c.args.quantum =
    rw (few, c.from.ensures) in
    rw product (omega (arith, ints, up.fits, up.high, up.low))

pub returns-clause-value : goal.returns-clause-value
returns-clause-value c =
    let up : Lifted c.args.deficit c.args.quantum c.args.visits =
    lifted c.args.deficit c.args.quantum c.args.visits c.requires.positive c.ranges.quantum.fits
    c.requires.low c.requires.high in
    let low : negsuc (2 ^ 62 - 1) ≤ℤ c.args.deficit = c.requires.low in
    let high : c.args.deficit <ℤ pos (2 ^ 32) = c.requires.high in
    let plain : to_z w64 (of_z w64 c.args.deficit) ≡ c.args.deficit = omega (arith, ints) in
    let few : c.min-quanta.result ≡ min c.args.visits (need_of c.args.quantum c.args.deficit) =
    (let needed : c.need_of.result ≡ need_of c.args.quantum c.args.deficit =
    rw plain at c.need_of.ensures.need in rw (← needed) (omega (arith, c.min-quanta.ensures))) in
    let product : c.min-quanta.result * c.from.result
    ≡ min c.args.visits (need_of c.args.quantum c.args.deficit) * c.args.quantum =
    rw (few, c.from.ensures) in
    rw product (omega (arith, ints, up.fits, up.high, up.low))

pub returns-clause-low : goal.returns-clause-low
returns-clause-low c = rw (returns-clause-value c)
    (lifted c.args.deficit c.args.quantum c.args.visits c.requires.positive c.ranges.quantum.fits
    c.requires.low c.requires.high).low

pub returns-clause-high : goal.returns-clause-high
returns-clause-high c = rw (returns-clause-value c)
    (lifted c.args.deficit c.args.quantum c.args.visits c.requires.positive c.ranges.quantum.fits
    c.requires.low c.requires.high).high
