-- After one more key the lists and the deficits equal those after a pass over that key too.
use Rattle.std.proofs.Common.{◌≡◌, ◌∙◌, ap, refl, length, get_or, subst, arith, length-set, min}
use Rattle.wf_rotation.specs.Lists.{lists_at}
use Rattle.wf_rotation.specs.Pass.{HasPassed, side_at, way, lists_after, place_in}
use Rattle.wf_rotation.proofs.PassLemmas.{pass_none, visit_first, visit_passed, visit_last}
use Rattle.wf_rotation.proofs.rota.Rota.pass.Goals as goal

pub loop-i-init : goal.loop-i-init
loop-i-init c = record {
  passed = λ visits stay shares. pass_none c.args.course c.args.self.now c.args.list visits stay;
  last = λ visits stay shares.
      let none : min 0 (place_in c.args.course) ≡ 0 = omega arith in
      rw none refl;
  count = refl;
}

pub pass_key-passed-requires-clause-in_lists : goal.pass_key-passed-requires-clause-in_lists
pass_key-passed-requires-clause-in_lists c =
    let ok : HasPassed c.args.course c.args.self.now c.args.list c.requires.shares.0 c.requires.shares.1
    c.loop-i.i c.loop-i.self = c.loop-i.invariant.passed _ _ c.requires.shares.2 in
    omega (
      arith,
      ap length ok.lists,
      length-set c.args.self.now.lists c.args.list
          (lists_after c.args.course (lists_at c.args.self.now.lists c.args.list) c.requires.shares.1
          c.loop-i.i),
      c.requires.in_lists,
    )

pub pass_key-passed-requires-clause-ready : goal.pass_key-passed-requires-clause-ready
pass_key-passed-requires-clause-ready c =
    let ok : HasPassed c.args.course c.args.self.now c.args.list c.requires.shares.0 c.requires.shares.1
    c.loop-i.i c.loop-i.self = c.loop-i.invariant.passed _ _ c.requires.shares.2 in
    omega (arith, ok.keys, c.requires.ready)

pub pass_key-passed-requires-clause-some : goal.pass_key-passed-requires-clause-some
pass_key-passed-requires-clause-some c = (
  get_or (way c.args.course (lists_at c.args.self.now.lists c.args.list)) c.loop-i.i 0,
  visit_first c.args.course c.args.self.now c.args.ready.now c.args.list c.requires.shares.0
      c.requires.shares.1 c.loop-i.i c.loop-i.self c.side_at.result c.requires.shares.2
      (c.loop-i.invariant.passed _ _ c.requires.shares.2)
      c.requires.disjoint c.requires.in_lists (omega (arith, c.requires.count))
      (c.side_at.ensures ∙ ap (λ n. side_at n c.loop-i.i) c.requires.olds),
)

pub loop-i-preserved : goal.loop-i-preserved
loop-i-preserved c = record {
  passed = λ visits stay shares. visit_passed c.args.course c.args.self.now c.args.ready.now c.args.list
      visits
      stay c.loop-i.i c.loop-i.self c.side_at.result shares (c.loop-i.invariant.passed visits stay shares)
      c.requires.disjoint c.requires.in_lists (omega (arith, c.requires.count))
      (c.side_at.ensures ∙ ap (λ n. side_at n c.loop-i.i) c.requires.olds) c.pass_key-passed.new.self
      c.pass_key-passed.ensures.passed;
  last = λ visits stay shares. visit_last c.args.course c.args.self.now c.args.ready.now c.args.list visits
      stay c.loop-i.i c.loop-i.self c.side_at.result shares (c.loop-i.invariant.passed visits stay shares)
      c.requires.disjoint c.requires.in_lists (omega (arith, c.requires.count))
      (c.side_at.ensures ∙ ap (λ n. side_at n c.loop-i.i) c.requires.olds) c.loop-i.passed.last
      c.pass_key-passed.result (c.loop-i.invariant.last visits stay shares) c.pass_key-passed.ensures.last;
  count = omega (arith, c.loop-i.invariant.count);
}

pub returns-clause-passed : goal.returns-clause-passed
returns-clause-passed c = λ visits stay shares.
    let end : c.loop-i.i ≡ c.args.count = omega arith in
    subst (λ n. HasPassed c.args.course c.args.self.now c.args.list visits stay n c.loop-i.self) end
    (c.loop-i.invariant.passed visits stay shares)

pub returns-clause-last : goal.returns-clause-last
returns-clause-last c = λ visits stay shares.
    let end : c.loop-i.i ≡ c.args.count = omega arith in
    rw end at (c.loop-i.invariant.last visits stay shares)
