-- The pass of the winner's course leaves the lists of the pick; the old list then begins with the winner.
use Rattle.std.proofs.Common.{◌≡◌, ◌∙◌, ◌<◌, ◌≤◌, ◌-◌, ℕ, Bool, refl, length, ap, sym, subst, arith, length-set, true}
use Rattle.std.specs.List.{filter}
use Rattle.wf_rotation.specs.Lists.{lists_at}
use Rattle.wf_rotation.specs.Rotas.{picked_at}
use Rattle.wf_rotation.specs.Pass.{HasPassed, WasPickedFrom, last_key, lists_after}
use Rattle.wf_rotation.specs.declared.pass.Course.TheVariants.{AtOnce, Later}
use Rattle.wf_rotation.proofs.WonLemmas.{now_old, now_count, now_winner, now_picked, place_low, gets, stay, later_shares, later_winner, later_last, later_kept, later_follows, later_visited_is, ahead}
use Rattle.wf_rotation.proofs.rota.Rota.settle.Goals as goal
use Rattle.wf_rotation.proofs.rota.Rota.settle.Goals.{After-pass-passed}

-- ---- the winner has round 0

pub overflow_sub-best : goal.overflow_sub-best
overflow_sub-best c = omega (
  arith,
  c.requires.olds,
  now_old c.args.self.now c.args.ready.now c.args.list c.requires.disjoint c.requires.in_lists c.args.best
      c.requires.won (omega arith),
)

pub pass-requires-clause-count : goal.pass-requires-clause-count
pass-requires-clause-count c =
    let fits : c.args.best.place - length (lists_at c.args.self.now.lists c.args.list).old
    ≤ length (lists_at c.args.self.now.lists c.args.list).new =
    now_count c.args.self.now c.args.ready.now c.args.list c.requires.disjoint c.requires.in_lists
    c.args.best c.requires.won (omega arith) in
    omega (arith, c.requires.olds)

pub pass-requires-clause-shares : goal.pass-requires-clause-shares
pass-requires-clause-shares c = ((λ y. 1), (λ y. true), (λ i low. refl))

pub returns-then-best-eq0-clause-picked : goal.returns-then-best-eq0-clause-picked
returns-then-best-eq0-clause-picked c =
    let now : c.args.best.rank ≡ 0 = omega arith in
    now_picked c.args.self.now c.args.ready.now c.args.list c.requires.disjoint c.requires.in_lists
    c.args.best c.requires.won now c.pass.new.self
    (subst (λ n. HasPassed AtOnce c.args.self.now c.args.list (λ y. 1) (λ y. true) n c.pass.new.self)
    (ap (λ n. c.args.best.place - n) c.requires.olds)
    (c.pass.ensures.passed (λ y. 1) (λ y. true) (λ i low. refl)))

pub returns-then-best-eq0-clause-winner : goal.returns-then-best-eq0-clause-winner
returns-then-best-eq0-clause-winner c = now_winner c.args.self.now c.args.ready.now c.args.list
    c.requires.disjoint c.requires.in_lists c.args.best c.requires.won (omega arith)

pub returns-then-best-eq0-clause-most : goal.returns-then-best-eq0-clause-most
returns-then-best-eq0-clause-most c = omega (
  arith,
  c.pass.ensures.count,
  place_low c.args.self.now c.args.ready.now c.args.list
      c.requires.disjoint c.requires.in_lists c.args.best c.requires.won,
  c.requires.count,
)

-- ---- the winner has a later round

pub pass-passed-requires-clause-shares : goal.pass-passed-requires-clause-shares
pass-passed-requires-clause-shares c = (
  gets c.args.self.now c.args.ready.now c.args.list c.requires.disjoint
      c.requires.in_lists c.args.best c.requires.won (omega arith),
  stay c.args.self.now c.args.ready.now c.args.list c.requires.disjoint c.requires.in_lists c.args.best
      c.requires.won (omega arith),
  later_shares c.args.self.now c.args.ready.now c.args.list
      c.requires.disjoint c.requires.in_lists c.args.best c.requires.won (omega arith),
)

later : (c : After-pass-passed) → 0 < c.args.best.rank
later c = omega arith

-- the visits of each key, and the keys that stay
abbrev visits : After-pass-passed → ℕ → ℕ
visits c = gets c.args.self.now c.args.ready.now c.args.list c.requires.disjoint c.requires.in_lists
    c.args.best c.requires.won (later c)

abbrev stays : After-pass-passed → ℕ → Bool
stays c = stay c.args.self.now c.args.ready.now c.args.list c.requires.disjoint c.requires.in_lists
    c.args.best c.requires.won (later c)

passed : (c : After-pass-passed) → HasPassed (Later c.args.best.rank c.args.best.place) c.args.self.now
    c.args.list (visits c) (stays c) c.args.count c.pass-passed.new.self
passed c = c.pass-passed.ensures.passed (visits c) (stays c) (later_shares c.args.self.now c.args.ready.now
    c.args.list c.requires.disjoint c.requires.in_lists c.args.best c.requires.won (later c))

-- the last key that stays before the winner
last : (c : After-pass-passed) → last_key (filter (stays c) c.requires.won.0.before)
    ≡ c.pass-passed.result.last
last c = sym (later_last c.args.self.now c.args.ready.now c.args.list c.requires.disjoint
    c.requires.in_lists c.args.best c.requires.won (later c) c.args.count c.pass-passed.result.last
    c.requires.count (c.pass-passed.ensures.last (visits c) (stays c) (later_shares c.args.self.now
    c.args.ready.now c.args.list c.requires.disjoint c.requires.in_lists c.args.best c.requires.won
    (later c))))

pub rotate_old-requires-clause-in_lists : goal.rotate_old-requires-clause-in_lists
rotate_old-requires-clause-in_lists c =
    let at = (goal.at.rotate_old-requires-clause-in_lists c).After-pass-passed in
    omega (
      arith,
      ap length (passed at).lists,
      length-set c.args.self.now.lists c.args.list
          (lists_after (Later c.args.best.rank c.args.best.place) (lists_at c.args.self.now.lists c.args.list)
          (stays at) c.args.count),
      c.requires.in_lists,
    )

pub rotate_old-requires-clause-follows : goal.rotate_old-requires-clause-follows
rotate_old-requires-clause-follows c =
    let at = (goal.at.rotate_old-requires-clause-follows c).After-pass-passed in (
      ahead c.args.self.now c.args.ready.now c.args.list c.requires.disjoint c.requires.in_lists c.args.best
          c.requires.won (later at) c.pass-passed.new.self c.args.count c.requires.count (passed at)
          c.in-Some.before (last at ∙ c.in-Some.is),
      filter (stays at) c.requires.won.0.after,
      later_follows c.args.self.now c.args.ready.now c.args.list c.requires.disjoint c.requires.in_lists
          c.args.best c.requires.won (later at) c.pass-passed.new.self c.args.count c.requires.count
          (passed at) c.in-Some.before (last at ∙ c.in-Some.is),
    )

pub returns-in-Some-clause-picked : goal.returns-in-Some-clause-picked
returns-in-Some-clause-picked c =
    let at = (goal.at.returns-in-Some-clause-picked c).After-pass-passed in
    subst (WasPickedFrom c.args.self.now c.args.list (picked_at c.args.self.now c.args.ready.now c.args.list))
    (sym (c.rotate_old.ensures _ _ (later_follows c.args.self.now c.args.ready.now c.args.list
    c.requires.disjoint c.requires.in_lists c.args.best c.requires.won (later at) c.pass-passed.new.self
    c.args.count c.requires.count (passed at) c.in-Some.before (last at ∙ c.in-Some.is))))
    (later_visited_is c.args.self.now c.args.ready.now c.args.list c.requires.disjoint c.requires.in_lists
    c.args.best c.requires.won (later at) c.pass-passed.new.self c.args.count c.requires.count (passed at)
    c.in-Some.before (last at ∙ c.in-Some.is))

pub returns-in-Some-clause-winner : goal.returns-in-Some-clause-winner
returns-in-Some-clause-winner c = later_winner c.args.self.now c.args.ready.now c.args.list
    c.requires.disjoint c.requires.in_lists c.args.best c.requires.won (omega arith)

pub returns-in_default-clause-picked : goal.returns-in_default-clause-picked
returns-in_default-clause-picked c =
    let at = (goal.at.returns-in_default-clause-picked c).After-pass-passed in
    later_kept c.args.self.now c.args.ready.now c.args.list c.requires.disjoint c.requires.in_lists
    c.args.best c.requires.won (later at) c.pass-passed.new.self c.args.count c.requires.count (passed at)
    (last at ∙ c.in_default.is)

pub returns-in_default-clause-winner : goal.returns-in_default-clause-winner
returns-in_default-clause-winner c = later_winner c.args.self.now c.args.ready.now c.args.list
    c.requires.disjoint c.requires.in_lists c.args.best c.requires.won (omega arith)
