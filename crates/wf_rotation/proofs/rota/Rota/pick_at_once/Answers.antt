-- The scan finds the cut of the rotation at its winner, and the pass leaves the lists of the pick.
use Rattle.std.proofs.Common.{◌≡◌, ◌≤◌, ℕ, [], refl, ap, sym, subst, false}
use Rattle.wf_def_rotation.specs.Rotation.{Picked, in_order, round, none_ready}
use Rattle.wf_def_lists.specs.Lists.{on}
use Rattle.wf_rotation.specs.Lists.{lists_at}
use Rattle.wf_rotation.specs.Rotas.{need_at, is_ready, picked_at}
use Rattle.wf_rotation.specs.Scan.{IsFound}
use Rattle.wf_rotation.specs.Pass.{HasPassed, WasPickedFrom}
use Rattle.wf_rotation.specs.declared.pass.Course.TheVariants.{Nobody}
use Rattle.wf_rotation.proofs.ScanLemmas.{found_nothing, rounds_old, rounds_new, won_is, none_is}
use Rattle.wf_rotation.proofs.PickLemmas.{pick_none}
use Rattle.wf_rotation.proofs.SettleLemmas.{nobody_picked}
use Rattle.wf_rotation.proofs.RangeLemmas.{won_below}
use Rattle.wf_rotation.proofs.rota.Rota.pick_at_once.Goals as goal
use Rattle.wf_rotation.proofs.rota.Rota.pick_at_once.Goals.{After-scan_list-all}

once : (c : After-scan_list-all) → (y : ℕ) → on (in_order (lists_at c.args.self.now.lists c.args.list)) y ≤ 1
once c = c.scan_list-olds.ensures.disjoint.once c.args.list

-- what the two scans have found together
found : (c : After-scan_list-all) → IsFound c.scan_list-all.result (is_ready c.args.ready.now)
    (round (need_at c.args.self.now) (lists_at c.args.self.now.lists c.args.list))
    (in_order (lists_at c.args.self.now.lists c.args.list))
found c = c.scan_list-all.ensures.found (round (need_at c.args.self.now)
    (lists_at c.args.self.now.lists c.args.list)) (lists_at c.args.self.now.lists c.args.list).old
    (c.scan_list-olds.ensures.found (round (need_at c.args.self.now)
    (lists_at c.args.self.now.lists c.args.list)) [] (found_nothing _ _)
    (rounds_old (need_at c.args.self.now) (lists_at c.args.self.now.lists c.args.list) (once c)))
    (rounds_new (need_at c.args.self.now) (lists_at c.args.self.now.lists c.args.list))

pub pass-passed-requires-clause-shares : goal.pass-passed-requires-clause-shares
pass-passed-requires-clause-shares c = (need_at c.args.self.now, (λ y. false), (λ i low. refl))

pub settle-moved-requires-clause-won : goal.settle-moved-requires-clause-won
settle-moved-requires-clause-won c = won_is c.scan_list-all.result _ _ _ c.in-Some.best
    (found (goal.at.settle-moved-requires-clause-won c).After-scan_list-all) c.in-Some.is

pub returns-in-None-clause-picked : goal.returns-in-None-clause-picked
returns-in-None-clause-picked c =
    let at = (goal.at.returns-in-None-clause-picked c).After-scan_list-all in
    let none : picked_at c.args.self.now c.args.ready.now c.args.list
    ≡ none_ready (need_at c.args.self.now) (lists_at c.args.self.now.lists c.args.list) =
    pick_none (need_at c.args.self.now) (is_ready c.args.ready.now)
    (lists_at c.args.self.now.lists c.args.list) (none_is c.scan_list-all.result _ _ _ (found at)
    c.in-None.is) in
    record {
      winner_is = sym (ap (λ (p : Picked). p.winner) none);
      picked = subst (λ (p : Picked). WasPickedFrom c.args.self.now c.args.list p c.pass-passed.new.self)
          (sym none) (nobody_picked c.args.self.now c.args.list c.pass-passed.new.self (once at)
          (subst (λ n. HasPassed Nobody c.args.self.now c.args.list (need_at c.args.self.now) (λ y. false) n
          c.pass-passed.new.self) (found at).count
          (c.pass-passed.ensures.passed (need_at c.args.self.now) (λ y. false) (λ i low. refl))));
      below = tt;
    }

pub returns-in-Some-clause-picked : goal.returns-in-Some-clause-picked
returns-in-Some-clause-picked c = record {
  winner_is = sym c.settle-moved.ensures.winner;
  picked = c.settle-moved.ensures.picked;
  below = won_below c.args.self.now c.args.ready.now c.args.list c.in-Some.best
      (won_is c.scan_list-all.result _ _ _ c.in-Some.best
      (found (goal.at.returns-in-Some-clause-picked c).After-scan_list-all) c.in-Some.is)
      c.scan_list-olds.ensures.disjoint;
}
