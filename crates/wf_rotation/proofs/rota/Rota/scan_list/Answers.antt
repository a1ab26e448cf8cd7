-- One more key of the list is scanned, and the scan stays the cut of the keys so far.
use Rattle.std.proofs.Common.{◌≡◌, ◌∙◌, ◌<◌, ◌≤◌, ◌+◌, ◌-◌, ◌^◌, ℕ, List, ◌++◌, length, take, drop, sym, subst, ap, arith, append_assoc, append-nil}
use Rattle.wf_def_lists.specs.Lists.{on}
use Rattle.wf_rotation.specs.Lists.{keys_at, first_of}
use Rattle.wf_rotation.specs.Rotas.{Rotas, is_ready, need_at}
use Rattle.wf_rotation.specs.Scan.{IsFound}
use Rattle.wf_rotation.proofs.CountLemmas.{side_few}
use Rattle.wf_rotation.proofs.ScanLemmas.{Step, step_at, end_at, key_below, one_round}
use Rattle.wf_rotation.proofs.rota.Rota.scan_list.Goals as goal
use Rattle.wf_rotation.proofs.rota.Rota.scan_list.Goals.{After-first-next, In-Some, In_default}

few : (c : After-first-next) → length (keys_at c.args.self.now.lists c.args.list c.args.side) < 2 ^ 32
few c =
    let few : length (keys_at c.self.inside.links.lists c.args.list c.args.side) ≤ c.self.inside.links.keys =
    side_few c.self.inside.links c.args.list c.args.side c.first-next.ensures.disjoint in
    let same : length (keys_at c.self.inside.links.lists c.args.list c.args.side)
    ≡ length (keys_at c.args.self.now.lists c.args.list c.args.side) =
    ap (λ (v : Rotas). length (keys_at v.lists c.args.list c.args.side)) c.self.view_is in
    omega (arith, few, same, c.self.invariant.keys, c.self.invariant.few)

-- the next key of the scan: the count is the number of keys before it
step : (c : In-Some) → Step (keys_at c.args.self.now.lists c.args.list c.args.side)
    (c.loop-next.found.count - c.args.start.count) c.in-Some.key
step c = step_at _ _ c.in-Some.key (sym c.loop-next.invariant.at ∙ c.in-Some.is)

below : (c : In-Some) → c.in-Some.key < c.self.inside.links.keys
below c = key_below c.self.inside.links c.args.list c.in-Some.key c.args.side c.first-next.ensures.disjoint
    (subst (λ (v : Rotas). 0 < on (keys_at v.lists c.args.list c.args.side) c.in-Some.key)
    (sym c.self.view_is) (step c).stands)

-- at the end all keys are scanned
all : (c : In_default) → (c.loop-next.found.count - c.args.start.count
    ≡ length (keys_at c.args.self.now.lists c.args.list c.args.side)) ×
    (take (c.loop-next.found.count - c.args.start.count)
    (keys_at c.args.self.now.lists c.args.list c.args.side)
    ≡ keys_at c.args.self.now.lists c.args.list c.args.side)
all c = end_at _ _ (sym c.loop-next.invariant.at ∙ c.in_default.is) c.loop-next.invariant.within

pub scan_key-found-requires-clause-in_keys : goal.scan_key-found-requires-clause-in_keys
scan_key-found-requires-clause-in_keys c =
    subst (λ (v : Rotas). c.in-Some.key < length v.deficits) c.self.view_is
    (omega (
      arith,
      below (goal.at.scan_key-found-requires-clause-in_keys c).In-Some,
      c.self.invariant.keys,
    ))

pub scan_key-found-requires-clause-small : goal.scan_key-found-requires-clause-small
scan_key-found-requires-clause-small c = omega (
  arith,
  (step (goal.at.scan_key-found-requires-clause-small c).In-Some).low,
  few (goal.at.scan_key-found-requires-clause-small c).After-first-next,
  c.requires.small,
)

pub after-next-requires : goal.after-next-requires
after-next-requires c = below (goal.at.after-next-requires c).In-Some

pub loop-next-init : goal.loop-next-init
loop-next-init c =
    let none : c.args.start.count - c.args.start.count ≡ 0 = omega arith in
    record {
      some = omega arith;
      within = omega arith;
      at = rw none (c.first-next.ensures.key
          ∙ ap (λ (v : Rotas). first_of (keys_at v.lists c.args.list c.args.side)) c.self.view_is);
      found = λ order before ok rounds. rw (none, append-nil) ok;
    }

pub loop-next-preserved : goal.loop-next-preserved
loop-next-preserved c =
    let here = step (goal.at.loop-next-preserved c).In-Some in
    let more : c.scan_key-found.result.count - c.args.start.count
    ≡ c.loop-next.found.count - c.args.start.count + 1 =
    omega (arith, c.scan_key-found.ensures.count, c.loop-next.invariant.some) in
    record {
      some = omega (arith, c.scan_key-found.ensures.count, c.loop-next.invariant.some);
      within = omega (arith, more, here.low);
      at = rw more (c.after-next.ensures c.args.list c.args.side
          (take (c.loop-next.found.count - c.args.start.count)
          (keys_at c.args.self.now.lists c.args.list c.args.side))
          (drop (c.loop-next.found.count - c.args.start.count + 1)
          (keys_at c.args.self.now.lists c.args.list c.args.side))
          (subst (λ (v : Rotas). c.args.list < length v.lists) (sym c.self.view_is) c.requires.in_lists)
          (ap (λ (v : Rotas). keys_at v.lists c.args.list c.args.side) c.self.view_is ∙ here.split));
      found = λ order before ok rounds.
          rw (more, here.more, ← append_assoc) (c.scan_key-found.ensures.found order
          (before ++ take (c.loop-next.found.count - c.args.start.count)
          (keys_at c.args.self.now.lists c.args.list c.args.side))
          (c.loop-next.invariant.found order before ok rounds)
          (one_round order (need_at c.args.self.now) c.args.side
          (keys_at c.args.self.now.lists c.args.list c.args.side) c.in-Some.key here.stands rounds));
    }

pub returns-clause-found : goal.returns-clause-found
returns-clause-found c = λ order seen ok rounds.
    subst (λ (ks : List ℕ). IsFound c.loop-next.found (is_ready c.args.ready.now) order (seen ++ ks))
    (all (goal.at.returns-clause-found c).In_default).1 (c.loop-next.invariant.found order seen ok rounds)

pub returns-clause-count : goal.returns-clause-count
returns-clause-count c = omega (
  arith,
  (all (goal.at.returns-clause-count c).In_default).0,
  c.loop-next.invariant.some,
)

pub returns-clause-few : goal.returns-clause-few
returns-clause-few c = few (goal.at.returns-clause-few c).After-first-next
