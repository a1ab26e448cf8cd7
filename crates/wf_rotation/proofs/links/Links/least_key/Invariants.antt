-- The least so far is the least of the keys before the next one; the keys from there on get fewer.
use Rattle.std.proofs.Common.{◌≡◌, ◌-◌, ◌≤◌, length, take, drop}
use Rattle.wf_rotation.specs.Lists.{keys_at, first_of, IsLeast}
use Rattle.wf_rotation.proofs.LowestLemmas.{place_of}
use Rattle.wf_rotation.proofs.links.Links.least_key.Given as goal

-- `least` is the least of the keys before the next one
abbrev pub invariant-loop-next : goal.invariant-loop-next
invariant-loop-next l = record {
  within : place_of (keys_at l.self.lists l.list l.fn.side) l.next
      ≤ length (keys_at l.self.lists l.list l.fn.side);
  at : l.next ≡ first_of (drop (place_of (keys_at l.self.lists l.list l.fn.side) l.next)
      (keys_at l.self.lists l.list l.fn.side));
  least : IsLeast l.fn.number (take (place_of (keys_at l.self.lists l.list l.fn.side) l.next)
      (keys_at l.self.lists l.list l.fn.side)) l.least;
}

abbrev pub decreases-loop-next : goal.decreases-loop-next
decreases-loop-next l = length (keys_at l.self.lists l.list l.fn.side)
    - place_of (keys_at l.self.lists l.list l.fn.side) l.next
