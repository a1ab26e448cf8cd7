-- The scan is the cut of the keys so far; the keys from the next one on get fewer.
use Rattle.std.proofs.Common.{◌≡◌, ℕ, ◌-◌, ◌≤◌, List, ◌++◌, length, take, drop}
use Rattle.wf_rotation.specs.Lists.{keys_at, first_of}
use Rattle.wf_rotation.specs.Rotas.{is_ready, need_at}
use Rattle.wf_rotation.specs.Scan.{IsFound, IsRoundOn}
use Rattle.wf_rotation.proofs.rota.Rota.scan_list.Given as goal

abbrev pub invariant-loop-next : goal.invariant-loop-next
invariant-loop-next l = record {
  some : l.fn.start.count ≤ l.found.count;
  within : l.found.count - l.fn.start.count ≤ length (keys_at l.self.lists l.list l.fn.side);
  at : l.next ≡ first_of (drop (l.found.count - l.fn.start.count) (keys_at l.self.lists l.list l.fn.side));
  found : (order : ℕ → ℕ) (before : List ℕ) → IsFound l.fn.start (is_ready l.ready) order before →
      IsRoundOn order (need_at l.self) l.fn.side (keys_at l.self.lists l.list l.fn.side) →
      IsFound l.found (is_ready l.ready) order (before
      ++ take (l.found.count - l.fn.start.count) (keys_at l.self.lists l.list l.fn.side));
}

abbrev pub decreases-loop-next : goal.decreases-loop-next
decreases-loop-next l =
    length (keys_at l.self.lists l.list l.fn.side) - (l.found.count - l.fn.start.count)
