-- Each iteration brings the last pending leaf up to date.
use Rattle.std.proofs.Common.{◌≡◌, ℕ, ◌+◌, ◌*◌, ◌^◌, ◌≤◌, ◌<◌, length, vec_len, vec_capacity}
use Rattle.wf_queue_parts.specs.Lazy.{IsLazy}
use Rattle.wf_queue_parts.proofs.peak.lazy.bring_all.Given as goal

abbrev pub invariant-loop-leaf : goal.invariant-loop-leaf
invariant-loop-leaf l = record {
  lazy : IsLazy l.tree l.values l.is_pending.items l.pending.items;
  capacity : vec_capacity l.pending ≡ vec_capacity l.initial.pending;
  cost : (most : ℕ) → 2 * length l.values < 2 ^ most → l.levels + vec_len l.pending * most ≤ 256 * most;
}

abbrev pub decreases-loop-leaf : goal.decreases-loop-leaf
decreases-loop-leaf l = vec_len l.pending
