-- Defines the invariant of the flow queues of "Ending the Anomaly" (USENIX ATC 2017), section 3.1: who lists
-- a queue, and the numbers of frames.
use Rattle.std.specs.Prelude.{◌≡◌, ℕ, ◌+◌, ◌*◌, ◌<◌, ◌≤◌, pos, ◌-ℤ◌, ◌+ℤ◌, ◌≤ℤ◌, Option, IfSome, Bool, true, List, length, map, filter, nat_le, slice_index_or, slice_set, [], get_or}
use Rattle.wf_frame.specs.Frames.{FrameValue}
use Rattle.wf_def_lists.specs.Lengths.{greatest_body}
use Rattle.wf_def_lists.specs.Table.{upto}
use Rattle.wf_def_rotation.specs.Rotation.{Rotation, has_key as lists_of, in_order, without_key}
use Rattle.wf_rotation.specs.Lists.{AreDisjoint, lists_at, on_at}
use Rattle.wf_rotation.specs.Rotas.{Rotas, deficit_at, quantum_at, picked_at, is_ready as is_ready_of}
use Rattle.wf_frame.specs.declared.classes.Cause.TheVariants.{Left, Flushed}
use Rattle.wf_def_codel.specs.Codel.{renewed}
use Rattle.wf_queue_flows.specs.Backlog.{after_emptying, unchanged}
use Rattle.wf_queue_flows.specs.Flows.{FlowsValue, tid_rotation, is_listed, frames_waiting, all_emptied}

-- the number of frames in a queue
abbrev pub depth : List (List FrameValue) → ℕ → ℕ
depth all q = length (slice_index_or all q [])

-- A queue with frames is listed, no queue is listed twice, the overflow queue of TID i is listed by i alone,
-- and the counts of the TIDs equal the counts of their queues' frames.
pub record AreListed (flows keys : ℕ) (lists : List Rotation) (all : List (List FrameValue))
    (counts : List ℕ) : Type 0 where
  pub apart : AreDisjoint (record { lists = lists; keys = keys })
  pub overflow : (i q : ℕ) → 0 < on_at lists i q → flows ≤ q → q ≡ flows + i
  pub listed : (q : ℕ) → 0 < depth all q → (i : ℕ) × (i < length lists) × (0 < on_at lists i q)
  pub counted : (i : ℕ) → i < length counts → get_or counts i 0
      ≡ frames_waiting all (in_order (lists_at lists i))

-- the parts are of the right sizes, each queue has the same quantum, and no deficit is below -2303
pub record AreSized (v : FlowsValue) (counts : List ℕ) : Type 0 where
  pub lists : length v.rotas.lists ≡ 8 * v.stations
  pub deficits : length v.rotas.deficits ≡ v.flows + 8 * v.stations
  pub queues : length v.backlog.queues ≡ v.flows + 8 * v.stations
  pub tids : length counts ≡ 8 * v.stations
  pub some_limit : 1 ≤ v.limit
  pub some_flows : 1 ≤ v.flows
  pub few_flows : v.flows ≤ 4096
  pub few_stations : v.stations ≤ 256
  pub small_room : v.backlog.room ≤ 131072
  pub positive : 1 ≤ v.flow_quantum
  pub quanta : (q : ℕ) → q < v.flows + 8 * v.stations → quantum_at v.rotas.quanta q ≡ v.flow_quantum
  pub low : (q : ℕ) → (pos 1 -ℤ pos greatest_body) ≤ℤ deficit_at v.rotas.deficits q

pub record AreFlowsKept (v : FlowsValue) (counts : List ℕ) : Type 0 where
  pub sized : AreSized v counts
  pub listed : AreListed v.flows (v.flows + 8 * v.stations) v.rotas.lists v.backlog.queues counts

-- TID i may list the queue: no other TID does, and it is no other's overflow queue
pub record CanList (v : FlowsValue) (i q : ℕ) : Type 0 where
  pub own : (j : ℕ) → is_listed v j q ≡ true → j ≡ i
  pub overflow : v.flows ≤ q → q ≡ v.flows + i

-- a queue loses its frames and leaves the rotation that lists it
abbrev pub without_queue : FlowsValue → ℕ → FlowsValue
without_queue v q = record v {
  backlog = after_emptying Left renewed v.backlog q;
  rotas =
      record v.rotas { lists = map (λ r. without_key r q) v.rotas.lists };
}

-- the keys from k on
abbrev pub rest_from : ℕ → Rotation → Rotation
rest_from k r = record { new = filter (nat_le k) r.new; old = filter (nat_le k) r.old }

-- the queues of TID i below k have left
unfoldable pub purged_below : FlowsValue → ℕ → ℕ → FlowsValue
purged_below v i k = record v {
  backlog = all_emptied Left renewed v.backlog (filter (is_listed v i) (upto k));
  rotas = record v.rotas { lists = slice_set v.rotas.lists i (rest_from k (tid_rotation v i)) };
}

-- the queues of TID i below k are flushed
unfoldable pub flushed_below : FlowsValue → ℕ → ℕ → FlowsValue
flushed_below v i k =
    record v { backlog = all_emptied Flushed unchanged v.backlog (filter (is_listed v i) (upto k)) }

-- a pick of one rotation, as in the contract of `Rota::pick`
pub record IsPickOfOne (before : Rotas) (ready : List Bool) (list : ℕ) (after : Rotas)
    (winner : Option ℕ) : Type 0 where
  pub winner_is : winner ≡ (picked_at before ready list).winner
  pub lists : after.lists ≡ slice_set before.lists list (picked_at before ready list).lists
  pub deficits : (key : ℕ) → deficit_at after.deficits key
      ≡ deficit_at before.deficits key +ℤ pos ((picked_at before ready list).quanta key * quantum_at
      before.quanta key)
  pub keys : length after.deficits ≡ length before.deficits
  pub quanta : after.quanta ≡ before.quanta
  pub listed : IfSome winner (λ key. lists_of (lists_at before.lists list) key ≡ true)
  pub is_ready : IfSome winner (λ key. is_ready_of ready key ≡ true)
