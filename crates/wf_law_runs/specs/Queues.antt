-- Defines the laws of the flow queues after every entry of every run ("Ending the Anomaly", USENIX ATC
-- 2017, section 3.1).
use Rattle.std.specs.Prelude.{◌≡◌, ℕ, ◌<◌, ◌≤◌, pos, ◌+ℤ◌, ◌≤ℤ◌, true, ◌⊎◌, List, [], ◌∷◌, length, map}
use Rattle.wf_frame.specs.declared.settings.Config.{Config}
use Rattle.wf_frame.specs.declared.notes.Note.{Note}
use Rattle.wf_frame.specs.declared.notes.Note.TheVariants.{Enqueue, Asked}
use Rattle.wf_def_codel.specs.Codel.{Item}
use Rattle.wf_def_rotation.specs.Rotation.{has_key, in_order}
use Rattle.wf_def_world.specs.World.{World, tid_of, queue, frame, is_live}
use Rattle.wf_def_world.specs.FlowQueues.{overflow_queue}
use Rattle.wf_def_world.specs.Run.{Entry}
use Rattle.wf_def_world.specs.Stretches.{world_at}
use Rattle.wf_def_lists.specs.Lists.{IsOnce, IsRising}

-- P holds for each frame of a queue.
abbrev pub EachItem : (Item → Type 0) → List Item → Type 0
EachItem P [] = Unit {0}
EachItem P (x ∷ xs) = P x × EachItem P xs

-- The stamps do not decrease from frame to frame, the first is at least lo, and none is greater than hi.
abbrev pub IsAged : ℕ → ℕ → List Item → Type 0
IsAged lo hi [] = lo ≤ hi
IsAged lo hi (x ∷ xs) = (lo ≤ x.stamp) × IsAged x.stamp hi xs

-- The call enqueues a frame for TID t of station s.
abbrev pub IsFor : ℕ → ℕ → Note → Type 0
IsFor s t (Enqueue i j flow len) = (i ≡ s) × (j ≡ t)
IsFor s t (Asked ask) = ⊥

-- TID t of station s lists queue q.
abbrev pub QueueIsListed : World → ℕ → ℕ → ℕ → Type 0
QueueIsListed w s t q = has_key (tid_of w s t).queues q ≡ true

-- A TID lists the queue.
pub record HasLister (w : World) (q : ℕ) : Type 0 where
  pub station : ℕ
  pub tid : ℕ
  pub listed : QueueIsListed w station tid q

-- The queue is a shared one, or the TID's own overflow queue.
abbrev pub IsOwn : World → ℕ → ℕ → ℕ → Type 0
IsOwn w s t q = (q < w.config.flows) ⊎ (q ≡ overflow_queue w s t)

-- The flow queues of a world.
pub record KeepsQueues (w : World) : Type 0 where
  -- A queue with frames is listed. Only one TID lists a queue, it lists the queue once, and its station is
  -- live. Only the own TID lists an overflow queue.
  pub found : (q : ℕ) → 0 < length (queue w q).items → HasLister w q
  pub sole : (s t i j q : ℕ) → QueueIsListed w s t q → QueueIsListed w i j q → (s ≡ i) × (t ≡ j)
  pub once : (s t : ℕ) → IsOnce (in_order (tid_of w s t).queues)
  pub owner : (s t q : ℕ) → QueueIsListed w s t q → (is_live w s ≡ true) × (t < 8) × IsOwn w s t q
  -- All frames of a queue are for the TID that lists it, their ids increase strictly, and their stamps do
  -- not decrease.
  pub mine : (s t q : ℕ) → QueueIsListed w s t q →
      EachItem (λ x. IsFor s t (frame w x.id).note) (queue w q).items
  pub ids : (q : ℕ) → IsRising 0 (map (λ x. x.id) (queue w q).items)
  pub stamps : (q : ℕ) → IsAged 0 w.clock (queue w q).items

-- The law of queues: `KeepsQueues` holds after each entry of a history.
abbrev pub QueueLaw : Config → List Entry → Type 0
QueueLaw config history = (m : ℕ) → KeepsQueues (world_at config history m)

-- The frame that the call enqueues, if any, has at most `most` octets.
abbrev pub IsAtMost : ℕ → Note → Type 0
IsAtMost most (Enqueue s t flow len) = len ≤ most
IsAtMost most (Asked ask) = Unit {0}

-- The frame that the call enqueues, if any, has at least one octet.
abbrev pub HasLength : Note → Type 0
HasLength (Enqueue s t flow len) = 1 ≤ len
HasLength (Asked ask) = Unit {0}

-- Each frame of the history has at least one octet.
abbrev pub HaveLengths : List Entry → Type 0
HaveLengths [] = Unit {0}
HaveLengths (e ∷ es) = HasLength e.1 × HaveLengths es

-- Each frame of the history has at most `most` octets.
abbrev pub AreAtMost : ℕ → List Entry → Type 0
AreAtMost most [] = Unit {0}
AreAtMost most (e ∷ es) = IsAtMost most e.1 × AreAtMost most es

-- The law of the deficits of queues: if no frame is longer than `most`, the deficit of a listed queue is
-- from 1 - most to the setting `flow_quantum`.
abbrev pub QueueDeficitLaw : Config → List Entry → Type 0
QueueDeficitLaw config history =
    (most : ℕ) → AreAtMost most history →
    (m s t q : ℕ) → QueueIsListed (world_at config history m) s t q →
    ((queue (world_at config history m) q).deficit ≤ℤ pos config.flow_quantum) ×
    (pos 1 ≤ℤ ((queue (world_at config history m) q).deficit +ℤ pos most))
