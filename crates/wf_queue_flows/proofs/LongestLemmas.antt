-- The longest queue is the longest queue of the world, since both have the same octets.
use Rattle.std.proofs.Common.{◌≡◌, ℕ, zero, suc, ◌≤◌, inl, inr, List, [], ◌∷◌, length, map, get_or, refl, ap, arith}
use Rattle.std.proofs.lemmas.List.{get_or_past}
use Rattle.std.proofs.lemmas.Bool.{cases_lt}
use Rattle.wf_frame.specs.Frames.{FrameValue}
use Rattle.wf_def_lists.specs.Table.{at}
use Rattle.wf_def_codel.specs.Codel.{octets}
use Rattle.wf_def_world.specs.World.{Queue, new_queue}
use Rattle.wf_def_world.specs.FlowQueues.{longest_of}
use Rattle.wf_def_world.proofs.Longest.{octets_at, longest_is}
use Rattle.wf_queue_flows.specs.Backlog.{BacklogValue, frames_at, queue_octets, octets_per_queue, IsLongest}

-- no queue has more octets than the longest, also none past the last one
most : (v : BacklogValue) (q k : ℕ) → IsLongest v q →
    queue_octets (frames_at v k) ≤ queue_octets (frames_at v q)
most v q k is =
    elim (cases_lt k (length v.queues)) [
      | inl here ↦ is.most k here
      | inr past ↦ omega (arith, ap queue_octets (get_or_past v.queues k [] past))
    ]

-- the same octets by number
pub longest_by_number : (v : BacklogValue) (queues : List Queue) (q : ℕ) →
    ((k : ℕ) → queue_octets (frames_at v k) ≡ octets (at new_queue queues k).items) →
    IsLongest v q → longest_of queues ≡ q
unfolding octets_at
longest_by_number v queues q same is =
    longest_is queues (λ k. queue_octets (frames_at v k)) q same
    (record { most = λ k. most v q k is; first = is.least })

each : (lists : List (List FrameValue)) (queues : List Queue) (k : ℕ) →
    map queue_octets lists ≡ map (λ x. octets x.items) queues →
    queue_octets (get_or lists k []) ≡ octets (at new_queue queues k).items
each [] [] k same = refl
each [] (x ∷ xs) k same = absurd (cc)
each (l ∷ ls) [] k same = absurd (cc)
each (l ∷ ls) (x ∷ xs) zero same = cc
each (l ∷ ls) (x ∷ xs) (suc k) same = each ls xs k (cc)

-- the same octets as lists
pub longest_found : (v : BacklogValue) (queues : List Queue) (q : ℕ) →
    octets_per_queue v ≡ map (λ x. octets x.items) queues → IsLongest v q → longest_of queues ≡ q
longest_found v queues q same is = longest_by_number v queues q (λ k. each v.queues queues k same) is
