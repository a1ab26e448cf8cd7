-- Dequeues that attain the bounds of the laws of CoDel, and dequeues just short of them.
use Rattle.std.proofs.Common.{◌≡◌, refl, ℕ, ◌+◌, ◌*◌, ◌/◌, List, [], ◌∷◌, map, replicate}
use Rattle.wf_def_codel.specs.Codel.{Params, new_codel, step_of, drops, drops_plain, drops_dropping, dequeue, state_after, state_plain, state_dropping}
use Rattle.wf_law_rules.specs.CodelLaws.{Dequeue, drops_in, least_time}

-- a target of 5 and an interval of 100 microseconds
abbrev params : Params
params = record { target = 5; interval = 100 }

-- a dequeue at a time of five frames of 2305 octets that were queued at time 0
abbrev visit : ℕ → Dequeue
visit now = record {
  times = params;
  now = now;
  items = replicate 5 (record {
    id = 0;
    stamp = 0;
    len = 2305;
  });
}

-- a dequeue of a frame after which are n octets
abbrev before : ℕ → ℕ → Dequeue
before n now = record {
  times = params;
  now = now;
  items = record { id = 0; stamp = 0; len = 100 } ∷ record { id = 1; stamp = 0; len = n } ∷ [];
}

-- How many frames each of these lists of dequeues drops, from the first state of a queue on.
abbrev drops_of : List (List Dequeue) → List ℕ
drops_of runs = map (drops_in new_codel) runs

standing : drops_of (
    -- A queue that stands from time 5 on has a drop at time 105, and none at 104.
    (visit 5 ∷ visit 105 ∷ []) ∷
    (visit 5 ∷ visit 104 ∷ []) ∷
    -- A look before the target sees no standing queue.
    (visit 4 ∷ visit 104 ∷ []) ∷
    -- More than 2304 octets have to be after the frame.
    (before 2305 5 ∷ before 2305 105 ∷ []) ∷
    (before 2304 5 ∷ before 2304 105 ∷ []) ∷
    -- One look between that sees no standing queue, and the time begins again.
    (visit 5 ∷ before 2304 60 ∷ visit 105 ∷ []) ∷ [])
    ≡ 1 ∷ 0 ∷ 0 ∷ 1 ∷ 0 ∷ 0 ∷ []
unfolding drops drops_plain drops_dropping dequeue state_after state_plain state_dropping step_of
standing = refl

rate : drops_of (
    -- From the drop at time 105 on, one frame is dropped in 99 microseconds.
    (visit 5 ∷ visit 105 ∷ visit 204 ∷ []) ∷
    -- The drops after it come at their least times: after 100, 100 + 70 and 100 + 70 + 57 microseconds.
    (visit 5 ∷ visit 105 ∷ visit 205 ∷ []) ∷
    (visit 5 ∷ visit 105 ∷ visit 205 ∷ visit 274 ∷ []) ∷
    (visit 5 ∷ visit 105 ∷ visit 205 ∷ visit 275 ∷ []) ∷
    -- One dequeue may drop all of them at once.
    (visit 5 ∷ visit 105 ∷ visit 331 ∷ []) ∷
    (visit 5 ∷ visit 105 ∷ visit 332 ∷ []) ∷ [])
    ≡ 1 ∷ 2 ∷ 2 ∷ 3 ∷ 3 ∷ 4 ∷ []
unfolding drops drops_plain drops_dropping dequeue state_after state_plain state_dropping step_of
rate = refl

-- One drop in 99 microseconds is all that the law allows, so (T / interval + 1)^2 is attained.
one_allowed : (99 / 100 + 1) * (99 / 100 + 1) ≡ 1
one_allowed = refl

least_times : map (least_time 100) (1 ∷ 2 ∷ 3 ∷ []) ≡ 100 ∷ 170 ∷ 227 ∷ []
unfolding step_of
least_times = refl

-- At an interval of 1 microsecond, the steps after the first are 0. So the bound has to have a condition.
steps_end : least_time 1 10 ≡ 1
unfolding step_of
steps_end = refl
