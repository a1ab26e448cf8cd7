-- Proves worked dequeues by computation. Each row was worked out by hand with the loop of RFC 8289, 5.5 to
-- 5.7. With an interval of 100,000 the steps are 100,000, 70,710, 57,735 and 50,000 for counts of 1 to 4.
-- With 300,000 they are 300,000, 212,132, 173,205 and 150,000.
use Rattle.std.specs.Prelude.{ℕ, zero, suc, ◌+◌, List, [], ◌∷◌, ◌++◌, map, Option, Some, None, true, false}
use Rattle.std.proofs.Common.{◌≡◌, refl}
use Rattle.wf_def_air.specs.Airtime.{Ht, Ofdm, Dsss}
use Rattle.wf_def_codel.specs.Codel.{Item, Params, Codel, Dequeued, new_codel, step_of, dequeue, drops, drops_dropping, drops_plain, state_after, state_dropping, state_plain}
use Rattle.wf_def_codel.specs.Parameters.{params_at}

-- ---- the parameters, and the steps of the control law

abbrev pub fast : Params
fast = record { target = 20000; interval = 100000 }

abbrev pub slow : Params
slow = record { target = 50000; interval = 300000 }

-- 6500 kbit/s, and 7222 kbit/s with the short guard interval.
pub of_mcs_0 : params_at (Ht 0 20 false) ≡ slow
of_mcs_0 = refl

pub of_mcs_0_short : params_at (Ht 0 20 true) ≡ slow
of_mcs_0_short = refl

-- 13000 kbit/s, and 14444 kbit/s with the short guard interval.
pub of_mcs_1 : params_at (Ht 1 20 false) ≡ fast
of_mcs_1 = refl

pub of_mcs_1_short : params_at (Ht 1 20 true) ≡ fast
of_mcs_1_short = refl

-- 9 and 12 Mbit/s of OFDM, and the fastest rate of DSSS, 11 Mbit/s.
pub of_ofdm_9 : params_at (Ofdm 9) ≡ slow
of_ofdm_9 = refl

pub of_ofdm_12 : params_at (Ofdm 12) ≡ fast
of_ofdm_12 = refl

pub of_dsss_11 : params_at (Dsss 22) ≡ slow
of_dsss_11 = refl

-- The steps of an interval for these counts.
abbrev pub steps : ℕ → List ℕ → List ℕ
steps interval counts = map (λ count. step_of interval count) counts

pub usual_steps : steps 100000 (1 ∷ 2 ∷ 3 ∷ 4 ∷ []) ≡ 100000 ∷ 70710 ∷ 57735 ∷ 50000 ∷ []
unfolding step_of
usual_steps = refl

pub slow_steps : steps 300000 (1 ∷ 2 ∷ 3 ∷ 4 ∷ 5 ∷ []) ≡ 300000 ∷ 212132 ∷ 173205 ∷ 150000 ∷ 134164 ∷ []
unfolding step_of
slow_steps = refl

pub least_and_greatest_steps :
    steps 300000 (4294967295 ∷ []) ++ steps 4294967295 (1 ∷ []) ++ steps 0 (7 ∷ []) ≡
    4 ∷ 4294967295 ∷ 0 ∷ []
unfolding step_of
least_and_greatest_steps = refl

-- ---- sequences of dequeues

-- A proof with `unfolding a_dequeue` may compute with all definitions that are listed here.
unfoldable pub a_dequeue : Type 0
unfolding dequeue drops drops_dropping drops_plain state_after state_dropping state_plain step_of
a_dequeue = Unit {0}

-- A list of n frames of 1500 octets, all accepted at time 0, with ids from `id` on.
abbrev pub frames_from : ℕ → ℕ → List Item
frames_from id zero = []
frames_from id (suc n) = record { id = id; stamp = 0; len = 1500 } ∷ frames_from (id + 1) n

-- The result of several dequeues: the time and the id of each returned frame, the ids of the dropped
-- frames, and the last state.
pub record Played : Type 0 where
  pub given : List (ℕ × ℕ)
  pub dropped : List ℕ
  pub state : Codel

-- The time and the id of a returned frame, if there is one.
abbrev pub given_at : ℕ → Option Item → List (ℕ × ℕ)
given_at now (Some x) = (now, x.id) ∷ []
given_at now None = []

-- Dequeues once at each of these times.
abbrev pub played : Params → Codel → List Item → List ℕ → Played
played p c items [] = record { given = []; dropped = []; state = c }
played p c items (now ∷ times) =
    let d : Dequeued = dequeue p now c items in
    let after : Played = played p d.state d.rest times in
    record {
      given = given_at now d.given ++ after.given;
      dropped = map (λ it. it.id) d.dropped ++ after.dropped;
      state = after.state;
    }

-- The frame after a dropped frame is returned, so the ids that are missing here were dropped.
abbrev pub fast_gives : List (ℕ × ℕ)
fast_gives =
    (30000, 0) ∷
    (129999, 1) ∷
    (130000, 3) ∷
    (229999, 4) ∷
    (230000, 6) ∷
    (300709, 7) ∷
    (300710, 9) ∷
    (358444, 10) ∷
    (358445, 12) ∷
    (408444, 13) ∷
    (408445, 15) ∷ []

pub fast_drops_at_their_times :
    let end = played fast new_codel (frames_from 0 40) (map (λ it. it.0) fast_gives) in
    (end.given ≡ fast_gives) × ((end.dropped ≡ 2 ∷ 5 ∷ 8 ∷ 11 ∷ 14 ∷ []) × (end.state.dropped ≡ 5))
unfolding a_dequeue
fast_drops_at_their_times = (refl, (refl, refl))

abbrev pub slow_gives : List (ℕ × ℕ)
slow_gives =
    (49999, 0) ∷
    (60000, 1) ∷
    (359999, 2) ∷
    (360000, 4) ∷
    (659999, 5) ∷
    (660000, 7) ∷
    (872131, 8) ∷
    (872132, 10) ∷
    (1045336, 11) ∷
    (1045337, 13) ∷
    (1195336, 14) ∷
    (1195337, 16) ∷ []

pub slow_drops_at_their_times :
    (played slow new_codel (frames_from 0 40) (map (λ it. it.0) slow_gives)).given ≡ slow_gives
unfolding a_dequeue
slow_drops_at_their_times = refl

-- Only 1500 octets follow frame 2, so it is late and is returned all the same. The last frame is returned for
-- the same reason. A dequeue from the empty queue returns no frame and ends dropping.
pub last_frames_stay :
    let end = played fast new_codel (frames_from 0 4) (30000 ∷ 9000000 ∷ 9000000 ∷ 9000000 ∷ []) in
    (end.given ≡ (30000, 0) ∷ (9000000, 2) ∷ (9000000, 3) ∷ []) × ((end.state.first_above ≡ 0)
    × (end.state.dropping ≡ false))
unfolding a_dequeue
last_frames_stay = (refl, (refl, refl))

-- ---- the count with which dropping begins again

-- A queue that is not dropping and has dropped no frame. Its frames will have waited too long for an interval
-- at 130000.
abbrev pub resting : ℕ → ℕ → ℕ → Codel
resting count last_count drop_next = record {
  first_above = 130000;
  drop_next = drop_next;
  count = count;
  last_count = last_count;
  dropping = false;
  dropped = 0;
}

-- A queue that is dropping and has dropped one frame, with this count; the next drop is due at this time.
abbrev pub dropping_again : ℕ → ℕ → Codel
dropping_again count drop_next = record {
  first_above = 130000;
  drop_next = drop_next;
  count = count;
  last_count = count;
  dropping = true;
  dropped = 1;
}

-- One dequeue at this time, from five frames, drops the first frame and returns the second.
abbrev pub started_again : ℕ → Codel → Codel → Type 0
started_again now before after =
    let end = played fast before (frames_from 0 5) (now ∷ []) in
    (end.given ≡ (now, 1) ∷ []) × (end.state ≡ after)

-- The step is 100,000 divided by the root of 4.
pub begins_with_the_drops_of_the_last_time :
    started_again 520000 (resting 5 1 408445) (dropping_again 4 570000)
unfolding a_dequeue
begins_with_the_drops_of_the_last_time = (refl, refl)

-- A count is kept for 16 intervals (1,600,000) from the time at which the next drop was due.
pub begins_so_for_16_intervals : started_again 2008444 (resting 5 1 408445) (dropping_again 4 2058444)
unfolding a_dequeue
begins_so_for_16_intervals = (refl, refl)

pub begins_anew_after_16_intervals : started_again 2008445 (resting 5 1 408445) (dropping_again 1 2108445)
unfolding a_dequeue
begins_anew_after_16_intervals = (refl, refl)

-- The last time had one drop.
pub begins_anew_after_one_drop : started_again 520000 (resting 3 2 408445) (dropping_again 1 620000)
unfolding a_dequeue
begins_anew_after_one_drop = (refl, refl)

-- The last time began with a greater count than it ended with.
pub begins_anew_after_none : started_again 520000 (resting 2 5 408445) (dropping_again 1 620000)
unfolding a_dequeue
begins_anew_after_none = (refl, refl)

-- The step is 100,000 divided by the root of 4,294,967,294. That root is above 65535, so the step is 1.
pub begins_with_a_great_count :
    started_again 520000 (resting 4294967295 1 408445) (dropping_again 4294967294 520001)
unfolding a_dequeue
begins_with_a_great_count = (refl, refl)

-- ---- the greatest count

-- The step is 4,000,000,000 divided by the root of 4,294,967,295: 61,035 and a fraction.
abbrev pub almost_greatest : Codel
almost_greatest = record {
  first_above = 500;
  drop_next = 100000;
  count = 4294967294;
  last_count = 5;
  dropping = true;
  dropped = 4294967294;
}

abbrev pub long_interval : Params
long_interval = record { target = 20000; interval = 4000000000 }

abbrev pub count_times : List ℕ
count_times = 99999 ∷ 100000 ∷ 161034 ∷ 161035 ∷ []

pub count_stays_at_its_greatest :
    let end = played long_interval almost_greatest (frames_from 0 20) count_times in
    (end.given ≡ (99999, 0) ∷ (100000, 2) ∷ (161034, 3) ∷ (161035, 5) ∷ [])
    × ((end.state.count ≡ 4294967295) × (end.state.drop_next ≡ 222070))
unfolding a_dequeue
count_stays_at_its_greatest = (refl, (refl, refl))

-- The same dequeues drop two frames.
pub dropped_stays_at_its_greatest :
    (played long_interval almost_greatest (frames_from 0 20) count_times).state.dropped ≡ 4294967295
unfolding a_dequeue
dropped_stays_at_its_greatest = refl
