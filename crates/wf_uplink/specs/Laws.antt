-- Defines the laws of the uplink, which hold after every list of calls.
use Rattle.std.specs.Prelude.{◌≡◌, ℕ, ◌+◌, ◌%◌, ◌<◌, ◌≤◌, ◌==◌, nat_lt, nat_le, ◌&&◌, ◌⊎◌, false, List, [], ◌∷◌, length, sum_by, flat_map, Option, Some, None, if◌then◌else◌}
use Rattle.wf_def_air.specs.Airtime.{Rate, data_charge, plain_charge, request_charge}
use Rattle.wf_def_air.specs.Fit.{plain_octets}
use Rattle.wf_recv_peer.specs.Board.{Board}
use Rattle.wf_recv_peer.specs.Plain.{is_repeat, retry_of}
use Rattle.wf_uplink.specs.Frames.{sequence_of, body_length}
use Rattle.wf_uplink.specs.Sides.{SideValue, Agreed, Plain}
use Rattle.wf_uplink.specs.Reordering.{Passed, Released, GivenUp, number_read}
use Rattle.wf_uplink.specs.World.{World, Delivery, Call, Receive, Answer, Received, Requested, TimedOut, new_world, after_calls, answer, answers, reordering_of, tid_side, rate_of, held, released_in, given_up_in, count_of, around_octets, rates_of_answers}

-- ---- the numbers that are passed

-- the items contain each number from `from` to below `to`, in order: each item begins at the end of the one
-- before it
abbrev pub Covers : ℕ → ℕ → List Passed → Type 0
Covers from to [] = from ≡ to
Covers from to (Released id number ∷ later) = (number ≡ from) × Covers (from + 1) to later
Covers from to (GivenUp first count ∷ later) = (first ≡ from) × (1 ≤ count) × Covers (from + count) to later

-- the numbers of the released frames
abbrev pub released_numbers : List Passed → List ℕ
released_numbers [] = []
released_numbers (Released id number ∷ later) = number ∷ released_numbers later
released_numbers (GivenUp first count ∷ later) = released_numbers later

-- the list rises strictly, and the first element is at least n
abbrev pub RisesFrom : ℕ → List ℕ → Type 0
RisesFrom n [] = Unit {0}
RisesFrom n (x ∷ later) = (n ≤ x) × RisesFrom (x + 1) later

-- how often a number is released
abbrev pub times_released : ℕ → List Passed → ℕ
times_released n [] = 0
times_released n (Released id number ∷ later) = count_of (number == n) + times_released n later
times_released n (GivenUp first count ∷ later) = times_released n later

-- how often a number is in a gap
abbrev pub times_given_up : ℕ → List Passed → ℕ
times_given_up n [] = 0
times_given_up n (Released id number ∷ later) = times_given_up n later
times_given_up n (GivenUp first count ∷ later) =
    count_of (nat_le first n && nat_lt n (first + count)) + times_given_up n later

-- ---- what the answers report

abbrev pub delivery_in : Answer → Option Delivery
delivery_in (Received d) = Some d
delivery_in (Requested d board) = Some d
delivery_in (TimedOut d) = Some d
delivery_in _ = None

-- the items for a station's TID
abbrev pub told_in : ℕ → ℕ → Option Delivery → List Passed
told_in station tid None = []
told_in station tid (Some d) = if (d.station == station) && (d.tid == tid) then d.passed else []

abbrev pub told_by : ℕ → ℕ → Answer → List Passed
told_by station tid a = told_in station tid (delivery_in a)

-- all items for a station's TID
abbrev pub all_told : ℕ → ℕ → World → List Call → List Passed
all_told station tid w calls = flat_map (told_by station tid) (answers w calls)

abbrev pub passed_in : Option Delivery → List Passed
passed_in None = []
passed_in (Some d) = d.passed

abbrev pub released_by : Answer → ℕ
released_by a = released_in (passed_in (delivery_in a))

abbrev pub given_up_by : Answer → ℕ
given_up_by a = given_up_in (passed_in (delivery_in a))

-- 1 for an accepted frame, and 1 for an old frame
abbrev pub accepted_by : Answer → ℕ
accepted_by (Received d) = 1
accepted_by _ = 0

abbrev pub old_by : Answer → ℕ
old_by (Received d) = count_of d.old
old_by _ = 0

-- ---- the laws

-- In a world in which the next number of a station's TID is `first`: after every list of calls, the items are
-- in the order of the numbers, the numbers of the released frames rise strictly, and each number from `first`
-- to below B is released or in a gap exactly once, and no other number is.
pub record TidLaw (w : World) (station tid first : ℕ) (calls : List Call) : Type 0 where
  pub in_order : Covers first (reordering_of (after_calls w calls) station tid).start
      (all_told station tid w calls)
  pub rises : RisesFrom first (released_numbers (all_told station tid w calls))
  pub each_once : (n : ℕ) → first ≤ n → n < (reordering_of (after_calls w calls) station tid).start →
      times_released n (all_told station tid w calls) + times_given_up n (all_told station tid w calls) ≡ 1
  pub no_other : (n : ℕ) → (n < first) ⊎ ((reordering_of (after_calls w calls) station tid).start ≤ n) →
      times_released n (all_told station tid w calls) + times_given_up n (all_told station tid w calls) ≡ 0

-- After every list of calls, each accepted frame was released, was old, or is stored, and the totals equal
-- the sums over all answers.
pub record TotalsLaw (stations : ℕ) (calls : List Call) : Type 0 where
  pub each_frame : (after_calls (new_world stations) calls).frames
      ≡ (after_calls (new_world stations) calls).up + (after_calls (new_world stations) calls).back + held
      (after_calls (new_world stations) calls)
  pub frames : (after_calls (new_world stations) calls).frames
      ≡ sum_by accepted_by (answers (new_world stations) calls)
  pub up : (after_calls (new_world stations) calls).up
      ≡ sum_by released_by (answers (new_world stations) calls)
  pub old : (after_calls (new_world stations) calls).back ≡ sum_by old_by (answers (new_world stations) calls)
  pub missing : (after_calls (new_world stations) calls).missing
      ≡ sum_by given_up_by (answers (new_world stations) calls)

-- the charge of a frame at a rate: under an agreement the airtime of its octets, of the eight around them,
-- and of a BlockAck; otherwise that of a frame alone and of an Ack
abbrev pub frame_charge : SideValue → Rate → List ℕ → ℕ
frame_charge (Agreed board) rate octets =
    data_charge rates_of_answers rate (length octets + around_octets) false
frame_charge (Plain last) rate octets =
    plain_charge rates_of_answers rate (plain_octets rate (body_length octets ∷ []))

-- a frame is charged at its station's rate
abbrev pub IsCharged : World → List ℕ → Delivery → Type 0
IsCharged w octets d = (rate : Rate) × (rate_of w d.station ≡ Some rate) ×
    (d.air ≡ frame_charge (tid_side w d.station d.tid) rate octets)

-- a BlockAckReq is charged its own airtime and that of its BlockAck, which is wide if the window is above 64
abbrev pub IsRequestCharged : World → Delivery → Board → Type 0
IsRequestCharged w d board = (rate : Rate) × (rate_of w d.station ≡ Some rate) ×
    (d.air ≡ request_charge rates_of_answers rate (nat_lt 64 board.size))

-- ---- TIDs without an agreement

-- the ids of the released frames
abbrev pub released_ids : List Passed → List ℕ
released_ids [] = []
released_ids (Released id number ∷ later) = id ∷ released_ids later
released_ids (GivenUp first count ∷ later) = released_ids later

-- the number of the last released frame, or `last` if there is none
abbrev pub last_released : Option ℕ → List Passed → Option ℕ
last_released last [] = last
last_released last (Released id number ∷ later) = last_released (Some number) later
last_released last (GivenUp first count ∷ later) = last_released last later

-- In a world in which a station was just opened without agreements: after every list of calls, the frames of
-- its TID were released in the order of their arrival, no number was given up, and a frame that arrives now
-- is old exactly if it has the Retry bit and the number of the frame that was released last.
pub record PlainLaw (w : World) (station tid : ℕ) (calls : List Call) : Type 0 where
  pub in_order : RisesFrom w.frames (released_ids (all_told station tid w calls))
  pub no_gap : given_up_in (all_told station tid w calls) ≡ 0
  pub repeats : (octets : List ℕ) (d : Delivery) →
      answer (Receive octets) (after_calls w calls) ≡ Received d → d.station ≡ station → d.tid ≡ tid →
      d.old ≡ is_repeat (last_released None (all_told station tid w calls)) (retry_of octets)
      (sequence_of octets)

-- the twelve bits of a number from b to b + 2047 are read as that number, and those of a number from b - 2048
-- to below b as none
pub record ReadsRight (n b : ℕ) : Type 0 where
  pub ahead : b ≤ n → n ≤ b + 2047 → number_read (n % 4096) b ≡ Some n
  pub behind : n < b → b ≤ n + 2048 → number_read (n % 4096) b ≡ None
