-- Defines the originator's side of one TID's block acknowledgement agreement, over numbers that do not
-- wrap: IEEE 802.11-2012, 9.21.7.7 (originator's behavior). The standard calls its state the transmit
-- buffer control (9.21.7.2), with WinStartO and WinSizeO.
use Rattle.std.specs.Prelude.{ℕ, suc, ◌+◌, ◌-◌, nat_lt, nat_le, Bool, true, false, ◌&&◌, List, [], ◌∷◌, ◌++◌, if◌then◌else◌, length, map}
use Rattle.std.specs.List.{list_any}
use Rattle.wf_def_lists.specs.Table.{at, change}

-- The state of a number: it waits to be sent, is on the air in an exchange, is acknowledged, or failed.
pub data State : Type 0 where
  Waiting : State
  Flying : (exchange : ℕ) → State
  Acked : State
  Failed : State

-- The parcel of one number: the id of its frame, and how often the number was sent without being
-- acknowledged. A number that is given up forgoes the attempts that are left: they count as made.
pub record Slot : Type 0 where
  pub id : ℕ
  pub attempts : ℕ
  pub state : State

-- The slot of a number that is not assigned. It is never used, because exchanges send only assigned
-- numbers.
abbrev pub no_slot : Slot
no_slot = record { id = 0; attempts = 0; state = Acked }

-- A session: the slots of the numbers that are assigned, in increasing order from `first` on.
pub record Session : Type 0 where
  pub first : ℕ
  pub size : ℕ  -- the window, in numbers: WinSizeO
  pub slots : List Slot  -- slot i is that of number first + i
  pub heard : ℕ  -- the greatest start of a request that ended as heard; `first` if there is none

-- Returns a session without assigned numbers, from its first number and its window.
abbrev pub new_session : ℕ → ℕ → Session
new_session first size = record { first = first; size = size; slots = []; heard = first }

-- Returns whether a number waits to be sent.
abbrev pub is_waiting : State → Bool
is_waiting Waiting = true
is_waiting _ = false

-- Returns whether a number is acknowledged.
abbrev pub is_acknowledged : State → Bool
is_acknowledged Acked = true
is_acknowledged _ = false

-- Returns whether a number failed: it was sent as often as the limit allows and not acknowledged, or it was
-- given up before.
abbrev pub is_failed : State → Bool
is_failed Failed = true
is_failed _ = false

-- Returns whether a number is settled, that is acknowledged or failed. It is not sent again.
abbrev pub is_settled : State → Bool
is_settled Acked = true
is_settled Failed = true
is_settled _ = false

-- Returns the number that the next frame gets.
abbrev pub next_number : Session → ℕ
next_number s = s.first + length s.slots

-- Returns the least number that is not settled, or the next number if all are. n is the number of the first
-- slot.
abbrev pub first_unsettled : ℕ → List Slot → ℕ
first_unsettled n [] = n
first_unsettled n (x ∷ xs) = if is_settled x.state then first_unsettled (suc n) xs else n

-- WinStartO, the start of the transmit window: the least number that is not settled, or the next number if
-- all are.
abbrev pub start_of : Session → ℕ
start_of s = first_unsettled s.first s.slots

-- Returns the numbers whose state passes a test, in increasing order. n is the number of the first slot.
abbrev pub numbers_where : (State → Bool) → ℕ → List Slot → List ℕ
numbers_where p n [] = []
numbers_where p n (x ∷ xs) =
    if p x.state then n ∷ numbers_where p (suc n) xs else numbers_where p (suc n) xs

-- Returns the numbers that wait to be sent, in increasing order.
abbrev pub waiting_numbers : Session → List ℕ
waiting_numbers s = numbers_where is_waiting s.first s.slots

-- Returns whether a BlockAckReq is due (9.21.7.7): the transmit window has passed a failed number, and no
-- request with a start above this number ended as heard.
abbrev pub request_due : Session → Bool
request_due s =
    list_any (λ n. nat_le s.heard n && nat_lt n (start_of s)) (numbers_where is_failed s.first s.slots)

-- Returns whether the next number is inside the transmit window: it is less than WinStartO + WinSizeO.
abbrev pub has_room : Session → Bool
has_room s = nat_lt (next_number s) (start_of s + s.size)

-- Returns the slot of number n.
abbrev pub slot : Session → ℕ → Slot
slot s n = at no_slot s.slots (n - s.first)

-- Replaces the slot of number n by f of it.
abbrev pub on_slot : ℕ → (Slot → Slot) → Session → Session
on_slot n f s = record s { slots = change no_slot s.slots (n - s.first) f }

-- Assigns the next number to the frame `id`.
abbrev pub with_number_given : Session → ℕ → Session
with_number_given s id = record s {
  slots = s.slots ++ record { id = id; attempts = 0; state = Waiting }
      ∷ [];
}

-- Sets the state of number n.
abbrev pub with_state : State → ℕ → Session → Session
with_state state n s = on_slot n (λ x. record x { state = state }) s

-- Returns a slot after its number was sent and not acknowledged: one attempt more, and it fails when its
-- attempts reach the limit.
abbrev pub slot_after_miss : ℕ → Slot → Slot
slot_after_miss limit x =
    let attempts : ℕ = x.attempts + 1 in
    let state : State = if nat_le limit attempts then Failed else Waiting in
    record { id = x.id; attempts = attempts; state = state }

-- The session after number n was sent and not acknowledged.
abbrev pub after_miss : ℕ → ℕ → Session → Session
after_miss limit n s = on_slot n (slot_after_miss limit) s

-- Returns a slot whose number is given up: it fails, and the attempts that are left count as made.
abbrev pub slot_given_up : ℕ → Slot → Slot
slot_given_up limit x = record { id = x.id; attempts = limit; state = Failed }

-- How an exchange ends for one of its numbers: the number is acknowledged, was sent in vain, was given up, or
-- never went on the air.
pub data End : Type 0 where
  Acknowledged : End
  Missed : End
  GivenUp : End
  Unsent : End

-- The session after an exchange ended so for number n. A number that never went on the air waits again, and
-- no attempt is counted.
abbrev pub after_end : ℕ → End → ℕ → Session → Session
after_end limit Acknowledged n s = with_state Acked n s
after_end limit Missed n s = after_miss limit n s
after_end limit GivenUp n s = on_slot n (slot_given_up limit) s
after_end limit Unsent n s = with_state Waiting n s

-- Returns a slot after a flush: a number that waits is given up.
abbrev pub slot_flushed : ℕ → Slot → Slot
slot_flushed limit x = if is_waiting x.state then slot_given_up limit x else x

-- The session after all numbers that wait were given up.
abbrev pub after_flush : ℕ → Session → Session
after_flush limit s = record s { slots = map (slot_flushed limit) s.slots }
