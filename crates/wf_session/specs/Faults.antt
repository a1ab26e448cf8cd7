-- Defines the checks of an action frame, in their order (IEEE 802.11-2012, 8.4.1.14 and 8.5.5).
use Rattle.std.specs.Prelude.{ℕ, ◌/◌, ◌%◌, ◌==◌, not, nat_lt, List, length, slice_index, Option, Some, None, Result, Ok, Err, if◌then◌else◌}
use Rattle.wf_octets.specs.Fields.{is_set, number_at}
use Rattle.wf_session.specs.declared.action.Action.{Action}
use Rattle.wf_session.specs.declared.decoding.ActionFault.{ActionFault}
use Rattle.wf_session.specs.declared.decoding.ActionFault.TheVariants.{Short, Category, Delayed, Fragment, Tid}
use Rattle.wf_session.specs.declared.decoding.ActionFault.TheVariants.{Action as Unknown}
use Rattle.wf_session.specs.Layout.{category, request, response, teardown, tid_at, action_in}

abbrev pub action_tid_fault : ℕ → Option ActionFault
action_tid_fault tid = if nat_lt 7 tid then Some (Tid tid) else None

-- the checks of an ADDBA request: length, policy, fragment number, TID
abbrev pub request_fault : List ℕ → Option ActionFault
request_fault octets =
    if nat_lt (length octets) 9 then Some (Short 9 (length octets))
    else (if not (is_set (slice_index octets 3) 1) then Some Delayed
    else (if not (number_at octets 7 % 16 == 0) then Some (Fragment (number_at octets 7 % 16))
    else action_tid_fault (tid_at octets 3)))

-- the checks of an ADDBA response: length, policy, TID
abbrev pub response_fault : List ℕ → Option ActionFault
response_fault octets =
    if nat_lt (length octets) 9 then Some (Short 9 (length octets))
    else (if not (is_set (slice_index octets 5) 1) then Some Delayed else action_tid_fault (tid_at octets 5))

-- the checks of a DELBA: length, TID
abbrev pub teardown_fault : List ℕ → Option ActionFault
teardown_fault octets =
    if nat_lt (length octets) 6 then Some (Short 6 (length octets))
    else action_tid_fault (slice_index octets 3 / 16)

-- the first check that fails
abbrev pub first_action_fault : List ℕ → Option ActionFault
first_action_fault octets =
    if nat_lt (length octets) 2 then Some (Short 2 (length octets))
    else (if not (slice_index octets 0 == category) then Some (Category (slice_index octets 0))
    else (if slice_index octets 1 == request then request_fault octets
    else (if slice_index octets 1 == response then response_fault octets
    else (if slice_index octets 1 == teardown then teardown_fault octets
    else Some (Unknown (slice_index octets 1))))))

-- the result of reading: the first fault or, if there is none, the action whose fields the octets contain
abbrev pub action_read : Option ActionFault → Action → Result Action ActionFault
action_read None action = Ok action
action_read (Some fault) action = Err fault

abbrev pub decoded_action : List ℕ → Result Action ActionFault
decoded_action octets = action_read (first_action_fault octets) (action_in octets)
