-- Defines the action frames of a block acknowledgement agreement (IEEE 802.11-2012, 8.4.1.14 and 8.5.5), as a
-- relation between octets and fields. All numbers are little-endian. Timeouts and octets after the fields may
-- have any value.
use Rattle.std.specs.Prelude.{◌≡◌, ℕ, ◌+◌, ◌*◌, ◌/◌, ◌%◌, ◌<◌, ◌≤◌, ◌==◌, Bool, true, List, [], ◌∷◌, ◌++◌, length, slice_index, if◌then◌else◌}
use Rattle.wf_octets.specs.Fields.{is_set, number_at, two_octets}
use Rattle.wf_session.specs.declared.action.Action.{Action}
use Rattle.wf_session.specs.declared.action.Action.TheVariants.{Request, Response, Teardown}

-- the category octet, and the action octets
abbrev pub category : ℕ
category = 3

abbrev pub request : ℕ
request = 0

abbrev pub response : ℕ
response = 1

abbrev pub teardown : ℕ
teardown = 2

-- The parameter set in the two octets at a place. Bit 0 may have any value, bit 1 is set for immediate
-- policy, bits 2 to 5 are the TID, and bits 6 to 15 the window.
abbrev pub tid_at : List ℕ → ℕ → ℕ
tid_at octets place = slice_index octets place / 4 % 16

abbrev pub window_at : List ℕ → ℕ → ℕ
window_at octets place = number_at octets place / 64

pub record HasParameters (octets : List ℕ) (place tid window : ℕ) : Type 0 where
  pub immediate : is_set (slice_index octets place) 1 ≡ true
  pub tid_bits : tid_at octets place ≡ tid
  pub known : tid < 8
  pub window_bits : window_at octets place ≡ window

-- ADDBA request: dialog token, parameter set, timeout, and a starting sequence control whose fragment number,
-- in bits 0 to 3, is 0
pub record IsAddbaRequest (octets : List ℕ) (token tid window start : ℕ) : Type 0 where
  pub long : 9 ≤ length octets
  pub category_octet : slice_index octets 0 ≡ category
  pub action_octet : slice_index octets 1 ≡ request
  pub token_octet : slice_index octets 2 ≡ token
  pub parameters : HasParameters octets 3 tid window
  pub start_bits : number_at octets 7 ≡ 16 * start

-- ADDBA response: dialog token, status, parameter set, timeout
pub record IsResponse (octets : List ℕ) (token status tid window : ℕ) : Type 0 where
  pub long : 9 ≤ length octets
  pub category_octet : slice_index octets 0 ≡ category
  pub action_octet : slice_index octets 1 ≡ response
  pub token_octet : slice_index octets 2 ≡ token
  pub status_octets : number_at octets 3 ≡ status
  pub parameters : HasParameters octets 5 tid window

-- DELBA: the parameters and the reason. Bits 0 to 10 of the parameters may have any value, bit 11 is the
-- initiator's, and bits 12 to 15 are the TID.
pub record IsTeardown (octets : List ℕ) (tid : ℕ) (initiator : Bool) (reason : ℕ) : Type 0 where
  pub long : 6 ≤ length octets
  pub category_octet : slice_index octets 0 ≡ category
  pub action_octet : slice_index octets 1 ≡ teardown
  pub initiator_bit : is_set (slice_index octets 3) 3 ≡ initiator
  pub tid_bits : slice_index octets 3 / 16 ≡ tid
  pub known : tid < 8
  pub reason_octets : number_at octets 4 ≡ reason

-- the octets begin with this action frame
abbrev pub IsAction : List ℕ → Action → Type 0
IsAction octets (Request token tid window start) = IsAddbaRequest octets token tid window start
IsAction octets (Response token status tid window) = IsResponse octets token status tid window
IsAction octets (Teardown tid initiator reason) = IsTeardown octets tid initiator reason

-- ---- the written octets: immediate policy, and 0 in every other field
abbrev pub parameter_set : ℕ → ℕ → ℕ
parameter_set tid window = 2 + 4 * tid + 64 * window

abbrev pub teardown_set : ℕ → Bool → ℕ
teardown_set tid initiator = (if initiator then 0x0800 else 0) + 0x1000 * tid

abbrev pub action_octets : Action → List ℕ
action_octets (Request token tid window start) =
    (category ∷ request ∷ token ∷ []) ++ two_octets (parameter_set tid window) ++ two_octets 0
    ++ two_octets (16 * start)
action_octets (Response token status tid window) =
    (category ∷ response ∷ token ∷ []) ++ two_octets status ++ two_octets (parameter_set tid window)
    ++ two_octets 0
action_octets (Teardown tid initiator reason) =
    (category ∷ teardown ∷ []) ++ two_octets (teardown_set tid initiator) ++ two_octets reason

-- the action can be written: the TID is below 8, and the window fits ten bits
abbrev pub CanBeWritten : Action → Type 0
CanBeWritten (Request token tid window start) = (tid < 8) × (window < 1024)
CanBeWritten (Response token status tid window) = (tid < 8) × (window < 1024)
CanBeWritten (Teardown tid initiator reason) = tid < 8

-- the fields fit their types: a token 8 bits, a start 12, a status and a reason 16
abbrev pub FitsFields : Action → Type 0
FitsFields (Request token tid window start) = (token < 256) × (start < 4096)
FitsFields (Response token status tid window) = (token < 256) × (status < 65536)
FitsFields (Teardown tid initiator reason) = reason < 65536

-- ---- the fields as they are read from their places
abbrev pub action_in : List ℕ → Action
action_in octets =
    if slice_index octets 1 == request then Request (slice_index octets 2) (tid_at octets 3)
    (window_at octets 3) (number_at octets 7 / 16 % 4096)
    else (if slice_index octets 1 == response then Response (slice_index octets 2) (number_at octets 3)
    (tid_at octets 5) (window_at octets 5)
    else Teardown (slice_index octets 3 / 16) (is_set (slice_index octets 3) 3) (number_at octets 4))
