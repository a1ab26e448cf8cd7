-- Defines queries of an open exchange.
use Rattle.std.specs.Prelude.{ℕ, ◌+◌, ◌==◌, Bool, true, false, ◌&&◌, ◌||◌, List, [], ◌∷◌, length, map, Option, None, slice_get, if◌then◌else◌}
use Rattle.std.specs.List.{list_any, list_all}
use Rattle.wf_def_lists.specs.Table.{has, with_member, upto}
use Rattle.wf_frame.specs.declared.classes.Class.{Class}
use Rattle.wf_frame.specs.Classes.{same_class}
use Rattle.wf_send_parts.specs.declared.exchanges.opened.Open.{Open}
use Rattle.wf_send_parts.specs.declared.exchanges.opened.Sending.{Sending}
use Rattle.wf_send_parts.specs.declared.exchanges.opened.Sending.TheVariants.{Data, Request}

-- the number of an exchange
abbrev pub exchange_number : Open → ℕ
exchange_number x = x.number

-- how many transmissions it has: one for each frame, or one for a request
abbrev pub transmissions_of : Sending → ℕ
transmissions_of (Data numbers) = length numbers
transmissions_of (Request start) = 1

-- how many frames it sends, of which a request has none
abbrev pub frames_carried : Sending → ℕ
frames_carried (Data numbers) = length numbers
frames_carried (Request start) = 0

-- the sequence number of the frame in a transmission; None for a request, or past the last frame
abbrev pub number_carried : Sending → ℕ → Option ℕ
number_carried (Data numbers) i = slice_get numbers i
number_carried (Request start) i = None

-- whether it sends a BlockAckReq (IEEE 802.11-2012, 8.3.1.8)
abbrev pub sending_is_request : Sending → Bool
sending_is_request (Data numbers) = false
sending_is_request (Request start) = true

-- whether it sends a BlockAckReq to TID t of station s
abbrev pub is_request_of : ℕ → ℕ → Open → Bool
is_request_of s t x = (x.station == s) && ((x.tid == t) && sending_is_request x.sending)

-- the computed airtime of these exchanges together, in microseconds
abbrev pub airtime_of : List Open → ℕ
airtime_of [] = 0
airtime_of (x ∷ xs) = x.charge + airtime_of xs

-- the computed airtime of those of these exchanges that go to station s in class c, in microseconds
abbrev pub airtime_to : List Open → ℕ → Class → ℕ
airtime_to [] s c = 0
airtime_to (x ∷ xs) s c =
    (if (x.station == s) && same_class x.class c then x.charge else 0) + airtime_to xs s c

-- whether a BlockAckReq to TID t of station s is open
abbrev pub asks : List Open → ℕ → ℕ → Bool
asks opened s t = list_any (is_request_of s t) opened

-- ---- the marks of a device

-- whether transmission i has a mark: it never went on the air, or the device will not try it again
abbrev pub has_mark : Open → ℕ → Bool
has_mark x i = has x.unsent i || has x.given_up i

-- whether none of the transmissions went on the air
abbrev pub has_nothing_sent : Open → Bool
has_nothing_sent x = list_all (λ i. has x.unsent i) (upto (transmissions_of x.sending))

-- transmission i never went on the air
abbrev pub with_unsent : ℕ → Open → Open
with_unsent i x = record x { unsent = with_member i x.unsent }

-- the device will not try transmission i again
abbrev pub with_given_up : ℕ → Open → Open
with_given_up i x = record x { given_up = with_member i x.given_up }

-- the exchanges with f applied to the one with this number, and all others unchanged
abbrev pub with_exchange_changed : ℕ → (Open → Open) → List Open → List Open
with_exchange_changed number f opened = map (λ x. if x.number == number then f x else x) opened
