-- Defines the world of the uplink: the reorderings and the sides of all stations, their rates, the clock and
-- the totals; and for each call its answer and the world after it.
use Rattle.std.specs.Prelude.{ℕ, zero, suc, ◌+◌, ◌*◌, ◌/◌, ◌%◌, nat_lt, nat_le, ◌&&◌, not, Bool, false, List, [], ◌∷◌, length, replicate, slice_set, slice_index_or, sum_by, position, Option, Some, None, is_some, if◌then◌else◌}
use Rattle.std.specs.Option.{option_or}
use Rattle.wf_def_air.specs.Airtime.{Rate, lowest_rate, data_charge, plain_charge, request_charge}
use Rattle.wf_def_air.specs.Fit.{plain_octets}
use Rattle.wf_recv_peer.specs.Board.{Board, empty_board, after_start}
use Rattle.wf_recv_peer.specs.Plain.{is_repeat, retry_of}
use Rattle.wf_uplink.specs.declared.fault.OpenFault.{OpenFault}
use Rattle.wf_uplink.specs.declared.fault.OpenFault.TheVariants.{BadStation, BadWindow, BadStart, Live}
use Rattle.wf_uplink.specs.declared.fault.UplinkFault.{UplinkFault}
use Rattle.wf_uplink.specs.declared.fault.UplinkFault.TheVariants.{NotMine}
use Rattle.wf_uplink.specs.declared.fault.RequestFault.{RequestFault}
use Rattle.wf_uplink.specs.declared.fault.RequestFault.TheVariants as request_fault
use Rattle.wf_uplink.specs.Frames.{sender_of, is_addressed, tid_in_control, sequence_of, body_length, header_fault, kind_fault, uplink_tid_fault, length_fault}
use Rattle.wf_uplink.specs.Requests.{is_request_addressed, request_tid, request_start, request_header_fault, request_kind_fault, request_form_fault, request_tid_fault}
use Rattle.wf_uplink.specs.Reordering.{Reordering, Passed, Released, GivenUp, ReorderingOutcome, new_reordering, unopened, arrived, requested as start_outcome, is_due, timed_out}
use Rattle.wf_uplink.specs.Sides.{SideValue, Agreed, Plain, unopened_side, is_plain_side, side_after, side_asked, agreed_board}

pub record World : Type 0 where
  pub clock : ℕ  -- in microseconds
  pub rates : List (Option Rate)  -- by station; None until it is opened
  pub reorderings : List Reordering  -- eight for each station: by station, then by TID
  pub sides : List SideValue  -- likewise
  pub frames : ℕ  -- accepted frames
  pub up : ℕ  -- released frames
  pub back : ℕ  -- old frames
  pub missing : ℕ  -- numbers that were given up

-- the result of a frame, a request or a timeout
pub record Delivery : Type 0 where
  pub station : ℕ
  pub tid : ℕ
  pub air : ℕ  -- the charge for the frame or the request, in microseconds
  pub old : Bool  -- whether the frame is old
  pub ack : Bool  -- whether an Ack answers it, since its TID has no agreement
  pub passed : List Passed

pub data Call : Type 0 where
  Open : (station : ℕ) → (window : ℕ) → (start : ℕ) → Call
  OpenPlain : (station : ℕ) → Call
  SetRate : (station : ℕ) → (rate : Rate) → Call
  Receive : (octets : List ℕ) → Call
  Request : (octets : List ℕ) → Call
  Tick : (by : ℕ) → Call
  Expire : Call

pub data Answer : Type 0 where
  Opened : Answer
  NotOpened : (fault : OpenFault) → Answer
  Set : Answer
  NotSet : Answer  -- the station is not open
  Received : (delivery : Delivery) → Answer
  NotReceived : (fault : UplinkFault) → Answer
  Requested : (delivery : Delivery) → (board : Board) → Answer  -- the scoreboard that the BlockAck shows
  NotRequested : (fault : RequestFault) → Answer
  Now : (now : ℕ) → Answer
  TimedOut : (delivery : Delivery) → Answer
  NoneDue : Answer

-- the number of TIDs of a station
abbrev pub tids_of_station : ℕ
tids_of_station = 8

-- no station is opened
abbrev pub new_world : ℕ → World
new_world stations = record {
  clock = 0;
  rates = replicate stations None;
  reorderings = replicate (tids_of_station * stations) unopened;
  sides = replicate (tids_of_station * stations) unopened_side;
  frames = 0;
  up = 0;
  back = 0;
  missing = 0;
}

abbrev pub rate_of : World → ℕ → Option Rate
rate_of w station = slice_index_or w.rates station None

abbrev pub is_open : World → ℕ → Bool
is_open w station = is_some (rate_of w station)

-- the index of the reordering of a station's TID
abbrev pub place_of : ℕ → ℕ → ℕ
place_of station tid = tids_of_station * station + tid

abbrev pub reordering_at : World → ℕ → Reordering
reordering_at w place = slice_index_or w.reorderings place unopened

abbrev pub reordering_of : World → ℕ → ℕ → Reordering
reordering_of w station tid = reordering_at w (place_of station tid)

abbrev pub place_side : World → ℕ → SideValue
place_side w place = slice_index_or w.sides place unopened_side

abbrev pub tid_side : World → ℕ → ℕ → SideValue
tid_side w station tid = place_side w (place_of station tid)

abbrev pub with_tid_side : ℕ → SideValue → World → World
with_tid_side place side w = record w { sides = slice_set w.sides place side }

-- the number of stored frames
abbrev pub held : World → ℕ
held w = sum_by (λ r. length r.stored) w.reorderings

-- ---- opening a station

-- the first check that fails
abbrev pub open_fault : ℕ → ℕ → ℕ → World → Option OpenFault
open_fault station window start w =
    if not (nat_lt station (length w.rates)) then Some BadStation
    else (if not (nat_le 1 window && nat_le window 256) then Some BadWindow
    else (if nat_lt 4095 start then Some BadStart
    else (if is_open w station then Some Live else None)))

-- the reorderings of a station's first n TIDs are reset
abbrev pub begun : ℕ → ℕ → ℕ → ℕ → List Reordering → List Reordering
begun zero station window start reorderings = reorderings
begun (suc n) station window start reorderings =
    slice_set (begun n station window start reorderings) (place_of station n) (new_reordering start window)

-- a station's first n TIDs have this side
abbrev pub sided : ℕ → ℕ → SideValue → List SideValue → List SideValue
sided zero station side sides = sides
sided (suc n) station side sides = slice_set (sided n station side sides) (place_of station n) side

-- the station has the lowest rate, and its reorderings and scoreboards are reset
abbrev pub opened : ℕ → ℕ → ℕ → World → World
opened station window start w =
    record w {
      rates = slice_set w.rates station (Some lowest_rate);
      reorderings =
          begun tids_of_station station window start w.reorderings;
      sides = sided tids_of_station station (Agreed (empty_board start window)) w.sides;
    }

-- ---- opening a station whose TIDs have no agreement

-- the first check that fails
abbrev pub open_plain_fault : ℕ → World → Option OpenFault
open_plain_fault station w =
    if not (nat_lt station (length w.rates)) then Some BadStation
    else (if is_open w station then Some Live else None)

-- the station has the lowest rate, and no frame of it was passed up
abbrev pub plain_opened : ℕ → World → World
plain_opened station w = record w {
  rates = slice_set w.rates station (Some lowest_rate);
  sides = sided tids_of_station station (Plain None) w.sides;
}

-- ---- a frame is received

-- the frame goes from an open station to the access point
abbrev pub is_mine : List ℕ → World → Bool
is_mine octets w = is_addressed octets && is_open w (sender_of octets)

abbrev pub mine_fault : List ℕ → World → Option UplinkFault
mine_fault octets w = if is_mine octets w then None else Some NotMine

-- the first check that fails
abbrev pub receive_fault : List ℕ → World → Option UplinkFault
receive_fault octets w =
    option_or (header_fault octets)
    (option_or (kind_fault octets) (option_or (mine_fault octets w)
    (option_or (uplink_tid_fault octets) (length_fault octets))))

-- the octets on the air in addition to the frame's own: the delimiter and the check sequence, four each
abbrev pub around_octets : ℕ
around_octets = 8

-- the setting `answers` that charges in the uplink have: the access point answers at 24 Mbit/s, whatever the
-- station's rate is
abbrev pub rates_of_answers : ℕ
rates_of_answers = 0

-- the charge for octets at a rate, not wide; 0 without a rate
abbrev pub air_of : Option Rate → ℕ → ℕ
air_of None octets = 0
air_of (Some rate) octets = data_charge rates_of_answers rate (octets + around_octets) false

-- the charge for a frame with a body of this many octets that an Ack answers
abbrev pub plain_air_of : Option Rate → ℕ → ℕ
plain_air_of None body = 0
plain_air_of (Some rate) body = plain_charge rates_of_answers rate (plain_octets rate (body ∷ []))

-- the charge for a frame, by its TID's side
abbrev pub frame_air_of : SideValue → Option Rate → List ℕ → ℕ
frame_air_of (Agreed board) rate octets = air_of rate (length octets)
frame_air_of (Plain last) rate octets = plain_air_of rate (body_length octets)

abbrev pub released_in : List Passed → ℕ
released_in [] = 0
released_in (Released id number ∷ later) = 1 + released_in later
released_in (GivenUp from count ∷ later) = released_in later

abbrev pub given_up_in : List Passed → ℕ
given_up_in [] = 0
given_up_in (Released id number ∷ later) = given_up_in later
given_up_in (GivenUp from count ∷ later) = count + given_up_in later

abbrev pub count_of : Bool → ℕ
count_of b = if b then 1 else 0

-- the reordering at a place has this outcome, which is counted
abbrev pub with_outcome : ℕ → ReorderingOutcome → World → World
with_outcome place o w = record w {
  reorderings = slice_set w.reorderings place o.after;
  up = w.up + released_in o.passed;
  back = w.back + count_of o.old;
  missing = w.missing + given_up_in o.passed;
}

-- the outcome of a frame whose sequence number has these twelve bits, at the reordering of a place; its id is
-- the number of frames accepted before it
abbrev pub arrival_outcome : ℕ → ℕ → World → ReorderingOutcome
arrival_outcome place bits w = arrived bits w.frames w.clock (reordering_at w place)

-- the frame is accepted
abbrev pub arrived_at : ℕ → ℕ → World → World
arrived_at place bits w =
    with_outcome place (arrival_outcome place bits w) (record w { frames = w.frames + 1 })

-- the index of the reordering of a frame's station and TID
abbrev pub place_of_frame : List ℕ → ℕ
place_of_frame octets = place_of (sender_of octets) (tid_in_control octets)

abbrev pub side_of_frame : List ℕ → World → SideValue
side_of_frame octets w = place_side w (place_of_frame octets)

-- a frame without an agreement is accepted: it is a repeat, or it is released at once
abbrev pub plain_taken : Bool → World → World
plain_taken repeat w = record w {
  frames = w.frames + 1;
  up = w.up + count_of (not repeat);
  back = w.back + count_of repeat;
}

abbrev pub plain_passed : Bool → ℕ → ℕ → List Passed
plain_passed repeat id number = if repeat then [] else Released id number ∷ []

-- the frame at a place, with this Retry bit and these twelve bits, is accepted, by its TID's side
abbrev pub accepted : SideValue → ℕ → Bool → ℕ → World → World
accepted (Agreed board) place retry bits w = arrived_at place bits w
accepted (Plain last) place retry bits w = plain_taken (is_repeat last retry bits) w

-- whether it is old, and the items that it passes
abbrev pub is_old : SideValue → ℕ → Bool → ℕ → World → Bool
is_old (Agreed board) place retry bits w = (arrival_outcome place bits w).old
is_old (Plain last) place retry bits w = is_repeat last retry bits

abbrev pub passed_for : SideValue → ℕ → Bool → ℕ → World → List Passed
passed_for (Agreed board) place retry bits w = (arrival_outcome place bits w).passed
passed_for (Plain last) place retry bits w = plain_passed (is_repeat last retry bits) w.frames bits

-- it is recorded at its TID's side
abbrev pub recorded : ℕ → ℕ → World → World
recorded place bits w = with_tid_side place (side_after bits (place_side w place)) w

abbrev pub received : List ℕ → World → World
received octets w =
    recorded (place_of_frame octets) (sequence_of octets)
    (accepted (side_of_frame octets w) (place_of_frame octets) (retry_of octets) (sequence_of octets) w)

abbrev pub delivery_of : List ℕ → World → Delivery
delivery_of octets w = record {
  station = sender_of octets;
  tid = tid_in_control octets;
  air = frame_air_of (side_of_frame octets w) (rate_of w (sender_of octets)) octets;
  old = is_old (side_of_frame octets w) (place_of_frame octets) (retry_of octets) (sequence_of octets) w;
  ack = is_plain_side (side_of_frame octets w);
  passed =
      passed_for (side_of_frame octets w) (place_of_frame octets) (retry_of octets) (sequence_of octets) w;
}

-- ---- a BlockAckReq is received

-- the index of the reordering of a request's station and TID
abbrev pub place_of_request : List ℕ → ℕ
place_of_request octets = place_of (sender_of octets) (request_tid octets)

-- the request goes from an open station to the access point
abbrev pub is_request_mine : List ℕ → World → Bool
is_request_mine octets w = is_request_addressed octets && is_open w (sender_of octets)

abbrev pub request_mine_fault : List ℕ → World → Option RequestFault
request_mine_fault octets w = if is_request_mine octets w then None else Some request_fault.NotMine

abbrev pub agreed_fault : List ℕ → World → Option RequestFault
agreed_fault octets w = if is_plain_side (place_side w (place_of_request octets))
    then Some request_fault.NotAgreed else None

-- the first check that fails
abbrev pub first_request_fault : List ℕ → World → Option RequestFault
first_request_fault octets w =
    option_or (request_header_fault octets)
    (option_or (request_kind_fault octets) (option_or (request_form_fault octets)
    (option_or (request_mine_fault octets w)
    (option_or (request_tid_fault octets) (agreed_fault octets w)))))

-- the outcome of a request whose start has these twelve bits, at the reordering of a place
abbrev pub asked_outcome : ℕ → ℕ → World → ReorderingOutcome
asked_outcome place bits w = start_outcome bits w.clock (reordering_at w place)

-- the window of the reordering moves
abbrev pub moved_at : ℕ → ℕ → World → World
moved_at place bits w = with_outcome place (asked_outcome place bits w) w

-- the window of the scoreboard moves
abbrev pub asked_at : ℕ → ℕ → World → World
asked_at place bits w = with_tid_side place (side_asked bits (place_side w place)) w

abbrev pub requested : List ℕ → World → World
requested octets w = asked_at (place_of_request octets) (request_start octets)
    (moved_at (place_of_request octets) (request_start octets) w)

-- the scoreboard that the BlockAck shows
abbrev pub board_shown : List ℕ → World → Board
board_shown octets w =
    after_start (request_start octets) (agreed_board (place_side w (place_of_request octets)))

-- the charge for a request whose BlockAck shows this scoreboard; 0 without a rate
abbrev pub request_air_of : Option Rate → Board → ℕ
request_air_of None board = 0
request_air_of (Some rate) board = request_charge rates_of_answers rate (nat_lt 64 board.size)

abbrev pub request_delivery : List ℕ → World → Delivery
request_delivery octets w = record {
  station = sender_of octets;
  tid = request_tid octets;
  air = request_air_of (rate_of w (sender_of octets)) (board_shown octets w);
  old = false;
  ack = false;
  passed = (asked_outcome (place_of_request octets) (request_start octets) w).passed;
}

-- ---- a hole is given up

-- the index of the first reordering that is due, by station, then by TID
abbrev pub first_due : World → Option ℕ
first_due w = position (is_due w.clock) w.reorderings

abbrev pub timeout_outcome : ℕ → World → ReorderingOutcome
timeout_outcome place w = timed_out w.clock (reordering_at w place)

abbrev pub expired_at : ℕ → World → World
expired_at place w = with_outcome place (timeout_outcome place w) w

abbrev pub timeout_of : ℕ → World → Delivery
timeout_of place w =
    record {
      station = place / tids_of_station;
      tid = place % tids_of_station;
      air = 0;
      old = false;
      ack = false;
      passed =
          (timeout_outcome place w).passed;
    }

-- ---- one call

abbrev pub open_answer : Option OpenFault → Answer
open_answer None = Opened
open_answer (Some fault) = NotOpened fault

abbrev pub receive_answer : Option UplinkFault → List ℕ → World → Answer
receive_answer None octets w = Received (delivery_of octets w)
receive_answer (Some fault) octets w = NotReceived fault

abbrev pub request_answer : Option RequestFault → List ℕ → World → Answer
request_answer None octets w = Requested (request_delivery octets w) (board_shown octets w)
request_answer (Some fault) octets w = NotRequested fault

abbrev pub expire_answer : Option ℕ → World → Answer
expire_answer None w = NoneDue
expire_answer (Some place) w = TimedOut (timeout_of place w)

abbrev pub answer : Call → World → Answer
answer (Open station window start) w = open_answer (open_fault station window start w)
answer (OpenPlain station) w = open_answer (open_plain_fault station w)
answer (SetRate station rate) w = if is_open w station then Set else NotSet
answer (Receive octets) w = receive_answer (receive_fault octets w) octets w
answer (Request octets) w = request_answer (first_request_fault octets w) octets w
answer (Tick by) w = Now (w.clock + by)
answer Expire w = expire_answer (first_due w) w

-- a refused call changes nothing
abbrev pub after_open : Option OpenFault → ℕ → ℕ → ℕ → World → World
after_open None station window start w = opened station window start w
after_open (Some fault) station window start w = w

abbrev pub after_open_plain : Option OpenFault → ℕ → World → World
after_open_plain None station w = plain_opened station w
after_open_plain (Some fault) station w = w

abbrev pub after_receive : Option UplinkFault → List ℕ → World → World
after_receive None octets w = received octets w
after_receive (Some fault) octets w = w

abbrev pub after_request : Option RequestFault → List ℕ → World → World
after_request None octets w = requested octets w
after_request (Some fault) octets w = w

abbrev pub after_expire : Option ℕ → World → World
after_expire None w = w
after_expire (Some place) w = expired_at place w

unfoldable pub after_call : Call → World → World
after_call (Open station window start) w = after_open
    (open_fault station window start w) station window start w
after_call (OpenPlain station) w = after_open_plain (open_plain_fault station w) station w
after_call (SetRate station rate) w = if is_open w station
    then record w { rates = slice_set w.rates station (Some rate) } else w
after_call (Receive octets) w = after_receive (receive_fault octets w) octets w
after_call (Request octets) w = after_request (first_request_fault octets w) octets w
after_call (Tick by) w = record w { clock = w.clock + by }
after_call Expire w = after_expire (first_due w) w

-- the world after a list of calls
unfoldable pub after_calls : World → List Call → World
after_calls w [] = w
after_calls w (call ∷ later) = after_calls (after_call call w) later

-- the answers to a list of calls
unfoldable pub answers : World → List Call → List Answer
answers w [] = []
answers w (call ∷ later) = answer call w ∷ answers (after_call call w) later
