-- Defines the calls that each event makes on the uplink, and the text that `uplink` writes for their answers.
use Rattle.std.specs.Prelude.{ℕ, ◌*◌, List, [], ◌∷◌, ◌++◌, codes, decimal, flat_map, replicate, Bool, true, false, if◌then◌else◌}
use Rattle.std.specs.List.{join_with_byte}
use Rattle.wf_def_lists.specs.Table.{bits_word}
use Rattle.wf_def_world.specs.Text.{score_digits}
use Rattle.wf_frame.specs.Words.{line}
use Rattle.wf_trace.specs.ScriptTexts.{Manner}
use Rattle.wf_uplink.specs.declared.fault.OpenFault.{OpenFault}
use Rattle.wf_uplink.specs.declared.fault.OpenFault.TheVariants.{BadStation, BadWindow, BadStart, Live}
use Rattle.wf_uplink.specs.declared.fault.UplinkFault.{UplinkFault}
use Rattle.wf_uplink.specs.declared.fault.UplinkFault.TheVariants.{Header, Kind, NotMine, Tid, Length}
use Rattle.wf_uplink.specs.declared.fault.RequestFault.{RequestFault}
use Rattle.wf_uplink.specs.declared.fault.RequestFault.TheVariants as request_fault
use Rattle.wf_uplink.specs.declared.bitmap.Bitmap.{Bitmap}
use Rattle.wf_uplink.specs.Sides.{bitmap_of}
use Rattle.wf_uplink.specs.declared.items.UpItem.{UpItem}
use Rattle.wf_uplink.specs.declared.items.UpItem.TheVariants.{Frame, Gap}
use Rattle.wf_uplink.specs.declared.up.Up.{Up}
use Rattle.wf_uplink.specs.declared.up.Totals.{Totals}
use Rattle.wf_uplink.specs.Shown.{up_of, totals_of}
use Rattle.wf_uplink.specs.World.{World, Call, Open, OpenPlain, SetRate, Receive, Request, Tick, Expire, Answer, Opened, NotOpened, Set, NotSet, Received, NotReceived, Requested, NotRequested, Now, TimedOut, NoneDue, tids_of_station, new_world, after_calls, answers}
use Rattle.wf_run_scripts.specs.declared.uplink.event.Event.{Event}
use Rattle.wf_run_scripts.specs.declared.uplink.event.Event.TheVariants as event
use Rattle.wf_run_scripts.specs.declared.uplink.told.Ending.{Ending}
use Rattle.wf_run_scripts.specs.declared.uplink.told.Ending.TheVariants as ending
use Rattle.wf_run_scripts.specs.UplinkRoom.{lacks_room}

-- The number of stations.
abbrev pub stations : ℕ
stations = 256

-- ---- refusals

abbrev pub open_word : OpenFault → List ℕ
open_word BadStation = codes "bad-station"
open_word BadWindow = codes "bad-window"
open_word BadStart = codes "bad-start"
open_word Live = codes "live"

abbrev pub fault_word : UplinkFault → List ℕ
fault_word (Header fault) = codes "header"
fault_word (Kind octet) = codes "kind"
fault_word NotMine = codes "not-mine"
fault_word (Tid tid) = codes "tid"
fault_word (Length have) = codes "length"

abbrev pub request_word : RequestFault → List ℕ
request_word (request_fault.Header fault) = codes "header"
request_word (request_fault.Kind octet) = codes "kind"
request_word (request_fault.Form fault) = codes "form"
request_word request_fault.NotMine = codes "not-mine"
request_word (request_fault.Tid tid) = codes "tid"
request_word request_fault.NotAgreed = codes "not-agreed"

abbrev pub refused_line : List ℕ → List ℕ
refused_line word = line (codes "refused" ∷ word ∷ [])

-- ---- frames that are passed up

-- The id and the sequence number of a frame; or, for numbers that are given up, the first of them and their
-- count.
abbrev pub item_words : UpItem → List (List ℕ)
item_words (Frame id seq) = join_with_byte 58 (decimal id ∷ decimal seq ∷ []) ∷ []
item_words (Gap from count) = codes "gap" ∷ join_with_byte 43 (decimal from ∷ decimal count ∷ []) ∷ []

-- The charge of a frame or a request; a timeout has none.
abbrev pub air_words : Bool → ℕ → List (List ℕ)
air_words is_frame air = if is_frame then codes "air" ∷ decimal air ∷ [] else []

abbrev pub old_words : Bool → List (List ℕ)
old_words old = if old then codes "old" ∷ [] else []

-- An Ack answers the frame.
abbrev pub ack_words : Bool → List (List ℕ)
ack_words ack = if ack then codes "ack" ∷ [] else []

-- The BlockAck that answers a request: its start, and its bits in hexadecimal, the greatest offset first.
abbrev pub bitmap_words : Bitmap → List (List ℕ)
bitmap_words b =
    codes "ba" ∷ decimal b.start ∷ score_digits (bits_word 0 b.bits) (bits_word 1 b.bits) (bits_word 2 b.bits)
    (bits_word 3 b.bits) b.wide ∷ []

-- The last words of a line: those of a frame or a timeout, or those of a request.
abbrev pub last_words : Ending → List (List ℕ)
last_words (ending.Frame old ack) = old_words old ++ ack_words ack
last_words (ending.Request bitmap) = bitmap_words bitmap

-- The line of what a TID passes up.
abbrev pub told_line : Bool → Up → Ending → List ℕ
told_line has_air u end =
    line (codes "up" ∷ codes "sta" ∷ decimal u.station ∷ codes "tid" ∷ decimal u.tid
    ∷ (air_words has_air u.air ++ (flat_map item_words u.items ++ last_words end)))

-- The line of a frame, or of a timeout.
abbrev pub up_line : Bool → Up → List ℕ
up_line is_frame u = told_line is_frame u (ending.Frame u.old u.ack)

-- The line of a request.
abbrev pub request_line : Up → Bitmap → List ℕ
request_line u b = told_line true u (ending.Request b)

-- ---- the answers to events

-- The line of a call's answer. If no reordering is due, there is no line.
abbrev pub answer_text : Answer → List ℕ
answer_text Opened = line (codes "opened" ∷ [])
answer_text (NotOpened fault) = refused_line (open_word fault)
answer_text Set = line (codes "set" ∷ [])
answer_text NotSet = refused_line (codes "closed")
answer_text (Received delivery) = up_line true (up_of delivery)
answer_text (NotReceived fault) = refused_line (fault_word fault)
answer_text (Requested delivery board) = request_line (up_of delivery) (bitmap_of board)
answer_text (NotRequested fault) = refused_line (request_word fault)
answer_text (Now now) = line (codes "now" ∷ decimal now ∷ [])
answer_text (TimedOut delivery) = up_line false (up_of delivery)
answer_text NoneDue = []

-- The calls of an event. After a step of the clock holes are given up, one by one; there are no more of them
-- than TIDs.
abbrev pub calls_of : Event → List Call
calls_of (event.Open station window start) = Open station window start ∷ []
calls_of (event.Plain station) = OpenPlain station ∷ []
calls_of (event.Rate station rate) = SetRate station rate ∷ []
calls_of (event.Tick by) = Tick by ∷ replicate (tids_of_station * stations) Expire
calls_of (event.Frame octets) = Receive octets ∷ []
calls_of (event.Bar octets) = Request octets ∷ []

-- The text that is written for calls.
abbrev pub calls_text : World → List Call → List ℕ
calls_text w calls = flat_map answer_text (answers w calls)

-- The text after the line `end`: the number of frames, and how many had each outcome.
abbrev pub totals_line : Totals → List ℕ
totals_line t =
    line (codes "frames" ∷ decimal t.frames ∷ codes "up" ∷ decimal t.up ∷ codes "old" ∷ decimal t.old ∷ codes "held" ∷ decimal t.held
    ∷ codes "missing" ∷ decimal t.missing ∷ [])

-- `NoMemory` is reported only at an event at which the clock or a total has no room left.
abbrev pub manner : Manner Event World
manner = record {
  answer = λ w e. calls_text w (calls_of e);
  after = λ w e. after_calls w (calls_of e);
  wants = λ w e. lacks_room w (calls_of e);
  closing = λ w. totals_line (totals_of w);
}

-- No station is open.
abbrev pub first : World
first = new_world stations
