-- Defines the calls of a path, and the frames that they bring and return.
use Rattle.std.specs.Prelude.{ℕ, ◌+◌, ◌==◌, Bool, true, false, if◌then◌else◌, List, [], ◌∷◌, count_by, Option, Some, None}
use Rattle.wf_frame.specs.Frames.{FrameValue}
use Rattle.wf_frame.specs.declared.notes.Ask.{Ask}
use Rattle.wf_frame.specs.declared.notes.Ask.TheVariants as machine
use Rattle.wf_frame.specs.declared.notes.Ask.TheVariants.{Pull, Reap}
use Rattle.wf_frame.specs.declared.notes.Note.{Note}
use Rattle.wf_frame.specs.declared.notes.Note.TheVariants.{Asked}
use Rattle.wf_frame.specs.declared.notes.Part.TheVariants.{Mpdus, Batch, Plain}
use Rattle.wf_frame.specs.declared.notes.Refusal.TheVariants.{Idle}
use Rattle.wf_frame.specs.declared.notes.ReplyNote.{ReplyNote}
use Rattle.wf_frame.specs.declared.notes.ReplyNote.TheVariants.{Accepted, Send, Reaped, Ceased, Refused}
use Rattle.wf_def_world.specs.World.{World, exchange}
use Rattle.wf_queue_flows_refines.specs.Frames.{with_body}
use Rattle.wf_send_half.specs.Enqueues.{enqueue_of, as_accepted}
use Rattle.wf_send_half.specs.Marks.{HasNotArrived, bodies_unsent}
use Rattle.wf_send_half.specs.Replies.{bodies_sent}
use Rattle.wf_send_half_model.specs.Half.{TransmitValue}
use Rattle.wf_send_half_model.specs.Flushing.{released_at_cease}
use Rattle.wf_path.specs.declared.asks.ExchangeAsk.{ExchangeAsk}
use Rattle.wf_path.specs.declared.asks.ExchangeAsk.TheVariants as about
use Rattle.wf_path.specs.declared.asks.PathAsk.{PathAsk}
use Rattle.wf_path.specs.declared.asks.PathAsk.TheVariants as path
use Rattle.wf_path.specs.declared.asks.PathJob.{PathJob}
use Rattle.wf_path.specs.declared.asks.PathJob.TheVariants as paths
use Rattle.wf_path.specs.declared.job.Job.{Job}
use Rattle.wf_path.specs.declared.job.Job.TheVariants.{Give, Call}

-- the machine's call of a job
abbrev pub note_of : Job → Note
note_of (Give f) = enqueue_of f
note_of (Call ask) = Asked ask

-- the frame of a job, if it has one
abbrev pub frame_of : Job → Option FrameValue
frame_of (Give f) = Some f
frame_of (Call ask) = None

-- the machine's call that an ask of a path is
abbrev pub as_ask : PathAsk → Ask
as_ask (path.Join station window start exponent weight) = machine.Join station window start exponent weight
as_ask (path.Leave station) = machine.Leave station
as_ask (path.Rate station rate) = machine.Rate station rate
as_ask (path.Tick by) = machine.Tick by
as_ask (path.Sleep station) = machine.Sleep station
as_ask (path.Wake station) = machine.Wake station
as_ask (path.Poll station) = machine.Poll station
as_ask (path.Rx station class air) = machine.Rx station class air
as_ask (path.Ampdu station octets) = machine.Ampdu station octets
as_ask (path.Stop station) = machine.Stop station
as_ask (path.Start station) = machine.Start station
as_ask (path.Unsent exchange index) = machine.Unsent exchange index
as_ask (path.GiveUp exchange index) = machine.GiveUp exchange index
as_ask (path.Flush station tid) = machine.Flush station tid
as_ask (path.Offload station exponent weight) = machine.Offload station exponent weight
as_ask (path.Weight station weight) = machine.Weight station weight
as_ask (path.Plain station start exponent weight) = machine.Plain station start exponent weight
as_ask (path.Hold station tid) = machine.Hold station tid
as_ask (path.Begin station tid window) = machine.Begin station tid window
as_ask (path.Free station tid) = machine.Free station tid
as_ask (path.Cease station tid) = machine.Cease station tid
as_ask (path.Group call) = machine.Group call
as_ask (path.Service ask) = machine.Service ask
as_ask (path.Bss station bss) = machine.Bss station bss

-- the machine's job that a path's job is
abbrev pub job_of : PathJob → Job
job_of (paths.Give f) = Give f
job_of (paths.Pull class limits) = Call (Pull class limits)
job_of (paths.Call ask) = Call (as_ask ask)
job_of paths.Reap = Call Reap

-- the machine's call that a call about an open exchange is
abbrev pub ask_about : ExchangeAsk → Ask
ask_about (about.Arrive exchange index) = machine.Arrive exchange index
ask_about (about.Answer exchange) = machine.Answer exchange
ask_about (about.Done exchange heard air) = machine.Done exchange heard air

-- the BSS whose group frames a call is about; 0 if it is about none
abbrev pub bss_asked : Note → ℕ
bss_asked (Asked (machine.Group call)) = call.bss
bss_asked note = 0

-- Whether a path answers a call as the machine does in the world w. A path does not know what arrived, so a
-- caller that knows makes the call Unsent only for a transmission that has not arrived, of an exchange
-- without an answer.
abbrev pub MayCall : World → Job → Type 0
MayCall w (Call (machine.Unsent exchange index)) = HasNotArrived w exchange index
MayCall w job = Unit {0}

-- The frame of each id after a call of v in the world w, as it was accepted, with the number of its
-- transmissions since. An accepted frame is added; the frames that a pull sends, by its reply, count one more
-- transmission, and the frame of a transmission that never went on the air counts one less.
abbrev pub bodies_after : TransmitValue → World → Job → ReplyNote → (ℕ → FrameValue) → ℕ → FrameValue
bodies_after v w (Give f) (Accepted id dropped) bodies = with_body bodies (as_accepted v f)
bodies_after v w (Call (Pull class limits)) reply bodies = bodies_sent reply bodies
bodies_after v w (Call (machine.Unsent e index)) reply bodies = bodies_unsent (exchange w e) index reply
    bodies
bodies_after v w job reply bodies = bodies

-- how often an id is in these pairs
abbrev pub times_in : List (ℕ × ℕ) → ℕ → ℕ
times_in [] id = 0
times_in (pair ∷ pairs) id = (if id == pair.0 then 1 else 0) + times_in pairs id

-- how often a reply sends the frame of an id
abbrev pub times_sent : ReplyNote → ℕ → ℕ
times_sent (Send exchange station tid air (Mpdus pairs) more eosp) id = times_in pairs id
times_sent (Send exchange station tid air (Plain pairs) more eosp) id = times_in pairs id
times_sent (Send exchange station tid air (Batch ids) more eosp) id = count_by (λ i. i == id) ids
times_sent reply id = 0

-- The machine's reply to a call that a path answers so. A path has no receivers: when an agreement ends, it
-- does not know which frames the receiver releases (`released_at_cease`, wf_send_half_model). All other
-- answers are the machine's replies.
abbrev pub with_released : World → Job → ReplyNote → ReplyNote
with_released w (Call (machine.Cease s t)) (Ceased dropped ids) = Ceased dropped (released_at_cease w s t)
with_released w job reply = reply

-- The frame that a call returns: its own frame if it is refused; the frame of the reaped id, with its fate;
-- else none.
abbrev pub frame_given_back : (ℕ → FrameValue) → Job → ReplyNote → Option FrameValue
frame_given_back bodies (Give f) (Refused reason) = Some f
frame_given_back bodies (Call Reap) (Reaped id fate) = Some (record (bodies id) { fate = fate })
frame_given_back bodies job reply = None

-- whether a reply says that its call changed nothing: any refusal except Idle
abbrev pub changes_nothing : ReplyNote → Bool
changes_nothing (Refused Idle) = false
changes_nothing (Refused reason) = true
changes_nothing reply = false

-- whether a reply is a refusal
abbrev pub is_refused : ReplyNote → Bool
is_refused (Refused reason) = true
is_refused reply = false
