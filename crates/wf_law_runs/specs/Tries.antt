-- Defines the law of tries: how often a frame is sent in a whole run, by the setting `attempts`. An exchange
-- sends each of its frames. A frame that never went on the air is counted twice: as sent by its Pull, and as
-- unsent by the Done of its exchange.
use Rattle.std.specs.Prelude.{◌≡◌, ℕ, ◌+◌, ◌*◌, ◌≤◌, ◌==◌, Bool, false, ◌&&◌, List, [], ◌∷◌, Option, Some, None, is_none, if◌then◌else◌, length, take, count_by}
use Rattle.wf_frame.specs.declared.settings.Config.{Config}
use Rattle.wf_frame.specs.declared.classes.Cause.TheVariants.{Retries, Flushed}
use Rattle.wf_frame.specs.declared.classes.Fate.TheVariants.{Dropped}
use Rattle.wf_frame.specs.declared.notes.Ask.TheVariants.{Done}
use Rattle.wf_frame.specs.declared.notes.Note.{Note}
use Rattle.wf_frame.specs.declared.notes.Note.TheVariants.{Asked}
use Rattle.wf_frame.specs.declared.notes.Part.{Part}
use Rattle.wf_frame.specs.declared.notes.Part.TheVariants.{Mpdus, Batch, Plain, Request}
use Rattle.wf_frame.specs.declared.notes.ReplyNote.{ReplyNote}
use Rattle.wf_frame.specs.declared.notes.ReplyNote.TheVariants.{Send}
use Rattle.wf_def_lists.specs.Lengths.{greatest_body}
use Rattle.wf_def_lists.specs.Table.{has}
use Rattle.wf_def_agreement.specs.Session.{Slot, State, slot}
use Rattle.wf_def_world.specs.World.{World, Mpdu, Exchange, session, exchange, accepted_count, opening}
use Rattle.wf_def_world.specs.CanSend.{is_request}
use Rattle.wf_def_world.specs.Exchanges.{mpdus_of, numbers_unsent}
use Rattle.wf_def_world.specs.Refusals.{refusal}
use Rattle.wf_def_world.specs.Step.{step}
use Rattle.wf_def_world.specs.Run.{Entry}
use Rattle.wf_def_world.specs.Stretches.{world_at}
use Rattle.wf_def_world.specs.Text.{tally}
use Rattle.wf_law_runs.specs.Queues.{AreAtMost}

-- Returns how many subframes of an aggregate have this id. A subframe is its id and its number modulo 4096.
abbrev pub count_of : ℕ → List (ℕ × ℕ) → ℕ
count_of id [] = 0
count_of id (m ∷ ms) = (if m.0 == id then 1 else 0) + count_of id ms

-- Returns how often an exchange sends a frame. A request sends none.
abbrev pub count_in_part : ℕ → Part → ℕ
count_in_part id (Mpdus mpdus) = count_of id mpdus
count_in_part id (Plain mpdus) = count_of id mpdus
count_in_part id (Batch ids) = count_by (λ i. i == id) ids
count_in_part id (Request start) = 0

-- Returns how often a reply sends a frame. Only the reply to a Pull sends frames.
abbrev pub tries_by : ℕ → ReplyNote → ℕ
tries_by id (Send exchange station tid air part more eosp) = count_in_part id part
tries_by id reply = 0

-- Returns how often the calls of a history send a frame, from a world on.
abbrev pub tries : World → ℕ → List Entry → ℕ
tries w id [] = 0
tries w id (e ∷ es) = tries_by id (step w e.1).reply + tries (step w e.1).world id es

-- Returns how many frames an exchange sends.
abbrev pub frames_in_part : Part → ℕ
frames_in_part (Mpdus mpdus) = length mpdus
frames_in_part (Plain mpdus) = length mpdus
frames_in_part (Batch ids) = length ids
frames_in_part (Request start) = 0

-- Returns how many frames a reply sends.
abbrev pub frames_sent_by : ReplyNote → ℕ
frames_sent_by (Send exchange station tid air part more eosp) = frames_in_part part
frames_sent_by reply = 0

-- Returns how many frames the calls of a history send, from a world on. A frame counts each time it is sent.
abbrev pub frames_sent_in : World → List Entry → ℕ
frames_sent_in w [] = 0
frames_sent_in w (e ∷ es) = frames_sent_by (step w e.1).reply + frames_sent_in (step w e.1).world es

-- Returns how many subframes of an exchange have this id and one of these numbers.
abbrev pub count_among : ℕ → List ℕ → List Mpdu → ℕ
count_among id numbers mpdus = count_by (λ m. (m.id == id) && has numbers m.number) mpdus

-- Returns how often an open exchange was to send a frame and did not: the subframes with this id that never
-- went on the air.
abbrev pub unsent_in : ℕ → Option Exchange → ℕ
unsent_in id None = 0
unsent_in id (Some x) = count_among id (numbers_unsent x) (mpdus_of x.content)

-- Returns how often a call ends an exchange that was to send a frame and did not.
abbrev pub unsent_by : World → ℕ → Note → ℕ
unsent_by w id (Asked (Done e heard air)) =
    if is_none (refusal w (Asked (Done e heard air))) then unsent_in id (exchange w e) else 0
unsent_by w id _ = 0

-- Returns how often the exchanges that the calls of a history end were to send a frame and did not, from a
-- world on.
abbrev pub unsent : World → ℕ → List Entry → ℕ
unsent w id [] = 0
unsent w id (e ∷ es) = unsent_by w id e.1 + unsent (step w e.1).world id es

-- Returns how many frames of an open exchange never went on the air.
abbrev pub frames_unsent_in : Option Exchange → ℕ
frames_unsent_in None = 0
frames_unsent_in (Some x) = count_by (λ m. has (numbers_unsent x) m.number) (mpdus_of x.content)

-- Returns how many frames that never went on the air are in the exchange that a call ends.
abbrev pub frames_unsent_by : World → Note → ℕ
frames_unsent_by w (Asked (Done e heard air)) =
    if is_none (refusal w (Asked (Done e heard air))) then frames_unsent_in (exchange w e) else 0
frames_unsent_by w _ = 0

-- Returns how many frames that never went on the air are in the exchanges that the calls of a history end,
-- from a world on. A frame counts each time.
abbrev pub frames_unsent : World → List Entry → ℕ
frames_unsent w [] = 0
frames_unsent w (e ∷ es) = frames_unsent_by w e.1 + frames_unsent (step w e.1).world es

-- Returns how many exchanges of data a reply opens.
abbrev pub data_exchanges_by : ReplyNote → ℕ
data_exchanges_by (Send exchange station tid air (Mpdus mpdus) more eosp) = 1
data_exchanges_by (Send exchange station tid air (Batch ids) more eosp) = 1
data_exchanges_by (Send exchange station tid air (Plain mpdus) more eosp) = 1
data_exchanges_by reply = 0

-- Returns how many exchanges of data the calls of a history open, from a world on.
abbrev pub data_exchanges : World → List Entry → ℕ
data_exchanges w [] = 0
data_exchanges w (e ∷ es) = data_exchanges_by (step w e.1).reply + data_exchanges (step w e.1).world es

-- Returns whether an exchange is open and sends a BlockAckReq.
abbrev pub asks_in : Option Exchange → Bool
asks_in None = false
asks_in (Some x) = is_request x.content

-- Returns how many requests a call ends as heard: 1 or 0.
abbrev pub requests_heard_by : World → Note → ℕ
requests_heard_by w (Asked (Done e heard air)) =
    if heard && (is_none (refusal w (Asked (Done e heard air))) && asks_in (exchange w e)) then 1 else 0
requests_heard_by w _ = 0

-- Returns how many requests the calls of a history end as heard, from a world on.
abbrev pub requests_heard : World → List Entry → ℕ
requests_heard w [] = 0
requests_heard w (e ∷ es) = requests_heard_by w e.1 + requests_heard (step w e.1).world es

-- The `attempts` of a slot, if exchanges that sent its frame n times were opened, and u of those that ended
-- never put it on the air: one for each time that the frame went on the air and was not acknowledged. As long
-- as the frame is in an open exchange, its last time is not counted yet.
pub record IsCounted (n u : ℕ → ℕ) (x : Slot) : Type 0 where
  pub waits : x.state ≡ State.Waiting → n x.id ≡ x.attempts + u x.id
  pub flies : (e : ℕ) → x.state ≡ State.Flying e → n x.id ≡ x.attempts + 1 + u x.id

-- The tries of the entries `past`, and the world w after them.
pub record KeepsTries (config : Config) (past : List Entry) (w : World) : Type 0 where
  -- A frame is sent at most as often as the setting `attempts` says, if the times are not counted in which it
  -- never went on the air.
  pub each : (id : ℕ) → tries (opening config) id past ≤ config.attempts + unsent (opening config) id past
  -- A frame that is not yet accepted was never sent.
  pub accepted : (id : ℕ) → accepted_count w ≤ id → tries (opening config) id past ≡ 0
  -- A number that waits or is on the air counts how often its frame was sent.
  pub counted : (s t n : ℕ) → IsCounted (λ id. tries (opening config) id past)
      (λ id. unsent (opening config) id past) (slot (session w s t) n)
  -- All frames together are sent at most `attempts` times the number of accepted frames, if the times are not
  -- counted in which one never went on the air.
  pub all : frames_sent_in (opening config) past
      ≤ config.attempts * accepted_count w + frames_unsent (opening config) past
  -- If no frame is longer than the greatest body, there are at most as many exchanges of data as frames sent.
  pub exchanges : AreAtMost greatest_body past → data_exchanges (opening config) past
      ≤ frames_sent_in (opening config) past
  -- There are at most as many heard requests as frames dropped because their number failed, or flushed.
  pub requests : requests_heard (opening config) past ≤ tally w (Dropped Retries) + tally w (Dropped Flushed)

-- The law: `KeepsTries` holds after the first m entries of a history, for each m.
abbrev pub TriesLaw : Config → List Entry → Type 0
TriesLaw config history = (m : ℕ) → KeepsTries config (take m history) (world_at config history m)
