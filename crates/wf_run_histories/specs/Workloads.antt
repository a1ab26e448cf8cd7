-- Defines the workers of `live`: senders, which enqueue frames, and drivers, which send them. A draw is the
-- next 32-bit word of the PCG generator XSH RR 64/32 with the seed and the worker's stream.
use Rattle.std.specs.Prelude.{◌≡◌, ℕ, zero, suc, ◌+◌, ◌*◌, ◌/◌, ◌%◌, ◌==◌, Bool, true, false}
use Rattle.std.specs.Prelude.{◌&&◌, ◌||◌, List, [], ◌∷◌, ◌++◌, Option, Some, None, if◌then◌else◌, length, map}
use Rattle.rand_pcg.specs.Lcg.{Lcg, started, increment_of}
use Rattle.rand_pcg.specs.Pcg.{pcg32, multiplier_64}
use Rattle.wf_frame.specs.declared.classes.Class.{Class}
use Rattle.wf_frame.specs.declared.notes.Ask.{Ask}
use Rattle.wf_frame.specs.Calls.{no_limits}
use Rattle.wf_frame.specs.declared.notes.Ask.TheVariants.{Tick, Pull, Arrive, Answer, Done, Reap}
use Rattle.wf_frame.specs.declared.notes.Note.{Note}
use Rattle.wf_frame.specs.declared.notes.Note.TheVariants.{Enqueue, Asked}
use Rattle.wf_frame.specs.declared.notes.Part.{Part}
use Rattle.wf_frame.specs.declared.notes.Part.TheVariants.{Mpdus, Batch, Plain, Request}
use Rattle.wf_frame.specs.declared.notes.Refusal.TheVariants.{Idle, Nothing}
use Rattle.wf_frame.specs.declared.notes.ReplyNote.{ReplyNote}
use Rattle.wf_frame.specs.declared.notes.ReplyNote.TheVariants.{Now, Send, Refused}

-- A call that was made, and the reply to it.
abbrev pub Made : Type 0
Made = Note × ReplyNote

-- The random words of a stream, the first of them, and the words after it.
abbrev pub words_of : ℕ → ℕ → Lcg
words_of seed stream = started 64 multiplier_64 seed (increment_of 64 stream)

abbrev pub word_in : Lcg → ℕ
word_in words = (pcg32 words).0

abbrev pub words_after : Lcg → Lcg
words_after words = (pcg32 words).1

-- The words after the first n.
unfoldable pub words_behind : ℕ → Lcg → Lcg
words_behind zero words = words
words_behind (suc n) words = words_behind n (words_after words)

-- Whether a call ends an exchange. Such a call is tried first, without waiting; every other call waits for
-- its turn.
abbrev pub is_done : Ask → Bool
is_done (Done e heard air) = true
is_done _ = false

-- ---- senders

-- The frame that sender s makes from a word.
abbrev pub frame_from : ℕ → ℕ → Note
frame_from s w = Enqueue s ((w / 16) % 8) (256 * s + (w / 128) % 16) (64 + (w / 32768) % 1437)

-- The frames of n words.
unfoldable pub frames_from : ℕ → ℕ → Lcg → List Note
frames_from s zero words = []
frames_from s (suc n) words = frame_from s (word_in words) ∷ frames_from s n (words_after words)

-- The calls of sender s: its frames, and a tick by 1, so that the clock is the number of senders that have
-- ended.
abbrev pub sender_calls : ℕ → ℕ → ℕ → List Note
sender_calls seed s frames = frames_from s frames (words_of seed s) ++ Asked (Tick 1) ∷ []

-- ---- drivers

-- The transmissions that arrive, of n from index i on. Each draws a word, and arrives for nine of ten words.
unfoldable pub arrivals : ℕ → ℕ → Lcg → List ℕ
arrivals i zero words = []
arrivals i (suc n) words =
    if word_in words % 10 == 0 then arrivals (suc i) n (words_after words)
    else i ∷ arrivals (suc i) n (words_after words)

-- The last calls of an exchange. If a transmission arrived, it is answered and the answer is heard; otherwise
-- it ends as lost.
abbrev pub last_calls : ℕ → Bool → List Note
last_calls e true = Asked (Answer e) ∷ Asked (Done e true None) ∷ []
last_calls e false = Asked (Done e false None) ∷ []

abbrev pub some_of : List ℕ → Bool
some_of [] = false
some_of (i ∷ is) = true

-- The remaining calls of an exchange in which these transmissions still arrive; `some` says whether one
-- arrived before them.
abbrev pub calls_left : ℕ → Bool → List ℕ → List Note
calls_left e some indices = map (λ i. Asked (Arrive e i)) indices ++ last_calls e (some || some_of indices)

-- The number of transmissions of an exchange.
abbrev pub transmissions_in : Part → ℕ
transmissions_in (Mpdus pairs) = length pairs
transmissions_in (Batch ids) = length ids
transmissions_in (Plain pairs) = length pairs
transmissions_in (Request start) = 1

-- The phase of a driver. It ticks by 0 to read the clock; it pulls its class, and knows the clock that was
-- shown; it makes the remaining calls of an exchange, and then reaps; or it has ended.
pub data Phase : Type 0 where
  Ticks : Phase
  Pulls : (shown : Option ℕ) → Phase
  Owes : (calls : List Note) → Phase
  Ends : Phase

-- A driver: its class, the number of senders, the random words to come, and its phase.
pub record Driver : Type 0 where
  pub class : Class
  pub senders : ℕ
  pub words : Lcg
  pub phase : Phase

-- The next call, until the driver has ended.
abbrev pub call_in : Class → Phase → Option Note
call_in class Ticks = Some (Asked (Tick 0))
call_in class (Pulls shown) = Some (Asked (Pull class no_limits))
call_in class (Owes []) = Some (Asked Reap)
call_in class (Owes (call ∷ calls)) = Some call
call_in class Ends = None

abbrev pub next_call : Driver → Option Note
next_call d = call_in d.class d.phase

-- The clock that a reply shows.
abbrev pub shown_by : ReplyNote → Option ℕ
shown_by (Now now) = Some now
shown_by _ = None

abbrev pub is_clock : ℕ → Option ℕ → Bool
is_clock senders None = false
is_clock senders (Some now) = now == senders

-- The exchange that a reply begins, and its number of transmissions.
abbrev pub sending : ReplyNote → Option (ℕ × ℕ)
sending (Send e s t air part more eosp) = Some (e, transmissions_in part)
sending _ = None

abbrev pub is_idle : ReplyNote → Bool
is_idle (Refused Idle) = true
is_idle _ = false

abbrev pub is_nothing : ReplyNote → Bool
is_nothing (Refused Nothing) = true
is_nothing _ = false

-- An exchange is played, with one word for each of its transmissions. If there is no exchange, the driver
-- ends if all work is done.
abbrev pub playing : Driver → Bool → Option (ℕ × ℕ) → Driver
playing d over (Some x) = record d {
  words = words_behind x.1 d.words;
  phase =
      Owes (calls_left x.0 false (arrivals 0 x.1 d.words));
}
playing d true None = record d { phase = Ends }
playing d false None = record d { phase = Owes [] }

-- After a pull: all work is done if nobody was ready and all senders had ended before.
abbrev pub after_pull : Driver → Option ℕ → ReplyNote → Driver
after_pull d shown reply = playing d (is_idle reply && is_clock d.senders shown) (sending reply)

-- After a reap: the driver ticks again if no finished frame was left.
abbrev pub after_reap : ReplyNote → Phase
after_reap reply = if is_nothing reply then Ticks else Owes []

abbrev pub after_in : Driver → Phase → ReplyNote → Driver
after_in d Ticks reply = record d { phase = Pulls (shown_by reply) }
after_in d (Pulls shown) reply = after_pull d shown reply
after_in d (Owes []) reply = record d { phase = after_reap reply }
after_in d (Owes (call ∷ calls)) reply = record d { phase = Owes calls }
after_in d Ends reply = d

-- The driver after the reply to its next call.
abbrev pub after : Driver → ReplyNote → Driver
after d reply = after_in d d.phase reply

-- The driver makes these calls if it gets these replies: each call is its next one after the replies before.
abbrev pub IsWalk : Driver → List Made → Type 0
IsWalk d [] = Unit {0}
IsWalk d (m ∷ ms) = (next_call d ≡ Some m.0) × IsWalk (after d m.1) ms

-- The driver after these calls.
abbrev pub walked : Driver → List Made → Driver
walked d [] = d
walked d (m ∷ ms) = walked (after d m.1) ms

-- Driver number i, before its first call.
abbrev pub first_stream : ℕ
first_stream = 1000

abbrev pub driver_of : ℕ → ℕ → Class → ℕ → Driver
driver_of seed i class senders = record {
  class = class;
  senders = senders;
  words =
      words_of seed (first_stream + i);
  phase = Ticks;
}
