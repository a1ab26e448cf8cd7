-- Defines the reply that an answer contains: its brief, with the list that the brief refers to.
use Rattle.std.specs.Prelude.{ℕ, List, map, Option, Some, None}
use Rattle.wf_frame.specs.declared.answers.Answer.{Answer}
use Rattle.wf_frame.specs.declared.answers.Brief.{Brief}
use Rattle.wf_frame.specs.declared.answers.Brief.TheVariants as brief
use Rattle.wf_frame.specs.declared.answers.Kind.{Kind}
use Rattle.wf_frame.specs.declared.answers.Kind.TheVariants as as_kind
use Rattle.wf_frame.specs.declared.notes.Part.{Part}
use Rattle.wf_frame.specs.declared.notes.Part.TheVariants.{Mpdus, Batch, Plain, Request}
use Rattle.wf_frame.specs.declared.notes.ReplyNote.{ReplyNote}
use Rattle.wf_frame.specs.declared.notes.ReplyNote.TheVariants as reply

-- the content of an exchange: a request if it has a start; otherwise the frames, each with its id and, if
-- they are no batch, its sequence number
abbrev pub part_sent : Option ℕ → Kind → List (ℕ × ℕ) → Part
part_sent (Some start) kind pairs = Request start
part_sent None as_kind.Aggregate pairs = Mpdus pairs
part_sent None as_kind.Batch pairs = Batch (map (λ p. p.0) pairs)
part_sent None as_kind.Plain pairs = Plain pairs

-- the reply that a brief is with these frames sent and these ids released
abbrev pub reply_with : Brief → List (ℕ × ℕ) → List ℕ → ReplyNote
reply_with brief.Joined pairs ids = reply.Joined
reply_with (brief.Left dropped) pairs ids = reply.Left dropped
reply_with brief.Set pairs ids = reply.Set
reply_with (brief.Now now) pairs ids = reply.Now now
reply_with (brief.Accepted id dropped) pairs ids = reply.Accepted id dropped
reply_with (brief.Send exchange station tid air request kind more eosp) pairs ids =
    reply.Send exchange station tid air (part_sent request kind pairs) more eosp
reply_with brief.Released pairs ids = reply.Released ids
reply_with (brief.Ba start b0 b1 b2 b3 wide) pairs ids = reply.Ba start b0 b1 b2 b3 wide
reply_with (brief.Done acked waiting failed) pairs ids = reply.Done acked waiting failed
reply_with brief.Slept pairs ids = reply.Slept
reply_with brief.Woken pairs ids = reply.Woken
reply_with (brief.Polled class) pairs ids = reply.Polled class
reply_with (brief.Charged deficit) pairs ids = reply.Charged deficit
reply_with (brief.Reaped id fate) pairs ids = reply.Reaped id fate
reply_with brief.Stopped pairs ids = reply.Stopped
reply_with brief.Started pairs ids = reply.Started
reply_with brief.Marked pairs ids = reply.Marked
reply_with (brief.Flushed dropped) pairs ids = reply.Flushed dropped
reply_with brief.Ack pairs ids = reply.Ack
reply_with (brief.Held start) pairs ids = reply.Held start
reply_with brief.Begun pairs ids = reply.Begun
reply_with brief.Freed pairs ids = reply.Freed
reply_with (brief.Ceased dropped) pairs ids = reply.Ceased dropped ids
reply_with (brief.Group answer) pairs ids = reply.Group answer
reply_with (brief.Service answer) pairs ids = reply.Service answer
reply_with (brief.Refused refusal) pairs ids = reply.Refused refusal

-- the reply of an answer: its brief, with the list that the brief refers to
abbrev pub reply_of : Answer → ReplyNote
reply_of answer = reply_with answer.brief answer.pairs answer.ids
