-- Proves that the words of refusals, answers and fates are the first words of the machine's text. By cases.
use Rattle.std.proofs.Common.{◌≡◌, refl, ℕ, List}
use Rattle.std.specs.Prelude.{Some, None, pos}
use Rattle.wf_frame.specs.Answers.{reply_with}
use Rattle.wf_frame.specs.declared.answers.Brief.{Brief}
use Rattle.wf_frame.specs.declared.answers.Brief.TheVariants.{Joined, Set, Now, Accepted, Send, Released, Ba, Done, Slept, Woken, Polled, Charged, Reaped, Stopped, Started, Marked, Ack, Begun, Freed, Refused}
use Rattle.wf_frame.specs.declared.answers.Brief.TheVariants as brief
use Rattle.wf_frame.specs.declared.classes.Cause.TheVariants.{Overlimit, Codel, Retries, Left, Flushed, Ended}
use Rattle.wf_frame.specs.declared.classes.Fate.{Fate}
use Rattle.wf_frame.specs.declared.classes.Fate.TheVariants.{Held, Acked, Dropped}
use Rattle.wf_frame.specs.declared.notes.GroupReply.TheVariants as group
use Rattle.wf_frame.specs.declared.notes.ServiceReply.TheVariants as service
use Rattle.wf_frame.specs.declared.notes.Refusal.{Refusal}
use Rattle.wf_frame.specs.declared.notes.Refusal.TheVariants as refusal
use Rattle.wf_frame.specs.Classes.{fate_number, fate_word}
use Rattle.wf_frame.specs.Refusals.{refusal_number}
use Rattle.wf_def_world.specs.Text.{refusal_words, reply_words}
use Rattle.wf_c.specs.Names.{code_word, fate_word_at, first_word, answer_word, word_at}
use Rattle.wf_c.specs.Numbers.{numbers_of}
use Rattle.wf_c.proofs.names.words_law.Goals as goal

-- the last line is for all other refusals
refusals_are : (r : Refusal) → word_at code_word (pos (refusal_number r)) ≡ first_word (refusal_words r)
refusals_are refusal.BadStation = refl
refusals_are r = refl

kinds_are : (b : Brief) (pairs : List (ℕ × ℕ)) (ids : List ℕ) →
    word_at answer_word (pos (numbers_of b).kind) ≡ first_word (reply_words (reply_with b pairs ids))
kinds_are Joined pairs ids = refl
kinds_are (brief.Left dropped) pairs ids = refl
kinds_are Set pairs ids = refl
kinds_are (Now now) pairs ids = refl
kinds_are (Accepted id None) pairs ids = refl
kinds_are (Accepted id (Some dropped)) pairs ids = refl
kinds_are (Send exchange station tid air None kind more eosp) pairs ids = refl
kinds_are (Send exchange station tid air (Some start) kind more eosp) pairs ids = refl
kinds_are Released pairs ids = refl
kinds_are (Ba start b0 b1 b2 b3 wide) pairs ids = refl
kinds_are (Done acked waiting failed) pairs ids = refl
kinds_are Slept pairs ids = refl
kinds_are Woken pairs ids = refl
kinds_are (Polled class) pairs ids = refl
kinds_are (Charged deficit) pairs ids = refl
kinds_are (Reaped id fate) pairs ids = refl
kinds_are Stopped pairs ids = refl
kinds_are Started pairs ids = refl
kinds_are Marked pairs ids = refl
kinds_are (brief.Flushed dropped) pairs ids = refl
kinds_are Ack pairs ids = refl
kinds_are (brief.Held start) pairs ids = refl
kinds_are Begun pairs ids = refl
kinds_are Freed pairs ids = refl
kinds_are (brief.Ceased dropped) pairs ids = refl
kinds_are (brief.Group (group.Queued id)) pairs ids = refl
kinds_are (brief.Group (group.Beacon count follows)) pairs ids = refl
kinds_are (brief.Group (group.Send id number air more)) pairs ids = refl
kinds_are (brief.Group (group.Done id)) pairs ids = refl
kinds_are (brief.Service service.Set) pairs ids = refl
kinds_are (brief.Service (service.Triggered class)) pairs ids = refl
kinds_are (brief.Service service.Ended) pairs ids = refl
-- begin refusals: tools/tables writes these lines
kinds_are (Refused (refusal.Open count)) pairs ids = refl
kinds_are (Refused (refusal.Room inside)) pairs ids = refl
kinds_are (Refused (refusal.Sleeping queued)) pairs ids = refl
kinds_are (Refused (refusal.Full count)) pairs ids = refl
kinds_are (Refused (refusal.Debt deficit)) pairs ids = refl
kinds_are (Refused (refusal.Ahead owed)) pairs ids = refl
kinds_are (Refused (refusal.Waits count)) pairs ids = refl
kinds_are (Refused (refusal.Buffered queued)) pairs ids = refl
-- end refusals
kinds_are (Refused _) pairs ids = refl

fates_are : (f : Fate) → word_at fate_word_at (pos (fate_number f)) ≡ fate_word f
fates_are Held = refl
fates_are Acked = refl
fates_are (Dropped Overlimit) = refl
fates_are (Dropped Codel) = refl
fates_are (Dropped Retries) = refl
fates_are (Dropped Left) = refl
fates_are (Dropped Flushed) = refl
fates_are (Dropped Ended) = refl

pub returns-clause-refusals : goal.returns-clause-refusals
returns-clause-refusals c = refusals_are

pub returns-clause-kinds : goal.returns-clause-kinds
returns-clause-kinds c = kinds_are

pub returns-clause-fates : goal.returns-clause-fates
returns-clause-fates c = fates_are
