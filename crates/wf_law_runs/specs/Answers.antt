-- Defines the law of answers: as long as an exchange is open, exactly those of its numbers have arrived
-- that had arrived when its Answer was made.
use Rattle.std.specs.Prelude.{◌≡◌, ℕ, List, ◌∷◌, ◌++◌, IfSome}
use Rattle.wf_frame.specs.declared.settings.Config.{Config}
use Rattle.wf_frame.specs.declared.notes.Ask.TheVariants.{Answer}
use Rattle.wf_frame.specs.declared.notes.Note.TheVariants.{Asked}
use Rattle.wf_frame.specs.declared.notes.ReplyNote.{ReplyNote}
use Rattle.wf_frame.specs.declared.notes.ReplyNote.TheVariants.{Ba, Ack}
use Rattle.wf_def_lists.specs.Table.{has}
use Rattle.wf_def_world.specs.World.{World, Exchange, receiver, exchange, opening}
use Rattle.wf_def_world.specs.Exchanges.{mpdus_of}
use Rattle.wf_def_world.specs.Step.{step}
use Rattle.wf_def_world.specs.Run.{Entry, by, world_after}
use Rattle.wf_law_runs.specs.Windows.{EachMpdu}

-- The reply is a BlockAck or an Ack.
abbrev pub IsBa : ReplyNote → Type 0
IsBa (Ba start b0 b1 b2 b3 wide) = Unit {0}
IsBa Ack = Unit {0}
IsBa reply = ⊥

-- The same numbers of exchange x have arrived in w and in u. u is the world in which the Answer was made,
-- and w a later one.
abbrev pub StandsAsThen : World → World → Exchange → Type 0
StandsAsThen u w x =
    EachMpdu (λ m. has (receiver w x.station x.tid).arrived m.number
    ≡ has (receiver u x.station x.tid).arrived m.number) (mpdus_of x.content)

-- If an Answer was made for an exchange after the entries `before`, and the exchange is still open after
-- the entries `after`, the same numbers of it have arrived as then.
abbrev pub AnswerLaw : Config → List Entry → Type 0
AnswerLaw config history =
    (before : List Entry) (caller e : ℕ) (after rest : List Entry) →
    history ≡ before ++ by caller (Asked (Answer e)) ∷ (after ++ rest) →
    IsBa (step (world_after (opening config) before) (Asked (Answer e))).reply →
    IfSome (exchange (world_after (opening config) (before ++ by caller (Asked (Answer e)) ∷ after)) e)
    (StandsAsThen (world_after (opening config) before)
    (world_after (opening config) (before ++ by caller (Asked (Answer e)) ∷ after)))
