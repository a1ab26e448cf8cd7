-- Defines that the end of an exchange depends only on how it ends for each of its numbers, and so only on
-- which of them the kept answer shows.
use Rattle.std.specs.Prelude.{◌≡◌, ℕ, true, false, List, Option, Some}
use Rattle.wf_frame.specs.declared.notes.Ask.TheVariants.{Done}
use Rattle.wf_frame.specs.declared.notes.Note.TheVariants.{Asked}
use Rattle.wf_def_agreement.specs.Receiver.{Score, shows}
use Rattle.wf_def_agreement.specs.Session.{End}
use Rattle.wf_def_world.specs.World.{World, Exchange, Mpdu, exchange}
use Rattle.wf_def_world.specs.CanSend.{is_request}
use Rattle.wf_def_world.specs.Exchanges.{mpdus_of, with_all_settled}
use Rattle.wf_def_world.specs.Step.{step}
use Rattle.wf_law_runs.specs.Windows.{EachMpdu}

-- two functions that end each of these numbers in the same way settle them alike
abbrev pub SettlesAlike : World → Type 0
SettlesAlike w =
    (s t : ℕ) (p q : ℕ → End) (mpdus : List Mpdu) → EachMpdu (λ m. p m.number ≡ q m.number) mpdus →
    with_all_settled w s t p mpdus ≡ with_all_settled w s t q mpdus

-- If the kept answer shows none of an aggregate's numbers, a Done that is heard has the same world and
-- reply as one that is not.
abbrev pub EndsAsLost : World → Type 0
EndsAsLost w =
    (e : ℕ) (x : Exchange) (b : Score) (air : Option ℕ) → exchange w e ≡ Some x → x.answer ≡ Some b →
    is_request x.content ≡ false →
    EachMpdu (λ m. shows b m.number ≡ false) (mpdus_of x.content) →
    step w (Asked (Done e true air)) ≡ step w (Asked (Done e false air))
