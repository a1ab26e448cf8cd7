-- Defines what a transmit path keeps of a world: everything except what the receivers have, and what they
-- did with open exchanges.
use Rattle.std.specs.Prelude.{◌≡◌, ℕ, Bool, List, [], None, option_map, map}
use Rattle.wf_frame.specs.declared.settings.Config.{Config}
use Rattle.wf_frame.specs.declared.notes.Ask.TheVariants.{Arrive, Answer}
use Rattle.wf_frame.specs.declared.notes.Note.TheVariants.{Asked}
use Rattle.wf_def_lists.specs.Table.{at}
use Rattle.wf_def_world.specs.World.{World, Station, Content, session, tid_of, opening}
use Rattle.wf_def_world.specs.Step.{step}
use Rattle.wf_def_world.specs.Run.{Entry, world_after}
use Rattle.wf_law_driver.specs.Inferred.{after_inferred}
use Rattle.wf_law_driver.specs.Unheard.{unmarked}

-- a station without its TIDs
abbrev pub without_tids : Station → Station
without_tids x = record x { tids = [] }

-- two worlds in which a transmit path keeps the same
pub record HasSameTransmit (w u : World) : Type 0 where
  pub config : u.config ≡ w.config
  pub clock : u.clock ≡ w.clock
  pub exchanges : u.exchanges ≡ w.exchanges
  pub stations : (s : ℕ) → option_map without_tids (at None u.stations s)
      ≡ option_map without_tids (at None w.stations s)
  pub sessions : (s t : ℕ) → session u s t ≡ session w s t
  pub modes : (s t : ℕ) → (tid_of u s t).mode ≡ (tid_of w s t).mode
  pub lists : (s t : ℕ) → (tid_of u s t).queues ≡ (tid_of w s t).queues
  pub queues : u.queues ≡ w.queues
  pub rotations : u.rotations ≡ w.rotations
  pub opened : map unmarked u.opened ≡ map unmarked w.opened
  pub frames : u.frames ≡ w.frames
  pub finished : u.finished ≡ w.finished
  pub bounds : u.bounds ≡ w.bounds

-- an Arrive, an Answer, and all inferred calls together do not change what a transmit path keeps
pub record KeepsTransmit (w : World) : Type 0 where
  pub arrive : (e i : ℕ) → HasSameTransmit w (step w (Asked (Arrive e i))).world
  pub answer : (e : ℕ) → HasSameTransmit w (step w (Asked (Answer e))).world
  pub inferred : (caller e : ℕ) (shown : ℕ → Bool) (batch : Bool) (content : Content) →
      HasSameTransmit w (after_inferred w caller e shown batch content)

-- this holds in the world after a history
abbrev pub TransmitLaw : Config → List Entry → Type 0
TransmitLaw config history = KeepsTransmit (world_after (opening config) history)
