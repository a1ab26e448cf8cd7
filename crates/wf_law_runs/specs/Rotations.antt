-- Defines the law of rotations: the lists of stations after every entry of every run, and the picks from
-- them and from the lists of queues ("Ending the Anomaly", USENIX ATC 2017, section 3, algorithms 2 and 3).
use Rattle.std.specs.Prelude.{◌≡◌, ◌↔◌, ℕ, ◌<◌, ◌≤◌, true, false, List, Some}
use Rattle.wf_frame.specs.declared.settings.Config.{Config}
use Rattle.wf_frame.specs.declared.classes.Class.{Class}
use Rattle.wf_frame.specs.declared.notes.Ask.TheVariants.{Pull}
use Rattle.wf_frame.specs.declared.notes.Limits.{Limits}
use Rattle.wf_frame.specs.declared.notes.Note.{Note}
use Rattle.wf_frame.specs.declared.notes.Note.TheVariants.{Asked}
use Rattle.wf_frame.specs.declared.notes.Refusal.{Refusal}
use Rattle.wf_frame.specs.declared.notes.Refusal.TheVariants.{Idle}
use Rattle.wf_def_lists.specs.Lists.{IsOnce}
use Rattle.wf_def_rotation.specs.Loop.{MeetsVisit, visit}
use Rattle.wf_def_rotation.specs.Rotation.{has_key, in_order}
use Rattle.wf_def_world.specs.World.{World, standing, queue, quantum, rotation, tid_of, is_live}
use Rattle.wf_def_world.specs.FlowQueues.{has_frames}
use Rattle.wf_def_world.specs.CanSend.{is_ready}
use Rattle.wf_def_world.specs.Refusals.{refusal, open_of_class, is_at_aql_total}
use Rattle.wf_def_world.specs.Step.{step}
use Rattle.wf_def_world.specs.Run.{Entry}
use Rattle.wf_def_world.specs.Stretches.{world_at}
use Rattle.wf_law_runs.specs.Windows.{EachOpen}

-- No station is ready in the class.
abbrev pub NoneReady : World → Class → Type 0
NoneReady w c = (s : ℕ) → is_ready w c s ≡ false

-- The class has fewer open exchanges than the setting `inflight`, and the airtime in flight in all classes
-- has not reached the setting `aql_total`.
abbrev pub MayOpen : World → Class → Type 0
MayOpen w c = (open_of_class w c < w.config.inflight) × (is_at_aql_total w ≡ false)

-- One turn of the paper's loop over the stations of a class: the pick has the same result before and after
-- the turn, or gives the station that wins in this turn. The loop compares standings, which without the
-- setting `pending` are the deficits.
abbrev pub PicksStationByTurns : World → Class → Type 0
PicksStationByTurns w c =
    MeetsVisit (quantum w) (λ s. standing w s c) (is_ready w c) (rotation w c)
    (visit (quantum w) (λ s. standing w s c) (is_ready w c) (rotation w c))

-- The same for the queues of a TID.
abbrev pub PicksQueueByTurns : World → ℕ → ℕ → Type 0
PicksQueueByTurns w s t =
    MeetsVisit (λ q. w.config.flow_quantum) (λ q. (queue w q).deficit) (has_frames w) (tid_of w s t).queues
    (visit (λ q. w.config.flow_quantum) (λ q. (queue w q).deficit) (has_frames w) (tid_of w s t).queues)

-- The rotations of a world.
pub record KeepsRotations (w : World) : Type 0 where
  -- A class lists only live stations, each at most once on both lists together.
  pub live : (c : Class) (s : ℕ) → has_key (rotation w c) s ≡ true → is_live w s ≡ true
  pub once : (c : Class) → IsOnce (in_order (rotation w c))
  -- A Pull is refused as Idle if and only if the class may open an exchange and no station is ready.
  pub idle : (c : Class) (l : Limits) →
      (refusal w (Asked (Pull c l)) ≡ Some Idle) ↔ (MayOpen w c × NoneReady w c)
  -- With the setting `pending`, a call that is refused changes nothing.
  pub refused : w.config.pending ≡ 1 → (note : Note) (r : Refusal) → refusal w note ≡ Some r →
      (step w note).world ≡ w
  -- The station of an open exchange is live.
  pub served : EachOpen (λ x. is_live w x.station ≡ true) w.opened
  -- Each quantum is at least 1 microsecond or octet, as the law of one turn requires.
  pub quanta : (s : ℕ) → 1 ≤ quantum w s
  pub octets : 1 ≤ w.config.flow_quantum
  pub stations : (c : Class) → PicksStationByTurns w c
  pub queues : (s t : ℕ) → PicksQueueByTurns w s t

-- The law: `KeepsRotations` holds after each entry of a history.
abbrev pub RotationLaw : Config → List Entry → Type 0
RotationLaw config history = (m : ℕ) → KeepsRotations (world_at config history m)
