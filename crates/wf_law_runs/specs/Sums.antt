-- Defines the law of sums: the sums of airtime in microseconds, and bounds on the clock and the counts of a
-- run.
use Rattle.std.specs.Prelude.{◌≡◌, ℕ, ◌+◌, ◌*◌, ◌≤◌, ◌==◌, ◌&&◌, true, List, [], ◌∷◌, is_none, if◌then◌else◌, take}
use Rattle.wf_frame.specs.declared.settings.Config.{Config}
use Rattle.wf_frame.specs.declared.classes.Class.{Class}
use Rattle.wf_frame.specs.declared.notes.Ask.TheVariants.{Join, Offload, Plain, Rx}
use Rattle.wf_frame.specs.declared.notes.Note.{Note}
use Rattle.wf_frame.specs.declared.notes.Note.TheVariants.{Asked}
use Rattle.wf_frame.specs.Classes.{same_class}
use Rattle.wf_def_lists.specs.Bounds.{greatest_tick, greatest_air}
use Rattle.wf_def_world.specs.World.{World, Share, share, is_live, accepted_count, opening}
use Rattle.wf_def_world.specs.Refusals.{refusal}
use Rattle.wf_def_world.specs.Step.{step}
use Rattle.wf_def_world.specs.Run.{Entry}
use Rattle.wf_def_world.specs.Stretches.{world_at, charge_by}
use Rattle.wf_law_runs.specs.Numbers.{greatest_charge}

-- Returns a sum n of a station's airtime after a call: a join of the station that is not refused resets it
-- to 0.
abbrev pub since_join : World → ℕ → Note → ℕ → ℕ
since_join w s (Asked (Join i window start exponent weight)) n =
    if is_none (refusal w (Asked (Join i window start exponent weight))) && (i == s) then 0 else n
since_join w s (Asked (Offload i exponent weight)) n =
    if is_none (refusal w (Asked (Offload i exponent weight))) && (i == s) then 0 else n
since_join w s (Asked (Plain i start exponent weight)) n =
    if is_none (refusal w (Asked (Plain i start exponent weight))) && (i == s) then 0 else n
since_join w s _ n = n

-- Returns the airtime of the receive charge that a call makes to a station in a class.
abbrev pub air_by : World → ℕ → Class → Note → ℕ
air_by w s c (Asked (Rx i d air)) =
    if is_none (refusal w (Asked (Rx i d air))) && ((i == s) && same_class d c) then air else 0
air_by w s c _ = 0

-- Returns the sum of the charges of ended exchanges, to a station in a class since its join. n is the sum
-- before this history.
abbrev pub charged_over : World → ℕ → Class → List Entry → ℕ → ℕ
charged_over w s c [] n = n
charged_over w s c (e ∷ es) n = charged_over (step w e.1).world s c es
    (since_join w s e.1 n + charge_by w s c e.1)

-- Returns the sum of the airtimes of receive charges, to a station in a class since its join. n is the sum
-- before this history.
abbrev pub received_over : World → ℕ → Class → List Entry → ℕ → ℕ
received_over w s c [] n = n
received_over w s c (e ∷ es) n = received_over (step w e.1).world s c es
    (since_join w s e.1 n + air_by w s c e.1)

-- The sums of a live station in a class. `past` are the m entries so far, and x is the station's share.
pub record IsSum (config : Config) (past : List Entry) (m s : ℕ) (c : Class) (x : Share) : Type 0 where
  pub charged : x.charged ≡ charged_over (opening config) s c past 0
  pub received : x.received ≡ received_over (opening config) s c past 0
  pub most_charged : x.charged ≤ greatest_charge * m
  pub most_received : x.received ≤ greatest_air * m

-- The sums and counts of the world after the m entries `past`.
pub record AreSums (config : Config) (past : List Entry) (m : ℕ) (w : World) : Type 0 where
  pub clock : w.clock ≤ greatest_tick * m
  pub accepted : accepted_count w ≤ m
  pub exchanges : w.exchanges ≤ m
  pub shares : (s : ℕ) (c : Class) → is_live w s ≡ true → IsSum config past m s c (share w s c)

-- The law: `AreSums` holds after the first m entries of a history, for each m.
abbrev pub SumLaw : Config → List Entry → Type 0
SumLaw config history = (m : ℕ) → AreSums config (take m history) m (world_at config history m)
