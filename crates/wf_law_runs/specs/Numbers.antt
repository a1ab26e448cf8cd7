-- Defines the law of the greatest numbers of a run, with bounds that hold for all settings in their ranges.
-- Each bound is far within 32 bits with a sign.
use Rattle.std.specs.Prelude.{ℕ, ◌+◌, ◌-◌, ◌*◌, ◌≤◌, max, ℤ, pos, ◌+ℤ◌, ◌-ℤ◌, ◌≤ℤ◌, true, ◌≡◌, List}
use Rattle.wf_frame.specs.declared.settings.Config.{Config}
use Rattle.wf_frame.specs.declared.settings.Field.TheVariants.{FlowQuantum, Quantum, Inflight, Cap, Charge, Answers, Legacy}
use Rattle.wf_frame.specs.declared.classes.Class.{Class}
use Rattle.wf_frame.specs.Settings.{greatest_of}
use Rattle.wf_def_lists.specs.Lengths.{greatest_body}
use Rattle.wf_def_air.specs.Airtime.{longest_answer}
use Rattle.wf_def_air.specs.Fit.{longest_alone}
use Rattle.wf_def_lists.specs.Bounds.{greatest_weight, greatest_debt}
use Rattle.wf_def_world.specs.World.{World, share, standing, queue, is_live}
use Rattle.wf_def_world.specs.Refusals.{open_of_class}
use Rattle.wf_def_world.specs.Run.{Entry}
use Rattle.wf_def_world.specs.Stretches.{world_at}
use Rattle.wf_law_runs.specs.Queues.{QueueIsListed, AreAtMost}
use Rattle.wf_law_runs.specs.Windows.{EachOpen}

-- The greatest computed charge of an exchange, in microseconds, by the setting `legacy`: the greatest time of
-- its data, the pause and the longest answer. It is 5,516 with 0 and 1, and 19,520 with 2.
abbrev pub greatest_computed : ℕ → ℕ
greatest_computed legacy =
    max (greatest_of Cap) (longest_alone legacy) + longest_answer (greatest_of Answers) legacy

-- The greatest charge of an exchange, in microseconds, computed or given by its Done, with any settings.
abbrev pub greatest_charge : ℕ
greatest_charge = max (greatest_computed (greatest_of Legacy)) (greatest_of Charge)

-- The greatest charge of all open exchanges of a class together, in microseconds.
abbrev pub greatest_owed : ℕ
greatest_owed = greatest_of Inflight * greatest_charge

-- The least deficit of a station in a class, in microseconds: below 0 by the greatest setting `debt` and
-- the greatest charge of all open exchanges of the class.
abbrev pub least_deficit : ℤ
least_deficit = pos 0 -ℤ pos (greatest_debt + greatest_owed)

-- The greatest deficit of a station in a class, in microseconds, by the setting `legacy`: one quantum of the
-- greatest weight, and the computed airtime of all open exchanges of the class but one, which quanta cover
-- with the setting `pending`.
abbrev pub greatest_deficit : ℕ → ℤ
greatest_deficit legacy =
    pos (greatest_of Quantum * greatest_weight + (greatest_of Inflight - 1) * greatest_computed legacy)

-- The numbers of a world of this history are in their ranges.
pub record NumbersFit (history : List Entry) (w : World) : Type 0 where
  -- The computed charge of each open exchange.
  pub charges : EachOpen (λ x. (1 ≤ x.charge) × (x.charge ≤ greatest_computed w.config.legacy)) w.opened
  -- The number of open exchanges of a class.
  pub opened : (c : Class) → open_of_class w c ≤ greatest_of Inflight
  -- The deficit of a live station.
  pub deficits : (s : ℕ) (c : Class) → is_live w s ≡ true
      → (least_deficit ≤ℤ (share w s c).deficit) ×
      ((share w s c).deficit ≤ℤ greatest_deficit w.config.legacy)
  -- The standing of a live station: its deficit, less its airtime in flight with the setting `pending`.
  pub standings : (s : ℕ) (c : Class) → is_live w s ≡ true
      → (least_deficit ≤ℤ standing w s c) × (standing w s c ≤ℤ greatest_deficit w.config.legacy)
  -- If no frame is longer than the greatest body: the deficit of a listed queue is above 0 less the
  -- greatest body, and at most the greatest quantum.
  pub queue_deficits : AreAtMost greatest_body history → (s t q : ℕ) → QueueIsListed w s t q
      → (pos 1 ≤ℤ ((queue w q).deficit +ℤ pos greatest_body)) ×
      ((queue w q).deficit ≤ℤ pos (greatest_of FlowQuantum))

-- The law: `NumbersFit` holds after each entry of a history.
abbrev pub NumberLaw : Config → List Entry → Type 0
NumberLaw config history = (m : ℕ) → NumbersFit history (world_at config history m)
