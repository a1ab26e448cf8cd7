-- Defines the share law: up to a constant, a backlogged station gets as much airtime for its weight, in
-- microseconds, as any other station. With the setting `pending`, charges may come late, so the law bounds
-- the airtime that is spent: the charges for exchanges, and the computed airtime of the open exchanges. Its
-- bounds depend on e, the greatest difference of a charge from the computed airtime. If e is 0, they do not
-- depend on the setting `inflight`.
use Rattle.std.specs.Prelude.{◌≡◌, ◌≢◌, ℕ, ◌+◌, ◌-◌, ◌*◌, ◌≤◌, ℤ, pos, ◌+ℤ◌, ◌-ℤ◌, ◌*ℤ◌, ◌≤ℤ◌, ◌==◌, List, [], ◌∷◌, None, IfSome, IsTrue, if◌then◌else◌, take, drop}
use Rattle.wf_frame.specs.declared.settings.Config.{Config}
use Rattle.wf_frame.specs.declared.classes.Class.{Class}
use Rattle.wf_frame.specs.declared.notes.Ask.TheVariants.{Pull, Done}
use Rattle.wf_frame.specs.declared.notes.Note.{Note}
use Rattle.wf_frame.specs.declared.notes.Note.TheVariants.{Asked}
use Rattle.wf_frame.specs.declared.notes.ReplyNote.{ReplyNote}
use Rattle.wf_frame.specs.declared.notes.ReplyNote.TheVariants.{Send}
use Rattle.wf_frame.specs.Classes.{same_class}
use Rattle.wf_def_world.specs.World.{World, share, standing, owed, exchange, is_live, opening}
use Rattle.wf_def_world.specs.Exchanges.{charge_of}
use Rattle.wf_def_world.specs.Refusals.{refusal}
use Rattle.wf_def_world.specs.Step.{step}
use Rattle.wf_def_world.specs.Run.{Entry}
use Rattle.wf_def_world.specs.Stretches.{world_at, charged_between, IsOld, IsQuiet}
use Rattle.wf_def_world.specs.Exchanges.{longest_computed}
use Rattle.wf_law_runs.specs.Deficits.{most_owed, got_between, IsNear, weight_at, IsSteady}
use Rattle.wf_law_runs.specs.Sums.{air_by}

-- The airtime that a history charges to a station in a class for what the station sent.
abbrev pub receipts : World → ℕ → Class → List Entry → ℕ
receipts w s c [] = 0
receipts w s c (e ∷ es) = air_by w s c e.1 + receipts (step w e.1).world s c es

-- The airtime that entries a to b - 1 of a history charge to a station in a class for what it sent.
abbrev pub received_between : Config → List Entry → ℕ → Class → ℕ → ℕ → ℕ
received_between config h s c a b = receipts (world_at config h a) s c (take (b - a) (drop a h))

-- The airtime that a station used in a class between two moments: for its exchanges and for what it sent.
abbrev pub used_between : Config → List Entry → ℕ → Class → ℕ → ℕ → ℕ
used_between config h s c a b = charged_between config h s c a b + received_between config h s c a b

-- A station's deficit in a class after the first m entries.
abbrev pub deficit_then : Config → List Entry → ℕ → ℕ → Class → ℤ
deficit_then config h m s c = (share (world_at config h m) s c).deficit

-- A station's quantum of airtime after the first m entries.
abbrev pub quantum_then : Config → List Entry → ℕ → ℕ → ℕ
quantum_then config h m s = config.quantum * weight_at config h m s

-- The most that a station's open exchanges can be charged beyond its quanta. The station had a deficit of at
-- least 1 when it opened the last of them.
abbrev pub overrun : Config → Class → ℕ
overrun config c = most_owed config c - 1

-- A station is on the class's old list at every moment from a to b.
abbrev pub StaysOld : Config → List Entry → ℕ → Class → ℕ → ℕ → Type 0
StaysOld config h s c a b = (m : ℕ) → a ≤ m → m ≤ b → IsOld config h m c s

-- A station is live at every moment from a to b.
abbrev pub StaysLive : Config → List Entry → ℕ → ℕ → ℕ → Type 0
StaysLive config h s a b = (m : ℕ) → a ≤ m → m ≤ b → IsTrue (is_live (world_at config h m) s)

-- A station's weight and base are the same at every moment from a to b. They are if no call sets its weight
-- between them (WeightLaw).
abbrev pub StaysSteady : Config → List Entry → ℕ → Class → ℕ → ℕ → Type 0
StaysSteady config h s c a b = (m : ℕ) → a ≤ m → m ≤ b → IsSteady config h s c a m

-- ---- the airtime that is spent

-- The airtime that a station spent in a class between two moments: its charges for its exchanges, and the
-- computed airtime of the exchanges that are open at b, less the computed airtime of the exchanges that were
-- open at a.
abbrev pub spent_between : Config → List Entry → ℕ → Class → ℕ → ℕ → ℤ
spent_between config h s c a b =
    pos (charged_between config h s c a b + owed s c (world_at config h b).opened)
    -ℤ pos (owed s c (world_at config h a).opened)

-- The standing that a station has in a class after the first m entries.
abbrev pub standing_then : Config → List Entry → ℕ → ℕ → Class → ℤ
standing_then config h m s c = standing (world_at config h m) s c

-- A Done that is not refused charges its exchange within e of the computed airtime.
abbrev pub ChargesWithin : ℕ → World → Note → Type 0
ChargesWithin e w (Asked (Done n heard air)) = refusal w (Asked (Done n heard air)) ≡ None →
    IfSome (exchange w n) (λ x. IsNear e (charge_of air x) x.charge)
ChargesWithin e w _ = Unit {0}

-- Each Done of a history charges within e of the computed airtime.
abbrev pub AreWithin : ℕ → World → List Entry → Type 0
AreWithin e w [] = Unit {0}
AreWithin e w (x ∷ xs) = ChargesWithin e w x.1 × AreWithin e (step w x.1).world xs

-- If no Done gives an airtime, each charges the computed airtime.
abbrev pub ComputedLaw : Config → List Entry → Type 0
ComputedLaw config h = config.charge ≡ 0 → AreWithin 0 (opening config) h

-- The computed airtime of the exchange that a reply opens for a station; 0 if it opens none.
abbrev pub airtime_sent_to : ℕ → ReplyNote → ℕ
airtime_sent_to s (Send exchange station tid air part more eosp) = if station == s then air else 0
airtime_sent_to s reply = 0

-- The computed airtime of the exchange of a class that a call opens for a station; 0 if it opens none.
abbrev pub airtime_sent_by : World → ℕ → Class → Note → ℕ
airtime_sent_by w s c (Asked (Pull d l)) =
    if same_class d c then airtime_sent_to s (step w (Asked (Pull d l))).reply else 0
airtime_sent_by w s c _ = 0

-- The computed airtime of the exchanges of a class that a history opens for a station.
abbrev pub airtime_sent : World → ℕ → Class → List Entry → ℕ
airtime_sent w s c [] = 0
airtime_sent w s c (x ∷ xs) = airtime_sent_by w s c x.1 + airtime_sent (step w x.1).world s c xs

-- If no Done gives an airtime, a station spends the computed airtime of the exchanges that are opened for it.
abbrev pub SpentLaw : Config → List Entry → Type 0
SpentLaw config h = config.charge ≡ 0 → (s : ℕ) (c : Class) (a b : ℕ) → a ≤ b → spent_between config h s c a b
    ≡ pos (airtime_sent (world_at config h a) s c (take (b - a) (drop a h)))

-- The most by which charges within e may differ from the computed airtime of all open exchanges of a class.
abbrev pub error_of : Config → ℕ → ℕ
error_of config e = config.inflight * e

-- The most that a station spends beyond its quanta: one exchange and the errors. Its standing was at least 1
-- when it opened the last exchange.
abbrev pub excess : Config → Class → ℕ → ℕ
excess config c e = longest_computed config c + 2 * error_of config e - 1

-- The bounds on what another station i spends from a to b, while station s is backlogged.
pub record IsSpent (config : Config) (h : List Entry) (s i : ℕ) (c : Class) (a b e : ℕ) : Type 0 where
  -- The airtime that i spends is at most its quanta for the count of s, and the excess.
  pub spent : spent_between config h i c a b ≤ℤ
      pos (quantum_then config h b i * (got_between config h s c a b + 1) + excess config c e)
  -- Multiplied by the other station's weight, what i spends is at most what s spends and is charged for what
  -- it sends, plus a constant: two quanta, the excess and the errors, less the standing that s had at a.
  pub weighted : ((pos (weight_at config h b s) *ℤ spent_between config h i c a b) +ℤ
      (pos (weight_at config h b i) *ℤ standing_then config h a s c)) ≤ℤ
      ((pos (weight_at config h b i) *ℤ
      (spent_between config h s c a b +ℤ pos (received_between config h s c a b))) +ℤ
      pos (2 * config.quantum * weight_at config h b s * weight_at config h b i +
      weight_at config h b s * excess config c e + weight_at config h b i * error_of config e))
  -- If s was never charged for what it sent, the constant does not depend on its standing.
  pub even : IsQuiet (world_at config h b) s c →
      (pos (weight_at config h b s) *ℤ spent_between config h i c a b) ≤ℤ
      ((pos (weight_at config h b i) *ℤ spent_between config h s c a b) +ℤ
      pos (2 * config.quantum * weight_at config h b s * weight_at config h b i +
      (weight_at config h b s + weight_at config h b i) * excess config c e))

-- The bounds on what another station i gets from a to b, while station s is backlogged.
pub record IsShared (config : Config) (h : List Entry) (s i : ℕ) (c : Class) (a b : ℕ) : Type 0 where
  -- i gets at most one quantum more than s
  pub quanta : got_between config h i c a b ≤ got_between config h s c a b + 1
  -- Without the setting `pending`, the charges of i are at most its quanta for the count of s, and the
  -- overrun.
  pub charged : config.pending ≡ 0 → charged_between config h i c a b
      ≤ quantum_then config h b i * (got_between config h s c a b + 1) + overrun config c
  -- Without `pending`, multiplied by the other station's weight, the charges of i are at most the airtime
  -- that s uses, plus a constant: two quanta and the overrun, less the deficit that s had at a.
  pub weighted : config.pending ≡ 0 → (pos (charged_between config h i c a b * weight_at config h b s) +ℤ
      pos (weight_at config h b i) *ℤ deficit_then config h a s c) ≤ℤ
      pos (used_between config h s c a b * weight_at config h b i +
      2 * config.quantum * weight_at config h b s * weight_at config h b i +
      weight_at config h b s * overrun config c)
  -- With the setting `pending`, if each Done of the first b entries charges within e of the computed airtime,
  -- what i spends is bounded.
  pub spending : config.pending ≡ 1 → (e : ℕ) → AreWithin e (opening config) (take b h) →
      IsSpent config h s i c a b e

-- No station gets more airtime for its weight than one that stays on the old list, up to a constant. The
-- other station may sleep, leave the list, be charged for what it sent or change its rate. Both keep their
-- weights.
abbrev pub ShareLaw : Config → List Entry → Type 0
ShareLaw config h = (s i : ℕ) (c : Class) (a b : ℕ) → a ≤ b → s ≢ i → StaysOld config h s c a b →
    StaysLive config h i a b → StaysSteady config h s c a b → StaysSteady config h i c a b →
    IsShared config h s i c a b
