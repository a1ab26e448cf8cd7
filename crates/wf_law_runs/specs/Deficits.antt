-- Defines the laws of the deficits of stations: their value, their bounds, and airtime fairness ("Ending
-- the Anomaly", USENIX ATC 2017, section 3.2).
use Rattle.std.specs.Prelude.{◌≡◌, ℕ, ◌+◌, ◌-◌, ◌*◌, ◌≤◌, ◌==◌, max, pos, ◌+ℤ◌, ◌-ℤ◌, ◌≤ℤ◌, Bool, true, false, ◌&&◌, not, List, [], ◌∷◌, IsTrue, if◌then◌else◌, is_none, take}
use Rattle.wf_frame.specs.declared.settings.Config.{Config}
use Rattle.wf_frame.specs.declared.classes.Class.{Class}
use Rattle.wf_frame.specs.declared.notes.Ask.TheVariants.{Join, Offload, Plain, Weight, Rx}
use Rattle.wf_frame.specs.declared.notes.Note.{Note}
use Rattle.wf_frame.specs.declared.notes.Note.TheVariants.{Asked}
use Rattle.wf_frame.specs.declared.classes.Class.TheVariants.{Be, Vi, Vo}
use Rattle.wf_def_world.specs.Exchanges.{longest_computed}
use Rattle.wf_def_rotation.specs.Rotation.{has_key}
use Rattle.wf_def_world.specs.World.{World, owed, standing, station, share, rotation, is_live, opening}
use Rattle.wf_frame.specs.Classes.{same_class}
use Rattle.wf_def_world.specs.CanSend.{is_ready, is_debtor}
use Rattle.wf_def_world.specs.Refusals.{refusal}
use Rattle.wf_def_world.specs.Step.{step}
use Rattle.wf_def_world.specs.Run.{Entry}
use Rattle.wf_def_world.specs.Stretches.{world_at, charged_between, IsStretch, IsQuiet}

-- Returns the greatest computed charge of an exchange of any class, in microseconds.
abbrev pub longest_of_all : Config → ℕ
longest_of_all config =
    max (longest_computed config Be) (max (longest_computed config Vi) (longest_computed config Vo))

-- Returns the greatest charge of an exchange of a class, in microseconds, computed or given by its Done.
abbrev pub longest_exchange : Config → Class → ℕ
longest_exchange config c = max (longest_computed config c) config.charge

-- Returns the greatest charge of all open exchanges of a class together, in microseconds.
abbrev pub most_owed : Config → Class → ℕ
most_owed config c = config.inflight * longest_exchange config c

-- Returns the airtime in flight that quanta may cover beyond one quantum of a station, in microseconds: with
-- the setting `pending`, that of all open exchanges of the class but one.
abbrev pub most_covered : Config → Class → ℕ
most_covered config c = if config.pending == 1 then (config.inflight - 1) * longest_computed config c else 0

-- Returns the same, if a Done may give an airtime; 0 if none may.
abbrev pub most_uncharged : Config → Class → ℕ
most_uncharged config c =
    if (config.pending == 1) && not (config.charge == 0)
    then (config.inflight - 1) * longest_computed config c else 0

-- Returns a station's quantum in microseconds: the setting `quantum` times its weight.
abbrev pub own_quantum : Config → World → ℕ → ℕ
own_quantum config w s = config.quantum * (station w s).weight

-- The deficit of a live station in a class, in microseconds. `exact`: it is the base and the quanta of
-- the visits since the join, less the charged and the received airtime; until its weight is set, the base of
-- a station is the quantum of its join (`own`). `most`: it is at most one quantum and the airtime in flight
-- that quanta may cover. `least`: it is at least 0 - (debt + most_owed), with the setting `debt`. `quiet`,
-- `floor`: without receive charges since the join, it is at least 1 - most_owed, also after the computed
-- charges of the station's own open exchanges are subtracted. `ready`: a ready station is listed. The
-- standing, which with the setting `pending` is the deficit less the computed charges of the station's own
-- open exchanges: `lowest`: it has the least bound of the deficit. `within`: if no Done gives an airtime, it
-- is at most one quantum. `backed`: with `pending`, if no Done gives an airtime, and without receive charges,
-- it is below 1 by less than one exchange. `debtor`: with `pending`, a station whose standing is not above 0
-- is listed.
pub record IsAccounted (config : Config) (w : World) (s : ℕ) (c : Class) : Type 0 where
  pub exact : (share w s c).deficit
      ≡ (share w s c).base +ℤ pos (own_quantum config w s * (share w s c).quanta)
      -ℤ pos ((share w s c).charged + (share w s c).received)
  pub own : (station w s).weighed ≡ false → (share w s c).base ≡ pos (own_quantum config w s)
  pub most : (share w s c).deficit ≤ℤ pos (own_quantum config w s + most_covered config c)
  pub least : (pos 0 -ℤ pos (config.debt + most_owed config c)) ≤ℤ (share w s c).deficit
  pub quiet : IsQuiet w s c → (pos 1 -ℤ pos (most_owed config c)) ≤ℤ
      ((share w s c).deficit -ℤ pos (owed s c w.opened))
  pub floor : IsQuiet w s c → (pos 1 -ℤ pos (most_owed config c)) ≤ℤ (share w s c).deficit
  pub ready : IsTrue (is_ready w c s) → IsTrue (has_key (rotation w c) s)
  pub lowest : (pos 0 -ℤ pos (config.debt + most_owed config c)) ≤ℤ standing w s c
  pub within : config.charge ≡ 0 → standing w s c ≤ℤ pos (own_quantum config w s)
  pub backed : config.pending ≡ 1 → config.charge ≡ 0 → IsQuiet w s c →
      (pos 1 -ℤ pos (longest_computed config c)) ≤ℤ standing w s c
  pub debtor : IsTrue (is_debtor w c s) → IsTrue (has_key (rotation w c) s)

-- The law of deficits: `IsAccounted` holds after each entry, for each live station and class.
abbrev pub DeficitLaw : Config → List Entry → Type 0
DeficitLaw config h = (m s : ℕ) (c : Class) → IsTrue (is_live (world_at config h m) s) →
    IsAccounted config (world_at config h m) s c

-- Returns whether a call sets the weight of station s.
abbrev pub is_weight_of : ℕ → Note → Bool
is_weight_of s (Asked (Weight i weight)) = i == s
is_weight_of s note = false

-- Returns how many quanta a station got between moment a, after the first a entries, and moment b.
abbrev pub got_between : Config → List Entry → ℕ → Class → ℕ → ℕ → ℕ
got_between config h s c a b = (share (world_at config h b) s c).quanta -
    (share (world_at config h a) s c).quanta

-- m and n differ by at most d.
abbrev pub IsNear : ℕ → ℕ → ℕ → Type 0
IsNear d m n = (m ≤ n + d) × (n ≤ m + d)

-- Returns the weight of station s after m entries.
abbrev pub weight_at : Config → List Entry → ℕ → ℕ → ℕ
weight_at config h m s = (station (world_at config h m) s).weight

-- Returns the greatest difference of the charged airtimes of two stations with the weights g and h, in
-- microseconds, if each airtime is multiplied by the other's weight. With the setting `pending`, a Done that
-- gives less than the computed airtime may leave a deficit above one quantum.
abbrev pub fair_bound : Config → Class → ℕ → ℕ → ℕ
fair_bound config c g h =
    3 * config.quantum * g * h + (g + h) * (most_owed config c + most_uncharged config c)

-- A station's weight and base are the same at the moments a and b. They are if no call sets its weight
-- between them (WeightLaw).
pub record IsSteady (config : Config) (h : List Entry) (s : ℕ) (c : Class) (a b : ℕ) : Type 0 where
  pub weight : weight_at config h a s ≡ weight_at config h b s
  pub base : (share (world_at config h a) s c).base ≡ (share (world_at config h b) s c).base

-- Any call that is not a Weight of station s keeps its weight and its base, if it is live before and after
-- the call and was not made live by it.
pub record KeepsWeights (w : World) (note : Note) : Type 0 where
  pub weight : (s : ℕ) → is_weight_of s note ≡ false → is_live w s ≡ true →
      is_live (step w note).world s ≡ true →
      (station (step w note).world s).weight ≡ (station w s).weight
  pub base : (s : ℕ) (c : Class) → is_weight_of s note ≡ false → is_live w s ≡ true →
      is_live (step w note).world s ≡ true → (share (step w note).world s c).base ≡ (share w s c).base

-- The law of weights: `KeepsWeights` holds for each call that could come at any moment of a history.
abbrev pub WeightLaw : Config → List Entry → Type 0
WeightLaw config h = (m : ℕ) (note : Note) → KeepsWeights (world_at config h m) note

-- Two stations are served alike between the moments a and b: the numbers of their quanta differ by at most
-- 1, and their charged airtimes, each times the other's weight, by at most the bound.
pub record IsFairStretch (config : Config) (h : List Entry) (i j : ℕ) (c : Class) (a b : ℕ) : Type 0 where
  pub quanta : IsNear 1 (got_between config h i c a b) (got_between config h j c a b)
  pub charged : IsNear (fair_bound config c (weight_at config h b i) (weight_at config h b j))
      (charged_between config h i c a b * weight_at config h b j)
      (charged_between config h j c a b * weight_at config h b i)

-- The law of fairness: two stations that stay on one class's old list, with their weights, and without
-- receive charges, are served alike.
abbrev pub FairnessLaw : Config → List Entry → Type 0
FairnessLaw config h = (i j : ℕ) (c : Class) (a b : ℕ) → IsStretch config h i j c a b →
    IsSteady config h i c a b → IsSteady config h j c a b →
    IsQuiet (world_at config h b) i c → IsQuiet (world_at config h b) j c → IsFairStretch config h i j c a b

-- Returns how many receive charges of a class a station had since its join, after a call. n is their number
-- before the call.
abbrev pub receive_charges_by : World → ℕ → Class → Note → ℕ → ℕ
receive_charges_by w s c (Asked (Join i window start exponent weight)) n =
    if is_none (refusal w (Asked (Join i window start exponent weight))) && (i == s) then 0 else n
receive_charges_by w s c (Asked (Offload i exponent weight)) n =
    if is_none (refusal w (Asked (Offload i exponent weight))) && (i == s) then 0 else n
receive_charges_by w s c (Asked (Plain i start exponent weight)) n =
    if is_none (refusal w (Asked (Plain i start exponent weight))) && (i == s) then 0 else n
receive_charges_by w s c (Asked (Rx i d air)) n =
    if is_none (refusal w (Asked (Rx i d air))) && ((i == s) && same_class d c) then n + 1 else n
receive_charges_by w s c _ n = n

-- Returns how many receive charges of a class a station had since its join, after the entries of a history.
-- n is their number before these.
abbrev pub receive_charges_in : World → ℕ → Class → List Entry → ℕ → ℕ
receive_charges_in w s c [] n = n
receive_charges_in w s c (e ∷ es) n = receive_charges_in (step w e.1).world s c es
    (receive_charges_by w s c e.1 n)

-- The law of quiet stations: a live station is quiet in a class if and only if none of its Rx calls in the
-- class was answered Charged since its join.
abbrev pub QuietLaw : Config → List Entry → Type 0
QuietLaw config h = (m s : ℕ) (c : Class) → IsTrue (is_live (world_at config h m) s) →
    (receive_charges_in (opening config) s c (take m h) 0 ≡ 0 → IsQuiet (world_at config h m) s c) ×
    (IsQuiet (world_at config h m) s c → receive_charges_in (opening config) s c (take m h) 0 ≡ 0)
