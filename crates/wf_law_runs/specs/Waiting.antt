-- Defines the waiting law and the sparse law: a ready station gets its turn after a bounded airtime, and a
-- station that returns with airtime left is next.
use Rattle.std.specs.Prelude.{◌≡◌, ◌≢◌, ◌⊎◌, ℕ, zero, suc, ◌+◌, ◌-◌, ◌*◌, ◌/◌, ◌==◌, ◌≤◌, ℤ, pos, negsuc, ◌≤ℤ◌, Bool, false, ◌&&◌, List, [], ◌∷◌, IsTrue, take, drop, if◌then◌else◌}
use Rattle.wf_frame.specs.declared.settings.Config.{Config}
use Rattle.wf_frame.specs.declared.classes.Class.{Class}
use Rattle.wf_frame.specs.declared.notes.Ask.TheVariants.{Pull}
use Rattle.wf_frame.specs.declared.notes.Limits.{Limits}
use Rattle.wf_frame.specs.declared.notes.Note.{Note}
use Rattle.wf_frame.specs.declared.notes.Note.TheVariants.{Asked}
use Rattle.wf_frame.specs.declared.notes.ReplyNote.{ReplyNote}
use Rattle.wf_frame.specs.declared.notes.ReplyNote.TheVariants.{Send}
use Rattle.wf_frame.specs.Classes.{same_class}
use Rattle.wf_def_lists.specs.Table.{has}
use Rattle.wf_def_rotation.specs.Rotation.{keys_before}
use Rattle.wf_def_world.specs.World.{World, rotation, standing, opening}
use Rattle.wf_def_world.specs.CanSend.{is_ready}
use Rattle.wf_def_world.specs.Step.{step}
use Rattle.wf_def_world.specs.Run.{Entry}
use Rattle.wf_def_world.specs.Stretches.{world_at, charged_between, IsQuiet}
use Rattle.wf_def_world.specs.Exchanges.{longest_computed}
use Rattle.wf_law_runs.specs.Deficits.{most_owed, got_between}
use Rattle.wf_law_runs.specs.Shares.{received_between, deficit_then, quantum_then, overrun, StaysLive, spent_between, standing_then, AreWithin, error_of, excess, StaysSteady}

-- Whether a reply opens an exchange for a station.
abbrev pub is_sent_to : ℕ → ReplyNote → Bool
is_sent_to s (Send exchange station tid air part more eosp) = station == s
is_sent_to s reply = false

-- How many exchanges of a class a call opens for a station: 1 or 0.
abbrev pub sends_by : World → ℕ → Class → Note → ℕ
sends_by w s c (Asked (Pull d l)) =
    if same_class d c && is_sent_to s (step w (Asked (Pull d l))).reply then 1 else 0
sends_by w s c _ = 0

-- How many exchanges of a class a history opens for a station.
abbrev pub sends : World → ℕ → Class → List Entry → ℕ
sends w s c [] = 0
sends w s c (e ∷ es) = sends_by w s c e.1 + sends (step w e.1).world s c es

-- How many exchanges of a class the entries a to b - 1 of a history open for a station.
abbrev pub sends_between : Config → List Entry → ℕ → Class → ℕ → ℕ → ℕ
sends_between config h s c a b = sends (world_at config h a) s c (take (b - a) (drop a h))

-- A station is ready in the class at every moment from a to b.
abbrev pub StaysReady : Config → List Entry → ℕ → Class → ℕ → ℕ → Type 0
StaysReady config h s c a b = (m : ℕ) → a ≤ m → m ≤ b → IsTrue (is_ready (world_at config h m) c s)

-- The amount by which a deficit is below 1, or 0.
abbrev pub below_one : ℤ → ℕ
below_one (pos zero) = 1
below_one (pos (suc n)) = 0
below_one (negsuc n) = n + 2

-- m divided by n, rounded up.
abbrev pub rounds_up : ℕ → ℕ → ℕ
rounds_up m n = (m + (n - 1)) / n

-- The bounds on what another station i spends from a to b, and on the quanta of a station s that is ready and
-- sends nothing, if each Done charges within e of the computed airtime.
pub record IsAwaited (config : Config) (h : List Entry) (s i : ℕ) (c : Class) (a b e : ℕ) : Type 0 where
  -- The airtime that i spends is at most its quanta for the count of s, and the excess.
  pub spent : spent_between config h i c a b ≤ℤ
      pos (quantum_then config h b i * (got_between config h s c a b + 1) + excess config c e)
  -- The quanta of s cover its debt at a, the errors, and the airtime that it is charged for what it sends.
  pub most : got_between config h s c a b ≤ rounds_up
      (error_of config e + below_one (standing_then config h a s c) + received_between config h s c a b)
      (quantum_then config h b s)
  -- They cover one exchange and the errors if s was never charged for what it sent.
  pub quiet : IsQuiet (world_at config h b) s c → got_between config h s c a b
      ≤ rounds_up (longest_computed config c + error_of config e) (quantum_then config h b s)

-- The bounds on what another station i gets from a to b, while station s is ready and sends nothing, and on
-- the quanta of s.
pub record IsWait (config : Config) (h : List Entry) (s i : ℕ) (c : Class) (a b : ℕ) : Type 0 where
  -- i gets at most one quantum more than s
  pub quanta : got_between config h i c a b ≤ got_between config h s c a b + 1
  -- Without the setting `pending`, the charges of i are at most its quanta for the count of s, and the
  -- overrun.
  pub charged : config.pending ≡ 0 → charged_between config h i c a b
      ≤ quantum_then config h b i * (got_between config h s c a b + 1) + overrun config c
  -- The quanta of s are few. They cover what its open exchanges are charged, its debt at a, and the airtime
  -- that it is charged for what it sends meanwhile.
  pub most : got_between config h s c a b ≤ rounds_up
      (most_owed config c + below_one (deficit_then config h a s c) + received_between config h s c a b)
      (quantum_then config h b s)
  -- This bound does not depend on that deficit: apart from its open exchanges, s owes at most `debt`.
  pub debtor : got_between config h s c a b ≤ rounds_up
      (most_owed config c + config.debt + 1 + received_between config h s c a b) (quantum_then config h b s)
  -- They are fewer if s was never charged for what it sent: the deficit then covers the open exchanges.
  pub quiet : IsQuiet (world_at config h b) s c → got_between config h s c a b
      ≤ rounds_up (most_owed config c) (quantum_then config h b s)
  -- With the setting `pending`, fewer quanta are enough if each Done of the first b entries charges within e
  -- of the computed airtime, and then what i spends is bounded.
  pub waited : config.pending ≡ 1 → (e : ℕ) → AreWithin e (opening config) (take b h) →
      IsAwaited config h s i c a b e

-- Nobody starves: while a station waits, another gets a bounded number of quanta and is charged a bounded
-- airtime. Both keep their weights.
abbrev pub WaitingLaw : Config → List Entry → Type 0
WaitingLaw config h = (s i : ℕ) (c : Class) (a b : ℕ) → a ≤ b → s ≢ i → StaysReady config h s c a b →
    sends_between config h s c a b ≡ 0 → StaysLive config h i a b → StaysSteady config h s c a b →
    StaysSteady config h i c a b → IsWait config h s i c a b

-- If a ready station with a positive standing is on the new list, a Pull that opens an exchange opens it for
-- this station, or for one that is before it on the new list. Without the setting `pending` the standing is
-- the deficit.
abbrev pub SparseLaw : Config → List Entry → Type 0
SparseLaw config h = (m s v : ℕ) (c : Class) (l : Limits) →
    IsTrue (has (rotation (world_at config h m) c).new s) →
    IsTrue (is_ready (world_at config h m) c s) → pos 1 ≤ℤ standing (world_at config h m) s c →
    IsTrue (is_sent_to v (step (world_at config h m) (Asked (Pull c l))).reply) →
    (v ≡ s) ⊎ IsTrue (has (keys_before s (rotation (world_at config h m) c).new) v)
