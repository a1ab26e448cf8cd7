-- Defines how a struct shows the frames of an exchange.
use Rattle.std.specs.Prelude.{◌≡◌, ℕ, Bool, if◌then◌else◌, List, map, length, slice_get, slice_index, Some, None}
use Rattle.wf_frame.specs.declared.answers.Brief.{Brief}
use Rattle.wf_frame.specs.declared.answers.Brief.TheVariants.{Send}
use Rattle.wf_c.specs.Numbers.{is_batch_kind}
use Rattle.wf_c.specs.declared.pulled.Frames.{Frames}

-- entry i is this frame: its id and its sequence number
pub record ShowsPair (f : Frames) (i : ℕ) (pair : ℕ × ℕ) : Type 0 where
  pub id : slice_index f.ids i ≡ pair.0
  pub number : slice_index f.numbers i ≡ pair.1

-- the entries are these frames, in order
pub record ShowsPairs (f : Frames) (pairs : List (ℕ × ℕ)) : Type 0 where
  pub count : f.count ≡ length pairs
  pub each : (i : ℕ) (pair : ℕ × ℕ) → slice_get pairs i ≡ Some pair → ShowsPair f i pair

-- a frame of an aggregate with its number, or a frame of a batch with 0 in its place
abbrev pub pair_shown : Bool → ℕ × ℕ → ℕ × ℕ
pair_shown batch pair = if batch then (pair.0, 0) else pair

-- the frames of an aggregate, or those of a batch without their numbers
abbrev pub pairs_shown : Bool → List (ℕ × ℕ) → List (ℕ × ℕ)
pairs_shown batch pairs = map (pair_shown batch) pairs

-- the entries are the frames that an answer sends, or it sends none
abbrev pub ShowsAggregate : Frames → Brief → List (ℕ × ℕ) → Type 0
ShowsAggregate f (Send exchange station tid air None kind more eosp) pairs =
    ShowsPairs f (pairs_shown (is_batch_kind kind) pairs)
ShowsAggregate f _ pairs = f.count ≡ 0
