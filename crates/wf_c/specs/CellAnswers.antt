-- Defines the parts of an answer that only a cell has: the frames that a station passes up, and its BlockAck.
use Rattle.std.specs.Prelude.{◌≡◌, ℕ, List, [], ◌∷◌, length, slice_get, slice_index, Some}
use Rattle.wf_frame.specs.declared.answers.Brief.{Brief}
use Rattle.wf_frame.specs.declared.answers.Brief.TheVariants.{Ba, Released, Ceased}
use Rattle.wf_c.specs.Numbers.{flag_of}
use Rattle.wf_c.specs.declared.cell.answers.Block.{Block}
use Rattle.wf_c.specs.declared.cell.answers.PassedUp.{PassedUp}

-- the entries are these ids, in order
pub record ShowsIds (p : PassedUp) (ids : List ℕ) : Type 0 where
  pub count : p.count ≡ length ids
  pub each : (i id : ℕ) → slice_get ids i ≡ Some id → slice_index p.ids i ≡ id

-- the entries are the ids that an answer passes up, or it passes up none
abbrev pub ShowsPassedUp : PassedUp → Brief → List ℕ → Type 0
ShowsPassedUp p Released ids = ShowsIds p ids
ShowsPassedUp p (Ceased dropped) ids = ShowsIds p ids
ShowsPassedUp p _ ids = p.count ≡ 0

-- the fields of the BlockAck of an answer, or all 0
abbrev pub block_of : Brief → Block
block_of (Ba start b0 b1 b2 b3 wide) = record {
  bits = b0 ∷ b1 ∷ b2 ∷ b3 ∷ [];
  start = start;
  wide =
      flag_of wide;
}
block_of _ = record { bits = 0 ∷ 0 ∷ 0 ∷ 0 ∷ []; start = 0; wide = 0 }
