-- Defines a cell as its callers see it, and the invariant of cells.
use Rattle.std.specs.Prelude.{ℕ, ◌≡◌, ◌+◌, ◌-◌, Bool, true, false, [], ◌∷◌, ◌++◌, Option, length, slice_get}
use Rattle.wf_frame.specs.Frames.{FrameValue}
use Rattle.wf_frame.specs.declared.notes.Ask.TheVariants.{Arrive, Answer}
use Rattle.wf_def_world.specs.Run.{Entry, Past, world_of}
use Rattle.wf_law_runs.specs.Lengths.{HasLengths}
use Rattle.wf_send_half_model.specs.Half.{TransmitValue}
use Rattle.wf_path.specs.declared.job.Job.{Job}
use Rattle.wf_path.specs.declared.job.Job.TheVariants.{Call}
use Rattle.wf_cell.specs.Engines.{EngineValue, EngineIsIn}

-- a cell
pub record CellValue : Type 0 where
  pub past : Past  -- the settings and the whole history, in order
  pub half : TransmitValue  -- the state of its path

-- how many more entries its history has room for
abbrev pub calls_left_in : Past → ℕ
calls_left_in p = p.config.calls - length p.history

-- the history with one more entry
abbrev pub with_entry : Entry → Past → Past
with_entry e p = record p { history = p.history ++ e ∷ [] }

-- whether only receivers hear a call, so that the path is unchanged: an Arrive or an Answer
abbrev pub is_received : Job → Bool
is_received (Call (Arrive exchange index)) = true
is_received (Call (Answer exchange)) = true
is_received job = false

-- A cell represents the final world of its history, whose frames have 1 to 2304 octets each. It has the
-- number of calls that are left, by the setting `calls`, and the last entry of the history.
pub record IsCell (past : Past) (engine : EngineValue) (left : ℕ) (last : Option Entry) : Type 0 where
  pub bodies : ℕ → FrameValue
  pub is_in : EngineIsIn engine (world_of past) bodies
  pub lengths : HasLengths past.history
  pub counted : length past.history + left ≡ past.config.calls
  pub latest : last ≡ slice_get past.history (length past.history - 1)
