-- Defines the cells whose frames all come from a trace's calls.
use Rattle.std.specs.Prelude.{◌≡◌, ℕ, ◌<◌, Some, length}
use Rattle.wf_frame.specs.Frames.{FrameValue, made_up_source, sample_body}
use Rattle.wf_def_world.specs.World.{World, Exchange, exchange}
use Rattle.wf_def_world.specs.Exchanges.{transmissions}
use Rattle.wf_def_world.specs.Run.{world_of}
use Rattle.wf_send_half_model.specs.Half.{TransmitValue}
use Rattle.wf_send_half_model.specs.Standing.{StandsFor}
use Rattle.wf_cell.specs.Cells.{CellValue}

-- The world after a cell's history.
abbrev pub world_behind : CellValue → World
world_behind c = world_of c.past

-- A frame has the body of a trace's enqueue with its flow and its length, and the placeholder source.
pub record IsSample (f : FrameValue) : Type 0 where
  pub body : f.body ≡ sample_body f.flow (length f.body)
  pub source : f.source ≡ made_up_source

-- A transmit half represents a world, and its frames are such samples.
pub record HasSamples (half : TransmitValue) (w : World) : Type 0 where
  pub bodies : ℕ → FrameValue
  pub stands : StandsFor half w bodies
  pub samples : (id : ℕ) → IsSample (bodies id)

-- All frames of the cell are such samples.
abbrev pub IsSampled : CellValue → Type 0
IsSampled c = HasSamples c.half (world_behind c)

-- Exchange e is open, and has a transmission with this index.
pub record HasTransmission (w : World) (e index : ℕ) : Type 0 where
  pub sending : Exchange
  pub known : exchange w e ≡ Some sending
  pub within : index < transmissions sending.content
