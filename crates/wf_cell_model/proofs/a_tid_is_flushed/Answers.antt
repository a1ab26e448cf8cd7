-- Proves the effect and the ranges of a Flush.
use Rattle.wf_cell_model.proofs.Catching.{flushed_station, flushed_tid, flushed_hears}
use Rattle.wf_cell_model.proofs.a_tid_is_flushed.Goals as goal

pub returns : goal.returns
returns c = record { station = flushed_station; tid = flushed_tid; hears = flushed_hears }
