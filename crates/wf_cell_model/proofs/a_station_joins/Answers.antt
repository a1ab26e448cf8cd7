-- Proves the effect and the ranges of a Join, of an Offload and of a Plain.
use Rattle.wf_cell_model.proofs.Joining.{joined_hears, offloaded_hears, offloaded_in_range, plain_hears, plain_in_range, plain_start_in_range, station_in_range, window_in_range, start_in_range}
use Rattle.wf_cell_model.proofs.a_station_joins.Goals as goal

pub returns : goal.returns
returns c = record {
  hears = joined_hears;
  offloaded = offloaded_hears;
  offloaded_station = offloaded_in_range;
  plain = plain_hears;
  plain_station = plain_in_range;
  plain_start = plain_start_in_range;
  station = station_in_range;
  window = window_in_range;
  start =
      start_in_range;
}
