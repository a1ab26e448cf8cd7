-- Proves the effect of an Arrive, and the ranges of its station, TID and index.
use Rattle.wf_cell_model.proofs.Sent.{station_now, tid_now, index_now, reach_now}
use Rattle.wf_cell_model.proofs.Arriving.{arrived_hears, arrived_up}
use Rattle.wf_cell_model.proofs.a_transmission_arrives.Goals as goal

pub returns : goal.returns
returns c = record {
  station = station_now;
  tid = λ w e x reached. tid_now w reached e x;
  index = index_now;
  reach = reach_now;
  hears = λ peers marks w e i id x reached h. arrived_hears peers marks w e i id x reached h;
  up = λ peers marks w e i id x reached h. arrived_up peers marks w e i id x reached h;
}
