-- Proves the effect and the ranges of a Begin.
use Rattle.wf_cell_model.proofs.Renewing.{begun_station, begun_tid, begun_window, begun_hears}
use Rattle.wf_cell_model.proofs.an_agreement_begins.Goals as goal

pub returns : goal.returns
returns c = record {
  station = begun_station;
  tid = begun_tid;
  window = begun_window;
  hears = begun_hears;
}
