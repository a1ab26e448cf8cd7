-- Proves the effect and the ranges of a Cease, and what it releases.
use Rattle.wf_cell_model.proofs.Renewing.{ceased_station, ceased_tid, ceased_hears, ceased_up}
use Rattle.wf_cell_model.proofs.an_agreement_ends.Goals as goal

pub returns : goal.returns
returns c = record {
  station = ceased_station;
  tid = ceased_tid;
  hears = ceased_hears;
  up = ceased_up;
}
