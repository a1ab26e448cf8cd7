-- Proves that `Path::shown_at` may call `offsets_of`: the numbers of an open exchange are near the first one.
use Rattle.std.proofs.Common.{subst}
use Rattle.wf_path.specs.Heard.{IsNarrow}
use Rattle.wf_path.proofs.EachShown.{near_first}
use Rattle.wf_path.proofs.Ending.{narrow}
use Rattle.wf_path.proofs.path.Path.shown_at.Goals as goal

pub offsets_of-requires : goal.offsets_of-requires
offsets_of-requires c = record {
  near = near_first c.in-Data.numbers c.at-first.result c.at-first.ensures
      (subst IsNarrow c.in-Data.is (narrow c.self.inside.half c.self.invariant c.args.exchange
      c.in_ok-open.open.now c.in_ok-open.ensures));
}
