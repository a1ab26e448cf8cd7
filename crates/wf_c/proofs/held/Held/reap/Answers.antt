-- Proves what a reap leaves, from the clauses of the path's call and of `show_back`.
use Rattle.std.proofs.Common.{subst}
use Rattle.std.specs.Prelude.{Option}
use Rattle.wf_frame.specs.Frames.{FrameValue}
use Rattle.wf_c.specs.Bodies.{ShowsBack}
use Rattle.wf_c.proofs.held.Held.reap.Goals as goal

pub returns : goal.returns
returns c = record {
  called = record {
    meets = c.call-back.ensures.meets;
    refused = c.call-back.ensures.refused;
    addresses = c.call-back.ensures.addresses;
    reserve = c.keep_any.ensures.kept;
    path = c.call-back.ensures.path;
    shows = c.of.ensures;
  };
  back = λ w bodies stands. subst
      (λ (o : Option FrameValue). ShowsBack o c.args.taken.now c.args.body.now c.show_back.new.taken
      c.show_back.new.body) (c.call-back.ensures.parcel w bodies stands) c.show_back.ensures;
}
