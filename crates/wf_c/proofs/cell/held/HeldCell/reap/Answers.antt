-- Proves what a reap leaves, from the clauses of the cell's call and of `show_back`.
use Rattle.std.proofs.Common.{subst}
use Rattle.std.specs.Prelude.{Option}
use Rattle.wf_frame.specs.Frames.{FrameValue}
use Rattle.wf_c.specs.Bodies.{ShowsBack}
use Rattle.wf_c.proofs.cell.held.HeldCell.reap.Goals as goal

pub returns : goal.returns
returns c = record {
  stepped = record {
    past = c.step-back.ensures.past;
    reply = c.step-back.ensures.reply;
    stands = c.step-back.ensures.stands;
    bodies = c.step-back.ensures.bodies;
    full = c.step-back.ensures.full;
    unchanged = c.step-back.ensures.unchanged;
    laws = c.step-back.ensures.laws;
    shows = c.of.ensures;
  };
  back = λ some bodies stands. subst
      (λ (o : Option FrameValue). ShowsBack o c.args.taken.now c.args.body.now c.show_back.new.taken
      c.show_back.new.body) (c.step-back.ensures.parcel some bodies stands) c.show_back.ensures;
  full = λ none. subst
      (λ (o : Option FrameValue). ShowsBack o c.args.taken.now c.args.body.now c.show_back.new.taken
      c.show_back.new.body) (c.step-back.ensures.handed_back none) c.show_back.ensures;
}
