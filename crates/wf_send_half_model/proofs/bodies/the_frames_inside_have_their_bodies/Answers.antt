-- Proves the law `the_frames_inside_have_their_bodies` by the lemmas of Frames.
use Rattle.wf_send_half_model.proofs.Frames.{bodies_are}
use Rattle.wf_send_half_model.proofs.bodies.the_frames_inside_have_their_bodies.Goals as goal

pub returns : goal.returns
returns c = bodies_are
