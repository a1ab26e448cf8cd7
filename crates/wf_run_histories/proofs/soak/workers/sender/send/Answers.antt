-- Proves that the sender makes its list of calls: the frames, then the tick.
use Rattle.wf_run_histories.proofs.Walks.{makes_one}
use Rattle.wf_run_histories.proofs.soak.workers.sender.send.Goals as goal

pub returns : goal.returns
returns g c = record {
  sent = rw (c.new-words.ensures, c.from.ensures) at
      (makes_one c.in_ok-send_frames.ensures.sent c.in-Ok.ensures.made);
}
