-- Proves that a failed write leaves a prefix of the file header.
use Rattle.wf_io.proofs.FrontLaws.{front_partly}
use Rattle.wf_run_replay.proofs.capture.packets.PacketsTells.tell_front.Goals as goal

pub returns-clause-front : goal.returns-clause-front
returns-clause-front g c = front_partly _ _ _ c.write_head.ensures.prefix
