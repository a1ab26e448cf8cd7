-- Proves `room_law` (lib.rt) from the lemmas.
use Rattle.wf_law_runs.proofs.Frames.Rooms.{room_law}
use Rattle.wf_law_runs.proofs.room_law.Goals as goal

pub returns : goal.returns
returns c = room_law
