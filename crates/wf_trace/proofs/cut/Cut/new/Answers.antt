-- Proves that a new cutter has all pieces of the input to come.
use Rattle.wf_trace.proofs.CutLaws.{pieces_whole}
use Rattle.wf_trace.proofs.cut.Cut.new.Goals as goal

pub returns-clause-pieces : goal.returns-clause-pieces
returns-clause-pieces c = rw (c.new.ensures) pieces_whole
