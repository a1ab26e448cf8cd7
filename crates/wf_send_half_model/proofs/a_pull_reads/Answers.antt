-- Proves the law `a_pull_reads` by the lemmas of Asked.
use Rattle.wf_send_half_model.proofs.Asked.{params_read, room_read, drops_read}
use Rattle.wf_send_half_model.proofs.a_pull_reads.Goals as goal

pub returns-clause-params : goal.returns-clause-params
returns-clause-params c = params_read

pub returns-clause-room : goal.returns-clause-room
returns-clause-room c = room_read

pub returns-clause-drops : goal.returns-clause-drops
returns-clause-drops c = drops_read
