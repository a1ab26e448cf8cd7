-- Proves `a_trace_ends`, by Endings.
use Rattle.wf_trace_laws.proofs.Endings.{reading_ends}
use Rattle.wf_trace_laws.proofs.a_trace_ends.Goals as goal

pub returns : goal.returns
returns c = reading_ends
