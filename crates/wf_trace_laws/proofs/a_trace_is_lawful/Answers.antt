-- Proves `a_trace_is_lawful`, by Ranges.
use Rattle.wf_trace_laws.proofs.Ranges.{reading_in, trace_laws}
use Rattle.wf_trace_laws.proofs.a_trace_is_lawful.Goals as goal

pub returns : goal.returns
returns c = record { settings = reading_in; laws = trace_laws }
