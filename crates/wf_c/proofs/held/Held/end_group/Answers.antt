-- Proves what the end of a group frame's transmission leaves, from the clauses of the two calls.
use Rattle.wf_c.proofs.held.Held.end_group.Goals as goal

pub returns : goal.returns
returns c = record { called = c.ask.ensures; frame = c.show_flying.ensures }
