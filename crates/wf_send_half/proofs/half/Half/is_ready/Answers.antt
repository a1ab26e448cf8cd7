-- Proves what `Half::is_ready` promises: its tests compute `is_ready_of`, which agrees with the world. By
-- cases of the tests.
use Rattle.std.proofs.Common.{rules, ◌∙◌}
use Rattle.wf_send_half_model.proofs.Readers.{ready_same}
use Rattle.wf_send_half.proofs.half.Half.is_ready.Goals as goal

pub returns-then-can_send_in-clause-value : goal.returns-then-can_send_in-clause-value
returns-then-can_send_in-clause-value c = search rules

pub returns-else-can_send_in-clause-value : goal.returns-else-can_send_in-clause-value
returns-else-can_send_in-clause-value c = search rules

pub returns-then-can_send_in-clause-world : goal.returns-then-can_send_in-clause-world
returns-then-can_send_in-clause-world c w bodies h = returns-then-can_send_in-clause-value c
    ∙ ready_same c.args.self.now w bodies c.args.class c.args.station h.parts

pub returns-else-can_send_in-clause-world : goal.returns-else-can_send_in-clause-world
returns-else-can_send_in-clause-world c w bodies h = returns-else-can_send_in-clause-value c
    ∙ ready_same c.args.self.now w bodies c.args.class c.args.station h.parts
