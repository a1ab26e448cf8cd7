-- Proves the law `the_rest_does_not_matter` by the lemmas of Stands.
use Rattle.wf_send_half_model.proofs.Stands.{windows_same, same_views, leaves_parts}
use Rattle.wf_send_half_model.proofs.the_rest_does_not_matter.Goals as goal

pub returns-clause-same : goal.returns-clause-same
returns-clause-same c = leaves_parts

pub returns-clause-turns : goal.returns-clause-turns
returns-clause-turns c = same_views

pub returns-clause-windows : goal.returns-clause-windows
returns-clause-windows c = windows_same
