-- Proves the law `a_pull_begins` by the lemmas of Pulls.
use Rattle.wf_send_half_model.proofs.Pulls.{pick_within_parts, sending_same, turn_parts}
use Rattle.wf_send_half_model.proofs.a_pull_begins.Goals as goal

pub returns-clause-pick : goal.returns-clause-pick
returns-clause-pick c = pick_within_parts

pub returns-clause-sends : goal.returns-clause-sends
returns-clause-sends c = sending_same

pub returns-clause-turn : goal.returns-clause-turn
returns-clause-turn c = turn_parts
