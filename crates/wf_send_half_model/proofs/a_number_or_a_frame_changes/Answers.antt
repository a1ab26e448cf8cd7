-- Proves the law `a_number_or_a_frame_changes` by the lemmas of Moves and Endings.
use Rattle.wf_send_half_model.proofs.Moves.{session_parts, finish_parts}
use Rattle.wf_send_half_model.proofs.Endings.{nowhere}
use Rattle.wf_send_half_model.proofs.a_number_or_a_frame_changes.Goals as goal

pub returns-clause-window : goal.returns-clause-window
returns-clause-window c = session_parts

pub returns-clause-finish : goal.returns-clause-finish
returns-clause-finish c = finish_parts

pub returns-clause-nowhere : goal.returns-clause-nowhere
returns-clause-nowhere c = nowhere
