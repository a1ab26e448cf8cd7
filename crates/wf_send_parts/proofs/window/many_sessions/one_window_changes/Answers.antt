-- Proves the law `one_window_changes` by the lemmas of Changes.
use Rattle.wf_send_parts.proofs.Changes.{window_same, window_other, windows_count, one_stands}
use Rattle.wf_send_parts.proofs.window.many_sessions.one_window_changes.Goals as goal

pub returns-clause-count : goal.returns-clause-count
returns-clause-count c = windows_count

pub returns-clause-this : goal.returns-clause-this
returns-clause-this c = window_same

pub returns-clause-others : goal.returns-clause-others
returns-clause-others c = window_other

pub returns-clause-stands : goal.returns-clause-stands
returns-clause-stands c = one_stands
