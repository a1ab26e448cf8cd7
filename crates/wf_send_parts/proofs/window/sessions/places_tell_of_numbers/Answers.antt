-- Proves the law `places_tell_of_numbers` by the lemmas of Counting and Numbers.
use Rattle.wf_send_parts.proofs.Counting.{some_waits, some_flies}
use Rattle.wf_send_parts.proofs.Numbers.{none_fly}
use Rattle.wf_send_parts.proofs.window.sessions.places_tell_of_numbers.Goals as goal

pub returns-clause-wait : goal.returns-clause-wait
returns-clause-wait c = some_waits

pub returns-clause-fly : goal.returns-clause-fly
returns-clause-fly c = some_flies

pub returns-clause-none_fly : goal.returns-clause-none_fly
returns-clause-none_fly c = none_fly
