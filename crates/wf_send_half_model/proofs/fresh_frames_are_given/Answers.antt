-- Proves the law `fresh_frames_are_given` by the lemmas of Gives.
use Rattle.wf_send_half_model.proofs.Gives.{full_fills, filled_idle, fresh_own, fresh_goes_on, fresh_stops}
use Rattle.wf_send_half_model.proofs.fresh_frames_are_given.Goals as goal

pub returns-clause-full : goal.returns-clause-full
returns-clause-full c = full_fills

pub returns-clause-idle : goal.returns-clause-idle
returns-clause-idle c = filled_idle

pub returns-clause-own : goal.returns-clause-own
returns-clause-own c = fresh_own

pub returns-clause-goes_on : goal.returns-clause-goes_on
returns-clause-goes_on c = fresh_goes_on

pub returns-clause-stops : goal.returns-clause-stops
returns-clause-stops c = fresh_stops
