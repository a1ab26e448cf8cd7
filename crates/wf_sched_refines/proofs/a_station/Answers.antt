-- Each clause is a law of Readings.
use Rattle.wf_sched_refines.proofs.Readings.{deficit_same, lists_same, live_below, nowhere}
use Rattle.wf_sched_refines.proofs.a_station.Goals as goal

pub returns-clause-deficit : goal.returns-clause-deficit
returns-clause-deficit c = deficit_same

pub returns-clause-listed : goal.returns-clause-listed
returns-clause-listed c = lists_same

pub returns-clause-known : goal.returns-clause-known
returns-clause-known c = live_below

pub returns-clause-nowhere : goal.returns-clause-nowhere
returns-clause-nowhere c = nowhere
