-- The TIDs of a station list no queue when it joins or leaves.
use Rattle.wf_queue_flows_refines.proofs.Leaves.{stands_joined, stands_offloaded, stands_plain, stands_gone}
use Rattle.wf_queue_flows_refines.proofs.stations_come_and_go.Goals as goal

pub returns-clause-joins : goal.returns-clause-joins
returns-clause-joins c = stands_joined

pub returns-clause-offloads : goal.returns-clause-offloads
returns-clause-offloads c = stands_offloaded

pub returns-clause-goes : goal.returns-clause-goes
returns-clause-goes c = stands_gone

pub returns-clause-joins_plain : goal.returns-clause-joins_plain
returns-clause-joins_plain c = stands_plain
