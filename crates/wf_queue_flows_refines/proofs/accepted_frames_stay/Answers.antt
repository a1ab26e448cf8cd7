-- A put accepts one frame; the other calls only change queues and fates.
use Rattle.wf_queue_flows_refines.proofs.Ends.{accepted_finish}
use Rattle.wf_queue_flows_refines.proofs.Puts.{accepted_enqueued}
use Rattle.wf_queue_flows_refines.proofs.Takes.{accepted_take}
use Rattle.wf_queue_flows_refines.proofs.Purges.{accepted_left}
use Rattle.wf_queue_flows_refines.proofs.Flushes.{accepted_flushed}
use Rattle.wf_queue_flows_refines.proofs.accepted_frames_stay.Goals as goal

pub returns-clause-put : goal.returns-clause-put
returns-clause-put c = accepted_enqueued

pub returns-clause-take : goal.returns-clause-take
returns-clause-take c = accepted_take

pub returns-clause-finish : goal.returns-clause-finish
returns-clause-finish c = accepted_finish

pub returns-clause-left : goal.returns-clause-left
returns-clause-left c = accepted_left

pub returns-clause-flushed : goal.returns-clause-flushed
returns-clause-flushed c = accepted_flushed
