-- Each clause is a law of Readers.
use Rattle.wf_queue_flows_refines.proofs.Readers.{same_queued, same_total, same_longest, same_dropped, same_elsewhere, same_queue_for}
use Rattle.wf_queue_flows_refines.proofs.the_readers_agree.Goals as goal

pub returns-clause-queued : goal.returns-clause-queued
returns-clause-queued c = same_queued

pub returns-clause-total : goal.returns-clause-total
returns-clause-total c = same_total

pub returns-clause-longest : goal.returns-clause-longest
returns-clause-longest c = same_longest

pub returns-clause-dropped : goal.returns-clause-dropped
returns-clause-dropped c = same_dropped

pub returns-clause-elsewhere : goal.returns-clause-elsewhere
returns-clause-elsewhere c = λ v w s t q st low_s low_t. same_elsewhere v w st s t q low_t low_s

pub returns-clause-queue_for : goal.returns-clause-queue_for
returns-clause-queue_for c = same_queue_for
