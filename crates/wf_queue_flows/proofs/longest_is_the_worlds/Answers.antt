-- Both are the least queue with the most octets.
use Rattle.wf_queue_flows.proofs.LongestLemmas.{longest_by_number}
use Rattle.wf_queue_flows.proofs.longest_is_the_worlds.Goals as goal

pub returns : goal.returns
returns c = λ v w q. longest_by_number v w.queues q
