-- Proves the law `each_time_that_a_frame_is_sent_counts` by the lemmas of Counts.
use Rattle.wf_path.proofs.Counts.{pull_counts}
use Rattle.wf_path.proofs.job.each_time_that_a_frame_is_sent_counts.Goals as goal

pub returns : goal.returns
returns c = pull_counts
