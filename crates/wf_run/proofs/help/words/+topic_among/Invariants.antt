-- The recursion ends because the list of words gets shorter.
use Rattle.std.proofs.Common.{length}
use Rattle.wf_run.proofs.help.words.+topic_among.Given as goal

abbrev pub decreases-topic_among : goal.decreases-topic_among
decreases-topic_among l = length l.words.now
