-- The recursion ends because the list of words gets shorter.
use Rattle.std.proofs.Common.{length}
use Rattle.wf_run.proofs.help.words.+any_asks_help.Given as goal

abbrev pub decreases-any_asks_help : goal.decreases-any_asks_help
decreases-any_asks_help l = length l.words.now
