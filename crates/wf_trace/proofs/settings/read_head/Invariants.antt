-- The invariant of the loop of `read_head`: the settings and the fault so far, and the words that are left,
-- give the result of the whole line.
use Rattle.std.proofs.Common.{◌≡◌, false, length}
use Rattle.std.specs.Prelude.{replicate}
use Rattle.wf_trace.specs.Words.{words}
use Rattle.wf_frame.specs.Settings.{standard}
use Rattle.wf_trace.specs.Settings.{read_words, after_fault}
use Rattle.wf_trace.proofs.settings.read_head.Given as goal

abbrev pub invariant-loop-word : goal.invariant-loop-word
invariant-loop-word l = read_words (words l.line) (replicate 28 false) standard
    ≡ after_fault l.fault (read_words (words l.rest) l.seen l.config)

abbrev pub decreases-loop-word : goal.decreases-loop-word
decreases-loop-word l = length l.rest
