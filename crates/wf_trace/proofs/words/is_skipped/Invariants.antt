-- The invariant of the loop of `is_skipped`: the octets so far are spaces.
use Rattle.std.proofs.Common.{◌≡◌, drop}
use Rattle.wf_trace.specs.Words.{words, skipped}
use Rattle.wf_trace.proofs.words.is_skipped.Given as goal

abbrev pub invariant-loop-octet : goal.invariant-loop-octet
invariant-loop-octet l = skipped (words l.line) ≡ skipped (words (drop l.octet-index l.line))
