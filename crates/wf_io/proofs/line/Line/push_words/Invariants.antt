-- The words so far were appended, with a space before each.
use Rattle.std.proofs.Common.{◌≡◌, ◌+◌, ◌≤◌, ◌++◌, length, take}
use Rattle.std.specs.Prelude.{map, sum_by}
use Rattle.wf_io.specs.Words.{words_text, width_of, spaced}
use Rattle.wf_io.proofs.line.Line.push_words.Given as goal

abbrev pub invariant-loop-word : goal.invariant-loop-word
invariant-loop-word l = (l.self ≡ l.fn.self ++ spaced (map words_text (take l.word-index l.words)))
    × (length l.self ≤ length l.fn.self + sum_by (λ w. width_of w + 1) (take l.word-index l.words))
