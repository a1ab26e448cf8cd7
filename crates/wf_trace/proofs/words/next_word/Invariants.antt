-- The invariant of the loop of `next_word`: the octets before `from` have no word, and those from it on no
-- space.
use Rattle.std.proofs.Common.{◌≡◌, ℕ, ◌<◌, ◌≤◌, get_or, drop}
use Rattle.wf_trace.specs.Words.{words}
use Rattle.wf_trace.proofs.words.next_word.Given as goal

abbrev pub invariant-loop-to : goal.invariant-loop-to
invariant-loop-to l = (words l.line ≡ words (drop l.from l.line)) × (l.from ≤ l.to)
    × ((k : ℕ) → l.from ≤ k → k < l.to → get_or l.line k 0 ≡ 32 → ⊥)
