-- The count so far is the number of ones in the words so far.
use Rattle.std.proofs.Common.{◌≡◌, ◌≤◌, ◌*◌, sum_by, take, count_ones}
use Rattle.wf_octets.proofs.bits.bits256.Bits256.count.Given as goal

abbrev pub invariant-loop-word : goal.invariant-loop-word
invariant-loop-word l = (l.count ≡ sum_by count_ones (take l.word-index l.word-items)) ×
    (l.count ≤ 64 * l.word-index)
