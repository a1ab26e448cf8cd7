-- The size of the set is the number of ones in its four words.
use Rattle.std.proofs.Common.{◌∙◌, ◌+◌, sym, ap, arith, get_or, length, sum_by, count_ones, take_all}
use Rattle.std.proofs.lemmas.Nat.{ones-le}
use Rattle.std.proofs.lemmas.List.Sums.{sum_by_more}
use Rattle.wf_octets.proofs.Words.{length-words}
use Rattle.wf_octets.proofs.bits.bits256.Bits256.count.Goals as goal

pub overflow_add-count : goal.overflow_add-count
overflow_add-count c = omega (
  arith,
  c.loop-word.invariant.1,
  ones-le 64 (get_or c.self.inside.words c.loop-word.word-index 0)
      (c.self.invariant.1 c.loop-word.word-index),
)

pub loop-word-preserved : goal.loop-word-preserved
loop-word-preserved c = (
  ap (λ n. n + count_ones (get_or c.self.inside.words c.loop-word.word-index 0)) c.loop-word.invariant.0
      ∙ sym (sum_by_more count_ones c.self.inside.words c.loop-word.word-index 0
      (omega (arith, c.self.invariant.0))),
  omega (
    arith,
    c.loop-word.invariant.1,
    ones-le 64 (get_or c.self.inside.words c.loop-word.word-index 0)
        (c.self.invariant.1 c.loop-word.word-index),
  ),
)

pub returns : goal.returns
returns c =
    c.loop-word.invariant.0 ∙ ap (sum_by count_ones)
    (take_all c.loop-word.word-index c.self.inside.words (omega (arith, c.self.invariant.0)))
    ∙ length-words c.self.inside.words c.self.invariant.0 c.self.invariant.1 ∙ ap length c.self.view_is
