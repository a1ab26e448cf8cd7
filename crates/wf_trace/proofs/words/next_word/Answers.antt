-- Proves what `next_word` returns, by WordLaws: a word before a space, and a word at the end of the line.
use Rattle.std.proofs.Common.{◌-◌, ◌<◌, length, drop, arith}
use Rattle.std.proofs.lemmas.List.{take_all, length-drop}
use Rattle.wf_trace.proofs.WordLaws.{word_between, word_at_end}
use Rattle.wf_trace.proofs.words.next_word.Goals as goal

pub returns-then-from-to : goal.returns-then-from-to
returns-then-from-to c =
    let line = c.args.line.now in
    let len = length-drop c.loop-to.to line in
    rw (take_all (length line - c.loop-to.to) (drop c.loop-to.to line) (omega (arith, len))) (
      word_between line c.loop-to.from c.loop-to.to c.loop-to.invariant.0 c.if-from-to.true
          c.loop-to-test.true c.loop-to.invariant.2 c.if-octet-ne32.false,
      omega (arith, len, c.if-from-to.true, c.loop-to-test.true),
    )

pub returns : goal.returns
returns c =
    let line = c.args.line.now in
    let len = length-drop c.loop-to.from line in
    let some : c.loop-to.from < length line =
    omega (arith, c.loop-to.invariant.1, c.if-from-line.false, c.loop-to-test.false) in
    rw (take_all (length line - c.loop-to.from) (drop c.loop-to.from line) (omega (arith, len))) (
      word_at_end line c.loop-to.from c.loop-to.invariant.0 some
          (λ k from below. c.loop-to.invariant.2 k from (omega (arith, below, c.loop-to-test.false))),
      omega (arith, some),
    )
