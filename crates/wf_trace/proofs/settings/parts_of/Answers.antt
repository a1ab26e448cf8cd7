-- Proves what `parts_of` returns, by HeadLaws: at the first =, and if there is none.
use Rattle.std.proofs.Common.{arith}
use Rattle.wf_trace.proofs.HeadLaws.{split_at, split_none}
use Rattle.wf_trace.proofs.settings.parts_of.Goals as goal

pub returns-then-octet-eq61 : goal.returns-then-octet-eq61
returns-then-octet-eq61 c =
    rw (c.split_at.ensures.front, c.split_at-then-octet-eq61.ensures.back, c.split_at.ensures.back)
    (split_at c.args.word.now c.loop-i.i (omega arith) c.loop-i.invariant c.if-octet-eq61.true)

pub returns : goal.returns
returns c = split_none c.args.word.now (λ k below. c.loop-i.invariant k (omega arith))
