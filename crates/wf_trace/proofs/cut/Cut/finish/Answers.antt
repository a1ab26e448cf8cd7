-- Proves the clauses of `finish` for a rest of the input that is a line with a fault.
use Rattle.std.proofs.Common.{refl}
use Rattle.wf_trace.proofs.Taking.{wrong_rest}
use Rattle.wf_trace.proofs.cut.Cut.finish.Goals as goal

pub returns-else-is_none-clause-looked : goal.returns-else-is_none-clause-looked
returns-else-is_none-clause-looked c =
    (wrong_rest _ c.judge-flaw.result c.args.self.now.cutter c.judge-flaw.new.self.cutter refl
    c.judge-flaw.ensures.judged
    c.if-is_none.ensures c.requires.going c.requires.fresh c.requires.dry
    (rw (← c.self.view_is) c.if-is_empty.ensures)).0

pub returns-else-is_none-clause-follows : goal.returns-else-is_none-clause-follows
returns-else-is_none-clause-follows c =
    (wrong_rest _ c.judge-flaw.result c.args.self.now.cutter c.judge-flaw.new.self.cutter refl
    c.judge-flaw.ensures.judged
    c.if-is_none.ensures c.requires.going c.requires.fresh c.requires.dry
    (rw (← c.self.view_is) c.if-is_empty.ensures)).1
