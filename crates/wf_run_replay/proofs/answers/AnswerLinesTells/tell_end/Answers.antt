-- Proves that the waiting lines and then the summary are written.
use Rattle.std.proofs.lemmas.Result.{on_ok_weaker}
use Rattle.wf_run_replay.proofs.Sendings.{then_written, then_front}
use Rattle.wf_run_replay.proofs.answers.AnswerLinesTells.tell_end.Goals as goal

pub returns-in-Ok-clause-written : goal.returns-in-Ok-clause-written
returns-in-Ok-clause-written g c =
    on_ok_weaker c.close.result (λ wrote. then_written _ _ _ _ _ c.in-Ok.ensures.sent wrote)
    c.close.ensures.written

pub returns-in-Ok-clause-front : goal.returns-in-Ok-clause-front
returns-in-Ok-clause-front g c = then_front _ _ _ _ _ c.in-Ok.ensures.sent c.close.ensures.front
