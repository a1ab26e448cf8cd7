-- Proves the effect of a call without a frame on an engine. By cases of whether the path takes it.
use Rattle.std.proofs.Common.{◌≡◌, sym, subst, true, None}
use Rattle.std.specs.Prelude.{◌||◌}
use Rattle.wf_frame.specs.Answers.{reply_of}
use Rattle.wf_frame.specs.declared.notes.Ask.{Ask}
use Rattle.wf_path.specs.declared.job.Job.{Job}
use Rattle.wf_path.specs.declared.job.Job.TheVariants.{Call}
use Rattle.wf_path.specs.Jobs.{changes_nothing}
use Rattle.wf_cell.specs.Engines.{IsJobDone}
use Rattle.wf_cell.specs.Cells.{is_received}
use Rattle.wf_cell.proofs.Calls.{path_kept_by}
use Rattle.wf_cell.proofs.engine.Engine.ask.Goals as goal

pub returns-in-Ok-clause-done : goal.returns-in-Ok-clause-done
returns-in-Ok-clause-done c = λ w bodies i.
    subst (λ (k : Job). IsJobDone w bodies k c.args.self.now.half c.path_call.new.self
    (reply_of c.path_call.new.answer) c.path_call.result) (sym c.in-Ok.ensures.path)
    (c.path_call.ensures.done w bodies i)

pub returns-in-Err-clause-done : goal.returns-in-Err-clause-done
returns-in-Err-clause-done c = λ w bodies i.
    subst (λ (a : Ask). IsJobDone w bodies (Call a) c.args.self.now.half c.exchange_call.new.self
    (reply_of c.exchange_call.new.answer) None) (sym c.in-Err.ensures.exchange)
    (c.exchange_call.ensures.done w bodies i)

pub returns-in-Ok-clause-path_kept : goal.returns-in-Ok-clause-path_kept
returns-in-Ok-clause-path_kept c = λ is.
    c.path_call.ensures.path_kept (path_kept_by c.in-Ok.job (reply_of c.path_call.new.answer)
    (subst (λ (k : Job). (is_received k
    || changes_nothing (reply_of c.path_call.new.answer)) ≡ true) c.in-Ok.ensures.path is))

pub returns-in-Err-clause-path_kept : goal.returns-in-Err-clause-path_kept
returns-in-Err-clause-path_kept c = λ is.
    c.exchange_call.ensures.path_kept (subst (λ (a : Ask). (is_received (Call a)
    || changes_nothing (reply_of c.exchange_call.new.answer)) ≡ true) c.in-Err.ensures.exchange is)
