-- Proves the effect of a call on an engine. By cases of whether it has a frame.
use Rattle.std.proofs.Common.{◌≡◌, sym, subst, true}
use Rattle.std.specs.Prelude.{◌||◌}
use Rattle.wf_frame.specs.Answers.{reply_of}
use Rattle.wf_path.specs.declared.job.Job.{Job}
use Rattle.wf_path.specs.Jobs.{changes_nothing}
use Rattle.wf_cell.specs.Engines.{IsJobDone}
use Rattle.wf_cell.specs.Cells.{is_received}
use Rattle.wf_cell.proofs.engine.Engine.step.Goals as goal

pub returns-in-Give-clause-done : goal.returns-in-Give-clause-done
returns-in-Give-clause-done c = λ w bodies i.
    subst (λ (k : Job). IsJobDone w bodies k c.args.self.now.half c.path_call.new.self
    (reply_of c.path_call.new.answer) c.path_call.result) (sym c.in-Give.is)
    (c.path_call.ensures.done w bodies i)

pub returns-in-Call-clause-done : goal.returns-in-Call-clause-done
returns-in-Call-clause-done c = λ w bodies i.
    subst (λ (k : Job). IsJobDone w bodies k c.args.self.now.half c.ask.new.self
    (reply_of c.ask.new.answer) c.ask.result) (sym c.in-Call.is) (c.ask.ensures.done w bodies i)

pub returns-in-Give-clause-path_kept : goal.returns-in-Give-clause-path_kept
returns-in-Give-clause-path_kept c = λ is.
    c.path_call.ensures.path_kept (subst (λ (k : Job). (is_received k
    || changes_nothing (reply_of c.path_call.new.answer)) ≡ true) c.in-Give.is is)

pub returns-in-Call-clause-path_kept : goal.returns-in-Call-clause-path_kept
returns-in-Call-clause-path_kept c = λ is.
    c.ask.ensures.path_kept (subst (λ (k : Job). (is_received k
    || changes_nothing (reply_of c.ask.new.answer)) ≡ true) c.in-Call.is is)
