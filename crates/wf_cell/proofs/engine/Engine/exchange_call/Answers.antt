-- Proves the effect of a call about an open exchange on an engine. By cases of the call.
use Rattle.std.proofs.Common.{◌≡◌, sym, subst, true, None, refl}
use Rattle.std.specs.Prelude.{◌||◌}
use Rattle.wf_frame.specs.Answers.{reply_of}
use Rattle.wf_frame.specs.declared.notes.Ask.TheVariants.{Arrive, Answer, Done}
use Rattle.wf_path.specs.declared.asks.ExchangeAsk.{ExchangeAsk}
use Rattle.wf_path.specs.declared.job.Job.TheVariants.{Call}
use Rattle.wf_path.specs.Jobs.{ask_about, changes_nothing}
use Rattle.wf_cell.specs.Engines.{IsJobDone}
use Rattle.wf_cell.specs.Cells.{is_received}
use Rattle.wf_cell.proofs.Calls.{ask_done}
use Rattle.wf_cell.proofs.engine.Engine.exchange_call.Goals as goal

pub returns-in-Arrive-clause-done : goal.returns-in-Arrive-clause-done
returns-in-Arrive-clause-done c = λ w bodies i.
    let x = c.in-Arrive in
    subst (λ (about : ExchangeAsk). IsJobDone w bodies (Call (ask_about about)) c.args.self.now.half
    c.arrive.new.self (reply_of c.arrive.new.answer) None) (sym x.is)
    (ask_done c.args.self.now c.arrive.new.self (Arrive x.exchange x.index) (reply_of c.arrive.new.answer)
    (λ b. refl) c.arrive.ensures.meets w bodies i)

pub returns-in-Answer-clause-done : goal.returns-in-Answer-clause-done
returns-in-Answer-clause-done c = λ w bodies i.
    let x = c.in-Answer in
    subst (λ (about : ExchangeAsk). IsJobDone w bodies (Call (ask_about about)) c.args.self.now.half
    c.answer.new.self (reply_of c.answer.new.answer) None) (sym x.is)
    (ask_done c.args.self.now c.answer.new.self (Answer x.exchange) (reply_of c.answer.new.answer)
    (λ b. refl) c.answer.ensures.meets w bodies i)

pub returns-in-Done-clause-done : goal.returns-in-Done-clause-done
returns-in-Done-clause-done c = λ w bodies i.
    let x = c.in-Done in
    subst (λ (about : ExchangeAsk). IsJobDone w bodies (Call (ask_about about)) c.args.self.now.half
    c.done.new.self (reply_of c.done.new.answer) None) (sym x.is)
    (ask_done c.args.self.now c.done.new.self (Done x.exchange x.heard x.air) (reply_of c.done.new.answer)
    (λ b. refl) c.done.ensures.meets w bodies i)

pub returns-in-Done-clause-path_kept : goal.returns-in-Done-clause-path_kept
returns-in-Done-clause-path_kept c = λ is.
    let x = c.in-Done in
    c.done.ensures.path_kept (subst (λ (about : ExchangeAsk). (is_received (Call (ask_about about))
    || changes_nothing (reply_of c.done.new.answer)) ≡ true) x.is is)
