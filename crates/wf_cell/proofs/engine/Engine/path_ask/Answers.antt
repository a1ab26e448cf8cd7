-- Proves the effect of a call of the path without a frame on an engine. By cases: a Flush, an Unsent, a
-- Begin, a Cease, a call by which a station joins, or another call, which changes neither a receive half nor
-- a mark.
use Rattle.std.proofs.Common.{ap, ◌∙◌, sym, subst, None, refl}
use Rattle.wf_frame.specs.Answers.{reply_of}
use Rattle.wf_frame.specs.declared.notes.Ask.TheVariants.{Flush, Unsent, Begin, Cease}
use Rattle.wf_path.specs.declared.asks.PathAsk.{PathAsk}
use Rattle.wf_path.specs.declared.job.Job.TheVariants.{Call}
use Rattle.wf_path.specs.Jobs.{as_ask}
use Rattle.wf_path.specs.Paths.{PathValue}
use Rattle.wf_cell.specs.Engines.{EngineValue, IsJobDone}
use Rattle.wf_cell.proofs.Calls.{ask_done, newcomer_job, untold_done, ask_untold, ask_may}
use Rattle.wf_cell.proofs.engine.Engine.path_ask.Goals as goal

pub returns-in-Unsent-clause-done : goal.returns-in-Unsent-clause-done
returns-in-Unsent-clause-done c = λ w bodies i.
    let x = c.in-Unsent in
    subst (λ (ask : PathAsk). IsJobDone w bodies (Call (as_ask ask)) c.args.self.now.half c.unsent.new.self
    (reply_of c.unsent.new.answer) None) (sym x.is)
    (ask_done c.args.self.now c.unsent.new.self (Unsent x.exchange x.index) (reply_of c.unsent.new.answer)
    (λ b. refl) c.unsent.ensures.meets w bodies i)

pub returns-in-Flush-clause-done : goal.returns-in-Flush-clause-done
returns-in-Flush-clause-done c = λ w bodies i.
    let x = c.in-Flush in
    subst (λ (ask : PathAsk). IsJobDone w bodies (Call (as_ask ask)) c.args.self.now.half c.flush.new.self
    (reply_of c.flush.new.answer) None) (sym x.is)
    (ask_done c.args.self.now c.flush.new.self (Flush x.station x.tid) (reply_of c.flush.new.answer)
    (λ b. refl) c.flush.ensures.meets w bodies i)

pub returns-in-Begin-clause-done : goal.returns-in-Begin-clause-done
returns-in-Begin-clause-done c = λ w bodies i.
    let x = c.in-Begin in
    subst (λ (ask : PathAsk). IsJobDone w bodies (Call (as_ask ask)) c.args.self.now.half c.begin.new.self
    (reply_of c.begin.new.answer) None) (sym x.is)
    (ask_done c.args.self.now c.begin.new.self (Begin x.station x.tid x.window) (reply_of c.begin.new.answer)
    (λ b. refl) c.begin.ensures.meets w bodies i)

pub returns-in-Cease-clause-done : goal.returns-in-Cease-clause-done
returns-in-Cease-clause-done c = λ w bodies i.
    let x = c.in-Cease in
    subst (λ (ask : PathAsk). IsJobDone w bodies (Call (as_ask ask)) c.args.self.now.half c.cease.new.self
    (reply_of c.cease.new.answer) None) (sym x.is)
    (ask_done c.args.self.now c.cease.new.self (Cease x.station x.tid) (reply_of c.cease.new.answer)
    (λ b. refl) c.cease.ensures.meets w bodies i)

pub returns-in-Some-clause-done : goal.returns-in-Some-clause-done
returns-in-Some-clause-done c = newcomer_job c.args.self.now c.join.new.self (reply_of c.join.new.answer)
    c.args.ask c.in-Some.newcomer (sym c.in-Some.ensures) c.join.ensures.meets

pub returns-in-None-clause-done : goal.returns-in-None-clause-done
returns-in-None-clause-done c =
    let v : EngineValue = record {
      half = c.self.inside.path.half;
      peers = c.self.inside.peers;
      marks = c.self.inside.marks;
    } in
    untold_done v c.args.self.now c.self.view_is (Call (as_ask c.args.ask)) c.call.new.self.half
    (reply_of c.call.new.answer) c.call.result
    (record { meets = c.call.ensures.meets; parcel = c.call.ensures.parcel })
    (ask_untold c.args.ask c.in-None.ensures c.in_default.not-Flush c.in_default.not-Begin
    c.in_default.not-Cease) (ask_may c.args.ask c.in_default.not-Unsent)

pub returns-in-None-clause-path_kept : goal.returns-in-None-clause-path_kept
returns-in-None-clause-path_kept c = λ is.
    ap (λ (p : PathValue). p.half) (c.call.ensures.refused is) ∙ ap (λ (u : EngineValue). u.half)
    c.self.view_is
