-- Proves the effect of a call of the path on an engine. By cases: a call without a frame, a Pull, or a call
-- that changes neither a receive half nor a mark.
use Rattle.std.proofs.Common.{ap, ◌∙◌, sym, subst, None, refl}
use Rattle.wf_frame.specs.Answers.{reply_of}
use Rattle.wf_frame.specs.declared.notes.Ask.TheVariants.{Pull}
use Rattle.wf_path.specs.declared.asks.PathJob.{PathJob}
use Rattle.wf_path.specs.Jobs.{job_of}
use Rattle.wf_path.specs.Paths.{PathValue}
use Rattle.wf_cell.specs.Engines.{EngineValue, IsJobDone}
use Rattle.wf_cell.proofs.Calls.{ask_done, untold_done, job_untold, job_may}
use Rattle.wf_cell.proofs.engine.Engine.path_call.Goals as goal

pub returns-in-Call-clause-done : goal.returns-in-Call-clause-done
returns-in-Call-clause-done c = λ w bodies i.
    subst (λ (job : PathJob). IsJobDone w bodies (job_of job) c.args.self.now.half c.path_ask.new.self
    (reply_of c.path_ask.new.answer) c.path_ask.result) (sym c.in-Call.is)
    (c.path_ask.ensures.done w bodies i)

pub returns-in-Pull-clause-done : goal.returns-in-Pull-clause-done
returns-in-Pull-clause-done c = λ w bodies i.
    let x = c.in-Pull in
    subst (λ (job : PathJob). IsJobDone w bodies (job_of job) c.args.self.now.half c.pull.new.self
    (reply_of c.pull.new.answer) None) (sym x.is)
    (ask_done c.args.self.now c.pull.new.self (Pull x.class x.limits) (reply_of c.pull.new.answer)
    (λ b. refl) c.pull.ensures.meets w bodies i)

pub returns-in_default-clause-done : goal.returns-in_default-clause-done
returns-in_default-clause-done c =
    let v : EngineValue = record {
      half = c.self.inside.path.half;
      peers = c.self.inside.peers;
      marks = c.self.inside.marks;
    } in
    untold_done v c.args.self.now c.self.view_is (job_of c.args.job) c.call.new.self.half
    (reply_of c.call.new.answer) c.call.result
    (record { meets = c.call.ensures.meets; parcel = c.call.ensures.parcel })
    (job_untold c.args.job c.in_default.not-Call c.in_default.not-Pull)
    (job_may c.args.job c.in_default.not-Call)

pub returns-in_default-clause-path_kept : goal.returns-in_default-clause-path_kept
returns-in_default-clause-path_kept c = λ is.
    ap (λ (p : PathValue). p.half) (c.call.ensures.refused is) ∙ ap (λ (u : EngineValue). u.half)
    c.self.view_is
