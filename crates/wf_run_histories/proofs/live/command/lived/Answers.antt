-- Proves how the command ends. By cases of the result: a record whose history is written, or out of memory.
use Rattle.std.proofs.Common.{[], refl, sym}
use Rattle.wf_io.specs.declared.status.Status.TheVariants.{NoMemory}
use Rattle.wf_io.proofs.FrontLaws.{append_known-nil}
use Rattle.wf_trace.proofs.CommandEndings.{writes_quiet}
use Rattle.wf_run_histories.proofs.live.command.lived.Goals as goal

pub tell-requires-clause-live : goal.tell-requires-clause-live
tell-requires-clause-live g c = (
  c.args.seed,
  c.args.senders,
  c.args.frames,
  c.requires.senders.1,
  c.in-Ok.ensures.live,
)

pub returns-in-Ok : goal.returns-in-Ok
returns-in-Ok g c = record {
  ends = c.tell.ensures.ends c.args.seed c.args.senders c.args.frames c.in-Ok.ensures.live;
}

pub returns-in-Err : goal.returns-in-Err
returns-in-Err g c = record {
  ends = writes_quiet _ _ _ _ _ NoMemory tt [] (sym (append_known-nil _)) refl refl;
}
