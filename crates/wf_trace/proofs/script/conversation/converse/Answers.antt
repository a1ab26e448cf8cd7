-- Proves how `converse` ends for each way out of its loop, by Conversing and CommandEndings.
use Rattle.std.proofs.Common.{◌∙◌, refl, arith}
use Rattle.wf_trace.proofs.CommandEndings.{ends_quiet, ends_unread, ends_unwritten}
use Rattle.wf_io.specs.declared.status.Status.TheVariants.{Done, BadTrace, NoMemory}
use Rattle.wf_trace.specs.declared.script.ending.Ending.TheVariants.{Finish, Bad}
use Rattle.wf_trace.specs.declared.script.reading.Item.TheVariants.{Event, Ended}
use Rattle.wf_trace.proofs.ScriptRoom.{room_most}
use Rattle.wf_trace.proofs.Complete.{answered}
use Rattle.wf_trace.proofs.Conversing.{conversing_none, turned, with_answer, over_at_once, over_read, over_front, over_memory, over_done, over_bad}
use Rattle.wf_trace.proofs.script.conversation.converse.Goals as goal

pub returns-in_default : goal.returns-in_default
returns-in_default g c =
    record {
      ends = ends_quiet _ _ _ _ _ _ _ _ _ _ NoMemory tt (answered g.C.Answers.grammar g.C.Answers.manner _)
          (over_at_once g.C.Answers.grammar g.C.Answers.manner c.args.command.now
          (g.S.Source.left c.args.source.now) (g.K.Sink.held c.args.sink.now)) refl refl;
    }

pub lines-init : goal.lines-init
lines-init g c = record {
  talk = conversing_none g.C.Answers.grammar g.C.Answers.manner c.args.command.now c.in-Ok.cut _ _
      c.in-Ok.ensures.pieces;
  reads = refl;
  writes = refl;
  few = omega (arith, room_most c.in-Ok.cut.cutter);
}

pub returns-in-Err : goal.returns-in-Err
returns-in-Err g c =
    let reads = c.in-Err.ensures.reads in
    record {
      ends = ends_unread _ _ _ _ _ _ _ _ _ _ _ (answered g.C.Answers.grammar g.C.Answers.manner _)
          (over_read _ _ _ _ _ _ _ _ _ _ _ (turned _ _ _ _ _ _ _ _ _ _ _ _ _ reads.0 c.lines.invariant.talk
          reads.1 c.in-Err.ensures.sticky) c.in-Err.ensures.held)
          c.lines.invariant.reads c.in-Err.ensures.cause.risen c.lines.invariant.writes;
    }

pub lines-preserved : goal.lines-preserved
lines-preserved g c =
    let reads = rw (c.in-Ok-Event.field-0-is) at c.in-Ok-Event.ensures.reads in
    let progress = rw (c.in-Ok-Event.field-0-is) at c.in-Ok-Event.ensures.progress in
    record {
      talk = with_answer _ _ _ _ _ _ _ _ _ _ _ _ c.in-Ok-Event.event
          (turned _ _ _ _ _ _ _ _ _ _ _ _ _ reads.0 c.lines.invariant.talk reads.1
          c.in-Ok-Event.ensures.sticky)
          c.in-Ok-answer.ensures.written c.in-Ok-answer.ensures.after;
      reads = c.in-Ok-Event.ensures.cause.quiet ∙ c.lines.invariant.reads;
      writes = c.in-Ok-answer.ensures.quiet (λ is. absurd (cc)) ∙ c.lines.invariant.writes;
      few = omega (arith, c.lines.invariant.few, progress);
    }

pub returns-in-Err-Sink : goal.returns-in-Err-Sink
returns-in-Err-Sink g c =
    let sticky = c.in-Ok-Event.ensures.sticky in
    let reads = rw (c.in-Ok-Event.field-0-is) at c.in-Ok-Event.ensures.reads in
    let risen = rw (c.in-Err-Sink.field-0-is) at c.in-Err-Sink.ensures.cause in
    record {
      ends = ends_unwritten _ _ _ _ _ _ _ _ _ _ _ (answered g.C.Answers.grammar g.C.Answers.manner _)
          (over_front _ _ _ _ _ _ _ _ _ _ _ (Event c.in-Ok-Event.event)
          (turned _ _ _ _ _ _ _ _ _ _ _ _ _ reads.0 c.lines.invariant.talk reads.1 sticky)
          c.in-Err-Sink.ensures.front)
          (c.in-Ok-Event.ensures.cause.quiet ∙ c.lines.invariant.reads) c.lines.invariant.writes (risen refl);
    }

pub returns-in-Err-Memory : goal.returns-in-Err-Memory
returns-in-Err-Memory g c =
    let sticky = c.in-Ok-Event.ensures.sticky in
    let reads = rw (c.in-Ok-Event.field-0-is) at c.in-Ok-Event.ensures.reads in
    let wants = rw (c.in-Err-Memory.field-0-is) at c.in-Err-Memory.ensures.memory in
    let quiet = rw (c.in-Err-Memory.field-0-is) at c.in-Err-Memory.ensures.quiet in
    record {
      ends = ends_quiet _ _ _ _ _ _ _ _ _ _ NoMemory tt (answered g.C.Answers.grammar g.C.Answers.manner _)
          (over_memory _ _ _ _ _ _ _ _ _ _ _ c.in-Ok-Event.event
          (turned _ _ _ _ _ _ _ _ _ _ _ _ _ reads.0 c.lines.invariant.talk reads.1 sticky)
          c.in-Err-Memory.ensures.front (wants refl))
          (c.in-Ok-Event.ensures.cause.quiet ∙ c.lines.invariant.reads)
          (quiet (λ is. absurd (cc)) ∙ c.lines.invariant.writes);
    }

pub returns-in-Ok-close : goal.returns-in-Ok-close
returns-in-Ok-close g c =
    let reads = rw (c.in-Ok-Ended-Finish.field-0-is, c.in-Ok-Ended-Finish.field-0-0-is) at
    c.in-Ok-Ended-Finish.ensures.reads in
    let over = rw (c.in-Ok-Ended-Finish.field-0-is, c.in-Ok-Ended-Finish.field-0-0-is) at
    c.in-Ok-Ended-Finish.ensures.over in
    record {
      ends = ends_quiet _ _ _ _ _ _ _ _ _ _ Done tt (answered g.C.Answers.grammar g.C.Answers.manner _)
          (over_done _ _ _ _ _ _ _ _ _ _ _ (turned _ _ _ _ _ _ _ _ _ _ _ _ _ reads.0 c.lines.invariant.talk
          reads.1 c.in-Ok-Ended-Finish.ensures.sticky) c.in-Ok-close.ensures.written (over refl))
          (c.in-Ok-Ended-Finish.ensures.cause.quiet ∙ c.lines.invariant.reads)
          (c.in-Ok-close.ensures.cause.quiet ∙ c.lines.invariant.writes);
    }

pub returns-in-Err-close : goal.returns-in-Err-close
returns-in-Err-close g c =
    let reads = rw (c.in-Ok-Ended-Finish.field-0-is, c.in-Ok-Ended-Finish.field-0-0-is) at
    c.in-Ok-Ended-Finish.ensures.reads in
    record {
      ends = ends_unwritten _ _ _ _ _ _ _ _ _ _ _ (answered g.C.Answers.grammar g.C.Answers.manner _)
          (over_front _ _ _ _ _ _ _ _ _ _ _ (Ended Finish)
          (turned _ _ _ _ _ _ _ _ _ _ _ _ _ reads.0 c.lines.invariant.talk reads.1
          c.in-Ok-Ended-Finish.ensures.sticky) c.in-Err-close.ensures.front)
          (c.in-Ok-Ended-Finish.ensures.cause.quiet ∙ c.lines.invariant.reads) c.lines.invariant.writes
          c.in-Err-close.ensures.cause.risen;
    }

pub returns-in-Ok-write_fault : goal.returns-in-Ok-write_fault
returns-in-Ok-write_fault g c =
    let reads = rw (c.in-Ok-Ended-Bad.field-0-is, c.in-Ok-Ended-Bad.field-0-0-is) at
    c.in-Ok-Ended-Bad.ensures.reads in
    record {
      ends = ends_quiet _ _ _ _ _ _ _ _ _ _ BadTrace tt (answered g.C.Answers.grammar g.C.Answers.manner _)
          (over_bad _ _ _ _ _ _ _ _ _ _ _ c.in-Ok-Ended-Bad.fault _
          (turned _ _ _ _ _ _ _ _ _ _ _ _ _ reads.0 c.lines.invariant.talk reads.1
          c.in-Ok-Ended-Bad.ensures.sticky) refl c.in-Ok-write_fault.ensures.written)
          (c.in-Ok-Ended-Bad.ensures.cause.quiet ∙ c.lines.invariant.reads)
          (c.in-Ok-write_fault.ensures.cause.quiet ∙ c.lines.invariant.writes);
    }

pub returns-in-Err-write_fault : goal.returns-in-Err-write_fault
returns-in-Err-write_fault g c =
    let reads = rw (c.in-Ok-Ended-Bad.field-0-is, c.in-Ok-Ended-Bad.field-0-0-is) at
    c.in-Ok-Ended-Bad.ensures.reads in
    record {
      ends = ends_unwritten _ _ _ _ _ _ _ _ _ _ _ (answered g.C.Answers.grammar g.C.Answers.manner _)
          (over_front _ _ _ _ _ _ _ _ _ _ _ (Ended (Bad c.in-Ok-Ended-Bad.fault))
          (turned _ _ _ _ _ _ _ _ _ _ _ _ _ reads.0 c.lines.invariant.talk reads.1
          c.in-Ok-Ended-Bad.ensures.sticky) c.in-Err-write_fault.ensures.front)
          (c.in-Ok-Ended-Bad.ensures.cause.quiet ∙ c.lines.invariant.reads) c.lines.invariant.writes
          c.in-Err-write_fault.ensures.cause.risen;
    }
