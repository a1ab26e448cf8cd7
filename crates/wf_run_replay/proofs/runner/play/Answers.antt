-- Proves the contract of the loop. By cases of how it ends: no memory, a failed write, the end of the trace,
-- a fault, or a failed read.
use Rattle.std.proofs.Common.{◌∙◌, refl}
use Rattle.std.specs.Prelude.{option_map}
use Rattle.wf_trace.specs.declared.reader.Item.TheVariants.{Entry, Finish, Bad}
use Rattle.wf_io.specs.declared.status.Status.TheVariants.{Done, BadTrace, ReadFault, WriteFault, NoMemory}
use Rattle.wf_trace.proofs.CommandEndings.{ends_quiet, ends_unread, ends_unwritten}
use Rattle.wf_trace_laws.specs.Running.{progress_of}
use Rattle.wf_trace_laws.proofs.Ranges.{line_config, line_sized}
use Rattle.wf_trace_laws.proofs.Tellings.{turned, running_none, none_waits, with_head, with_entry, ended_at_once, ended_ahead, ended_no_memory, ended_no_memory_at, ended_read, ended_write, ended_done, ended_bad}
use Rattle.wf_run_replay.proofs.Cells.{progress_at, progress_head, progress_on, at_head, at_entry, room_at}
use Rattle.wf_run_replay.proofs.Tellings.{said, judged}
use Rattle.wf_run_replay.proofs.runner.play.Goals as goal

pub returns-in_default : goal.returns-in_default
returns-in_default g c =
    let left = g.S.Source.left c.args.source.now in
    let held = g.K.Sink.held c.args.sink.now in
    record {
      ends = ends_quiet _ _ _ _ _ _ _ _ _ _ NoMemory tt (judged g.T.Tells.telling)
          (said g.T.Tells.telling NoMemory _ _ _ _
          (ended_at_once g.T.Tells.telling left held))
          refl refl;
    }

pub returns-in-Err : goal.returns-in-Err
returns-in-Err g c =
    record {
      ends = ends_unwritten _ _ _ _ _ _ _ _ _ _ _ (judged g.T.Tells.telling)
          (said g.T.Tells.telling WriteFault _ _ _ _
          (ended_ahead g.T.Tells.telling _ _ _ c.in-Err.ensures.front))
          refl refl c.in-Err.ensures.cause.risen;
    }

pub items-init : goal.items-init
items-init g c = (
  rw (c.in-Ok-tell_front.ensures.none) (running_none g.T.Tells.telling _ _ _ _ c.in-Ok.ensures.reading
      c.in-Ok-tell_front.ensures.written),
  c.in-Ok.ensures.fresh.0,
  rw (c.in-Ok.ensures.fresh.1) tt,
  refl,
  c.in-Ok-tell_front.ensures.cause.quiet,
  (λ reads. c.in-Ok-tell_front.ensures.none),
  (λ none. c.in-Ok-tell_front.ensures.none),
)

pub open-requires : goal.open-requires
open-requires g c =
    let placed = rw (c.in-Ok-Head.field-0-is) at (c.in-Ok-Head.ensures.placed c.items.invariant.1) in
    line_config _ _ placed.0

pub make-requires-clause-room : goal.make-requires-clause-room
make-requires-clause-room g c =
    let placed = rw (c.in-Ok-Entry.field-0-is) at (c.in-Ok-Entry.ensures.placed c.items.invariant.1) in
    room_at _ _ c.in-Ok-Entry.caller c.in-Ok-Entry.note c.items.invariant.2 placed.1

pub make-requires-clause-some : goal.make-requires-clause-some
make-requires-clause-some g c =
    let placed = rw (c.in-Ok-Entry.field-0-is) at (c.in-Ok-Entry.ensures.placed c.items.invariant.1) in
    (line_sized _ _ _ placed.0).0

pub make-requires-clause-most : goal.make-requires-clause-most
make-requires-clause-most g c =
    let placed = rw (c.in-Ok-Entry.field-0-is) at (c.in-Ok-Entry.ensures.placed c.items.invariant.1) in
    (line_sized _ _ _ placed.0).1

pub returns-in-Err-next : goal.returns-in-Err-next
returns-in-Err-next g c =
    let reads = c.in-Err-next.ensures.reads in
    record {
      ends = ends_unread _ _ _ _ _ _ _ _ _ _ _ (judged g.T.Tells.telling)
          (said g.T.Tells.telling ReadFault _ _ _ _ (ended_read _ _ _ _ _ _ _ _ _
          (turned _ _ _ _ _ _ _ _ _ _ _ reads.0 c.items.invariant.0 reads.1 c.in-Err-next.ensures.sticky)
          (none_waits _ _ _ c.items.invariant.5 c.in-Err-next.ensures.quiet) c.in-Err-next.ensures.held))
          c.items.invariant.3 c.in-Err-next.ensures.cause.risen c.items.invariant.4;
    }

pub items-preserved-in-Ok-open : goal.items-preserved-in-Ok-open
items-preserved-in-Ok-open g c =
    let reads = rw (c.in-Ok-Head.field-0-is) at c.in-Ok-Head.ensures.reads in
    let goes = rw (c.in-Ok-Head.field-0-is) at c.in-Ok-Head.ensures.goes in
    let placed = rw (c.in-Ok-Head.field-0-is) at (c.in-Ok-Head.ensures.placed c.items.invariant.1) in
    let none = progress_at _ _ c.items.invariant.2 goes.0 in (
      rw (progress_head _ _ c.in-Ok-open.ensures) (with_head _ _ _ _ _ _ _ _ c.in-Ok-Head.config
          (turned _ _ _ _ _ _ _ _ _ _ _ reads.0 c.items.invariant.0 reads.1 c.in-Ok-Head.ensures.sticky)
          none),
      goes.2,
      at_head _ _ _ c.in-Ok-open.ensures placed.1,
      c.in-Ok-Head.ensures.cause.quiet ∙ c.items.invariant.3,
      c.items.invariant.4,
      (λ reads. c.items.invariant.6 goes.0),
      (λ absent. c.items.invariant.6 goes.0),
    )

pub returns-in-Err-open : goal.returns-in-Err-open
returns-in-Err-open g c =
    let reads = c.in-Ok-Head.ensures.reads in
    record {
      ends = ends_quiet _ _ _ _ _ _ _ _ _ _ NoMemory tt (judged g.T.Tells.telling)
          (said g.T.Tells.telling NoMemory _ _ _ _ (ended_no_memory _ _ _ _ _ _ _ _ _
          (turned _ _ _ _ _ _ _ _ _ _ _ reads.0 c.items.invariant.0 reads.1 c.in-Ok-Head.ensures.sticky)))
          (c.in-Ok-Head.ensures.cause.quiet ∙ c.items.invariant.3) c.items.invariant.4;
    }

pub items-preserved : goal.items-preserved
items-preserved g c =
    let reads = rw (c.in-Ok-Entry.field-0-is) at c.in-Ok-Entry.ensures.reads in
    let goes = rw (c.in-Ok-Entry.field-0-is) at c.in-Ok-Entry.ensures.goes in
    let placed = rw (c.in-Ok-Entry.field-0-is) at (c.in-Ok-Entry.ensures.placed c.items.invariant.1) in
    let room = room_at _ _ c.in-Ok-Entry.caller c.in-Ok-Entry.note c.items.invariant.2 placed.1 in (
      rw (progress_on _ _ _ _ room c.in-Ok-make.ensures.past)
          (with_entry _ _ _ _ _ _ _ _ _ _ c.in-Ok-Entry.caller c.in-Ok-Entry.note _
          (turned _ _ _ _ _ _ _ _ _ _ _ reads.0 c.items.invariant.0 reads.1
          c.in-Ok-Entry.ensures.sticky)
          refl c.in-Ok-make.ensures.leaves),
      goes.2,
      at_entry _ _ _ _ _ _ c.items.invariant.2 room c.in-Ok-make.ensures.past placed.2,
      c.in-Ok-Entry.ensures.cause.quiet ∙ c.items.invariant.3,
      c.in-Ok-make.ensures.quiet (λ e. cc) ∙ c.items.invariant.4,
      (λ reads. c.in-Ok-make.ensures.none (c.will_read-due.ensures ∙ reads)),
      (λ absent. absurd (let here = rw absent at goes.1 in cc)),
    )

pub returns-in-Err-Sink : goal.returns-in-Err-Sink
returns-in-Err-Sink g c =
    let reads = rw (c.in-Ok-Entry.field-0-is) at c.in-Ok-Entry.ensures.reads in
    let risen = rw (c.in-Err-Sink.field-0-is) at c.in-Err-Sink.ensures.cause in
    record {
      ends = ends_unwritten _ _ _ _ _ _ _ _ _ _ _ (judged g.T.Tells.telling)
          (said g.T.Tells.telling WriteFault _ _ _ _ (ended_write _ _ _ _ _ _ _ _ _
          (Entry c.in-Ok-Entry.caller c.in-Ok-Entry.note) _
          (turned _ _ _ _ _ _ _ _ _ _ _ reads.0 c.items.invariant.0 reads.1 c.in-Ok-Entry.ensures.sticky)
          refl c.in-Err-Sink.ensures.front))
          (c.in-Ok-Entry.ensures.cause.quiet ∙ c.items.invariant.3) c.items.invariant.4 (risen refl);
    }

pub returns-in-Err-Memory : goal.returns-in-Err-Memory
returns-in-Err-Memory g c =
    let reads = rw (c.in-Ok-Entry.field-0-is) at c.in-Ok-Entry.ensures.reads in
    let quiet = rw (c.in-Err-Memory.field-0-is) at c.in-Err-Memory.ensures.quiet in
    record {
      ends = ends_quiet _ _ _ _ _ _ _ _ _ _ NoMemory tt (judged g.T.Tells.telling)
          (said g.T.Tells.telling NoMemory _ _ _ _ (ended_no_memory_at _ _ _ _ _ _ _ _ _
          (Entry c.in-Ok-Entry.caller c.in-Ok-Entry.note) _
          (turned _ _ _ _ _ _ _ _ _ _ _ reads.0 c.items.invariant.0 reads.1 c.in-Ok-Entry.ensures.sticky)
          refl c.in-Err-Memory.ensures.front))
          (c.in-Ok-Entry.ensures.cause.quiet ∙ c.items.invariant.3)
          (quiet (λ is. absurd (cc)) ∙ c.items.invariant.4);
    }

pub returns-in-Ok-tell_end : goal.returns-in-Ok-tell_end
returns-in-Ok-tell_end g c =
    let reads = rw (c.in-Ok-Finish.field-0-is) at c.in-Ok-Finish.ensures.reads in
    let over = rw (c.in-Ok-Finish.field-0-is) at c.in-Ok-Finish.ensures.over in
    record {
      ends = ends_quiet _ _ _ _ _ _ _ _ _ _ Done tt (judged g.T.Tells.telling)
          (said g.T.Tells.telling Done _ _ _ _ (ended_done _ _ _ _ _ _ _ _ _ _
          (turned _ _ _ _ _ _ _ _ _ _ _ reads.0 c.items.invariant.0 reads.1 c.in-Ok-Finish.ensures.sticky)
          refl c.in-Ok-tell_end.ensures.written (over c.items.invariant.1 refl)))
          (c.in-Ok-Finish.ensures.cause.quiet ∙ c.items.invariant.3)
          (c.in-Ok-tell_end.ensures.cause.quiet ∙ c.items.invariant.4);
    }

pub returns-in-Err-tell_end : goal.returns-in-Err-tell_end
returns-in-Err-tell_end g c =
    let reads = rw (c.in-Ok-Finish.field-0-is) at c.in-Ok-Finish.ensures.reads in
    record {
      ends = ends_unwritten _ _ _ _ _ _ _ _ _ _ _ (judged g.T.Tells.telling)
          (said g.T.Tells.telling WriteFault _ _ _ _ (ended_write _ _ _ _ _ _ _ _ _ Finish _
          (turned _ _ _ _ _ _ _ _ _ _ _ reads.0 c.items.invariant.0 reads.1 c.in-Ok-Finish.ensures.sticky)
          refl c.in-Err-tell_end.ensures.front))
          (c.in-Ok-Finish.ensures.cause.quiet ∙ c.items.invariant.3) c.items.invariant.4
          c.in-Err-tell_end.ensures.cause.risen;
    }

pub returns-in-Ok-tell_fault : goal.returns-in-Ok-tell_fault
returns-in-Ok-tell_fault g c =
    let at = progress_of (option_map g.M.Plays.past c.items.stage) in
    let reads = rw (c.in-Ok-Bad.field-0-is) at c.in-Ok-Bad.ensures.reads in
    record {
      ends = ends_quiet _ _ _ _ _ _ _ _ _ _ BadTrace tt (judged g.T.Tells.telling)
          (said g.T.Tells.telling BadTrace _ _ _ _ (ended_bad _ _ _ _ _ _ _ _ _ c.in-Ok-Bad.fault _
          (turned _ _ _ _ _ _ _ _ _ _ _ reads.0 c.items.invariant.0 reads.1 c.in-Ok-Bad.ensures.sticky)
          refl (c.in-Ok-tell_fault.ensures.written at.world at.calls)))
          (c.in-Ok-Bad.ensures.cause.quiet ∙ c.items.invariant.3)
          (c.in-Ok-tell_fault.ensures.cause.quiet ∙ c.items.invariant.4);
    }

pub returns-in-Err-tell_fault : goal.returns-in-Err-tell_fault
returns-in-Err-tell_fault g c =
    let at = progress_of (option_map g.M.Plays.past c.items.stage) in
    let reads = rw (c.in-Ok-Bad.field-0-is) at c.in-Ok-Bad.ensures.reads in
    record {
      ends = ends_unwritten _ _ _ _ _ _ _ _ _ _ _ (judged g.T.Tells.telling)
          (said g.T.Tells.telling WriteFault _ _ _ _ (ended_write _ _ _ _ _ _ _ _ _ (Bad c.in-Ok-Bad.fault) _
          (turned _ _ _ _ _ _ _ _ _ _ _ reads.0 c.items.invariant.0 reads.1 c.in-Ok-Bad.ensures.sticky)
          refl (c.in-Err-tell_fault.ensures.front at.world at.calls)))
          (c.in-Ok-Bad.ensures.cause.quiet ∙ c.items.invariant.3) c.items.invariant.4
          c.in-Err-tell_fault.ensures.cause.risen;
    }
