-- Proves the contract of `soaked`. By cases of the result: out of memory, a complete summary, or a prefix.
use Rattle.std.proofs.Common.{◌≡◌, ◌∙◌, sym, [], length, refl}
use Rattle.wf_io.specs.declared.status.Status.TheVariants.{Done, NoMemory}
use Rattle.wf_trace.proofs.CommandEndings.{writes_quiet, writes_failed}
use Rattle.wf_trace_laws.proofs.Octets.{append_known-nil}
use Rattle.wf_def_world.specs.Run.{Past, world_of}
use Rattle.wf_def_world.specs.Text.{summary}
use Rattle.wf_run.specs.Outcome.{soak_text}
use Rattle.wf_run.proofs.SoakText.{is_soak_text}
use Rattle.wf_run.proofs.commands.soaked.Goals as goal

pub returns-in_default : goal.returns-in_default
returns-in_default g c = record {
  ends = writes_quiet _ _ _ _ _ NoMemory tt [] (append_known-nil _)
      (soak_text c.args.seed c.args.calls c.args.kind, refl) refl;
}

pub returns-in-Ok-summary : goal.returns-in-Ok-summary
returns-in-Ok-summary g c =
    let past : Past = c.in-Ok.cell.past in
    let is : summary (world_of past) (length past.history) ≡ soak_text c.args.seed c.args.calls c.args.kind =
    is_soak_text past c.args.seed c.args.calls c.args.kind c.in-Ok.ensures.made c.in-Ok.ensures.counted in
    record {
      ends = writes_quiet _ _ _ _ _ Done tt (summary (world_of past) (length past.history))
          c.in-Ok-summary.ensures.written (is, c.in-Ok.ensures.counted) c.in-Ok-summary.ensures.cause.quiet;
    }

pub returns : goal.returns
returns g c =
    let past : Past = c.in-Ok.cell.past in
    let is : summary (world_of past) (length past.history) ≡ soak_text c.args.seed c.args.calls c.args.kind =
    is_soak_text past c.args.seed c.args.calls c.args.kind c.in-Ok.ensures.made c.in-Ok.ensures.counted in
    let front = c.in-Err.ensures.front in
    record {
      ends = writes_failed _ _ _ _ _ front.written front.holds (front.rest, sym is ∙ front.is)
          c.in-Err.ensures.cause.risen;
    }
