-- Proves that the settings are valid and that a new cell has only frames of a trace.
use Rattle.wf_frame.proofs.Ranges.{checked}
use Rattle.wf_report.proofs.Cells.{new_sampled}
use Rattle.wf_run_replay.proofs.stage.cell_for.Goals as goal

pub of-requires : goal.of-requires
of-requires c = (checked c.args.config).1 c.requires

pub returns-in-Ok-clause-samples : goal.returns-in-Ok-clause-samples
returns-in-Ok-clause-samples c = new_sampled _ c.args.config c.in-Ok.ensures.past c.in-Ok.ensures.stands
