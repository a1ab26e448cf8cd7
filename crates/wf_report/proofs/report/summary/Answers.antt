-- Proves that the three parts are the summary, or that a prefix of it was written. By cases of which write
-- failed.
use Rattle.std.proofs.Common.{◌++◌, length}
use Rattle.wf_def_world.specs.World.{World}
use Rattle.wf_def_world.specs.Run.{world_of}
use Rattle.wf_report.specs.Parts.{counts_of_summary, shares_of, lines_of_bsses}
use Rattle.wf_io.proofs.FrontLaws.{front_first, front_next, two_written, three_written}
use Rattle.wf_report.proofs.Answered.{on_ok}
use Rattle.wf_report.proofs.report.summary.Goals as goal

pub returns-in_err-write_line-clause-front : goal.returns-in_err-write_line-clause-front
returns-in_err-write_line-clause-front g c =
    let w : World = world_of c.args.cell.now.past in
    let calls = length c.args.cell.now.past.history in
    let front = rw (c.push_counts.ensures) at c.write_line.ensures.front in
    front_first _ _ (counts_of_summary w calls ++ shares_of w) (lines_of_bsses w)
    (front_first _ _ (counts_of_summary w calls) (shares_of w) front)

pub returns-in_err-write_shares-clause-front : goal.returns-in_err-write_shares-clause-front
returns-in_err-write_shares-clause-front g c =
    let w : World = world_of c.args.cell.now.past in
    let calls = length c.args.cell.now.past.history in
    let wrote = rw (c.push_counts.ensures) at c.in_ok-write_line.ensures.written in
    front_first _ _ (counts_of_summary w calls ++ shares_of w) (lines_of_bsses w)
    (front_next _ _ _ (counts_of_summary w calls) (shares_of w) wrote c.write_shares.ensures.front)

pub returns-clause-written : goal.returns-clause-written
returns-clause-written g c =
    let w : World = world_of c.args.cell.now.past in
    let calls = length c.args.cell.now.past.history in
    let wrote = rw (c.push_counts.ensures) at c.in_ok-write_line.ensures.written in
    on_ok c.write_bsses.result
    (three_written _ _ _ _ (counts_of_summary w calls) (shares_of w) (lines_of_bsses w) wrote
    c.in_ok-write_shares.ensures.written)
    c.write_bsses.ensures.written

pub returns-clause-front : goal.returns-clause-front
returns-clause-front g c =
    let w : World = world_of c.args.cell.now.past in
    let calls = length c.args.cell.now.past.history in
    let wrote = rw (c.push_counts.ensures) at c.in_ok-write_line.ensures.written in
    front_next _ _ _ (counts_of_summary w calls ++ shares_of w) (lines_of_bsses w)
    (two_written _ _ _ (counts_of_summary w calls) (shares_of w) wrote c.in_ok-write_shares.ensures.written)
    c.write_bsses.ensures.front
