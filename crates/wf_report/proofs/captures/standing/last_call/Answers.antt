-- Proves that the last entry has the call. By cases of whether there is one.
use Rattle.std.proofs.Common.{◌≡◌, ◌∙◌, ap}
use Rattle.std.specs.Prelude.{Some, None, option_map}
use Rattle.wf_def_world.specs.Run.{Entry, by}
use Rattle.wf_report.proofs.Cells.{last_entry}
use Rattle.wf_report.proofs.captures.standing.last_call.Goals as goal

pub returns-in-Some : goal.returns-in-Some
returns-in-Some c = λ past caller note is.
    ap (option_map (λ (e : Entry). e.1))
    (c.in-Some.ensures ∙ last_entry past c.args.cell.now.past (by caller note) is)

pub returns-in-None : goal.returns-in-None
returns-in-None c = λ past caller note is.
    absurd (let bad : None ≡ Some (by caller note) =
    c.in-None.ensures ∙ last_entry past c.args.cell.now.past (by caller note) is in cc)
