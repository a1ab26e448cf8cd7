-- Proves that `carried_id` returns the id of the frame in the transmission.
use Rattle.std.proofs.Common.{ap, ◌∙◌, ℕ, Option}
use Rattle.std.specs.Prelude.{unwrap_or, option_and_then}
use Rattle.wf_path.specs.Transmissions.{transmission_id}
use Rattle.wf_cell.proofs.News.{carries}
use Rattle.wf_cell.proofs.air.carried_id.Goals as goal

pub returns : goal.returns
returns c = λ w bodies x stands known below.
    let found = c.frame_id.ensures w bodies stands
    ∙ ap (option_and_then (λ y. transmission_id y c.args.index)) known in
    carries x c.args.index c.unwrap_or.result (c.unwrap_or.ensures
    ∙ ap (λ (o : Option ℕ). unwrap_or o 0) found) below
