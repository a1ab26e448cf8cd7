-- The buffer stores a frame exactly if the reordering does.
use Rattle.std.proofs.Common.{◌∙◌, ap, sym, is_some}
use Rattle.wf_uplink.proofs.Standing.{empty_of_buffer, same_not}
use Rattle.wf_uplink.specs.Reordering.{is_none_stored}
use Rattle.wf_uplink.proofs.sequencer.Sequencer.is_empty.Goals as goal

pub returns : goal.returns
returns c =
    same_not c.is_none.result (is_none_stored c.args.self.now.stored)
    (sym c.is_none.ensures ∙ ap is_some c.first_stored.ensures
    ∙ empty_of_buffer c.self.inside.start c.self.inside.window c.self.inside.since c.self.inside.buffer
    c.args.self.now c.self.view_is)
