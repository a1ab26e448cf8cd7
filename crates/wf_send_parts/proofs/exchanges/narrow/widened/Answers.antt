-- Proves the contract of `widened`: the added octets are zeros, which have no offsets.
use Rattle.std.proofs.Common.{ap, ◌∙◌}
use Rattle.wf_octets.specs.Offsets.{offsets_in}
use Rattle.wf_send_parts.proofs.Wide.{shown_wide}
use Rattle.wf_send_parts.proofs.exchanges.narrow.widened.Goals as goal

pub returns : goal.returns
returns c = c.of_octets.ensures.shown ∙ shown_wide c.copy_from_slice.new.self 24
    ∙ ap offsets_in c.copy_from_slice.ensures.after ∙ c.to_octets.ensures
