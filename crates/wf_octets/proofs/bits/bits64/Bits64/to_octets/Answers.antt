-- The octets of the word represent the same set as the word.
use Rattle.std.proofs.Common.{ap, ◌∙◌}
use Rattle.wf_octets.specs.Offsets.{offsets_in}
use Rattle.wf_octets.proofs.Words.{set_of-to_le_bytes}
use Rattle.wf_octets.proofs.bits.bits64.Bits64.to_octets.Goals as goal

pub returns : goal.returns
returns c = ap offsets_in c.to_le_bytes.ensures ∙ set_of-to_le_bytes c.self.inside.word ∙ c.self.view_is
