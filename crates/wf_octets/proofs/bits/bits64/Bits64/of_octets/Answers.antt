-- The word of eight octets represents the same set as the octets.
use Rattle.std.proofs.Common.{rules}
use Rattle.wf_octets.proofs.Words.{set_of-from_le_bytes, set_of_is_offsets}
use Rattle.wf_octets.proofs.bits.bits64.Bits64.of_octets.Goals as goal

pub returns-clause-shown : goal.returns-clause-shown
returns-clause-shown c = set_of-from_le_bytes c.args.octets c.from_le_bytes.result (search rules)
    (search rules) c.from_le_bytes.ensures

pub returns-clause-offsets : goal.returns-clause-offsets
returns-clause-offsets c = set_of_is_offsets 64 c.from_le_bytes.result
