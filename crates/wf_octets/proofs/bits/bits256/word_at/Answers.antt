-- Bit i of the word is bit i mod 8 of octet i / 8.
use Rattle.wf_octets.proofs.Words.{bit_at-eight}
use Rattle.wf_octets.proofs.bits.bits256.word_at.Goals as goal

pub returns : goal.returns
returns c i below = bit_at-eight c.args.octets.now c.args.from c.from_le_bytes.result i c.fits-octets below
    c.from_le_bytes.ensures
