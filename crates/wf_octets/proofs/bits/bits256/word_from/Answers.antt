-- The 64 bits are the high bits of one word and the low bits of the next.
use Rattle.std.proofs.Common.{◌/◌, ◌%◌, ◌*◌, ◌^◌, ◌-◌, ◌∙◌, ap, arith, bit_or, get_or}
use Rattle.std.specs.Int.{bit_at}
use Rattle.wf_octets.proofs.Words.{bit_at-pair}
use Rattle.wf_octets.proofs.bits.bits256.word_from.Goals as goal

pub returns-in_default : goal.returns-in_default
returns-in_default c i below =
    ap (λ w. bit_at (bit_or (w / 2 ^ (c.args.from % 64))
    (c.word_or_zero-in_default.result * 2 ^ (64 - c.args.from % 64) % 2 ^ 64)) i) c.word_or_zero.ensures
    ∙ ap (λ w. bit_at (bit_or (get_or c.args.words.now (c.args.from / 64) 0 / 2 ^ (c.args.from % 64))
    (w * 2 ^ (64 - c.args.from % 64) % 2 ^ 64)) i) c.word_or_zero-in_default.ensures
    ∙ bit_at-pair c.args.words.now c.args.from i c.fits-words (omega arith) below
