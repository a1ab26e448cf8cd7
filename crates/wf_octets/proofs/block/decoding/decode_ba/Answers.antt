-- The checks imply the layout, and the layout determines the fields.
use Rattle.std.proofs.Common.{false, Ok, arith, rules, ap, subst, sym, ◌∙◌}
use Rattle.wf_octets.specs.Offsets.{offsets_in}
use Rattle.wf_octets.specs.BlockLayout.{HasHead, narrow_fragment, answer, head_of_ba}
use Rattle.wf_octets.proofs.BlockChecked.{checked, head_read, one_head, ba_same}
use Rattle.wf_octets.proofs.block.decoding.decode_ba.Goals as goal

pub returns-clause-read : goal.returns-clause-read
returns-clause-read c =
    let k = checked 28 answer false c.args.octets.now (sym c.in_ok-check.ensures) in
    record {
      size = k.size;
      head = subst (HasHead c.args.octets.now answer narrow_fragment) (sym c.head_at-head.ensures)
          (head_read 28 answer false c.args.octets.now
          (λ i. first_of (omega (arith, c.type_inv.octets i), search rules)) k);
      bitmap = ap offsets_in (sym c.bitmap_at.ensures) ∙ sym c.of_octets-bits.ensures.shown;
    }

pub returns-clause-complete : goal.returns-clause-complete
returns-clause-complete c b is =
    ap (λ read. Ok read)
    (ba_same b c.head_at-head.result c.of_octets-bits.result
    (c.head_at-head.ensures ∙ one_head answer false c.args.octets.now (head_of_ba b)
    (λ i. first_of (omega (arith, c.type_inv.octets i), search rules)) is.head)
    (c.of_octets-bits.ensures.shown ∙ ap offsets_in c.bitmap_at.ensures ∙ is.bitmap))
