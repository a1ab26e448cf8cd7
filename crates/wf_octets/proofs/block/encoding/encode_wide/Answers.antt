-- The bitmap is written after the head, which stays unchanged.
use Rattle.std.proofs.Common.{arith, ap, subst, ◌∙◌}
use Rattle.wf_octets.specs.Offsets.{offsets_in}
use Rattle.wf_octets.specs.BlockLayout.{HasHead, wide_fragment, answer, head_of_wide}
use Rattle.wf_octets.proofs.BlockChecked.{head_kept, after_head}
use Rattle.wf_octets.proofs.block.encoding.encode_wide.Goals as goal

pub returns-clause-layout : goal.returns-clause-layout
returns-clause-layout c =
    let parts = after_head c.put_head.new.out c.put.new.out c.to_octets.result c.put.result
    c.put.ensures.place c.put.ensures.up_to_it (omega arith) (omega arith) in
    record {
      size = omega arith;
      head = head_kept c.put_head.new.out c.put.new.out answer wide_fragment (head_of_wide c.args.ba.now)
          parts.0
          (subst (HasHead c.put_head.new.out answer wide_fragment) c.head.ensures c.put_head.ensures.head);
      bitmap = ap offsets_in parts.1 ∙ c.to_octets.ensures;
    }
