-- The frame is the head.
use Rattle.std.proofs.Common.{arith, sym, ◌∙◌, take_all}
use Rattle.wf_octets.proofs.block.encoding.encode_bar.Goals as goal

pub returns-clause-octets : goal.returns-clause-octets
returns-clause-octets c = sym (take_all 20 c.put_head.new.out (omega arith)) ∙ c.put_head.ensures.octets
