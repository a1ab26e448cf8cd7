-- A write does not change the octets after it.
use Rattle.std.proofs.Common.{arith, rules}
use Rattle.std.proofs.lemmas.Slice.{drop-put_mid, overwrites}
use Rattle.wf_octets.proofs.fields.put.Goals as goal

pub returns-clause-past_it : goal.returns-clause-past_it
returns-clause-past_it c k past = drop-put_mid c.args.place _ c.args.out.now c.copy_from_slice.new.self k
    (omega arith) (omega arith) (search (rules, overwrites))
