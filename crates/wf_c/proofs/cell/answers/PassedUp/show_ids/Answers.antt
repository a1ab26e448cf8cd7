-- Proves that the loop shows each id, one entry at a time.
use Rattle.std.proofs.Common.{◌<◌, arith}
use Rattle.std.proofs.lemmas.Option.{slice_get_within}
use Rattle.wf_c.proofs.Ids.{one_more_id}
use Rattle.wf_c.proofs.cell.answers.PassedUp.show_ids.Goals as goal

pub loop-i-preserved : goal.loop-i-preserved
loop-i-preserved c = one_more_id c.loop-i.self.ids c.show_id.new.self.ids c.args.ids.now c.loop-i.i
    c.at.result c.loop-i.invariant c.at.ensures c.show_id.ensures.put c.show_id.ensures.others

pub returns : goal.returns
returns c = record {
  count = c.len-count.ensures.count;
  each = λ k id is.
      let low : k < c.loop-i.i = omega (
        arith,
        c.loop-i-test.false,
        slice_get_within c.args.ids.now k id is,
        c.len-count.ensures.count,
      ) in
      c.loop-i.invariant k id low is;
}
