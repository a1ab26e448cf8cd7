-- Proves what `Path::done_each` promises: the end is refused as checked, or it is the marks and then the end
-- by the BlockAck that shows the acknowledged numbers.
use Rattle.std.proofs.Common.{sym, ◌^◌}
use Rattle.wf_path.proofs.Ending.{counts_stay, few_outcomes, is_ended_each, is_refused_each}
use Rattle.wf_path.proofs.path.Path.done_each.Goals as goal

pub mark_each-requires : goal.mark_each-requires
mark_each-requires c = few_outcomes c.args.self.now.half c.in-Ok.ensures.path c.args.exchange
    c.args.outcomes.now c.args.air (sym c.in-Ok.ensures.refused)

pub done_bits-requires : goal.done_bits-requires
done_bits-requires c = record {
  small = counts_stay c.args.self.now.half c.mark_each.new.self.half c.args.exchange c.args.outcomes.now
      c.args.air (sym c.in-Ok.ensures.refused) c.mark_each.ensures.marked c.in-Ok.ensures.path (2 ^ 62)
      c.requires.small;
}

pub returns-in-Ok : goal.returns-in-Ok
returns-in-Ok c = is_ended_each c.args.self.now c.mark_each.new.self c.done_bits.new.self c.args.exchange
    c.args.outcomes.now c.args.air c.in-Ok.heard c.done_bits.result c.in-Ok.ensures.path
    (sym c.in-Ok.ensures.refused) c.in-Ok.ensures.heard
    c.mark_each.ensures.marked c.mark_each.ensures.addresses c.done_bits.ensures

pub returns-in-Err : goal.returns-in-Err
returns-in-Err c = is_refused_each c.args.self.now c.args.exchange c.args.outcomes.now c.args.air
    c.in-Err.reason c.in-Err.ensures.path (sym c.in-Err.ensures.refused)
