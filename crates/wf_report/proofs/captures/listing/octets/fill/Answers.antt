-- Proves that the octets in the buffer are those that were read, one read per step.
use Rattle.std.proofs.Common.{◌∙◌, ap, sym, length, ◌-◌, take}
use Rattle.std.specs.Io.KnownBytes.{prepend_known}
use Rattle.wf_report.proofs.TakenOctets.{taken_more, put_long, put_more}
use Rattle.wf_report.proofs.captures.listing.octets.fill.Goals as goal

pub loop-done-preserved : goal.loop-done-preserved
loop-done-preserved g c =
    let at = c.loop-done.done in
    let n = c.in_ok-count.count in
    let xs = c.loop-done.buffer in
    let ys = c.read.new.buffer in
    record {
      few = put_long at n (length xs - at) xs ys c.loop-done.invariant.few c.in_ok-count.ensures.count;
      taken = taken_more (take at xs) (take n ys) _ _ _ c.loop-done.invariant.taken
          c.in_ok-count.ensures.octets
          ∙ ap (λ l. prepend_known l (g.S.Source.left c.read.new.self))
          (sym (put_more at n (length xs - at) xs ys c.loop-done.invariant.few
          c.in_ok-count.ensures.count));
      quiet = c.in_ok-count.ensures.cause.quiet ∙ c.loop-done.invariant.quiet;
    }
