-- Each write appends one more piece of the octets.
use Rattle.std.proofs.Common.{◌∙◌, arith}
use Rattle.std.proofs.lemmas.List.{take_rest, length-drop}
use Rattle.wf_io.proofs.Pieces.{append_known-more}
use Rattle.wf_io.proofs.sink.write_all.Goals as goal

pub loop-done-preserved : goal.loop-done-preserved
loop-done-preserved g c =
    let count = rw (take_rest c.args.octets.now c.loop-done.done) at c.in_ok-done.ensures.count in (
      omega (arith, count, length-drop c.loop-done.done c.args.octets.now),
      rw (c.in_ok-done.ensures.octets, c.loop-done.invariant.1, take_rest c.args.octets.now c.loop-done.done)
          (append_known-more (g.K.Sink.held c.args.sink.now) c.args.octets.now c.loop-done.done
          c.in_ok-done.field-0),
      c.in_ok-done.ensures.cause.quiet ∙ c.loop-done.invariant.2,
    )
