-- Proves that the line is written item by item. By cases of which write failed, if one did.
use Rattle.std.proofs.Common.{◌+◌, ◌∙◌, ap, sym, subst, arith}
use Rattle.std.specs.Io.KnownBytes.{append_known}
use Rattle.wf_io.specs.Fronts.{HoldsFront}
use Rattle.wf_run_scripts.specs.UplinkPieces.{IsBegun}
use Rattle.wf_run_scripts.proofs.UplinkWriting.{text_to, item_begun, item_front, end_written, end_front, on_ok, on_err}
use Rattle.wf_run_scripts.proofs.uplink.told.write_told.Goals as goal

pub returns-in_err-spill-clause-front : goal.returns-in_err-spill-clause-front
returns-in_err-spill-clause-front g c =
    on_err _ _
    (item_front c.args.has_air c.args.up.now c.args.ending c.loop-i.i c.at.result _ _ _ c.loop-i.line
    c.at.ensures c.loop-i.invariant.0
    (subst (HoldsFront _ _) c.push_item.ensures.text c.in_err-spill.ensures.front))

pub loop-i-preserved : goal.loop-i-preserved
loop-i-preserved g c =
    let held = g.K.Sink.held c.args.sink.now in
    let now = g.K.Sink.held c.loop-i.sink in
    let text = text_to c.args.has_air c.args.up.now (c.loop-i.i + 1) in (
      c.in_ok-spill.ensures.begun held text
          (subst (λ l. IsBegun held now l text) (sym c.push_item.ensures.text)
          (item_begun c.args.has_air c.args.up.now c.loop-i.i c.at.result held now c.loop-i.line c.at.ensures
          c.loop-i.invariant.0)),
      c.in_ok-spill.ensures.room,
      c.in_ok-spill.ensures.quiet (λ is. absurd (cc)) ∙ c.loop-i.invariant.2,
    )

pub returns-clause-written : goal.returns-clause-written
returns-clause-written g c =
    on_ok c.write_line.result _ _
    (λ wrote. end_written c.args.has_air c.args.up.now c.args.ending c.loop-i.i _ _ _ c.loop-i.line
    (omega (arith, c.loop-i-test.false, c.len-i-end.ensures.count)) c.loop-i.invariant.0
    (wrote ∙ ap (append_known (g.K.Sink.held c.loop-i.sink)) c.push_end.ensures))
    c.write_line.ensures.written

pub returns-clause-front : goal.returns-clause-front
returns-clause-front g c =
    on_err c.write_line.result _
    (end_front c.args.has_air c.args.up.now c.args.ending c.loop-i.i _ _ _ c.loop-i.line
    (omega (arith, c.loop-i-test.false, c.len-i-end.ensures.count)) c.loop-i.invariant.0
    (subst (HoldsFront _ _) c.push_end.ensures c.write_line.ensures.front))
