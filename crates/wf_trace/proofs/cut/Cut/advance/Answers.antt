-- Proves that the loop of `advance` keeps its invariant: a scan that finds no end of a line, and a read.
use Rattle.std.proofs.Common.{◌∙◌, arith, ap, refl}
use Rattle.wf_trace.specs.Cutting.{Cutting}
use Rattle.wf_trace.specs.Numbering.{Numbering}
use Rattle.wf_trace.proofs.Taking.{took_scan, took_refill, still_ends}
use Rattle.wf_trace.proofs.cut.Cut.advance.Goals as goal

pub lines-preserved : goal.lines-preserved
lines-preserved g c = (
  took_refill _ _ _ _ _ _ (took_scan _ _ _ _ _ c.lines.invariant.0 c.in-None.ensures.finds)
      c.in-None.ensures.dry c.in_ok-refill.ensures.octets
      (ap (λ (k : Cutting). k.scanner) c.in_ok-refill.ensures.same),
  ap (λ (k : Cutting). k.given) c.in_ok-refill.ensures.same
      ∙ ap (λ (k : Numbering). k.cutter.given) c.scan.ensures.stays ∙ c.lines.invariant.1,
  ap (λ (k : Cutting). k.ended) c.in_ok-refill.ensures.same
      ∙ ap (λ (k : Numbering). k.cutter.ended) c.scan.ensures.stays ∙ c.lines.invariant.2,
  rw (c.in_ok-refill.ensures.same) (omega (arith, c.lines.invariant.3, c.scan.ensures.grows)),
  c.in_ok-refill.ensures.cause.quiet ∙ c.lines.invariant.4,
  (λ ends. absurd (still_ends _ _ c.lines.self.cutter.scanner c.scan.new.self.cutter.scanner _ _
      c.lines.invariant.5 refl c.in-None.ensures.keeps c.in-None.ensures.dry ends)),
  rw (c.in_ok-refill.ensures.stays, c.scan.ensures.stays, c.lines.invariant.6) refl,
)
