-- Proves the clauses of `next` for each piece and for a failure, by CutLaws.
use Rattle.std.proofs.Common.{◌≡◌, true, false, None, refl, sym, ap, subst, ◌∙◌, arith}
use Rattle.std.specs.Prelude.{Some, IsSome}
use Rattle.wf_trace.specs.Cutting.{room}
use Rattle.wf_trace.specs.Numbering.{Numbering}
use Rattle.wf_trace.specs.Pieces.{ending_piece}
use Rattle.wf_trace.specs.Words.{words, skipped}
use Rattle.wf_trace.proofs.CutLaws.{at_now, counted, told, kept_open, cuts_again, kept_skip, cuts_line, cuts_end, cuts_none, still_quiet, still_says}
use Rattle.wf_trace.proofs.cut.Cut.next.Goals as goal

pub returns-in-Some-clause-cuts : goal.returns-in-Some-clause-cuts
returns-in-Some-clause-cuts g c = rw (← c.self.view_is)
    (cuts_again _ _ c.in-Some.piece c.in-Some.is c.self.invariant.6)

pub returns-in-Ok-Some-clause-cuts : goal.returns-in-Ok-Some-clause-cuts
returns-in-Ok-Some-clause-cuts g c =
    let kept = kept_open _ _ _ _ c.lines.invariant.1 c.lines.invariant.0 in
    let takes = rw (c.in-Ok-Some.field-0-is) at c.in-Ok-Some.ensures.takes in
    cuts_end _ _ _ _ _ _ _ takes.0 c.in-Ok-Some.end c.stop.result c.stop.new.self kept
    c.in-Ok-Some.ensures.sticky takes.1
    (c.stop.ensures.piece
    ∙ ap (λ (k : Numbering). ending_piece k.line (Some c.in-Ok-Some.end)) c.in-Ok-Some.ensures.stays)
    (told c.lines.self c.cut.new.self c.stop.new.self c.stop.result c.in-Ok-Some.ensures.stays
    c.stop.ensures.stays)

pub returns-in-Err-clause-cuts : goal.returns-in-Err-clause-cuts
returns-in-Err-clause-cuts g c =
    let kept = kept_open _ _ _ _ c.lines.invariant.1 c.lines.invariant.0 in
    rw (at_now c.lines.self c.cut.new.self c.lines.invariant.1 c.in-Err.ensures.stays)
    (cuts_none _ _ _ _ _ _ _ c.in-Err.ensures.takes.0 c.in-Err.failed kept c.in-Err.ensures.sticky
    c.in-Err.ensures.takes.1)

pub returns-then-not-is_skipped-clause-cuts : goal.returns-then-not-is_skipped-clause-cuts
returns-then-not-is_skipped-clause-cuts g c =
    let kept = kept_open _ _ _ _ c.lines.invariant.1 c.lines.invariant.0 in
    let takes = rw (c.in-Ok-None.field-0-is) at c.in-Ok-None.ensures.takes in
    let same : c.as_slice.result.now ≡ c.cut.new.self.cutter.scanner.line =
    c.as_slice.ensures.value ∙ ap (λ (k : Numbering). k.cutter.scanner.line) c.self-in-lines.view_is in
    let says : skipped (words c.cut.new.self.cutter.scanner.line) ≡ false =
    rw (← same) (sym c.if-not-is_skipped.ensures) in
    let new = counted c.lines.self c.cut.new.self _ c.lines.invariant.1 c.in-Ok-None.ensures.stays
    c.self-in-lines.view_is in
    let number = ap (λ (k : Numbering). k.line) (c.self-in-lines.view_is ∙ c.in-Ok-None.ensures.stays) in
    rw (new, number)
    (cuts_line _ _ c.cut.new.self.cutter _ _ _ _ takes.0 kept c.in-Ok-None.ensures.sticky takes.1 says)

pub lines-preserved : goal.lines-preserved
lines-preserved g c =
    let kept = kept_open _ _ _ _ c.lines.invariant.1 c.lines.invariant.0 in
    let takes = rw (c.in-Ok-None.field-0-is) at c.in-Ok-None.ensures.takes in
    let same : c.as_slice.result.now ≡ c.cut.new.self.cutter.scanner.line =
    c.as_slice.ensures.value ∙ ap (λ (k : Numbering). k.cutter.scanner.line) c.self-in-lines.view_is in
    let skips : skipped (words c.cut.new.self.cutter.scanner.line) ≡ true =
    rw (← same) (sym c.if-not-is_skipped.ensures) in
    let new = counted c.lines.self c.cut.new.self _ c.lines.invariant.1 c.in-Ok-None.ensures.stays
    c.self-in-lines.view_is in
    let number = ap (λ (k : Numbering). k.line) (c.self-in-lines.view_is ∙ c.in-Ok-None.ensures.stays) in
    let rooms = ap (λ (k : Numbering). room k.cutter) c.self-in-lines.view_is in
    let progress = rw (c.in-Ok-None.field-0-is) at c.in-Ok-None.ensures.progress in
    let word = rw (c.in-Ok-None.field-0-is) at c.in-Ok-None.ensures.word in (
      rw new (kept_skip _ _ c.cut.new.self.cutter _ _ _ _ takes.0 kept c.in-Ok-None.ensures.sticky takes.1
          skips),
      ap (λ (k : Numbering). k.ended) (c.self-in-lines.view_is ∙ c.in-Ok-None.ensures.stays)
          ∙ c.lines.invariant.1,
      (λ first. subst (λ (k : Numbering). IsSome k.cutter.ended) (sym c.self-in-lines.view_is)
          (c.in-Ok-None.ensures.sticky (c.lines.invariant.2 first))),
      omega (arith, rooms, c.in-Ok-None.ensures.grows, c.lines.invariant.3),
      c.in-Ok-None.ensures.cause.quiet ∙ c.lines.invariant.4,
      (λ quiet. absurd (still_says _ _ c.lines.self.cutter c.cut.new.self.cutter.scanner.line _ _
          c.lines.invariant.5 refl (λ q. word q refl) skips quiet)),
      omega (arith, number, rooms, progress refl, c.lines.invariant.6),
    )

pub returns-in-Ok-Some-clause-quiet : goal.returns-in-Ok-Some-clause-quiet
returns-in-Ok-Some-clause-quiet g c =
    let none : c.args.self.now.ended ≡ None =
    sym (ap (λ (k : Numbering). k.ended) c.self.view_is) ∙ c.in_default.is in
    rw none (still_quiet _ _ c.lines.self.cutter _ _ _ c.lines.invariant.5 refl c.in-Ok-Some.ensures.quiet)

pub returns-in-Err-clause-quiet : goal.returns-in-Err-clause-quiet
returns-in-Err-clause-quiet g c =
    let none : c.args.self.now.ended ≡ None =
    sym (ap (λ (k : Numbering). k.ended) c.self.view_is) ∙ c.in_default.is in
    rw none (still_quiet _ _ c.lines.self.cutter _ _ _ c.lines.invariant.5 refl c.in-Err.ensures.quiet)

pub returns-then-not-is_skipped-clause-quiet : goal.returns-then-not-is_skipped-clause-quiet
returns-then-not-is_skipped-clause-quiet g c =
    let none : c.args.self.now.ended ≡ None =
    sym (ap (λ (k : Numbering). k.ended) c.self.view_is) ∙ c.in_default.is in
    rw none (still_quiet _ _ c.lines.self.cutter _ _ _ c.lines.invariant.5 refl c.in-Ok-None.ensures.quiet)

pub invariant_of-self : goal.invariant_of-self
invariant_of-self g c =
    let number = ap (λ (k : Numbering). k.line) (c.self-in-lines.view_is ∙ c.in-Ok-None.ensures.stays) in
    let rooms = ap (λ (k : Numbering). room k.cutter) c.self-in-lines.view_is in
    let progress = rw (c.in-Ok-None.field-0-is) at c.in-Ok-None.ensures.progress in (
      c.self-in-lines.invariant.0,
      c.self-in-lines.invariant.1,
      c.self-in-lines.invariant.2,
      c.self-in-lines.invariant.3,
      c.self-in-lines.invariant.4,
      omega (arith, number, rooms, progress refl, c.lines.invariant.6),
      c.self-in-lines.invariant.6,
    )

pub invariant_of-self-else-not-is_skipped : goal.invariant_of-self-else-not-is_skipped
invariant_of-self-else-not-is_skipped g c =
    let number = ap (λ (k : Numbering). k.line) (c.self-in-lines.view_is ∙ c.in-Ok-None.ensures.stays) in
    let rooms = ap (λ (k : Numbering). room k.cutter) c.self-in-lines.view_is in
    let progress = rw (c.in-Ok-None.field-0-is) at c.in-Ok-None.ensures.progress in (
      c.self-in-lines.invariant.0,
      c.self-in-lines.invariant.1,
      c.self-in-lines.invariant.2,
      c.self-in-lines.invariant.3,
      c.self-in-lines.invariant.4,
      omega (arith, number, rooms, progress refl, c.lines.invariant.6),
      c.self-in-lines.invariant.6,
    )
