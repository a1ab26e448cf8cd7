-- Proves what `will_read` returns, by cases of the octets that wait.
use Rattle.std.proofs.Common.{refl, inl, inr}
use Rattle.wf_trace.proofs.ScanLaws.{no_end_waits, end_waits, first_of_line}
use Rattle.wf_trace.proofs.Taking.{reads_given, reads_first, not_equal}
use Rattle.wf_trace.proofs.CutLaws.{reads_open}
use Rattle.wf_trace.proofs.cut.Cut.will_read.Goals as goal
use Rattle.wf_trace.proofs.cut.Cut.will_read.Goals.{then-first-eq10, else-first-eq10}

pub returns-then-self : goal.returns-then-self
returns-then-self c = rw (
  ← c.self.view_is,
  reads_open c.self.inside.ended _ c.if-is_some.ensures,
  reads_given c.self.inside.end c.self.inside.given _ c.if-is_some-2.ensures c.if-not-self.false,
  no_end_waits c.self.inside.buffer.items c.self.inside.ends
      c.self.inside.from c.self.inside.to c.self.invariant.4 c.if-self.true c.self.invariant.0,
) refl

pub returns-then-first-eq32 : goal.returns-then-first-eq32
returns-then-first-eq32 c =
    rw (
      ← c.self.view_is,
      reads_open c.self.inside.ended _ c.if-is_some.ensures,
      reads_first c.self.inside.end c.self.inside.given _ c.index-first.result.now _ c.if-is_some-2.ensures
          c.if-not-self.false
          (end_waits c.self.inside.buffer.items c.self.inside.ends c.self.inside.from c.self.inside.to
          c.self.invariant.4 c.if-self.false c.self.invariant.1)
          (first_of_line c.self.inside.buffer.items c.self.inside.ends c.self.inside.from c.self.inside.to
          c.index-first.result.now c.self.invariant.4 c.if-self.false c.self.invariant.1
          c.index-first.ensures),
    )
    (elim c.if-first-eq10.branch [
      | then-first-eq10 w ↦ rw (w.t-14-is, w.if-first-eq10.true) refl
      | else-first-eq10 w ↦ elim c.if-first-eq32.either [
        | inl ten ↦ absurd (w.if-first-eq10.false ten)
        | inr space ↦ rw (w.t-14-is, space.1) refl
      ]
    ])

pub returns-else-first-eq32 : goal.returns-else-first-eq32
returns-else-first-eq32 c =
    rw (
      ← c.self.view_is,
      reads_open c.self.inside.ended _ c.if-is_some.ensures,
      reads_first c.self.inside.end c.self.inside.given _ c.index-first.result.now _ c.if-is_some-2.ensures
          c.if-not-self.false
          (end_waits c.self.inside.buffer.items c.self.inside.ends c.self.inside.from c.self.inside.to
          c.self.invariant.4 c.if-self.false c.self.invariant.1)
          (first_of_line c.self.inside.buffer.items c.self.inside.ends c.self.inside.from c.self.inside.to
          c.index-first.result.now c.self.invariant.4 c.if-self.false c.self.invariant.1
          c.index-first.ensures),
    )
    (rw (
      not_equal c.index-first.result.now 10 c.if-first-eq32.false.0,
      not_equal c.index-first.result.now 32 c.if-first-eq32.false.1,
    ) refl)
