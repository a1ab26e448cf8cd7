-- Proves the contract of `Window::flush_next`: the place of the first waiting number fails, and the settled
-- places at the front are dropped.
use Rattle.std.proofs.Common.{◌<◌, None, length, ap, ◌∙◌, arith}
use Rattle.std.specs.Prelude.{count_by}
use Rattle.wf_send_parts.specs.Window.{WindowValue, waits}
use Rattle.wf_send_parts.proofs.Flushing.{none_waits, one_waits_less, flushed_one}
use Rattle.wf_send_parts.proofs.Steps.{replaced_twice, order_moved}
use Rattle.wf_send_parts.proofs.window.window.Window.flush_next.Goals as goal

pub returns-in_default-clause-none : goal.returns-in_default-clause-none
returns-in_default-clause-none c s bodies n stands on_air low high =
    (none_waits _ (c.in_default.ensures.number s bodies n stands on_air low high), stands)

pub invariant_of-self : goal.invariant_of-self
invariant_of-self c =
    let q = c.self.inside in
    let w = c.take_waiting-parcel in
    order_moved q.size q.passed _ q.ring c.replace.new.self _ c.from-i.result _
    (replaced_twice q.ring w.new.ring c.replace.new.self c.from-i.result None _ w.ensures.changed
    c.replace.ensures.changed) c.advance-moved.ensures.items c.advance-moved.ensures.passed c.self.invariant

pub returns-clause-some : goal.returns-clause-some
returns-clause-some c limit s bodies n stands on_air low high =
    let q = c.self.inside in
    let w = c.take_waiting-parcel in
    let a = c.advance-moved in
    flushed_one q.size q.start c.plus-self-inside.result a.result.0 q.passed a.result.1 q.ring w.new.ring
    c.replace.new.self a.new.ring c.args.self.now w.result.0 w.result.1 c.from-i.result c.self.view_is
    w.ensures.found w.ensures.changed c.replace.ensures.changed a.ensures.items a.ensures.moved
    a.ensures.passed c.plus-self-inside.ensures.number c.args.cause c.in-Some.seq
    c.saturating_sub-past.result c.plus.result limit
    (c.from-i.ensures ∙ c.ahead.ensures.number) (omega (arith, c.saturating_sub-past.ensures))
    c.plus.ensures.number s bodies n stands (c.in-Some.ensures.number s bodies n stands on_air low high)
    c.finished.result c.finished.ensures

pub returns-clause-fewer : goal.returns-clause-fewer
returns-clause-fewer c =
    let q = c.self.inside in
    let w = c.take_waiting-parcel in
    let a = c.advance-moved in
    let inside : c.from-i.result < length q.ring.items = omega (
      arith,
      c.from-i.ensures,
      c.ahead.ensures.number,
      c.in-Some.ensures.within.1,
      ap (λ (v : WindowValue). v.start) c.self.view_is,
      ap (λ (v : WindowValue). length v.places) c.self.view_is,
    ) in
    omega (
      arith,
      one_waits_less q.size q.start c.plus-self-inside.result a.result.0 q.passed a.result.1 q.ring w.new.ring
          c.replace.new.self a.new.ring c.args.self.now w.result.0 w.result.1 c.from-i.result c.self.view_is
          w.ensures.found w.ensures.changed c.replace.ensures.changed a.ensures.items a.ensures.moved
          a.ensures.passed c.plus-self-inside.ensures.number inside,
      ap (λ (v : WindowValue). count_by waits v.places) c.self.view_is,
    )
