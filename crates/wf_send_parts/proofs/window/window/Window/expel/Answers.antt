-- Proves the contract of `Window::expel`: no number flies, so the first place waits; after it is taken, the
-- settled places at the front are dropped.
use Rattle.std.proofs.Common.{◌≡◌, Option, None, List, length, set, ap, ◌∙◌, arith}
use Rattle.std.specs.List.{list_any}
use Rattle.wf_frame.specs.declared.classes.Fate.TheVariants.{Dropped}
use Rattle.wf_frame.specs.declared.classes.Cause.TheVariants.{Left}
use Rattle.wf_send_parts.specs.declared.window.place.Place.{Place}
use Rattle.wf_send_parts.specs.Places.{state_of_place, rest}
use Rattle.wf_send_parts.specs.Ring.{RingValue}
use Rattle.wf_send_parts.specs.Window.{WindowValue, is_flying, some_fly}
use Rattle.wf_send_parts.specs.Answers.{with_fate}
use Rattle.wf_send_parts.proofs.Laws.{places_length}
use Rattle.wf_send_parts.proofs.Counting.{one_fewer, none_flies_still}
use Rattle.wf_send_parts.proofs.Steps.{with_items, order_moved, expel_step}
use Rattle.wf_send_parts.proofs.window.window.Window.expel.Goals as goal

pub returns-then-len-eq0-clause-none : goal.returns-then-len-eq0-clause-none
returns-then-len-eq0-clause-none c s bodies stands =
    let same = ap (λ (w : WindowValue). length w.places) c.self.view_is in
    (omega (arith, c.len.ensures.number, c.if-len-eq0.true, same, places_length _ s bodies stands), stands)

pub invariant_of-self : goal.invariant_of-self
invariant_of-self c =
    let q = c.self.inside in
    order_moved q.size q.passed _ q.ring c.take_waiting-parcel.new.ring _ 0 None
    c.take_waiting-parcel.ensures.changed c.advance-moved.ensures.items c.advance-moved.ensures.passed
    c.self.invariant

pub returns-clause-some : goal.returns-clause-some
returns-clause-some c s bodies stands =
    let q = c.self.inside in
    let t = c.take_waiting-parcel in
    let a = c.advance-moved in
    let step = expel_step q.size q.start c.plus-self-inside.result a.result.0 q.passed a.result.1 q.ring
    t.new.ring a.new.ring c.args.self.now t.result.0 t.result.1 c.self.view_is t.ensures.found
    t.ensures.changed a.ensures.items a.ensures.moved a.ensures.passed c.plus-self-inside.ensures.number s
    bodies stands in
    (step.0, c.finished.ensures ∙ ap (with_fate (Dropped Left)) step.1, step.2)

-- the ring that is left
left_items : (r r1 r2 : RingValue) → r1 ≡ with_items r (set r.items 0 None) →
    r2 ≡ with_items r1 (rest state_of_place r1.items) → r2.items ≡ rest state_of_place (set r.items 0 None)
left_items r r1 r2 a b = ap (λ (v : RingValue). v.items) b
    ∙ ap (λ (v : RingValue). rest state_of_place v.items) a

pub returns-clause-fewer : goal.returns-clause-fewer
returns-clause-fewer c =
    let q = c.self.inside in
    let left = left_items q.ring c.take_waiting-parcel.new.ring c.advance-moved.new.ring
    c.take_waiting-parcel.ensures.changed c.advance-moved.ensures.items in
    let same = ap (λ (w : WindowValue). length w.places) c.self.view_is in
    omega (
      arith,
      ap length left,
      one_fewer q.ring.items
          (omega (arith, c.len.ensures.number, c.if-len-eq0.false)),
      same,
    )

pub returns-clause-still : goal.returns-clause-still
returns-clause-still c =
    let q = c.self.inside in
    let left = left_items q.ring c.take_waiting-parcel.new.ring c.advance-moved.new.ring
    c.take_waiting-parcel.ensures.changed c.advance-moved.ensures.items in
    ap (λ (ps : List (Option Place)). list_any (λ p. is_flying (state_of_place p)) ps) left
    ∙ none_flies_still q.ring.items (ap (λ (w : WindowValue). some_fly w) c.self.view_is ∙ c.requires)
