-- Proves the contract of `Window::settle`: the place of the number changes as its exchange ends, and the
-- settled places at the front are dropped.
use Rattle.std.proofs.Common.{◌≡◌, ℕ, true, Option, None, get_or, ap, sym, ◌∙◌, subst}
use Rattle.wf_send_parts.specs.declared.window.place.Place.{Place}
use Rattle.wf_send_parts.specs.Places.{state_of_place}
use Rattle.wf_send_parts.specs.Window.{WindowValue, place_at, is_flying}
use Rattle.wf_send_parts.specs.Answers.{as_end}
use Rattle.wf_send_parts.proofs.Steps.{replaced_twice, order_moved, ended_step, ended_answer}
use Rattle.wf_send_parts.proofs.window.window.Window.settle.Goals as goal

pub take_flying-parcel-requires : goal.take_flying-parcel-requires
take_flying-parcel-requires c =
    subst (λ (p : Option Place). is_flying (state_of_place p) ≡ true)
    (sym (ap (λ (k : ℕ). get_or c.self.inside.ring.items k None) (c.from-i.ensures ∙ c.ahead.ensures.number)
    ∙ ap (λ (v : WindowValue). place_at v c.args.seq) c.self.view_is)) c.requires.flies

pub invariant_of-self : goal.invariant_of-self
invariant_of-self c =
    let q = c.self.inside in
    let w = c.take_flying-parcel in
    order_moved q.size q.passed _ q.ring c.put_back.new.ring _ c.from-i.result _
    (replaced_twice q.ring w.new.ring c.put_back.new.ring c.from-i.result None _ w.ensures.changed
    c.put_back.ensures.changed) c.advance-moved.ensures.items c.advance-moved.ensures.passed c.self.invariant

pub returns-clause-stands : goal.returns-clause-stands
returns-clause-stands c s bodies n stands number =
    let q = c.self.inside in
    let w = c.take_flying-parcel in
    let a = c.advance-moved in
    ended_step q.size q.start q.passed q.ring c.put_back.new.ring a.new.ring c.args.self.now c.self.view_is
    c.from-i.result c.args.seq (c.from-i.ensures ∙ c.ahead.ensures.number) w.result.0 w.result.1 w.result.2
    c.args.limit w.ensures.found s bodies n stands number (as_end c.args.end) c.ended-place.result.0
    w.new.ring c.plus-self-inside.result a.result.0 a.result.1 c.ended-place.ensures.place w.ensures.changed
    c.put_back.ensures.changed a.ensures.items a.ensures.moved a.ensures.passed
    c.plus-self-inside.ensures.number

pub returns-clause-answer : goal.returns-clause-answer
returns-clause-answer c s bodies n stands number =
    let q = c.self.inside in
    let w = c.take_flying-parcel in
    ended_answer q.size q.start q.passed q.ring c.put_back.new.ring c.advance-moved.new.ring c.args.self.now
    c.self.view_is c.from-i.result c.args.seq (c.from-i.ensures ∙ c.ahead.ensures.number) w.result.0
    w.result.1 w.result.2 c.args.limit w.ensures.found s bodies n stands number (as_end c.args.end)
    c.ended-place.result.1 c.ended-place.ensures.answer
