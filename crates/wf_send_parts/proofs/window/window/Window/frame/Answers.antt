-- Proves the contract of `Window::frame`: the number's place holds the frame of its slot.
use Rattle.std.proofs.Common.{◌≡◌, ℕ, None, Some, Option, get_or, ap, sym, ◌∙◌, subst, arith}
use Rattle.wf_def_agreement.specs.Session.{slot}
use Rattle.wf_send_parts.specs.declared.window.place.Place.{Place}
use Rattle.wf_send_parts.specs.Places.{slot_place}
use Rattle.wf_send_parts.specs.Window.{WindowValue, place_at, HasFrame}
use Rattle.wf_send_parts.proofs.Laws.{place_is}
use Rattle.wf_send_parts.proofs.Finding.{frame_held}
use Rattle.wf_send_parts.proofs.window.window.Window.frame.Goals as goal

pub returns-in-Some-Waiting : goal.returns-in-Some-Waiting
returns-in-Some-Waiting c s bodies n stands number =
    let q = c.self.inside in
    let w = c.in-Some-Waiting in
    let same : c.at.result.now ≡ slot_place bodies (slot s n) =
    c.at.ensures
    ∙ ap (λ (k : ℕ). get_or q.ring.items k None) (c.from.ensures ∙ c.ahead.ensures.number)
    ∙ ap (λ (v : WindowValue). place_at v c.args.seq) c.self.view_is
    ∙ place_is _ s bodies stands n c.args.seq number in
    let found : c.at.result.now ≡ Some (Place.Waiting w.parcel w.field-0-1) = grind arith in
    let P : Option Place → Type 0 = λ p. HasFrame p c.frame.result.now in
    frame_held bodies (slot s n) c.frame.result.now (subst P same
    (subst P (sym found) c.frame.ensures))

pub returns-in-Some-Flying : goal.returns-in-Some-Flying
returns-in-Some-Flying c s bodies n stands number =
    let q = c.self.inside in
    let w = c.in-Some-Flying in
    let same : c.at.result.now ≡ slot_place bodies (slot s n) =
    c.at.ensures
    ∙ ap (λ (k : ℕ). get_or q.ring.items k None) (c.from.ensures ∙ c.ahead.ensures.number)
    ∙ ap (λ (v : WindowValue). place_at v c.args.seq) c.self.view_is
    ∙ place_is _ s bodies stands n c.args.seq number in
    let found : c.at.result.now ≡ Some (Place.Flying w.parcel w.field-0-1 w.field-0-2) = grind arith in
    let P : Option Place → Type 0 = λ p. HasFrame p c.frame-in-Some-Flying.result.now in
    frame_held bodies (slot s n) c.frame-in-Some-Flying.result.now (subst P same
    (subst P (sym found) c.frame-in-Some-Flying.ensures))
