-- Proves the contract of `Window::attempts`: the number's place has the attempts of its slot.
use Rattle.std.proofs.Common.{◌≡◌, ℕ, true, None, Option, get_or, ap, sym, ◌∙◌}
use Rattle.wf_def_agreement.specs.Session.{slot}
use Rattle.wf_send_parts.specs.declared.window.place.Place.{Place}
use Rattle.wf_send_parts.specs.Places.{state_of_place, slot_place, slot_state}
use Rattle.wf_send_parts.specs.Window.{WindowValue, place_at, attempts_of, holds_parcel}
use Rattle.wf_send_parts.proofs.Laws.{place_is, state_place}
use Rattle.wf_send_parts.proofs.Finding.{attempts_held}
use Rattle.wf_send_parts.proofs.window.window.Window.attempts.Goals as goal

pub returns : goal.returns
returns c s bodies n stands number =
    let q = c.self.inside in
    let x = slot s n in
    let same : c.at.result.now ≡ slot_place bodies x =
    c.at.ensures
    ∙ ap (λ (k : ℕ). get_or q.ring.items k None) (c.from.ensures ∙ c.ahead.ensures.number)
    ∙ ap (λ (w : WindowValue). place_at w c.args.seq) c.self.view_is
    ∙ place_is _ s bodies stands n c.args.seq number in
    let at_view : place_at c.args.self.now c.args.seq ≡ slot_place bodies x =
    place_is _ s bodies stands n c.args.seq number in
    let held : holds_parcel (slot_state x) ≡ true =
    ap holds_parcel (sym (state_place bodies x))
    ∙ ap (λ (p : Option Place). holds_parcel (state_of_place p)) (sym at_view) ∙ c.requires in
    c.attempts_in.ensures ∙ ap attempts_of same ∙ attempts_held bodies x held
