-- Proves the contract of `Window::fly`: two replacements of one place are one, and the place holds the frame
-- of the number's slot.
use Rattle.std.proofs.Common.{◌∙◌, ap, subst, refl, Some, None, Option, ℕ, true, ◌≡◌, get_or, set}
use Rattle.wf_frame.specs.Frames.{FrameValue, sent_again}
use Rattle.wf_def_agreement.specs.Session.{State, slot}
use Rattle.wf_send_parts.specs.Ring.{RingValue}
use Rattle.wf_send_parts.specs.Places.{state_of_place, slot_place}
use Rattle.wf_send_parts.specs.Window.{WindowValue, place_at, waits, HasFrame}
use Rattle.wf_send_parts.specs.declared.window.place.Place.{Place}
use Rattle.wf_send_parts.specs.declared.window.place.Place.TheVariants.{Waiting as Waits, Flying as Flies, Failed}
use Rattle.wf_send_parts.proofs.Laws.{place_is}
use Rattle.wf_send_parts.proofs.Finding.{frame_held}
use Rattle.wf_send_parts.proofs.Steps.{fly_step, with_items}
use Rattle.wf_send_parts.proofs.window.window.Window.fly.Goals as goal

waits_there : (place : Option Place) → state_of_place place ≡ State.Waiting → waits place ≡ true
waits_there (Some (Waits parcel attempts)) is = refl
waits_there (Some (Flies parcel attempts exchange)) is = cc
waits_there (Some Failed) is = cc
waits_there None is = cc

pub take_waiting-parcel-requires : goal.take_waiting-parcel-requires
take_waiting-parcel-requires c =
    waits_there _ (ap state_of_place (ap (λ (k : ℕ). get_or c.self.inside.ring.items k None)
    (c.from-i.ensures ∙ c.ahead.ensures.number) ∙ ap (λ (v : WindowValue). place_at v c.args.seq)
    c.self.view_is) ∙ c.requires)

pub returns-clause-stands : goal.returns-clause-stands
returns-clause-stands c s bodies n stands number own =
    let q = c.self.inside in
    let w = c.take_waiting-parcel in
    let r : RingValue = w.new.ring in
    fly_step q.size q.start q.passed q.ring r c.replace.new.self c.args.self.now
    c.self.view_is c.from-i.result c.args.seq
    (c.from-i.ensures ∙ c.ahead.ensures.number) c.args.exchange w.result.1 w.result.0 w.ensures.found
    w.ensures.changed (c.replace.ensures.changed ∙ ap (λ (f : FrameValue). with_items r
    (set r.items c.from-i.result (Some (Flies f w.result.1 c.args.exchange))))
    (c.send.ensures ∙ ap sent_again c.frame_mut.ensures.value))
    s bodies n stands number own

pub returns-clause-id : goal.returns-clause-id
returns-clause-id c s bodies n stands number =
    let q = c.self.inside in
    let w = c.take_waiting-parcel in
    let held : HasFrame (slot_place bodies (slot s n)) w.result.0 =
    subst (λ (p : Option Place). HasFrame p w.result.0)
    (w.ensures.found
    ∙ ap (λ (k : ℕ). get_or q.ring.items k None) (c.from-i.ensures ∙ c.ahead.ensures.number)
    ∙ ap (λ (v : WindowValue). place_at v c.args.seq) c.self.view_is
    ∙ place_is _ s bodies stands n c.args.seq number) refl in
    ap (λ (f : FrameValue). f.id)
    (c.behind-parcel.view_is ∙ c.frame.ensures ∙ frame_held bodies (slot s n) _ held)
