-- Proves the contract of `Window::next_waiting`: the loop stops at the first waiting place, which is the
-- place of the first waiting number.
use Rattle.std.proofs.Common.{◌≡◌, ℕ, ◌<◌, ◌≤◌, Some, Option, List, length, ap, sym, ◌∙◌, subst, arith}
use Rattle.wf_octets.specs.Distance.{distance}
use Rattle.wf_def_agreement.specs.Session.{State}
use Rattle.wf_send_parts.specs.declared.window.place.Place.{Place}
use Rattle.wf_send_parts.specs.Window.{WindowValue, WindowStandsFor, IsInOrder, state_at, waits}
use Rattle.wf_send_parts.proofs.Steps.{shown, waits_there, within_places}
use Rattle.wf_send_parts.proofs.Finding.{waiting_found, waiting_none}
use Rattle.wf_send_parts.proofs.window.window.Window.next_waiting.Goals as goal

small_ring : {capacity size : ℕ} {places : List (Option Place)} {due : Option ℕ} →
    IsInOrder capacity size places due → length places ≤ 256
small_ring order = omega (arith, order.bounded, order.within, order.small)

pub returns-then-is_waiting-clause-waits : goal.returns-then-is_waiting-clause-waits
returns-then-is_waiting-clause-waits c =
    let q = c.self.inside in
    let W : WindowValue = shown q.size q.start q.passed q.ring in
    let P : WindowValue → Type 0 = λ v. state_at v c.plus.result ≡ State.Waiting in
    let first : c.from-i.result ≡ distance c.args.from q.start = c.from-i.ensures ∙ c.ahead.ensures.number in
    subst P c.self.view_is (waits_there W c.args.from c.plus.result c.loop-i.i c.plus.ensures.number
    (omega (arith, first)) (omega arith) (small_ring c.self.invariant)
    (ap waits (sym c.at.ensures) ∙ sym c.if-is_waiting.ensures))

pub returns-then-is_waiting-clause-within : goal.returns-then-is_waiting-clause-within
returns-then-is_waiting-clause-within c =
    let q = c.self.inside in
    let W : WindowValue = shown q.size q.start q.passed q.ring in
    let P : WindowValue → Type 0 = λ v. (distance c.args.from v.start ≤ distance c.plus.result v.start) ×
    (distance c.plus.result v.start < length v.places) in
    let first : c.from-i.result ≡ distance c.args.from q.start = c.from-i.ensures ∙ c.ahead.ensures.number in
    subst P c.self.view_is (within_places W c.args.from c.plus.result c.loop-i.i c.plus.ensures.number
    (omega (arith, first)) (omega arith) (small_ring c.self.invariant))

pub returns-then-is_waiting-clause-number : goal.returns-then-is_waiting-clause-number
returns-then-is_waiting-clause-number c s bodies n stands on_air_is low high =
    let q = c.self.inside in
    let W : WindowValue = shown q.size q.start q.passed q.ring in
    let P : WindowValue → Type 0 = λ v. WindowStandsFor v s bodies in
    let w : WindowStandsFor W s bodies = subst P (sym c.self.view_is) stands in
    let first : c.from-i.result ≡ distance c.args.from q.start = c.from-i.ensures ∙ c.ahead.ensures.number in
    let i = c.loop-i.i in
    ap (λ (x : ℕ). Some x) c.plus.ensures.number
    ∙ sym (waiting_found W s bodies w n c.args.from on_air_is low high i (omega (arith, first))
    (omega arith) (ap waits (sym c.at.ensures) ∙ sym c.if-is_waiting.ensures)
    (λ k above below. c.loop-i.invariant k above below))

pub returns-clause-number : goal.returns-clause-number
returns-clause-number c s bodies n stands on_air_is low high =
    let q = c.self.inside in
    let W : WindowValue = shown q.size q.start q.passed q.ring in
    let P : WindowValue → Type 0 = λ v. WindowStandsFor v s bodies in
    let w : WindowStandsFor W s bodies = subst P (sym c.self.view_is) stands in
    sym (waiting_none W s bodies w n c.args.from on_air_is low high
    (λ k above below. c.loop-i.invariant k above (omega (arith, below))))
