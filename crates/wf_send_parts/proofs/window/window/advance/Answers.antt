-- Proves the contract of `advance` from the loop's invariant in Moving.
use Rattle.std.proofs.Common.{◌≡◌, ◌+◌, true, get_or, None, Some, drop, refl, ap, sym, ◌∙◌, subst, arith, Option}
use Rattle.wf_def_agreement.specs.Session.{is_settled}
use Rattle.wf_send_parts.specs.declared.window.passed.Passed.{Passed}
use Rattle.wf_send_parts.specs.declared.window.place.Place.{Place}
use Rattle.wf_send_parts.specs.declared.window.place.Place.TheVariants.{Failed}
use Rattle.wf_send_parts.specs.Ring.{RingValue}
use Rattle.wf_send_parts.specs.Places.{state_of_place, next_passed}
use Rattle.wf_send_parts.proofs.Moving.{IsMoving, moving_step, moving_end, begins_none}
use Rattle.wf_send_parts.proofs.window.window.advance.Goals as goal
use Rattle.wf_send_parts.proofs.window.window.advance.Goals.{After-drop_front, in-Some-Failed, in-None}

pub moving-init : goal.moving-init
moving-init c = record {
  capacity = refl;
  rest_same = refl;
  front_same = omega arith;
  kept_same = refl;
  bounded = c.requires;
  counted = omega arith;
}

-- one more step, given the place that the match found
goes_on : (c : After-drop_front) (place : Option Place) → c.at.result.now ≡ place →
    is_settled (state_of_place place) ≡ true →
    c.match-at.kept ≡ next_passed (state_of_place place) c.moving.kept →
    IsMoving c.args.ring.now c.drop_front.new.self c.args.passed c.match-at.kept (c.moving.moved + 1)
goes_on c place here settled kept_is =
    let first : get_or c.moving.ring.items 0 None ≡ place = sym c.at.ensures ∙ here in
    let step = moving_step c.args.ring.now c.moving.ring.capacity c.moving.ring.items c.args.passed
    c.moving.kept c.moving.moved (omega (arith, c.len.ensures.number, c.moving-test.true))
    (ap (λ (p : Option Place). is_settled (state_of_place p)) first ∙ settled) c.moving.invariant in
    let P : RingValue → Type 0 = λ v. IsMoving c.args.ring.now v c.args.passed c.match-at.kept
    (c.moving.moved + 1) in
    let Q : Passed → Type 0 = λ d. IsMoving c.args.ring.now
    (record c.moving.ring { items = drop 1 c.moving.ring.items }) c.args.passed d (c.moving.moved + 1) in
    subst P (sym c.drop_front.ensures) (subst Q
    (ap (λ (p : Option Place). next_passed (state_of_place p) c.moving.kept) first ∙ sym kept_is)
    step)

pub moving-preserved : goal.moving-preserved
moving-preserved c =
    elim c.match-at.branch [
      | in-Some-Failed w ↦
          let found : c.at.result.now ≡ Some Failed = grind arith in
          goes_on c (Some Failed) found refl (w.kept-is ∙ w.after_failed-kept.ensures)
      | in-None w ↦ goes_on c None w.in-None.is refl (w.kept-is ∙ w.after_acked-kept.ensures)
    ]

pub returns : goal.returns
returns c =
    let begins = begins_none c.moving.ring.items (omega (arith, c.len.ensures.number, c.moving-test.false)) in
    let m = moving_end _ _ _ _ _ begins c.moving.invariant in
    record { items = m.items; moved = m.moved_is; passed = m.kept_is }
