-- Proves what `Half::done` promises: to take the exchange out, charge its station and settle its numbers is
-- the world's Done. By cases: an answer to what never went on the air, a bad airtime, a number that no
-- exchange has, and then which numbers the BlockAck shows.
use Rattle.std.proofs.Common.{◌≡◌, refl, sym, ap, ◌∙◌, subst, arith, Option, Some, true, false, List, ℕ, ◌==◌, is_none}
use Rattle.std.specs.Prelude.{find, IfSome}
use Rattle.wf_frame.specs.declared.settings.Config.{Config}
use Rattle.wf_frame.specs.declared.notes.Note.TheVariants.{Asked}
use Rattle.wf_frame.specs.declared.notes.Ask.TheVariants.{Done}
use Rattle.wf_frame.specs.declared.notes.Refusal.TheVariants.{NoExchange}
use Rattle.wf_frame.specs.declared.notes.ReplyNote.TheVariants.{Refused}
use Rattle.wf_def_world.specs.World.{Exchange}
use Rattle.wf_send_parts.specs.declared.exchanges.opened.Open.{Open}
use Rattle.wf_send_half_model.specs.Half.{TransmitValue}
use Rattle.wf_law_driver.proofs.Ended.{may_end_lost, may_end_heard}
use Rattle.wf_send_half.specs.Bits.{IsChargeSmall, end_refusal, GoesBy, count_shown_of}
use Rattle.wf_send_half.specs.Half.{HasWorld}
use Rattle.wf_send_half.proofs.CallSteps.{view_of}
use Rattle.wf_send_half.proofs.Worlds.{met_by}
use Rattle.wf_send_half.proofs.Dones.{refused_done, ends_unknown, ends_unanswered, ends_bad, ends_well, unanswered_of, answers_then, not_sent, never_answered, bad_of, fine_then, bad_meets_lost, bad_meets_heard, within_turns, within_members, pay_back_low, paid_is, within_paid, charge_low, charge_small, closes, closed_now, unopened, where_none, where_some, not_both, within_config, open_low, goes_lost, goes_shown, goes_unshown, goes_arrived, not_batch, bad_meets_told, may_end_batch, done_met}
use Rattle.wf_send_half.proofs.half.Half.done.Goals as goal

pub returns-then-is_answer_impossible-clause-lost : goal.returns-then-is_answer_impossible-clause-lost
returns-then-is_answer_impossible-clause-lost c =
    where_none _ c.args.heard (λ none w bodies h unbatched.
    let k = unanswered_of c.args.self.now c.args.exchange c.args.heard
    (sym c.is_answer_impossible.ensures ∙ c.if-is_answer_impossible.true) in
    absurd (not_both c.args.heard k.0 none))

pub returns-then-is_answer_impossible-clause-shown : goal.returns-then-is_answer_impossible-clause-shown
returns-then-is_answer_impossible-clause-shown c =
    where_some _ c.args.heard (λ score is w bodies x b h known unbatched kept shown.
    let k = unanswered_of c.args.self.now c.args.exchange c.args.heard
    (sym c.is_answer_impossible.ensures ∙ c.if-is_answer_impossible.true) in
    absurd (never_answered c.args.self.now w bodies h c.args.exchange k.1 x b known kept))

pub returns-then-is_answer_impossible-clause-none_shown :
    goal.returns-then-is_answer_impossible-clause-none_shown
returns-then-is_answer_impossible-clause-none_shown c w bodies x h known unbatched data_is some none =
    let k = unanswered_of c.args.self.now c.args.exchange c.args.heard
    (sym c.is_answer_impossible.ensures ∙ c.if-is_answer_impossible.true) in
    let on = not_sent c.args.self.now w bodies h c.args.exchange k.1 x known in
    absurd (cc (on, some))

pub returns-then-is_answer_impossible-clause-refused :
    goal.returns-then-is_answer_impossible-clause-refused
returns-then-is_answer_impossible-clause-refused c =
    let on = sym c.is_answer_impossible.ensures ∙ c.if-is_answer_impossible.true in
    let k = unanswered_of c.args.self.now c.args.exchange c.args.heard on in
    (ends_unanswered c.args.self.now c.args.exchange c.args.heard c.args.air k.1.opened k.1.some on, refl)

pub returns-then-has_bad_air-clause-refused : goal.returns-then-has_bad_air-clause-refused
returns-then-has_bad_air-clause-refused c =
    let k = bad_of c.args.self.now c.args.exchange c.args.air
    (sym c.has_bad_air.ensures ∙ c.if-has_bad_air.true) in (
      ends_bad c.args.self.now c.args.exchange c.args.heard c.args.air k.opened k.some
          (sym c.is_answer_impossible.ensures ∙ c.if-is_answer_impossible.false) k.bad,
      refl,
    )

pub returns-then-has_bad_air-clause-lost : goal.returns-then-has_bad_air-clause-lost
returns-then-has_bad_air-clause-lost c =
    where_none _ c.args.heard (λ none w bodies h unbatched.
    bad_meets_lost c.args.self.now w bodies h c.args.exchange c.args.air
    (bad_of c.args.self.now c.args.exchange c.args.air (sym c.has_bad_air.ensures ∙ c.if-has_bad_air.true)))

pub returns-then-has_bad_air-clause-shown : goal.returns-then-has_bad_air-clause-shown
returns-then-has_bad_air-clause-shown c =
    where_some _ c.args.heard (λ score is w bodies x b h known unbatched kept shown.
    bad_meets_heard c.args.self.now w bodies h c.args.exchange c.args.air
    (bad_of c.args.self.now c.args.exchange c.args.air (sym c.has_bad_air.ensures ∙ c.if-has_bad_air.true))
    x b known kept)

pub returns-then-has_bad_air-clause-none_shown : goal.returns-then-has_bad_air-clause-none_shown
returns-then-has_bad_air-clause-none_shown c w bodies x h known unbatched data_is some none =
    bad_meets_lost c.args.self.now w bodies h c.args.exchange c.args.air
    (bad_of c.args.self.now c.args.exchange c.args.air (sym c.has_bad_air.ensures ∙ c.if-has_bad_air.true))

pub returns-in_default-clause-refused : goal.returns-in_default-clause-refused
returns-in_default-clause-refused c = (
  ends_unknown c.args.self.now c.args.exchange c.args.heard c.args.air
      (c.in_default.ensures.taken ∙ ap (λ (z : TransmitValue).
      find (λ (k : Open). k.number == c.args.exchange) z.opened) c.self.view_is),
  ap
      (λ (l : List Open). let t : TransmitValue = record (view_of c.self.inside) { opened = l } in t)
      (c.in_default.ensures.rest ∙ unopened c.args.exchange c.self.inside.opened c.in_default.ensures.taken)
      ∙ c.self.view_is,
)

pub returns-in_default-clause-lost : goal.returns-in_default-clause-lost
returns-in_default-clause-lost c =
    where_none _ c.args.heard (λ none w bodies h unbatched.
    met_by c.args.self.now _ w bodies (Asked (Done c.args.exchange false c.args.air)) (Refused NoExchange)
    ((returns-in_default-clause-refused c).1)
    (refused_done c.args.self.now w bodies h c.args.exchange false c.args.air
    (c.in_default.ensures.taken ∙ ap (λ (z : TransmitValue).
    find (λ (k : Open). k.number == c.args.exchange) z.opened) c.self.view_is)))

pub returns-in_default-clause-shown : goal.returns-in_default-clause-shown
returns-in_default-clause-shown c =
    where_some _ c.args.heard (λ score is w bodies x b h known unbatched kept shown.
    met_by c.args.self.now _ w bodies (Asked (Done c.args.exchange true c.args.air)) (Refused NoExchange)
    ((returns-in_default-clause-refused c).1)
    (refused_done c.args.self.now w bodies h c.args.exchange true c.args.air
    (c.in_default.ensures.taken ∙ ap (λ (z : TransmitValue).
    find (λ (k : Open). k.number == c.args.exchange) z.opened) c.self.view_is)))

pub returns-in_default-clause-none_shown : goal.returns-in_default-clause-none_shown
returns-in_default-clause-none_shown c w bodies x h known unbatched data_is some none =
    met_by c.args.self.now _ w bodies (Asked (Done c.args.exchange false c.args.air)) (Refused NoExchange)
    ((returns-in_default-clause-refused c).1)
    (refused_done c.args.self.now w bodies h c.args.exchange false c.args.air
    (c.in_default.ensures.taken ∙ ap (λ (z : TransmitValue).
    find (λ (k : Open). k.number == c.args.exchange) z.opened) c.self.view_is))

pub pay_back_ended-requires-clause-known : goal.pay_back_ended-requires-clause-known
pay_back_ended-requires-clause-known c = within_turns (view_of c.self.inside)
    (subst HasWorld (sym c.self.view_is) c.requires.some) c.args.exchange c.in-Some.open
    c.in-Some.ensures.taken

pub pay_back_ended-requires-clause-high : goal.pay_back_ended-requires-clause-high
pay_back_ended-requires-clause-high c on = pay_back_low (view_of c.self.inside)
    (subst HasWorld (sym c.self.view_is) c.requires.some) c.args.exchange c.in-Some.open
    c.in-Some.ensures.taken _ refl on

pub charge-requires-clause-known : goal.charge-requires-clause-known
charge-requires-clause-known c = within_paid (view_of c.self.inside)
    (subst HasWorld (sym c.self.view_is) c.requires.some) c.args.exchange c.in-Some.open
    c.in-Some.ensures.taken c.pay_back_ended.new.sched
    (paid_is (view_of c.self.inside) (subst HasWorld (sym c.self.view_is) c.requires.some)
    c.args.exchange c.in-Some.open c.in-Some.ensures.taken _ c.pay_back_ended.new.sched refl
    c.pay_back_ended.ensures)

pub charge-requires-clause-low : goal.charge-requires-clause-low
charge-requires-clause-low c = charge_low (view_of c.self.inside)
    (subst HasWorld (sym c.self.view_is) c.requires.some) c.args.exchange c.in-Some.open
    c.in-Some.ensures.taken c.args.air c.unwrap_or-charge.result c.pay_back_ended.new.sched
    (fine_then c.args.self.now (view_of c.self.inside) c.args.exchange c.args.air c.in-Some.open
    c.has_bad_air.result c.self.view_is c.has_bad_air.ensures c.if-has_bad_air.false c.in-Some.ensures.taken)
    c.unwrap_or-charge.ensures
    (paid_is (view_of c.self.inside) (subst HasWorld (sym c.self.view_is) c.requires.some)
    c.args.exchange c.in-Some.open c.in-Some.ensures.taken _ c.pay_back_ended.new.sched refl
    c.pay_back_ended.ensures)

pub charge-requires-2-clause-within : goal.charge-requires-2-clause-within
charge-requires-2-clause-within c = within_members (view_of c.self.inside)
    (subst HasWorld (sym c.self.view_is) c.requires.some) c.args.exchange c.in-Some.open
    c.in-Some.ensures.taken

pub charge-requires-2-clause-small : goal.charge-requires-2-clause-small
charge-requires-2-clause-small c =
    charge_small (view_of c.self.inside) (subst HasWorld (sym c.self.view_is) c.requires.some) c.args.exchange
    c.in-Some.open c.in-Some.ensures.taken (subst (λ (z : TransmitValue). IsChargeSmall z c.args.exchange)
    (sym c.self.view_is) c.requires.small)

pub settle-ended-requires : goal.settle-ended-requires
settle-ended-requires c = record {
  some = closed_now (view_of c.self.inside) (subst HasWorld (sym c.self.view_is) c.requires.some)
      c.args.exchange c.in-Some.open c.in-Some.ensures.taken c.args.air _
      (closes (view_of c.self.inside) (subst HasWorld (sym c.self.view_is) c.requires.some) c.args.exchange
      c.in-Some.open c.in-Some.ensures.taken c.args.air c.unwrap_or-charge.ensures
      c.in-Some.ensures.rest
      (paid_is (view_of c.self.inside) (subst HasWorld (sym c.self.view_is) c.requires.some)
      c.args.exchange c.in-Some.open c.in-Some.ensures.taken _ c.pay_back_ended.new.sched refl
      c.pay_back_ended.ensures)
      c.charge.ensures c.charge-2.ensures);
}

pub of_tid-class-requires : goal.of_tid-class-requires
of_tid-class-requires c = open_low (view_of c.self.inside) (subst HasWorld (sym c.self.view_is)
    c.requires.some)
    c.args.exchange c.in-Some.open c.in-Some.ensures.taken

pub list_in-is_ready-requires : goal.list_in-is_ready-requires
list_in-is_ready-requires c = record {
  within = omega (
    arith,
    within_config (view_of c.self.inside)
        (subst HasWorld (sym c.self.view_is) c.requires.some) c.args.exchange c.in-Some.open
        c.in-Some.ensures.taken,
    ap (λ (k : Config). k.stations) c.settle-ended.ensures.config,
  );
}

pub returns-clause-lost : goal.returns-clause-lost
returns-clause-lost c = where_none _ c.args.heard (λ none w bodies h unbatched. done_met c.self.view_is
    c.in-Some.ensures.taken
    (fine_then c.args.self.now (view_of c.self.inside) c.args.exchange c.args.air c.in-Some.open
    c.has_bad_air.result c.self.view_is c.has_bad_air.ensures c.if-has_bad_air.false c.in-Some.ensures.taken)
    (closes (view_of c.self.inside) (subst HasWorld (sym c.self.view_is) c.requires.some) c.args.exchange
    c.in-Some.open c.in-Some.ensures.taken c.args.air c.unwrap_or-charge.ensures c.in-Some.ensures.rest
    (paid_is (view_of c.self.inside) (subst HasWorld (sym c.self.view_is) c.requires.some)
    c.args.exchange c.in-Some.open c.in-Some.ensures.taken _ c.pay_back_ended.new.sched refl
    c.pay_back_ended.ensures)
    c.charge.ensures c.charge-2.ensures) c.settle-ended.ensures.settled c.settle-ended.ensures.reply
    c.of_tid-class.ensures c.list_in-is_ready.ensures.listed h false
    (λ k there. subst (λ (o : Option (ℕ × List ℕ)). GoesBy w k o false) (sym none)
    (goes_lost w c.args.exchange k there unbatched))
    (λ k there fine. may_end_lost w c.args.exchange k c.args.air there fine))

pub returns-clause-shown : goal.returns-clause-shown
returns-clause-shown c = where_some _ c.args.heard (λ score is w bodies x b h known unbatched kept shown.
    done_met c.self.view_is c.in-Some.ensures.taken
    (fine_then c.args.self.now (view_of c.self.inside) c.args.exchange c.args.air c.in-Some.open
    c.has_bad_air.result c.self.view_is c.has_bad_air.ensures c.if-has_bad_air.false c.in-Some.ensures.taken)
    (closes (view_of c.self.inside) (subst HasWorld (sym c.self.view_is) c.requires.some) c.args.exchange
    c.in-Some.open c.in-Some.ensures.taken c.args.air c.unwrap_or-charge.ensures c.in-Some.ensures.rest
    (paid_is (view_of c.self.inside) (subst HasWorld (sym c.self.view_is) c.requires.some)
    c.args.exchange c.in-Some.open c.in-Some.ensures.taken _ c.pay_back_ended.new.sched refl
    c.pay_back_ended.ensures)
    c.charge.ensures c.charge-2.ensures) c.settle-ended.ensures.settled c.settle-ended.ensures.reply
    c.of_tid-class.ensures c.list_in-is_ready.ensures.listed h true
    (λ k there. subst (λ (o : Option (ℕ × List ℕ)). GoesBy w k o true) (sym is)
    (subst (λ (z : Exchange). GoesBy w z (Some score) true) (let it : x ≡ k = cc (known, there) in it)
    (goes_shown w x b score unbatched kept shown)))
    (λ k there fine. may_end_heard w c.args.exchange k b c.args.air there
    (ap (λ (z : Exchange). z.answer) (let it : k ≡ x = cc (known, there) in it) ∙ kept) fine))

pub returns-clause-none_shown : goal.returns-clause-none_shown
returns-clause-none_shown c w bodies x h known unbatched data_is some none =
    done_met c.self.view_is c.in-Some.ensures.taken
    (fine_then c.args.self.now (view_of c.self.inside) c.args.exchange c.args.air c.in-Some.open
    c.has_bad_air.result c.self.view_is c.has_bad_air.ensures c.if-has_bad_air.false c.in-Some.ensures.taken)
    (closes (view_of c.self.inside) (subst HasWorld (sym c.self.view_is) c.requires.some) c.args.exchange
    c.in-Some.open c.in-Some.ensures.taken c.args.air c.unwrap_or-charge.ensures c.in-Some.ensures.rest
    (paid_is (view_of c.self.inside) (subst HasWorld (sym c.self.view_is) c.requires.some)
    c.args.exchange c.in-Some.open c.in-Some.ensures.taken _ c.pay_back_ended.new.sched refl
    c.pay_back_ended.ensures)
    c.charge.ensures c.charge-2.ensures) c.settle-ended.ensures.settled c.settle-ended.ensures.reply
    c.of_tid-class.ensures c.list_in-is_ready.ensures.listed h false
    (λ k there. subst (λ (z : Exchange). GoesBy w z c.args.heard false)
    (let it : x ≡ k = cc (known, there) in it) (goes_unshown w x c.args.heard unbatched data_is none))
    (λ k there fine. may_end_lost w c.args.exchange k c.args.air there fine)

pub returns-clause-found : goal.returns-clause-found
returns-clause-found c = sym (ap (λ (z : TransmitValue).
    is_none (end_refusal z c.args.exchange c.args.heard c.args.air)) (sym c.self.view_is)
    ∙ ap is_none (ends_well (view_of c.self.inside) c.args.exchange c.args.heard c.args.air c.in-Some.open
    c.in-Some.ensures.taken
    (answers_then c.args.self.now (view_of c.self.inside) c.args.exchange c.args.heard
    c.is_answer_impossible.result c.self.view_is c.is_answer_impossible.ensures
    c.if-is_answer_impossible.false)
    (fine_then c.args.self.now (view_of c.self.inside) c.args.exchange c.args.air c.in-Some.open
    c.has_bad_air.result c.self.view_is c.has_bad_air.ensures c.if-has_bad_air.false
    c.in-Some.ensures.taken)))

pub returns-clause-acked : goal.returns-clause-acked
returns-clause-acked c =
    subst (λ (z : TransmitValue). IfSome (find (λ (k : Open). k.number == c.args.exchange) z.opened)
    (λ (k : Open). c.settle-ended.result.acked ≡ count_shown_of z c.args.heard k)) c.self.view_is
    (subst (λ (o : Option Open). IfSome o (λ (k : Open). c.settle-ended.result.acked
    ≡ count_shown_of (view_of c.self.inside) c.args.heard k)) c.in-Some.ensures.taken
    c.settle-ended.ensures.acked)

pub returns-clause-closed : goal.returns-clause-closed
returns-clause-closed c = record {
  exchange_is = c.in-Some.open;
  known = c.in-Some.ensures.taken
      ∙ ap (λ (z : TransmitValue). find (λ (k : Open). k.number == c.args.exchange) z.opened) c.self.view_is;
  station = refl;
  class = c.of_tid-class.ensures;
  ready = c.list_in-is_ready.ensures.ready;
}

pub returns-then-is_answer_impossible-clause-arrived : goal.returns-then-is_answer_impossible-clause-arrived
returns-then-is_answer_impossible-clause-arrived c w bodies x told h known batch request there =
    let k = unanswered_of c.args.self.now c.args.exchange c.args.heard
    (sym c.is_answer_impossible.ensures ∙ c.if-is_answer_impossible.true) in
    let off = not_batch c.args.self.now w bodies h c.args.exchange k.1 x known in
    absurd (cc (off, batch))

pub returns-then-has_bad_air-clause-arrived : goal.returns-then-has_bad_air-clause-arrived
returns-then-has_bad_air-clause-arrived c w bodies x told h known batch request there =
    bad_meets_told c.args.self.now w bodies h c.args.exchange c.args.air
    (bad_of c.args.self.now c.args.exchange c.args.air (sym c.has_bad_air.ensures ∙ c.if-has_bad_air.true))
    told x known batch

pub returns-in_default-clause-arrived : goal.returns-in_default-clause-arrived
returns-in_default-clause-arrived c w bodies x told h known batch request there =
    met_by c.args.self.now _ w bodies (Asked (Done c.args.exchange told c.args.air)) (Refused NoExchange)
    ((returns-in_default-clause-refused c).1)
    (refused_done c.args.self.now w bodies h c.args.exchange told c.args.air
    (c.in_default.ensures.taken ∙ ap (λ (z : TransmitValue).
    find (λ (k : Open). k.number == c.args.exchange) z.opened) c.self.view_is))

pub returns-clause-arrived : goal.returns-clause-arrived
returns-clause-arrived c w bodies x told h known batch request arrived =
    done_met c.self.view_is c.in-Some.ensures.taken
    (fine_then c.args.self.now (view_of c.self.inside) c.args.exchange c.args.air c.in-Some.open
    c.has_bad_air.result c.self.view_is c.has_bad_air.ensures c.if-has_bad_air.false c.in-Some.ensures.taken)
    (closes (view_of c.self.inside) (subst HasWorld (sym c.self.view_is) c.requires.some) c.args.exchange
    c.in-Some.open c.in-Some.ensures.taken c.args.air c.unwrap_or-charge.ensures c.in-Some.ensures.rest
    (paid_is (view_of c.self.inside) (subst HasWorld (sym c.self.view_is) c.requires.some)
    c.args.exchange c.in-Some.open c.in-Some.ensures.taken _ c.pay_back_ended.new.sched refl
    c.pay_back_ended.ensures)
    c.charge.ensures c.charge-2.ensures) c.settle-ended.ensures.settled c.settle-ended.ensures.reply
    c.of_tid-class.ensures c.list_in-is_ready.ensures.listed h told
    (λ k there. subst (λ (z : Exchange). GoesBy w z c.args.heard told)
    (let it : x ≡ k = cc (known, there) in it) (goes_arrived w x c.args.heard told batch request arrived))
    (λ k there fine. may_end_batch told w c.args.exchange k c.args.air there
    (ap (λ (z : Exchange). z.batch) (let it : k ≡ x = cc (known, there) in it) ∙ batch) fine)
