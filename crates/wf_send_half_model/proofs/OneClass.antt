-- Proves that an enqueue, a pull, a Done and a receive charge need to list their station in one class only:
-- that of the frame's TID, the pull's, that of the exchange's TID, and the charge's. Each other class in
-- which it belongs on a list lists it already.
use Rattle.std.proofs.Common.{◌≡◌, ap, sym, ◌∙◌, ℕ, Bool, true, Option, Some, None, inl, inr}
use Rattle.wf_frame.specs.declared.classes.Class.{Class}
use Rattle.wf_frame.specs.declared.notes.Note.TheVariants.{Enqueue, Asked}
use Rattle.wf_frame.specs.declared.notes.Ask.TheVariants.{Pull}
use Rattle.wf_frame.specs.declared.notes.Limits.{Limits}
use Rattle.wf_frame.specs.Classes.{class_of}
use Rattle.wf_def_lists.specs.Lengths.{greatest_body}
use Rattle.wf_def_rotation.specs.Rotation.{Rotation, has_key}
use Rattle.wf_def_world.specs.World.{World, Exchange, rotation, exchange}
use Rattle.wf_def_world.specs.CanSend.{is_ready, is_debtor, is_to_list}
use Rattle.wf_def_world.specs.Exchanges.{Prepared, picked_station, sending_tid, after_tid_turn, prepared_exchange}
use Rattle.wf_def_world.specs.Refusals.{refusal}
use Rattle.wf_def_world.specs.Step.{outcome_of, enqueue_outcome, pull_outcome_for, pull_outcome, done_outcome, rx_outcome}
use Rattle.wf_law_rules.proofs.Lemmas.Numbers.{either}
use Rattle.wf_law_runs.specs.Queues.{HasLength, IsAtMost}
use Rattle.wf_law_runs.proofs.Common.Picked.{picked_world}
use Rattle.wf_law_runs.proofs.Deficits.Books.{Books, books, same_number, updc_other}
use Rattle.wf_law_runs.proofs.Deficits.BookSteps.{books_after_turn, books_prepared, books_sent, books_ended, books_enqueued, books_after_pick}
use Rattle.wf_send_half_model.specs.Standing.{IsReached}
use Rattle.wf_send_half_model.specs.Readiness.{IsListedBut}
use Rattle.wf_send_half_model.proofs.Reached.{reached_step}
use Rattle.wf_send_half_model.proofs.Spared.{orderly_reached}
use Rattle.wf_send_half_model.proofs.OwnClass.{own_less}
use Rattle.wf_send_half_model.proofs.Pulled.{whole_less}
use Rattle.wf_send_half_model.proofs.Beyond.{own_ended}
use Rattle.wf_send_half_model.proofs.ChargedClass.{own_class}
use Rattle.wf_send_half_model.proofs.Debts.{debtor_enqueued, debtor_pulled, debtor_ended, debtor_received}
use Rattle.wf_send_half_model.proofs.Steady.{ready_received}
use Rattle.wf_send_half_model.proofs.Whole.{listed_where_ready, listed_where_debtor, rx_lists}

-- a class whose list is unchanged and in which the station became neither ready nor a debtor lists it, if it
-- belongs on a list there
still_listed : (w u : World) → IsReached w → (s : ℕ) (d : Class) → rotation u d ≡ rotation w d →
    (is_ready u d s ≡ true → is_ready w d s ≡ true) → is_debtor u d s ≡ is_debtor w d s →
    is_to_list u d s ≡ true → has_key (rotation u d) s ≡ true
still_listed w u r s d lists ready debts is = ap (λ (z : Rotation). has_key z s) lists
    ∙ elim (either (is_ready u d s) (is_debtor u d s) is) [
      | inl a ↦ listed_where_ready w r s d (ready a)
      | inr b ↦ listed_where_debtor w r s d (sym debts ∙ b)
    ]

pub enqueue_listed : (w : World) (s t flow len : ℕ) → IsReached w → HasLength (Enqueue s t flow len) →
    IsAtMost greatest_body (Enqueue s t flow len) → refusal w (Enqueue s t flow len) ≡ None →
    IsListedBut (outcome_of w (Enqueue s t flow len)).world s (class_of t)
unfolding outcome_of
enqueue_listed w s t flow len r some most done d other =
    still_listed w (enqueue_outcome w s t flow len).world r s d
    (ap (λ (b : Books). b.rotations d) (books_enqueued w s t flow len))
    (own_less w s t flow len (reached_step w (Enqueue s t flow len) r some most) done d
    (λ e. other (sym e)))
    (debtor_enqueued w s t flow len d s)

pull_lists : (w : World) (c d : Class) (l : Limits) (s : ℕ) → (picked_station w c).winner ≡ Some s →
    (d ≡ c → ⊥) →
    rotation (outcome_of w (Asked (Pull c l))).world d ≡ rotation w d
unfolding outcome_of pull_outcome pull_outcome_for
pull_lists w c d l s won other =
    let v : World = picked_world w c l in
    let t : ℕ = sending_tid v s c in
    let p : Prepared = prepared_exchange (after_tid_turn v s c t) s t in
    ap (λ (o : Option ℕ). rotation (pull_outcome_for v c o).world d) won
    ∙ ap (λ (b : Books). b.rotations d) (books_sent s t c p)
    ∙ ap (λ (b : Books). b.rotations d)
    (books_prepared (after_tid_turn v s c t) s t ∙ books_after_turn v s c t ∙ books_after_pick w c)
    ∙ updc_other (books w).rotations c d (picked_station w c).lists (λ e. other (same_number d c e))

pub pull_listed : (w : World) (c : Class) (l : Limits) (s : ℕ) → IsReached w →
    (picked_station w c).winner ≡ Some s →
    IsListedBut (outcome_of w (Asked (Pull c l))).world s c
pull_listed w c l s r won d other =
    still_listed w (outcome_of w (Asked (Pull c l))).world r s d (pull_lists w c d l s won other)
    (whole_less w c l s r won d (λ e. other (sym e)))
    (debtor_pulled w c d l s won other)

pub done_listed : (w : World) (e : ℕ) (x : Exchange) (heard : Bool) (air : Option ℕ) → IsReached w →
    exchange w e ≡ Some x → IsListedBut (done_outcome w x heard air).world x.station (class_of x.tid)
done_listed w e x heard air r known d other =
    still_listed w (done_outcome w x heard air).world r x.station d
    (ap (λ (b : Books). b.rotations d) (books_ended air w x heard))
    (λ is. sym (own_ended w e x heard air (orderly_reached w r).kept (own_class w r) known d
    (λ k. other (sym k))) ∙ is)
    (debtor_ended w e x heard air (orderly_reached w r).kept (own_class w r) known d (λ k. other (sym k)))

pub rx_listed : (w : World) (s : ℕ) (c : Class) (air : ℕ) → IsReached w →
    IsListedBut (rx_outcome w s c air).world s c
rx_listed w s c air r d other =
    still_listed w (rx_outcome w s c air).world r s d (rx_lists w s c air d)
    (λ is. sym (ready_received w s c air d) ∙ is)
    (debtor_received w s c air d other)
