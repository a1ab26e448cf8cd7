-- Proves that what holds after each kind of change of the books holds after a call, with the setting
-- `pending` and charges within err of the computed airtime. By cases of the call.
use Rattle.std.proofs.Common.{◌≡◌, refl, sym, ◌∙◌, subst, ℕ, ◌<◌, Bool, false, Option, Some, None, is_some, IfSome, option_map, ◌==◌, find, eq-eqb}
use Rattle.std.proofs.lemmas.Bool.{and_parts, not-false, leb-true}
use Rattle.wf_frame.specs.declared.classes.Class.{Class}
use Rattle.wf_frame.specs.declared.notes.Ask.TheVariants.{Join, Leave, Rate, Tick, Pull, Arrive, Answer, Done, Sleep, Wake, Poll, Rx, Reap, Ampdu, Stop, Start, Unsent, GiveUp, Flush, Offload, Weight, Plain, Hold, Begin, Free, Cease, Group, Service, Bss}
use Rattle.wf_frame.specs.declared.notes.AskedRate.{AskedRate}
use Rattle.wf_frame.specs.declared.notes.Limits.{Limits}
use Rattle.wf_frame.specs.declared.notes.Note.{Note}
use Rattle.wf_frame.specs.declared.notes.Note.TheVariants.{Enqueue, Asked}
use Rattle.wf_frame.specs.declared.notes.Refusal.{Refusal}
use Rattle.wf_frame.specs.declared.notes.Refusal.TheVariants.{Idle}
use Rattle.wf_def_lists.specs.Table.{at}
use Rattle.wf_def_world.specs.World.{World, Exchange, exchange}
use Rattle.wf_def_world.specs.CanSend.{with_listings_of}
use Rattle.wf_def_world.specs.Exchanges.{picked_station, charge_of}
use Rattle.wf_def_world.specs.Refusals.{refusals, refusal}
use Rattle.wf_def_world.specs.Step.{Outcome, tick_outcome, pull_outcome, done_outcome, outcome_where_open, outcome_of, concerned_station, after_refusal, judged_outcome, step}
use Rattle.wf_law_runs.specs.Deficits.{IsNear}
use Rattle.wf_law_runs.specs.Shares.{ChargesWithin}
use Rattle.wf_law_runs.proofs.Common.Refused.{if_idle}
use Rattle.wf_law_runs.proofs.Common.Limits.{with_limits}
use Rattle.wf_law_runs.proofs.Deficits.Books.{core, Books, books, with_account, on_part}
use Rattle.wf_law_runs.proofs.Deficits.BookSteps.{with_opened, with_charge, without, receive_share, rated, after, books_ended, books_gone, all_off, books_enqueued, books_received, books_reaped, books_slept, books_woken, books_credited, books_with_rate, fresh_account, books_joined, books_after_pick, books_stated, books_stopped, books_started, books_flushed, books_offloaded, books_weighed, with_weight, books_joined_plain, books_held, books_begun, books_freed, books_ceased, books_served, books_moved}
use Rattle.wf_law_runs.proofs.Deficits.Kept.{IsKept}
use Rattle.wf_law_runs.proofs.Deficits.KeptStep.{NoRow, no_row, live_account, IsFound, at_number, books_arrived, books_unsent, books_given_up, books_answered, kept_done}
use Rattle.wf_law_runs.proofs.Deficits.Listing.{IsLonger, longer_listed}
use Rattle.wf_law_runs.proofs.Shares.Turns.{pulled_by}

-- P holds after each kind of change of the books of w.
pub record Changes (err : ℕ) (w : World) (P : Books → Type 0) : Type 0 where
  pub same : P (books w)
  pub joined : (i weight : ℕ) → is_some ((books w).accounts i) ≡ false → 0 < weight →
      P (with_account (books w) i (Some (fresh_account w.config.quantum weight)))
  pub weighed : (i weight : ℕ) → 0 < weight → P (with_weight (books w) i weight)
  pub gone : (i : ℕ) → P (with_account (all_off (books w) i) i None)
  pub rates : (i : ℕ) (rate : AskedRate) →
      P (with_account (books w) i (option_map (rated rate) ((books w).accounts i)))
  pub heard : (i : ℕ) (d : Class) (air : ℕ) → 0 < air →
      P (with_account (books w) i (option_map (on_part d (receive_share air)) ((books w).accounts i)))
  pub ended : (x : Exchange) (n : ℕ) → find (λ z. z.number == x.number) (books w).opened ≡ Some x →
      IsNear err n x.charge → P (with_charge (without (books w) x.number) x.station x.class n)
  pub picked : (d : Class) → P (after (books w) d (picked_station w d))
  pub sent : (d : Class) (k : ℕ) (x : Exchange) → (picked_station w d).winner ≡ Some k → x.station ≡ k →
      x.class ≡ d → IsKept (with_opened (after (books w) d (picked_station w d)) x) →
      P (with_opened (after (books w) d (picked_station w d)) x)
  -- P depends only on the settings, the accounts and the open exchanges.
  pub lists : (b b' : Books) → b'.config ≡ b.config → b'.accounts ≡ b.accounts → b'.opened ≡ b.opened → P b →
      P b'

module _ (err : ℕ) (w : World) (P : Books → Type 0) (kept : IsKept (books w)) (p : Changes err w P) where
  changed : (b b' : Books) → b ≡ b' → P b' → P b
  changed b b' e h = subst P (sym e) h

  changes_open : (o : Option Exchange) (e : ℕ) (f : Exchange → Outcome) → exchange w e ≡ o →
      ((x : Exchange) → IsFound w e x → P (books (f x).world)) → P (books (outcome_where_open w o f).world)
  unfolding outcome_where_open
  changes_open None e f k h = p.same
  changes_open (Some x) e f k h = h x k

  changes_ended : (e : ℕ) (heard : Bool) (air : Option ℕ) (o : Option Exchange) → exchange w e ≡ o →
      IfSome o (λ x. IsNear err (charge_of air x) x.charge) →
      P (books (outcome_where_open w o (λ x. done_outcome w x heard air)).world)
  unfolding outcome_where_open
  changes_ended e heard air None k near = p.same
  changes_ended e heard air (Some x) k near = changed _ _ (books_ended air w x heard)
      (p.ended (core x) (charge_of air x) (at_number w e x k) near)

  changes_pulled : (d : Class) (l : Limits) → IsKept (books (pull_outcome w d l).world) →
      P (books (pull_outcome w d l).world)
  unfolding pull_outcome
  changes_pulled d l = pulled_by (λ b. IsKept b → P b) (picked_station w d).winner (with_limits w d l) d
      (λ _ _. changed _ _ (books_after_pick w d) (p.picked d))
      (λ k x won own of. subst (λ (b : Books). IsKept (with_opened b x) → P (with_opened b x))
      (sym (books_after_pick w d)) (p.sent d k x won own of))

  changes_done : (note : Note) → refusal w note ≡ None → NoRow (refusals w note) → ChargesWithin err w note →
      IsKept (books (outcome_of w note).world) → P (books (outcome_of w note).world)
  unfolding outcome_of tick_outcome
  changes_done (Enqueue i t flow len) fine r near k = changed _ _ (books_enqueued w i t flow len) p.same
  changes_done (Asked (Join i window start exponent weight)) fine r near k =
      changed _ _ (books_joined w i window start exponent weight)
      (p.joined i weight (live_account (at None w.stations i) ∙ r.1.1.1.1.1.0)
      (leb-true _ _ (and_parts _ _ (not-false _ r.1.1.1.1.0)).0))
  changes_done (Asked (Offload i exponent weight)) fine r near k =
      changed _ _ (books_offloaded w i exponent weight)
      (p.joined i weight (live_account (at None w.stations i) ∙ r.1.1.1.0)
      (leb-true _ _ (and_parts _ _ (not-false _ r.1.1.0)).0))
  changes_done (Asked (Plain i start exponent weight)) fine r near k =
      changed _ _ (books_joined_plain w i start exponent weight)
      (p.joined i weight (live_account (at None w.stations i) ∙ r.1.1.1.1.0)
      (leb-true _ _ (and_parts _ _ (not-false _ r.1.1.1.0)).0))
  changes_done (Asked (Weight i weight)) fine r near k = changed _ _ (books_weighed w i weight)
      (p.weighed i weight (leb-true _ _ (and_parts _ _ (not-false _ r.1.0)).0))
  changes_done (Asked (Leave i)) fine r near k = changed _ _ (books_gone w i) (p.gone i)
  changes_done (Asked (Rate i rate)) fine r near k = changed _ _ (books_with_rate w i rate) (p.rates i rate)
  changes_done (Asked (Tick by)) fine r near k = p.same
  changes_done (Asked (Pull d l)) fine r near k = changes_pulled d l k
  changes_done (Asked (Arrive e j)) fine r near k = changes_open (exchange w e) e _ refl
      (λ x f. changed _ _ (books_arrived w e j x kept f) p.same)
  changes_done (Asked (Unsent e j)) fine r near k = changes_open (exchange w e) e _ refl
      (λ x f. changed _ _ (books_unsent w e j x kept f) p.same)
  changes_done (Asked (GiveUp e j)) fine r near k = changes_open (exchange w e) e _ refl
      (λ x f. changed _ _ (books_given_up w e j x kept f) p.same)
  changes_done (Asked (Answer e)) fine r near k = changes_open (exchange w e) e _ refl
      (λ x f. changed _ _ (books_answered w e x kept f) p.same)
  changes_done (Asked (Done e heard air)) fine r near k =
      changes_ended e heard air (exchange w e) refl (near fine)
  changes_done (Asked (Sleep i)) fine r near k = changed _ _ (books_slept w i) p.same
  changes_done (Asked (Ampdu i octets)) fine r near k = changed _ _ (books_stated w i octets) p.same
  changes_done (Asked (Stop i)) fine r near k = changed _ _ (books_stopped w i) p.same
  changes_done (Asked (Start i)) fine r near k = changed _ _ (books_started w i) p.same
  changes_done (Asked (Flush i t)) fine r near k = changed _ _ (books_flushed w i t) p.same
  changes_done (Asked (Hold i t)) fine r near k = changed _ _ (books_held w i t) p.same
  changes_done (Asked (Begin i t window)) fine r near k = changed _ _ (books_begun w i t window) p.same
  changes_done (Asked (Free i t)) fine r near k = changed _ _ (books_freed w i t) p.same
  changes_done (Asked (Cease i t)) fine r near k = changed _ _ (books_ceased w i t) p.same
  changes_done (Asked (Wake i)) fine r near k = changed _ _ (books_woken w i) p.same
  changes_done (Asked (Poll i)) fine r near k = changed _ _ (books_credited w i) p.same
  changes_done (Asked (Rx i d air)) fine r near k = changed _ _ (books_received w i d air)
      (p.heard i d air (leb-true _ _ (and_parts _ _ (not-false _ r.1.0)).0))
  changes_done (Asked Reap) fine r near k = changed _ _ (books_reaped w.finished w) p.same
  changes_done (Asked (Group ask)) fine r near k = p.same
  changes_done (Asked (Service ask)) fine r near k = changed _ _ (books_served w ask) p.same
  changes_done (Asked (Bss i b)) fine r near k = changed _ _ (books_moved w i b) p.same

  changes_refused : (note : Note) (r : Refusal) → w.config.pending ≡ 1 → P (books (after_refusal w note r))
  unfolding after_refusal
  changes_refused (Asked (Pull d l)) Idle counting = if_idle (λ v. P (books v)) w d p.same
      (λ off. absurd (cc (eq-eqb w.config.pending 1 counting, off)))
  changes_refused _ _ counting = p.same

  changes_answer : (r : Option Refusal) (note : Note) → refusal w note ≡ r → w.config.pending ≡ 1 →
      ChargesWithin err w note → P (books (judged_outcome w note r).world)
  unfolding judged_outcome
  changes_answer (Some r) note e counting near = changes_refused note r counting
  changes_answer None note e counting near =
      let v : World = (outcome_of w note).world in
      let l : IsLonger v (with_listings_of v (concerned_station w note)) =
      longer_listed (concerned_station w note) v in
      p.lists (books v) (books (with_listings_of v (concerned_station w note))) l.config l.accounts l.opened
      (changes_done note e (no_row (refusals w note) e) near
      (kept_done note w (no_row (refusals w note) e) kept))

  pub changes_step : (note : Note) → w.config.pending ≡ 1 → ChargesWithin err w note →
      P (books (step w note).world)
  unfolding step
  changes_step note counting near = changes_answer (refusal w note) note refl counting near
