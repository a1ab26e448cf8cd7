-- Proves that an Arrive and an Answer change no part of a transmit half, which keeps nothing of receivers.
use Rattle.std.proofs.Common.{◌≡◌, refl, ap, ap₂, sym, ◌∙◌, subst, arith, ℕ, suc, ◌<◌, Bool, true, false, List, [], ◌∷◌, Some, map, inl, inr, eq-eqb}
use Rattle.std.specs.Prelude.{◌==◌, if◌then◌else◌, find}
use Rattle.std.proofs.lemmas.Bool.{cases_eq, ne_eqb}
use Rattle.wf_frame.specs.Frames.{FrameValue}
use Rattle.wf_def_agreement.specs.Receiver.{Receiver, score}
use Rattle.wf_def_lists.specs.Table.{with_member}
use Rattle.wf_def_world.specs.World.{World, Exchange, receiver, exchange, on_station, on_tid, with_station, on_receiver, with_exchange}
use Rattle.wf_def_world.specs.Exchanges.{after_arrival}
use Rattle.wf_def_world.specs.Step.{arrive_outcome, answer_outcome}
use Rattle.wf_law_runs.specs.Windows.{OpenRises}
use Rattle.wf_queue_flows_refines.proofs.Leaves.{receiver_alone, exchange_alone}
use Rattle.wf_send_parts.specs.declared.exchanges.opened.Open.{Open}
use Rattle.wf_send_parts.specs.Exchanges.{with_exchange_changed}
use Rattle.wf_sched_refines.proofs.Unchanged.{arrived_leaves, answered_leaves}
use Rattle.wf_send_half_model.specs.Half.{TransmitValue}
use Rattle.wf_send_half_model.specs.Standing.{open_of, Parts}
use Rattle.wf_send_half_model.specs.Views.{agreements, roster, ledger, HasSameViews}
use Rattle.wf_send_half_model.proofs.Views.{agreements_receiver, roster_receiver, ledger_receiver}
use Rattle.wf_send_half_model.proofs.Stands.{leaves_parts}
use Rattle.wf_send_half_model.proofs.Closes.{number_found}
use Rattle.wf_send_half_model.proofs.Listings.{views_then}

-- ---- an open exchange is marked

-- the open exchanges with the one of z's number replaced by z
abbrev pub marked : Exchange → List Exchange → List Exchange
marked z xs = map (λ y. if y.number == z.number then z else y) xs

none_marked : (xs : List Exchange) (z : Exchange) (lo hi : ℕ) → z.number < lo → OpenRises lo hi xs →
    marked z xs ≡ xs
none_marked [] z lo hi low rises = refl
none_marked (y ∷ ys) z lo hi low rises =
    let other : (y.number == z.number) ≡ false = ne_eqb y.number z.number
    (λ e. absurd (omega (arith, e, low, rises.0))) in
    ap₂ (λ (b : Bool) (t : List Exchange). (if b then z else y) ∷ t) other
    (none_marked ys z (suc y.number) hi (omega (arith, low, rises.0)) rises.2)

none_changed : (xs : List Exchange) (e lo hi : ℕ) (f : Open → Open) → e < lo → OpenRises lo hi xs →
    with_exchange_changed e f (map open_of xs) ≡ map open_of xs
none_changed [] e lo hi f low rises = refl
none_changed (y ∷ ys) e lo hi f low rises =
    let other : (y.number == e) ≡ false = ne_eqb y.number e (λ k. absurd (omega (arith, k, low, rises.0))) in
    ap₂ (λ (b : Bool) (t : List Open). (if b then f (open_of y) else open_of y) ∷ t) other
    (none_changed ys e (suc y.number) hi f (omega (arith, low, rises.0)) rises.2)

-- the half's open exchanges are changed alike
pub one_marked : (xs : List Exchange) (x z : Exchange) (e lo hi : ℕ) (f : Open → Open) → OpenRises lo hi xs →
    find (λ y. y.number == e) xs ≡ Some x → z.number ≡ e → open_of z ≡ f (open_of x) →
    map open_of (marked z xs) ≡ with_exchange_changed e f (map open_of xs)
one_marked [] x z e lo hi f rises found number same = absurd (cc found)
one_marked (y ∷ ys) x z e lo hi f rises found number same = elim (cases_eq y.number e) [
  | inl here ↦
      let is : (y.number == e) ≡ true = eq-eqb y.number e here in
      let first : (if y.number == e then Some y else find (λ (k : Exchange). k.number == e) ys) ≡ Some y =
      ap (λ (b : Bool). if b then Some y else find (λ (k : Exchange). k.number == e) ys) is in
      let it : y ≡ x = cc (first, found) in
      let head : (y.number == z.number) ≡ true = eq-eqb y.number z.number (here ∙ sym number) in
      ap₂ (λ (b : Bool) (t : List Exchange). map open_of ((if b then z else y) ∷ t)) head
      (none_marked ys z (suc y.number) hi (omega (arith, number, here)) rises.2)
      ∙ ap₂ (λ (k : Open) (t : List Open). k ∷ t) (same ∙ ap (λ (k : Exchange). f (open_of k)) (sym it))
      (sym (none_changed ys e (suc y.number) hi f (omega (arith, here)) rises.2))
      ∙ sym (ap (λ (b : Bool). (if b then f (open_of y) else open_of y)
      ∷ with_exchange_changed e f (map open_of ys)) is)
  | inr other ↦
      let is : (y.number == e) ≡ false = ne_eqb y.number e other in
      let later : find (λ (k : Exchange). k.number == e) ys ≡ Some x =
      sym (ap (λ (b : Bool). if b then Some y else find (λ (k : Exchange). k.number == e) ys) is)
      ∙ found in
      let head : (y.number == z.number) ≡ false = ne_eqb y.number z.number (λ k. other (k ∙ number)) in
      ap (λ (b : Bool). open_of (if b then z else y) ∷ map open_of (marked z ys)) head
      ∙ ap (λ (t : List Open). open_of y ∷ t) (one_marked ys x z e
      (suc y.number) hi f rises.2 later number same)
      ∙ sym (ap (λ (b : Bool). (if b then f (open_of y) else open_of y)
      ∷ with_exchange_changed e f (map open_of ys)) is)
]

-- what a half keeps of no exchange is changed
none_new : (xs : List Open) (e : ℕ) → with_exchange_changed e (λ x. x) xs ≡ xs
none_new [] e = refl
none_new (x ∷ xs) e = ap₂ (λ (k : Open) (t : List Open). k ∷ t) (either (x.number == e)) (none_new xs e)
  where
    either : (b : Bool) → (if b then x else x) ≡ x
    either true = refl
    either false = refl

same_marked : (xs : List Exchange) (x z : Exchange) (e lo hi : ℕ) → OpenRises lo hi xs →
    find (λ y. y.number == e) xs ≡ Some x → z.number ≡ e → open_of z ≡ open_of x →
    map open_of (marked z xs) ≡ map open_of xs
same_marked xs x z e lo hi rises found number same =
    one_marked xs x z e lo hi (λ y. y) rises found number same ∙ none_new (map open_of xs) e

pub agreements_exchange : (w : World) (z : Exchange) → agreements (with_exchange w z) ≡ agreements w
unfolding with_exchange
agreements_exchange w z = refl

pub ledger_exchange : (w : World) (z : Exchange) → ledger (with_exchange w z) ≡ ledger w
unfolding with_exchange
ledger_exchange w z = refl

roster_exchange : (w : World) (z : Exchange) → map open_of (marked z w.opened) ≡ map open_of w.opened →
    roster (with_exchange w z) ≡ roster w
unfolding with_exchange
roster_exchange w z same = ap (λ (xs : List Open). record (roster w) { opened = xs }) same

views_exchange : (w : World) (z : Exchange) → map open_of (marked z w.opened) ≡ map open_of w.opened →
    HasSameViews w (with_exchange w z)
views_exchange w z same = record {
  part = exchange_alone w z;
  agreements = agreements_exchange w z;
  roster =
      roster_exchange w z same;
  ledger = ledger_exchange w z;
}

views_receiver : (w : World) (s t : ℕ) (f : Receiver → Receiver) → HasSameViews w (on_receiver w s t f)
views_receiver w s t f = record {
  part = receiver_alone w s t f;
  agreements = agreements_receiver w s t f;
  roster = roster_receiver w s t f;
  ledger = ledger_receiver w s t f;
}

receiver_opened : (w : World) (s t : ℕ) (f : Receiver → Receiver) → (on_receiver w s t f).opened ≡ w.opened
unfolding on_receiver on_tid on_station with_station
receiver_opened w s t f = refl

module _ (v : TransmitValue) (w : World) (bodies : ℕ → FrameValue) (e : ℕ) (x : Exchange)
    (known : exchange w e ≡ Some x) (rises : OpenRises 0 w.exchanges w.opened) (h : Parts v w bodies) where
  number_is : x.number ≡ e
  number_is = number_found w.opened e x known

  arrived_views : (i : ℕ) → HasSameViews w (arrive_outcome w x i).world
  unfolding arrive_outcome
  arrived_views i =
      let u : World = on_receiver w x.station x.tid (after_arrival x.content i) in
      let z : Exchange = record x { arrived = with_member i x.arrived } in
      let opened : u.opened ≡ w.opened = receiver_opened w x.station x.tid (after_arrival x.content i) in
      views_then w u (with_exchange u z) (views_receiver w x.station x.tid (after_arrival x.content i))
      (views_exchange u z (subst (λ (xs : List Exchange). map open_of (marked z xs) ≡ map open_of xs)
      (sym opened) (same_marked w.opened x z e 0 w.exchanges rises known number_is refl)))

  answered_views : HasSameViews w (answer_outcome w x).world
  unfolding answer_outcome
  answered_views =
      let z : Exchange = record x { answer = Some (score (receiver w x.station x.tid)) } in
      views_exchange w z (same_marked w.opened x z e 0 w.exchanges rises known number_is refl)

  pub arrive_parts : (i : ℕ) → Parts v (arrive_outcome w x i).world bodies
  arrive_parts i = leaves_parts v w (arrive_outcome w x i).world bodies (arrived_views i)
      (arrived_leaves w x e i known rises) h

  pub answer_parts : Parts v (answer_outcome w x).world bodies
  answer_parts = leaves_parts v w (answer_outcome w x).world bodies answered_views
      (answered_leaves w x e known rises) h
