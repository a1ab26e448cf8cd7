-- Proves what the inferred calls leave: transmissions of one exchange arrive, one after another, and then
-- the receiver answers. By induction over the transmissions.
use Rattle.std.proofs.Common.{◌≡◌, ◌≢◌, refl, ap, sym, ◌∙◌, subst, arith, ℕ, suc, ◌<◌, ◌≤◌, ◌==◌, nat_le, Bool, true, false, ◌||◌, ◌⊎◌, inl, inr, List, [], ◌∷◌, ◌++◌, append-nil, length, find, Option, Some, None, is_some, is_none}
use Rattle.wf_frame.specs.declared.notes.Ask.TheVariants.{Arrive, Answer}
use Rattle.wf_frame.specs.declared.notes.Note.TheVariants.{Asked}
use Rattle.wf_def_lists.specs.Table.{at, has, with_member}
use Rattle.wf_def_agreement.specs.Receiver.{Receiver, Score, score}
use Rattle.wf_law_rules.proofs.Lemmas.Numbers.{has_new, has_old, has_one, on_bool}
use Rattle.wf_def_world.specs.World.{World, Tid, Exchange, Content, Frames, Request, session, receiver, is_live, exchange, on_tid, on_receiver, with_exchange}
use Rattle.wf_def_world.specs.CanSend.{with_listings_of}
use Rattle.wf_def_world.specs.Exchanges.{transmissions, no_mpdu, after_arrival}
use Rattle.wf_def_world.specs.Refusals.{refusal, exchange_has}
use Rattle.wf_def_world.specs.Step.{arrive_outcome, answer_outcome, outcome_where_open, outcome_of, station_of, step}
use Rattle.wf_def_world.specs.Run.{Entry, by, world_after}
use Rattle.wf_law_runs.proofs.Windows.Sides.{Side, Same, each_side_on, side_on, on_live, on_opened, same_listed}
use Rattle.wf_law_runs.proofs.Windows.Opened.{Each}
use Rattle.wf_law_runs.proofs.Frames.Fates.{world_after-append}
use Rattle.wf_law_runs.proofs.Windows.Agreed.{each_map_if, with_member_some}
use Rattle.wf_law_driver.specs.Inferred.{arrivals, answer_inferred, AreAnswered}
use Rattle.wf_law_driver.specs.Unheard.{unmarked, IsUnmarked}
use Rattle.wf_law_driver.proofs.Opened.{found_replaced, found_number, none_refuses, step_done, one_entry, with_replaced}

-- n is the number of transmission i
abbrev pub IsNumber : Content → ℕ → ℕ → Type 0
IsNumber (Frames ms) i n = (at no_mpdu ms i).number ≡ n
IsNumber (Request f) i n = ⊥

-- n is the number of one of these transmissions
abbrev pub IsAmong : Content → List ℕ → ℕ → Type 0
IsAmong c [] n = ⊥
IsAmong c (i ∷ is) n = IsNumber c i n ⊎ IsAmong c is n

-- indices that rise, from lo on and below hi
abbrev pub AreIndices : ℕ → ℕ → List ℕ → Type 0
AreIndices lo hi [] = Unit {0}
AreIndices lo hi (i ∷ is) = (lo ≤ i) × (i < hi) × AreIndices (suc i) hi is

-- none of these transmissions is in a list
abbrev pub AreNotIn : List ℕ → List ℕ → Type 0
AreNotIn xs [] = Unit {0}
AreNotIn xs (i ∷ is) = (has xs i ≡ false) × AreNotIn xs is

-- all of these transmissions are in a list
abbrev pub AreIn : List ℕ → List ℕ → Type 0
AreIn xs [] = Unit {0}
AreIn xs (i ∷ is) = (has xs i ≡ true) × AreIn xs is

-- an exchange with another number has no mark
abbrev pub IsOther : ℕ → Exchange → Type 0
IsOther e y = y.number ≢ e → IsUnmarked y

-- From v to u only exchange e changed, from x to z, and what its receiver has: it got the numbers for which
-- G holds.
pub record IsAfter (e : ℕ) (x z : Exchange) (G : ℕ → Type 0) (v u : World) : Type 0 where
  pub found : exchange u e ≡ Some z
  pub same : unmarked z ≡ unmarked x
  pub others : Each (IsOther e) v.opened → Each (IsOther e) u.opened
  pub sessions : (i j : ℕ) → session u i j ≡ session v i j
  pub live : (i : ℕ) → is_live u i ≡ is_live v i
  pub old : (i j n : ℕ) → has (receiver u i j).arrived n ≡ true → (has (receiver v i j).arrived n ≡ true) ⊎
      ((x.station ≡ i) × (x.tid ≡ j) × G n)
  pub kept : (i j n : ℕ) → has (receiver v i j).arrived n ≡ true → has (receiver u i j).arrived n ≡ true
  pub new : is_live v x.station ≡ true → (n : ℕ) → G n → has (receiver u x.station x.tid).arrived n ≡ true

-- the exchange after its transmission k arrived, and after its receiver answered
abbrev pub with_arrival : ℕ → Exchange → Exchange
with_arrival k x = record x { arrived = with_member k x.arrived }

abbrev pub with_answer : Score → Exchange → Exchange
with_answer b x = record x { answer = Some b }

-- the answer that the exchange's receiver gives
abbrev pub answer_now : World → Exchange → Score
answer_now v x = score (receiver v x.station x.tid)

-- ---- one arrival

arrived_old : (c : Content) (i : ℕ) (r : Receiver) (n : ℕ) → has (after_arrival c i r).arrived n ≡ true →
    (has r.arrived n ≡ true) ⊎ IsNumber c i n
arrived_old (Frames ms) i r n h = elim (has_one r.arrived (at no_mpdu ms i).number n h) [
  | inl e ↦
      inr e
  | inr k ↦ inl k
]
arrived_old (Request f) i r n h = inl h

arrived_kept : (c : Content) (i : ℕ) (r : Receiver) (n : ℕ) → has r.arrived n ≡ true →
    has (after_arrival c i r).arrived n ≡ true
arrived_kept (Frames ms) i r n h = has_old r.arrived (at no_mpdu ms i).number n h
arrived_kept (Request f) i r n h = h

arrived_new : (c : Content) (i : ℕ) (r : Receiver) (n : ℕ) → IsNumber c i n →
    has (after_arrival c i r).arrived n ≡ true
arrived_new (Frames ms) i r n e = subst (λ (k : ℕ). has (with_member (at no_mpdu ms i).number r.arrived) k
    ≡ true) e (has_new r.arrived (at no_mpdu ms i).number)
arrived_new (Request f) i r n e = absurd e

-- the world after an arrival, before its station is listed
arrived_world : (v : World) (e : ℕ) (x : Exchange) (k : ℕ) → exchange v e ≡ Some x →
    IsAfter e x (with_arrival k x) (IsNumber x.content k) v (arrive_outcome v x k).world
unfolding arrive_outcome with_exchange on_receiver
arrived_world v e x k found =
    let z : Exchange = with_arrival k x in
    let r : Receiver = receiver v x.station x.tid in
    let g : Tid → Tid = λ (y : Tid). record y { receiver = after_arrival x.content k y.receiver } in
    let number : x.number ≡ e = found_number v e x found in
    let same_opened : (on_tid v x.station x.tid g).opened ≡ v.opened = on_opened v x.station x.tid g in
    record {
      found = subst (λ (xs : List Exchange). find (λ y. y.number == e) (with_replaced z xs) ≡ Some z)
          (sym same_opened) (found_replaced v.opened e x z found number);
      same = refl;
      others = λ h. subst (λ (xs : List Exchange). Each (IsOther e) (with_replaced z xs)) (sym same_opened)
          (each_map_if (IsOther e) (IsOther e) (λ y. y.number == z.number) z v.opened
          (λ other. absurd (other number)) (λ y _ o. o) h);
      sessions = each_side_on (λ i j a. a.session ≡ session v i j) v x.station x.tid g (λ i j. refl) refl;
      live = on_live v x.station x.tid g;
      old = λ i j n. each_side_on (λ a b s. has s.receiver.arrived n ≡ true →
          (has (receiver v a b).arrived n ≡ true) ⊎ ((x.station ≡ a) × (x.tid ≡ b) × IsNumber x.content k n))
          v x.station x.tid g
          (λ a b h. inl h) (λ h. elim (arrived_old x.content k r n h) [
            | inl was ↦ inl was
            | inr is ↦
                inr (refl, refl, is)
          ]) i j;
      kept = λ i j n. each_side_on (λ a b s. has (receiver v a b).arrived n ≡ true →
          has s.receiver.arrived n ≡ true) v x.station x.tid g (λ a b h. h)
          (arrived_kept x.content k r n) i j;
      new = λ live n is. subst (λ (s : Side). has s.receiver.arrived n ≡ true)
          (sym (side_on v x.station x.tid g live)) (arrived_new x.content k r n is);
    }

-- this also holds in a world with the same receivers, sessions, live stations and open exchanges
after_same : (e : ℕ) (x z : Exchange) (G : ℕ → Type 0) (v u t : World) → Same u t → IsAfter e x z G v u →
    IsAfter e x z G v t
after_same e x z G v u t h a = record {
  found = ap (find (λ y. y.number == e)) h.opened ∙ a.found;
  same = a.same;
  others = λ o. subst (Each (IsOther e)) (sym h.opened) (a.others o);
  sessions = λ i j. ap (λ (s : Side). s.session) (h.sides i j) ∙ a.sessions i j;
  live = λ i. h.live i ∙ a.live i;
  old = λ i j n has_it. a.old i j n (ap (λ (s : Side). has s.receiver.arrived n) (sym (h.sides i j))
      ∙ has_it);
  kept = λ i j n has_it. ap (λ (s : Side). has s.receiver.arrived n) (h.sides i j) ∙ a.kept i j n has_it;
  new = λ live n is. ap (λ (s : Side). has s.receiver.arrived n) (h.sides x.station x.tid) ∙ a.new live n is;
}

-- an Arrive is not refused if no answer is kept, and the transmission went on the air and has not arrived
not_refused : (v : World) (e : ℕ) (x : Exchange) (k : ℕ) → exchange v e ≡ Some x → x.answer ≡ None →
    has x.arrived k ≡ false → has x.unsent k ≡ false → k < transmissions x.content →
    refusal v (Asked (Arrive e k)) ≡ None
not_refused v e x k found open_still fresh sent within = none_refuses _ (
  ap is_none found,
  (
    ap (λ (o : Option Exchange). exchange_has o (λ y. nat_le (transmissions y.content) k)) found
        ∙ not_le (transmissions x.content) k within,
    (
      ap (λ (o : Option Exchange). exchange_has o (λ y. is_some y.answer)) found ∙ ap is_some open_still,
      (
        ap (λ (o : Option Exchange). exchange_has o (λ y. has y.arrived k)) found ∙ fresh,
        (ap (λ (o : Option Exchange). exchange_has o (λ y. has y.unsent k)) found ∙ sent, tt),
      ),
    ),
  ),
)
  where
    not_le : (a b : ℕ) → b < a → nat_le a b ≡ false
    not_le a b h = grind arith

arrived_step : (v : World) (e : ℕ) (x : Exchange) (k : ℕ) → exchange v e ≡ Some x →
    refusal v (Asked (Arrive e k)) ≡ None → IsAfter e x (with_arrival k x) (IsNumber x.content k) v
    (step v (Asked (Arrive e k))).world
unfolding outcome_of outcome_where_open
arrived_step v e x k found fine =
    let u : World = (arrive_outcome v x k).world in
    let same_step : (step v (Asked (Arrive e k))).world ≡ with_listings_of u (Some x.station) =
    step_done v (Asked (Arrive e k)) fine ∙ ap
    (λ (o : Option Exchange). with_listings_of (outcome_where_open v o (λ y. arrive_outcome v y k)).world
    (station_of o)) found in
    subst (IsAfter e x (with_arrival k x) (IsNumber x.content k) v) (sym same_step)
    (after_same e x (with_arrival k x) (IsNumber x.content k) v u _ (same_listed (Some x.station) u)
    (arrived_world v e x k found))

-- ---- one change after another

pub after_then : (e : ℕ) (x z y : Exchange) (G H : ℕ → Type 0) (v u t : World) → IsAfter e x z G v u →
    IsAfter e z y H u t → IsAfter e x y (λ n. G n ⊎ H n) v t
after_then e x z y G H v u t f s =
    let station : z.station ≡ x.station = ap (λ (q : Exchange). q.station) f.same in
    let tid : z.tid ≡ x.tid = ap (λ (q : Exchange). q.tid) f.same in
    record {
      found = s.found;
      same = s.same ∙ f.same;
      others = λ o. s.others (f.others o);
      sessions = λ i j. s.sessions i j ∙ f.sessions i j;
      live = λ i. s.live i ∙ f.live i;
      old = λ i j n h. elim (s.old i j n h) [
        | inl was ↦ earlier i j n (f.old i j n was)
        | inr is ↦ inr (sym station ∙ is.0, sym tid ∙ is.1, inr is.2)
      ];
      kept = λ i j n h. s.kept i j n (f.kept i j n h);
      new = λ live n k. elim k [
        | inl g ↦ s.kept x.station x.tid n (f.new live n g)
        | inr h ↦ subst (λ (a : ℕ). has (receiver t a x.tid).arrived n ≡ true) station
            (subst (λ (b : ℕ). has (receiver t z.station b).arrived n ≡ true) tid
            (s.new (ap (is_live u) station ∙ (f.live x.station ∙ live)) n h))
      ];
    }
  where
    earlier : (i j n : ℕ) → (has (receiver v i j).arrived n ≡ true) ⊎ ((x.station ≡ i) × (x.tid ≡ j) × G n) →
        (has (receiver v i j).arrived n ≡ true) ⊎ ((x.station ≡ i) × (x.tid ≡ j) × (G n ⊎ H n))
    earlier i j n (inl was) = inl was
    earlier i j n (inr is) = inr (is.0, is.1, inl is.2)

-- the same for a predicate that holds for the same numbers
pub after_of : (e : ℕ) (x z : Exchange) (G H : ℕ → Type 0) (v u : World) → ((n : ℕ) → G n → H n) →
    ((n : ℕ) → H n → G n) → IsAfter e x z G v u → IsAfter e x z H v u
after_of e x z G H v u there back a = record {
  found = a.found;
  same = a.same;
  others = a.others;
  sessions = a.sessions;
  live = a.live;
  old = λ i j n h. go i j n (a.old i j n h);
  kept = a.kept;
  new = λ live n k. a.new live n (back n k);
}
  where
    go : (i j n : ℕ) → (has (receiver v i j).arrived n ≡ true) ⊎ ((x.station ≡ i) × (x.tid ≡ j) × G n) →
        (has (receiver v i j).arrived n ≡ true) ⊎ ((x.station ≡ i) × (x.tid ≡ j) × H n)
    go i j n (inl was) = inl was
    go i j n (inr is) = inr (is.0, is.1, there n is.2)

-- ---- arrivals of these transmissions, in order

pub record AllArrive (caller e : ℕ) (x : Exchange) (is : List ℕ) (v : World) : Type 0 where
  pub last : Exchange
  pub answered : AreAnswered v (arrivals caller e is)
  pub after : IsAfter e x last (IsAmong x.content is) v (world_after v (arrivals caller e is))
  pub silent : last.answer ≡ None
  pub still : (length x.arrived == 0) ≡ false → (length last.arrived == 0) ≡ false
  pub marked : is ≢ [] → (length last.arrived == 0) ≡ false
  pub stays : (k : ℕ) → has x.arrived k ≡ true → has last.arrived k ≡ true
  pub reached : AreIn last.arrived is

pub all_arrive : (is : List ℕ) (lo caller e : ℕ) (v : World) (x : Exchange) → exchange v e ≡ Some x →
    x.answer ≡ None → ((k : ℕ) → has x.arrived k ≡ true → k < lo) →
    AreIndices lo (transmissions x.content) is → AreNotIn x.unsent is → AllArrive caller e x is v
unfolding world_after
all_arrive [] lo caller e v x found none below r sent = record {
  last = x;
  answered = tt;
  after = record {
    found = found;
    same = refl;
    others = λ o. o;
    sessions = λ i j. refl;
    live = λ i. refl;
    old = λ i j n h. inl h;
    kept = λ i j n h. h;
    new = λ live n k. absurd k;
  };
  silent = none;
  still = λ h. h;
  marked = λ some. absurd (some refl);
  stays = λ k h. h;
  reached = tt;
}
all_arrive (i ∷ is) lo caller e v x found none below r sent =
    let z : Exchange = with_arrival i x in
    let u : World = (step v (Asked (Arrive e i))).world in
    let fresh : has x.arrived i ≡ false = on_bool (has x.arrived i)
    (λ h. absurd (omega (arith, below i h, r.0))) (λ h. h) in
    let fine : refusal v (Asked (Arrive e i)) ≡ None = not_refused v e x i found none fresh sent.0 r.1 in
    let first : IsAfter e x z (IsNumber x.content i) v u = arrived_step v e x i found fine in
    let rest : AllArrive caller e z is u = all_arrive is (suc i) caller e u z first.found none
    (λ k h. elim (has_one x.arrived i k h) [
      | inl here ↦ omega (arith, here)
      | inr was ↦
          omega (arith, below k was, r.0)
    ]) r.2 sent.1 in
    record {
      last = rest.last;
      answered = (fine, rest.answered);
      after = after_then e x z rest.last (IsNumber x.content i) (IsAmong x.content is) v u _ first rest.after;
      silent = rest.silent;
      still = λ _. rest.still (with_member_some x.arrived i);
      marked = λ _. rest.still (with_member_some x.arrived i);
      stays = λ k h. rest.stays k (has_old x.arrived i k h);
      reached = (rest.stays i (has_new x.arrived i), rest.reached);
    }

-- ---- the answer

answered_world : (v : World) (e : ℕ) (x : Exchange) → exchange v e ≡ Some x →
    IsAfter e x (with_answer (answer_now v x) x) (λ n. ⊥) v (answer_outcome v x).world
unfolding answer_outcome with_exchange
answered_world v e x found =
    let z : Exchange = with_answer (answer_now v x) x in
    let number : x.number ≡ e = found_number v e x found in
    record {
      found = found_replaced v.opened e x z found number;
      same = refl;
      others = λ h. each_map_if (IsOther e) (IsOther e) (λ y. y.number == z.number) z v.opened
          (λ other. absurd (other number)) (λ y _ o. o) h;
      sessions = λ i j. refl;
      live = λ i. refl;
      old = λ i j n h. inl h;
      kept = λ i j n h. h;
      new = λ live n k. absurd k;
    }

pub may_answer : (v : World) (e : ℕ) (x : Exchange) → exchange v e ≡ Some x → x.batch ≡ false →
    x.answer ≡ None → (length x.arrived == 0) ≡ false → refusal v (Asked (Answer e)) ≡ None
may_answer v e x found unbatched none marked = none_refuses _ (
  ap is_none found,
  (
    ap (λ (o : Option Exchange). exchange_has o (λ y. is_some y.answer)) found ∙ ap is_some none,
    (
      ap (λ (o : Option Exchange). exchange_has o (λ y. y.batch || (length y.arrived == 0))) found
          ∙ (ap (λ (b : Bool). b || (length x.arrived == 0)) unbatched ∙ marked),
      tt,
    ),
  ),
)

pub answered_step : (v : World) (e : ℕ) (x : Exchange) → exchange v e ≡ Some x →
    refusal v (Asked (Answer e)) ≡ None → IsAfter e x (with_answer (answer_now v x) x) (λ n. ⊥) v
    (step v (Asked (Answer e))).world
unfolding outcome_of outcome_where_open
answered_step v e x found fine =
    let z : Exchange = with_answer (answer_now v x) x in
    let u : World = (answer_outcome v x).world in
    let same_step : (step v (Asked (Answer e))).world ≡ with_listings_of u (Some x.station) =
    step_done v (Asked (Answer e)) fine ∙ ap (λ (o : Option Exchange).
    with_listings_of (outcome_where_open v o (λ y. answer_outcome v y)).world (station_of o)) found in
    subst (IsAfter e x z (λ n. ⊥) v) (sym same_step)
    (after_same e x z (λ n. ⊥) v u _ (same_listed (Some x.station) u) (answered_world v e x found))

-- ---- all inferred calls

answered_append : (xs ys : List Entry) (w : World) → AreAnswered w xs → AreAnswered (world_after w xs) ys →
    AreAnswered w (xs ++ ys)
unfolding world_after
answered_append [] ys w a b = b
answered_append (x ∷ xs) ys w a b = (a.0, answered_append xs ys (step w x.1).world a.1 b)

-- after the arrivals of these transmissions and, if the exchange is no batch, an answer
pub record AllInferred (batch : Bool) (caller e : ℕ) (x : Exchange) (is : List ℕ) (w : World) : Type 0 where
  pub last : Exchange
  pub answer : Score
  pub answered : AreAnswered w (arrivals caller e is ++ answer_inferred batch caller e is)
  pub after : IsAfter e x last (IsAmong x.content is) w
      (world_after w (arrivals caller e is ++ answer_inferred batch caller e is))
  pub kept : batch ≡ false → last.answer ≡ Some answer
  pub reached : AreIn last.arrived is

pub all_inferred : (batch : Bool) (i : ℕ) (is : List ℕ) (caller e : ℕ) (w : World) (x : Exchange) →
    exchange w e ≡ Some x → x.batch ≡ batch → IsUnmarked x → AreIndices 0 (transmissions x.content) (i ∷ is) →
    AreNotIn x.unsent (i ∷ is) → AllInferred batch caller e x (i ∷ is) w
all_inferred true i is caller e w x found batch un r sent =
    let entries : List Entry = arrivals caller e (i ∷ is) in
    let first : AllArrive caller e x (i ∷ is) w =
    all_arrive (i ∷ is) 0 caller e w x found un.answer
    (λ k h. absurd (cc (h, ap (λ (xs : List ℕ). has xs k) un.arrived))) r sent in
    let only : entries ≡ entries ++ [] = sym (append-nil entries) in
    record {
      last = first.last;
      answer = answer_now w x;
      answered = subst (AreAnswered w) only first.answered;
      after = subst (λ (es : List Entry). IsAfter e x first.last (IsAmong x.content (i ∷ is)) w
          (world_after w es)) only first.after;
      kept = λ h. absurd (cc h);
      reached = first.reached;
    }
all_inferred false i is caller e w x found batch un r sent =
    let entries : List Entry = arrivals caller e (i ∷ is) in
    let v : World = world_after w entries in
    let first : AllArrive caller e x (i ∷ is) w =
    all_arrive (i ∷ is) 0 caller e w x found un.answer
    (λ k h. absurd (cc (h, ap (λ (xs : List ℕ). has xs k) un.arrived))) r sent in
    let z : Exchange = first.last in
    let marked : (length z.arrived == 0) ≡ false = first.marked (λ none. cc none) in
    let unbatched : z.batch ≡ false = ap (λ (y : Exchange). y.batch) first.after.same ∙ batch in
    let fine : refusal v (Asked (Answer e)) ≡ None =
    may_answer v e z first.after.found unbatched first.silent marked in
    let second = answered_step v e z first.after.found fine in
    let b : Score = answer_now v z in
    let last_entries : List Entry = by caller (Asked (Answer e)) ∷ [] in
    let inferred_world : world_after w (entries ++ last_entries) ≡ (step v (Asked (Answer e))).world =
    world_after-append entries w last_entries ∙ one_entry v (by caller (Asked (Answer e))) in
    record {
      last = with_answer b z;
      answer = b;
      answered = answered_append entries last_entries w first.answered (fine, tt);
      after = subst (IsAfter e x (with_answer b z) (IsAmong x.content (i ∷ is)) w) (sym inferred_world)
          (after_of e x (with_answer b z) (λ n. IsAmong x.content (i ∷ is) n ⊎ ⊥)
          (IsAmong x.content (i ∷ is)) w _ (λ n k. elim k [ inl g ↦ g | inr never ↦ absurd never ])
          (λ n k. inl k)
          (after_then e x z (with_answer b z) (IsAmong x.content (i ∷ is))
          (λ n. ⊥) w v _ first.after second));
      kept = λ _. refl;
      reached = first.reached;
    }
