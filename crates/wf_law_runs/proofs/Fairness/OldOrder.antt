-- Proves how a call changes the order and the quanta of two stations on one old list. By cases of the call.
use Rattle.std.proofs.Common.{◌≡◌, refl, ap, sym, ◌∙◌, subst, arith, ℕ, ◌+◌, ◌*◌, ◌<◌, ◌≤◌, Bool, true, false, if◌then◌else◌, List, [], ◌∷◌, Option, Some, None, is_some, is_none, unwrap_or, option_map, not, map, filter, ◌==◌, eq-eqb, inl, inr}
use Rattle.std.proofs.lemmas.Bool.{cases_eq, ne_eqb, not_from_true, not_from_false}
use Rattle.wf_frame.specs.declared.classes.Class.{Class}
use Rattle.wf_frame.specs.declared.classes.Class.TheVariants.{Bk, Be, Vi, Vo}
use Rattle.wf_frame.specs.declared.notes.Ask.TheVariants.{Join, Leave, Rate, Tick, Pull, Arrive, Answer, Done, Sleep, Wake, Poll, Rx, Reap, Ampdu, Stop, Start, Unsent, GiveUp, Flush, Offload, Weight, Plain, Hold, Begin, Free, Cease, Group, Service, Bss}
use Rattle.wf_frame.specs.declared.notes.AskedRate.{AskedRate}
use Rattle.wf_frame.specs.declared.notes.Limits.{Limits}
use Rattle.wf_frame.specs.declared.notes.Note.{Note}
use Rattle.wf_frame.specs.declared.notes.Note.TheVariants.{Enqueue, Asked}
use Rattle.wf_frame.specs.declared.notes.Refusal.{Refusal}
use Rattle.wf_frame.specs.declared.notes.Refusal.TheVariants.{Idle}
use Rattle.wf_def_lists.specs.Table.{at}
use Rattle.wf_def_rotation.specs.Rotation.{Rotation, in_order, Picked, with_key_listed}
use Rattle.wf_def_world.specs.World.{World, Share, Exchange, no_station, rotation, is_live, exchange}
use Rattle.wf_frame.specs.Classes.{class_number, same_class}
use Rattle.wf_def_world.specs.CanSend.{is_ready, with_listings_of}
use Rattle.wf_def_world.specs.Exchanges.{Prepared, station_need, picked_station, after_tid_turn, prepared_exchange, exchange_of, sending_tid, charge_of}
use Rattle.wf_def_world.specs.Refusals.{refusals, refusal}
use Rattle.wf_def_world.specs.Step.{Outcome, join_outcome, tick_outcome, rate_outcome, pull_outcome_for, pull_outcome, done_outcome, outcome_where_open, rx_outcome, outcome_of, after_refusal, judged_outcome, step, concerned_station, offload_outcome, plain_outcome, weight_outcome}
use Rattle.wf_def_world.specs.Stretches.{charge_to, charge_by}
use Rattle.wf_def_lists.specs.Lists.{on}
use Rattle.wf_law_rules.proofs.Lemmas.Counts.{ahead, on-append, ahead-filter, on-filter_out, on-nil, on-cons_other, ahead-append, ahead-none}
use Rattle.wf_law_rules.proofs.Lemmas.Rotations.{stay}
use Rattle.wf_law_runs.proofs.Common.Refused.{after_idle}
use Rattle.wf_law_runs.proofs.Common.Limits.{with_limits}
use Rattle.wf_law_runs.proofs.Deficits.Books.{Account, account, core, Books, books, with_account, on_part, upd_same, upd_other, each_upd, updc_same, updc_other, each_updc, cases_class}
use Rattle.wf_law_runs.proofs.Deficits.BookSteps.{books_after_turn, books_prepared, books_sent, with_opened, charge_share, with_charge, books_ended, books_gone, all_off, books_enqueued, receive_share, books_received, books_reaped, books_slept, books_woken, books_credited, rated, books_with_rate, fresh_account, books_joined, pay_share, paid, after, books_after_pick, books_stated, books_stopped, books_started, books_flushed, books_offloaded, books_weighed, reweighed, books_joined_plain, books_held, books_begun, books_freed, books_ceased, books_served, books_moved}
use Rattle.wf_law_runs.proofs.Deficits.Openings.{every_find}
use Rattle.wf_law_runs.proofs.Deficits.Kept.{IsOpen, IsKept}
use Rattle.wf_law_runs.proofs.Deficits.KeptStep.{NoRow, no_row, live_account, IsFound, at_number, books_arrived, books_unsent, books_given_up, books_answered}
use Rattle.wf_law_runs.proofs.Deficits.Concerned.{old_before}
use Rattle.wf_law_runs.proofs.Deficits.Listing.{longer_listed, Adds, AddedOf, added_listed}

abbrev pub acc : Books → ℕ → Account
acc b s = unwrap_or (b.accounts s) (account no_station)

-- The class's share of an account after m more microseconds were charged.
pub record IsGrown (c : Class) (m : ℕ) (a a' : Account) : Type 0 where
  pub quanta : (a.shares c).quanta ≤ (a'.shares c).quanta
  pub charged : (a'.shares c).charged ≡ (a.shares c).charged + m
  pub received : (a.shares c).received ≤ (a'.shares c).received

pub record IsTurn (c : Class) (i j m n : ℕ) (b b' : Books) : Type 0 where
  pub order : ((acc b' i).shares c).quanta + ((acc b j).shares c).quanta + ahead j i (b.rotations c).old
      ≡ ((acc b' j).shares c).quanta + ((acc b i).shares c).quanta + ahead j i (b'.rotations c).old
  pub first : IsGrown c m (acc b i) (acc b' i)
  pub second : IsGrown c n (acc b j) (acc b' j)

-- Both stations are on the class's old list.
pub record Both (c : Class) (i j : ℕ) (b : Books) : Type 0 where
  pub first : 0 < on (b.rotations c).old i
  pub second : 0 < on (b.rotations c).old j

grown_same : (c : Class) (a : Account) → IsGrown c 0 a a
grown_same c a = record { quanta = omega arith; charged = omega arith; received = omega arith }

pub turn_here : (c : Class) (i j : ℕ) (b : Books) → IsTurn c i j 0 0 b b
turn_here c i j b = record { order = omega arith; first = grown_same c _; second = grown_same c _ }

pub turn_same : (c : Class) (i j : ℕ) (b b' : Books) → b' ≡ b → IsTurn c i j 0 0 b b'
turn_same c i j b b' e = subst (IsTurn c i j 0 0 b) (sym e) (turn_here c i j b)

-- ---- accounts

-- One account changes: m says how much each account is charged.
grown_at : (c : Class) (b : Books) (s : ℕ) (o : Option Account) (m : ℕ → ℕ) →
    ((y : ℕ) → (y ≡ s → ⊥) → m y ≡ 0) → IsGrown c (m s) (acc b s) (unwrap_or o (account no_station)) →
    (y : ℕ) → IsGrown c (m y) (acc b y) (acc (with_account b s o) y)
grown_at c b s o m none h y = elim (cases_eq y s) [
  | inl e ↦ subst (λ (z : ℕ). IsGrown c (m z) (acc b z) (acc (with_account b s o) z)) (sym e)
      (subst (λ (p : Option Account). IsGrown c (m s) (acc b s) (unwrap_or p (account no_station)))
      (sym (upd_same b.accounts s o)) h)
  | inr other ↦ subst (λ (p : Option Account). IsGrown c (m y) (acc b y) (unwrap_or p (account no_station)))
      (sym (upd_other b.accounts s y o other)) (subst (λ (k : ℕ). IsGrown c k (acc b y) (acc b y))
      (sym (none y other)) (grown_same c _))
]

-- No quantum is given, and the order on the list does not change.
turn_account : (c : Class) (i j : ℕ) (b b' : Books) (m : ℕ → ℕ) →
    ((y : ℕ) → IsGrown c (m y) (acc b y) (acc b' y)) →
    ((y : ℕ) → ((acc b' y).shares c).quanta ≡ ((acc b y).shares c).quanta) →
    ahead j i (b'.rotations c).old ≡ ahead j i (b.rotations c).old → IsTurn c i j (m i) (m j) b b'
turn_account c i j b b' m h q e = record {
  order = omega (arith, q i, q j);
  first = h i;
  second = h j;
}

-- The account of another station changes.
pub turn_other : (c : Class) (i j s : ℕ) (b : Books) (o : Option Account) → (i ≡ s → ⊥) → (j ≡ s → ⊥) →
    IsTurn c i j 0 0 b (with_account b s o)
turn_other c i j s b o at_i at_j =
    let e_i : acc (with_account b s o) i ≡ acc b i =
    ap (λ (p : Option Account). unwrap_or p (account no_station)) (upd_other b.accounts s i o at_i) in
    let e_j : acc (with_account b s o) j ≡ acc b j =
    ap (λ (p : Option Account). unwrap_or p (account no_station)) (upd_other b.accounts s j o at_j) in
    record {
      order = rw (e_i, e_j) (omega arith);
      first = subst (IsGrown c 0 (acc b i)) (sym e_i) (grown_same c _);
      second = subst (IsGrown c 0 (acc b j)) (sym e_j) (grown_same c _);
    }

pub map_or : (P : Account → Account → Type 0) (g : Account → Account) (o : Option Account) →
    ((a : Account) → o ≡ Some a → P a (g a)) → (o ≡ None → P (account no_station) (account no_station)) →
    P (unwrap_or o (account no_station)) (unwrap_or (option_map g o) (account no_station))
map_or P g None h k = k refl
map_or P g (Some a) h k = h a refl

-- An account changes by a function that gives no quanta.
turn_on : (c : Class) (i j s : ℕ) (b : Books) (g : Account → Account) (m : ℕ → ℕ) →
    ((y : ℕ) → (y ≡ s → ⊥) → m y ≡ 0) → (b.accounts s ≡ None → m s ≡ 0) →
    ((a : Account) → IsGrown c (m s) a (g a)) →
    ((a : Account) → ((g a).shares c).quanta ≡ (a.shares c).quanta) →
    IsTurn c i j (m i) (m j) b (with_account b s (option_map g (b.accounts s)))
turn_on c i j s b g m none dead h q = turn_account c i j b (with_account b s (option_map g (b.accounts s))) m
    (grown_at c b s (option_map g (b.accounts s)) m none
    (map_or (IsGrown c (m s)) g (b.accounts s) (λ a _. h a)
    (λ e. subst (λ (k : ℕ). IsGrown c k (account no_station) (account no_station)) (sym (dead e))
    (grown_same c _))))
    (each_upd (λ y o. ((unwrap_or o (account no_station)).shares c).quanta ≡ ((acc b y).shares c).quanta)
    b.accounts s (option_map g (b.accounts s)) (λ y. refl)
    (map_or (λ a a'. (a'.shares c).quanta ≡ (a.shares c).quanta) g (b.accounts s) (λ a _. q a) (λ _. refl)))
    refl

-- ---- changes of neither accounts nor old lists

pub record IsCalm (b b' : Books) : Type 0 where
  pub accounts : b'.accounts ≡ b.accounts
  pub old : (c : Class) → (b'.rotations c).old ≡ (b.rotations c).old

both_calm : (c : Class) (i j : ℕ) (b b' : Books) → IsCalm b b' → Both c i j b' → Both c i j b
both_calm c i j b b' k h = record {
  first = subst (λ (t : List ℕ). 0 < on t i) (k.old c) h.first;
  second =
      subst (λ (t : List ℕ). 0 < on t j) (k.old c) h.second;
}

turn_lists : (c : Class) (i j m n : ℕ) (a b b' : Books) → b'.accounts ≡ b.accounts →
    ahead j i (b'.rotations c).old ≡ ahead j i (b.rotations c).old → IsTurn c i j m n a b →
    IsTurn c i j m n a b'
turn_lists c i j m n a b b' same o t =
    let e : (s : ℕ) → acc b' s ≡ acc b s = λ s. ap
    (λ (f : ℕ → Option Account). unwrap_or (f s) (account no_station)) same in
    record {
      order = rw (e i, e j, o) t.order;
      first = subst (IsGrown c m (acc a i)) (sym (e i)) t.first;
      second = subst (IsGrown c n (acc a j)) (sym (e j)) t.second;
    }

turn_calm : (c : Class) (i j m n : ℕ) (a b b' : Books) → IsCalm b b' → IsTurn c i j m n a b →
    IsTurn c i j m n a b'
turn_calm c i j m n a b b' k t = turn_lists c i j m n a b b' k.accounts (ap (ahead j i) (k.old c)) t

calm_here : (b : Books) → IsCalm b b
calm_here b = record { accounts = refl; old = λ c. refl }

-- The listing of a station does not change the order of two others on the old list.
ahead_added : (w : World) (s : ℕ) (c : Class) (i j : ℕ) (r : Rotation) → 0 < on (rotation w c).old i →
    Adds w s c r → ahead j i r.old ≡ ahead j i (rotation w c).old
ahead_added w s c i j r stands a = ap (λ (z : Rotation). ahead j i z.old) a.now ∙ go (is_ready w c s)
  where
    away : on (s ∷ []) i ≡ 0
    away = elim (cases_eq s i) [
      | inl e ↦ absurd (let none : on (in_order (rotation w c)) i ≡ 0 =
          subst (λ (z : ℕ). on (in_order (rotation w c)) z ≡ 0) e a.off in
          omega (arith, on-append (rotation w c).old (rotation w c).new i))
      | inr other ↦ omega (arith, on-cons_other s i [] other, on-nil i)
    ]

    go : (t : Bool) → ahead j i (with_key_listed t (rotation w c) s).old ≡ ahead j i (rotation w c).old
    go true = refl
    go false =
        let none : on (rotation w c).old j * on (s ∷ []) i ≡ 0 =
        ap (λ (n : ℕ). on (rotation w c).old j * n) away ∙ omega arith in
        omega (arith, ahead-append j i (rotation w c).old (s ∷ []), ahead-none j i (s ∷ []) away)

ahead_listed : (o : Option ℕ) (w : World) (c : Class) (i j : ℕ) (r : Rotation) → AddedOf o w c r →
    0 < on (rotation w c).old i → ahead j i r.old ≡ ahead j i (rotation w c).old
ahead_listed None w c i j r e stands = ap (λ (z : Rotation). ahead j i z.old) e
ahead_listed (Some s) w c i j r (inl e) stands = ap (λ (z : Rotation). ahead j i z.old) e
ahead_listed (Some s) w c i j r (inr a) stands = ahead_added w s c i j r stands a

turn_listed : (o : Option ℕ) (w : World) (c : Class) (i j m n : ℕ) (a : Books) → Both c i j (books w) →
    IsTurn c i j m n a (books w) → IsTurn c i j m n a (books (with_listings_of w o))
turn_listed o w c i j m n a h t = turn_lists c i j m n a (books w) (books (with_listings_of w o))
    (longer_listed o w).accounts
    (ahead_listed o w c i j (rotation (with_listings_of w o) c) (added_listed o w c) h.first) t

-- ---- a pick

pub paid_quanta : (q n : ℕ) (c : Class) (o : Option Account) → is_some o ≡ true →
    ((unwrap_or (option_map (paid q c n) o) (account no_station)).shares c).quanta
    ≡ ((unwrap_or o (account no_station)).shares c).quanta + n
paid_quanta q n c None h = absurd (cc h)
paid_quanta q n c (Some a) h = ap (λ (x : Share). x.quanta)
    (updc_same a.shares c (pay_share (q * a.weight) n (a.shares c)))

grown_paid : (q n : ℕ) (c d : Class) (a : Account) → IsGrown d 0 a (paid q c n a)
grown_paid q n c d a = elim (cases_class d c) [
  | inl e ↦ subst (λ (z : Class). IsGrown z 0 a (paid q c n a)) (sym e)
      (let at_c : (paid q c n a).shares c ≡ pay_share (q * a.weight) n (a.shares c) =
      updc_same a.shares c (pay_share (q * a.weight) n (a.shares c)) in
      record {
        quanta = rw at_c (omega arith);
        charged = rw at_c (omega arith);
        received =
            rw at_c (omega arith);
      })
  | inr other ↦
      let at_d : (paid q c n a).shares d ≡ a.shares d =
      updc_other a.shares c d (pay_share (q * a.weight) n (a.shares c)) other in
      record {
        quanta = rw at_d (omega arith);
        charged = rw at_d (omega arith);
        received =
            rw at_d (omega arith);
      }
]

pub grown_option : (q n : ℕ) (c d : Class) (o : Option Account) →
    IsGrown d 0 (unwrap_or o (account no_station))
    (unwrap_or (option_map (paid q c n) o) (account no_station))
grown_option q n c d o = map_or (IsGrown d 0) (paid q c n) o (λ a _. grown_paid q n c d a)
    (λ _. grown_same d _)

-- The pick of the class.
turn_class : (w : World) (c : Class) (i j : ℕ) → IsKept (books w) → Both c i j (books w) →
    Both c i j (after (books w) c (picked_station w c)) →
    IsTurn c i j 0 0 (books w) (after (books w) c (picked_station w c))
turn_class w c i j k h h' = record {
  order =
      let moved : (picked_station w c).quanta i + ahead j i (rotation w c).old
      ≡ (picked_station w c).quanta j + ahead j i (picked_station w c).lists.old =
      stay (station_need w c) (is_ready w c) (rotation w c) i j (k.once c) h.first h.second
      (subst (λ (r : Rotation). 0 < on r.old i) lists_now h'.first)
      (subst (λ (r : Rotation). 0 < on r.old j) lists_now h'.second) in
      let q_i : ((acc (after (books w) c (picked_station w c)) i).shares c).quanta
      ≡ ((acc (books w) i).shares c).quanta + (picked_station w c).quanta i = got i h.first in
      let q_j : ((acc (after (books w) c (picked_station w c)) j).shares c).quanta
      ≡ ((acc (books w) j).shares c).quanta + (picked_station w c).quanta j = got j h.second in
      rw (lists_now, q_i, q_j) (omega arith);
  first = grown_option w.config.quantum _ c c ((books w).accounts i);
  second = grown_option w.config.quantum _ c c ((books w).accounts j);
}
  where
    lists_now : (after (books w) c (picked_station w c)).rotations c ≡ (picked_station w c).lists
    lists_now = updc_same (books w).rotations c (picked_station w c).lists

    got : (y : ℕ) → 0 < on (rotation w c).old y →
        ((acc (after (books w) c (picked_station w c)) y).shares c).quanta
        ≡ ((acc (books w) y).shares c).quanta + (picked_station w c).quanta y
    got y stands =
        let listed : on (in_order (rotation w c)) y ≡ 1 =
        omega (arith, on-append (rotation w c).old (rotation w c).new y, k.once c y) in
        let all : on (in_order (rotation w c)) y * (picked_station w c).quanta y
        ≡ (picked_station w c).quanta y = ap (λ (n : ℕ). n * (picked_station w c).quanta y) listed
        ∙ omega arith in
        paid_quanta w.config.quantum (on (in_order (rotation w c)) y * (picked_station w c).quanta y) c
        ((books w).accounts y) (k.live c y (omega arith))
        ∙ ap (λ (n : ℕ). ((acc (books w) y).shares c).quanta + n) all

-- The pick of another class.
pub turn_class_other : (b : Books) (p : Picked) (d c : Class) (i j : ℕ) →
    (class_number c ≡ class_number d → ⊥) → IsTurn c i j 0 0 b (after b d p)
turn_class_other b p d c i j other = turn_account c i j b (after b d p) (λ _. 0)
    (λ y. grown_option b.config.quantum (on (in_order (b.rotations d)) y * p.quanta y) d c (b.accounts y))
    (λ y. map_or (λ a a'. (a'.shares c).quanta ≡ (a.shares c).quanta)
    (paid b.config.quantum d (on (in_order (b.rotations d)) y * p.quanta y)) (b.accounts y)
    (λ a _. ap (λ (x : Share). x.quanta) (updc_other a.shares d c _ other)) (λ _. refl))
    (ap (λ (r : Rotation). ahead j i r.old) (updc_other b.rotations d c p.lists other))

turn_after : (w : World) (d c : Class) (i j : ℕ) → IsKept (books w) → Both c i j (books w) →
    Both c i j (after (books w) d (picked_station w d)) →
    IsTurn c i j 0 0 (books w) (after (books w) d (picked_station w d))
turn_after w d c i j k h h' = elim (cases_class d c) [
  | inl e ↦ subst (λ (z : Class). Both c i j (after (books w) z (picked_station w z)) →
      IsTurn c i j 0 0 (books w) (after (books w) z (picked_station w z))) (sym e) (turn_class w c i j k h) h'
  | inr other ↦ turn_class_other (books w) (picked_station w d) d c i j (λ e. other (sym e))
]

calm_opened : (b : Books) (x : Exchange) → IsCalm b (with_opened b x)
calm_opened b x = record { accounts = refl; old = λ c. refl }

calm_pulled_by : (o : Option ℕ) (v : World) (d : Class) →
    IsCalm (books v) (books (pull_outcome_for v d o).world)
unfolding pull_outcome_for
calm_pulled_by None v d = calm_here (books v)
calm_pulled_by (Some s) v d =
    let t : ℕ = sending_tid v s d in
    let p : Prepared = prepared_exchange (after_tid_turn v s d t) s t in
    let e : books p.world ≡ books v = books_prepared (after_tid_turn v s d t) s t
    ∙ books_after_turn v s d t in
    subst (IsCalm (books v)) (sym (books_sent s t d p))
    (subst (λ (b : Books). IsCalm b (with_opened (books p.world) (exchange_of s t d p))) e
    (calm_opened (books p.world) (exchange_of s t d p)))

pub calm_pulled : (w : World) (d : Class) (l : Limits) → IsCalm (after (books w) d (picked_station w d))
    (books (pull_outcome w d l).world)
unfolding pull_outcome
calm_pulled w d l = subst (λ (b : Books). IsCalm b
    (books (pull_outcome_for (with_limits w d l) d (picked_station w d).winner).world)) (books_after_pick w d)
    (calm_pulled_by (picked_station w d).winner (with_limits w d l) d)

turn_pulled : (w : World) (d c : Class) (l : Limits) (i j : ℕ) → IsKept (books w) → Both c i j (books w) →
    Both c i j (books (pull_outcome w d l).world) →
    IsTurn c i j 0 0 (books w) (books (pull_outcome w d l).world)
turn_pulled w d c l i j k h h' =
    turn_calm c i j 0 0 (books w) _ _ (calm_pulled w d l)
    (turn_after w d c i j k h (both_calm c i j _ _ (calm_pulled w d l) h'))

-- ---- a join and a leave

-- A station joins that was not live.
turn_fresh : (w : World) (s weight : ℕ) (c : Class) (i j : ℕ) → is_live w s ≡ false →
    IsKept (books w) → Both c i j (books w) →
    IsTurn c i j 0 0 (books w) (with_account (books w) s (Some (fresh_account w.config.quantum weight)))
turn_fresh w s weight c i j dead k h =
    turn_other c i j s (books w) (Some (fresh_account w.config.quantum weight)) (λ e. away i h.first e)
    (λ e. away j h.second e)
  where
    away : (y : ℕ) → 0 < on (rotation w c).old y → y ≡ s → ⊥
    away y stands e =
        let live : is_some ((books w).accounts y) ≡ true =
        k.live c y (omega (arith, on-append (rotation w c).old (rotation w c).new y)) in
        let live' : is_some ((books w).accounts s) ≡ true =
        subst (λ (z : ℕ). is_some ((books w).accounts z) ≡ true) e live in
        cc (live_account (at None w.stations s), live', dead)

turn_joined : (w : World) (s window start exponent weight : ℕ) (c : Class) (i j : ℕ) → is_live w s ≡ false →
    IsKept (books w) → Both c i j (books w) →
    IsTurn c i j 0 0 (books w) (books (join_outcome w s window start exponent weight).world)
turn_joined w s window start exponent weight c i j dead k h =
    subst (IsTurn c i j 0 0 (books w)) (sym (books_joined w s window start exponent weight))
    (turn_fresh w s weight c i j dead k h)

turn_offloaded : (w : World) (s exponent weight : ℕ) (c : Class) (i j : ℕ) → is_live w s ≡ false →
    IsKept (books w) → Both c i j (books w) →
    IsTurn c i j 0 0 (books w) (books (offload_outcome w s exponent weight).world)
turn_offloaded w s exponent weight c i j dead k h =
    subst (IsTurn c i j 0 0 (books w)) (sym (books_offloaded w s exponent weight))
    (turn_fresh w s weight c i j dead k h)

turn_joined_plain : (w : World) (s start exponent weight : ℕ) (c : Class) (i j : ℕ) → is_live w s ≡ false →
    IsKept (books w) → Both c i j (books w) →
    IsTurn c i j 0 0 (books w) (books (plain_outcome w s start exponent weight).world)
turn_joined_plain w s start exponent weight c i j dead k h =
    subst (IsTurn c i j 0 0 (books w)) (sym (books_joined_plain w s start exponent weight))
    (turn_fresh w s weight c i j dead k h)

-- A weight that is set changes no count and no order.
pub turn_weighed : (w : World) (s weight : ℕ) (c : Class) (i j : ℕ) →
    IsTurn c i j 0 0 (books w) (books (weight_outcome w s weight).world)
turn_weighed w s weight c i j = subst (IsTurn c i j 0 0 (books w)) (sym (books_weighed w s weight))
    (turn_on c i j s (books w) (reweighed w.config (books w).opened s weight) (λ _. 0) (λ _ _. refl)
    (λ _. refl)
    (λ a. record { quanta = omega arith; charged = omega arith; received = omega arith }) (λ a. refl))

all_off_old : (b : Books) (s : ℕ) (c : Class) →
    ((all_off b s).rotations c).old ≡ filter (λ z. not (z == s)) (b.rotations c).old
all_off_old b s Bk = refl
all_off_old b s Be = refl
all_off_old b s Vi = refl
all_off_old b s Vo = refl

stays_away : (xs : List ℕ) (s y : ℕ) → 0 < on (filter (λ z. not (z == s)) xs) y → y ≡ s → ⊥
stays_away xs s y h e =
    let none : on (filter (λ z. not (z == s)) xs) y ≡ 0 =
    on-filter_out (λ z. not (z == s)) xs y (not_from_true _ (eq-eqb y s e)) in
    omega arith

turn_off : (b : Books) (s : ℕ) (c : Class) (i j : ℕ) → Both c i j (with_account (all_off b s) s None) →
    IsTurn c i j 0 0 b (with_account (all_off b s) s None)
turn_off b s c i j h =
    let at_i : (i ≡ s → ⊥) = stays_away (b.rotations c).old s i
    (subst (λ (t : List ℕ). 0 < on t i) (all_off_old b s c) h.first) in
    let at_j : (j ≡ s → ⊥) = stays_away (b.rotations c).old s j
    (subst (λ (t : List ℕ). 0 < on t j) (all_off_old b s c) h.second) in
    let t : IsTurn c i j 0 0 b (with_account b s None) = turn_other c i j s b None at_i at_j in
    let kept : ahead j i ((all_off b s).rotations c).old ≡ ahead j i (b.rotations c).old =
    ap (ahead j i) (all_off_old b s c) ∙ ahead-filter (λ z. not (z == s)) j i (b.rotations c).old
    (not_from_false _ (ne_eqb j s at_j)) (not_from_false _ (ne_eqb i s at_i)) in
    record { order = rw kept t.order; first = t.first; second = t.second }

-- ---- charges

grown_charge : (c d : Class) (n : ℕ) (a : Account) →
    IsGrown c (if same_class d c then n else 0) a (on_part d (charge_share n) a)
grown_charge c d n a = elim (cases_class d c) [
  | inl e ↦ subst (λ (z : Class). IsGrown z (if same_class d z then n else 0) a
      (on_part d (charge_share n) a)) e
      (let at_d : (on_part d (charge_share n) a).shares d ≡ charge_share n (a.shares d) =
      updc_same a.shares d (charge_share n (a.shares d)) in
      let all : (if same_class d d then n else 0) ≡ n =
      rw (eq-eqb (class_number d) (class_number d) refl) refl in
      record {
        quanta = rw at_d (omega arith);
        charged = rw (at_d, all) refl;
        received =
            rw at_d (omega arith);
      })
  | inr other ↦
      let at_c : (on_part d (charge_share n) a).shares c ≡ a.shares c =
      updc_other a.shares d c (charge_share n (a.shares d)) (λ e. other (sym e)) in
      let none : (if same_class d c then n else 0) ≡ 0 =
      rw (ne_eqb (class_number d) (class_number c) other) refl in
      record {
        quanta = rw at_c (omega arith);
        charged = rw (at_c, none) (omega arith);
        received = rw at_c (omega arith);
      }
]

pub quanta_charge : (c d : Class) (n : ℕ) (a : Account) →
    ((on_part d (charge_share n) a).shares c).quanta ≡ (a.shares c).quanta
quanta_charge c d n a = each_updc (λ e x. x.quanta ≡ (a.shares e).quanta) a.shares d
    (charge_share n (a.shares d)) (λ e. refl) refl c

grown_receive : (c d : Class) (n : ℕ) (a : Account) → IsGrown c 0 a (on_part d (receive_share n) a)
grown_receive c d n a = record {
  quanta = each_updc (λ e x. (a.shares e).quanta ≤ x.quanta) a.shares d (receive_share n (a.shares d))
      (λ e. omega arith) (omega arith) c;
  charged = each_updc (λ e x. x.charged ≡ (a.shares e).charged + 0) a.shares d (receive_share n (a.shares d))
      (λ e. omega arith) (omega arith) c;
  received = each_updc (λ e x. (a.shares e).received ≤ x.received) a.shares d (receive_share n (a.shares d))
      (λ e. omega arith) (omega arith) c;
}

pub quanta_receive : (c d : Class) (n : ℕ) (a : Account) →
    ((on_part d (receive_share n) a).shares c).quanta ≡ (a.shares c).quanta
quanta_receive c d n a = each_updc (λ e x. x.quanta ≡ (a.shares e).quanta) a.shares d
    (receive_share n (a.shares d)) (λ e. refl) refl c

pub turn_received : (w : World) (s : ℕ) (d : Class) (air : ℕ) (c : Class) (i j : ℕ) →
    IsTurn c i j 0 0 (books w) (books (rx_outcome w s d air).world)
turn_received w s d air c i j = subst (IsTurn c i j 0 0 (books w)) (sym (books_received w s d air))
    (turn_on c i j s (books w) (on_part d (receive_share air)) (λ _. 0) (λ y _. refl) (λ _. refl)
    (grown_receive c d air) (quanta_receive c d air))

pub turn_rated : (w : World) (s : ℕ) (rate : AskedRate) (c : Class) (i j : ℕ) →
    IsTurn c i j 0 0 (books w) (books (rate_outcome w s rate).world)
turn_rated w s rate c i j = subst (IsTurn c i j 0 0 (books w))
    (sym (books_with_rate w s rate))
    (turn_on c i j s (books w) (rated rate) (λ _. 0) (λ y _. refl) (λ _. refl)
    (λ a. record { quanta = omega arith; charged = omega arith; received = omega arith })
    (λ a. refl))

charge_here : (air : Option ℕ) (x : Exchange) (c : Class) → charge_to x.station c air (Some x)
    ≡ (if same_class x.class c then charge_of air x else 0)
charge_here air x c = rw (eq-eqb x.station x.station refl) refl

charge_elsewhere : (air : Option ℕ) (x : Exchange) (c : Class) (y : ℕ) → (y ≡ x.station → ⊥) →
    charge_to y c air (Some x) ≡ 0
charge_elsewhere air x c y other = rw (ne_eqb x.station y (λ e. other (sym e))) refl

pub turn_ended : (air : Option ℕ) (w : World) (e : ℕ) (x : Exchange) (heard : Bool) (c : Class) (i j : ℕ) →
    IsKept (books w) →
    IsFound w e x → IsTurn c i j (charge_to i c air (Some x)) (charge_to j c air (Some x)) (books w)
    (books (done_outcome w x heard air).world)
turn_ended air w e x heard c i j k found =
    let live : is_some ((books w).accounts x.station) ≡ true =
    (every_find (IsOpen (books w)) (λ z. z.number == x.number) (map core w.opened) (core x) k.opens
    (at_number w e x found)).1.live in
    let t : IsTurn c i j (charge_to i c air (Some x)) (charge_to j c air (Some x)) (books w)
    (with_charge (books w) x.station x.class (charge_of air x)) =
    turn_on c i j x.station (books w) (on_part x.class (charge_share (charge_of air x)))
    (λ y. charge_to y c air (Some x))
    (charge_elsewhere air x c)
    (λ none. absurd (cc (live, none)))
    (λ a. subst (λ (n : ℕ). IsGrown c n a (on_part x.class (charge_share (charge_of air x)) a))
    (sym (charge_here air x c))
    (grown_charge c x.class (charge_of air x) a))
    (quanta_charge c x.class (charge_of air x)) in
    subst (IsTurn c i j (charge_to i c air (Some x)) (charge_to j c air (Some x)) (books w))
    (sym (books_ended air w x heard))
    (turn_calm c i j _ _ (books w) (with_charge (books w) x.station x.class (charge_of air x)) _
    (record { accounts = refl; old = λ d. refl }) t)

-- ---- the step

-- Returns the charge of a call to a station in a class, if the call is not refused.
abbrev pub owing : World → ℕ → Class → Note → ℕ
owing w s c (Asked (Done e heard air)) = charge_to s c air (exchange w e)
owing w s c _ = 0

pub owing_done : (note : Note) (w : World) (s : ℕ) (c : Class) → refusal w note ≡ None →
    charge_by w s c note ≡ owing w s c note
owing_done (Asked (Done e heard air)) w s c h = ap
    (λ (o : Option Refusal). if is_none o then charge_to s c air (exchange w e) else 0) h
owing_done _ w s c h = refl

pub owing_refused : (note : Note) (r : Refusal) (w : World) (s : ℕ) (c : Class) → refusal w note ≡ Some r →
    charge_by w s c note ≡ 0
owing_refused (Asked (Done e heard air)) r w s c h =
    ap (λ (o : Option Refusal). if is_none o then charge_to s c air (exchange w e) else 0) h
owing_refused _ r w s c h = refl

turn_open : (w : World) (e : ℕ) (o : Option Exchange) (f : Exchange → Outcome) (c : Class) (i j : ℕ)
    (m : ℕ → Option Exchange → ℕ) → ((y : ℕ) → m y None ≡ 0) → exchange w e ≡ o
    → ((x : Exchange) → IsFound w e x → IsTurn c i j (m i (Some x)) (m j (Some x)) (books w)
    (books (f x).world)) → IsTurn c i j (m i o) (m j o) (books w) (books (outcome_where_open w o f).world)
unfolding outcome_where_open
turn_open w e None f c i j m none k h = subst (λ (n : ℕ). IsTurn c i j n (m j None) (books w) (books w))
    (sym (none i)) (subst (λ (n : ℕ). IsTurn c i j 0 n (books w) (books w)) (sym (none j))
    (turn_here c i j (books w)))
turn_open w e (Some x) f c i j m none k h = h x k

turn_done : (note : Note) (w : World) (c : Class) (i j : ℕ) → NoRow (refusals w note) → IsKept (books w) →
    Both c i j (books w) → Both c i j (books (outcome_of w note).world) →
    IsTurn c i j (owing w i c note) (owing w j c note) (books w) (books (outcome_of w note).world)
unfolding outcome_of tick_outcome
turn_done (Enqueue s t flow len) w c i j r k h h' = turn_same c i j _ _ (books_enqueued w s t flow len)
turn_done (Asked (Join s window start exponent weight)) w c i j r k h h' =
    turn_joined w s window start exponent weight c i j r.1.1.1.1.1.0 k h
turn_done (Asked (Offload s exponent weight)) w c i j r k h h' =
    turn_offloaded w s exponent weight c i j r.1.1.1.0 k h
turn_done (Asked (Plain s start exponent weight)) w c i j r k h h' =
    turn_joined_plain w s start exponent weight c i j r.1.1.1.1.0 k h
turn_done (Asked (Weight s weight)) w c i j r k h h' = turn_weighed w s weight c i j
turn_done (Asked (Leave s)) w c i j r k h h' =
    subst (λ (b : Books). Both c i j b → IsTurn c i j 0 0 (books w) b) (sym (books_gone w s))
    (turn_off (books w) s c i j) h'
turn_done (Asked (Rate s rate)) w c i j r k h h' = turn_rated w s rate c i j
turn_done (Asked (Tick by)) w c i j r k h h' = turn_here c i j (books w)
turn_done (Asked (Pull d l)) w c i j r k h h' = turn_pulled w d c l i j k h h'
turn_done (Asked (Arrive e n)) w c i j r k h h' =
    turn_open w e (exchange w e) _ c i j (λ _ _. 0) (λ _. refl) refl
    (λ x f. turn_same c i j _ _ (books_arrived w e n x k f))
turn_done (Asked (Unsent e n)) w c i j r k h h' =
    turn_open w e (exchange w e) _ c i j (λ _ _. 0) (λ _. refl) refl
    (λ x f. turn_same c i j _ _ (books_unsent w e n x k f))
turn_done (Asked (GiveUp e n)) w c i j r k h h' =
    turn_open w e (exchange w e) _ c i j (λ _ _. 0) (λ _. refl) refl
    (λ x f. turn_same c i j _ _ (books_given_up w e n x k f))
turn_done (Asked (Answer e)) w c i j r k h h' =
    turn_open w e (exchange w e) _ c i j (λ _ _. 0) (λ _. refl) refl
    (λ x f. turn_same c i j _ _ (books_answered w e x k f))
turn_done (Asked (Done e heard air)) w c i j r k h h' =
    turn_open w e (exchange w e) _ c i j (λ y o. charge_to y c air o) (λ _. refl) refl
    (λ x f. turn_ended air w e x heard c i j k f)
turn_done (Asked (Sleep s)) w c i j r k h h' = turn_same c i j _ _ (books_slept w s)
turn_done (Asked (Ampdu s octets)) w c i j r k h h' = turn_same c i j _ _ (books_stated w s octets)
turn_done (Asked (Stop s)) w c i j r k h h' = turn_same c i j _ _ (books_stopped w s)
turn_done (Asked (Start s)) w c i j r k h h' = turn_same c i j _ _ (books_started w s)
turn_done (Asked (Flush s t)) w c i j r k h h' = turn_same c i j _ _ (books_flushed w s t)
turn_done (Asked (Hold s t)) w c i j r k h h' = turn_same c i j _ _ (books_held w s t)
turn_done (Asked (Begin s t window)) w c i j r k h h' = turn_same c i j _ _ (books_begun w s t window)
turn_done (Asked (Free s t)) w c i j r k h h' = turn_same c i j _ _ (books_freed w s t)
turn_done (Asked (Cease s t)) w c i j r k h h' = turn_same c i j _ _ (books_ceased w s t)
turn_done (Asked (Wake s)) w c i j r k h h' = turn_same c i j _ _ (books_woken w s)
turn_done (Asked (Poll s)) w c i j r k h h' = turn_same c i j _ _ (books_credited w s)
turn_done (Asked (Rx s d air)) w c i j r k h h' = turn_received w s d air c i j
turn_done (Asked Reap) w c i j r k h h' = turn_same c i j _ _ (books_reaped w.finished w)
turn_done (Asked (Group ask)) w c i j r k h h' = turn_here c i j (books w)
turn_done (Asked (Service ask)) w c i j r k h h' = turn_same c i j _ _ (books_served w ask)
turn_done (Asked (Bss s b)) w c i j r k h h' = turn_same c i j _ _ (books_moved w s b)

turn_refused : (note : Note) (r : Refusal) (w : World) (c : Class) (i j : ℕ) → IsKept (books w) →
    Both c i j (books w) → Both c i j (books (after_refusal w note r)) →
    IsTurn c i j 0 0 (books w) (books (after_refusal w note r))
unfolding after_refusal
turn_refused (Asked (Pull d l)) Idle w c i j k h h' =
    after_idle (λ v. Both c i j (books v) → IsTurn c i j 0 0 (books w) (books v)) w d
    (λ _. turn_here c i j (books w))
    (subst (λ (b : Books). Both c i j b → IsTurn c i j 0 0 (books w) b) (sym (books_after_pick w d))
    (turn_after w d c i j k h)) h'
turn_refused _ _ w c i j k h h' = turn_here c i j (books w)

turn_charges : (c : Class) (i j m n m' n' : ℕ) (b b' : Books) → m' ≡ m → n' ≡ n → IsTurn c i j m n b b' →
    IsTurn c i j m' n' b b'
turn_charges c i j m n m' n' b b' e f t = subst (λ (k : ℕ). IsTurn c i j k n' b b') (sym e)
    (subst (λ (k : ℕ). IsTurn c i j m k b b') (sym f) t)

turn_answer : (r : Option Refusal) (w : World) (note : Note) (c : Class) (i j : ℕ) → refusal w note ≡ r →
    IsKept (books w) → Both c i j (books w) → Both c i j (books (judged_outcome w note r).world) →
    IsTurn c i j (charge_by w i c note) (charge_by w j c note) (books w)
    (books (judged_outcome w note r).world)
unfolding judged_outcome
turn_answer (Some r) w note c i j e k h h' = turn_charges c i j 0 0 _ _ _ _ (owing_refused note r w i c e)
    (owing_refused note r w j c e) (turn_refused note r w c i j k h h')
turn_answer None w note c i j e k h h' =
    let still : Both c i j (books (outcome_of w note).world) = record {
      first = old_before note w c i k (listed i h.first) h'.first;
      second = old_before note w c j k (listed j h.second) h'.second;
    } in
    turn_charges c i j (owing w i c note) (owing w j c note) _ _ _ _ (owing_done note w i c e)
    (owing_done note w j c e)
    (turn_listed (concerned_station w note) (outcome_of w note).world c i j _ _ (books w) still
    (turn_done note w c i j (no_row (refusals w note) e) k h still))
  where
    listed : (y : ℕ) → 0 < on (rotation w c).old y → 0 < on (in_order (rotation w c)) y
    listed y stands = omega (arith, stands, on-append (rotation w c).old (rotation w c).new y)

pub turn_step : (w : World) (note : Note) (c : Class) (i j : ℕ) → IsKept (books w) → Both c i j (books w) →
    Both c i j (books (step w note).world) → IsTurn c i j (charge_by w i c note) (charge_by w j c note)
    (books w) (books (step w note).world)
unfolding step
turn_step w note c i j k h h' = turn_answer (refusal w note) w note c i j refl k h h'
