-- Proves how the numbers of a plain TID change that are sent again: a number that waits although it arrived
-- was sent before, and a number that was sent before is near the last acknowledged one. By induction on the
-- slots.
use Rattle.std.proofs.Common.{◌≡◌, refl, ap, sym, ◌∙◌, subst, arith, ℕ, zero, suc, ◌+◌, ◌-◌, ◌<◌, ◌≤◌, ◌==◌, nat_lt, Bool, true, false, if◌then◌else◌, ◌⊎◌, inl, inr, List, [], ◌∷◌, ◌++◌, length}
use Rattle.wf_def_lists.specs.Table.{at, has, change}
use Rattle.wf_def_agreement.specs.Session.{Session, Slot, State, End, no_slot, slot, on_slot, with_number_given, is_settled, is_acknowledged, slot_after_miss, slot_given_up, after_flush, next_number}
use Rattle.wf_def_agreement.specs.Receiver.{Receiver}
use Rattle.wf_def_world.specs.World.{Mpdu}
use Rattle.wf_def_world.specs.Exchanges.{after_acked, repeat_distance, with_flying, with_heard_start}
use Rattle.wf_law_rules.proofs.Lemmas.Numbers.{on_bool, on_if, lt_yes, lt_no, eq_yes, eq_no}
use Rattle.wf_law_runs.proofs.Common.Ends.{slot_after_end}
use Rattle.wf_law_runs.proofs.Common.Flushes.{flush_along}
use Rattle.wf_law_runs.proofs.Sessions.Starts.{at_append}
use Rattle.wf_law_runs.proofs.Sessions.Flights.{AllIn, Rises, all_in_later, next-give}
use Rattle.wf_law_runs.proofs.Windows.Agreement.{below_next, slot_give, slot_other, slot_same, next-on_slot}

-- ---- the number after the greatest acknowledged one

-- Returns that number, or the first number if none is acknowledged.
abbrev pub acked_end : Session → ℕ
acked_end y = after_acked y.first y.first y.slots

acked_mono : (xs : List Slot) (a b n : ℕ) → a ≤ b → after_acked a n xs ≤ after_acked b n xs
acked_mono [] a b n h = h
acked_mono (x ∷ xs) a b n h = acked_mono xs _ _ (suc n) (go (is_acknowledged x.state))
  where
    go : (c : Bool) → (if c then suc n else a) ≤ (if c then suc n else b)
    go true = omega arith
    go false = h

-- The slot of a number that is not acknowledged changes.
acked_change : (xs : List Slot) (a n k : ℕ) (f : Slot → Slot) → a ≤ n →
    is_acknowledged (at no_slot xs k).state ≡ false →
    after_acked a n xs ≤ after_acked a n (change no_slot xs k f)
acked_change [] a n k f l h = absurd (cc h)
acked_change (x ∷ xs) a n zero f l h = acked_mono xs _ _ (suc n) (go (is_acknowledged (f x).state))
  where
    go : (c : Bool) → (if is_acknowledged x.state then suc n else a) ≤ (if c then suc n else a)
    go true = subst (λ (b : Bool). (if b then suc n else a) ≤ suc n) (sym h) (omega (arith, l))
    go false = subst (λ (b : Bool). (if b then suc n else a) ≤ a) (sym h) (omega arith)
acked_change (x ∷ xs) a n (suc k) f l h = acked_change xs _ (suc n) k f (go (is_acknowledged x.state)) h
  where
    go : (c : Bool) → (if c then suc n else a) ≤ suc n
    go true = omega arith
    go false = omega (arith, l)

acked_append : (xs : List Slot) (a n : ℕ) (x : Slot) → is_acknowledged x.state ≡ false →
    after_acked a n (xs ++ x ∷ []) ≡ after_acked a n xs
acked_append [] a n x h = ap (λ (b : Bool). if b then suc n else a) h
acked_append (y ∷ xs) a n x h = acked_append xs _ (suc n) x h

-- It is at most any number that is above each acknowledged one.
acked_most : (xs : List Slot) (a n b : ℕ) → a ≤ b →
    ((k : ℕ) → is_acknowledged (at no_slot xs k).state ≡ true → k < length xs → n + k < b) →
    after_acked a n xs ≤ b
acked_most [] a n b h k = h
acked_most (x ∷ xs) a n b h k = acked_most xs _ (suc n) b
    (on_if (λ (c : ℕ). c ≤ b) (is_acknowledged x.state) (suc n) a
    (λ e. omega (arith, k 0 e (omega arith))) (λ _. h))
    (λ i e l. omega (arith, k (suc i) e (omega (arith, l))))

pub acked_end_most : (y : Session) (b : ℕ) → y.first ≤ b →
    ((n : ℕ) → y.first ≤ n → n < next_number y → (slot y n).state ≡ State.Acked → n < b) → acked_end y ≤ b
acked_end_most y b h k = acked_most y.slots y.first y.first b h (λ i e l.
    let place : y.first + i - y.first ≡ i = omega arith in
    k (y.first + i) (omega arith) (omega (arith, l))
    (ap (λ (j : ℕ). (at no_slot y.slots j).state) place ∙ go (at no_slot y.slots i).state e))
  where
    go : (st : State) → is_acknowledged st ≡ true → st ≡ State.Acked
    go State.Waiting e = absurd (cc e)
    go (State.Flying x) e = absurd (cc e)
    go State.Acked e = refl
    go State.Failed e = absurd (cc e)

unacked : (st : State) → is_settled st ≡ false → is_acknowledged st ≡ false
unacked State.Waiting h = refl
unacked (State.Flying e) h = refl
unacked State.Acked h = absurd (cc h)
unacked State.Failed h = refl

acked_on_slot : (y : Session) (m : ℕ) (f : Slot → Slot) → is_settled (slot y m).state ≡ false →
    acked_end y ≤ acked_end (on_slot m f y)
acked_on_slot y m f h = acked_change y.slots y.first y.first (m - y.first) f (omega arith)
    (unacked (slot y m).state h)

-- ---- the numbers of a plain TID

-- A number that waits although it arrived was sent before, and one that was sent before and is not settled is
-- near the last acknowledged number.
pub record AreTried (y : Session) (r : Receiver) : Type 0 where
  pub tried : (n : ℕ) → y.first ≤ n → (slot y n).state ≡ State.Waiting → has r.arrived n ≡ true →
      1 ≤ (slot y n).attempts
  pub near : (n : ℕ) → y.first ≤ n → is_settled (slot y n).state ≡ false → 1 ≤ (slot y n).attempts →
      n < acked_end y + repeat_distance

-- Numbers are given, sent or given up: z is y later.
pub record Moves (y z : Session) : Type 0 where
  pub first : z.first ≡ y.first
  pub next : next_number y ≤ next_number z
  pub acked : acked_end y ≤ acked_end z
  pub before : (n : ℕ) → y.first ≤ n → is_settled (slot z n).state ≡ false → 1 ≤ (slot z n).attempts →
      (is_settled (slot y n).state ≡ false) × ((slot y n).attempts ≡ (slot z n).attempts)
  pub waits : (n : ℕ) → y.first ≤ n → (slot z n).state ≡ State.Waiting →
      ((slot y n).state ≡ State.Waiting) × ((slot y n).attempts ≡ (slot z n).attempts) ⊎ (next_number y ≤ n)
  pub flies : (n e : ℕ) → y.first ≤ n → (slot z n).state ≡ State.Flying e →
      ((slot y n).state ≡ State.Flying e) ⊎ (((slot y n).state ≡ State.Waiting) ⊎ (next_number y ≤ n))
  pub open_before : (n : ℕ) → y.first ≤ n → n < next_number y → is_settled (slot z n).state ≡ false →
      is_settled (slot y n).state ≡ false
  pub rises : (n : ℕ) → y.first ≤ n → n < next_number y → is_settled (slot z n).state ≡ false →
      (slot y n).attempts ≤ (slot z n).attempts

pub tried_moves : (y z : Session) (r : Receiver) →
    ((n : ℕ) → has r.arrived n ≡ true → n < next_number y) → Moves y z → AreTried y r → AreTried z r
tried_moves y z r old m h = record {
  tried = λ n l w a.
      let from : y.first ≤ n = omega (arith, l, m.first) in
      elim (m.waits n from w) [
        | inl b ↦ omega (arith, h.tried n from b.0 a, b.1)
        | inr b ↦ absurd (omega (arith, b, old n a))
      ];
  near = λ n l u t.
      let from : y.first ≤ n = omega (arith, l, m.first) in
      let b = m.before n from u t in
      omega (arith, h.near n from b.0 (omega (arith, t, b.1)), m.acked);
}

pub moves_refl : (y : Session) → Moves y y
moves_refl y = record {
  first = refl;
  next = omega arith;
  acked = omega arith;
  before = λ n l u t. (u, refl);
  waits = λ n l w. inl (w, refl);
  flies = λ n e l f. inl f;
  open_before = λ n l b u. u;
  rises = λ n l b u. omega arith;
}

pub moves_equal : (y z : Session) → z ≡ y → Moves y z
moves_equal y z e = subst (Moves y) (sym e) (moves_refl y)

pub then_moves : (x y z : Session) → Moves x y → Moves y z → Moves x z
then_moves x y z h k = record {
  first = k.first ∙ h.first;
  next = omega (arith, h.next, k.next);
  acked = omega (arith, h.acked, k.acked);
  before = λ n l u t.
      let b = k.before n (omega (arith, l, h.first)) u t in
      let a = h.before n l b.0 (omega (arith, t, b.1)) in
      (a.0, a.1 ∙ b.1);
  waits = λ n l w. elim (k.waits n (omega (arith, l, h.first)) w) [
    | inl b ↦ elim (h.waits n l b.0) [ inl a ↦ inl (a.0, a.1 ∙ b.1) | inr a ↦ inr a ]
    | inr b ↦ inr (omega (arith, b, h.next))
  ];
  flies = λ n e l f. elim (k.flies n e (omega (arith, l, h.first)) f) [
    | inl b ↦ h.flies n e l b
    | inr (inl b) ↦ elim (h.waits n l b) [ inl a ↦ inr (inl a.0) | inr a ↦ inr (inr a) ]
    | inr (inr b) ↦ inr (inr (omega (arith, b, h.next)))
  ];
  open_before = λ n l b u. h.open_before n l b
      (k.open_before n (omega (arith, l, h.first)) (omega (arith, b, h.next)) u);
  rises = λ n l b u. omega (
    arith,
    k.rises n (omega (arith, l, h.first)) (omega (arith, b, h.next)) u,
    rises_before n l b u,
  );
}
  where
    -- A number that is unsettled later was unsettled before, or was never sent.
    rises_before : (n : ℕ) → x.first ≤ n → n < next_number x → is_settled (slot z n).state ≡ false →
        (slot x n).attempts ≤ (slot y n).attempts
    rises_before n l b u = h.rises n l b
        (k.open_before n (omega (arith, l, h.first)) (omega (arith, b, h.next)) u)

-- The slot of an unsettled number changes. If it stays unsettled its attempts stay, and it waits only if it
-- did.
pub moves_on_slot : (y : Session) (m : ℕ) (f : Slot → Slot) → y.first ≤ m →
    (slot y m).state ≡ State.Waiting →
    (is_settled (f (slot y m)).state ≡ false → (slot y m).attempts ≡ (f (slot y m)).attempts) →
    Moves y (on_slot m f y)
moves_on_slot y m f l waiting keeps =
    let h : is_settled (slot y m).state ≡ false = ap is_settled waiting in
    let z : Session = on_slot m f y in
    let here : slot z m ≡ f (slot y m) = slot_same y m f in
    record {
      first = refl;
      next = omega (arith, next-on_slot y m f h);
      acked = acked_on_slot y m f h;
      before = λ n from u t. on_bool (m == n)
          (λ own.
          let e : m ≡ n = eq_yes m n own in
          subst (λ (k : ℕ). (is_settled (slot y k).state ≡ false) × ((slot y k).attempts ≡
          (slot z k).attempts)) e (
            h,
            keeps (ap (λ (x : Slot). is_settled x.state) (sym here)
                ∙ subst (λ (k : ℕ). is_settled (slot z k).state ≡ false) (sym e) u)
                ∙ ap (λ (x : Slot). x.attempts) (sym here),
          ))
          (λ other.
          let e : slot z n ≡ slot y n = slot_other y m n f l from (eq_no m n other) in
          (ap (λ (x : Slot). is_settled x.state) (sym e) ∙ u, ap (λ (x : Slot). x.attempts) (sym e)));
      waits = λ n from w. on_bool (m == n)
          (λ own.
          let e : m ≡ n = eq_yes m n own in
          let now : (f (slot y m)).state ≡ State.Waiting = ap (λ (x : Slot). x.state) (sym here)
          ∙ subst (λ (k : ℕ). (slot z k).state ≡ State.Waiting) (sym e) w in
          inl (subst (λ (k : ℕ). ((slot y k).state ≡ State.Waiting) × ((slot y k).attempts ≡
          (slot z k).attempts))
          e (waiting, keeps (ap is_settled now) ∙ ap (λ (x : Slot). x.attempts) (sym here))))
          (λ other.
          let e : slot z n ≡ slot y n = slot_other y m n f l from (eq_no m n other) in
          inl (ap (λ (x : Slot). x.state) (sym e) ∙ w, ap (λ (x : Slot). x.attempts) (sym e)));
      flies = λ n e from w. on_bool (m == n)
          (λ own. inr (inl (subst (λ (k : ℕ). (slot y k).state ≡ State.Waiting) (eq_yes m n own) waiting)))
          (λ other. inl (ap (λ (x : Slot). x.state) (sym (slot_other y m n f l from (eq_no m n other))) ∙ w));
      open_before = λ n from b u. on_bool (m == n)
          (λ own. subst (λ (k : ℕ). is_settled (slot y k).state ≡ false) (eq_yes m n own) h)
          (λ other. ap (λ (x : Slot). is_settled x.state) (sym (slot_other y m n f l from
          (eq_no m n other))) ∙ u);
      rises = λ n from b u. on_bool (m == n)
          (λ own.
          let e : m ≡ n = eq_yes m n own in
          subst (λ (k : ℕ). (slot y k).attempts ≤ (slot z k).attempts) e
          (subst (λ (x : Slot). (slot y m).attempts ≤ x.attempts) (sym here)
          (omega (
            arith,
            keeps (ap (λ (x : Slot). is_settled x.state) (sym here)
                ∙ subst (λ (k : ℕ). is_settled (slot z k).state ≡ false) (sym e) u),
          ))))
          (λ other. subst (λ (x : Slot). (slot y n).attempts ≤ x.attempts)
          (sym (slot_other y m n f l from (eq_no m n other))) (omega arith));
    }

-- A number is given: it waits, and was never sent.
slot_given : (y : Session) (id n : ℕ) → n ≡ next_number y →
    slot (with_number_given y id) n ≡ record { id = id; attempts = 0; state = State.Waiting }
slot_given y id n e =
    let k : n - y.first ≡ length y.slots = omega (arith, e) in
    ap (λ (i : ℕ). at no_slot (with_number_given y id).slots i) k ∙ at_append y.slots _

pub moves_give : (y : Session) (id : ℕ) → Moves y (with_number_given y id)
moves_give y id =
    let z : Session = with_number_given y id in
    let next : next_number z ≡ suc (next_number y) = next-give y id in
    record {
      first = refl;
      next = omega (arith, next);
      acked = subst (λ (k : ℕ). acked_end y ≤ k) (sym (acked_append y.slots y.first y.first _ refl))
          (omega arith);
      before = λ n l u t. on_bool (nat_lt n (next_number y))
          (λ b.
          let e : slot z n ≡ slot y n = slot_give y id n l (lt_yes _ _ b) in
          (ap (λ (x : Slot). is_settled x.state) (sym e) ∙ u, ap (λ (x : Slot). x.attempts) (sym e)))
          (λ b.
          let below : n < next_number z = below_next z n l (λ a. cc (ap is_settled a, u)) in
          let here : n ≡ next_number y = omega (arith, next, below, lt_no n (next_number y) b) in
          absurd (omega (arith, t, ap (λ (x : Slot). x.attempts) (slot_given y id n here))));
      waits = λ n l w. on_bool (nat_lt n (next_number y))
          (λ b.
          let e : slot z n ≡ slot y n = slot_give y id n l (lt_yes _ _ b) in
          inl (ap (λ (x : Slot). x.state) (sym e) ∙ w, ap (λ (x : Slot). x.attempts) (sym e)))
          (λ b. inr (lt_no n (next_number y) b));
      flies = λ n e l w. on_bool (nat_lt n (next_number y))
          (λ b. inl (ap (λ (x : Slot). x.state) (sym (slot_give y id n l (lt_yes _ _ b))) ∙ w))
          (λ b. inr (inr (lt_no n (next_number y) b)));
      open_before = λ n l b u. ap (λ (x : Slot). is_settled x.state) (sym (slot_give y id n l b)) ∙ u;
      rises = λ n l b u. subst (λ (x : Slot). (slot y n).attempts ≤ x.attempts) (sym (slot_give y id n l b))
          (omega arith);
    }

-- Waiting numbers are sent.
pub moves_fly : (ms : List Mpdu) (y : Session) (e lo hi : ℕ) → y.first ≤ lo → Rises lo hi ms →
    AllIn y State.Waiting ms → Moves y (with_flying e ms y)
moves_fly [] y e lo hi b r a = moves_refl y
moves_fly (m ∷ ms) y e lo hi b r a =
    let f : Slot → Slot = λ x. record x { state = State.Flying e } in
    then_moves y (on_slot m.number f y) _
    (moves_on_slot y m.number f (omega (arith, r.0)) a.0 (λ _. refl))
    (moves_fly ms (on_slot m.number f y) e (suc m.number) hi (omega (arith, r.0)) r.2
    (all_in_later y State.Waiting m.number hi f ms (omega (arith, r.0)) r.2 a.1))

pub moves_flush : (limit : ℕ) (y : Session) → Moves y (after_flush limit y)
moves_flush limit y = flush_along (Moves y) limit y
    (λ z n e l b waits k. then_moves y z _ k (moves_on_slot z n (slot_given_up limit) l waits
    (λ h. absurd (cc h)))) (moves_refl y)

pub moves_heard : (b : Bool) (f : ℕ) (y : Session) → Moves y (with_heard_start b f y)
moves_heard true f y = record {
  first = refl;
  next = omega arith;
  acked = omega arith;
  before = λ n l u t. (u, refl);
  waits = λ n l w. inl (w, refl);
  flies = λ n e l w. inl w;
  open_before = λ n l b u. u;
  rises = λ n l b u. omega arith;
}
moves_heard false f y = moves_refl y

-- ---- the end of an exchange

missed_attempts : (limit : ℕ) (x : Slot) → 1 ≤ (slot_after_miss limit x).attempts
missed_attempts limit x = omega arith

-- A number on the air ends. If it was missed it is near, and if it was unsent it was sent before if it
-- arrived.
pub tried_ended : (y : Session) (r : Receiver) (m e limit : ℕ) (end : End) → y.first ≤ m →
    (slot y m).state ≡ State.Flying e → (end ≡ End.Missed → m < acked_end y + repeat_distance) →
    (end ≡ End.Unsent → has r.arrived m ≡ true → 1 ≤ (slot y m).attempts) → AreTried y r →
    AreTried (on_slot m (slot_after_end limit end) y) r
tried_ended y r m e limit end l flies near unsent h =
    let f : Slot → Slot = slot_after_end limit end in
    let z : Session = on_slot m f y in
    let here : slot z m ≡ f (slot y m) = slot_same y m f in
    let open_yet : is_settled (slot y m).state ≡ false = ap is_settled flies in
    let grows : acked_end y ≤ acked_end z = acked_on_slot y m f open_yet in
    record {
      tried = λ n from w a. on_bool (m == n)
          (λ own.
          let is : m ≡ n = eq_yes m n own in
          subst (λ (k : ℕ). 1 ≤ (slot z k).attempts) is (subst (λ (x : Slot). 1 ≤ x.attempts) (sym here)
          (waits_again end near unsent (ap (λ (x : Slot). x.state) (sym here)
          ∙ subst (λ (k : ℕ). (slot z k).state ≡ State.Waiting) (sym is) w)
          (subst (λ (k : ℕ). has r.arrived k ≡ true) (sym is) a))))
          (λ other.
          let same : slot z n ≡ slot y n = slot_other y m n f l from (eq_no m n other) in
          subst (λ (x : Slot). 1 ≤ x.attempts) (sym same)
          (h.tried n from (ap (λ (x : Slot). x.state) (sym same) ∙ w) a));
      near = λ n from u t. on_bool (m == n)
          (λ own.
          let is : m ≡ n = eq_yes m n own in
          let close : m < acked_end y + repeat_distance =
          still_near end near (ap (λ (x : Slot). is_settled x.state) (sym here)
          ∙ subst (λ (k : ℕ). is_settled (slot z k).state ≡ false) (sym is) u)
          (subst (λ (x : Slot). 1 ≤ x.attempts) here (subst (λ (k : ℕ). 1 ≤ (slot z k).attempts)
          (sym is) t)) in
          omega (arith, close, is, grows))
          (λ other.
          let same : slot z n ≡ slot y n = slot_other y m n f l from (eq_no m n other) in
          omega (
            arith,
            grows,
            h.near n from (ap (λ (x : Slot). is_settled x.state) (sym same) ∙ u)
                (subst (λ (x : Slot). 1 ≤ x.attempts) same t),
          ));
    }
  where
    waits_again : (end : End) → (end ≡ End.Missed → m < acked_end y + repeat_distance) →
        (end ≡ End.Unsent → has r.arrived m ≡ true → 1 ≤ (slot y m).attempts) →
        (slot_after_end limit end (slot y m)).state ≡ State.Waiting → has r.arrived m ≡ true →
        1 ≤ (slot_after_end limit end (slot y m)).attempts
    waits_again End.Acknowledged near unsent w a = absurd (cc w)
    waits_again End.Missed near unsent w a = missed_attempts limit (slot y m)
    waits_again End.GivenUp near unsent w a = absurd (cc w)
    waits_again End.Unsent near unsent w a = unsent refl a

    still_near : (end : End) → (end ≡ End.Missed → m < acked_end y + repeat_distance) →
        is_settled (slot_after_end limit end (slot y m)).state ≡ false →
        1 ≤ (slot_after_end limit end (slot y m)).attempts → m < acked_end y + repeat_distance
    still_near End.Acknowledged near u t = absurd (cc u)
    still_near End.Missed near u t = near refl
    still_near End.GivenUp near u t = absurd (cc u)
    still_near End.Unsent near u t = h.near m l (ap is_settled flies) t
