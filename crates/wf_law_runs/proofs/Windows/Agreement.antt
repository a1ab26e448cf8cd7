-- Defines the invariant of both sides of one TID's agreement and of its open exchanges. Proves what follows
-- from it at one moment, and that each kind of change keeps it.
use Rattle.std.proofs.Common.{◌≡◌, ◌≢◌, refl, ap, sym, ◌∙◌, subst, arith, ℕ, zero, suc, ◌+◌, ◌-◌, ◌*◌, ◌<◌, ◌≤◌, ◌==◌, max, nat_lt, nat_le, Bool, true, false, if◌then◌else◌, ◌&&◌, ◌⊎◌, inl, inr, List, [], ◌∷◌, ◌++◌, length, Option, Some, None, IfSome, is_some}
use Rattle.std.specs.List.{list_any}
use Rattle.wf_def_lists.specs.Table.{at, has, change}
use Rattle.wf_def_agreement.specs.Session.{Session, Slot, State, no_slot, slot, on_slot, with_number_given, is_settled, is_failed, first_unsettled, start_of, next_number, has_room, request_due, numbers_where}
use Rattle.wf_def_agreement.specs.Receiver.{Receiver, with_arrived, with_start, greatest, release_start, score_start, Score, score, shows}
use Rattle.wf_def_world.specs.World.{Mpdu, Content, Frames, Request, Exchange}
use Rattle.wf_def_world.specs.Exchanges.{mpdus_of, with_flying, numbers_arrived, with_heard_start}
use Rattle.wf_def_world.specs.CanSend.{is_request}
use Rattle.wf_law_runs.proofs.Sessions.Starts.{IsWithin, start_ge, start_le, start_change, length-change, within_on_slot, within_give, at_change_other, at_change_same, at_append}
use Rattle.wf_law_runs.proofs.Sessions.Flights.{AllIn, Rises, next-give, all_in_change, all_in_later}
use Rattle.wf_law_runs.proofs.Windows.Opened.{FlyIn}
use Rattle.wf_law_rules.proofs.Lemmas.Numbers.{Climbs, on_bool, on_if, lt_yes, lt_no, le_yes, yes_le, yes_lt, eq_yes, eq_no, either, both, and_true, or_left, or_right, has_old, has_new, has_other, has_one, climbs_with, greatest_least, greatest_has, greatest_within, missing_ge, missing_below, missing_not, score_past, score_within, shows_has}

-- ---- the session's start, and the settled numbers below it

pub unsettled_at : (xs : List Slot) (n k : ℕ) → is_settled (at no_slot xs k).state ≡ false →
    first_unsettled n xs ≤ n + k
unsettled_at [] n k h = absurd (cc h)
unsettled_at (x ∷ xs) n zero h = omega (
  arith,
  ap (λ (b : Bool). if b then first_unsettled (suc n) xs else n) h,
)
unsettled_at (x ∷ xs) n (suc k) h = on_if (λ m. m ≤ n + suc k) (is_settled x.state)
    (first_unsettled (suc n) xs) n (λ _. omega (arith, unsettled_at xs (suc n) k h)) (λ _. omega arith)

pub unsettled_ge : (y : Session) (n : ℕ) → y.first ≤ n → is_settled (slot y n).state ≡ false → start_of y ≤ n
unsettled_ge y n l h = omega (arith, unsettled_at y.slots y.first (n - y.first) h)

pub settled_below : (y : Session) (n : ℕ) → y.first ≤ n → n < start_of y → is_settled (slot y n).state ≡ true
settled_below y n l h = on_bool (is_settled (slot y n).state) (λ e. e)
    (λ e. absurd (omega (arith, unsettled_ge y n l e)))

pub within_length : (xs : List Slot) (k : ℕ) → (at no_slot xs k).state ≢ State.Acked → k < length xs
within_length [] k h = absurd (h refl)
within_length (x ∷ xs) zero h = omega arith
within_length (x ∷ xs) (suc k) h = omega (arith, within_length xs k h)

pub below_next : (y : Session) (n : ℕ) → y.first ≤ n → (slot y n).state ≢ State.Acked → n < next_number y
below_next y n l h = omega (arith, within_length y.slots (n - y.first) h)

pub settled_is : (st : State) → is_settled st ≡ true → (st ≡ State.Acked) ⊎ (st ≡ State.Failed)
settled_is State.Waiting h = absurd (cc h)
settled_is (State.Flying e) h = absurd (cc h)
settled_is State.Acked h = inl refl
settled_is State.Failed h = inr refl

start_waiting : (xs : List Slot) (n : ℕ) (x : Slot) → is_settled x.state ≡ false →
    first_unsettled n (xs ++ x ∷ []) ≡ first_unsettled n xs
start_waiting [] n x h = ap (λ (b : Bool). if b then suc n else n) h
start_waiting (y ∷ xs) n x h = ap (λ (m : ℕ). if is_settled y.state then m else n)
    (start_waiting xs (suc n) x h)

pub start-give : (y : Session) (id : ℕ) → start_of (with_number_given y id) ≡ start_of y
start-give y id = start_waiting y.slots y.first _ refl

at_front : (xs : List Slot) (x : Slot) (k : ℕ) → k < length xs → at no_slot (xs ++ x ∷ []) k ≡ at no_slot xs k
at_front [] x k h = absurd (omega (arith, h))
at_front (y ∷ xs) x zero h = refl
at_front (y ∷ xs) x (suc k) h = at_front xs x k (omega (arith, h))

pub slot_give : (y : Session) (id n : ℕ) → y.first ≤ n → n < next_number y →
    slot (with_number_given y id) n ≡ slot y n
slot_give y id n l h = at_front y.slots _ (n - y.first) (omega (arith, h))

pub slot_new : (y : Session) (id n : ℕ) → n ≡ next_number y →
    (slot (with_number_given y id) n).state ≡ State.Waiting
slot_new y id n e =
    let k : n - y.first ≡ length y.slots = omega (arith, e) in
    ap (λ (i : ℕ). (at no_slot (with_number_given y id).slots i).state) k
    ∙ ap (λ (x : Slot). x.state) (at_append y.slots _)

pub slot_other : (y : Session) (m n : ℕ) (f : Slot → Slot) → y.first ≤ m → y.first ≤ n → m ≢ n →
    slot (on_slot m f y) n ≡ slot y n
slot_other y m n f l k h =
    let ne : m - y.first ≢ n - y.first = omega arith in
    at_change_other y.slots (m - y.first) (n - y.first) f ne

pub slot_same : (y : Session) (m : ℕ) (f : Slot → Slot) → slot (on_slot m f y) m ≡ f (slot y m)
slot_same y m f = at_change_same y.slots (m - y.first) f

-- ---- a failed number that no heard request has announced to the receiver

pub record IsUntold (y : Session) (n : ℕ) : Type 0 where
  pub from : y.first ≤ n
  pub failed : (slot y n).state ≡ State.Failed
  pub told : y.heard ≤ n
  pub below : n < start_of y

any_listed : (xs : List Slot) (n k : ℕ) (q : ℕ → Bool) → (at no_slot xs k).state ≡ State.Failed →
    q (n + k) ≡ true → list_any q (numbers_where is_failed n xs) ≡ true
any_listed [] n k q h e = absurd (cc h)
any_listed (x ∷ xs) n zero q h e =
    on_if (λ (ns : List ℕ). list_any q ns ≡ true) (is_failed x.state) (n ∷ numbers_where is_failed (suc n) xs)
    (numbers_where is_failed (suc n) xs)
    (λ _. or_left (q n) _ (ap q (omega arith) ∙ e)) (λ fails_not. absurd (cc fails_not))
any_listed (x ∷ xs) n (suc k) q h e =
    let rest : list_any q (numbers_where is_failed (suc n) xs) ≡ true =
    any_listed xs (suc n) k q h (ap q (omega arith) ∙ e) in
    on_if (λ (ns : List ℕ). list_any q ns ≡ true) (is_failed x.state) (n ∷ numbers_where is_failed (suc n) xs)
    (numbers_where is_failed (suc n) xs)
    (λ _. or_right (q n) _ rest) (λ _. rest)

failed_is : (st : State) → is_failed st ≡ true → st ≡ State.Failed
failed_is State.Waiting h = absurd (cc h)
failed_is (State.Flying e) h = absurd (cc h)
failed_is State.Acked h = absurd (cc h)
failed_is State.Failed h = refl

record Listed (xs : List Slot) (n : ℕ) (q : ℕ → Bool) : Type 0 where
  place : ℕ
  failed : (at no_slot xs place).state ≡ State.Failed
  passes : q (n + place) ≡ true

later : (x : Slot) (xs : List Slot) (n : ℕ) (q : ℕ → Bool) → Listed xs (suc n) q → Listed (x ∷ xs) n q
later x xs n q l = record { place = suc l.place; failed = l.failed; passes = ap q (omega arith) ∙ l.passes }

listed_any : (xs : List Slot) (n : ℕ) (q : ℕ → Bool) → list_any q (numbers_where is_failed n xs) ≡ true →
    Listed xs n q
listed_any [] n q h = absurd (cc h)
listed_any (x ∷ xs) n q h =
    on_if (λ (ns : List ℕ). list_any q ns ≡ true → Listed (x ∷ xs) n q) (is_failed x.state)
    (n ∷ numbers_where is_failed (suc n) xs) (numbers_where is_failed (suc n) xs)
    (λ yes e. elim (either (q n) _ e) [
      | inl d ↦ record { place = 0; failed = failed_is x.state yes; passes = ap q (omega arith) ∙ d }
      | inr d ↦ later x xs n q (listed_any xs (suc n) q d)
    ])
    (λ _ e. later x xs n q (listed_any xs (suc n) q e)) h

pub due_at : (y : Session) → request_due y ≡ true → (n : ℕ) × IsUntold y n
due_at y h =
    let l = listed_any y.slots y.first (λ n. nat_le y.heard n && nat_lt n (start_of y)) h in
    let p : (nat_le y.heard (y.first + l.place) ≡ true) ×
    (nat_lt (y.first + l.place) (start_of y) ≡ true) = both _ _ l.passes in
    let k : y.first + l.place - y.first ≡ l.place = omega arith in (
      y.first + l.place,
      record {
        from = omega arith;
        failed = ap (λ (i : ℕ). (at no_slot y.slots i).state) k ∙ l.failed;
        told = le_yes _ _ p.0;
        below = lt_yes _ _ p.1;
      },
    )

pub at_due : (y : Session) (n : ℕ) → IsUntold y n → request_due y ≡ true
at_due y n u =
    let k : y.first + (n - y.first) ≡ n = omega (arith, u.from) in
    any_listed y.slots y.first (n - y.first) (λ n. nat_le y.heard n && nat_lt n (start_of y)) u.failed
    (ap (λ (i : ℕ). nat_le y.heard i && nat_lt i (start_of y)) k
    ∙ and_true (nat_le y.heard n) (nat_lt n (start_of y)) (yes_le y.heard n u.told)
    (yes_lt n (start_of y) u.below))

-- ---- the invariant

pub record IsAgreed (y : Session) (r : Receiver) : Type 0 where
  pub first : r.first ≡ y.first
  pub size : r.size ≡ y.size
  pub within : IsWithin y
  pub rising : Climbs 0 r.arrived
  pub arrived : (n : ℕ) → has r.arrived n ≡ true → (y.first ≤ n) × (n < next_number y)
  pub starts : (f : ℕ) → has r.starts f ≡ true → (y.first ≤ f) × (f ≤ start_of y)
  pub heard : (y.heard ≡ y.first) ⊎ (has r.starts y.heard ≡ true)
  pub acked : (n : ℕ) → y.first ≤ n → n < next_number y → (slot y n).state ≡ State.Acked →
      has r.arrived n ≡ true
  pub failed : (n : ℕ) → IsUntold y n → next_number y ≤ n + y.size

-- ---- consequences at one moment

-- The first number and every start are at most the session's start.
pub first_kept : (y : Session) (r : Receiver) → IsAgreed y r → greatest r.first r.starts ≤ start_of y
first_kept y r a = greatest_within r.starts r.first (start_of y)
    (omega (arith, a.first, start_ge y.slots y.first)) (λ k h. (a.starts k h).1)

pub released_arrived : (y : Session) (r : Receiver) → IsAgreed y r → (n : ℕ) → start_of y ≤ n →
    n < release_start r → has r.arrived n ≡ true
released_arrived y r a n h l = missing_below r.arrived (greatest r.first r.starts) n
    (omega (arith, first_kept y r a)) l

pub release_next : (y : Session) (r : Receiver) → IsAgreed y r → release_start r ≤ next_number y
release_next y r a = on_bool (nat_lt (next_number y) (release_start r))
    (λ l. absurd (omega (
      arith,
      (a.arrived (next_number y)
          (released_arrived y r a (next_number y) (start_le y.slots y.first) (lt_yes _ _ l))).1,
    )))
    (λ l. lt_no _ _ l)

pub heard_release : (y : Session) (r : Receiver) → IsAgreed y r → y.heard ≤ release_start r
heard_release y r a =
    let m : greatest r.first r.starts ≤ release_start r = missing_ge r.arrived (greatest r.first r.starts) in
    elim a.heard [
      | inl e ↦ omega (arith, e, a.first, greatest_least r.starts r.first)
      | inr h ↦ omega (arith, greatest_has r.starts r.first y.heard h)
    ]

-- If the release start is below the session's start, its number failed, and no heard request has announced
-- it.
pub untold_release : (y : Session) (r : Receiver) → IsAgreed y r → release_start r < start_of y →
    IsUntold y (release_start r)
untold_release y r a l =
    let m : greatest r.first r.starts ≤ release_start r = missing_ge r.arrived (greatest r.first r.starts) in
    let from : y.first ≤ release_start r = omega (arith, a.first, greatest_least r.starts r.first) in
    record {
      from = from;
      failed = elim (settled_is (slot y (release_start r)).state (settled_below y (release_start r) from l)) [
        | inl e ↦ absurd (missing_not r.arrived 0 (greatest r.first r.starts) a.rising
            (a.acked (release_start r) from (omega (arith, l, start_le y.slots y.first)) e))
        | inr e ↦ e
      ];
      told = heard_release y r a;
      below = l;
    }

pub next_release : (y : Session) (r : Receiver) → IsAgreed y r → next_number y ≤ release_start r + y.size
next_release y r a = on_bool (nat_lt (release_start r) (start_of y))
    (λ l. a.failed (release_start r) (untold_release y r a (lt_yes _ _ l)))
    (λ l. omega (arith, a.within.within, lt_no _ _ l))

pub start_release : (y : Session) (r : Receiver) → IsAgreed y r → request_due y ≡ false →
    start_of y ≤ release_start r
start_release y r a none = on_bool (nat_lt (release_start r) (start_of y))
    (λ l. cc (at_due y (release_start r) (untold_release y r a (lt_yes _ _ l)), none))
    (λ l. lt_no _ _ l)

pub release_score : (y : Session) (r : Receiver) → IsAgreed y r → release_start r ≤ score_start r + y.size
release_score y r a =
    let m : greatest r.first r.starts ≤ score_start r = greatest_least _ (greatest r.first r.starts) in
    on_bool (nat_lt (greatest r.first r.starts) (release_start r))
    (λ l.
    let k : greatest r.first r.starts < release_start r = lt_yes _ _ l in
    let h : has r.arrived (release_start r - 1) ≡ true =
    missing_below r.arrived (greatest r.first r.starts) (release_start r - 1) (omega arith)
    (omega arith) in
    omega (arith, a.size, score_past r.arrived (greatest r.first r.starts) r.size (release_start r - 1) h))
    (λ l. omega (arith, lt_no _ _ l))

pub score_kept : (y : Session) (r : Receiver) → IsAgreed y r → score_start r ≤ start_of y
score_kept y r a = score_within r.arrived (greatest r.first r.starts) r.size (start_of y) (first_kept y r a)
    (λ n h. omega (arith, a.size, a.within.within, (a.arrived n h).1))

-- ---- changes that keep the invariant

-- The slot of an unsettled number changes.
pub start_on_slot : (y : Session) (m : ℕ) (f : Slot → Slot) → is_settled (slot y m).state ≡ false →
    start_of y ≤ start_of (on_slot m f y)
start_on_slot y m f h = start_change y.slots y.first (m - y.first) f h

pub next-on_slot : (y : Session) (m : ℕ) (f : Slot → Slot) → is_settled (slot y m).state ≡ false →
    next_number (on_slot m f y) ≡ next_number y
next-on_slot y m f h = ap (λ (k : ℕ). y.first + k) (length-change y.slots (m - y.first) f h)

untold_before : (y : Session) (m n : ℕ) (f : Slot → Slot) → y.first ≤ m → m ≢ n → n < start_of y →
    IsUntold (on_slot m f y) n → IsUntold y n
untold_before y m n f l ne b u = record {
  from = u.from;
  failed = ap (λ (x : Slot). x.state) (sym (slot_other y m n f l u.from ne)) ∙ u.failed;
  told = u.told;
  below = b;
}

untold_after : (y : Session) (m n : ℕ) (f : Slot → Slot) → y.first ≤ m → is_settled (slot y m).state ≡ false →
    IsUntold y n → IsUntold (on_slot m f y) n
untold_after y m n f l h u =
    let ne : m ≢ n = λ e. cc (ap is_settled u.failed, ap (λ (k : ℕ). is_settled (slot y k).state) e, h) in
    record {
      from = u.from;
      failed = ap (λ (x : Slot). x.state) (slot_other y m n f l u.from ne) ∙ u.failed;
      told = u.told;
      below = omega (arith, u.below, start_on_slot y m f h);
    }

pub due_on_slot : (y : Session) (m : ℕ) (f : Slot → Slot) → y.first ≤ m →
    is_settled (slot y m).state ≡ false → request_due y ≡ true → request_due (on_slot m f y) ≡ true
due_on_slot y m f l h d = let u = due_at y d in at_due (on_slot m f y) u.0 (untold_after y m u.0 f l h u.1)

pub agreed_on_slot : (y : Session) (r : Receiver) (m : ℕ) (f : Slot → Slot) → y.first ≤ m →
    is_settled (slot y m).state ≡ false → ((f (slot y m)).state ≡ State.Acked → has r.arrived m ≡ true) →
    IsAgreed y r → IsAgreed (on_slot m f y) r
agreed_on_slot y r m f l h k a =
    let next : next_number (on_slot m f y) ≡ next_number y = next-on_slot y m f h in
    record {
      first = a.first;
      size = a.size;
      within = within_on_slot y m f h a.within;
      rising = a.rising;
      arrived = λ n e. ((a.arrived n e).0, omega (arith, next, (a.arrived n e).1));
      starts = λ g e. ((a.starts g e).0, omega (arith, (a.starts g e).1, start_on_slot y m f h));
      heard = a.heard;
      acked = λ n from below e. on_bool (m == n)
          (λ same. subst (λ (i : ℕ). has r.arrived i ≡ true) (eq_yes m n same)
          (k (ap (λ (x : Slot). x.state) (sym (slot_same y m f))
          ∙ subst (λ (i : ℕ). (slot (on_slot m f y) i).state ≡ State.Acked) (sym (eq_yes m n same)) e)))
          (λ other. a.acked n from (omega (arith, below, next))
          (ap (λ (x : Slot). x.state) (sym (slot_other y m n f l from (eq_no m n other))) ∙ e));
      failed = λ n u. on_bool (nat_lt n (start_of y))
          (λ b.
          let below : n < start_of y = lt_yes _ _ b in
          let ne : m ≢ n = λ e. omega (arith, unsettled_ge y m l h) in
          omega (arith, next, a.failed n (untold_before y m n f l ne below u)))
          (λ b. omega (arith, next, a.within.within, lt_no n (start_of y) b));
    }

-- A number is assigned to a frame while no request is due.
untold_give : (y : Session) (id n : ℕ) → IsUntold (with_number_given y id) n → IsUntold y n
untold_give y id n u =
    let below : n < start_of y = omega (arith, u.below, start-give y id) in
    record {
      from = u.from;
      failed = ap (λ (x : Slot). x.state) (sym (slot_give y id n u.from
          (omega (arith, below, start_le y.slots y.first)))) ∙ u.failed;
      told = u.told;
      below = below;
    }

pub not_due_give : (y : Session) (id : ℕ) → request_due y ≡ false →
    request_due (with_number_given y id) ≡ false
not_due_give y id h = on_bool (request_due (with_number_given y id))
    (λ d. let u = due_at (with_number_given y id) d in
    absurd (cc (at_due y u.0 (untold_give y id u.0 u.1), h))) (λ e. e)

pub agreed_give : (y : Session) (r : Receiver) (id : ℕ) → has_room y ≡ true → request_due y ≡ false →
    IsAgreed y r → IsAgreed (with_number_given y id) r
agreed_give y r id room none a =
    let next : next_number (with_number_given y id) ≡ suc (next_number y) = next-give y id in
    record {
      first = a.first;
      size = a.size;
      within = within_give y id room;
      rising = a.rising;
      arrived = λ n e. ((a.arrived n e).0, omega (arith, next, (a.arrived n e).1));
      starts = λ g e. ((a.starts g e).0, omega (arith, (a.starts g e).1, start-give y id));
      heard = a.heard;
      acked = λ n from below e. on_bool (nat_lt n (next_number y))
          (λ b. a.acked n from (lt_yes _ _ b) (ap (λ (x : Slot). x.state)
          (sym (slot_give y id n from (lt_yes _ _ b))) ∙ e))
          (λ b. let here : n ≡ next_number y = omega (arith, next, below, lt_no n (next_number y) b) in
          absurd (cc (slot_new y id n here, e)));
      failed = λ n u. absurd (cc (at_due y n (untold_give y id n u), none));
    }

-- A request ended as heard.
pub agreed_heard : (y : Session) (r : Receiver) (f : ℕ) → has r.starts f ≡ true → IsAgreed y r →
    IsAgreed (record y { heard = max y.heard f }) r
agreed_heard y r f h a = record {
  first = a.first;
  size = a.size;
  within = record { within = a.within.within };
  rising = a.rising;
  arrived = a.arrived;
  starts = a.starts;
  heard = on_bool (nat_lt y.heard f)
      (λ l. let e : max y.heard f ≡ f = omega (arith, lt_yes y.heard f l) in inr (ap (has r.starts) e ∙ h))
      (λ l. let e : max y.heard f ≡ y.heard = omega (arith, lt_no y.heard f l) in
      elim a.heard [ inl k ↦ inl (e ∙ k) | inr k ↦ inr (ap (has r.starts) e ∙ k) ]);
  acked = a.acked;
  failed = λ n u. a.failed n (record {
    from = u.from;
    failed = u.failed;
    told = omega (arith, u.told);
    below =
        u.below;
  });
}

-- A number arrives.
pub agreed_arrived : (y : Session) (r : Receiver) (m : ℕ) → y.first ≤ m → m < next_number y → IsAgreed y r →
    IsAgreed y (with_arrived m r)
agreed_arrived y r m l b a = record {
  first = a.first;
  size = a.size;
  within = a.within;
  rising = climbs_with r.arrived 0 m (omega arith) a.rising;
  arrived = λ n e. elim (has_one r.arrived m n e) [
    | inl same ↦
        (omega (arith, same, l), omega (arith, same, b))
    | inr old ↦ a.arrived n old
  ];
  starts = a.starts;
  heard = a.heard;
  acked = λ n from below e. has_old r.arrived m n (a.acked n from below e);
  failed = a.failed;
}

-- A request arrives.
pub agreed_start : (y : Session) (r : Receiver) (m : ℕ) → y.first ≤ m → m ≤ start_of y → IsAgreed y r →
    IsAgreed y (with_start m r)
agreed_start y r m l b a = record {
  first = a.first;
  size = a.size;
  within = a.within;
  rising = a.rising;
  arrived = a.arrived;
  starts = λ f e. elim (has_one r.starts m f e) [
    | inl same ↦
        (omega (arith, same, l), omega (arith, same, b))
    | inr old ↦ a.starts f old
  ];
  heard = elim a.heard [ inl e ↦ inl e | inr e ↦ inr (has_old r.starts m y.heard e) ];
  acked = a.acked;
  failed = a.failed;
}

-- A device that repeats frames announces the start of the window to its peer.
pub agreed_told : (y : Session) (r : Receiver) → IsAgreed y r →
    IsAgreed (with_heard_start true (start_of y) y) (with_start (start_of y) r)
agreed_told y r a = agreed_heard y (with_start (start_of y) r) (start_of y) (has_new r.starts (start_of y))
    (agreed_start y r (start_of y) (start_ge y.slots y.first) (omega arith) a)

-- No request is due after it.
pub told_quiet : (y : Session) → request_due (with_heard_start true (start_of y) y) ≡ false
told_quiet y = on_bool (request_due (with_heard_start true (start_of y) y))
    (λ d.
    let u = due_at (with_heard_start true (start_of y) y) d in
    absurd (omega (arith, u.1.told, u.1.below)))
    (λ e. e)

-- A heard start makes no request due.
pub quiet_heard : (b : Bool) (f : ℕ) (y : Session) → request_due y ≡ false →
    request_due (with_heard_start b f y) ≡ false
quiet_heard false f y h = h
quiet_heard true f y h = on_bool (request_due (with_heard_start true f y))
    (λ d. let u = due_at (with_heard_start true f y) d in absurd (cc (
      at_due y u.0 (record {
        from = u.1.from;
        failed = u.1.failed;
        told = omega (arith, u.1.told);
        below = u.1.below;
      }),
      h,
    ))) (λ e. e)

pub agreed_new : (first size : ℕ) → IsAgreed (record {
  first = first;
  size = size;
  slots = [];
  heard =
      first;
}) (record { first = first; size = size; arrived = []; starts = [] })
agreed_new first size = record {
  first = refl;
  size = refl;
  within = record { within = omega arith };
  rising = tt;
  arrived = λ n e. absurd (cc e);
  starts = λ n e. absurd (cc e);
  heard = inl refl;
  acked = λ n from below e. absurd (omega (arith, from, below));
  failed = λ n u. absurd (omega (arith, u.from, u.below));
}

-- ---- an open exchange between the two sides

-- Holds while a request with start f is open.
pub record IsAsked (f : ℕ) (y : Session) : Type 0 where
  pub due : request_due y ≡ true
  pub from : y.first ≤ f
  pub start : f ≤ start_of y
  pub next : next_number y ≤ f + y.size
  pub untold : (n : ℕ) × IsUntold y n × (n < f)

-- The answer of an open exchange is right for one of its numbers.
pub record IsRight (b : Score) (r : Receiver) (m : Mpdu) : Type 0 where
  pub shown : shows b m.number ≡ has r.arrived m.number
  pub from : b.start ≤ m.number
  pub below : m.number < b.start + 2 * r.size

abbrev pub AllRight : Score → Receiver → List Mpdu → Type 0
AllRight b r [] = Unit {0}
AllRight b r (m ∷ ms) = IsRight b r m × AllRight b r ms

abbrev pub IfRequest : Content → (ℕ → Type 0) → Type 0
IfRequest (Frames ms) P = Unit {0}
IfRequest (Request f) P = P f

pub record IsOpen (x : Exchange) (y : Session) (r : Receiver) : Type 0 where
  pub flies : FlyIn x.number (mpdus_of x.content) y
  pub kept : IfSome x.answer (λ b. AllRight b r (mpdus_of x.content))
  pub asked : IfRequest x.content (λ f. IsAsked f y)
  pub told : IfRequest x.content (λ f. (length x.arrived == 0) ≡ false → has r.starts f ≡ true)
  pub marked : is_some x.answer ≡ true → (length x.arrived == 0) ≡ false
  -- No batch is answered. The frames that arrived are at the receiver.
  pub unbatched : is_some x.answer ≡ true → x.batch ≡ false
  pub reached : is_request x.content ≡ false → (n : ℕ) → has (numbers_arrived x) n ≡ true →
      has r.arrived n ≡ true

pub request_map : (c : Content) (P Q : ℕ → Type 0) → ((f : ℕ) → P f → Q f) → IfRequest c P → IfRequest c Q
request_map (Frames ms) P Q h k = tt
request_map (Request f) P Q h k = h f k

pub option_along : (P Q : Score → Type 0) (o : Option Score) → ((b : Score) → P b → Q b) → IfSome o P →
    IfSome o Q
option_along P Q None h k = tt
option_along P Q (Some b) h k = h b k

all_right_same : (b : Score) (r r' : Receiver) (ms : List Mpdu) → r'.size ≡ r.size → r'.arrived ≡ r.arrived →
    AllRight b r ms → AllRight b r' ms
all_right_same b r r' [] e d h = tt
all_right_same b r r' (m ∷ ms) e d h = (
  record {
    shown =
        h.0.shown ∙ ap (λ (xs : List ℕ). has xs m.number) (sym d);
    from = h.0.from;
    below =
        omega (arith, h.0.below, e);
  },
  all_right_same b r r' ms e d h.1,
)

all_right_arrived : (b : Score) (r : Receiver) (y : Session) (e n k : ℕ) (ms : List Mpdu) →
    (slot y n).state ≡ State.Flying e → k ≢ e → AllIn y (State.Flying k) ms → AllRight b r ms →
    AllRight b (with_arrived n r) ms
all_right_arrived b r y e n k [] f ne a h = tt
all_right_arrived b r y e n k (m ∷ ms) f ne a h =
    let other : n ≢ m.number = λ same. ne (let d : (slot y n).state ≡ State.Flying k =
    ap (λ (i : ℕ). (slot y i).state) same ∙ a.0 in cc) in (
      record {
        shown = h.0.shown ∙ sym (has_other r.arrived n m.number other);
        from = h.0.from;
        below =
            h.0.below;
      },
      all_right_arrived b r y e n k ms f ne a.1 h.1,
    )

pub all_in_heard : (ms : List Mpdu) (y : Session) (st : State) (h : ℕ) → AllIn y st ms →
    AllIn (record y { heard = h }) st ms
all_in_heard [] y st h a = tt
all_in_heard (m ∷ ms) y st h a = (a.0, all_in_heard ms y st h a.1)

-- Another exchange stays right if the slot of an unsettled number of e changes.
pub open_on_slot : (x : Exchange) (y : Session) (r : Receiver) (m : ℕ) (f : Slot → Slot) → y.first ≤ m →
    is_settled (slot y m).state ≡ false
    → ((slot y m).state ≡ State.Flying x.number → (f (slot y m)).state ≡ State.Flying x.number) →
    IsOpen x y r → IsOpen x (on_slot m f y) r
open_on_slot x y r m f l h k o =
    let next : next_number (on_slot m f y) ≡ next_number y = next-on_slot y m f h in
    record {
      flies = record {
        rising = subst (λ (i : ℕ). Rises y.first i (mpdus_of x.content)) (sym next) o.flies.rising;
        flying = all_in_change y (State.Flying x.number) m f (mpdus_of x.content) k o.flies.flying;
      };
      kept = o.kept;
      asked = request_map x.content (λ g. IsAsked g y) (λ g. IsAsked g (on_slot m f y)) (λ g a. record {
        due = due_on_slot y m f l h a.due;
        from = a.from;
        start = omega (arith, a.start, start_on_slot y m f h);
        next = omega (arith, next, a.next);
        untold = (a.untold.0, untold_after y m a.untold.0 f l h a.untold.1, a.untold.2);
      }) o.asked;
      told = o.told;
      marked = o.marked;
      unbatched = o.unbatched;
      reached = o.reached;
    }

start_unsettled : (xs : List Slot) (n k : ℕ) (f : Slot → Slot) → is_settled (at no_slot xs k).state ≡ false →
    is_settled (f (at no_slot xs k)).state ≡ false →
    first_unsettled n (change no_slot xs k f) ≡ first_unsettled n xs
start_unsettled [] n k f h e = absurd (cc h)
start_unsettled (x ∷ xs) n zero f h e = ap (λ (b : Bool). if b then first_unsettled (suc n) xs else n) e
    ∙ sym (ap (λ (b : Bool). if b then first_unsettled (suc n) xs else n) h)
start_unsettled (x ∷ xs) n (suc k) f h e = ap (λ (i : ℕ). if is_settled x.state then i else n)
    (start_unsettled xs (suc n) k f h e)

-- The changed slot neither fails nor was settled: no request becomes due.
pub quiet_on_slot : (y : Session) (m : ℕ) (f : Slot → Slot) → y.first ≤ m →
    is_settled (slot y m).state ≡ false → is_settled (f (slot y m)).state ≡ false → request_due y ≡ false →
    request_due (on_slot m f y) ≡ false
quiet_on_slot y m f l h k none = on_bool (request_due (on_slot m f y))
    (λ d.
    let u = due_at (on_slot m f y) d in
    let z : Session = on_slot m f y in
    let here : slot z m ≡ f (slot y m) = slot_same y m f in
    let stays : is_settled (slot z m).state ≡ false = ap (λ (x : Slot). is_settled x.state) here ∙ k in
    let ne : m ≢ u.0 =
    λ e. cc (ap is_settled u.1.failed, ap (λ (i : ℕ). is_settled (slot z i).state) e, stays) in
    let back : slot y u.0 ≡ slot z u.0 = sym (slot_other y m u.0 f l u.1.from ne) in
    let failed : (slot y u.0).state ≡ State.Failed = ap (λ (x : Slot). x.state) back ∙ u.1.failed in
    let start : start_of z ≡ start_of y = start_unsettled y.slots y.first (m - y.first) f h k in
    absurd (cc (
      at_due y u.0 (record {
        from = u.1.from;
        failed = failed;
        told = u.1.told;
        below = omega (arith, u.1.below, start);
      }),
      none,
    )))
    (λ e. e)

-- While no request is due, none is open.
pub not_asked : (x : Exchange) (y z : Session) → request_due y ≡ false →
    IfRequest x.content (λ f. IsAsked f y) → IfRequest x.content (λ f. IsAsked f z)
not_asked x y z none a = request_map x.content (λ f. IsAsked f y) (λ f. IsAsked f z)
    (λ f k. absurd (cc (k.due, none))) a

pub open_flies : (x : Exchange) (y z : Session) (r : Receiver) → request_due y ≡ false →
    (FlyIn x.number (mpdus_of x.content) y → FlyIn x.number (mpdus_of x.content) z) → IsOpen x y r →
    IsOpen x z r
open_flies x y z r none f o = record {
  flies = f o.flies;
  kept = o.kept;
  asked = not_asked x y z none o.asked;
  told = o.told;
  marked = o.marked;
  unbatched = o.unbatched;
  reached = o.reached;
}

pub open_arrived : (x : Exchange) (y : Session) (r : Receiver) (e n : ℕ) → (slot y n).state ≡ State.Flying e →
    x.number ≢ e → IsOpen x y r → IsOpen x y (with_arrived n r)
open_arrived x y r e n f ne o = record {
  flies = o.flies;
  kept = option_along (λ b. AllRight b r (mpdus_of x.content))
      (λ b. AllRight b (with_arrived n r) (mpdus_of x.content)) x.answer
      (λ b h. all_right_arrived b r y e n x.number (mpdus_of x.content) f ne o.flies.flying h) o.kept;
  asked = o.asked;
  told = o.told;
  marked = o.marked;
  unbatched = o.unbatched;
  reached = λ c k h. has_old r.arrived n k (o.reached c k h);
}

pub open_start : (x : Exchange) (y : Session) (r : Receiver) (n : ℕ) → IsOpen x y r →
    IsOpen x y (with_start n r)
open_start x y r n o = record {
  flies = o.flies;
  kept = option_along (λ b. AllRight b r (mpdus_of x.content))
      (λ b. AllRight b (with_start n r) (mpdus_of x.content)) x.answer
      (λ b h. all_right_same b r (with_start n r) (mpdus_of x.content) refl refl h) o.kept;
  asked = o.asked;
  told = request_map x.content (λ f. (length x.arrived == 0) ≡ false → has r.starts f ≡ true)
      (λ f. (length x.arrived == 0) ≡ false → has (with_start n r).starts f ≡ true)
      (λ f h e. has_old r.starts n f (h e)) o.told;
  marked = o.marked;
  unbatched = o.unbatched;
  reached = o.reached;
}

-- An exchange that is not a request stays right if another exchange ends as heard.
pub open_heard : (x : Exchange) (y : Session) (r : Receiver) (h : ℕ) → IfRequest x.content (λ f. ⊥) →
    IsOpen x y r → IsOpen x (record y { heard = h }) r
open_heard x y r h none o = record {
  flies = record {
    rising = o.flies.rising;
    flying =
        all_in_heard (mpdus_of x.content) y (State.Flying x.number) h o.flies.flying;
  };
  kept = o.kept;
  asked = request_map x.content (λ f. ⊥) (λ f. IsAsked f (record y { heard = h })) (λ f k. absurd k) none;
  told = o.told;
  marked = o.marked;
  unbatched = o.unbatched;
  reached = o.reached;
}

-- Waiting numbers of an aggregate are sent.
pub agreed_fly : (ms : List Mpdu) (y : Session) (r : Receiver) (e lo hi : ℕ) → y.first ≤ lo → Rises lo hi ms →
    AllIn y State.Waiting ms → IsAgreed y r → IsAgreed (with_flying e ms y) r
agreed_fly [] y r e lo hi b c a k = k
agreed_fly (m ∷ ms) y r e lo hi b c a k =
    let f : Slot → Slot = λ x. record x { state = State.Flying e } in
    agreed_fly ms (on_slot m.number f y) r e (suc m.number) hi (omega (arith, c.0)) c.2
    (all_in_later y State.Waiting m.number hi f ms (omega (arith, c.0)) c.2 a.1)
    (agreed_on_slot y r m.number f (omega (arith, c.0)) (ap is_settled a.0) (λ no_ack. cc no_ack) k)

-- The answer that is made now shows exactly those numbers on the air that arrived.
pub answer_right : (ms : List Mpdu) (y : Session) (r : Receiver) (e lo hi : ℕ) → y.first ≤ lo →
    hi ≤ next_number y → Rises lo hi ms → AllIn y (State.Flying e) ms → IsAgreed y r → AllRight (score r) r ms
answer_right [] y r e lo hi l b c a k = tt
answer_right (m ∷ ms) y r e lo hi l b c a k =
    let from : score_start r ≤ m.number = omega (
      arith,
      score_kept y r k,
      unsettled_ge y m.number (omega (arith, c.0)) (ap is_settled a.0),
    ) in (
      record {
        shown = shows_has r m.number from;
        from = from;
        below = omega (arith, c.1, k.size, next_release y r k, release_score y r k);
      },
      answer_right ms y r e (suc m.number) hi (omega (arith, c.0)) b c.2 a.1 k,
    )
