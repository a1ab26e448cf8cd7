-- Proves which numbers of a session are on the air after it changes, by which open exchange each is sent, and
-- that the open exchanges stay in increasing order of their numbers.
use Rattle.std.proofs.Common.{◌≡◌, refl, ap, sym, ◌∙◌, subst, arith, ℕ, suc, ◌+◌, ◌-◌, ◌<◌, ◌≤◌, nat_lt, Bool, true, false, if◌then◌else◌, not, ◌==◌, ◌⊎◌, inl, inr, List, [], ◌∷◌, ◌++◌, length, map, filter, find, Option, Some, None, IfSome}
use Rattle.wf_def_lists.specs.Table.{at, has}
use Rattle.wf_def_agreement.specs.Session.{Session, Slot, State, slot_given_up, slot, on_slot, with_number_given, is_settled, is_waiting, first_unsettled, start_of, after_flush, slot_flushed, next_number, no_slot}
use Rattle.wf_def_world.specs.World.{Exchange, Mpdu, Content}
use Rattle.wf_def_world.specs.Exchanges.{with_heard_start, mpdus_of, with_flying}
use Rattle.wf_law_rules.proofs.Lemmas.Tables.{each_put}
use Rattle.wf_law_rules.proofs.Lemmas.Numbers.{on_bool, on_if, lt_yes, lt_no, eq_yes, eq_no, or_left, or_right}
use Rattle.wf_law_runs.specs.Windows.{SomeOpen, IsSending, OpenRises}
use Rattle.wf_law_runs.proofs.Common.Flushes.{flush_along, slot_flush, flushed_stays}
use Rattle.wf_law_runs.proofs.Sessions.Flights.{Rises, next-give}
use Rattle.wf_law_runs.proofs.Windows.Agreement.{below_next, slot_give, slot_new, slot_other, slot_same}
use Rattle.wf_law_runs.proofs.Windows.Opened.{Each}

-- ---- no number is sent

-- Every number that is on the air in z was on the air in y.
pub record Lands (y z : Session) : Type 0 where
  pub flew : (n e : ℕ) → z.first ≤ n → (slot z n).state ≡ State.Flying e → (y.first ≤ n) ×
      ((slot y n).state ≡ State.Flying e)

pub lands_refl : (y : Session) → Lands y y
lands_refl y = record { flew = λ n e b h. (b, h) }

pub then_lands : (x y z : Session) → Lands x y → Lands y z → Lands x z
then_lands x y z h k = record { flew = λ n e b f. let p = k.flew n e b f in h.flew n e p.0 p.1 }

pub lands_on_slot : (y : Session) (m : ℕ) (f : Slot → Slot) →
    ((x : Slot) (e : ℕ) → (f x).state ≡ State.Flying e → ⊥) → Lands y (on_slot m f y)
lands_on_slot y m f h = record {
  flew = λ n e b. each_put (λ i x. x.state ≡ State.Flying e → (y.first ≤ n) ×
      ((at no_slot y.slots i).state ≡ State.Flying e)) no_slot y.slots (m - y.first)
      (f (at no_slot y.slots (m - y.first))) (λ i k. (b, k)) (λ k. absurd (h _ e k)) (n - y.first);
}

pub lands_give : (y : Session) (id : ℕ) → Lands y (with_number_given y id)
lands_give y id = record {
  flew = λ n e b h.
      let below : n < next_number (with_number_given y id) =
      below_next (with_number_given y id) n b (λ k. cc (h, k)) in
      on_bool (nat_lt n (next_number y))
      (λ l. (b, ap (λ (x : Slot). x.state) (sym (slot_give y id n b (lt_yes n (next_number y) l))) ∙ h))
      (λ l. let here : n ≡ next_number y = omega (arith, next-give y id, below, lt_no n (next_number y) l) in
      absurd (cc (slot_new y id n here, h)));
}

pub lands_heard : (b : Bool) (f : ℕ) (y : Session) → Lands y (with_heard_start b f y)
lands_heard true f y = record { flew = λ n e b h. (b, h) }
lands_heard false f y = lands_refl y

pub lands_flush : (limit : ℕ) (y : Session) → Lands y (after_flush limit y)
lands_flush limit y = flush_along (Lands y) limit y
    (λ z n e l b waits k. then_lands y z _ k (lands_on_slot z n (slot_given_up limit) (λ x e h. cc h)))
    (lands_refl y)

pub fly_or : (ms : List Mpdu) (y : Session) (e n f lo hi : ℕ) → y.first ≤ lo → Rises lo hi ms → y.first ≤ n →
    (slot (with_flying e ms y) n).state ≡ State.Flying f → ((slot y n).state ≡ State.Flying f) ⊎
    ((f ≡ e) × (has (map (λ m. m.number) ms) n ≡ true))
fly_or [] y e n f lo hi b r l h = inl h
fly_or (m ∷ ms) y e n f lo hi b r l h =
    let g : Slot → Slot = λ x. record x { state = State.Flying e } in
    elim (fly_or ms (on_slot m.number g y) e n f (suc m.number) hi (omega (arith, r.0)) r.2 l h) [
      | inl there ↦ on_bool (m.number == n)
          (λ own.
          let d : (slot (on_slot m.number g y) n).state ≡ State.Flying e =
          ap (λ (k : ℕ). (slot (on_slot m.number g y) k).state) (sym (eq_yes m.number n own))
          ∙ ap (λ (x : Slot). x.state) (slot_same y m.number g) in
          inr (cc (there, d), or_left (m.number == n) _ own))
          (λ other. inl (ap (λ (x : Slot). x.state) (sym
          (slot_other y m.number n g (omega (arith, r.0)) l (eq_no m.number n other))) ∙ there))
      | inr among ↦ inr (among.0, or_right (m.number == n) _ among.1)
    ]

-- ---- at least one open exchange

pub some_front : (P : Exchange → Type 0) (xs : List Exchange) (x : Exchange) → SomeOpen P xs →
    SomeOpen P (xs ++ x ∷ [])
some_front P [] x k = absurd k
some_front P (y ∷ xs) x k = elim k [ inl a ↦ inl a | inr b ↦ inr (some_front P xs x b) ]

pub some_last : (P : Exchange → Type 0) (xs : List Exchange) (x : Exchange) → P x → SomeOpen P (xs ++ x ∷ [])
some_last P [] x k = inl k
some_last P (y ∷ xs) x k = inr (some_last P xs x k)

pub some_replaced : (P N : Exchange → Type 0) (p : Exchange → Bool) (z : Exchange) (xs : List Exchange) →
    Each N xs → ((y : Exchange) → p y ≡ true → N y → P y → P z) → SomeOpen P xs →
    SomeOpen P (map (λ y. if p y then z else y) xs)
some_replaced P N p z [] n h k = k
some_replaced P N p z (x ∷ xs) n h k = elim k [
  | inl a ↦
      inl (on_if P (p x) z x (λ e. h x e n.0 a) (λ _. a))
  | inr b ↦ inr (some_replaced P N p z xs n.1 h b)
]

-- An exchange of which another one is a copy with changes sends the same.
pub sending_as : (s t e n : ℕ) (x z : Exchange) → z.number ≡ x.number → z.station ≡ x.station →
    z.tid ≡ x.tid →
    z.content ≡ x.content → IsSending s t e n x → IsSending s t e n z
sending_as s t e n x z a b c d k = record {
  number = a ∙ k.number;
  station = b ∙ k.station;
  tid = c ∙ k.tid;
  among = ap (λ (q : Content). has (map (λ m. m.number) (mpdus_of q)) n) d ∙ k.among;
}

-- Without the exchange x a number is sent by another one, or was sent by x.
pub some_without : (P : Exchange → Type 0) (x : Exchange) (xs : List Exchange) →
    Each (λ y. y.number ≡ x.number → y ≡ x) xs → SomeOpen P xs →
    SomeOpen P (filter (λ y. not (y.number == x.number)) xs) ⊎ P x
some_without P x [] only k = absurd k
some_without P x (y ∷ ys) only k =
    let kept : List Exchange = filter (λ y. not (y.number == x.number)) ys in
    elim k [
      | inl a ↦ on_bool (y.number == x.number)
          (λ own. inr (subst P (only.0 (eq_yes y.number x.number own)) a))
          (λ other. inl (subst (λ (b : Bool). SomeOpen P (if not b then y ∷ kept else kept)) (sym other)
          (inl a)))
      | inr b ↦ elim (some_without P x ys only.1 b) [
        | inl there ↦ inl (on_if (SomeOpen P) (not (y.number == x.number)) (y ∷ kept) kept
            (λ _. inr there) (λ _. there))
        | inr own ↦ inr own
      ]
    ]

-- The exchange z, which has the number, the TID and the content of x, replaces x.
pub some_copied : (s t e n : ℕ) (x z : Exchange) (xs : List Exchange) → z.number ≡ x.number →
    z.station ≡ x.station → z.tid ≡ x.tid → z.content ≡ x.content →
    Each (λ y. y.number ≡ x.number → y ≡ x) xs → SomeOpen (IsSending s t e n) xs →
    SomeOpen (IsSending s t e n) (map (λ y. if y.number == z.number then z else y) xs)
some_copied s t e n x z xs a b c d only k =
    some_replaced (IsSending s t e n) (λ y. y.number ≡ x.number → y ≡ x) (λ y. y.number == z.number) z xs only
    (λ y g own h. sending_as s t e n x z a b c d
    (subst (IsSending s t e n) (own (eq_yes y.number z.number g ∙ a)) h)) k

-- No number is sent for a TID for which no exchange is open.
pub none_sending : (s t e n : ℕ) (xs : List Exchange) → Each (λ x. s ≡ x.station → t ≡ x.tid → ⊥) xs →
    SomeOpen (IsSending s t e n) xs → ⊥
none_sending s t e n [] none k = k
none_sending s t e n (x ∷ xs) none k = elim k [
  | inl a ↦ none.0 (sym a.station) (sym a.tid)
  | inr b ↦ none_sending s t e n xs none.1 b
]

-- ---- the exchanges are in increasing order of their numbers

pub rises_higher : (xs : List Exchange) (lo lo' hi hi' : ℕ) → lo' ≤ lo → hi ≤ hi' → OpenRises lo hi xs →
    OpenRises lo' hi' xs
rises_higher [] lo lo' hi hi' h k r = tt
rises_higher (x ∷ xs) lo lo' hi hi' h k r = (
  omega (arith, r.0),
  omega (arith, r.1),
  rises_higher xs (suc x.number) (suc x.number) hi hi' (omega arith) k r.2,
)

pub rises_new : (xs : List Exchange) (x : Exchange) (lo hi : ℕ) → lo ≤ hi → x.number ≡ hi →
    OpenRises lo hi xs →
    OpenRises lo (suc hi) (xs ++ x ∷ [])
rises_new [] x lo hi h e r = (omega (arith, e), omega (arith, e), tt)
rises_new (y ∷ xs) x lo hi h e r = (
  r.0,
  omega (arith, r.1),
  rises_new xs x (suc y.number) hi (omega (arith, r.1)) e r.2,
)

pub rises_replaced : (xs : List Exchange) (z : Exchange) (lo hi : ℕ) → OpenRises lo hi xs →
    OpenRises lo hi (map (λ y. if y.number == z.number then z else y) xs)
rises_replaced [] z lo hi r = tt
rises_replaced (x ∷ xs) z lo hi r =
    let rest : OpenRises (suc x.number) hi (map (λ y. if y.number == z.number then z else y) xs) =
    rises_replaced xs z (suc x.number) hi r.2 in
    on_if (λ (y : Exchange). (lo ≤ y.number) × (y.number < hi) ×
    OpenRises (suc y.number) hi (map (λ y. if y.number == z.number then z else y) xs))
    (x.number == z.number) z x
    (λ e. let d : x.number ≡ z.number = eq_yes _ _ e in (
      omega (arith, d, r.0),
      omega (arith, d, r.1),
      subst (λ (k : ℕ). OpenRises (suc k) hi (map (λ y. if y.number == z.number then z else y) xs)) d rest,
    ))
    (λ _. (r.0, r.1, rest))

pub rises_filter : (xs : List Exchange) (p : Exchange → Bool) (lo hi : ℕ) → OpenRises lo hi xs →
    OpenRises lo hi (filter p xs)
rises_filter [] p lo hi r = tt
rises_filter (x ∷ xs) p lo hi r =
    let rest : OpenRises (suc x.number) hi (filter p xs) = rises_filter xs p (suc x.number) hi r.2 in
    on_if (OpenRises lo hi) (p x) (x ∷ filter p xs) (filter p xs) (λ _. (r.0, r.1, rest))
    (λ _. rises_higher (filter p xs) (suc x.number) lo hi hi (omega (arith, r.0)) (omega arith) rest)

pub none_later : (xs : List Exchange) (x : Exchange) (e lo hi : ℕ) → e < lo → OpenRises lo hi xs →
    Each (λ y. y.number ≡ e → y ≡ x) xs
none_later [] x e lo hi h r = tt
none_later (y ∷ xs) x e lo hi h r = (
  (λ k. absurd (omega (arith, k, h, r.0))),
  none_later xs x e (suc y.number) hi (omega (arith, h, r.0)) r.2,
)

-- The exchange that is found is the only one with its number.
pub found_only : (xs : List Exchange) (e lo hi : ℕ) → OpenRises lo hi xs →
    IfSome (find (λ x. x.number == e) xs) (λ x. Each (λ y. y.number ≡ e → y ≡ x) xs)
found_only [] e lo hi r = tt
found_only (x ∷ xs) e lo hi r =
    on_if (λ (o : Option Exchange). IfSome o (λ z. Each (λ y. y.number ≡ e → y ≡ z) (x ∷ xs))) (x.number == e)
    (Some x) (find (λ x. x.number == e) xs)
    (λ d. (
      (λ _. refl),
      none_later xs x e (suc x.number) hi
          (let k : x.number ≡ e = eq_yes _ _ d in omega arith) r.2,
    ))
    (λ d. option_each (find (λ x. x.number == e) xs) (λ k. eq_no x.number e d k)
    (found_only xs e (suc x.number) hi r.2))
  where
    option_each : (o : Option Exchange) → (x.number ≡ e → ⊥) →
        IfSome o (λ z. Each (λ y. y.number ≡ e → y ≡ z) xs) →
        IfSome o (λ z. Each (λ y. y.number ≡ e → y ≡ z) (x ∷ xs))
    option_each None ne h = tt
    option_each (Some z) ne h = ((λ k. absurd (ne k)), h)

-- ---- a session whose numbers are all settled

start_all : (xs : List Slot) (n : ℕ) →
    ((k : ℕ) → k < length xs → is_settled (at no_slot xs k).state ≡ true) →
    first_unsettled n xs ≡ n + length xs
start_all [] n h = omega arith
start_all (x ∷ xs) n h =
    let rest : first_unsettled (suc n) xs ≡ suc n + length xs =
    start_all xs (suc n) (λ k l. h (suc k) (omega (arith, l))) in
    ap (λ (b : Bool). if b then first_unsettled (suc n) xs else n) (h 0 (omega arith)) ∙ omega (arith, rest)

pub settled_flush : (limit : ℕ) (x : Slot) → ((e : ℕ) → x.state ≡ State.Flying e → ⊥) →
    is_settled (slot_flushed limit x).state ≡ true
settled_flush limit x none = on_bool (is_waiting x.state)
    (λ h. ap (λ (b : Bool). is_settled (if b then slot_given_up limit x else x).state) h)
    (λ h. ap (λ (y : Slot). is_settled y.state) (flushed_stays limit x h) ∙ go x.state none h)
  where
    go : (st : State) → ((e : ℕ) → st ≡ State.Flying e → ⊥) → is_waiting st ≡ false → is_settled st ≡ true
    go State.Waiting k h = absurd (cc h)
    go (State.Flying e) k h = absurd (k e refl)
    go State.Acked k h = refl
    go State.Failed k h = refl

-- If no number is on the air, all numbers are settled after a flush.
pub start_flush : (limit : ℕ) (y : Session) →
    ((n e : ℕ) → y.first ≤ n → (slot y n).state ≡ State.Flying e → ⊥) →
    start_of (after_flush limit y) ≡ next_number (after_flush limit y)
start_flush limit y none = start_all (after_flush limit y).slots y.first (λ k _.
    let place : y.first + k - y.first ≡ k = omega arith in
    ap (λ (i : ℕ). is_settled (at no_slot (after_flush limit y).slots i).state) (sym place)
    ∙ ap (λ (x : Slot). is_settled x.state) (slot_flush limit y (y.first + k))
    ∙ settled_flush limit (slot y (y.first + k)) (λ e. none (y.first + k) e (omega arith)))
