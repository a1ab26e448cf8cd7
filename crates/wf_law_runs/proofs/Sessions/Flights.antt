-- Proves how the numbers that an exchange sends change their states in a session. By induction on the
-- numbers.
use Rattle.std.proofs.Common.{◌≡◌, ◌≢◌, refl, ap, sym, ◌∙◌, subst, arith, ℕ, suc, ◌+◌, ◌-◌, ◌<◌, ◌≤◌, Bool, true, false, if◌then◌else◌, List, [], ◌∷◌, ◌++◌, length, length-append, add-zero, map, take, drop}
use Rattle.std.proofs.lemmas.List.{take-append-drop}
use Rattle.wf_def_lists.specs.Table.{at, greatest_upto}
use Rattle.wf_def_agreement.specs.Session.{Session, Slot, State, no_slot, slot, on_slot, with_state, with_number_given, is_settled, is_waiting, next_number, numbers_where}
use Rattle.wf_def_world.specs.World.{World, Mpdu, session}
use Rattle.wf_def_world.specs.Exchanges.{with_flying, mpdu_of, waiting_mpdus, fits_in, longest_fitting}
use Rattle.wf_law_runs.proofs.Sessions.Starts.{IsWithin, length-change, within_on_slot, keeps_change, keeps_append, at_append, at_change_other, at_change_same}

-- Each of the numbers is in this state.
abbrev pub AllIn : Session → State → List Mpdu → Type 0
AllIn y st [] = Unit {0}
AllIn y st (m ∷ ms) = ((slot y m.number).state ≡ st) × AllIn y st ms

-- None of the numbers is in this state.
abbrev pub NoneIn : Session → State → List Mpdu → Type 0
NoneIn y st [] = Unit {0}
NoneIn y st (m ∷ ms) = ((slot y m.number).state ≢ st) × NoneIn y st ms

-- The numbers increase strictly, the first is at least lo, and all are below hi.
abbrev pub Rises : ℕ → ℕ → List Mpdu → Type 0
Rises lo hi [] = Unit {0}
Rises lo hi (m ∷ ms) = (lo ≤ m.number) × (m.number < hi) × Rises (suc m.number) hi ms

is_flying : (st : State) (e : ℕ) → st ≡ State.Flying e → is_settled st ≡ false
is_flying st e h = ap is_settled h

is_waiting_state : (st : State) → is_waiting st ≡ true → st ≡ State.Waiting
is_waiting_state State.Waiting h = refl
is_waiting_state (State.Flying e) h = absurd (cc h)
is_waiting_state State.Acked h = absurd (cc h)
is_waiting_state State.Failed h = absurd (cc h)

-- ---- one number changes

pub all_in_change : (y : Session) (st : State) (n : ℕ) (f : Slot → Slot) (ms : List Mpdu) →
    ((slot y n).state ≡ st → (f (slot y n)).state ≡ st) → AllIn y st ms → AllIn (on_slot n f y) st ms
all_in_change y st n f [] h a = tt
all_in_change y st n f (m ∷ ms) h a = (
  keeps_change (λ s. s ≡ st) (λ s. s ≡ st) y.slots (n - y.first) f h (λ s e. e) (m.number - y.first) a.0,
  all_in_change y st n f ms h a.1,
)

pub none_in_change : (y : Session) (st : State) (n : ℕ) (f : Slot → Slot) (ms : List Mpdu) →
    (f (slot y n)).state ≢ st → NoneIn y st ms → NoneIn (on_slot n f y) st ms
none_in_change y st n f [] h a = tt
none_in_change y st n f (m ∷ ms) h a = (
  keeps_change (λ s. s ≢ st) (λ s. s ≢ st) y.slots (n - y.first) f (λ _. h) (λ s e. e)
      (m.number - y.first) a.0,
  none_in_change y st n f ms h a.1,
)

pub rises_weaken : (lo lo' hi hi' : ℕ) (ms : List Mpdu) → lo' ≤ lo → hi ≤ hi' → Rises lo hi ms →
    Rises lo' hi' ms
rises_weaken lo lo' hi hi' [] h k r = tt
rises_weaken lo lo' hi hi' (m ∷ ms) h k r = (
  omega (arith, r.0),
  omega (arith, r.1),
  rises_weaken (suc m.number) (suc m.number) hi hi' ms (omega arith) k r.2,
)

-- Numbers after the one that changes keep their states.
pub all_in_later : (y : Session) (st : State) (n hi : ℕ) (f : Slot → Slot) (ms : List Mpdu) → y.first ≤ n →
    Rises (suc n) hi ms → AllIn y st ms → AllIn (on_slot n f y) st ms
all_in_later y st n hi f [] b r a = tt
all_in_later y st n hi f (m ∷ ms) b r a =
    let ne : n - y.first ≢ m.number - y.first = omega (arith, r.0) in (
      ap (λ (x : Slot). x.state) (at_change_other y.slots (n - y.first) (m.number - y.first) f ne) ∙ a.0,
      all_in_later y st n hi f ms b (rises_weaken (suc m.number) (suc n) hi hi ms (omega (arith, r.0))
          (omega arith) r.2) a.1,
    )

-- ---- a new number

pub all_in_give : (y : Session) (id : ℕ) (st : State) (ms : List Mpdu) → st ≢ State.Acked → AllIn y st ms →
    AllIn (with_number_given y id) st ms
all_in_give y id st [] h a = tt
all_in_give y id st (m ∷ ms) h a = (
  keeps_append y.slots _ st h (m.number - y.first) a.0,
  all_in_give y id st ms h a.1,
)

pub fresh_waits : (y : Session) (id : ℕ) → (slot (with_number_given y id) (next_number y)).state
    ≡ State.Waiting
fresh_waits y id =
    let e : next_number y - y.first ≡ length y.slots = omega arith in
    ap (λ (k : ℕ). (at no_slot (with_number_given y id).slots k).state) e
    ∙ ap (λ (x : Slot). x.state) (at_append y.slots _)

-- ---- the numbers are sent

pub fly_keeps : (ms : List Mpdu) (y : Session) (e n : ℕ) → (slot y n).state ≡ State.Flying e →
    (slot (with_flying e ms y) n).state ≡ State.Flying e
fly_keeps [] y e n h = h
fly_keeps (m ∷ ms) y e n h =
    fly_keeps ms (with_state (State.Flying e) m.number y) e n
    (keeps_change (λ s. s ≡ State.Flying e) (λ s. s ≡ State.Flying e) y.slots (m.number - y.first)
    (λ x. record x { state = State.Flying e }) (λ _. refl) (λ s k. k) (n - y.first) h)

-- The effect of sending waiting numbers.
pub record IsFlown (e : ℕ) (ms : List Mpdu) (y z : Session) : Type 0 where
  pub within : IsWithin y → IsWithin z
  pub flying : AllIn z (State.Flying e) ms
  pub others : (e' : ℕ) (ls : List Mpdu) → AllIn y (State.Flying e') ls → AllIn z (State.Flying e') ls
  pub first : z.first ≡ y.first
  pub next : next_number z ≡ next_number y

pub flown : (ms : List Mpdu) (y : Session) (e hi : ℕ) (lo : ℕ) → y.first ≤ lo → Rises lo hi ms →
    AllIn y State.Waiting ms → IsFlown e ms y (with_flying e ms y)
flown [] y e hi lo b r a = record {
  within = λ h. h;
  flying = tt;
  others = λ e' ls h. h;
  first = refl;
  next =
      refl;
}
flown (m ∷ ms) y e hi lo b r a =
    let f : Slot → Slot = λ x. record x { state = State.Flying e } in
    let unsettled : is_settled (slot y m.number).state ≡ false = ap is_settled a.0 in
    let rest : IsFlown e ms (on_slot m.number f y) (with_flying e ms (on_slot m.number f y)) =
    flown ms (on_slot m.number f y) e hi (suc m.number) (omega (arith, r.0)) r.2
    (all_in_later y State.Waiting m.number hi f ms (omega (arith, r.0)) r.2 a.1)
    in
    record {
      within = λ h. rest.within (within_on_slot y m.number f unsettled h);
      flying = (
        fly_keeps ms (on_slot m.number f y) e m.number
            (ap (λ (x : Slot). x.state) (at_change_same y.slots (m.number - y.first) f)),
        rest.flying,
      );
      others = λ e' ls h. rest.others e' ls (all_in_change y (State.Flying e') m.number f ls
          (λ k. absurd (cc (a.0, k))) h);
      first = rest.first;
      next = rest.next ∙ ap (λ (k : ℕ). y.first + k) (length-change y.slots (m.number - y.first) f unsettled);
    }

-- ---- the chosen numbers

-- The numbers wait in y, and are in strictly increasing order.
pub record IsChosen (y : Session) (ms : List Mpdu) : Type 0 where
  pub waiting : AllIn y State.Waiting ms
  pub rising : Rises y.first (next_number y) ms

all_in_front : (y : Session) (st : State) (xs ys : List Mpdu) → AllIn y st (xs ++ ys) → AllIn y st xs
all_in_front y st [] ys a = tt
all_in_front y st (x ∷ xs) ys a = (a.0, all_in_front y st xs ys a.1)

rises_front : (lo hi : ℕ) (xs ys : List Mpdu) → Rises lo hi (xs ++ ys) → Rises lo hi xs
rises_front lo hi [] ys r = tt
rises_front lo hi (x ∷ xs) ys r = (r.0, r.1, rises_front (suc x.number) hi xs ys r.2)

chosen_front : (y : Session) (xs ys : List Mpdu) → IsChosen y (xs ++ ys) → IsChosen y xs
chosen_front y xs ys c = record {
  waiting = all_in_front y State.Waiting xs ys c.waiting;
  rising =
      rises_front y.first (next_number y) xs ys c.rising;
}

if_chosen : (b : Bool) (y : Session) (xs ys : List Mpdu) → IsChosen y xs → IsChosen y ys →
    IsChosen y (if b then xs else ys)
if_chosen true y xs ys h k = h
if_chosen false y xs ys h k = k

pub chosen_fitting : (ms : List Mpdu) (w : World) (s : ℕ) (y : Session) → IsChosen y ms →
    IsChosen y (longest_fitting w s ms)
unfolding longest_fitting
chosen_fitting ms w s y c =
    let n : ℕ = greatest_upto (λ k. fits_in w s (take k ms)) (length ms) in
    chosen_front y (take n ms) (drop n ms) (subst (IsChosen y) (sym (take-append-drop n ms)) c)

rises_if : (b : Bool) (lo hi : ℕ) (m : Mpdu) (g : ℕ → Mpdu) (n : ℕ) (ns : List ℕ) → g n ≡ m → lo ≤ m.number →
    m.number < hi → Rises (suc m.number) hi (map g ns) → Rises lo hi (map g (if b then n ∷ ns else ns))
rises_if true lo hi m g n ns e h k r = (
  omega (arith, ap (λ (x : Mpdu). x.number) e),
  omega (arith, ap (λ (x : Mpdu). x.number) e),
  rises_weaken (suc m.number) (suc (g n).number) hi hi (map g ns)
      (omega (arith, ap (λ (x : Mpdu). x.number) e)) (omega arith) r,
)
rises_if false lo hi m g n ns e h k r = rises_weaken (suc m.number) lo hi hi (map g ns) (omega arith)
    (omega arith) r

waiting_rises : (xs : List Slot) (w : World) (s t n hi : ℕ) → n + length xs ≤ hi →
    Rises n hi (map (mpdu_of w s t) (numbers_where is_waiting n xs))
waiting_rises [] w s t n hi h = tt
waiting_rises (x ∷ xs) w s t n hi h =
    rises_if (is_waiting x.state) n hi (mpdu_of w s t n) (mpdu_of w s t) n
    (numbers_where is_waiting (suc n) xs) refl (omega arith) (omega (arith, h))
    (waiting_rises xs w s t (suc n) hi (omega (arith, h)))

waits_if : (b : Bool) (y : Session) (g : ℕ → Mpdu) (n : ℕ) (ns : List ℕ) →
    (b ≡ true → (slot y (g n).number).state ≡ State.Waiting) → AllIn y State.Waiting (map g ns) →
    AllIn y State.Waiting (map g (if b then n ∷ ns else ns))
waits_if true y g n ns h a = (h refl, a)
waits_if false y g n ns h a = a

waiting_waits : (xs : List Slot) (w : World) (s t : ℕ) (y : Session) (n : ℕ) →
    ((i : ℕ) → at no_slot y.slots (n + i - y.first) ≡ at no_slot xs i) →
    AllIn y State.Waiting (map (mpdu_of w s t) (numbers_where is_waiting n xs))
waiting_waits [] w s t y n h = tt
waiting_waits (x ∷ xs) w s t y n h =
    waits_if (is_waiting x.state) y (mpdu_of w s t) n (numbers_where is_waiting (suc n) xs)
    (λ e. ap (λ (k : ℕ). (at no_slot y.slots (k - y.first)).state) (sym (add-zero n))
    ∙ ap (λ (z : Slot). z.state) (h 0) ∙ is_waiting_state x.state e)
    (waiting_waits xs w s t y (suc n) (λ i. ap (λ (k : ℕ). at no_slot y.slots (k - y.first)) (omega arith)
    ∙ h (suc i)))

pub chosen_waiting : (w : World) (s t : ℕ) → IsChosen (session w s t) (waiting_mpdus w s t)
chosen_waiting w s t =
    let y : Session = session w s t in
    record {
      waiting = waiting_waits y.slots w s t y y.first (λ i. ap (at no_slot y.slots) (omega arith));
      rising = waiting_rises y.slots w s t y.first (next_number y) (omega arith);
    }

-- ---- a new number is chosen too

all_in_append : (y : Session) (st : State) (xs : List Mpdu) (m : Mpdu) → AllIn y st xs →
    (slot y m.number).state ≡ st → AllIn y st (xs ++ m ∷ [])
all_in_append y st [] m a h = (h, tt)
all_in_append y st (x ∷ xs) m a h = (a.0, all_in_append y st xs m a.1 h)

rises_append : (lo hi : ℕ) (xs : List Mpdu) (m : Mpdu) → Rises lo hi xs → lo ≤ hi → m.number ≡ hi →
    Rises lo (suc hi) (xs ++ m ∷ [])
rises_append lo hi [] m r h e = (omega (arith, e), omega (arith, e), tt)
rises_append lo hi (x ∷ xs) m r h e = (
  r.0,
  omega (arith, r.1),
  rises_append (suc x.number) hi xs m r.2 (omega (arith, r.1)) e,
)

pub next-give : (y : Session) (id : ℕ) → next_number (with_number_given y id) ≡ suc (next_number y)
next-give y id = omega (
  arith,
  length-append y.slots
      (record { id = id; attempts = 0; state = State.Waiting } ∷ []),
)

pub chosen_give : (y : Session) (id : ℕ) (ms : List Mpdu) → IsChosen y ms →
    IsChosen (with_number_given y id) ms
chosen_give y id ms c = record {
  waiting = all_in_give y id State.Waiting ms (λ e. cc e) c.waiting;
  rising = rises_weaken y.first y.first (next_number y) (next_number (with_number_given y id)) ms
      (omega arith) (omega (arith, next-give y id)) c.rising;
}

pub chosen_fresh : (y : Session) (id : ℕ) (m : Mpdu) (ms : List Mpdu) → m.number ≡ next_number y →
    IsChosen y ms → IsChosen (with_number_given y id) (ms ++ m ∷ [])
chosen_fresh y id m ms e c = record {
  waiting = all_in_append (with_number_given y id) State.Waiting ms m (chosen_give y id ms c).waiting
      (ap (λ (n : ℕ). (slot (with_number_given y id) n).state) e ∙ fresh_waits y id);
  rising = subst (λ (hi : ℕ). Rises y.first hi (ms ++ m ∷ [])) (sym (next-give y id))
      (rises_append y.first (next_number y) ms m c.rising (omega arith) e);
}
