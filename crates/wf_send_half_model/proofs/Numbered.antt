-- Proves that each frame that the numbers of a station's TIDs hold is held by one number only, and is neither
-- queued nor finished.
use Rattle.std.proofs.Common.{◌≡◌, refl, ap, sym, ◌∙◌, subst, arith, ℕ, zero, suc, ◌+◌, ◌-◌, ◌<◌, ◌≤◌, Bool, true, false, if◌then◌else◌, List, [], ◌∷◌, ◌++◌, length, append_assoc, inl, inr}
use Rattle.std.proofs.lemmas.Bool.{cases_eq, cases_lt}
use Rattle.std.proofs.lemmas.List.{append-nil}
use Rattle.wf_frame.specs.declared.classes.Fate.TheVariants.{Held}
use Rattle.wf_def_lists.specs.Lists.{on}
use Rattle.wf_def_agreement.specs.Session.{Session, Slot, State, no_slot, slot, is_settled, is_waiting}
use Rattle.wf_def_lists.specs.Table.{at, upto, count_from}
use Rattle.wf_law_rules.proofs.Lemmas.Counts.{on-nil, on-append, on-cons_same, on-cons_other}
use Rattle.wf_def_world.specs.World.{World, session, frame, accepted_count}
use Rattle.wf_def_world.specs.Step.{waiting_ids}
use Rattle.wf_law_runs.specs.Places.{Numbered, IsNumbered, StandsOnce, KeepsPlaces}
use Rattle.wf_send_half_model.specs.Leaving.{numbered_ids}

-- ---- one window

-- the place of a waiting slot with this id
pub record IsWaitingAt (xs : List Slot) (id : ℕ) : Type 0 where
  pub place : ℕ
  pub low : place < length xs
  pub waits : is_waiting (at no_slot xs place).state ≡ true
  pub carries : (at no_slot xs place).id ≡ id

abbrev waits_later : (x : Slot) (xs : List Slot) (id : ℕ) → IsWaitingAt xs id → IsWaitingAt (x ∷ xs) id
waits_later x xs id k = record {
  place = suc k.place;
  low = omega (arith, k.low);
  waits = k.waits;
  carries =
      k.carries;
}

pub waiting_place : (xs : List Slot) (id : ℕ) → 0 < on (waiting_ids xs) id → IsWaitingAt xs id
waiting_place [] id some = absurd (omega (arith, some, on-nil id))
waiting_place (x ∷ xs) id some = go (is_waiting x.state) refl some
    (λ behind. waits_later x xs id (waiting_place xs id behind))
  where
    go : (b : Bool) → is_waiting x.state ≡ b → 0 < on
        (if b then x.id ∷ waiting_ids xs else waiting_ids xs) id →
        (0 < on (waiting_ids xs) id → IsWaitingAt (x ∷ xs) id) → IsWaitingAt (x ∷ xs) id
    go false e some later = later some
    go true e some later = elim (cases_eq x.id id) [
      | inl same ↦ record { place = 0; low = omega arith; waits = e; carries = same }
      | inr other ↦ later (omega (arith, some, on-cons_other x.id id (waiting_ids xs) other))
    ]

-- at most one waiting slot has this id
pub record IsSole (xs : List Slot) (id : ℕ) : Type 0 where
  pub sole : (a b : IsWaitingAt xs id) → a.place ≡ b.place

sole_later : (x : Slot) (xs : List Slot) (id : ℕ) → IsSole (x ∷ xs) id → IsSole xs id
sole_later x xs id h = record {
  sole = λ a b.
      (let e : suc a.place ≡ suc b.place = h.sole (waits_later x xs id a) (waits_later x xs id b) in
      omega (arith, e));
}

pub waiting_once : (xs : List Slot) (id : ℕ) → IsSole xs id → on (waiting_ids xs) id ≤ 1
waiting_once [] id h = omega (arith, on-nil id)
waiting_once (x ∷ xs) id h = go (is_waiting x.state) refl (waiting_once xs id (sole_later x xs id h))
  where
    go : (b : Bool) → is_waiting x.state ≡ b → on (waiting_ids xs) id ≤ 1 →
        on (if b then x.id ∷ waiting_ids xs else waiting_ids xs) id ≤ 1
    go false e rest = rest
    go true e rest = elim (cases_eq x.id id) [
      | inl same ↦ elim (cases_lt 0 (on (waiting_ids xs) id)) [
        | inl some ↦
            let here : IsWaitingAt (x ∷ xs) id = record {
              place = 0;
              low = omega arith;
              waits = e;
              carries =
                  same;
            } in
            let there : IsWaitingAt (x ∷ xs) id = waits_later x xs id (waiting_place xs id some) in
            let e : 0 ≡ suc (waiting_place xs id some).place = h.sole here there in
            absurd (omega (arith, e))
        | inr none ↦ subst (λ (k : ℕ). on (k ∷ waiting_ids xs) id ≤ 1) (sym same)
            (omega (arith, none, on-cons_same id (waiting_ids xs)))
      ]
      | inr other ↦ omega (arith, rest, on-cons_other x.id id (waiting_ids xs) other)
    ]

-- ---- the TIDs below one

count_then : (n from : ℕ) → count_from from (suc n) ≡ count_from from n ++ (from + n) ∷ []
count_then zero from = ap (λ (k : ℕ). k ∷ []) (omega arith)
count_then (suc n) from = ap (λ (l : List ℕ). from ∷ l)
    (count_then n (suc from) ∙ ap (λ (k : ℕ). count_from (suc from) n ++ k ∷ []) (omega arith))

pub upto_then : (n : ℕ) → upto (suc n) ≡ upto n ++ n ∷ []
upto_then n = count_then n 0 ∙ ap (λ (k : ℕ). upto n ++ k ∷ []) (omega arith)

numbered_then : (w : World) (s : ℕ) (ts : List ℕ) (t : ℕ) →
    numbered_ids w s (ts ++ t ∷ []) ≡ numbered_ids w s ts ++ waiting_ids (session w s t).slots
numbered_then w s [] t = append-nil (waiting_ids (session w s t).slots)
numbered_then w s (k ∷ ts) t = ap (λ (l : List ℕ). waiting_ids (session w s k).slots ++ l)
    (numbered_then w s ts t) ∙ sym (append_assoc (waiting_ids (session w s k).slots) (numbered_ids w s ts)
    (waiting_ids (session w s t).slots))

pub numbered_next : (w : World) (s t : ℕ) → numbered_ids w s (upto (suc t)) ≡ numbered_ids w s (upto t)
    ++ waiting_ids (session w s t).slots
numbered_next w s t = ap (numbered_ids w s) (upto_then t) ∙ numbered_then w s (upto t) t

-- a TID below t that has a number which holds the frame
pub record IsBelow (w : World) (s t id : ℕ) : Type 0 where
  pub tid : ℕ
  pub low : tid < t
  pub waits : IsWaitingAt (session w s tid).slots id

pub below_place : (w : World) (s t id : ℕ) → 0 < on (numbered_ids w s (upto t)) id → IsBelow w s t id
below_place w s zero id some = absurd (omega (arith, some, on-nil id))
below_place w s (suc t) id some =
    let mine : List ℕ = waiting_ids (session w s t).slots in
    let both : on (numbered_ids w s (upto (suc t))) id ≡ on (numbered_ids w s (upto t)) id + on mine id =
    ap (λ (l : List ℕ). on l id) (numbered_next w s t) ∙ on-append (numbered_ids w s (upto t)) mine id in
    elim (cases_lt 0 (on mine id)) [
      | inl here ↦ record { tid = t; low = omega arith; waits = waiting_place (session w s t).slots id here }
      | inr none ↦ let k : IsBelow w s t id = below_place w s t id (omega (arith, some, both, none)) in
          record { tid = k.tid; low = omega (arith, k.low); waits = k.waits }
    ]

-- ---- in a world in which each held frame is in one place

open_waiting : (st : State) → is_waiting st ≡ true → is_settled st ≡ false
open_waiting State.Waiting h = refl
open_waiting (State.Flying e) h = absurd (cc h)
open_waiting State.Acked h = absurd (cc h)
open_waiting State.Failed h = absurd (cc h)

module _ (w : World) (places : KeepsPlaces w) (s id : ℕ) where
  pub numbered_at : (t : ℕ) (k : IsWaitingAt (session w s t).slots id) →
      IsNumbered w id s t ((session w s t).first + k.place)
  numbered_at t k =
      let y : Session = session w s t in
      let back : y.first + k.place - y.first ≡ k.place = omega arith in
      record {
        from = omega arith;
        below = omega (arith, k.low);
        carries = ap (λ (n : ℕ). (at no_slot y.slots n).id) back ∙ k.carries;
        unsettled = open_waiting (slot y (y.first + k.place)).state
            (ap (λ (n : ℕ). is_waiting (at no_slot y.slots n).state) back ∙ k.waits);
      }

  pub known_at : (t : ℕ) → IsWaitingAt (session w s t).slots id → (id < accepted_count w) ×
      ((frame w id).fate ≡ Held)
  known_at t k = places.only_held id (Numbered s t ((session w s t).first + k.place)) (numbered_at t k)

  -- two numbers that hold it are the same
  same_place : (t i : ℕ) (a : IsWaitingAt (session w s t).slots id)
      (b : IsWaitingAt (session w s i).slots id) →
      Numbered s t ((session w s t).first + a.place) ≡ Numbered s i ((session w s i).first + b.place)
  same_place t i a b =
      let once : StandsOnce w id = places.held id (known_at t a).0 (known_at t a).1 in
      once.only (Numbered s t ((session w s t).first + a.place)) (numbered_at t a)
      ∙ sym (once.only (Numbered s i ((session w s i).first + b.place)) (numbered_at i b))

  sole_in : (t : ℕ) → IsSole (session w s t).slots id
  sole_in t = record {
    sole = λ a b. (
        let e : Numbered s t ((session w s t).first + a.place)
        ≡ Numbered s t ((session w s t).first + b.place) = same_place t t a b in
        let n : (session w s t).first + a.place ≡ (session w s t).first + b.place = cc e in
        omega (arith, n));
  }

  pub once_below : (t : ℕ) → on (numbered_ids w s (upto t)) id ≤ 1
  once_below zero = omega (arith, on-nil id)
  once_below (suc t) =
      let mine : List ℕ = waiting_ids (session w s t).slots in
      let both : on (numbered_ids w s (upto (suc t))) id ≡ on (numbered_ids w s (upto t)) id + on mine id =
      ap (λ (l : List ℕ). on l id) (numbered_next w s t)
      ∙ on-append (numbered_ids w s (upto t)) mine id in
      elim (cases_lt 0 (on mine id)) [
        | inl here ↦ elim (cases_lt 0 (on (numbered_ids w s (upto t)) id)) [
          | inl before ↦
              let k : IsBelow w s t id = below_place w s t id before in
              let e = same_place k.tid t k.waits (waiting_place (session w s t).slots id here) in
              let same : k.tid ≡ t = cc e in
              absurd (omega (arith, same, k.low))
          | inr none ↦ omega (arith, both, none, waiting_once (session w s t).slots id (sole_in t))
        ]
        | inr none ↦ omega (arith, both, none, once_below t)
      ]
