-- Proves that each worker does its work at its seat, and that the seats of all workers are returned in their
-- order with their work done.
use Rattle.std.proofs.Common.{◌≡◌, ℕ, zero, suc, ◌+◌, ◌-◌, ◌<◌, ◌≤◌, List, [], ◌∷◌, ◌++◌, length, get_or, map, replicate, refl, sym, ◌∙◌, ap, subst, arith, inl, inr, Some}
use Rattle.std.specs.Prelude.{◌⊎◌, All, EachIndex, Result, Ok, Err, IfOk, OnOk, slice_get}
use Rattle.std.proofs.lemmas.Option.{get_or_from_slice_get}
use Rattle.wf_frame.specs.declared.classes.Class.{Class}
use Rattle.wf_frame.specs.declared.notes.Note.{Note}
use Rattle.wf_def_world.specs.Run.{Entry}
use Rattle.wf_gate.specs.Seats.{IsOf, AreAll, StandsWithCalls, new_seat}
use Rattle.wf_gate.proofs.Clients.{new_all, all_again}
use Rattle.wf_run_histories.specs.Workloads.{Made, Driver, IsWalk, walked, driver_of, sender_calls}
use Rattle.wf_run_histories.specs.Workloads.Phase.{Ends}
use Rattle.wf_run_histories.specs.Desks.{Makes, Walks}
use Rattle.wf_run_histories.specs.Crew.{CellGate, CellSeat, StandAt, HasDriven, IsWorked, class_of_driver, driver_count, quotas_of}
use Rattle.wf_run_histories.specs.Sitting.{HasMade, HasMadeAndLooked, left_of, IsReady, HasWorked, AreDone}

-- ---- one worker

-- A ready seat has made no call.
pub unused : (g : CellGate) (senders frames : ℕ) (s : CellSeat) → IsReady g senders frames s → s.used ≡ 0
unused g senders frames s ready = ap (λ (x : CellSeat). x.used) ready.is_new

begun : (g : CellGate) (senders frames : ℕ) (s : CellSeat) → IsReady g senders frames s →
    HasMade s (g, s.number) []
begun g senders frames s ready =
    let none = unused g senders frames s ready in record {
      is_of = (ap (λ (x : CellSeat). x.table) ready.is_new, ap (λ (x : CellSeat). x.opening) ready.is_new);
      number = refl;
      within = omega arith;
      counted = none;
      allotted = ap (λ (x : CellSeat). x.quota) ready.is_new;
      stand = subst (λ (l : List ℕ). StandAt g s.number s.seen l [])
          (sym (ap (λ (x : CellSeat). x.own) ready.is_new)) tt;
    }

-- A ready seat has no look.
begun_and_looked : (g : CellGate) (senders frames : ℕ) (s : CellSeat) → IsReady g senders frames s →
    HasMadeAndLooked s (g, s.number) []
begun_and_looked g senders frames s ready = let none = ap (λ (x : CellSeat). length x.looks) ready.is_new in
    (begun g senders frames s ready, omega arith)

-- A sender has one call left for each frame, and one more.
pub room_to_send : (g : CellGate) (senders frames : ℕ) (s : CellSeat) → IsReady g senders frames s →
    s.number < senders → frames < left_of s
room_to_send g senders frames s ready below = let none = unused g senders frames s ready in
    let some = ready.quota below in omega arith

calls_of : (g : CellGate) (caller : ℕ) (entries : List Entry) (places : List ℕ) (made : List Made) →
    StandAt g caller entries places made → StandsWithCalls caller entries places
    (map (λ (m : Made). m.0) made)
calls_of g caller entries [] [] r = r
calls_of g caller entries (p ∷ ps) (m ∷ ms) r = (r.0, calls_of g caller entries ps ms r.2)
calls_of g caller entries [] (m ∷ ms) r = r
calls_of g caller entries (p ∷ ps) [] r = r

ended_of : (from to : Driver) (made : List Made) (s : CellSeat) → walked from made ≡ to → s.used ≤ s.quota →
    s.used ≡ length made → (to.phase ≡ Ends) ⊎ (left_of s ≡ 0) → ((walked from made).phase ≡ Ends) ⊎
    (length made ≡ s.quota)
ended_of from to made s leads within count (inl over) = inl (ap (λ (d : Driver). d.phase) leads ∙ over)
ended_of from to made s leads within count (inr none) = inr (omega arith)

-- A consequence of a fact that holds after success.
pub on_ok : {T E P Q : Type 0} (r : Result T E) → OnOk r P → (P → Q) → OnOk r Q
on_ok (Ok x) p f = f p
on_ok (Err e) p f = tt

module _ {D : Type 0} (seat_of : D → CellSeat) (g : CellGate) (seed senders frames : ℕ) (a b : D)
    (ready : IsReady g senders frames (seat_of a)) where
  pub sent : (n : ℕ) → n ≡ (seat_of a).number → (seat_of a).number < senders →
      Makes (λ d place made. HasMadeAndLooked (seat_of d) place made) (λ d. left_of (seat_of d)) a b
      (sender_calls seed n frames) →
      HasWorked g seed senders frames (seat_of a) (seat_of b)
  sent n is below makes =
      let old : CellSeat = seat_of a in
      let new : CellSeat = seat_of b in
      let had : HasMade new (g, old.number) makes.made =
      (makes.has_them (g, old.number) [] (begun_and_looked g senders frames old ready)).0 in
      let calls : StandsWithCalls new.number new.seen new.own (sender_calls seed n frames) =
      subst (λ (l : List Note). StandsWithCalls new.number new.seen new.own l) makes.notes_are
      (calls_of g new.number new.seen new.own makes.made had.stand) in
      record {
        is_of = had.is_of;
        same = had.number;
        worked = record {
          sender = λ _. subst (λ (k : ℕ). StandsWithCalls new.number new.seen new.own
              (sender_calls seed k frames)) (is ∙ sym had.number) calls;
          driver = λ above. absurd (let same : new.number ≡ old.number = had.number in omega arith);
        };
      }

  pub driven : (n : ℕ) (class : Class) → n ≡ (seat_of a).number - senders → class ≡ class_of_driver n →
      senders ≤ (seat_of a).number →
      ((to : Driver) × Walks (λ d place made. HasMadeAndLooked (seat_of d) place made)
      (λ d. left_of (seat_of d)) a b (driver_of seed n class senders) to ×
      ((to.phase ≡ Ends) ⊎ (left_of (seat_of b) ≡ 0))) →
      HasWorked g seed senders frames (seat_of a) (seat_of b)
  driven n class is its above walk =
      let old : CellSeat = seat_of a in
      let new : CellSeat = seat_of b in
      let walks = walk.1 in
      let both : HasMadeAndLooked new (g, old.number) walks.made =
      walks.has_them (g, old.number) [] (begun_and_looked g senders frames old ready) in
      let had : HasMade new (g, old.number) walks.made = both.0 in
      let from : Driver = driver_of seed n class senders in
      let same : from ≡ driver_of seed n (class_of_driver n) senders =
      ap (λ (c : Class). driver_of seed n c senders) its in
      let drives : HasDriven g seed senders n new = record {
        made = walks.made;
        stand = had.stand;
        walk = subst (λ (d : Driver). IsWalk d walks.made) same walks.walk;
        ended = ended_of (driver_of seed n (class_of_driver n) senders) walk.0 walks.made new
            (ap (λ (d : Driver). walked d walks.made) (sym same) ∙ walks.leads) had.within had.counted walk.2;
        allotted = had.allotted;
        looked = both.1;
      } in
      record {
        is_of = had.is_of;
        same = had.number;
        worked = record {
          sender = λ below. absurd (let as_before : new.number ≡ old.number = had.number in omega arith);
          driver = λ _. subst (λ (k : ℕ). HasDriven g seed senders k new)
              (is ∙ ap (λ (k : ℕ). k - senders) (sym had.number)) drives;
        };
      }

-- ---- all workers

quota_at : (n i a d : ℕ) (rest : List ℕ) → i < n → get_or (replicate n a ++ rest) i d ≡ a
quota_at zero i a d rest below = absurd (omega arith)
quota_at (suc n) zero a d rest below = refl
quota_at (suc n) (suc i) a d rest below = quota_at n i a d rest (omega arith)

-- The seats of a new gate are ready.
module _ (g : CellGate) (frames : ℕ) (seats : List CellSeat)
    (new : EachIndex g.opening.quotas (λ k. slice_get seats k ≡ Some (new_seat g k)))
    (count : length seats ≡ length g.opening.quotas) where
  pub all_ready : (senders : ℕ) → senders ≡ length seats - driver_count → 5 ≤ length seats →
      length seats ≤ 12 → g.opening.quotas ≡ quotas_of (length seats - driver_count) frames →
      All (IsReady g senders frames) seats
  all_ready senders those least most quotas i d below =
      let s : CellSeat = get_or seats i d in
      let here : s ≡ new_seat g i = get_or_from_slice_get seats i (new_seat g i) d (new i (omega arith)) in
      let number : s.number ≡ i = ap (λ (x : CellSeat). x.number) here in
      record {
        is_new = here ∙ ap (new_seat g) (sym number);
        inside = omega arith;
        few = omega arith;
        quota = λ sends.
            let mine : i < length seats - driver_count = omega arith in
            let quota : s.quota ≡ frames + 1 =
            ap (λ (x : CellSeat). x.quota) here ∙ ap (λ (l : List ℕ). get_or l i 0) quotas
            ∙ quota_at (length seats - driver_count) i (frames + 1) 0
            (replicate driver_count 150000) mine in
            omega arith;
      }

  pub all_new : AreAll g seats
  all_new = new_all g seats g.opening.quotas count new refl

module _ {S E : Type 0} where
  ok-length : (values : List S) (results : List (Result S E)) → results ≡ map (λ v. Ok v) values →
      length values ≡ length results
  ok-length values results is = same (λ v. Ok v) values ∙ sym (ap length is)
    where
      same : (f : S → Result S E) (xs : List S) → length xs ≡ length (map f xs)
      same f [] = refl
      same f (x ∷ xs) = ap suc (same f xs)

  ok_at : (values : List S) (k : ℕ) (d : S) (r : Result S E) → k < length values →
      get_or (map (λ v. Ok v) values) k r ≡ Ok (get_or values k d)
  ok_at [] k d r below = absurd (omega arith)
  ok_at (x ∷ xs) zero d r below = refl
  ok_at (x ∷ xs) (suc k) d r below = ok_at xs k d r (omega arith)

  -- A fact that holds for each result holds for each value, if there is no error.
  pub each_value : (R : ℕ → S → Type 0) (values : List S) (results : List (Result S E)) →
      results ≡ map (λ v. Ok v) values → ((k : ℕ) (r : Result S E) → k < length results →
      IfOk (get_or results k r) (R k)) →
      (k : ℕ) (d : S) → k < length values → R k (get_or values k d)
  each_value R values results is each k d below =
      let count = ok-length values results is in
      let r : Result S E = Ok d in
      let at : get_or results k r ≡ Ok (get_or values k d) =
      ap (λ (l : List (Result S E)). get_or l k r) is ∙ ok_at values k d r below in
      subst (λ (x : Result S E). IfOk x (R k)) at (each k r (omega arith))

numbers_same : (xs ys : List CellSeat) → length ys ≡ length xs →
    ((k : ℕ) (d e : CellSeat) → k < length xs → (get_or ys k e).number ≡ (get_or xs k d).number) →
    map (λ (s : CellSeat). s.number) ys ≡ map (λ (s : CellSeat). s.number) xs
numbers_same [] [] count same = refl
numbers_same (x ∷ xs) (y ∷ ys) count same =
    let first : y.number ≡ x.number = same 0 x y (omega arith) in
    let rest = numbers_same xs ys (omega arith) (λ k d e below. same (suc k) d e (omega arith)) in
    ap (λ (n : ℕ). n ∷ map (λ (s : CellSeat). s.number) ys) first ∙ ap (λ (l : List ℕ). x.number ∷ l) rest
numbers_same [] (y ∷ ys) count same = absurd (omega arith)
numbers_same (x ∷ xs) [] count same = absurd (omega arith)

pub if_ok : {T E : Type 0} {P Q : T → Type 0} (r : Result T E) → IfOk r P → ((x : T) → P x → Q x) → IfOk r Q
if_ok (Ok x) p f = f x p
if_ok (Err e) p f = tt

-- The returned seats, from the result of each worker.
module _ (g : CellGate) (seed senders frames : ℕ) (seats back : List CellSeat) {E : Type 0}
    (results : List (Result CellSeat E)) (whole : results ≡ map (λ v. Ok v) back)
    (count : length results ≡ length seats)
    (each : AreDone g seed senders frames seats results) where
  done_at : (k : ℕ) (d e : CellSeat) → k < length back →
      HasWorked g seed senders frames (get_or seats k d) (get_or back k e)
  done_at k d e below = each_value (λ n s. HasWorked g seed senders frames (get_or seats n d) s) back results
      whole (λ n r l. each n d r (omega arith)) k e below

  same_count : length back ≡ length seats
  same_count = ok-length back results whole ∙ count

  same_at : (k : ℕ) (d e : CellSeat) → k < length seats → (get_or back k e).number ≡ (get_or seats k d).number
  same_at k d e below = let all = same_count in (done_at k d e (omega arith)).same

  pub back_places : map (λ (s : CellSeat). s.number) back ≡ map (λ (s : CellSeat). s.number) seats
  back_places = numbers_same seats back same_count same_at

  pub back_own : All (IsOf g) back
  back_own k d below = (done_at k d d below).is_of

  pub back_all : AreAll g seats → AreAll g back
  back_all all = all_again g seats back same_count same_at all

  pub back_worked : (n : ℕ) → senders ≡ n → All (IsWorked g seed n frames) back
  back_worked n those k d below = subst (λ (m : ℕ). IsWorked g seed m frames (get_or back k d)) those
      (done_at k d d below).worked
