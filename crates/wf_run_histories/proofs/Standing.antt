-- Proves that a call at the gate adds one call with the right reply to its seat, and bounds the looks of the
-- seat.
use Rattle.std.proofs.Common.{◌≡◌, ℕ, zero, suc, ◌+◌, ◌<◌, ◌≤◌, true, cond, List, [], ◌∷◌, ◌++◌, length, length-append, take, refl, sym, ◌∙◌, ap, subst, arith, Some}
use Rattle.std.specs.Prelude.{Result, Ok, Err, OnOk, OnErr, slice_get, slice_index_or}
use Rattle.std.proofs.lemmas.List.Sums.{sum_by_push}
use mathlib.Core.List.{IsPrefix}
use Rattle.wf_frame.specs.declared.notes.Note.{Note}
use Rattle.wf_frame.specs.declared.notes.ReplyNote.{ReplyNote}
use Rattle.wf_def_world.specs.World.{opening}
use Rattle.wf_def_world.specs.Step.{step}
use Rattle.wf_def_world.specs.Run.{Entry, world_after}
use Rattle.wf_gate.specs.Seats.{IsOf, IsSameSeat, EndsWith, last_place}
use Rattle.wf_gate.specs.declared.view.Opening.{Opening}
use Rattle.wf_cell.specs.Cells.{CellValue}
use Rattle.wf_run_histories.specs.Workloads.{Made}
use Rattle.wf_run_histories.specs.Desks.{Adds, Refuses}
use Rattle.wf_run_histories.specs.Crew.{CellGate, CellSeat, StandAt, reply_at, ends_exchange, done_count}
use Rattle.wf_run_histories.specs.Sitting.{HasMade, HasMadeAndLooked, left_of}

module _ {A : Type 0} where
  get_longer : (xs zs : List A) (k : ℕ) (x : A) → slice_get xs k ≡ Some x → slice_get (xs ++ zs) k ≡ Some x
  get_longer [] zs k x at = absurd (cc)
  get_longer (y ∷ xs) zs zero x at = at
  get_longer (y ∷ xs) zs (suc k) x at = get_longer xs zs k x at

  take_longer : (xs zs : List A) (k : ℕ) (x : A) → slice_get xs k ≡ Some x → take k (xs ++ zs) ≡ take k xs
  take_longer [] zs k x at = absurd (cc)
  take_longer (y ∷ xs) zs zero x at = refl
  take_longer (y ∷ xs) zs (suc k) x at = ap (λ l. y ∷ l) (take_longer xs zs k x at)

  get_last : (xs : List A) (x : A) → slice_get (xs ++ x ∷ []) (length xs) ≡ Some x
  get_last [] x = refl
  get_last (y ∷ xs) x = get_last xs x

  same_some : (x y : A) → Some x ≡ Some y → x ≡ y
  same_some x y e = cc

  get_end : (xs : List A) (x : A) → EndsWith xs x → slice_get xs (last_place xs) ≡ Some x
  get_end xs x ends =
      let last : last_place xs ≡ length ends.0 = omega
      (arith, ap length ends.1, length-append ends.0 (x ∷ [])) in
      ap (slice_get xs) last ∙ ap (λ (l : List A). slice_get l (length ends.0)) ends.1 ∙ get_last ends.0 x

-- The right reply, from the entries before it and the opening of the gate.
reply_by : Opening CellValue → List Entry → Note → ReplyNote
reply_by o before note = (step (world_after (opening o.machine.past.config)
    (o.machine.past.history ++ before)) note).reply

reply_by-at : (g : CellGate) (entries : List Entry) (place : ℕ) (note : Note) →
    reply_at g entries place note ≡ reply_by g.opening (take place entries) note
unfolding reply_by
reply_by-at g entries place note = refl

module _ (g : CellGate) (caller : ℕ) where
  stand_longer : (xs zs : List Entry) (places : List ℕ) (made : List Made) → StandAt g caller xs places made →
      StandAt g caller (xs ++ zs) places made
  stand_longer xs zs [] [] r = r
  stand_longer xs zs (p ∷ ps) (m ∷ ms) r =
      let later = ap (λ (before : List Entry). reply_by g.opening before m.0)
      (take_longer xs zs p (caller, m.0) r.0) in (
        get_longer xs zs p (caller, m.0) r.0,
        r.1 ∙ reply_by-at g xs p m.0 ∙ sym later
            ∙ sym (reply_by-at g (xs ++ zs) p m.0),
        stand_longer xs zs ps ms r.2,
      )
  stand_longer xs zs [] (m ∷ ms) r = r
  stand_longer xs zs (p ∷ ps) [] r = r

  stand_more : (xs : List Entry) (places : List ℕ) (made : List Made) (place : ℕ) (m : Made) →
      slice_get xs place ≡ Some (caller, m.0) → m.1 ≡ reply_at g xs place m.0 →
      StandAt g caller xs places made → StandAt g caller xs (places ++ place ∷ []) (made ++ m ∷ [])
  stand_more xs [] [] place m at right r = (at, right, tt)
  stand_more xs (p ∷ ps) (n ∷ ns) place m at right r = (r.0, r.1, stand_more xs ps ns place m at right r.2)
  stand_more xs [] (n ∷ ns) place m at right r = absurd r
  stand_more xs (p ∷ ps) [] place m at right r = absurd r

  stand_next : (xs ys : List Entry) (places places' : List ℕ) (made : List Made) (m : Made) → IsPrefix xs ys →
      EndsWith ys (caller, m.0) → m.1 ≡ reply_at g ys (last_place ys) m.0 →
      places' ≡ places ++ last_place ys ∷ [] →
      StandAt g caller xs places made → StandAt g caller ys places' (made ++ m ∷ [])
  stand_next xs ys places places' made m pre ends right grown r =
      let longer : StandAt g caller ys places made =
      subst (λ (l : List Entry). StandAt g caller l places made) pre.1
      (stand_longer xs pre.0 places made r) in
      subst (λ (l : List ℕ). StandAt g caller ys l (made ++ m ∷ [])) (sym grown)
      (stand_more ys places made (last_place ys) m (get_end ys (caller, m.0) ends) right longer)

-- Gates to which the same seat belongs have the same opening.
one_opening : (g h : CellGate) (s : CellSeat) → IsOf g s → IsOf h s → g.opening ≡ h.opening
one_opening g h s one two = same_some g.opening h.opening (sym one.1 ∙ two.1)

-- From the contracts of `call` and `try_call`.
pub one_more : (gate : CellGate) (old new : CellSeat) (note : Note) (reply : ReplyNote) → IsOf gate old →
    IsSameSeat old new → old.used < old.quota → new.used ≡ old.used + 1 → IsPrefix old.seen new.seen →
    EndsWith new.seen (old.number, note) → new.own ≡ old.own ++ last_place new.seen ∷ [] →
    reply ≡ reply_at gate new.seen (last_place new.seen) note → Adds HasMade left_of old new note reply
one_more gate old new note reply own same below more pre ends grown right = record {
  fewer = omega (arith, same.quota, more, below);
  added = λ place made had.
      let opened = ap (λ (o : Opening CellValue). reply_by o (take (last_place new.seen) new.seen) note)
      (one_opening gate place.0 old own had.is_of) in
      let right' : reply ≡ reply_at place.0 new.seen (last_place new.seen) note =
      right ∙ reply_by-at gate new.seen (last_place new.seen) note ∙ opened
      ∙ sym (reply_by-at place.0 new.seen (last_place new.seen) note) in
      let stands = stand_next place.0 old.number old.seen new.seen old.own new.own made
      (note, reply) pre ends right' grown had.stand in
      record {
        is_of = (same.table ∙ had.is_of.0, same.opening ∙ had.is_of.1);
        number = same.number ∙ had.number;
        within = omega (arith, same.quota, more, below);
        counted = omega (arith, more, had.counted, length-append made ((note, reply) ∷ []));
        allotted = same.quota ∙ had.allotted ∙ ap (λ n. slice_index_or place.0.opening.quotas n 0)
            (sym same.number);
        stand = subst (λ (n : ℕ). StandAt place.0 n new.seen new.own (made ++ (note, reply) ∷ []))
            (sym same.number) stands;
      };
}

-- ---- looks

dones_more : (made : List Made) (note : Note) (reply : ReplyNote) →
    done_count (made ++ (note, reply) ∷ []) ≡ done_count made + cond (ends_exchange note) 1 0
dones_more made note reply = sum_by_push (λ (m : Made). cond (ends_exchange m.0) 1 0) made (note, reply)

-- For desks with a seat.
module _ {D : Type 0} (seat_of : D → CellSeat) (old new : D) where
  -- A call that adds at most as many looks as it may.
  adds_and_looks : (note : Note) (reply : ReplyNote) →
      Adds HasMade left_of (seat_of old) (seat_of new) note reply →
      length (seat_of new).looks ≤ length (seat_of old).looks + cond (ends_exchange note) 1 0 →
      Adds (λ d place made. HasMadeAndLooked (seat_of d) place made) (λ d. left_of (seat_of d)) old new
      note reply
  adds_and_looks note reply adds looks = record {
    fewer = adds.fewer;
    added = λ place before had. (
      adds.added place before had.0,
      (let fit = had.1 in omega (arith, looks, fit, dones_more before note reply)),
    );
  }

  -- A call that waits for its turn adds no look.
  pub adds_in_turn : (note : Note) (reply : ReplyNote) →
      Adds HasMade left_of (seat_of old) (seat_of new) note reply →
      (seat_of new).looks ≡ (seat_of old).looks →
      Adds (λ d place made. HasMadeAndLooked (seat_of d) place made) (λ d. left_of (seat_of d)) old new
      note reply
  adds_in_turn note reply adds same = adds_and_looks note reply adds (omega (arith, ap length same))

  -- A call that ends an exchange adds at most one look.
  pub adds_at_once : (note : Note) (reply : ReplyNote) →
      Adds HasMade left_of (seat_of old) (seat_of new) note reply →
      length (seat_of new).looks ≤ length (seat_of old).looks + 1 → ends_exchange note ≡ true →
      Adds (λ d place made. HasMadeAndLooked (seat_of d) place made) (λ d. left_of (seat_of d)) old new
      note reply
  adds_at_once note reply adds looks ends = adds_and_looks note reply adds (rw ends looks)

  -- A call that was not made leaves the seat unchanged.
  pub refuses_and_looks : Refuses HasMade left_of (seat_of old) (seat_of new) → seat_of new ≡ seat_of old →
      Refuses (λ d place made. HasMadeAndLooked (seat_of d) place made) (λ d. left_of (seat_of d)) old new
  refuses_and_looks refuses same = record {
    none = refuses.none;
    still = refuses.still;
    kept = λ place before had.
        subst (λ (s : CellSeat). HasMadeAndLooked s place before) (sym same) had;
  }

-- Combines two facts of a call that was made, or of one that was not.
pub on_both : {T E P Q S : Type 0} (r : Result T E) → OnOk r P → OnOk r Q → (P → Q → S) → OnOk r S
on_both (Ok x) p q f = f p q
on_both (Err e) p q f = tt

pub on_both_err : {T E P Q S : Type 0} (r : Result T E) → OnErr r P → OnErr r Q → (P → Q → S) → OnErr r S
on_both_err (Ok x) p q f = tt
on_both_err (Err e) p q f = f p q
