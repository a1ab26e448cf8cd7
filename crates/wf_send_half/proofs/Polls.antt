-- Proves that a poll and a trigger are for the most urgent class, of those that they may be for, in which the
-- station can send.
use Rattle.std.proofs.Common.{◌≡◌, refl, ap, ap₂, sym, ◌∙◌, subst, ℕ, Bool, true, false, ◌&&◌, ◌||◌, List, [], ◌∷◌, Option, Some, None, if◌then◌else◌, inl, inr, arith}
use Rattle.std.specs.Prelude.{find, unwrap_or}
use Rattle.std.specs.List.{list_any}
use Rattle.std.proofs.lemmas.Bool.{cases_Bool, or_parts}
use Rattle.std.proofs.lemmas.List.Folds.{list_any_at}
use Rattle.wf_frame.specs.declared.classes.Class.{Class}
use Rattle.wf_frame.specs.declared.classes.Class.TheVariants.{Bk, Be, Vi, Vo}
use Rattle.wf_frame.specs.Classes.{lower_tid, upper_tid, class_of, has_class}
use Rattle.wf_frame.specs.Frames.{FrameValue}
use Rattle.wf_def_lists.specs.Table.{upto}
use Rattle.wf_def_world.specs.World.{World, is_live}
use Rattle.wf_def_world.specs.CanSend.{can_send}
use Rattle.wf_def_world.specs.Refusals.{can_send_any}
use Rattle.wf_def_world.specs.Step.{first_to_send}
use Rattle.wf_send_half_model.specs.Half.{TransmitValue}
use Rattle.wf_send_half_model.specs.Standing.{StandsFor}
use Rattle.wf_send_half_model.proofs.Readers.{can_send_in_same}
use Rattle.wf_send_half.specs.Half.{can_send_in_of}

-- ---- the eight TIDs by the four classes

either : {X : Type 0} (a b : Bool) → (a ≡ true → X) → (b ≡ true → X) → (a || b) ≡ true → X
either true b f g is = f refl
either false b f g is = g is

-- of the TIDs for which `can` holds, those of the classes that are allowed
module _ (allowed : Class → Bool) (can : ℕ → Bool) where
  abbrev pub of_tid : ℕ → Bool
  of_tid t = allowed (class_of t) && can t

  abbrev pub of_class : Class → Bool
  of_class c = allowed c && (can (lower_tid c) || can (upper_tid c))

  neither : (a b x : Bool) → (x && (a || b)) ≡ false → ((x && a) ≡ false) × ((x && b) ≡ false)
  neither a b true off = or_parts a b off
  neither a b false off = (refl, refl)

  pub none_of_eight : of_class Vo ≡ false → of_class Vi ≡ false → of_class Be ≡ false → of_class Bk ≡ false →
      list_any of_tid (upto 8) ≡ false
  none_of_eight vo vi be bk =
      let a = neither (can 6) (can 7) (allowed Vo) vo in
      let b = neither (can 4) (can 5) (allowed Vi) vi in
      let d = neither (can 0) (can 3) (allowed Be) be in
      let e = neither (can 1) (can 2) (allowed Bk) bk in
      rw (d.0, e.0, e.1, d.1, b.0, b.1, a.0, a.1)

  -- one of two TIDs of a class can, and the class is allowed
  one_of_two : (a b x : Bool) → (x && (a || b)) ≡ true → ((x && a) || (x && b)) ≡ true
  one_of_two true b true is = refl
  one_of_two false b true is = is
  one_of_two a b false is = is

  pub some_of_eight : (c : Class) → of_class c ≡ true → list_any of_tid (upto 8) ≡ true
  some_of_eight Vo is = either (of_tid 6) (of_tid 7) (list_any_at of_tid (upto 8) 6 0 (omega arith))
      (list_any_at of_tid (upto 8) 7 0 (omega arith)) (one_of_two (can 6) (can 7) (allowed Vo) is)
  some_of_eight Vi is = either (of_tid 4) (of_tid 5) (list_any_at of_tid (upto 8) 4 0 (omega arith))
      (list_any_at of_tid (upto 8) 5 0 (omega arith)) (one_of_two (can 4) (can 5) (allowed Vi) is)
  some_of_eight Be is = either (of_tid 0) (of_tid 3) (list_any_at of_tid (upto 8) 0 0 (omega arith))
      (list_any_at of_tid (upto 8) 3 0 (omega arith)) (one_of_two (can 0) (can 3) (allowed Be) is)
  some_of_eight Bk is = either (of_tid 1) (of_tid 2) (list_any_at of_tid (upto 8) 1 0 (omega arith))
      (list_any_at of_tid (upto 8) 2 0 (omega arith)) (one_of_two (can 1) (can 2) (allowed Bk) is)

-- ---- the first class that passes the test

urgent : (a b d e : Bool) (c : Class) → (if a then Some Vo
    else (if b then Some Vi else (if d then Some Be else (if e then Some Bk else None)))) ≡ Some c →
    c ≡ unwrap_or (if a then Some Vo else (if b then Some Vi else (if d then Some Be else None))) Bk
urgent true b d e c is = cc is
urgent false true d e c is = cc is
urgent false false true e c is = cc is
urgent false false false true c is = cc is
urgent false false false false c is = absurd (cc is)

module _ (q : Class → Bool) where
  pub urgent_is : (c : Class) → find q (Vo ∷ Vi ∷ Be ∷ Bk ∷ []) ≡ Some c →
      c ≡ unwrap_or (find q (Vo ∷ Vi ∷ Be ∷ [])) Bk
  urgent_is c is = urgent (q Vo) (q Vi) (q Be) (q Bk) c is

  passes : (x : Class) (o : Option Class) (c : Class) → (o ≡ Some c → q c ≡ true) →
      (if q x then Some x else o) ≡ Some c → q c ≡ true
  passes x o c later is = elim (cases_Bool (q x)) [
    | inl on ↦
        let here : Some x ≡ Some c = ap (λ (b : Bool). if b then Some x else o) (sym on) ∙ is in
        let same : x ≡ c = cc here in
        subst (λ (y : Class). q y ≡ true) same on
    | inr off ↦ later (ap (λ (b : Bool). if b then Some x else o) (sym off) ∙ is)
  ]

  pub found_passes : (xs : List Class) (c : Class) → find q xs ≡ Some c → q c ≡ true
  found_passes [] c is = absurd (cc is)
  found_passes (x ∷ xs) c is = passes x (find q xs) c (found_passes xs c) is

  fails : (x : Class) (o : Option Class) → (if q x then Some x else o) ≡ None → (q x ≡ false) × (o ≡ None)
  fails x o is = elim (cases_Bool (q x)) [
    | inl on ↦ absurd (let here : Some x ≡ None = ap (λ (b : Bool). if b then Some x else o) (sym on) ∙ is in
        cc here)
    | inr off ↦ (off, ap (λ (b : Bool). if b then Some x else o) (sym off) ∙ is)
  ]

  pub none_passes : find q (Vo ∷ Vi ∷ Be ∷ Bk ∷ []) ≡ None → (q Vo ≡ false) ×
      ((q Vi ≡ false) × ((q Be ≡ false) × (q Bk ≡ false)))
  none_passes is =
      let a = fails Vo (find q (Vi ∷ Be ∷ Bk ∷ [])) is in
      let b = fails Vi (find q (Be ∷ Bk ∷ [])) a.1 in
      let d = fails Be (find q (Bk ∷ [])) b.1 in
      let e = fails Bk None d.1 in
      (a.0, (b.0, (d.0, e.0)))

-- ---- both together

-- the half's result in each class equals the result for the world's TIDs
module _ (allowed : Class → Bool) (can : ℕ → Bool) (q : Class → Bool)
    (same : (c : Class) → q c ≡ of_class allowed can c) where
  pub some_sends : (c : Class) → find q (Vo ∷ Vi ∷ Be ∷ Bk ∷ []) ≡ Some c →
      list_any (of_tid allowed can) (upto 8) ≡ true
  some_sends c is = some_of_eight allowed can c
      (sym (same c) ∙ found_passes q (Vo ∷ Vi ∷ Be ∷ Bk ∷ []) c is)

  pub none_sends : find q (Vo ∷ Vi ∷ Be ∷ Bk ∷ []) ≡ None → list_any (of_tid allowed can) (upto 8) ≡ false
  none_sends is =
      let n = none_passes q is in
      none_of_eight allowed can (sym (same Vo) ∙ n.0) (sym (same Vi) ∙ n.1.0) (sym (same Be) ∙ n.1.1.0)
      (sym (same Bk) ∙ n.1.1.1)

  same_find : (xs : List Class) → find q xs ≡ find (of_class allowed can) xs
  same_find [] = refl
  same_find (x ∷ xs) = ap₂ (λ (b : Bool) (o : Option Class). if b then Some x else o) (same x) (same_find xs)

  pub urgent_class : (c : Class) → find q (Vo ∷ Vi ∷ Be ∷ Bk ∷ []) ≡ Some c →
      c ≡ unwrap_or (find (of_class allowed can) (Vo ∷ Vi ∷ Be ∷ [])) Bk
  urgent_class c is =
      urgent_is (of_class allowed can) c (sym (same_find (Vo ∷ Vi ∷ Be ∷ Bk ∷ [])) ∙ is)

-- ---- in a half

-- the classes in a set of the half are those that pass a test of the world
module _ (v : TransmitValue) (w : World) (bodies : ℕ → FrameValue) (h : StandsFor v w bodies) (s : ℕ)
    (live : is_live w s ≡ true) (classes : ℕ) (allowed : Class → Bool)
    (set : (c : Class) → has_class classes c ≡ allowed c) where
  sends_same : (c : Class) → (has_class classes c && can_send_in_of v s c) ≡ of_class allowed (can_send w s) c
  sends_same c = ap₂ (λ (a b : Bool). a && b) (set c) (can_send_in_same v w bodies s c h.parts live)

  abbrev first_of : Option Class
  first_of = find (λ c. has_class classes c && can_send_in_of v s c) (Vo ∷ Vi ∷ Be ∷ Bk ∷ [])

  pub class_sends : (c : Class) → first_of ≡ Some c → can_send_any w s allowed ≡ true
  class_sends =
      some_sends allowed (can_send w s) (λ c. has_class classes c && can_send_in_of v s c) sends_same

  pub no_class_sends : first_of ≡ None → can_send_any w s allowed ≡ false
  no_class_sends =
      none_sends allowed (can_send w s) (λ c. has_class classes c && can_send_in_of v s c) sends_same

  pub first_class : (c : Class) → first_of ≡ Some c → c ≡ first_to_send w s allowed
  first_class = urgent_class allowed (can_send w s) (λ c. has_class classes c && can_send_in_of v s c)
      sends_same
