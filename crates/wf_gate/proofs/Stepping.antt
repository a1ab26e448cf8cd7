-- Proves what the steps of a burst leave of the machine, by induction in the calls.
use Rattle.std.proofs.Common.{◌≡◌, ◌∙◌, refl, sym, ap, subst, ℕ, ◌+◌, ◌<◌, ◌≤◌, List, [], ◌∷◌, ◌++◌, length, map, arith, length-append}
use Rattle.std.proofs.lemmas.List.{append_assoc, append-nil, map-append}
use Rattle.wf_gate.specs.Turns.{entries_by}
use Rattle.wf_gate.specs.Seats.{AreRight}

module _ {N T C A : Type 0} (note : C → N) (right : T → List (ℕ × N) → ℕ → C → A → Type 0) (t : T)
    (n : ℕ) where
  -- one more reply that is right after the others
  pub add_right : (calls : List C) (replies : List A) (h : List (ℕ × N)) (call : C) (reply : A) →
      AreRight note right t h n calls replies → right t (h ++ entries_by n (map note calls)) n call reply
      → AreRight note right t h n (calls ++ call ∷ []) (replies ++ reply ∷ [])
  add_right [] [] h call reply all one = (subst (λ z. right t z n call reply) (append-nil h) one, tt)
  add_right [] (a ∷ replies) h call reply all one = absurd all
  add_right (c ∷ calls) [] h call reply all one = absurd all
  add_right (c ∷ calls) (a ∷ replies) h call reply all one = (
    all.0,
    add_right calls replies (h ++ (n, note c) ∷ []) call reply all.1
        (subst (λ z. right t z n call reply)
        (sym (append_assoc h ((n, note c) ∷ []) (entries_by n (map note calls)))) one),
  )

-- the machine `was` before the first calls, and `now` after them; these are `left`
pub record HasStepped {M N T C A : Type 0} (past : M → List (ℕ × N)) (settings : M → T) (spare : M → ℕ)
    (note : C → N) (right : T → List (ℕ × N) → ℕ → C → A → Type 0) (n : ℕ) (was now : M)
    (calls left : List C) (replies : List A) : Type 0 where
  pub done : List C
  pub whole : calls ≡ done ++ left
  pub grown : past now ≡ past was ++ entries_by n (map note done)
  pub room : spare now + length done ≡ spare was
  pub same : settings now ≡ settings was
  pub rights : AreRight note right (settings was) (past was) n done replies
  pub count : length replies ≡ length done

module _ {M N T C A : Type 0} (past : M → List (ℕ × N)) (settings : M → T) (spare : M → ℕ) (note : C → N)
    (right : T → List (ℕ × N) → ℕ → C → A → Type 0) (n : ℕ) (was : M) (calls : List C) where
  abbrev Stepped : M → List C → List A → Type 0
  Stepped now left replies = HasStepped past settings spare note right n was now calls left replies

  pub begun : Stepped was calls []
  begun = record {
    done = [];
    whole = refl;
    grown = sym (append-nil (past was));
    room = omega arith;
    same = refl;
    rights = tt;
    count = refl;
  }

  pub further : (now next : M) (left rest : List C) (replies : List A) (call : C) (reply : A) →
      Stepped now left replies → left ≡ call ∷ rest → past next ≡ past now ++ (n, note call) ∷ [] →
      spare next + 1 ≡ spare now → settings next ≡ settings now → right (settings now) (past now) n call reply
      → Stepped next rest (replies ++ reply ∷ [])
  further now next left rest replies call reply k is grown room same one = record {
    done = k.done ++ call ∷ [];
    whole = k.whole ∙ (ap (λ l. k.done ++ l) is ∙ sym (append_assoc k.done (call ∷ []) rest));
    grown = grown ∙ (ap (λ l. l ++ (n, note call) ∷ []) k.grown
        ∙ (append_assoc (past was) (entries_by n (map note k.done)) ((n, note call) ∷ [])
        ∙ ap (λ l. past was ++ l) (sym more)));
    room = omega (arith, k.room, room, length-append k.done (call ∷ []));
    same = same ∙ k.same;
    rights = add_right note right (settings was) n k.done replies (past was) call reply k.rights
        (subst (λ z. right z (past was ++ entries_by n (map note k.done)) n call reply) k.same
        (subst (λ z. right (settings now) z n call reply) k.grown one));
    count = omega (
      arith,
      k.count,
      length-append k.done (call ∷ []),
      length-append replies (reply ∷ []),
    );
  }
    where
      more : entries_by n (map note (k.done ++ call ∷ []))
          ≡ entries_by n (map note k.done) ++ (n, note call) ∷ []
      more = ap (entries_by n) (map-append note k.done (call ∷ []))
          ∙ map-append (λ (x : N). (n, x)) (map note k.done) (note call ∷ [])

  pub has_room : (now : M) (left rest : List C) (replies : List A) (call : C) → length calls ≤ spare was →
      Stepped now left replies → left ≡ call ∷ rest → 0 < spare now
  has_room now left rest replies call enough k is = omega (
    arith,
    enough,
    k.room,
    ap length k.whole,
    length-append k.done left,
    ap length is,
  )

  -- if none is left, all were made
  pub ended : (now : M) (left : List C) (replies : List A) → left ≡ [] → Stepped now left replies →
      (past now ≡ past was ++ entries_by n (map note calls)) × (spare now + length calls ≡ spare was)
      × (settings now ≡ settings was) × AreRight note right (settings was) (past was) n calls replies
  ended now left replies none k =
      let all : k.done ≡ calls = sym (k.whole ∙ (ap (λ l. k.done ++ l) none ∙ append-nil k.done)) in (
        k.grown ∙ ap (λ l. past was ++ entries_by n (map note l)) all,
        subst (λ (l : List C). spare now + length l ≡ spare was) all k.room,
        k.same,
        subst (λ l. AreRight note right (settings was) (past was) n l replies) all k.rights,
      )
