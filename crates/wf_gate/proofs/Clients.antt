-- Facts for callers, which use only the public clauses: new seats are all seats of their gate, seats that are
-- put back still are, and a seat's own entries are its calls.
use Rattle.std.proofs.Common.{◌≡◌, ℕ, zero, suc, ◌<◌, List, [], ◌∷◌, ◌++◌, length, get_or, refl, sym, ap, ◌∙◌, subst, arith, length-append, Some}
use Rattle.std.specs.Prelude.{All, EachIndex, slice_get}
use mathlib.Core.Option.{some}
use mathlib.Core.List.{IsPrefix}
use lib.ListN.{get_elem?}
use Rattle.std.proofs.lemmas.Option.{get_or_from_slice_get}
use Rattle.atomic_table.proofs.Lists.{at_longer, at_last}
use Rattle.wf_gate.proofs.Elements.{at_get, get_at}
use Rattle.wf_gate.specs.Pairs.{IsPair}
use Rattle.wf_gate.specs.Seats.{GateView, SeatView, IsOf, new_seat, AreAll, EndsWith, last_place, StandsWithCalls}

module _ {M N : Type 0} (g : GateView M) where
  -- the seats of a new gate belong to it, and are all of its seats
  module _ (seats : List (SeatView M N)) (quotas : List ℕ) (count : length seats ≡ length quotas)
      (new : EachIndex quotas (λ k. slice_get seats k ≡ Some (new_seat g k))) where
    pub new_of : All (IsOf g) seats
    new_of k d l = subst (IsOf g) (sym (get_or_from_slice_get seats k (new_seat g k) d (new k (omega arith))))
        (refl, refl)

    pub new_all : g.opening.quotas ≡ quotas → AreAll g seats
    new_all is n l = let below : n < length quotas = subst (λ (z : List ℕ). n < length z) is l in (
      n,
      new_seat g n,
      omega arith,
      get_or_from_slice_get seats n (new_seat g n) (new_seat g n)
          (new n below),
      refl,
    )

  -- other seats with the same numbers are all seats, too
  pub all_again : (seats seats' : List (SeatView M N)) → length seats' ≡ length seats →
      ((k : ℕ) (d d' : SeatView M N) → k < length seats →
      (get_or seats' k d').number ≡ (get_or seats k d).number) → AreAll g seats → AreAll g seats'
  all_again seats seats' count same all n l =
      let a = all n l in
      let k : ℕ = a.0 in
      let below : k < length seats = a.2 in
      let s : SeatView M N = get_or seats' k a.1 in (
        k,
        s,
        omega arith,
        here seats' k a.1 (omega arith),
        same k a.1 a.1 below ∙ (ap (λ (z : SeatView M N). z.number) a.3 ∙ a.4),
      )
    where
      here : (xs : List (SeatView M N)) (k : ℕ) (d : SeatView M N) → k < length xs →
          get_or xs k (get_or xs k d) ≡ get_or xs k d
      here [] k d l = absurd (omega arith)
      here (x ∷ xs) zero d l = refl
      here (x ∷ xs) (suc k) d l = here xs k d (omega arith)

module _ {A : Type 0} where
  -- a list of two elements is the two that were popped from it
  pub popped_two : (items rest last : List A) (a b : A) → items ≡ rest ++ b ∷ [] → rest ≡ last ++ a ∷ [] →
      length items ≡ 2 → items ≡ a ∷ b ∷ []
  popped_two items rest [] a b is more two = is ∙ ap (λ l. l ++ b ∷ []) more
  popped_two items rest (x ∷ last) a b is more two =
      absurd (omega (
        arith,
        ap length is,
        ap length more,
        length-append rest (b ∷ []),
        length-append (x ∷ last) (a ∷ []),
      ))

module _ {N : Type 0} (number : ℕ) where
  at_prefix : (xs ys : List (ℕ × N)) (k : ℕ) (e : ℕ × N) → IsPrefix xs ys → slice_get xs k ≡ Some e →
      slice_get ys k ≡ Some e
  at_prefix xs ys k e p at = get_at ys k e (subst (λ (l : List (ℕ × N)). get_elem? l k ≡ some e) p.1
      (at_longer xs p.0 k e (at_get xs k e at)))

  calls_longer : (xs ys : List (ℕ × N)) (ps : List ℕ) (ns : List N) → IsPrefix xs ys →
      StandsWithCalls number xs ps ns → StandsWithCalls number ys ps ns
  calls_longer xs ys [] [] p r = r
  calls_longer xs ys (q ∷ ps) (x ∷ ns) p r = (
    at_prefix xs ys q (number, x) p r.0,
    calls_longer xs ys ps ns p r.1,
  )
  calls_longer xs ys [] (x ∷ ns) p r = r
  calls_longer xs ys (q ∷ ps) [] p r = r

  calls_push : (xs : List (ℕ × N)) (ps : List ℕ) (ns : List N) (p : ℕ) (x : N) →
      slice_get xs p ≡ Some (number, x) → StandsWithCalls number xs ps ns →
      StandsWithCalls number xs (ps ++ p ∷ []) (ns ++ x ∷ [])
  calls_push xs [] [] p x at r = (at, tt)
  calls_push xs (q ∷ ps) (y ∷ ns) p x at r = (r.0, calls_push xs ps ns p x at r.1)
  calls_push xs [] (y ∷ ns) p x at r = absurd r
  calls_push xs (q ∷ ps) [] p x at r = absurd r

  -- one more call, by the clauses of `call` and `try_call`
  pub calls_more : (caller : ℕ) (seen seen' : List (ℕ × N)) (own own' : List ℕ) (notes : List N) (note : N) →
      caller ≡ number → IsPrefix seen seen' → EndsWith seen' (caller, note) →
      own' ≡ own ++ last_place seen' ∷ []
      → StandsWithCalls number seen own notes → StandsWithCalls number seen' own' (notes ++ note ∷ [])
  calls_more caller seen seen' own own' notes note mine further ends grown calls =
      let last : last_place seen' ≡ length ends.0 =
      omega (arith, ap length ends.1, length-append ends.0 ((caller, note) ∷ [])) in
      let at : get_elem? seen' (last_place seen') ≡ some (number, note) =
      ap (get_elem? seen') last ∙ (ap (λ (l : List (ℕ × N)). get_elem? l (length ends.0)) ends.1
      ∙ (at_last ends.0 (caller, note) (length ends.0) refl ∙ ap (λ (n : ℕ). some (n, note)) mine)) in
      subst (λ (ps : List ℕ). StandsWithCalls number seen' ps (notes ++ note ∷ [])) (sym grown)
      (calls_push seen' own notes (last_place seen') note
      (get_at seen' (last_place seen') (number, note) at)
      (calls_longer seen seen' own notes further calls))

-- the same facts for a gate of two seats
module _ {M N : Type 0} (g : GateView M) where
  pub pair_new : (quotas : List ℕ) (items rest last : List (SeatView M N)) (a b : SeatView M N) →
      g.opening.quotas ≡ quotas → length quotas ≡ 2 → length items ≡ length quotas →
      EachIndex quotas (λ k. slice_get items k ≡ Some (new_seat g k))
      → items ≡ rest ++ b ∷ [] → rest ≡ last ++ a ∷ [] → IsPair g a b
  pair_new quotas items rest last a b is two count new end more =
      let both = popped_two items rest last a b end more (omega arith) in
      let zero_is : a ≡ new_seat g 0 = same a (new_seat g 0)
      (sym (ap (λ (l : List (SeatView M N)). slice_get l 0) both) ∙ new 0 (omega arith)) in
      let one_is : b ≡ new_seat g 1 = same b (new_seat g 1)
      (sym (ap (λ (l : List (SeatView M N)). slice_get l 1) both) ∙ new 1 (omega arith)) in
      record {
        count = ap length is ∙ two;
        zero_of = (ap (λ (s : SeatView M N). s.table) zero_is, ap (λ (s : SeatView M N). s.opening) zero_is);
        zero_number = ap (λ (s : SeatView M N). s.number) zero_is;
        one_of = (ap (λ (s : SeatView M N). s.table) one_is, ap (λ (s : SeatView M N). s.opening) one_is);
        one_number = ap (λ (s : SeatView M N). s.number) one_is;
      }
    where
      same : (x y : SeatView M N) → Some x ≡ Some y → x ≡ y
      same x y e = cc

  pub pair_all : (items : List (SeatView M N)) (a b : SeatView M N) → IsPair g a b → items ≡ a ∷ b ∷ [] →
      AreAll g items
  pair_all items a b pair is n l = subst (λ (z : List (SeatView M N)). (k : ℕ) × (x : SeatView M N) ×
      (k < length z) × (get_or z k x ≡ x) × (x.number ≡ n)) (sym is)
      (each n (let two = pair.count in omega arith))
    where
      each : (n : ℕ) → n < 2 → (k : ℕ) × (x : SeatView M N) × (k < length (a ∷ b ∷ [])) ×
          (get_or (a ∷ b ∷ []) k x ≡ x) × (x.number ≡ n)
      each zero l = (0, a, omega arith, refl, pair.zero_number)
      each (suc zero) l = (1, b, omega arith, refl, pair.one_number)
      each (suc (suc n)) l = absurd (omega arith)
