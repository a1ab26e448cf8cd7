-- Proves that the numbers of an exchange that ends are settled one after the other, until none of them flies.
use Rattle.std.proofs.Common.{◌≡◌, ◌≢◌, ℕ, ◌-◌, ◌%◌, ◌≤◌, ◌==◌, Bool, true, false, ◌||◌, List, [], ◌∷◌, refl, ap, sym, ◌∙◌, subst, arith}
use Rattle.std.proofs.lemmas.Bool.Decides.{nat_tests}
use Rattle.wf_frame.specs.Frames.{FrameValue}
use Rattle.wf_def_lists.specs.Table.{has}
use Rattle.wf_def_agreement.specs.Session.{Session, Slot, State, End, no_slot, slot, on_slot, is_settled, slot_after_miss, slot_given_up, after_end}
use Rattle.wf_law_rules.proofs.Lemmas.Tables.{at_put_other}
use Rattle.wf_send_parts.specs.Window.{WindowValue, WindowStandsFor, IsNumber, is_flying, holds_parcel}
use Rattle.wf_send_parts.proofs.Numbers.{open_number}
use Rattle.wf_send_parts.proofs.Callers.{state_is, attempts_is}
use Rattle.wf_send_parts.specs.Ending.{Ending, IsFlyingIn, AreFlying, all_settled, HasLeft, IsSettledNext}

-- the first number flies

first_flies : (s : Session) (ending : Ending) (n : ℕ) (ns : List ℕ) → AreFlying s ending (n ∷ ns) →
    IsFlyingIn s ending n
first_flies s ending n ns flying =
    let same : (n == n) ≡ true = grind (arith, nat_tests) in
    flying.each n (ap (λ (b : Bool). b || has ns n) same)

is_behind : (n m : ℕ) (ns : List ℕ) → has ns m ≡ true → has (n ∷ ns) m ≡ true
is_behind n m ns h = elim (n == m) as (λ b. b || has ns m ≡ true) [ true ↦ refl | false ↦ h ]

is_other : (n m : ℕ) (ns : List ℕ) → has ns n ≡ false → has ns m ≡ true → n ≢ m
is_other n m ns out h e = absurd (let k = sym out ∙ ap (has ns) e ∙ h in cc k)

slot_other : (s : Session) (n m : ℕ) (f : Slot → Slot) → s.first ≤ n → s.first ≤ m → n ≢ m →
    slot (on_slot n f s) m ≡ slot s m
slot_other s n m f a b other = at_put_other no_slot s.slots (n - s.first) (m - s.first) (f (slot s n))
    (λ (e : n - s.first ≡ m - s.first). other (omega arith))

-- after one number is settled, the others still fly

others_fly : (s : Session) (ending : Ending) (n : ℕ) (ns : List ℕ) (f : Slot → Slot) →
    AreFlying s ending (n ∷ ns) → AreFlying (on_slot n f s) ending ns
others_fly s ending n ns f flying =
    record {
      each = λ m h.
          let there = flying.each m (is_behind n m ns h) in
          let same : slot (on_slot n f s) m ≡ slot s m =
          slot_other s n m f (first_flies s ending n ns flying).from_first there.from_first
          (is_other n m ns flying.once.0 h) in
          record {
            from_first = there.from_first;
            flies = ap (λ (x : Slot). x.state) same ∙ there.flies;
            below = omega (arith, ap (λ (x : Slot). x.attempts) same, there.below);
          };
      once = flying.once.1;
    }

pub still_fly : (end : End) (s : Session) (ending : Ending) (n : ℕ) (ns : List ℕ) →
    AreFlying s ending (n ∷ ns) → AreFlying (after_end ending.limit end n s) ending ns
still_fly End.Acknowledged s ending n ns flying =
    others_fly s ending n ns (λ x. record x { state = State.Acked }) flying
still_fly End.Missed s ending n ns flying = others_fly s ending n ns (slot_after_miss ending.limit) flying
still_fly End.GivenUp s ending n ns flying = others_fly s ending n ns (slot_given_up ending.limit) flying
still_fly End.Unsent s ending n ns flying =
    others_fly s ending n ns (λ x. record x { state = State.Waiting }) flying

-- the loop

pub ending_begins : (w : WindowValue) (s : Session) (bodies : ℕ → FrameValue) (ending : Ending)
    (numbers : List ℕ) → WindowStandsFor w s bodies → AreFlying s ending numbers →
    HasLeft w bodies ending numbers (all_settled ending numbers s)
ending_begins w s bodies ending numbers stands flying =
    record { now = s; stands = stands; flying = flying; leads = refl }

module _ (w : WindowValue) (bodies : ℕ → FrameValue) (ending : Ending) (n : ℕ) (ns : List ℕ) (after : Session)
    (left : HasLeft w bodies ending (n ∷ ns) after) where
  pub ending_number : (seq : ℕ) → seq ≡ n % 4096 → IsNumber left.now n seq
  ending_number seq on_air =
      let f = first_flies left.now ending n ns left.flying in
      open_number left.now n seq f.from_first (ap is_settled f.flies) on_air

  pub ending_flies : (seq : ℕ) → seq ≡ n % 4096 → IsSettledNext w seq ending.limit
  ending_flies seq on_air =
      let f = first_flies left.now ending n ns left.flying in
      let number = ending_number seq on_air in
      record {
        flies = ap is_flying (state_is w left.now bodies left.stands n seq number ∙ f.flies);
        below = omega (
          arith,
          attempts_is w left.now bodies left.stands n seq number
              (ap holds_parcel f.flies),
          f.below,
        );
      }

  pub ending_next : (v : WindowValue) → WindowStandsFor v
      (after_end ending.limit (ending.ends n) n left.now) bodies → HasLeft v bodies ending ns after
  ending_next v stands =
      record {
        now = after_end ending.limit (ending.ends n) n left.now;
        stands = stands;
        flying = still_fly (ending.ends n) left.now ending n ns left.flying;
        leads = left.leads;
      }

pub ending_ends : (w : WindowValue) (bodies : ℕ → FrameValue) (ending : Ending) (after : Session) →
    HasLeft w bodies ending [] after → WindowStandsFor w after bodies
ending_ends w bodies ending after left = let P : Session → Type 0 = λ z. WindowStandsFor w z bodies in
    subst P left.leads left.stands
