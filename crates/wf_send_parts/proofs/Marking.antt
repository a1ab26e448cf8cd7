-- Proves that the marks of an open exchange do not matter to the invariant of the list.
use Rattle.std.proofs.Common.{◌≡◌, ◌∙◌, ℕ, zero, suc, ◌+◌, ◌<◌, List, [], ◌∷◌, length, get_or, set, refl, ap, sym, subst}
use Rattle.std.proofs.lemmas.List.Elements.{All-set}
use Rattle.wf_frame.specs.declared.classes.Class.{Class}
use Rattle.wf_send_parts.specs.declared.exchanges.opened.Open.{Open}
use Rattle.wf_send_parts.specs.Exchanges.{exchange_number, airtime_of, airtime_to}
use Rattle.wf_send_parts.specs.Counted.{KnowsAirtime}
use Rattle.wf_send_parts.proofs.Airtime.{IsSmall, IsKnown, charge_to}
use Rattle.wf_send_parts.proofs.Kept.{kept_changed}

-- the exchanges have the same number, station and charge
record IsAlike (y x : Open) : Type 0 where
  number : y.number ≡ x.number
  station : y.station ≡ x.station
  charge : y.charge ≡ x.charge
  charges : (s : ℕ) (c : Class) → charge_to y s c ≡ charge_to x s c

airtime_alike : (xs : List Open) (i : ℕ) (y d : Open) → IsAlike y (get_or xs i d) →
    airtime_of (set xs i y) ≡ airtime_of xs
airtime_alike [] i y d alike = refl
airtime_alike (x ∷ xs) zero y d alike = ap (λ (n : ℕ). n + airtime_of xs) alike.charge
airtime_alike (x ∷ xs) (suc i) y d alike = ap (λ (n : ℕ). x.charge + n) (airtime_alike xs i y d alike)

airtime_to_alike : (xs : List Open) (i : ℕ) (y d : Open) (s : ℕ) (c : Class) → IsAlike y (get_or xs i d) →
    airtime_to (set xs i y) s c ≡ airtime_to xs s c
airtime_to_alike [] i y d s c alike = refl
airtime_to_alike (x ∷ xs) zero y d s c alike = ap (λ (n : ℕ). n + airtime_to xs s c) (alike.charges s c)
airtime_to_alike (x ∷ xs) (suc i) y d s c alike = ap (λ (n : ℕ). charge_to x s c + n)
    (airtime_to_alike xs i y d s c alike)

-- the exchange d, which has place i, gets other marks
pub knows_marked : (xs : List Open) (capacity airtime : ℕ) (airtimes : List ℕ) (i : ℕ) (d : Open)
    (unsent given_up : List ℕ) → i < length xs → d ≡ get_or xs i d →
    KnowsAirtime xs capacity airtime airtimes →
    KnowsAirtime (set xs i (record d { unsent = unsent; given_up = given_up })) capacity airtime airtimes
knows_marked xs capacity airtime airtimes i d unsent given_up inside here ok =
    let y : Open = record d { unsent = unsent; given_up = given_up } in
    let alike : IsAlike y (get_or xs i d) = subst (IsAlike y) here (record {
      number = refl;
      station = refl;
      charge = refl;
      charges = λ s c. refl;
    }) in
    record {
      kept = kept_changed exchange_number xs capacity i y d here refl ok.kept;
      small = All-set IsSmall xs i y (subst IsSmall (sym here) (ok.small i d inside)) ok.small;
      known = All-set IsKnown xs i y (subst IsKnown (sym here) (ok.known i d inside)) ok.known;
      sum = ok.sum ∙ sym (airtime_alike xs i y d alike);
      sums = record {
        places = ok.sums.places;
        each = λ s c low. ok.sums.each s c low ∙ sym (airtime_to_alike xs i y d s c alike);
      };
    }
