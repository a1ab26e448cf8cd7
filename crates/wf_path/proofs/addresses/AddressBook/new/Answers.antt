-- Proves what `AddressBook::new` promises: the loop adds the placeholder address and identifier of each of
-- the 256 station numbers.
use Rattle.std.proofs.Common.{◌≡◌, arith, ◌∙◌, sym, ap, ap₂, subst, ℕ, ◌+◌, List, ◌++◌, ◌∷◌, [], map, length, get_or, replicate, None}
use Rattle.std.specs.List.{range_with_len}
use Rattle.std.proofs.lemmas.List.FromFn.{map-range_with_len_more, length-map-range_with_len, get_or-map-range_with_len}
use Rattle.wf_octets.specs.Addresses.{address_of_station}
use Rattle.wf_path.specs.Addresses.{Addresses, made_up, made_up_aids, aid_of_station, bss_numbers, IsAid}
use Rattle.wf_path.proofs.addresses.AddressBook.new.Goals as goal

book_of : List ℕ → List (List ℕ) → List ℕ → Addresses
book_of base stations aids = record {
  base = base;
  stations = stations;
  bsses = replicate bss_numbers None;
  aids = aids;
}

pub invariant_of-result : goal.invariant_of-result
invariant_of-result c =
    let all : c.loop-station.station ≡ 256 = omega arith in (
      ap length c.loop-station.invariant.0
          ∙ length-map-range_with_len address_of_station 0 c.loop-station.station ∙ all,
      record {
        all = ap length c.loop-station.invariant.1
            ∙ length-map-range_with_len aid_of_station 0 c.loop-station.station ∙ all;
        each = λ s low. subst IsAid (sym (ap (λ (l : List ℕ). get_or l s (s + 1)) c.loop-station.invariant.1
            ∙ get_or-map-range_with_len aid_of_station 0 c.loop-station.station s s (s + 1)
            (omega (arith, low, all)) (omega arith))) (omega arith, omega (arith, low));
      },
    )

pub loop-station-preserved : goal.loop-station-preserved
loop-station-preserved c = (
  c.in_ok-push.ensures.items
      ∙ ap₂ (λ (xs : List (List ℕ)) (x : List ℕ). xs ++ x ∷ []) c.loop-station.invariant.0
      c.station_address.ensures
      ∙ sym (map-range_with_len_more address_of_station 0 c.loop-station.station c.loop-station.station
      (omega arith)),
  c.in_ok-push-2.ensures.items
      ∙ ap (λ (xs : List ℕ). xs ++ (c.loop-station.station + 1) ∷ []) c.loop-station.invariant.1
      ∙ sym (map-range_with_len_more aid_of_station 0 c.loop-station.station c.loop-station.station
      (omega arith)),
)

pub returns : goal.returns
unfolding made_up made_up_aids book_of
returns c =
    let all : c.loop-station.station ≡ 256 = omega arith in
    ap₂ (λ (b : List ℕ) (s : List (List ℕ)). book_of b s c.loop-station.aids.items) c.base_address.ensures
    (c.loop-station.invariant.0 ∙ ap (λ (n : ℕ). map address_of_station (range_with_len 0 n)) all)
    ∙ ap (book_of made_up.base made_up.stations)
    (c.loop-station.invariant.1 ∙ ap (λ (n : ℕ). map aid_of_station (range_with_len 0 n)) all)
