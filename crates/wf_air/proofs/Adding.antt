-- Proves that the three tests of `add` say exactly whether one more frame fits.
use Rattle.std.proofs.Common.{◌≡◌, ◌∙◌, refl, sym, ap, subst, arith, ℕ, ◌+◌, ◌<◌, ◌≤◌, Bool, true, false, List, [], ◌∷◌, ◌++◌, ◌&&◌}
use Rattle.std.specs.Prelude.{nat_lt, nat_le}
use Rattle.std.proofs.lemmas.Bool.Decides.{nat_tests}
use Rattle.wf_def_lists.specs.Lengths.{greatest_protected}
use Rattle.std.proofs.Math.Nat.{le-max_right}
use Rattle.wf_def_air.specs.Airtime.{data_time}
use Rattle.wf_def_air.specs.Fit.{subframe_octets, padded, alone_at, fits}
use Rattle.wf_air.specs.Rates.{longest_aggregate, longest_single}
use Rattle.wf_air.specs.declared.fit.AggregateSize.TheInside.{Inside}
use Rattle.wf_air.specs.Sizes.{AggregateSizeValue, SizeStandsFor, time_with_next}
use Rattle.wf_air.specs.SizeView.{value_of, IsSize}
use Rattle.wf_air.proofs.Lengths.{fits_more, stands_more}

second_false : (b c : Bool) → (b && (false && c)) ≡ false
second_false true c = refl
second_false false c = refl

third_false : (b c : Bool) → (b && (c && false)) ≡ false
third_false true true = refl
third_false true false = refl
third_false false c = refl

is_below : (n m : ℕ) → n < m → nat_lt n m ≡ true
is_below n m h = grind (arith, nat_tests)

is_not_below : (n m : ℕ) → m ≤ n → nat_lt n m ≡ false
is_not_below n m h = grind (arith, nat_tests)

is_within : (n m : ℕ) → n ≤ m → nat_le n m ≡ true
is_within n m h = grind (arith, nat_tests)

is_above : (n m : ℕ) → m < n → nat_le n m ≡ false
is_above n m h = grind (arith, nat_tests)

-- a single frame may take `alone_at` its rate
pub alone_allowed : (room : AggregateSizeValue) → room.count ≡ 0 → alone_at room.rate ≤ time_with_next room
alone_allowed room none = rw none (le-max_right room.limits.time (alone_at room.rate))

module _ (r : Inside) (room : AggregateSizeValue) (viewed : value_of r ≡ room) (is : IsSize r)
    (len octets : ℕ)
    (octets_is : octets ≡ padded r.octets + subframe_octets len) where
  pub few : octets ≤ r.limits.octets → octets ≤ longest_aggregate
  few h = omega (arith, h, is.octets_most)

  -- a single frame is within every receiver's limit
  pub alone : room.count ≡ 0 → len ≤ greatest_protected →
      (octets ≤ longest_single) × (longest_single ≤ r.limits.octets)
  alone none h =
      let empty : r.octets ≡ 0 = is.empty (ap (λ (v : AggregateSizeValue). v.count) viewed ∙ none) in
      (omega (arith, octets_is, empty, h), is.octets_least)

  module _ (lens : List ℕ) (stands : SizeStandsFor room lens) where
    -- whether it fits, as a test of the fields
    by_fields : fits room.rate room.limits.octets room.limits.frames room.limits.time (lens ++ len ∷ [])
        ≡ (nat_lt r.count r.limits.frames && (nat_le octets r.limits.octets
        && nat_le (data_time r.rate octets) (time_with_next (value_of r))))
    by_fields = subst (λ (v : AggregateSizeValue). SizeStandsFor v lens →
        fits v.rate v.limits.octets v.limits.frames v.limits.time (lens ++ len ∷ [])
        ≡ (nat_lt r.count r.limits.frames && (nat_le octets r.limits.octets
        && nat_le (data_time r.rate octets) (time_with_next (value_of r)))))
        viewed (λ stands'. fits_more (value_of r) lens len octets octets_is stands') stands

    pub refused_full : r.limits.frames ≤ r.count →
        false ≡ fits room.rate room.limits.octets room.limits.frames room.limits.time (lens ++ len ∷ [])
    refused_full h = sym (by_fields ∙ rw (is_not_below _ _ h) refl)

    pub refused_long : r.limits.octets < octets →
        false ≡ fits room.rate room.limits.octets room.limits.frames room.limits.time (lens ++ len ∷ [])
    refused_long h =
        sym (by_fields ∙ rw (is_above _ _ h) (second_false _ (nat_le (data_time r.rate octets) (time_with_next (value_of r)))))

    pub refused_late : time_with_next room < data_time r.rate octets →
        false ≡ fits room.rate room.limits.octets room.limits.frames room.limits.time (lens ++ len ∷ [])
    refused_late h =
        let late = subst (λ (v : AggregateSizeValue). time_with_next v < data_time r.rate octets) (sym viewed) h in
        sym (by_fields ∙ rw (is_above _ _ late) (third_false _ _))

    pub taken : r.count < r.limits.frames → octets ≤ r.limits.octets →
        data_time r.rate octets ≤ time_with_next room →
        true ≡ fits room.rate room.limits.octets room.limits.frames room.limits.time (lens ++ len ∷ [])
    taken below short timely =
        let timed = subst (λ (v : AggregateSizeValue). data_time r.rate octets ≤ time_with_next v) (sym viewed)
        timely in
        sym (by_fields ∙ rw (is_below _ _ below, is_within _ _ short, is_within _ _ timed) refl)

    pub stands_after : (after : AggregateSizeValue) → after.count ≡ r.count + 1 → after.octets ≡ octets →
        SizeStandsFor after (lens ++ len ∷ [])
    stands_after after count_is octets_is' = stands_more room lens len octets
        (octets_is ∙ ap (λ (v : AggregateSizeValue). padded v.octets + subframe_octets len) viewed)
        stands after
        (count_is ∙ ap (λ (v : AggregateSizeValue). v.count + 1) viewed) octets_is'
