-- Proves how one more frame changes the octets of an aggregate, and whether it fits.
use Rattle.std.proofs.Common.{◌≡◌, ℕ, ◌+◌, ◌∙◌, refl, sym, ap, arith, List, [], ◌∷◌, ◌++◌, length, length-append, ◌&&◌}
use Rattle.std.specs.Prelude.{nat_lt, nat_le, ◌==◌}
use Rattle.std.proofs.lemmas.Bool.Decides.{nat_tests}
use Rattle.wf_def_air.specs.Fit.{subframe_octets, padded, aggregate_octets, time_allowed, fits}
use Rattle.wf_air.specs.Sizes.{AggregateSizeValue, SizeStandsFor, time_with_next, is_short}

-- The former last subframe is padded: the octets are rounded up to a multiple of 4.
pub octets_of-append : (lens : List ℕ) (len : ℕ) →
    aggregate_octets (lens ++ len ∷ []) ≡ padded (aggregate_octets lens) + subframe_octets len
octets_of-append [] len = omega arith
octets_of-append (x ∷ []) len = refl
octets_of-append (x ∷ y ∷ lens) len = omega (arith, octets_of-append (y ∷ lens) len)

-- n + 1 is at most 1 exactly if n is 0
alone_after : (n : ℕ) → nat_le (n + 1) 1 ≡ (n == 0)
alone_after n = grind (arith, nat_tests)

suc_fits : (n m : ℕ) → nat_le (n + 1) m ≡ nat_lt n m
suc_fits n m = grind (arith, nat_tests)

module _ (room : AggregateSizeValue) (lens : List ℕ) (len octets : ℕ)
    (octets_is : octets ≡ padded room.octets + subframe_octets len) (stands : SizeStandsFor room lens) where
  octets_more : aggregate_octets (lens ++ len ∷ []) ≡ octets
  octets_more = octets_of-append lens len ∙ ap (λ n. padded n + subframe_octets len) (sym stands.octets)
      ∙ sym octets_is

  count_more : length (lens ++ len ∷ []) ≡ room.count + 1
  count_more = omega (arith, length-append lens (len ∷ []), stands.count)

  -- after one more frame there is a single one exactly if there was none
  time_more : time_allowed room.rate room.limits.time (lens ++ len ∷ []) ≡ time_with_next room
  time_more = rw (count_more, alone_after room.count) refl

  pub fits_more : fits room.rate room.limits.octets room.limits.frames room.limits.time (lens ++ len ∷ [])
      ≡ (nat_lt room.count room.limits.frames && is_short room octets)
  fits_more = rw (octets_more, time_more, count_more, suc_fits room.count room.limits.frames) refl

  pub stands_more : (after : AggregateSizeValue) → after.count ≡ room.count + 1 → after.octets ≡ octets →
      SizeStandsFor after (lens ++ len ∷ [])
  stands_more after count_is octets_is' = record {
    count = count_is ∙ sym count_more;
    octets =
        octets_is' ∙ sym octets_more;
  }
