-- Proves that the arguments that were read are in their ranges, and that the octets of a frame fit in their
-- place.
use Rattle.std.proofs.Common.{◌≡◌, ◌⊎◌, inl, inr, ℕ, zero, suc, ◌-◌, ◌≤◌, ◌||◌, not, Bool, true, false, List, [], ◌∷◌, ◌++◌, length, take, drop, replicate, refl, sym, ◌∙◌, ap, arith}
use Rattle.std.specs.Prelude.{Some, Ok, codes}
use Rattle.std.specs.Str.{bytes_eq}
use Rattle.std.proofs.lemmas.List.{length-take-le, length-replicate}
use Rattle.std.proofs.lemmas.Slice.Eq.{bytes_eq-Decides}
use Rattle.wf_def_lists.specs.Bounds.{greatest_mcs}
use Rattle.wf_frame.specs.declared.calls.Arg.TheVariants.{Number}
use Rattle.wf_frame.specs.declared.calls.Value.{Value}
use Rattle.wf_trace.specs.Grammar.{read_arg, read_args, short_most}
use Rattle.wf_trace.specs.Notes.{long_in}
use Rattle.wf_trace.specs.Words.{number_of}
use Rattle.wf_trace.proofs.ArgLaws.{both_ok, number_ok}
use Rattle.wf_run_scripts.specs.UplinkLines.{open_args, rate_args, has_no_width, AreOpening, AreRate}
use Rattle.wf_run_scripts.specs.UplinkOctets.{padded_octets}

three_at : (values others more rest : List Value) (a b c : Value) → values ≡ a ∷ others → others ≡ b ∷ more →
    more ≡ c ∷ rest → values ≡ a ∷ b ∷ c ∷ rest
three_at values others more rest a b c one two three = rw (one, two, three) refl

-- ---- a station is opened

opening : (values rest : List Value) (a b c : Value) → values ≡ a ∷ b ∷ c ∷ rest →
    long_in (Some a) ≤ short_most → long_in (Some b) ≤ short_most → long_in (Some c) ≤ short_most →
    AreOpening values
opening values rest a b c is one two three = rw is (record { station = one; window = two; start = three })

pub opening_read : (line : List (List ℕ)) (values : List Value) → read_args open_args line ≡ Ok values →
    AreOpening values
opening_read [] values is = absurd (cc)
opening_read (s ∷ []) values is = let a = both_ok _ _ values is in absurd (cc)
opening_read (s ∷ w ∷ []) values is = let a = both_ok _ _ values is in let b = both_ok _ _ a.1 a.3 in
    absurd (cc)
opening_read (s ∷ w ∷ n ∷ more) values is =
    let a = both_ok _ _ values is in
    let b = both_ok _ _ a.1 a.3 in
    let c = both_ok _ _ b.1 b.3 in
    opening values c.1 a.0 b.0 c.0 (three_at values a.1 b.1 c.1 a.0 b.0 c.0 a.4 b.4 c.4)
    (number_ok 0 short_most (number_of s) a.0 a.2).1 (number_ok 0 short_most (number_of w) b.0 b.2).1
    (number_ok 0 short_most (number_of n) c.0 c.2).1

-- ---- a rate is set

width_20 : (word : List ℕ) (v : Value) → word ≡ codes "20" → read_arg (Number 20 40) word ≡ Ok v →
    long_in (Some v) ≡ 20
width_20 word v same is =
    let read : read_arg (Number 20 40) (codes "20") ≡ Ok v = ap (read_arg (Number 20 40)) (sym same) ∙ is in
    grind (arith, read)

width_40 : (word : List ℕ) (v : Value) → word ≡ codes "40" → read_arg (Number 20 40) word ≡ Ok v →
    long_in (Some v) ≡ 40
width_40 word v same is =
    let read : read_arg (Number 20 40) (codes "40") ≡ Ok v = ap (read_arg (Number 20 40)) (sym same) ∙ is in
    grind (arith, read)

width_read : (word : List ℕ) (v : Value) →
    not (bytes_eq word (codes "20") || bytes_eq word (codes "40")) ≡ false → read_arg (Number 20 40) word ≡ Ok v →
    (long_in (Some v) ≡ 20) ⊎ (long_in (Some v) ≡ 40)
width_read word v one is = by_first (bytes_eq word (codes "20")) refl
  where
    by_second : (b : Bool) → bytes_eq word (codes "40") ≡ b → not (false || b) ≡ false →
        (long_in (Some v) ≡ 20) ⊎ (long_in (Some v) ≡ 40)
    by_second true eq other = inr (width_40 word v ((bytes_eq-Decides word (codes "40")).0 eq) is)
    by_second false eq other = absurd (grind (arith, other))

    by_first : (b : Bool) → bytes_eq word (codes "20") ≡ b → (long_in (Some v) ≡ 20) ⊎ (long_in (Some v) ≡ 40)
    by_first true eq = inl (width_20 word v ((bytes_eq-Decides word (codes "20")).0 eq) is)
    by_first false eq = by_second (bytes_eq word (codes "40")) refl
        (ap (λ b. not (b || bytes_eq word (codes "40"))) (sym eq) ∙ one)

rates : (values rest : List Value) (a b c : Value) → values ≡ a ∷ b ∷ c ∷ rest →
    long_in (Some a) ≤ short_most → long_in (Some b) ≤ greatest_mcs →
    (long_in (Some c) ≡ 20) ⊎ (long_in (Some c) ≡ 40) → AreRate values
rates values rest a b c is one two three = rw is (record { station = one; mcs = two; mhz = three })

pub rate_read : (line : List (List ℕ)) (values : List Value) → has_no_width line ≡ false →
    read_args rate_args line ≡ Ok values → AreRate values
rate_read [] values width is = absurd (cc)
rate_read (s ∷ []) values width is = let a = both_ok _ _ values is in absurd (cc)
rate_read (s ∷ m ∷ []) values width is = let a = both_ok _ _ values is in let b = both_ok _ _ a.1 a.3 in
    absurd (cc)
rate_read (s ∷ m ∷ w ∷ more) values width is =
    let a = both_ok _ _ values is in
    let b = both_ok _ _ a.1 a.3 in
    let c = both_ok _ _ b.1 b.3 in
    rates values c.1 a.0 b.0 c.0 (three_at values a.1 b.1 c.1 a.0 b.0 c.0 a.4 b.4 c.4)
    (number_ok 0 short_most (number_of s) a.0 a.2).1 (number_ok 0 greatest_mcs (number_of m) b.0 b.2).1
    (width_read w c.0 width c.2)

-- ---- a frame is received

take_front : (xs ys : List ℕ) → take (length xs) (xs ++ ys) ≡ xs
take_front [] ys = refl
take_front (x ∷ xs) ys = ap (λ l. x ∷ l) (take_front xs ys)

abbrev pub zeros : ℕ → List ℕ
zeros n = replicate n 0

drop_zeros : (n m : ℕ) → n ≤ m → drop n (zeros m) ≡ zeros (m - n)
drop_zeros zero m le = let e : m - 0 ≡ m = omega arith in rw e refl
drop_zeros (suc n) zero le = absurd (omega (arith, le))
drop_zeros (suc n) (suc m) le = let e : suc m - suc n ≡ m - n = omega arith in
    rw e (drop_zeros n m (omega (arith, le)))

-- The octets, written to the front of fifty zeros, are padded octets.
pub frame_kept : (octets : List ℕ) (size : ℕ) → length octets ≡ length (take size (zeros 50)) → size ≤ 50 →
    (octets ++ drop size (zeros 50) ≡ padded_octets (take size (octets ++ drop size (zeros 50)))) ×
    (length (take size (octets ++ drop size (zeros 50))) ≡ size) × (size ≤ 50)
frame_kept octets size same most =
    let fits : size ≤ length (zeros 50) = rw (length-replicate {A = ℕ} 50 0) most in
    let long : length octets ≡ size = same ∙ length-take-le size (zeros 50) fits in
    let front : take size (octets ++ drop size (zeros 50)) ≡ octets =
    ap (λ n. take n (octets ++ drop size (zeros 50))) (sym long)
    ∙ take_front octets (drop size (zeros 50)) in (
      ap (λ l. octets ++ l) (drop_zeros size 50 most ∙ ap (λ n. zeros (50 - n)) (sym long))
          ∙ ap padded_octets (sym front),
      ap length front ∙ long,
      most,
    )
