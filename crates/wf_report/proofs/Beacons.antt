-- Proves that a beacon and a group frame fit in a packet of a capture.
use Rattle.std.proofs.Common.{◌≡◌, refl, subst, ℕ, zero, suc, ◌+◌, ◌-◌, ◌*◌, ◌/◌, ◌<◌, ◌≤◌, Bool, true, false, List, [], ◌∷◌, length, map, min, arith, length-append, ap}
use Rattle.std.specs.Prelude.{filter}
use Rattle.wf_def_lists.specs.Lengths.{greatest_body}
use Rattle.wf_def_lists.specs.Table.{count_from, upto}
use Rattle.wf_def_tim.specs.Tim.{tim_element, last_of, map_octet, with_group_bit}
use Rattle.wf_octets.specs.GroupLayout.{group_octets}
use Rattle.wf_def_world.specs.Group.{GroupState, dtim_period}
use Rattle.wf_def_world.specs.World.{World, is_live, live_stations, group_of}
use Rattle.wf_def_world.specs.Text.{beacon_map, is_awaited, with_traffic}
use Rattle.wf_report.specs.GroupFrames.{group_body, group_frame, group_header, beacon_head, beacon_frame}
use Rattle.wf_report.proofs.Sampled.{length_sample}

-- ---- numbers below a bound

abbrev AreBelow : ℕ → List ℕ → Type 0
AreBelow n [] = Unit {0}
AreBelow n (x ∷ xs) = (x < n) × AreBelow n xs

counted_below : (from n : ℕ) → AreBelow (from + n) (count_from from n)
counted_below from zero = tt
counted_below from (suc n) =
    let same : suc from + n ≡ from + suc n = omega arith in
    (omega arith, subst (λ m. AreBelow m (count_from (suc from) n)) same (counted_below (suc from) n))

kept_if : (n : ℕ) (p : ℕ → Bool) (x : ℕ) (xs : List ℕ) (b : Bool) → p x ≡ b → x < n →
    AreBelow n (filter p xs) → AreBelow n (filter p (x ∷ xs))
kept_if n p x xs true is less others = rw is (less, others)
kept_if n p x xs false is less others = rw is others

kept_below : (n : ℕ) (p : ℕ → Bool) (xs : List ℕ) → AreBelow n xs → AreBelow n (filter p xs)
kept_below n p [] all = tt
kept_below n p (x ∷ xs) all = kept_if n p x xs (p x) refl all.0 (kept_below n p xs all.1)

raised_below : (n : ℕ) (xs : List ℕ) → AreBelow n xs → AreBelow (n + 1) (map (λ s. s + 1) xs)
raised_below n [] all = tt
raised_below n (x ∷ xs) all = (omega (arith, all.0), raised_below n xs all.1)

last_below : (n a : ℕ) (xs : List ℕ) → a < n → AreBelow n xs → last_of a xs < n
last_below n a [] less all = less
last_below n a (x ∷ xs) less all = last_below n x xs all.0 all.1

-- ---- lengths

counted_long : (from n : ℕ) → length (count_from from n) ≡ n
counted_long from zero = refl
counted_long from (suc n) = ap suc (counted_long (suc from) n)

mapped_long : (f : ℕ → ℕ) (xs : List ℕ) → length (map f xs) ≡ length xs
mapped_long f [] = refl
mapped_long f (x ∷ xs) = ap suc (mapped_long f xs)

element_short : (count period n : ℕ) (aids : List ℕ) → AreBelow n aids →
    length (tim_element count period aids) ≤ n + 6
element_short count period n [] all = omega arith
element_short count period n (a ∷ aids) all =
    let first : ℕ = 2 * (a / 16) in
    let last : ℕ = last_of a aids / 8 in
    omega (
      arith,
      mapped_long (map_octet (a ∷ aids)) (count_from first (last - first + 1)),
      counted_long first (last - first + 1),
      last_below n a aids all.0 all.1,
    )

bit_long : (announced : Bool) (octets : List ℕ) → length (with_group_bit announced octets) ≡ length octets
bit_long false octets = refl
bit_long true [] = refl
bit_long true (a ∷ []) = refl
bit_long true (a ∷ b ∷ []) = refl
bit_long true (a ∷ b ∷ c ∷ []) = refl
bit_long true (a ∷ b ∷ c ∷ d ∷ []) = refl
bit_long true (a ∷ b ∷ c ∷ d ∷ e ∷ octets) = refl

traffic_below : (w : World) (b : ℕ) → AreBelow (w.config.stations + 1) (with_traffic w b)
traffic_below w b =
    let n : ℕ = w.config.stations in
    let same : 0 + n ≡ n = omega arith in
    raised_below n (filter (is_awaited w b) (live_stations w))
    (kept_below n (is_awaited w b) (live_stations w)
    (kept_below n (is_live w) (upto n) (subst (λ m. AreBelow m (upto n)) same (counted_below 0 n))))

head_long : (number clock : ℕ) → length (beacon_head number clock) ≡ 48
head_long number clock = refl

pub beacon_short : (w : World) (b : ℕ) → w.config.stations ≤ 256 → length (beacon_frame w b) ≤ 65535
beacon_short w b few =
    let g : GroupState = group_of w b in
    let element : List ℕ = tim_element g.count (dtim_period w.config.period) (with_traffic w b) in
    omega (
      arith,
      length-append (beacon_head (g.number - 1) w.clock) (beacon_map w b (with_traffic w b)),
      head_long (g.number - 1) w.clock,
      bit_long g.announced element,
      element_short g.count (dtim_period w.config.period) (w.config.stations + 1) (with_traffic w b)
          (traffic_below w b),
      few,
    )

header_long : (number : ℕ) (more : Bool) → length (group_octets (group_header number more)) ≡ 24
header_long number more = refl

pub group_short : (number : ℕ) (more : Bool) (len : ℕ) → length (group_frame number more len) ≤ 65535
group_short number more len = omega (
  arith,
  length-append (group_octets (group_header number more)) (group_body len),
  header_long number more,
  length_sample 0 (min len greatest_body),
)
