-- Proves that the association identifiers that are present belong to the stations that sleep and have
-- traffic, by induction over the stations, and that with the identifiers of a new path they equal those of a
-- run.
use Rattle.std.proofs.Common.{◌≡◌, refl, ap, ap₂, sym, ◌∙◌, arith, ℕ, zero, suc, ◌+◌, ◌-◌, ◌<◌, ◌≤◌, ◌==◌, Bool, true, false, cond, ◌&&◌, ◌||◌, List, [], ◌∷◌, map, filter, get_or, get_or-set_other, set, replicate, inl, inr, Option, Some, None, is_some, unwrap_or}
use Rattle.std.specs.List.{range_with_len, list_any}
use Rattle.wf_def_lists.specs.Table.{at, count_from, upto}
use Rattle.std.proofs.lemmas.Bool.{cases_Bool, cases_eq, cases_lt, eq-eqb, ne_eqb, or_right, and_left, and_right}
use Rattle.std.proofs.lemmas.Grind.{get_or-set_at}
use Rattle.std.proofs.lemmas.List.{get_or-replicate, length-replicate, length-set}
use Rattle.wf_frame.specs.declared.settings.Config.{Config}
use Rattle.wf_frame.specs.Frames.{FrameValue}
use Rattle.wf_def_world.specs.World.{World, Station, no_station, station, is_live}
use Rattle.wf_def_world.specs.Exchanges.{has_more}
use Rattle.wf_def_world.specs.Text.{is_awaited, with_traffic}
use Rattle.wf_octets.specs.Tim.{aids_of}
use Rattle.wf_send_parts.specs.Sleepers.{sleeper}
use Rattle.wf_send_parts.specs.declared.stations.sleepers.Sleeper.{Sleeper}
use Rattle.wf_send_half_model.specs.Half.{TransmitValue}
use Rattle.wf_send_half_model.specs.Pulling.{has_more_of}
use Rattle.wf_send_half_model.specs.Standing.{StandsFor}
use Rattle.wf_send_half_model.proofs.Readers.{live_same}
use Rattle.wf_send_half_model.proofs.Pulls.{more_same}
use Rattle.wf_path.specs.Addresses.{Addresses, aid_in, IsAid, made_up_aids}
use Rattle.wf_path.specs.Traffic.{has_traffic_of, has_traffic, bss_of, is_awaited_of, is_awaited_in, is_aid_shown, aids_shown, identifiers, ArePresent}
use Rattle.wf_path.proofs.MadeUp.{made_up_aid}

-- ---- tests of a list of numbers

filters_same : (p q : ℕ → Bool) (a m : ℕ) → ((k : ℕ) → k < a + m → p k ≡ q k) →
    filter p (range_with_len a m) ≡ filter q (range_with_len a m)
filters_same p q a zero same = refl
filters_same p q a (suc m) same = ap₂ (λ (b : Bool) (l : List ℕ). cond b (a ∷ l) l) (same a (omega arith))
    (filters_same p q (a + 1) m (λ k low. same k (omega (arith, low))))

any_same : (p q : ℕ → Bool) → ((k : ℕ) → p k ≡ q k) → (xs : List ℕ) → list_any p xs ≡ list_any q xs
any_same p q same [] = refl
any_same p q same (x ∷ xs) = ap₂ (λ a b. a || b) (same x) (any_same p q same xs)

or_none : (x : Bool) → (x || false) ≡ x
or_none true = refl
or_none false = refl

or_next : (x y z : Bool) → (x || (y || z)) ≡ ((x || y) || z)
or_next true y z = refl
or_next false y z = refl

-- the last of the numbers is tested last
any_last : (p : ℕ → Bool) (a m : ℕ) →
    list_any p (range_with_len a (suc m)) ≡ (list_any p (range_with_len a m) || p (a + m))
any_last p a zero = or_none (p a) ∙ ap p (omega arith)
any_last p a (suc m) =
    let at : p ((a + 1) + m) ≡ p (a + suc m) = ap p (omega arith) in
    ap (λ b. p a || b) (any_last p (a + 1) m)
    ∙ or_next (p a) (list_any p (range_with_len (a + 1) m)) (p ((a + 1) + m))
    ∙ ap (λ b. (p a || list_any p (range_with_len (a + 1) m)) || b) at

any_next : (p : ℕ → Bool) (n : ℕ) →
    list_any p (range_with_len 0 (n + 1)) ≡ (list_any p (range_with_len 0 n) || p n)
any_next p n =
    let count : n + 1 ≡ suc n = omega arith in
    let last : 0 + n ≡ n = omega arith in
    ap (λ k. list_any p (range_with_len 0 k)) count ∙ any_last p 0 n
    ∙ ap (λ k. list_any p (range_with_len 0 n) || p k) last

any_none : (p : ℕ → Bool) (a m : ℕ) → ((k : ℕ) → a ≤ k → k < a + m → p k ≡ false) →
    list_any p (range_with_len a m) ≡ false
any_none p a zero none = refl
any_none p a (suc m) none = ap₂ (λ x y. x || y) (none a (omega arith) (omega arith))
    (any_none p (a + 1) m (λ k from low. none k (omega (arith, from)) (omega (arith, low))))

-- only number i may pass
any_one : (p : ℕ → Bool) (i a m : ℕ) → a ≤ i → i < a + m → ((k : ℕ) → (k ≡ i → ⊥) → p k ≡ false) →
    list_any p (range_with_len a m) ≡ p i
any_one p i a zero from low others = absurd (omega (arith, from, low))
any_one p i a (suc m) from low others = elim (cases_eq a i) [
  | inl same ↦ ap₂ (λ x y. x || y) (ap p same) (any_none p (a + 1) m
      (λ k above under. others k (λ e. absurd (omega (arith, e, same, above))))) ∙ or_none (p i)
  | inr other ↦ ap₂ (λ x y. x || y) (others a other) (any_one p i (a + 1) m (above from other)
      (omega (arith, low)) others)
]
  where
    above : {b : ℕ} → b ≤ i → (b ≡ i → ⊥) → b + 1 ≤ i
    above {b} le ne = elim (cases_lt b i) [
      | inl less ↦ omega (arith, less)
      | inr more ↦ absurd (ne (omega (arith, le, more)))
    ]

-- ---- the identifiers that are present

-- no identifier past the last station is present
none_past : (present : ℕ → Bool) (n a m : ℕ) → n < a → ((k : ℕ) → n < k → present k ≡ false) →
    filter present (range_with_len a m) ≡ []
none_past present n a zero past none = refl
none_past present n a (suc m) past none =
    ap (λ b. cond b (a ∷ filter present (range_with_len (a + 1) m))
    (filter present (range_with_len (a + 1) m))) (none a past)
    ∙ none_past present n (a + 1) m (omega (arith, past)) none

module _ (present traffic : ℕ → Bool) (n : ℕ) (within : (s : ℕ) → s < n → present (s + 1) ≡ traffic s)
    (past : (k : ℕ) → n < k → present k ≡ false) where
  -- j stations from i on are left, then m more identifiers
  from_station : (j i m : ℕ) → i + j ≡ n → filter present (range_with_len (i + 1) (j + m))
      ≡ map (λ s. s + 1) (filter traffic (count_from i j))
  from_station zero i m is = none_past present n (i + 1) (zero + m) (omega (arith, is)) past
  from_station (suc j) i m is =
      let count : suc j + m ≡ suc (j + m) = omega arith in
      let next : (i + 1) + 1 ≡ suc i + 1 = omega arith in
      let later : filter present (range_with_len ((i + 1) + 1) (j + m))
      ≡ map (λ s. s + 1) (filter traffic (count_from (suc i) j)) =
      ap (λ a. filter present (range_with_len a (j + m))) next
      ∙ from_station j (suc i) m (omega (arith, is)) in
      ap (λ k. filter present (range_with_len (i + 1) k)) count
      ∙ ap (λ b. cond b ((i + 1) ∷ filter present (range_with_len ((i + 1) + 1) (j + m)))
      (filter present (range_with_len ((i + 1) + 1) (j + m)))) (within i (omega (arith, is)))
      ∙ ap (λ l. cond (traffic i) ((i + 1) ∷ l) l) later
      ∙ either (traffic i)
    where
      either : (b : Bool) → cond b ((i + 1) ∷ map (λ s. s + 1) (filter traffic (count_from (suc i) j)))
          (map (λ s. s + 1) (filter traffic (count_from (suc i) j)))
          ≡ map (λ s. s + 1) (cond b (i ∷ filter traffic (count_from (suc i) j))
          (filter traffic (count_from (suc i) j)))
      either true = refl
      either false = refl

  -- 0 belongs to no station
  from_none : (count : ℕ) → n < count → present 0 ≡ false →
      filter present (range_with_len 0 count) ≡ map (λ s. s + 1) (filter traffic (upto n))
  from_none zero low none = absurd (omega (arith, low))
  from_none (suc c) low none =
      let rest : c ≡ n + (c - n) = omega (arith, low) in
      ap (λ b. cond b (0 ∷ filter present (range_with_len (0 + 1) c))
      (filter present (range_with_len (0 + 1) c))) none
      ∙ ap (λ k. filter present (range_with_len (0 + 1) k)) rest
      ∙ from_station n 0 (c - n) (omega arith)

-- the identifiers of the entries are those that are shown
present_are : (present : List Bool) (a : Addresses) (shown : ℕ → Bool) (n : ℕ) →
    ArePresent present a shown n →
    aids_of present ≡ filter (is_aid_shown a shown n) (range_with_len 0 identifiers)
present_are present a shown n h =
    ap (λ k. filter (λ m. get_or present m false) (range_with_len 0 k)) h.all
    ∙ filters_same (λ m. get_or present m false) (is_aid_shown a shown n) 0 identifiers
    (λ k low. h.each k (omega (arith, low)))

-- ---- station by station

pub none_present : (a : Addresses) (shown : ℕ → Bool) → ArePresent (replicate 2008 false) a shown 0
none_present a shown = record {
  all = length-replicate 2008 false;
  none = get_or-replicate 2008 0 false false (omega arith);
  each = λ n low. get_or-replicate 2008 n false false low;
}

-- one more station, for which `shown` is false
pub one_less : (present : List Bool) (a : Addresses) (shown : ℕ → Bool) (i : ℕ) → shown i ≡ false →
    ArePresent present a shown i → ArePresent present a shown (i + 1)
one_less present a shown i off h = record {
  all = h.all;
  none = h.none;
  each = λ n low. h.each n low ∙ sym (any_next (λ s. shown s && aid_in a s == n) i
      ∙ ap (λ b. is_aid_shown a shown i n || b) (and_left (shown i) (aid_in a i == n) off)
      ∙ or_none (is_aid_shown a shown i n));
}

-- one more station, for which `shown` is true
pub one_more : (present : List Bool) (a : Addresses) (shown : ℕ → Bool) (i aid : ℕ) → aid ≡ aid_in a i →
    IsAid aid → shown i ≡ true → ArePresent present a shown i →
    ArePresent (set present aid true) a shown (i + 1)
one_more present a shown i aid is range on h = record {
  all = length-set present aid true ∙ h.all;
  none = get_or-set_other present aid 0 true false (λ e. absurd (omega (arith, e, range.0))) ∙ h.none;
  each = λ n low. elim (cases_eq n aid) [
    | inl same ↦ get_or-set_at present aid n true false same (omega (arith, range.1, h.all))
        ∙ sym (next n ∙ or_right (is_aid_shown a shown i n) (aid_in a i == n)
        (eq-eqb (aid_in a i) n (sym is ∙ sym same)))
    | inr other ↦ get_or-set_other present aid n true false other ∙ h.each n low
        ∙ sym (next n ∙ ap (λ b. is_aid_shown a shown i n || b)
        (ne_eqb (aid_in a i) n (λ e. other (sym e ∙ sym is))) ∙ or_none (is_aid_shown a shown i n))
  ];
}
  where
    next : (n : ℕ) → is_aid_shown a shown (i + 1) n ≡ (is_aid_shown a shown i n || (aid_in a i == n))
    next n = any_next (λ s. shown s && aid_in a s == n) i
        ∙ ap (λ b. is_aid_shown a shown i n || (b && aid_in a i == n)) on

-- ---- the stations that have traffic

-- a filter of a filter is the filter by both tests
pub filter_both : (p q both : ℕ → Bool) → ((x : ℕ) → both x ≡ (p x && q x)) → (xs : List ℕ) →
    filter q (filter p xs) ≡ filter both xs
filter_both p q both is [] = refl
filter_both p q both is (x ∷ xs) = either (p x) refl (filter_both p q both is xs)
  where
    either : (b : Bool) → p x ≡ b → filter q (filter p xs) ≡ filter both xs →
        filter q (cond b (x ∷ filter p xs) (filter p xs))
        ≡ cond (both x) (x ∷ filter both xs) (filter both xs)
    either true e rest =
        ap (λ l. cond (q x) (x ∷ l) l) rest ∙ ap (λ b. cond b (x ∷ filter both xs) (filter both xs))
        (sym (is x ∙ ap (λ b. b && q x) e))
    either false e rest = rest ∙ ap (λ b. cond b (x ∷ filter both xs) (filter both xs))
        (sym (is x ∙ ap (λ b. b && q x) e))

-- the BSS of a station that is not live is 0
no_bss : (o : Option Station) → is_some o ≡ false → (unwrap_or o no_station).bss ≡ 0
no_bss None off = refl
no_bss (Some x) off = absurd (cc off)

module _ (v : TransmitValue) (w : World) (bodies : ℕ → FrameValue) (h : StandsFor v w bodies) where
  traffic_same : (s : ℕ) → has_traffic_of v s ≡ has_traffic w s
  traffic_same s = elim (cases_Bool (is_live w s)) [
    | inl live ↦ ap₂ (λ a b. a && b) (live_same v w bodies s h.parts)
        (ap₂ (λ a b. a && b) (ap (λ (y : Sleeper). y.asleep) (h.parts.others.stations.rests s live))
        (more_same v w bodies s h.parts live))
    | inr off ↦
        ap (λ b. b && ((sleeper v.sleepers s).asleep && has_more_of v s))
        (live_same v w bodies s h.parts ∙ off)
        ∙ ap (λ b. b && ((station w s).asleep && has_more w s)) (sym off)
  ]

  stations_are : v.config.stations ≡ w.config.stations
  stations_are = ap (λ (k : Config). k.stations) h.parts.others.config

  bss_same : (s : ℕ) → bss_of v s ≡ (station w s).bss
  bss_same s = elim (cases_Bool (is_live w s)) [
    | inl live ↦ ap (λ b. cond b (sleeper v.sleepers s).bss 0) (live_same v w bodies s h.parts ∙ live)
        ∙ ap (λ (y : Sleeper). y.bss) (h.parts.others.stations.rests s live)
    | inr off ↦ ap (λ b. cond b (sleeper v.sleepers s).bss 0) (live_same v w bodies s h.parts ∙ off)
        ∙ sym (no_bss (at None w.stations s) off)
  ]

  awaited_same : (b s : ℕ) → is_awaited_of v b s ≡ is_awaited_in w b s
  awaited_same b s = ap₂ (λ x n. x && (n == b)) (traffic_same s) (bss_same s)

  -- the identifiers that are present are those that the element of the world shows
  pub shown_are : (present : List Bool) (a : Addresses) (b : ℕ) →
      ArePresent present a (is_awaited_of v b) v.config.stations → aids_of present ≡ aids_shown a b w
  shown_are present a b are =
      present_are present a (is_awaited_of v b) v.config.stations are
      ∙ ap (λ n. filter (is_aid_shown a (is_awaited_of v b) n) (range_with_len 0 identifiers)) stations_are
      ∙ filters_same (is_aid_shown a (is_awaited_of v b) w.config.stations)
      (is_aid_shown a (is_awaited_in w b) w.config.stations) 0 identifiers
      (λ k low. any_same (λ s. is_awaited_of v b s && aid_in a s == k)
      (λ s. is_awaited_in w b s && aid_in a s == k)
      (λ s. ap (λ t. t && aid_in a s == k) (awaited_same b s))
      (range_with_len 0 w.config.stations))

-- ---- the identifiers of a new path

module _ (a : Addresses) (made : a.aids ≡ made_up_aids) (shown : ℕ → Bool) (n : ℕ) where
  -- number k + 1 belongs to station k alone
  within : (s : ℕ) → s < n → is_aid_shown a shown n (s + 1) ≡ shown s
  within s low =
      any_one (λ i. shown i && aid_in a i == s + 1) s 0 n (omega arith) (omega (arith, low))
      (λ k other. and_right (shown k) (aid_in a k == s + 1) (ne_eqb (aid_in a k) (s + 1)
      (λ e. other (omega (arith, e, made_up_aid a made k)))))
      ∙ ap (λ b. shown s && b) (eq-eqb (aid_in a s) (s + 1) (made_up_aid a made s)) ∙ and_all (shown s)
    where
      and_all : (b : Bool) → (b && true) ≡ b
      and_all true = refl
      and_all false = refl

  past : (k : ℕ) → n < k → is_aid_shown a shown n k ≡ false
  past k above = any_none (λ i. shown i && aid_in a i == k) 0 n (λ i from low. and_right (shown i)
      (aid_in a i == k) (ne_eqb (aid_in a i) k (λ e. absurd (omega (
        arith,
        e,
        made_up_aid a made i,
        above,
        low,
      )))))

  none : is_aid_shown a shown n 0 ≡ false
  none = any_none (λ i. shown i && aid_in a i == 0) 0 n (λ i from low. and_right (shown i)
      (aid_in a i == 0) (ne_eqb (aid_in a i) 0 (λ e. absurd (omega (arith, e, made_up_aid a made i)))))

  shown_alone : n ≤ 256 →
      filter (is_aid_shown a shown n) (range_with_len 0 identifiers)
      ≡ map (λ s. s + 1) (filter shown (upto n))
  shown_alone few = from_none (is_aid_shown a shown n) shown n within past identifiers (omega (arith, few))
      none

-- with them the element shows those of a run
pub made_up_shown : (w : World) (a : Addresses) → a.aids ≡ made_up_aids → w.config.stations ≤ 256 → (b : ℕ) →
    aids_shown a b w ≡ with_traffic w b
made_up_shown w a made few b =
    shown_alone a made (is_awaited_in w b) w.config.stations few
    ∙ sym (ap (map (λ s. s + 1)) (filter_both (is_live w) (is_awaited w b) (is_awaited_in w b)
    (λ s. moved (is_live w s) (station w s).asleep (has_more w s) ((station w s).bss == b))
    (upto w.config.stations)))
  where
    -- the test of the BSS goes before that of the traffic
    moved : (live asleep more own : Bool) →
        ((live && (asleep && more)) && own) ≡ (live && (asleep && (own && more)))
    moved false asleep more own = refl
    moved true false more own = refl
    moved true true true true = refl
    moved true true true false = refl
    moved true true false true = refl
    moved true true false false = refl
