-- Proves that two stations that stay on one class's old list are charged alike. The quanta differ by at
-- most 1 because the order of the stations changes with each quantum, and deficits are between bounds, so
-- the charges follow the quanta.
use Rattle.std.proofs.Common.{◌≡◌, refl, ap, sym, ◌∙◌, subst, arith, ℕ, zero, suc, ◌+◌, ◌*◌, ◌-◌, ◌<◌, ◌≤◌, ℤ, pos, ◌-ℤ◌, ◌≤ℤ◌, true, List, [], ◌∷◌, length, take, drop, if◌then◌else◌, ◌==◌, Option, Some, None, unwrap_or, option_map, Bool, false, ◌&&◌, not, ◌+ℤ◌}
use Rattle.std.proofs.lemmas.Int.{ints}
use Rattle.wf_frame.specs.declared.settings.Config.{Config}
use Rattle.wf_frame.specs.declared.classes.Class.{Class}
use Rattle.wf_def_lists.specs.Table.{at}
use Rattle.wf_def_world.specs.World.{owed, World, Station, Share, no_station, station, share, rotation, is_live, opening}
use Rattle.wf_def_world.specs.Step.{step}
use Rattle.wf_def_world.specs.Run.{Entry, world_after}
use Rattle.wf_def_world.specs.Stretches.{world_at, charges, charged_between, IsStretch, IsQuiet}
use Rattle.wf_frame.specs.Settings.{IsInRange}
use Rattle.wf_def_world.specs.Exchanges.{longest_computed}
use Rattle.wf_law_runs.specs.Deficits.{most_owed, got_between, IsNear, weight_at, IsFairStretch, FairnessLaw, longest_exchange, most_covered, most_uncharged, IsSteady}
use Rattle.wf_def_lists.specs.Lists.{on}
use Rattle.wf_law_rules.proofs.Lemmas.Counts.{ahead, has-on, on-append}
use Rattle.wf_law_runs.proofs.Deficits.Books.{Account, account, Books, books}
use Rattle.wf_law_runs.proofs.Deficits.Kept.{IsKept}
use Rattle.wf_law_runs.proofs.Deficits.KeptStep.{kept, kept_step, live_account}
use Rattle.wf_law_runs.proofs.Fairness.OldOrder.{acc, IsGrown, IsTurn, Both, turn_step}
use Rattle.wf_law_runs.proofs.Deficits.Configs.{config_run}
use Rattle.wf_law_runs.proofs.Deficits.Shares.{IsMoney, money_after}
use Rattle.std.proofs.lemmas.Bool.{eqb-true}
use Rattle.std.proofs.Math.Nat.{le-max_left}

-- ---- a part of a history

abbrev the_empty : List Entry
the_empty = []

take_nothing : (a d : ℕ) → take d (drop (suc a) (the_empty)) ≡ the_empty
take_nothing a zero = refl
take_nothing a (suc d) = refl

pub run_split : (a d : ℕ) (h : List Entry) (w : World) →
    world_after w (take (a + d) h) ≡ world_after (world_after w (take a h)) (take d (drop a h))
unfolding world_after
run_split zero d h w = let e : 0 + d ≡ d = omega arith in ap (λ (n : ℕ). world_after w (take n h)) e
run_split (suc a) d [] w =
    let e : suc a + d ≡ suc (a + d) = omega arith in
    ap (λ (n : ℕ). world_after w (take n [])) e ∙ sym (ap (world_after w) (take_nothing a d))
run_split (suc a) d (x ∷ h) w =
    let e : suc a + d ≡ suc (a + d) = omega arith in
    ap (λ (n : ℕ). world_after w (take n (x ∷ h))) e ∙ run_split a d h (step w x.1).world

pub take_take : (n d : ℕ) (h : List Entry) → n ≤ d → take n (take d h) ≡ take n h
take_take zero d h l = refl
take_take (suc n) zero h l = absurd (omega arith)
take_take (suc n) (suc d) [] l = refl
take_take (suc n) (suc d) (x ∷ h) l = ap (λ (t : List Entry). x ∷ t) (take_take n d h (omega arith))

length_take : (d : ℕ) (h : List Entry) → length (take d h) ≤ d
length_take zero h = omega arith
length_take (suc d) [] = omega arith
length_take (suc d) (x ∷ h) = omega (arith, length_take d h)

-- ---- sequences of turns

grown_then : (c : Class) (m n : ℕ) (a b d : Account) → IsGrown c m a b → IsGrown c n b d →
    IsGrown c (m + n) a d
grown_then c m n a b d h k = record {
  quanta = omega (arith, h.quanta, k.quanta);
  charged = omega (arith, h.charged, k.charged);
  received = omega (arith, h.received, k.received);
}

turn_then : (c : Class) (i j m n m' n' : ℕ) (a b d : Books) → IsTurn c i j m n a b → IsTurn c i j m' n' b d →
    IsTurn c i j (m + m') (n + n') a d
turn_then c i j m n m' n' a b d h k = record {
  order = omega (arith, h.order, k.order);
  first = grown_then c m m' (acc a i) (acc b i) (acc d i) h.first k.first;
  second = grown_then c n n' (acc a j) (acc b j) (acc d j) h.second k.second;
}

-- Both stations are on the old list before the first entry and after each entry.
abbrev StaysOn : Class → ℕ → ℕ → List Entry → World → Type 0
StaysOn c i j [] w = Both c i j (books w)
StaysOn c i j (e ∷ es) w = Both c i j (books w) × StaysOn c i j es (step w e.1).world

stays_now : (c : Class) (i j : ℕ) (es : List Entry) (w : World) → StaysOn c i j es w → Both c i j (books w)
stays_now c i j [] w h = h
stays_now c i j (e ∷ es) w h = h.0

turn_nothing : (c : Class) (i j : ℕ) (b : Books) → IsTurn c i j 0 0 b b
turn_nothing c i j b = record {
  order = omega arith;
  first = record { quanta = omega arith; charged = omega arith; received = omega arith };
  second = record { quanta = omega arith; charged = omega arith; received = omega arith };
}

turn_run : (es : List Entry) (w : World) (c : Class) (i j : ℕ) → IsKept (books w) → StaysOn c i j es w →
    IsTurn c i j (charges w i c es) (charges w j c es) (books w) (books (world_after w es))
unfolding world_after
turn_run [] w c i j k h = turn_nothing c i j (books w)
turn_run (e ∷ es) w c i j k h =
    turn_then c i j _ _ _ _ (books w) (books (step w e.1).world) _
    (turn_step w e.1 c i j k h.0 (stays_now c i j es _ h.1)) (turn_run es _ c i j (kept_step w e.1 k) h.1)

stays_from : (es : List Entry) (w : World) (c : Class) (i j : ℕ) →
    ((n : ℕ) → n ≤ length es → Both c i j (books (world_after w (take n es)))) → StaysOn c i j es w
unfolding world_after
stays_from [] w c i j h = h 0 (omega arith)
stays_from (e ∷ es) w c i j h = (h 0 (omega arith), stays_from es _ c i j (λ n l. h (suc n) (omega arith)))

-- ---- a stretch

stretch_both : (config : Config) (h : List Entry) (i j : ℕ) (c : Class) (a b m : ℕ) →
    IsStretch config h i j c a b → a ≤ m → m ≤ b → Both c i j (books (world_at config h m))
stretch_both config h i j c a b m s l r =
    let on_list = s.listed m l r in
    record { first = has-on _ _ on_list.0; second = has-on _ _ on_list.1 }

stretch_turn : (config : Config) (h : List Entry) (i j : ℕ) (c : Class) (a d : ℕ) → IsInRange config →
    IsStretch config h i j c a (a + d)
    → IsTurn c i j (charges (world_at config h a) i c (take d (drop a h)))
    (charges (world_at config h a) j c (take d (drop a h))) (books (world_at config h a))
    (books (world_at config h (a + d)))
stretch_turn config h i j c a d range s =
    subst (λ (w : World). IsTurn c i j (charges (world_at config h a) i c (take d (drop a h)))
    (charges (world_at config h a) j c (take d (drop a h))) (books (world_at config h a)) (books w))
    (sym (run_split a d h (opening config)))
    (turn_run (take d (drop a h)) (world_at config h a) c i j (kept config (take a h) range)
    (stays_from (take d (drop a h)) (world_at config h a) c i j each))
  where
    each : (n : ℕ) → n ≤ length (take d (drop a h)) →
        Both c i j (books (world_after (world_at config h a) (take n (take d (drop a h)))))
    each n l =
        let few : n ≤ d = omega (arith, length_take d (drop a h)) in
        let same : world_after (world_at config h a) (take n (take d (drop a h)))
        ≡ world_at config h (a + n) =
        ap (world_after (world_at config h a)) (take_take n d (drop a h) few)
        ∙ sym (run_split a n h (opening config)) in
        subst (λ (w : World). Both c i j (books w)) (sym same)
        (stretch_both config h i j c a (a + d) (a + n) s (omega arith) (omega arith))

-- ---- the bound

times_most : (k m n : ℕ) → m ≤ n → k * m ≤ k * n
times_most k m n h = grind arith

-- The quanta and the charges of a station with this quantum in the meantime.
record IsSpan (q l got charged : ℕ) : Type 0 where
  up : charged ≤ q * got + q + l
  down : q * got ≤ charged + q + l

span_number : (q qa qb n ca cb ra rb C l m : ℕ) (z z' x y : ℤ) → z' ≡ z →
    x ≡ z +ℤ pos (q * qa) -ℤ pos (ca + ra) → y ≡ z' +ℤ pos (q * qb) -ℤ pos (cb + rb) → qb ≡ qa + n →
    cb ≡ ca + C → ra ≡ 0 → rb ≡ 0 → (pos 1 -ℤ pos l) ≤ℤ x → x ≤ℤ pos (q + m) →
    (pos 1 -ℤ pos l) ≤ℤ y → y ≤ℤ pos (q + m) → IsSpan q (l + m) n C
span_number q qa qb n ca cb ra rb C l m z z' x y same e f is_q is_c none_a none_b lo hi lo' hi' =
    let whole : q * qb ≡ q * qa + q * n = ap (λ (k : ℕ). q * k) is_q ∙ omega arith in
    record { up = omega (arith, ints); down = omega (arith, ints) }

span_most : (q l m n C : ℕ) → l ≤ m → IsSpan q l n C → IsSpan q m n C
span_most q l m n C h s = record { up = omega (arith, s.up); down = omega (arith, s.down) }

-- Returns 1 less the least deficit of a station without receive charges.
abbrev lowest_quiet : Config → Class → ℕ
lowest_quiet config c =
    if (config.pending == 1) && (config.charge == 0) then longest_computed config c else most_owed config c

quiet_low : (config : Config) (c : Class) (m g : ℕ) (x : Share) → IsMoney config c m g x → x.received ≡ 0 →
    (pos 1 -ℤ pos (lowest_quiet config c)) ≤ℤ x.deficit
quiet_low config c m g x a r = go (config.pending == 1) (config.charge == 0) refl refl
  where
    go : (t v : Bool) → (config.pending == 1) ≡ t → (config.charge == 0) ≡ v →
        (pos 1 -ℤ pos (if t && v then longest_computed config c else most_owed config c)) ≤ℤ x.deficit
    go true true e f = omega (arith, ints, a.backed (eqb-true _ _ e) (eqb-true _ _ f) r)
    go true false e f = a.floor r
    go false v e f = a.floor r

-- The deficits of a quiet station are in a range of one quantum and this.
range_most : (config : Config) (c : Class) → 1 ≤ config.inflight →
    lowest_quiet config c + most_covered config c ≤ most_owed config c + most_uncharged config c
range_most config c some = go (config.pending == 1) (config.charge == 0) config.inflight
    (longest_computed config c)
    (longest_exchange config c) some (le-max_left (longest_computed config c) config.charge)
  where
    go : (t v : Bool) (k l m : ℕ) → 1 ≤ k → l ≤ m → (if t && v then l else k * m) +
        (if t then (k - 1) * l else 0) ≤ k * m + (if t && not v then (k - 1) * l else 0)
    go true true (suc k) l m one h =
        let e : suc k - 1 ≡ k = omega arith in
        let less : suc k * l ≤ suc k * m = times_most (suc k) l m h in
        rw e (omega arith)
    go true true zero l m one h = absurd (omega arith)
    go true false k l m one h = omega arith
    go false v k l m one h = omega arith

span_of : (config : Config) (c : Class) (m k g C : ℕ) (x y : Share) → 1 ≤ config.inflight →
    IsMoney config c m g x → IsMoney config c k g y → y.base ≡ x.base →
    x.quanta ≤ y.quanta → y.charged ≡ x.charged + C → x.received ≤ y.received → y.received ≡ 0
    → IsSpan (config.quantum * g) (most_owed config c + most_uncharged config c) (y.quanta - x.quanta) C
span_of config c m k g C x y some a b base more charge r quiet =
    span_most (config.quantum * g) (lowest_quiet config c + most_covered config c) _ (y.quanta - x.quanta) C
    (range_most config c some)
    (span_number (config.quantum * g) x.quanta y.quanta (y.quanta - x.quanta) x.charged y.charged x.received
    y.received C (lowest_quiet config c) (most_covered config c) x.base y.base x.deficit y.deficit base
    a.exact b.exact (omega arith) charge quiet_x quiet (quiet_low config c m g x a quiet_x) a.most
    (quiet_low config c k g y b quiet) b.most)
  where
    quiet_x : x.received ≡ 0
    quiet_x = omega arith

times_le : (a b c : ℕ) → a ≤ b → a * c ≤ b * c
times_le a b c h = grind arith

near_charges : (q g h l gi gj ci cj : ℕ) → IsSpan (q * g) l gi ci → IsSpan (q * h) l gj cj → gi ≤ gj + 1 →
    ci * h ≤ cj * g + (3 * q * g * h + (g + h) * l)
near_charges q g h l gi gj ci cj a b near =
    let up : ci * h ≤ (q * g * gi + q * g + l) * h = times_le _ _ h a.up in
    let down : q * h * gj * g ≤ (cj + q * h + l) * g = times_le _ _ g b.down in
    let step : gi * (q * g * h) ≤ (gj + 1) * (q * g * h) = times_le _ _ (q * g * h) near in
    omega arith

ahead_most : (j i : ℕ) (xs : List ℕ) → ahead j i xs ≤ on xs j * on xs i
unfolding on ahead
ahead_most j i [] = omega arith
ahead_most j i (x ∷ xs) = step (if x == j then 1 else 0) (if x == i then 1 else 0) (on xs j) (on xs i)
    (ahead j i xs) (ahead_most j i xs)
  where
    step : (p q m n a : ℕ) → a ≤ m * n → p * n + a ≤ (p + m) * (q + n)
    step p q m n a h = omega arith

ahead_one : (j i : ℕ) (xs : List ℕ) → on xs i ≤ 1 → on xs j ≤ 1 → ahead j i xs ≤ 1
ahead_one j i xs h k =
    let most : ahead j i xs ≤ on xs j * on xs i = ahead_most j i xs in
    let one : on xs j * on xs i ≤ 1 * on xs i = times_le _ _ (on xs i) k in
    omega arith

pub acc_is : (w : World) (s : ℕ) → acc (books w) s ≡ account (station w s)
acc_is w s = go (at None w.stations s)
  where
    go : (o : Option Station) → unwrap_or (option_map account o) (account no_station)
        ≡ account (unwrap_or o no_station)
    go None = refl
    go (Some x) = refl

-- A share in the books is the share of the world.
grown_share : (w v : World) (s : ℕ) (c : Class) (m : ℕ) → IsGrown c m (acc (books w) s) (acc (books v) s) →
    IsGrown c m (account (station w s)) (account (station v s))
grown_share w v s c m h = subst (IsGrown c m (account (station w s))) (acc_is v s)
    (subst (λ (a : Account). IsGrown c m a (acc (books v) s)) (acc_is w s) h)

pub on_old_live : (config : Config) (h : List Entry) (m s : ℕ) (c : Class) → IsInRange config →
    0 < on (rotation (world_at config h m) c).old s → is_live (world_at config h m) s ≡ true
on_old_live config h m s c range stands =
    let k : IsKept (books (world_at config h m)) = kept config (take m h) range in
    let r = rotation (world_at config h m) c in
    sym (live_account (at None (world_at config h m).stations s))
    ∙ k.live c s (omega (
      arith,
      on-append (rotation (world_at config h m) c).old
          (rotation (world_at config h m) c).new s,
    ))

pub config_at : (config : Config) (h : List Entry) (m : ℕ) → (world_at config h m).config ≡ config
config_at config h m = config_run (take m h) (opening config)

-- The share of a station at a moment.
pub share_at : (config : Config) (h : List Entry) (m s : ℕ) (c : Class) → IsInRange config →
    is_live (world_at config h m) s ≡ true → IsMoney config c (owed s c (world_at config h m).opened)
    (weight_at config h m s) (share (world_at config h m) s c)
share_at config h m s c range live =
    subst (λ (k : Config). IsMoney k c (owed s c (world_at config h m).opened) (weight_at config h m s)
    (share (world_at config h m) s c)) (config_at config h m)
    (money_after config (take m h) s c range live)

-- The quanta and the charges of one station of a stretch.
span_at : (config : Config) (h : List Entry) (a b s C : ℕ) (c : Class) → IsInRange config →
    is_live (world_at config h a) s ≡ true → is_live (world_at config h b) s ≡ true
    → IsSteady config h s c a b →
    IsGrown c C (account (station (world_at config h a) s)) (account (station (world_at config h b) s)) →
    IsQuiet (world_at config h b) s c
    → IsSpan (config.quantum * weight_at config h b s) (most_owed config c + most_uncharged config c)
    (got_between config h s c a b) C
span_at config h a b s C c range live_a live_b steady g quiet =
    let at_a : IsMoney config c (owed s c (world_at config h a).opened) (weight_at config h b s)
    (share (world_at config h a) s c) =
    subst (λ (n : ℕ). IsMoney config c (owed s c (world_at config h a).opened) n
    (share (world_at config h a) s c)) steady.weight (share_at config h a s c range live_a) in
    span_of config c (owed s c (world_at config h a).opened) (owed s c (world_at config h b).opened)
    (weight_at config h b s) C (share (world_at config h a) s c) (share (world_at config h b) s c)
    (omega (arith, range.inflight.0)) at_a (share_at config h b s c range live_b)
    (sym steady.base) g.quanta g.charged g.received quiet

quanta_near : (qi qj qi' qj' n n' : ℕ) → qi' + qj + n ≡ qj' + qi + n' → qi ≤ qi' → qj ≤ qj' → n ≤ 1 → n' ≤ 1 →
    IsNear 1 (qi' - qi) (qj' - qj)
quanta_near qi qj qi' qj' n n' e hi hj k k' = (omega arith, omega arith)

fair_stretch : (config : Config) (h : List Entry) (i j : ℕ) (c : Class) (a b : ℕ) → IsInRange config →
    IsStretch config h i j c a b → IsSteady config h i c a b → IsSteady config h j c a b →
    IsQuiet (world_at config h b) i c → IsQuiet (world_at config h b) j c
    → IsTurn c i j (charged_between config h i c a b) (charged_between config h j c a b)
    (books (world_at config h a)) (books (world_at config h b)) → IsFairStretch config h i j c a b
fair_stretch config h i j c a b range s steady_i steady_j quiet_i quiet_j t =
    record {
      quanta = near;
      charged = (
        near_charges config.quantum (weight_at config h b i) (weight_at config h b j)
            (most_owed config c + most_uncharged config c) _ _ _ _ span_i span_j near.0,
        (let turned : charged_between config h j c a b * weight_at config h b i
            ≤ charged_between config h i c a b * weight_at config h b j +
            (3 * config.quantum * weight_at config h b j * weight_at config h b i +
            (weight_at config h b j + weight_at config h b i) *
            (most_owed config c + most_uncharged config c)) =
            near_charges config.quantum (weight_at config h b j) (weight_at config h b i)
            (most_owed config c + most_uncharged config c) _ _ _ _ span_j span_i near.1 in
            omega arith),
      );
    }
  where
    both_a : Both c i j (books (world_at config h a))
    both_a = stretch_both config h i j c a b a s (omega arith) s.order

    both_b : Both c i j (books (world_at config h b))
    both_b = stretch_both config h i j c a b b s s.order (omega arith)

    grown_i : IsGrown c (charged_between config h i c a b) (account (station (world_at config h a) i))
        (account (station (world_at config h b) i))
    grown_i = grown_share (world_at config h a) (world_at config h b) i c
        (charged_between config h i c a b) t.first

    grown_j : IsGrown c (charged_between config h j c a b) (account (station (world_at config h a) j))
        (account (station (world_at config h b) j))
    grown_j = grown_share (world_at config h a) (world_at config h b) j c
        (charged_between config h j c a b) t.second

    span_i : IsSpan (config.quantum * weight_at config h b i) (most_owed config c + most_uncharged config c)
        (got_between config h i c a b) (charged_between config h i c a b)
    span_i = span_at config h a b i (charged_between config h i c a b) c range
        (on_old_live config h a i c range both_a.first)
        (on_old_live config h b i c range both_b.first) steady_i grown_i quiet_i

    span_j : IsSpan (config.quantum * weight_at config h b j) (most_owed config c + most_uncharged config c)
        (got_between config h j c a b) (charged_between config h j c a b)
    span_j = span_at config h a b j (charged_between config h j c a b) c range
        (on_old_live config h a j c range both_a.second)
        (on_old_live config h b j c range both_b.second) steady_j grown_j quiet_j

    kept_a : IsKept (books (world_at config h a))
    kept_a = kept config (take a h) range

    kept_b : IsKept (books (world_at config h b))
    kept_b = kept config (take b h) range

    once : (m y : ℕ) → IsKept (books (world_at config h m)) → on (rotation (world_at config h m) c).old y ≤ 1
    once m y k = omega (
      arith,
      on-append (rotation (world_at config h m) c).old
          (rotation (world_at config h m) c).new y,
      k.once c y,
    )

    order : (share (world_at config h b) i c).quanta + (share (world_at config h a) j c).quanta + ahead j i
        (rotation (world_at config h a) c).old ≡ (share (world_at config h b) j c).quanta +
        (share (world_at config h a) i c).quanta + ahead j i (rotation (world_at config h b) c).old
    order = rw (
      acc_is (world_at config h b) i,
      acc_is (world_at config h a) j,
      acc_is (world_at config h b) j,
      acc_is (world_at config h a) i,
    ) at t.order

    near : IsNear 1 (got_between config h i c a b) (got_between config h j c a b)
    near = quanta_near _ _ _ _ _ _ order grown_i.quanta grown_j.quanta
        (ahead_one j i (rotation (world_at config h a) c).old (once a i kept_a) (once a j kept_a))
        (ahead_one j i (rotation (world_at config h b) c).old (once b i kept_b) (once b j kept_b))

pub fairness : (config : Config) (h : List Entry) → IsInRange config → FairnessLaw config h
fairness config h range i j c a b s steady_i steady_j quiet_i quiet_j =
    let e : a + (b - a) ≡ b = let l : a ≤ b = s.order in omega arith in
    let s' : IsStretch config h i j c a (a + (b - a)) = subst (IsStretch config h i j c a) (sym e) s in
    fair_stretch config h i j c a b range s steady_i steady_j quiet_i quiet_j
    (subst (λ (n : ℕ). IsTurn c i j (charged_between config h i c a b) (charged_between config h j c a b)
    (books (world_at config h a)) (books (world_at config h n))) e
    (stretch_turn config h i j c a (b - a) range s'))
