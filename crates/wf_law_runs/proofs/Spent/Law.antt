-- Proves the bounds on what a station spends while another keeps its place, between two moments of a run.
use Rattle.std.proofs.Common.{◌≡◌, ap, sym, ◌∙◌, subst, arith, ℕ, ◌+◌, ◌-◌, ◌*◌, ◌≤◌, ℤ, pos, ◌+ℤ◌, ◌-ℤ◌, ◌*ℤ◌, ◌≤ℤ◌, Bool, true, if◌then◌else◌, List, take, drop, eq-eqb}
use Rattle.std.proofs.lemmas.Int.{ints}
use Rattle.wf_frame.specs.declared.settings.Config.{Config}
use Rattle.wf_frame.specs.declared.classes.Class.{Class}
use Rattle.wf_frame.specs.Settings.{IsInRange}
use Rattle.wf_def_world.specs.World.{World, owed, share, standing, is_live, opening}
use Rattle.wf_def_world.specs.Run.{Entry}
use Rattle.wf_def_world.specs.Stretches.{world_at, charged_between, IsQuiet}
use Rattle.wf_def_world.specs.Exchanges.{longest_computed}
use Rattle.wf_law_runs.specs.Deficits.{got_between, weight_at}
use Rattle.wf_law_runs.specs.Shares.{received_between, quantum_then, spent_between, standing_then, AreWithin, error_of, excess, IsSpent}
use Rattle.wf_law_runs.proofs.Common.Moments.{take_parts}
use Rattle.wf_law_runs.proofs.Deficits.Books.{books}
use Rattle.wf_law_runs.proofs.Deficits.KeptStep.{kept_opening}
use Rattle.wf_law_runs.proofs.Deficits.Shares.{IsMoney}
use Rattle.wf_law_runs.proofs.Shares.Stretch.{Fits, marks_live, IsHeld, IsGround, ground_money}
use Rattle.wf_law_runs.proofs.Shares.Moments.{ground_at, after_moment, later_is, held_between}
use Rattle.wf_law_runs.proofs.Spent.Poise.{ArePoised, poised_run}
use Rattle.wf_law_runs.proofs.Spent.Draws.{draw}
use Rattle.wf_law_runs.proofs.Spent.Products.{times_plus, times_mono}
use Rattle.wf_law_runs.proofs.Spent.Stretch.{errors, draw_is, Poised, poised_station, within_append, IsDrawn, drawn_run}

-- ---- the moments

pub within_parts : (config : Config) (h : List Entry) (a b e : ℕ) → a ≤ b →
    AreWithin e (opening config) (take b h) →
    AreWithin e (opening config) (take a h) × AreWithin e (world_at config h a) (take (b - a) (drop a h))
within_parts config h a b e order near =
    let sum : a + (b - a) ≡ b = omega arith in
    within_append e (take a h) (take (b - a) (drop a h)) (opening config)
    (subst (AreWithin e (opening config))
    (sym (take_parts a (b - a) h ∙ ap (λ (n : ℕ). take n h) sum)) near)

pub poised_at : (config : Config) (h : List Entry) (m e : ℕ) → IsInRange config → config.pending ≡ 1 →
    AreWithin e (opening config) (take m h) → ArePoised e (books (world_at config h m))
poised_at config h m e range counting near = poised_run e (take m h) (opening config)
    (kept_opening config range)
    counting near (record { each = λ y. tt })

-- With the setting `pending` a standing is the deficit less the airtime in flight.
pub standing_less : (w : World) (s : ℕ) (c : Class) → w.config.pending ≡ 1 →
    standing w s c ≡ (share w s c).deficit -ℤ pos (owed s c w.opened)
standing_less w s c counting = ap (λ (t : Bool). (share w s c).deficit -ℤ pos
    (if t then owed s c w.opened else 0))
    (eq-eqb w.config.pending 1 counting)

-- ---- numbers

spent_number : (p ob oa ch chb k u y d : ℕ) → d ≡ chb + (ob + k) → chb ≡ ch + p → d + 1 ≤ ch + oa + u + y →
    (pos (p + ob) -ℤ pos oa) ≤ℤ pos (u + (y - 1))
spent_number p ob oa ch chb k u y d e f h = omega (arith, ints)

-- The airtime that s spends and is charged for frames that it sends covers its quanta, except at most one,
-- and the errors.
cover_number : (u q qa n ch chb rc rcb p r oa ob m : ℕ) (z zb d db : ℤ) → zb ≡ z →
    d ≡ z +ℤ pos (u * qa) -ℤ pos (ch + rc) → db ≡ zb +ℤ pos (u * q) -ℤ pos (chb + rcb) →
    db ≤ℤ pos (ob + u + m) → q ≡ qa + n → chb ≡ ch + p →
    rcb ≡ rc + r → (pos (u * n) +ℤ (d -ℤ pos oa)) ≤ℤ
    (((pos (p + ob) -ℤ pos oa) +ℤ pos r) +ℤ pos (u + m))
cover_number u q qa n ch chb rc rcb p r oa ob m z zb d db same e f most is_q is_ch is_rc =
    let whole : u * q ≡ u * qa + u * n = ap (λ (z : ℕ). u * z) is_q ∙ omega arith in
    omega (arith, ints)

weigh_spent : (q g h n x m r : ℕ) (i s d : ℤ) → i ≤ℤ pos (q * h * (n + 1) + x) →
    (pos (q * g * n) +ℤ d) ≤ℤ ((s +ℤ pos r) +ℤ pos (q * g + m)) →
    ((pos g *ℤ i) +ℤ (pos h *ℤ d)) ≤ℤ ((pos h *ℤ (s +ℤ pos r)) +ℤ pos (2 * q * g * h + g * x + h * m))
weigh_spent q g h n x m r i s d most covers =
    joined (pos g *ℤ i) (pos h *ℤ d) (pos h *ℤ (s +ℤ pos r)) (g * (q * h * (n + 1) + x)) (h * (q * g * n))
    (h * (q * g + m)) (2 * q * g * h + g * x + h * m) (times_mono g i (pos (q * h * (n + 1) + x)) most) both
    (omega arith)
  where
    both : (pos (h * (q * g * n)) +ℤ (pos h *ℤ d)) ≤ℤ ((pos h *ℤ (s +ℤ pos r)) +ℤ pos (h * (q * g + m)))
    both = subst (λ (z : ℤ). z ≤ℤ ((pos h *ℤ (s +ℤ pos r)) +ℤ pos (h * (q * g + m))))
        (times_plus h (pos (q * g * n)) d)
        (subst (λ (z : ℤ). (pos h *ℤ (pos (q * g * n) +ℤ d)) ≤ℤ z)
        (times_plus h (s +ℤ pos r) (pos (q * g + m)))
        (times_mono h _ _ covers))

    joined : (x y z : ℤ) (k l m n : ℕ) → x ≤ℤ pos k → (pos l +ℤ y) ≤ℤ (z +ℤ pos m) → k + m ≡ l + n →
        (x +ℤ y) ≤ℤ (z +ℤ pos n)
    joined x y z k l m n p q e = omega (arith, ints)

even_spent : (q g h n m r : ℕ) (i s d : ℤ) → 1 ≤ n → r ≡ 0 → pos 1 ≤ℤ (d +ℤ pos (n + m)) →
    ((pos g *ℤ i) +ℤ (pos h *ℤ d)) ≤ℤ
    ((pos h *ℤ (s +ℤ pos r)) +ℤ pos (2 * q * g * h + g * (n + 2 * m - 1) + h * m)) →
    (pos g *ℤ i) ≤ℤ ((pos h *ℤ s) +ℤ pos (2 * q * g * h + (g + h) * (n + 2 * m - 1)))
even_spent q g h n m r i s d some none above most =
    joined (pos g *ℤ i) (pos h *ℤ d) (pos h *ℤ s) (h * 1) (h * (n + m)) (h * r)
    (2 * q * g * h + g * (n + 2 * m - 1) + h * m) _ least most' (ap (λ (z : ℕ). h * z) none ∙ omega arith)
    (whole (n + 2 * m - 1) (omega arith))
  where
    least : pos (h * 1) ≤ℤ ((pos h *ℤ d) +ℤ pos (h * (n + m)))
    least = subst (λ (z : ℤ). pos (h * 1) ≤ℤ z) (times_plus h d (pos (n + m))) (times_mono h _ _ above)

    most' : ((pos g *ℤ i) +ℤ (pos h *ℤ d)) ≤ℤ
        (((pos h *ℤ s) +ℤ pos (h * r)) +ℤ pos (2 * q * g * h + g * (n + 2 * m - 1) + h * m))
    most' = subst (λ (z : ℤ). ((pos g *ℤ i) +ℤ (pos h *ℤ d)) ≤ℤ
        (z +ℤ pos (2 * q * g * h + g * (n + 2 * m - 1) + h * m))) (times_plus h s (pos r)) most

    whole : (x : ℕ) → n + 2 * m ≡ x + 1 → 2 * q * g * h + g * x + h * m + h * (n + m)
        ≡ 2 * q * g * h + (g + h) * x + h * 1
    whole x e =
        let times : h * (n + 2 * m) ≡ h * (x + 1) = ap (λ (z : ℕ). h * z) e in omega arith

    joined : (x y z : ℤ) (k l r m n : ℕ) → pos k ≤ℤ (y +ℤ pos l) → (x +ℤ y) ≤ℤ ((z +ℤ pos r) +ℤ pos m) →
        r ≡ 0 → m + l ≡ n + k → x ≤ℤ (z +ℤ pos n)
    joined x y z k l r m n p q e f = omega (arith, ints)

-- ---- the bounds

pub spent_bounds : (config : Config) (h : List Entry) (t : Bool) (c : Class) (s i a b e : ℕ) →
    IsInRange config →
    a ≤ b → (s ≡ i → ⊥) →
    ((m : ℕ) → a ≤ m → m ≤ b → Fits t c s i (world_at config h a) (world_at config h m)) →
    config.pending ≡ 1 →
    AreWithin e (opening config) (take b h) → IsSpent config h s i c a b e
spent_bounds config h t c s i a b e range order differs fits counting near = record {
  spent = spent;
  weighted = weighted;
  even = λ quiet. even_spent config.quantum (weight_at config h b s) (weight_at config h b i)
      (longest_computed config c) (error_of config e) (received_between config h s c a b)
      (spent_between config h i c a b) (spent_between config h s c a b) (standing_then config h a s c)
      (omega arith) (omega (arith, held.own_received, quiet)) (above quiet) weighted;
}
  where
    at_a : a ≤ b → Fits t c s i (world_at config h a) (world_at config h a)
    at_a l = fits a (omega arith) l

    start : IsGround config (world_at config h a)
    start = ground_at config h a range

    end : IsGround config (world_at config h b)
    end = ground_at config h b range

    held : IsHeld config c s i (charged_between config h i c a b) (charged_between config h s c a b)
        (received_between config h s c a b) (world_at config h a) (world_at config h b)
    held = held_between config h t c s i a b range order differs fits

    live_a : is_live (world_at config h a) s ≡ true
    live_a = marks_live t c s (world_at config h a) start.kept (at_a order).marks

    live_b : is_live (world_at config h b) s ≡ true
    live_b = marks_live t c s (world_at config h b) end.kept (fits b order (omega arith)).marks

    parts : AreWithin e (opening config) (take a h) ×
        AreWithin e (world_at config h a) (take (b - a) (drop a h))
    parts = within_parts config h a b e order near

    drawn : IsDrawn config e c s i (world_at config h a) (take (b - a) (drop a h))
    drawn = drawn_run config t c s i e (world_at config h a) differs start counting
        (poised_at config h a e range counting parts.0) (drop a h) (b - a)
        (λ d l. subst (Fits t c s i (world_at config h a)) (after_moment config h a d)
        (fits (a + d) (omega arith) (omega arith)))
        parts.1

    drawn_b : draw e i c (books (world_at config h b)) + 1
        ≤ (share (world_at config h a) i c).charged + owed i c (world_at config h a).opened +
        config.quantum * weight_at config h b i * (got_between config h s c a b + 1) +
        (longest_computed config c + 2 * error_of config e)
    drawn_b = subst (λ (g : ℕ). draw e i c (books (world_at config h b)) + 1
        ≤ (share (world_at config h a) i c).charged + owed i c (world_at config h a).opened +
        config.quantum * g * (got_between config h s c a b + 1) +
        (longest_computed config c + 2 * error_of config e)) (sym held.other_weight)
        (subst (λ (v : World). draw e i c (books v) + 1
        ≤ (share (world_at config h a) i c).charged + owed i c (world_at config h a).opened +
        config.quantum * weight_at config h a i * ((share v s c).quanta -
        (share (world_at config h a) s c).quanta + 1) + (longest_computed config c + 2 * error_of config e))
        (sym (later_is config h a b order)) drawn)

    spent : spent_between config h i c a b ≤ℤ
        pos (quantum_then config h b i * (got_between config h s c a b + 1) + excess config c e)
    spent = spent_number (charged_between config h i c a b) (owed i c (world_at config h b).opened)
        (owed i c (world_at config h a).opened) (share (world_at config h a) i c).charged
        (share (world_at config h b) i c).charged (errors e i c (world_at config h b))
        (quantum_then config h b i * (got_between config h s c a b + 1))
        (longest_computed config c + 2 * error_of config e) (draw e i c (books (world_at config h b)))
        (draw_is e (world_at config h b) i c) held.other_charged drawn_b

    money_a : IsMoney config c (owed s c (world_at config h a).opened) (weight_at config h b s)
        (share (world_at config h a) s c)
    money_a = subst (λ (g : ℕ). IsMoney config c (owed s c (world_at config h a).opened) g
        (share (world_at config h a) s c)) (sym held.own_weight)
        (ground_money config (world_at config h a) s c start live_a)

    money_b : IsMoney config c (owed s c (world_at config h b).opened) (weight_at config h b s)
        (share (world_at config h b) s c)
    money_b = ground_money config (world_at config h b) s c end live_b

    poised_b : Poised config e s c (world_at config h b)
    poised_b = poised_station config e s c (world_at config h b) end
        (poised_at config h b e range counting near)
        live_b

    stands : standing_then config h a s c
        ≡ (share (world_at config h a) s c).deficit -ℤ pos (owed s c (world_at config h a).opened)
    stands = standing_less (world_at config h a) s c (ap (λ (z : Config). z.pending) start.same ∙ counting)

    covers :
        (pos (quantum_then config h b s * got_between config h s c a b) +ℤ standing_then config h a s c) ≤ℤ
        ((spent_between config h s c a b +ℤ pos (received_between config h s c a b)) +ℤ
        pos (quantum_then config h b s + error_of config e))
    covers = subst (λ (z : ℤ). (pos (quantum_then config h b s * got_between config h s c a b) +ℤ z) ≤ℤ
        ((spent_between config h s c a b +ℤ pos (received_between config h s c a b)) +ℤ
        pos (quantum_then config h b s + error_of config e))) (sym stands)
        (cover_number (quantum_then config h b s) (share (world_at config h b) s c).quanta
        (share (world_at config h a) s c).quanta (got_between config h s c a b)
        (share (world_at config h a) s c).charged (share (world_at config h b) s c).charged
        (share (world_at config h a) s c).received (share (world_at config h b) s c).received
        (charged_between config h s c a b) (received_between config h s c a b)
        (owed s c (world_at config h a).opened) (owed s c (world_at config h b).opened) (error_of config e)
        (share (world_at config h a) s c).base (share (world_at config h b) s c).base
        (share (world_at config h a) s c).deficit (share (world_at config h b) s c).deficit held.own_base
        money_a.exact money_b.exact poised_b.most (let more = held.own_quanta in omega (arith, more))
        held.own_charged held.own_received)

    weighted : ((pos (weight_at config h b s) *ℤ spent_between config h i c a b) +ℤ
        (pos (weight_at config h b i) *ℤ standing_then config h a s c)) ≤ℤ
        ((pos (weight_at config h b i) *ℤ
        (spent_between config h s c a b +ℤ pos (received_between config h s c a b))) +ℤ
        pos (2 * config.quantum * weight_at config h b s * weight_at config h b i +
        weight_at config h b s * excess config c e + weight_at config h b i * error_of config e))
    weighted = weigh_spent config.quantum (weight_at config h b s) (weight_at config h b i)
        (got_between config h s c a b) (excess config c e) (error_of config e)
        (received_between config h s c a b)
        (spent_between config h i c a b) (spent_between config h s c a b)
        (standing_then config h a s c) spent covers

    above : IsQuiet (world_at config h b) s c →
        pos 1 ≤ℤ (standing_then config h a s c +ℤ pos (longest_computed config c + error_of config e))
    above quiet =
        let start_s : Poised config e s c (world_at config h a) =
        poised_station config e s c (world_at config h a) start
        (poised_at config h a e range counting parts.0) live_a in
        let before : (share (world_at config h a) s c).received ≡ 0 =
        omega (arith, held.own_received, quiet) in
        subst (λ (z : ℤ). pos 1 ≤ℤ (z +ℤ pos (longest_computed config c + error_of config e))) (sym stands)
        (least _ _ _ _ (start_s.floor before))
      where
        least : (d : ℤ) (o k n : ℕ) → pos (1 + o + k) ≤ℤ (d +ℤ pos n) → pos 1 ≤ℤ ((d -ℤ pos o) +ℤ pos n)
        least d o k n h = omega (arith, ints)
