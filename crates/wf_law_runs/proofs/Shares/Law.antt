-- Proves the share law: up to a constant, a station that stays on a class's old list gets as much airtime for
-- its weight as any other station.
use Rattle.std.proofs.Common.{◌≡◌, ap, sym, ◌∙◌, subst, arith, ℕ, suc, ◌+◌, ◌-◌, ◌*◌, ◌≤◌, ℤ, pos, negsuc, ◌+ℤ◌, ◌-ℤ◌, ◌*ℤ◌, ◌≤ℤ◌, true, List, map, take}
use Rattle.std.proofs.lemmas.Int.{ints}
use Rattle.wf_frame.specs.declared.settings.Config.{Config}
use Rattle.wf_frame.specs.declared.classes.Class.{Class}
use Rattle.wf_frame.specs.Settings.{IsInRange}
use Rattle.wf_def_world.specs.World.{owed, share, rotation, is_live, opening}
use Rattle.wf_def_world.specs.Run.{Entry}
use Rattle.wf_def_world.specs.Stretches.{world_at, charged_between}
use Rattle.wf_law_runs.specs.Deficits.{most_owed, got_between, weight_at}
use Rattle.wf_law_runs.specs.Shares.{received_between, used_between, deficit_then, quantum_then, overrun, IsShared, ShareLaw, AreWithin, IsSpent}
use Rattle.wf_law_rules.proofs.Lemmas.Counts.{has-on}
use Rattle.wf_law_runs.proofs.Deficits.Books.{core}
use Rattle.wf_law_runs.proofs.Deficits.Kept.{at_stake}
use Rattle.wf_law_runs.proofs.Deficits.Shares.{IsMoney}
use Rattle.wf_law_runs.proofs.Shares.Picks.{Once, lead_most}
use Rattle.wf_law_runs.proofs.Shares.Stretch.{Fits, marks_live, IsHeld, ground_money, most_off}
use Rattle.wf_law_runs.proofs.Shares.Moments.{ground_at, held_between, even}
use Rattle.wf_law_runs.proofs.Spent.Law.{spent_bounds}

-- ---- the bound

scaled : (h x y : ℕ) (d : ℤ) → (pos x +ℤ d) ≤ℤ pos y → (pos (h * x) +ℤ (pos h *ℤ d)) ≤ℤ pos (h * y)
scaled h x y (pos k) l =
    let l' : x + k ≤ y = omega (arith, ints) in
    let m : h * (x + k) ≤ h * y = times h (x + k) y l' in omega (arith, ints)
  where
    times : (h m n : ℕ) → m ≤ n → h * m ≤ h * n
    times h m n l = grind arith
scaled h x y (negsuc k) l =
    let l' : x ≤ y + suc k = omega (arith, ints) in
    let m : h * x ≤ h * (y + suc k) = times h x (y + suc k) l' in omega (arith, ints)
  where
    times : (h m n : ℕ) → m ≤ n → h * m ≤ h * n
    times h m n l = grind arith

times_right : (m n k : ℕ) → m ≤ n → m * k ≤ n * k
times_right m n k l = grind arith

weigh : (q g h n used charged v : ℕ) (d : ℤ) → charged ≤ q * h * (n + 1) + v →
    (pos (q * g * n) +ℤ d) ≤ℤ pos (used + q * g) →
    (pos (charged * g) +ℤ (pos h *ℤ d)) ≤ℤ pos (used * h + 2 * q * g * h + g * v)
weigh q g h n used charged v d most spent =
    let far : charged * g ≤ (q * h * (n + 1) + v) * g =
    times_right charged (q * h * (n + 1) + v) g most in
    let near : (pos (h * (q * g * n)) +ℤ (pos h *ℤ d)) ≤ℤ pos (h * (used + q * g)) =
    scaled h (q * g * n) (used + q * g) d spent in
    joined (pos h *ℤ d) (charged * g) ((q * h * (n + 1) + v) * g) (h * (q * g * n)) (h * (used + q * g))
    (q * g * h + g * v) _ far near (omega arith) (omega arith)
  where
    joined : (z : ℤ) (a b x y k m : ℕ) → a ≤ b → (pos x +ℤ z) ≤ℤ pos y → b ≡ x + k → y + k ≡ m →
        (pos a +ℤ z) ≤ℤ pos m
    joined z a b x y k m l h e f = omega (arith, ints)

covered_number : (u q qa n ch chb rc rcb p r : ℕ) (z zb d db : ℤ) → zb ≡ z →
    d ≡ z +ℤ pos (u * qa) -ℤ pos (ch + rc) → db ≡ zb +ℤ pos (u * q) -ℤ pos (chb + rcb) → db ≤ℤ pos u →
    q ≡ qa + n → chb ≡ ch + p → rcb ≡ rc + r → (pos (u * n) +ℤ d) ≤ℤ pos (p + r + u)
covered_number u q qa n ch chb rc rcb p r z zb d db same e f most is_q is_ch is_rc =
    let whole : u * q ≡ u * qa + u * n = ap (λ (z : ℕ). u * z) is_q ∙ omega arith in
    omega (arith, ints)

-- the airtime that s used covers its quanta, except at most one
covered_between : (config : Config) (h : List Entry) (s i : ℕ) (c : Class) (a b : ℕ) → config.pending ≡ 0 →
    IsInRange config →
    is_live (world_at config h a) s ≡ true → is_live (world_at config h b) s ≡ true →
    IsHeld config c s i (charged_between config h i c a b) (charged_between config h s c a b)
    (received_between config h s c a b) (world_at config h a) (world_at config h b) →
    (pos (quantum_then config h b s * got_between config h s c a b) +ℤ deficit_then config h a s c) ≤ℤ
    pos (used_between config h s c a b + quantum_then config h b s)
covered_between config h s i c a b off range live_a live_b k =
    covered_number (quantum_then config h b s) (share (world_at config h b) s c).quanta
    (share (world_at config h a) s c).quanta (got_between config h s c a b)
    (share (world_at config h a) s c).charged (share (world_at config h b) s c).charged
    (share (world_at config h a) s c).received (share (world_at config h b) s c).received
    (charged_between config h s c a b) (received_between config h s c a b)
    (share (world_at config h a) s c).base (share (world_at config h b) s c).base
    (deficit_then config h a s c) (deficit_then config h b s c) k.own_base money_w.exact money_b.exact
    (most_off config c (quantum_then config h b s) (deficit_then config h b s c) off money_b.most)
    (let more = k.own_quanta in omega (arith, more)) k.own_charged k.own_received
  where
    money_b : IsMoney config c (owed s c (world_at config h b).opened) (weight_at config h b s)
        (share (world_at config h b) s c)
    money_b = ground_money config (world_at config h b) s c (ground_at config h b range) live_b

    money_w : IsMoney config c (owed s c (world_at config h a).opened) (weight_at config h b s)
        (share (world_at config h a) s c)
    money_w = subst (λ (g : ℕ). IsMoney config c (owed s c (world_at config h a).opened) g
        (share (world_at config h a) s c)) (sym k.own_weight)
        (ground_money config (world_at config h a) s c (ground_at config h a range) live_a)

pub shared : (config : Config) (h : List Entry) (s i : ℕ) (c : Class) (a b : ℕ) → IsInRange config →
    (s ≡ i → ⊥) → is_live (world_at config h a) s ≡ true → is_live (world_at config h b) s ≡ true →
    IsHeld config c s i (charged_between config h i c a b) (charged_between config h s c a b)
    (received_between config h s c a b) (world_at config h a) (world_at config h b) →
    (config.pending ≡ 1 → (e : ℕ) → AreWithin e (opening config) (take b h) → IsSpent config h s i c a b e) →
    IsShared config h s i c a b
shared config h s i c a b range differs live_a live_b k spends = record {
  quanta = near _ _ _ _ _ _ k.order (lead_most s i (rotation (world_at config h b) c) once) k.own_quanta
      k.other_quanta;
  charged = charged;
  weighted = λ off. weigh config.quantum (weight_at config h b s) (weight_at config h b i)
      (got_between config h s c a b) (used_between config h s c a b) (charged_between config h i c a b)
      (overrun config c) (deficit_then config h a s c) (charged off)
      (covered_between config h s i c a b off range live_a live_b k);
  spending = spends;
}
  where
    once : Once (rotation (world_at config h b) c)
    once = (ground_at config h b range).kept.once c

    near : (qi qi0 qs qs0 la lb : ℕ) → qi + qs0 + la ≤ qs + qi0 + lb → lb ≤ 1 → qs0 ≤ qs → qi0 ≤ qi →
        qi - qi0 ≤ qs - qs0 + 1
    near qi qi0 qs qs0 la lb o l ms mi = omega arith

    within : (ch chb n res u m : ℕ) → chb ≡ ch + n → chb + res + 1 ≤ ch + u + m → n ≤ u + (m - 1)
    within ch chb n res u m e l = omega arith

    charged : config.pending ≡ 0 → charged_between config h i c a b
        ≤ quantum_then config h b i * (got_between config h s c a b + 1) + overrun config c
    charged off = subst (λ (g : ℕ). charged_between config h i c a b
        ≤ config.quantum * g * (got_between config h s c a b + 1) + overrun config c) (sym k.other_weight)
        (within (share (world_at config h a) i c).charged (share (world_at config h b) i c).charged
        (charged_between config h i c a b) (at_stake config i c (map core (world_at config h b).opened))
        (config.quantum * weight_at config h a i * (got_between config h s c a b + 1)) (most_owed config c)
        k.other_charged (k.held off))

pub share_law : (config : Config) (h : List Entry) → IsInRange config → ShareLaw config h
share_law config h range s i c a b order differs old live own other =
    shared config h s i c a b range differs (at_s a (omega arith) order) (at_s b order (omega arith))
    (held_between config h true c s i a b range order differs fits)
    (λ counting e near. spent_bounds config h true c s i a b e range order differs fits counting near)
  where
    fits : (m : ℕ) → a ≤ m → m ≤ b → Fits true c s i (world_at config h a) (world_at config h m)
    fits m l r = record {
      marks = has-on _ _ (old m l r);
      live = live m l r;
      own = even config h s c a m (own m l r);
      other = even config h i c a m (other m l r);
    }

    at_s : (m : ℕ) → a ≤ m → m ≤ b → is_live (world_at config h m) s ≡ true
    at_s m l r = marks_live true c s (world_at config h m) (ground_at config h m range).kept
        (has-on _ _ (old m l r))
