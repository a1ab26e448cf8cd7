-- Proves that a deficit stays in its bounds when quanta are given, when an exchange is charged, and when
-- received airtime is charged.
use Rattle.std.proofs.Common.{◌≡◌, arith, ℕ, zero, suc, ◌+◌, ◌*◌, ◌/◌, ◌%◌, ◌<◌, ◌≤◌, ℤ, pos, negsuc, ◌+ℤ◌, ◌-ℤ◌, ◌≤ℤ◌, ◌==◌, if◌then◌else◌, refl, Bool, true, false, int_le, inl, inr, ◌⊎◌}
use Rattle.std.proofs.lemmas.Int.{ints}
use Rattle.std.proofs.lemmas.Nat.{div-add-mod', mod_below}
use Rattle.wf_frame.specs.declared.settings.Config.{Config}
use Rattle.wf_frame.specs.declared.classes.Class.{Class}
use Rattle.wf_def_rotation.specs.Rotation.{need_of}
use Rattle.wf_def_lists.specs.Bounds.{deepest_deficit}
use Rattle.wf_def_world.specs.World.{Share}
use Rattle.wf_def_world.specs.Exchanges.{longest_computed}
use Rattle.wf_def_world.specs.Step.{lesser_of, share_with_deficit}
use Rattle.wf_law_runs.specs.Deficits.{most_owed, most_covered}
use Rattle.wf_law_runs.proofs.Deficits.BookSteps.{pay_share, charge_share, receive_share, fresh_share, lowered}

-- Returns how much of a station's airtime in flight counts against its deficit.
abbrev pub counted : Config → ℕ → ℕ
counted config airtime = if config.pending == 1 then airtime else 0

-- The bounds of a deficit. m is the greatest charge of the station's open exchanges, and n is how much of
-- their computed charge counts against the deficit.
pub record IsBounded (config : Config) (c : Class) (m n weight : ℕ) (x : Share) : Type 0 where
  pub most : x.deficit ≤ℤ pos (config.quantum * weight + most_covered config c)
  pub least : pos m ≤ℤ (x.deficit +ℤ pos (config.debt + most_owed config c))
  pub quiet : x.received ≡ 0 → pos (1 + m) ≤ℤ (x.deficit +ℤ pos (most_owed config c))
  pub within : config.charge ≡ 0 → (x.deficit -ℤ pos n) ≤ℤ pos (config.quantum * weight)
  pub backed : config.pending ≡ 1 → config.charge ≡ 0 → x.received ≡ 0 →
      pos 1 ≤ℤ ((x.deficit -ℤ pos n) +ℤ pos (longest_computed config c))

-- ---- giving quanta

grant_most : (q n m : ℕ) → m ≤ (1 + n + q) / q → m * q ≤ 1 + n + q
grant_most q n m h =
    let whole : (1 + n + q) / q * q + (1 + n + q) % q ≡ 1 + n + q = div-add-mod' (1 + n + q) q in
    let less : m * q ≤ (1 + n + q) / q * q = times h in
    omega arith
  where
    times : m ≤ (1 + n + q) / q → m * q ≤ (1 + n + q) / q * q
    times h = grind arith

grant_least : (q n : ℕ) → 0 < q → 2 + n ≤ ((1 + n + q) / q) * q
grant_least q n some =
    let whole : (1 + n + q) / q * q + (1 + n + q) % q ≡ 1 + n + q = div-add-mod' (1 + n + q) q in
    let less : (1 + n + q) % q < q = mod_below (1 + n + q) q some in
    omega arith

pub paid_most : (q n : ℕ) (d : ℤ) → d ≤ℤ pos q → n ≤ need_of q d → (d +ℤ pos (n * q)) ≤ℤ pos q
paid_most q n (pos zero) h k = go n k
  where
    go : (n : ℕ) → n ≤ 1 → (pos 0 +ℤ pos (n * q)) ≤ℤ pos q
    go zero k = omega (arith, ints)
    go (suc zero) k = omega (arith, ints)
    go (suc (suc n)) k = absurd (omega arith)
paid_most q n (pos (suc d)) h k = let e : n ≡ 0 = omega arith in rw e (omega (arith, ints))
paid_most q n (negsuc d) h k = omega (arith, ints, grant_most q d n k)

pub paid_least : (q : ℕ) (d : ℤ) → 0 < q → pos 1 ≤ℤ (d +ℤ pos (need_of q d * q))
paid_least q (pos zero) some = omega (arith, ints)
paid_least q (pos (suc d)) some = omega (arith, ints)
paid_least q (negsuc d) some = omega (arith, ints, grant_least q d some)

-- At least one quantum that is needed raises a deficit to at most one quantum.
pub paid_some : (q n : ℕ) (d : ℤ) → 1 ≤ n → n ≤ need_of q d → (d +ℤ pos (n * q)) ≤ℤ pos q
paid_some q n (pos zero) one k = paid_most q n (pos zero) (omega (arith, ints)) k
paid_some q n (pos (suc d)) one k = absurd (omega arith)
paid_some q n (negsuc d) one k = paid_most q n (negsuc d) (omega (arith, ints)) k

-- The same for a deficit against which n is counted.
paid_over : (q k n v : ℕ) (d : ℤ) → d ≤ℤ pos (q + v) → n ≤ v → k ≤ need_of q (d -ℤ pos n) →
    (d +ℤ pos (k * q)) ≤ℤ pos (q + v)
paid_over q zero n v d h l m = omega (arith, ints)
paid_over q (suc k) n v d h l m = over (suc k * q) (paid_some q (suc k) (d -ℤ pos n) (omega arith) m)
  where
    over : (g : ℕ) → ((d -ℤ pos n) +ℤ pos g) ≤ℤ pos q → (d +ℤ pos g) ≤ℤ pos (q + v)
    over g z = omega (arith, ints)

pub bounded_pay : (config : Config) (c : Class) (m n weight k : ℕ) (x : Share) →
    k ≤ need_of (config.quantum * weight) (x.deficit -ℤ pos n) → n ≤ most_covered config c →
    IsBounded config c m n weight x → IsBounded config c m n weight (pay_share (config.quantum * weight) k x)
bounded_pay config c m n weight k x h covered b = record {
  most = paid_over (config.quantum * weight) k n (most_covered config c) x.deficit b.most covered h;
  least = omega (arith, ints, b.least);
  quiet = λ r. omega (arith, ints, b.quiet r);
  within = λ e. move (k * (config.quantum * weight)) (config.quantum * weight)
      (paid_most (config.quantum * weight) k (x.deficit -ℤ pos n) (b.within e) h);
  backed = λ p e r. more (k * (config.quantum * weight)) (b.backed p e r);
}
  where
    move : (g u : ℕ) → ((x.deficit -ℤ pos n) +ℤ pos g) ≤ℤ pos u → ((x.deficit +ℤ pos g) -ℤ pos n) ≤ℤ pos u
    move g u z = omega (arith, ints)

    more : (g : ℕ) → pos 1 ≤ℤ ((x.deficit -ℤ pos n) +ℤ pos (longest_computed config c)) →
        pos 1 ≤ℤ (((x.deficit +ℤ pos g) -ℤ pos n) +ℤ pos (longest_computed config c))
    more g z = omega (arith, ints)

-- ---- charging

-- An exchange opens only if the deficit is above the airtime that is counted against it. This airtime grows
-- from n to k, by at most one exchange.
pub bounded_open : (config : Config) (c : Class) (l m n k weight : ℕ) (x : Share) →
    pos 1 ≤ℤ (x.deficit -ℤ pos n) → m ≤ most_owed config c → n ≤ k → k ≤ n + longest_computed config c →
    IsBounded config c l n weight x → IsBounded config c m k weight x
bounded_open config c l m n k weight x h most more one b = record {
  most = b.most;
  least = omega (arith, ints);
  quiet = λ r. omega (arith, ints);
  within = λ e. omega (arith, ints, b.within e);
  backed = λ p e r. omega (arith, ints);
}

-- The bounds hold for a smaller charge of open exchanges too.
pub bounded_less : (config : Config) (c : Class) (m k n weight : ℕ) (x : Share) → k ≤ m →
    IsBounded config c m n weight x → IsBounded config c k n weight x
bounded_less config c m k n weight x h b = record {
  most = b.most;
  least = omega (arith, ints, b.least);
  quiet = λ r. omega (arith, ints, b.quiet r);
  within = b.within;
  backed = b.backed;
}

-- An exchange ends: a charge that was a part of m is made. The airtime that is counted falls from n to j. If
-- no Done gives an airtime, it falls by the charge.
pub bounded_charge : (config : Config) (c : Class) (m k n j charge weight : ℕ) (x : Share) → k + charge ≤ m →
    (config.charge ≡ 0 → n ≤ j + charge) → (config.pending ≡ 1 → config.charge ≡ 0 → j + charge ≤ n) →
    IsBounded config c m n weight x → IsBounded config c k j weight (charge_share charge x)
bounded_charge config c m k n j charge weight x h over under b = record {
  most = omega (arith, ints, b.most);
  least = omega (arith, ints, b.least);
  quiet = λ r. omega (arith, ints, b.quiet r);
  within = λ e. omega (arith, ints, b.within e, over e);
  backed = λ p e r. omega (arith, ints, b.backed p e r, under p e);
}

-- A receive charge brings the deficit at most the setting `debt` below 0.
pub bounded_receive : (config : Config) (c : Class) (m n air weight : ℕ) (x : Share) →
    m ≤ most_owed config c → 0 < air → deepest_deficit config.debt ≤ℤ (x.deficit -ℤ pos air) →
    IsBounded config c m n weight x → IsBounded config c m n weight (receive_share air x)
bounded_receive config c m n air weight x h some debt b = record {
  most = omega (arith, ints, b.most);
  least = omega (arith, ints);
  quiet = λ r. absurd (omega arith);
  within = λ e. omega (arith, ints, b.within e);
  backed = λ p e r. absurd (omega arith);
}

pub bounded_fresh : (config : Config) (c : Class) (m n weight : ℕ) → 0 < config.quantum → 0 < weight →
    m ≤ most_owed config c → n ≡ 0 → IsBounded config c m n weight (fresh_share (config.quantum * weight))
bounded_fresh config c m n weight some w h none =
    let one : 1 ≤ config.quantum * weight = grind arith in
    record {
      most = omega (arith, ints);
      least = omega (arith, ints);
      quiet = λ r. omega (arith, ints);
      within = λ e. omega (arith, ints);
      backed = λ p e r. omega (arith, ints);
    }

-- ---- a weight that is set

pub at_most_cases : (n : ℕ) (d : ℤ) → ((lesser_of n d ≡ d) × (d ≤ℤ pos n)) ⊎ (lesser_of n d ≡ pos n)
at_most_cases n d = go (int_le d (pos n)) refl
  where
    go : (t : Bool) → int_le d (pos n) ≡ t →
        (((if t then d else pos n) ≡ d) × (d ≤ℤ pos n)) ⊎ ((if t then d else pos n) ≡ pos n)
    go true e = inl (refl, omega (arith, ints))
    go false e = inr refl

-- A deficit is lowered to one quantum and to r of the airtime that is counted, all of it but one exchange.
pub bounded_lowered : (config : Config) (c : Class) (m n weight g r : ℕ) (x : Share) →
    1 ≤ config.quantum * g → m ≤ most_owed config c → r ≤ most_covered config c → r ≤ n →
    n ≤ r + longest_computed config c → IsBounded config c m n weight x →
    IsBounded config c m n g (lowered (config.quantum * g) r x)
bounded_lowered config c m n weight g r x one owes covers below short b =
    go (lesser_of (config.quantum * g + r) x.deficit) (at_most_cases (config.quantum * g + r) x.deficit)
  where
    go : (d : ℤ) → ((d ≡ x.deficit) × (x.deficit ≤ℤ pos (config.quantum * g + r)))
        ⊎ (d ≡ pos (config.quantum * g + r)) →
        IsBounded config c m n g (share_with_deficit (config.quantum * g) d x)
    go d (inl (same, low)) = record {
      most = omega (arith, ints, same, low, covers);
      least = omega (arith, ints, same, b.least);
      quiet = λ z. omega (arith, ints, same, b.quiet z);
      within = λ e. omega (arith, ints, same, low, below);
      backed = λ p e z. omega (arith, ints, same, b.backed p e z);
    }
    go d (inr same) = record {
      most = omega (arith, ints, same, covers);
      least = omega (arith, ints, same, owes);
      quiet = λ z. omega (arith, ints, same, owes);
      within = λ e. omega (arith, ints, same, below);
      backed = λ p e z. omega (arith, ints, same, short);
    }
