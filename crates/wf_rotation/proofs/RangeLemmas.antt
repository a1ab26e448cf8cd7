-- The winner of a pick is a listed key, and no deficit rises above its quantum.
use Rattle.std.proofs.Common.{◌≡◌, ℕ, zero, suc, ◌+◌, ◌*◌, ◌/◌, ◌<◌, ◌≤◌, min, Bool, true, false, cond, List, length, Option, Some, None, sym, subst, arith}
use Rattle.std.specs.Prelude.{ℤ, pos, negsuc, ◌+ℤ◌, ◌≤ℤ◌, find, ◌==◌, ◌&&◌}
use Rattle.std.specs.List.{filter}
use Rattle.std.proofs.lemmas.Int.{ints}
use Rattle.std.proofs.Math.Nat.{mul-le-mul_right}
use Rattle.wf_def_lists.specs.Table.{has}
use Rattle.wf_def_rotation.specs.Rotation.{Rotation, has_key, in_order, need_of, round, first_least, pick_later, pick_from, pick, keys_before, all_visits}
use Rattle.wf_def_lists.specs.Lists.{on}
use Rattle.wf_rotation.specs.Lists.{AreDisjoint, lists_at}
use Rattle.wf_rotation.specs.Rotas.{Rotas, need_at, is_ready}
use Rattle.wf_rotation.specs.Scan.{IsWon}
use Rattle.wf_rotation.specs.declared.scan.Best.{Best}
use Rattle.wf_rotation.proofs.LeastLemmas.{least-stands}

chosen : (b : Bool) (m n : ℕ) → m ≤ n → cond b m 0 ≤ n
chosen true m n low = low
chosen false m n low = omega arith

between : (a b : Bool) (m n : ℕ) → m ≤ n → cond a n (cond b m 0) ≤ n
between true b m n low = omega arith
between false b m n low = chosen b m n low

-- no key gets more quanta than it needs
pub quanta_low : (need : ℕ → ℕ) (ready : ℕ → Bool) (r : Rotation) (y : ℕ) →
    (pick need ready r).quanta y ≤ need y
unfolding pick
quanta_low need ready r y = go (find (λ k. ready k && (need k == 0)) r.new)
  where
    later : (o : Option ℕ) → (pick_later need ready r o).quanta y ≤ need y
    later None = chosen (has_key r y) (need y) (need y) (omega arith)
    later (Some w) = between (y == w) (has_key r y) (min (all_visits r w (round need r w) y) (need y))
        (need y)
        (omega arith)

    go : (o : Option ℕ) → (pick_from need ready r o).quanta y ≤ need y
    go None = later (first_least (round need r) (filter ready (in_order r)))
    go (Some w) = chosen (has (keys_before w r.new) y) (min 1 (need y)) (need y) (omega arith)

pub capped : (d : ℤ) (q n : ℕ) → n ≤ need_of q d → d ≤ℤ pos q → (d +ℤ pos (n * q)) ≤ℤ pos q
capped (pos zero) q n low small =
    let most : n * q ≤ 1 * q = mul-le-mul_right q low in
    omega (arith, ints)
capped (pos (suc k)) q n low small =
    let none : n * q ≡ 0 = (let zero_times : n ≡ 0 = omega arith in rw zero_times (omega arith)) in
    rw none (omega (arith, ints))
capped (negsuc k) q n low small =
    let most : n * q ≤ (1 + k + q) / q * q = mul-le-mul_right q low in
    let whole : (1 + k + q) / q * q ≤ 1 + k + q = grind arith in
    omega (arith, ints)

module _ (v : Rotas) (ready : List Bool) (list : ℕ) (best : Best)
    (won : IsWon best (is_ready ready) (need_at v) (lists_at v.lists list)) where
  stands : 0 < on (in_order (lists_at v.lists list)) won.0.key
  stands = least-stands (is_ready ready) (round (need_at v) (lists_at v.lists list))
      (in_order (lists_at v.lists list)) won.0 won.1

  pub won_below : AreDisjoint (record { lists = v.lists; keys = length v.deficits }) →
      best.key < length v.deficits
  won_below apart = subst (λ (k : ℕ). k < length v.deficits) (sym won.2) (apart.below list won.0.key stands)
