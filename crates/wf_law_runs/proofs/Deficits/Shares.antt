-- Proves the deficit of a live station in a class, in every world of a run, from Accounts and Kept.
use Rattle.std.proofs.Common.{◌≡◌, refl, sym, subst, arith, ℕ, ◌+◌, ◌*◌, ◌≤◌, ℤ, pos, ◌-ℤ◌, ◌≤ℤ◌, ◌==◌, if◌then◌else◌, Bool, true, false, List, Option, Some, None, is_some, IfSome, unwrap_or, option_map, map, ◌+ℤ◌}
use Rattle.std.proofs.lemmas.Int.{ints}
use Rattle.std.proofs.Math.Nat.{le-max_left}
use Rattle.wf_frame.specs.declared.settings.Config.{Config}
use Rattle.wf_frame.specs.declared.classes.Class.{Class}
use Rattle.wf_def_lists.specs.Table.{at}
use Rattle.wf_def_world.specs.World.{owed, World, Station, Share, no_share, no_station, station, share, is_live, opening}
use Rattle.wf_frame.specs.Classes.{class_number}
use Rattle.wf_def_world.specs.Run.{Entry, world_after}
use Rattle.wf_frame.specs.Settings.{IsInRange}
use Rattle.wf_def_world.specs.Exchanges.{longest_computed}
use Rattle.wf_law_runs.specs.Deficits.{longest_exchange, most_owed, most_covered}
use Rattle.wf_law_runs.proofs.Deficits.Balance.{IsBalanced, IsFairStation, IsFair}
use Rattle.wf_law_runs.proofs.Deficits.Accounts.{accounts, below_four}
use Rattle.wf_law_runs.proofs.Deficits.Books.{plain, account, core, books}
use Rattle.wf_law_runs.proofs.Deficits.Openings.{every_map, owed-core, owed_reserved}
use Rattle.wf_law_runs.proofs.Deficits.Bounds.{counted, IsBounded}
use Rattle.wf_law_runs.proofs.Deficits.Kept.{IsOpen, at_stake, IsGood, IsKept}
use Rattle.wf_law_runs.proofs.Deficits.KeptStep.{kept}

-- Returns the standing of a share: its deficit less the part of m that counts. m is the computed charge of
-- the station's open exchanges.
abbrev pub stands_at : Config → ℕ → Share → ℤ
stands_at config m x = x.deficit -ℤ pos (counted config m)

-- The share of a station of this weight. m is the computed charge of its open exchanges.
pub record IsMoney (config : Config) (c : Class) (m weight : ℕ) (x : Share) : Type 0 where
  pub exact : x.deficit ≡ x.base +ℤ pos (config.quantum * weight * x.quanta) -ℤ pos (x.charged + x.received)
  pub most : x.deficit ≤ℤ pos (config.quantum * weight + most_covered config c)
  pub least : (pos 0 -ℤ pos (config.debt + most_owed config c)) ≤ℤ x.deficit
  pub quiet : x.received ≡ 0 → (pos 1 -ℤ pos (most_owed config c)) ≤ℤ (x.deficit -ℤ pos m)
  pub floor : x.received ≡ 0 → (pos 1 -ℤ pos (most_owed config c)) ≤ℤ x.deficit
  pub lowest : (pos 0 -ℤ pos (config.debt + most_owed config c)) ≤ℤ stands_at config m x
  pub within : config.charge ≡ 0 → stands_at config m x ≤ℤ pos (config.quantum * weight)
  pub backed : config.pending ≡ 1 → config.charge ≡ 0 → x.received ≡ 0 →
      (pos 1 -ℤ pos (longest_computed config c)) ≤ℤ stands_at config m x

counted_most : (config : Config) (n : ℕ) → counted config n ≤ n
counted_most config n = go (config.pending == 1)
  where
    go : (t : Bool) → (if t then n else 0) ≤ n
    go true = omega arith
    go false = omega arith

money_of : (config : Config) (c : Class) (m k weight : ℕ) (weighed : Bool) (x : Share) → k ≤ m →
    IsBalanced (config.quantum * weight) weighed x →
    IsBounded config c m (counted config k) weight (plain x) → IsMoney config c k weight x
money_of config c m k weight weighed x e h b = record {
  exact = h.deficit;
  most = b.most;
  least = omega (arith, ints, b.least);
  quiet = λ r. omega (arith, ints, b.quiet r);
  floor = λ r. omega (arith, ints, b.quiet r);
  lowest = omega (arith, ints, b.least, counted_most config k);
  within = b.within;
  backed = λ p e r. omega (arith, ints, b.backed p e r);
}

pub money : (w : World) (s : ℕ) (c : Class) → IsFair w → IsKept (books w) → is_live w s ≡ true →
    IsMoney w.config c (owed s c w.opened) (station w s).weight (share w s c)
money w s c f k live = go (at None w.stations s) refl live (f.each s) (k.goods s)
  where
    -- The computed charges of the open exchanges are at most their greatest charges.
    computed : owed s c w.opened ≤ at_stake w.config s c (map core w.opened)
    computed =
        let within : owed s c (map core w.opened) ≤ at_stake w.config s c (map core w.opened) =
        owed_reserved (longest_exchange w.config c) s c (map core w.opened)
        (every_map (IsOpen (books w)) (λ x. x.class ≡ c → x.charge ≤ longest_exchange w.config c)
        (λ x o e. subst (λ (d : Class). x.charge ≤ longest_exchange w.config d) e
        (omega (arith, o.charge, le-max_left (longest_computed w.config x.class) w.config.charge)))
        (map core w.opened) k.opens) in
        omega (arith, within, owed-core s c w.opened)

    go : (o : Option Station) → at None w.stations s ≡ o → is_some o ≡ true →
        IfSome o (IsFairStation w.config.quantum) →
        IfSome (option_map account o) (IsGood w.config (map core w.opened) s) →
        IsMoney w.config c (owed s c w.opened) (station w s).weight (share w s c)
    go None e is h g = absurd (cc is)
    go (Some x) e is h g =
        subst (λ (o : Option Station). IsMoney w.config c (owed s c w.opened) (unwrap_or o no_station).weight
        (at no_share (unwrap_or o no_station).shares (class_number c))) (sym e)
        (money_of w.config c (at_stake w.config s c (map core w.opened)) (owed s c w.opened) x.weight
        x.weighed
        (at no_share x.shares (class_number c)) computed (h (class_number c) (below_four c))
        (subst (λ (n : ℕ). IsBounded w.config c (at_stake w.config s c (map core w.opened))
        (counted w.config n) x.weight (plain (at no_share x.shares (class_number c))))
        (owed-core s c w.opened) (g.bounds c)))

pub money_after : (config : Config) (h : List Entry) (s : ℕ) (c : Class) → IsInRange config →
    is_live (world_after (opening config) h) s ≡ true
    → IsMoney (world_after (opening config) h).config c (owed s c (world_after (opening config) h).opened)
    (station (world_after (opening config) h) s).weight (share (world_after (opening config) h) s c)
money_after config h s c range live = money (world_after (opening config) h) s c (accounts config h)
    (kept config h range) live

-- Until its weight is set, the base of a station is its quantum.
pub own_base : (config : Config) (h : List Entry) (s : ℕ) (c : Class) →
    is_live (world_after (opening config) h) s ≡ true →
    (station (world_after (opening config) h) s).weighed ≡ false →
    (share (world_after (opening config) h) s c).base ≡ pos
    ((world_after (opening config) h).config.quantum * (station (world_after (opening config) h) s).weight)
own_base config h s c live fresh = go (at None (world_after (opening config) h).stations s) live
    ((accounts config h).each s) fresh
  where
    go : (o : Option Station) → is_some o ≡ true →
        IfSome o (IsFairStation (world_after (opening config) h).config.quantum) →
        (unwrap_or o no_station).weighed ≡ false →
        (at no_share (unwrap_or o no_station).shares (class_number c)).base
        ≡ pos ((world_after (opening config) h).config.quantum * (unwrap_or o no_station).weight)
    go None is f e = absurd (cc is)
    go (Some x) is f e = (f (class_number c) (below_four c)).own e
