-- Proves the waiting law and the sparse law: no station starves, and a ready station on the new list with
-- airtime left is next.
use Rattle.std.proofs.Common.{◌≡◌, subst, arith, ℕ, ◌+◌, ◌-◌, ◌*◌, ◌<◌, ◌≤◌, ℤ, pos, ◌+ℤ◌, ◌≤ℤ◌, true, false, List, take, drop, map, Option, Some, None, is_some, IfSome, unwrap_or, option_map, inl, inr}
use Rattle.std.proofs.lemmas.Int.{ints}
use Rattle.wf_frame.specs.declared.settings.Config.{Config}
use Rattle.wf_frame.specs.declared.classes.Class.{Class}
use Rattle.wf_frame.specs.Settings.{IsInRange}
use Rattle.wf_frame.specs.Classes.{class_number}
use Rattle.wf_def_lists.specs.Table.{at}
use Rattle.wf_def_rotation.specs.Rotation.{keys_before}
use Rattle.wf_def_world.specs.World.{World, Station, no_share, no_station, share, rotation, quantum, is_live, standing}
use Rattle.wf_def_world.specs.CanSend.{is_ready}
use Rattle.wf_def_world.specs.Exchanges.{station_need}
use Rattle.wf_def_world.specs.Run.{Entry}
use Rattle.wf_def_world.specs.Stretches.{world_at, charged_between}
use Rattle.wf_law_runs.specs.Deficits.{most_owed, got_between}
use Rattle.wf_law_runs.specs.Shares.{received_between, deficit_then, quantum_then, IsShared}
use Rattle.wf_law_runs.specs.Waiting.{below_one, WaitingLaw, SparseLaw}
use Rattle.wf_law_rules.proofs.Lemmas.Counts.{has-on, on-has}
use Rattle.wf_law_runs.proofs.Deficits.Books.{account, core, books}
use Rattle.wf_law_runs.proofs.Deficits.Kept.{IsGood, at_stake, at_stake_most}
use Rattle.wf_law_runs.proofs.Deficits.Ready.{orderly}
use Rattle.wf_law_runs.proofs.Shares.Stretch.{Fits, marks_live, IsHeld, IsGround, quantum_positive}
use Rattle.wf_law_runs.proofs.Shares.Law.{shared}
use Rattle.wf_law_runs.proofs.Shares.Moments.{ground_at, after_moment, held_between, even}
use Rattle.wf_law_runs.proofs.Shares.Rounds.{rounds_most, below_is, Covers, none_most}
use Rattle.wf_law_runs.proofs.Spent.Law.{spent_bounds}
use Rattle.wf_law_runs.proofs.Spent.Awaited.{awaited}
use Rattle.wf_law_runs.proofs.Shares.Grants.{IsGranted, granted_run, stake_run}
use Rattle.wf_law_runs.proofs.Shares.Sends.{sent_winner, picked_first, need_none}
use Rattle.wf_law_runs.proofs.Shares.Covers.{covers_later}

-- ---- the sparse law

pub sparse_law : (config : Config) (h : List Entry) → SparseLaw config h
sparse_law config h m s v c l new is above sent =
    let w : World = world_at config h m in
    elim (picked_first (station_need w c) (is_ready w c) (rotation w c) s v (has-on _ _ new) is
    (need_none (quantum w s) (standing w s c) above) (sent_winner w c l v sent)) [
      | inl e ↦ inl e
      | inr front ↦ inr (on-has (keys_before s (rotation w c).new) v front)
    ]

-- ---- the waiting law

waited_number : (u n r k m : ℕ) (d : ℤ) → 0 < u → Covers u n r k d → k ≤ m →
    u * n + 1 ≤ m + below_one d + r + u
waited_number u n r k m d some (inl e) l = none_most u n (m + below_one d + r) e some
waited_number u n r k m d some (inr h) l = omega (arith, ints, below_is d)

quiet_number : (u n r k m : ℕ) (d : ℤ) → 0 < u → Covers u n r k d → r ≡ 0 → pos (1 + k) ≤ℤ (d +ℤ pos m) →
    u * n + 1 ≤ m + u
quiet_number u n r k m d some (inl e) z b = none_most u n m e some
quiet_number u n r k m d some (inr h) z b = omega (arith, ints)

debtor_number : (u n r k m debt : ℕ) (d : ℤ) → 0 < u → Covers u n r k d → pos k ≤ℤ (d +ℤ pos (debt + m)) →
    u * n + 1 ≤ m + debt + 1 + r + u
debtor_number u n r k m debt d some (inl e) b = none_most u n (m + debt + 1 + r) e some
debtor_number u n r k m debt d some (inr h) b = omega (arith, ints)

-- apart from its open exchanges a station owes at most the setting `debt`
debtor_stake : (config : Config) (w : World) (s : ℕ) (c : Class) → IsGround config w → is_live w s ≡ true →
    pos (at_stake config s c (map core w.opened)) ≤ℤ
    ((share w s c).deficit +ℤ pos (config.debt + most_owed config c))
debtor_stake config w s c g live =
    subst (λ (z : Config). pos (at_stake z s c (map core w.opened)) ≤ℤ
    ((share w s c).deficit +ℤ pos (z.debt + most_owed z c))) g.same
    (go (at None w.stations s) live (g.kept.goods s))
  where
    go : (o : Option Station) → is_some o ≡ true →
        IfSome (option_map account o) (IsGood w.config (map core w.opened) s) →
        pos (at_stake w.config s c (map core w.opened)) ≤ℤ
        ((at no_share (unwrap_or o no_station).shares (class_number c)).deficit
        +ℤ pos (w.config.debt + most_owed w.config c))
    go None is h = absurd (cc is)
    go (Some x) is h = (h.bounds c).least

-- if a station was never charged for sending, its deficit covers its open exchanges
quiet_stake : (config : Config) (w : World) (s : ℕ) (c : Class) → IsGround config w → is_live w s ≡ true →
    (share w s c).received ≡ 0 →
    pos (1 + at_stake config s c (map core w.opened)) ≤ℤ ((share w s c).deficit +ℤ pos (most_owed config c))
quiet_stake config w s c g live none =
    subst (λ (z : Config). pos (1 + at_stake z s c (map core w.opened)) ≤ℤ
    ((share w s c).deficit +ℤ pos (most_owed z c))) g.same
    (go (at None w.stations s) live none (g.kept.goods s))
  where
    go : (o : Option Station) → is_some o ≡ true →
        (at no_share (unwrap_or o no_station).shares (class_number c)).received ≡ 0 →
        IfSome (option_map account o) (IsGood w.config (map core w.opened) s) →
        pos (1 + at_stake w.config s c (map core w.opened)) ≤ℤ
        ((at no_share (unwrap_or o no_station).shares (class_number c)).deficit +ℤ pos (most_owed w.config c))
    go None is e h = absurd (cc is)
    go (Some x) is e h = (h.bounds c).quiet e

pub waiting_law : (config : Config) (h : List Entry) → IsInRange config → WaitingLaw config h
waiting_law config h range s i c a b order differs ready unsent live own other = record {
  waited = λ counting e near. awaited config h false c s i a b e range order differs fits counting near unsent
      (granted.spending counting e near);
  quanta = granted.quanta;
  charged = granted.charged;
  most = rounds_most (got_between config h s c a b) _ (quantum_then config h b s) some
      (waited_number (quantum_then config h b s) (got_between config h s c a b)
      (received_between config h s c a b) (at_stake config s c (map core (world_at config h a).opened))
      (most_owed config c) (deficit_then config h a s c) some covers stake);
  debtor = rounds_most (got_between config h s c a b) _ (quantum_then config h b s) some
      (debtor_number (quantum_then config h b s) (got_between config h s c a b)
      (received_between config h s c a b) (at_stake config s c (map core (world_at config h a).opened))
      (most_owed config c) config.debt (deficit_then config h a s c) some covers
      (debtor_stake config (world_at config h a) s c start (at_s a (omega arith) order)));
  quiet = λ none.
      let no_more : received_between config h s c a b ≡ 0 = omega (arith, between.own_received, none) in
      let before : (share (world_at config h a) s c).received ≡ 0 =
      omega (arith, between.own_received, none) in
      rounds_most (got_between config h s c a b) (most_owed config c) (quantum_then config h b s) some
      (quiet_number (quantum_then config h b s) (got_between config h s c a b)
      (received_between config h s c a b) (at_stake config s c (map core (world_at config h a).opened))
      (most_owed config c) (deficit_then config h a s c) some covers no_more
      (quiet_stake config (world_at config h a) s c start (at_s a (omega arith) order) before));
}
  where
    start : IsGround config (world_at config h a)
    start = ground_at config h a range

    fits : (m : ℕ) → a ≤ m → m ≤ b → Fits false c s i (world_at config h a) (world_at config h m)
    fits m l r = record {
      marks = ((orderly config (take m h) range).listed.all s c (ready m l r), ready m l r);
      live = live m l r;
      own = even config h s c a m (own m l r);
      other = even config h i c a m (other m l r);
    }

    at_s : (m : ℕ) → a ≤ m → m ≤ b → is_live (world_at config h m) s ≡ true
    at_s m l r = marks_live false c s (world_at config h m) (ground_at config h m range).kept
        (fits m l r).marks

    between : IsHeld config c s i (charged_between config h i c a b) (charged_between config h s c a b)
        (received_between config h s c a b) (world_at config h a) (world_at config h b)
    between = held_between config h false c s i a b range order differs fits

    granted : IsShared config h s i c a b
    granted = shared config h s i c a b range differs (at_s a (omega arith) order)
        (at_s b order (omega arith)) between
        (λ counting e near. spent_bounds config h false c s i a b e range order differs fits counting near)

    got : IsGranted config (at_stake config s c (map core (world_at config h a).opened)) c s
        (world_at config h a)
        (take (b - a) (drop a h))
    got = granted_run config false c s i (at_stake config s c (map core (world_at config h a).opened))
        (world_at config h a) differs start (drop a h) (b - a)
        (λ d l. subst (Fits false c s i (world_at config h a)) (after_moment config h a d)
        (fits (a + d) (omega arith) (omega arith)))
        (stake_run config (world_at config h a) s c (drop a h) (b - a) start unsent)

    covers : Covers (quantum_then config h b s) (got_between config h s c a b)
        (received_between config h s c a b)
        (at_stake config s c (map core (world_at config h a).opened)) (deficit_then config h a s c)
    covers = covers_later config h s c a b _ order between.own_weight got

    stake : at_stake config s c (map core (world_at config h a).opened) ≤ most_owed config c
    stake = subst (λ (z : Config). at_stake z s c (map core (world_at config h a).opened) ≤ most_owed z c)
        start.same (at_stake_most (books (world_at config h a)) start.kept s c)

    some : 0 < quantum_then config h b s
    some = quantum_positive config (world_at config h b) s (ground_at config h b range)
        (at_s b order (omega arith))
