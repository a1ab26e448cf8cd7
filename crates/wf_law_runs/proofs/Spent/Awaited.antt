-- Proves the bounds on the quanta of a station that waits, with the setting `pending`.
use Rattle.std.proofs.Common.{◌≡◌, ap, sym, ◌∙◌, subst, arith, ℕ, ◌+◌, ◌-◌, ◌*◌, ◌<◌, ◌≤◌, ℤ, pos, ◌+ℤ◌, ◌-ℤ◌, ◌≤ℤ◌, Bool, true, List, take, drop, inl, inr}
use Rattle.std.proofs.lemmas.Int.{ints}
use Rattle.wf_frame.specs.declared.settings.Config.{Config}
use Rattle.wf_frame.specs.declared.classes.Class.{Class}
use Rattle.wf_frame.specs.Settings.{IsInRange}
use Rattle.wf_def_world.specs.World.{owed, is_live, opening}
use Rattle.wf_def_world.specs.Run.{Entry, world_after}
use Rattle.wf_def_world.specs.Stretches.{world_at, charged_between, charges}
use Rattle.wf_def_world.specs.Exchanges.{longest_computed}
use Rattle.wf_law_runs.specs.Deficits.{got_between}
use Rattle.wf_law_runs.specs.Shares.{received_between, deficit_then, quantum_then, standing_then, AreWithin, error_of, IsSpent}
use Rattle.wf_law_runs.specs.Waiting.{below_one, sends_between, IsAwaited}
use Rattle.wf_law_runs.proofs.Deficits.Books.{books}
use Rattle.wf_law_runs.proofs.Shares.Stretch.{Fits, marks_live, IsHeld, IsGround, quantum_positive, held_run}
use Rattle.wf_law_runs.proofs.Shares.Moments.{ground_at, after_moment, held_between}
use Rattle.wf_law_runs.proofs.Shares.Grants.{IsGranted, granted_run, unsent_front}
use Rattle.wf_law_runs.proofs.Shares.Covers.{covers_later}
use Rattle.wf_law_runs.proofs.Shares.Rounds.{rounds_most, below_is, Covers, none_most}
use Rattle.wf_law_runs.proofs.Spent.Draws.{draw}
use Rattle.wf_law_runs.proofs.Spent.Law.{within_parts, poised_at, standing_less}
use Rattle.wf_law_runs.proofs.Spent.Stretch.{errors, errors_most, draw_is, Poised, poised_station, within_front, falling_run}

most_number : (u n r o k m : ℕ) (d : ℤ) → 0 < u → Covers u n r (o + k) d → k ≤ m →
    u * n + 1 ≤ m + below_one (d -ℤ pos o) + r + u
most_number u n r o k m d some (inl e) l = none_most u n (m + below_one (d -ℤ pos o) + r) e some
most_number u n r o k m d some (inr h) l = omega (arith, ints, below_is (d -ℤ pos o))

quiet_number : (u n r o k m l : ℕ) (d : ℤ) → 0 < u → Covers u n r (o + k) d → r ≡ 0 →
    pos (1 + o + k) ≤ℤ (d +ℤ pos (l + m)) → u * n + 1 ≤ l + m + u
quiet_number u n r o k m l d some (inl e) z b = none_most u n (l + m) e some
quiet_number u n r o k m l d some (inr h) z b = omega (arith, ints)

pub awaited : (config : Config) (h : List Entry) (t : Bool) (c : Class) (s i a b e : ℕ) → IsInRange config →
    a ≤ b → (s ≡ i → ⊥) →
    ((m : ℕ) → a ≤ m → m ≤ b → Fits t c s i (world_at config h a) (world_at config h m)) →
    config.pending ≡ 1 →
    AreWithin e (opening config) (take b h) → sends_between config h s c a b ≡ 0 →
    IsSpent config h s i c a b e →
    IsAwaited config h s i c a b e
awaited config h t c s i a b e range order differs fits counting near unsent spends = record {
  spent = spends.spent;
  most = rounds_most (got_between config h s c a b) _ (quantum_then config h b s) some
      (subst (λ (z : ℤ). quantum_then config h b s * got_between config h s c a b + 1
      ≤ error_of config e + below_one z + received_between config h s c a b + quantum_then config h b s)
      (sym stands)
      (most_number (quantum_then config h b s) (got_between config h s c a b)
      (received_between config h s c a b)
      (owed s c (world_at config h a).opened) (errors e s c (world_at config h a)) (error_of config e)
      (deficit_then config h a s c) some covers (errors_most config e s c (world_at config h a) start)));
  quiet = λ none. rounds_most (got_between config h s c a b) _ (quantum_then config h b s) some
      (quiet_number (quantum_then config h b s) (got_between config h s c a b)
      (received_between config h s c a b)
      (owed s c (world_at config h a).opened) (errors e s c (world_at config h a)) (error_of config e)
      (longest_computed config c) (deficit_then config h a s c) some covers
      (omega (arith, held.own_received, none)) (poised_a.floor (omega (arith, held.own_received, none))));
}
  where
    start : IsGround config (world_at config h a)
    start = ground_at config h a range

    held : IsHeld config c s i (charged_between config h i c a b) (charged_between config h s c a b)
        (received_between config h s c a b) (world_at config h a) (world_at config h b)
    held = held_between config h t c s i a b range order differs fits

    live_a : is_live (world_at config h a) s ≡ true
    live_a = marks_live t c s (world_at config h a) start.kept (fits a (omega arith) order).marks

    some : 0 < quantum_then config h b s
    some = quantum_positive config (world_at config h b) s (ground_at config h b range)
        (marks_live t c s (world_at config h b) (ground_at config h b range).kept
        (fits b order (omega arith)).marks)

    stands : standing_then config h a s c
        ≡ deficit_then config h a s c -ℤ pos (owed s c (world_at config h a).opened)
    stands = standing_less (world_at config h a) s c (ap (λ (z : Config). z.pending) start.same ∙ counting)

    parts : AreWithin e (opening config) (take a h) ×
        AreWithin e (world_at config h a) (take (b - a) (drop a h))
    parts = within_parts config h a b e order near

    poised_a : Poised config e s c (world_at config h a)
    poised_a = poised_station config e s c (world_at config h a) start
        (poised_at config h a e range counting parts.0) live_a

    at_d : (d : ℕ) → d ≤ b - a →
        Fits t c s i (world_at config h a) (world_after (world_at config h a) (take d (drop a h)))
    at_d d l = subst (Fits t c s i (world_at config h a)) (after_moment config h a d)
        (fits (a + d) (omega arith) (omega arith))

    -- The airtime that s is charged meanwhile, with the computed airtime of its open exchanges, is at most
    -- their computed airtime at first, and the errors.
    stake : (d : ℕ) → d ≤ b - a → charges (world_at config h a) s c (take d (drop a h)) +
        owed s c (world_after (world_at config h a) (take d (drop a h))).opened
        ≤ owed s c (world_at config h a).opened + errors e s c (world_at config h a)
    stake d l =
        let falls : draw e s c (books (world_after (world_at config h a) (take d (drop a h))))
        ≤ draw e s c (books (world_at config h a)) =
        falling_run config t c s i e (world_at config h a) differs start counting
        (poised_at config h a e range counting parts.0) (drop a h) d (λ k m. at_d k (omega arith))
        (within_front e d (b - a) (drop a h) (world_at config h a) l parts.1)
        (unsent_front d (b - a) (drop a h) (world_at config h a) s c l unsent) in
        let sums = held_run config t c s i (world_at config h a) (drop a h) differs start d
        (λ k m. at_d k (omega arith)) in
        omega (
          arith,
          falls,
          sums.own_charged,
          draw_is e (world_at config h a) s c,
          draw_is e (world_after (world_at config h a) (take d (drop a h))) s c,
        )

    got : IsGranted config (owed s c (world_at config h a).opened + errors e s c (world_at config h a)) c s
        (world_at config h a) (take (b - a) (drop a h))
    got = granted_run config t c s i
        (owed s c (world_at config h a).opened + errors e s c (world_at config h a))
        (world_at config h a) differs start (drop a h) (b - a) at_d stake

    covers : Covers (quantum_then config h b s) (got_between config h s c a b)
        (received_between config h s c a b)
        (owed s c (world_at config h a).opened + errors e s c (world_at config h a))
        (deficit_then config h a s c)
    covers = covers_later config h s c a b _ order held.own_weight got
