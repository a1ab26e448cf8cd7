-- Proves that one call advances the clock by at most one tick and begins at most one exchange. By cases of
-- the call.
use Rattle.std.proofs.Common.{◌≡◌, refl, arith, ℕ, ◌+◌, ◌≤◌, nat_lt, false, Option, Some, None}
use Rattle.wf_frame.specs.declared.classes.Class.{Class}
use Rattle.wf_frame.specs.declared.notes.Ask.TheVariants.{Tick, Pull, Group}
use Rattle.wf_frame.specs.declared.notes.Limits.{Limits}
use Rattle.wf_frame.specs.declared.notes.Note.{Note}
use Rattle.wf_frame.specs.declared.notes.Note.TheVariants.{Asked}
use Rattle.wf_frame.specs.declared.notes.Refusal.{Refusal}
use Rattle.wf_frame.specs.declared.notes.Refusal.TheVariants.{Idle}
use Rattle.wf_def_lists.specs.Bounds.{greatest_tick}
use Rattle.wf_def_world.specs.World.{World}
use Rattle.wf_def_world.specs.Exchanges.{picked_station, Prepared, after_tid_turn, with_exchange_opened, with_spent}
use Rattle.wf_def_world.specs.Refusals.{refusals, refusal}
use Rattle.wf_def_world.specs.Step.{tick_outcome, send_outcome, pull_outcome_for, pull_outcome, concerned_station, outcome_of, after_refusal, judged_outcome, step}
use Rattle.wf_law_rules.proofs.Lemmas.Numbers.{lt_no}
use Rattle.wf_law_runs.proofs.Common.Fixed.{Fixed, fixed, Changes, set_station, kept_share, kept_after_pick, kept_prepared, kept_done, kept_listed}
use Rattle.wf_law_runs.proofs.Common.Refused.{after_idle}
use Rattle.wf_law_runs.proofs.Common.Limits.{with_limits}
use Rattle.wf_law_runs.proofs.Windows.Opened.{NoRow, no_row}

-- The clock is at most a, and the number of exchanges at most b.
abbrev Bounds : ℕ → ℕ → Fixed → Type 0
Bounds a b x = (x.clock ≤ a) × (x.exchanges ≤ b)

abbrev Counts : ℕ → ℕ → World → Type 0
Counts a b w = Bounds a b (fixed w)

-- ---- the step

kept_sent : (a b s t : ℕ) (c : Class) (p : Prepared) → Counts a b p.world →
    Counts a (b + 1) (send_outcome s t c p).world
unfolding send_outcome with_spent with_exchange_opened
kept_sent a b s t c p h = set_station (Bounds a (b + 1)) _ s _ (h.0, omega (arith, h.1))

more : (a b x y : ℕ) → (x ≤ a) × (y ≤ b) → (x ≤ a + greatest_tick) × (y ≤ b + 1)
more a b x y h = (omega (arith, h.0), omega (arith, h.1))

kept_pulled_by : (a b : ℕ) (o : Option ℕ) (w : World) (c : Class) → Counts a b w →
    Counts a (b + 1) (pull_outcome_for w c o).world
unfolding pull_outcome_for after_tid_turn
kept_pulled_by a b None w c h = (h.0, omega (arith, h.1))
kept_pulled_by a b (Some s) w c h =
    kept_sent a b s _ c _ (kept_prepared (Bounds a b) _ s _ (kept_share (Bounds a b) w s c _ h))

kept_pulled : (a b : ℕ) (w : World) (c : Class) (l : Limits) → Counts a b w →
    Counts (a + greatest_tick) (b + 1) (pull_outcome w c l).world
unfolding pull_outcome
kept_pulled a b w c l h =
    let k : Counts a (b + 1) (pull_outcome_for (with_limits w c l) c (picked_station w c).winner).world =
    kept_pulled_by a b (picked_station w c).winner (with_limits w c l) c
    (kept_after_pick (Bounds a b) w c h) in
    (omega (arith, k.0), k.1)

ticked : (a b by : ℕ) (w : World) → nat_lt greatest_tick by ≡ false → Counts a b w →
    Counts (a + greatest_tick) (b + 1) (tick_outcome w by).world
unfolding tick_outcome
ticked a b by w e h = (omega (arith, h.0, lt_no greatest_tick by e), omega (arith, h.1))

changes : (a b : ℕ) (note : Note) (w : World) → NoRow (refusals w note) → Counts a b w →
    Changes (Bounds (a + greatest_tick) (b + 1)) note w
changes a b (Asked (Tick by)) w e h = ticked a b by w e.0 h
changes a b (Asked (Pull c l)) w e h = kept_pulled a b w c l h
changes a b (Asked (Group ask)) w e h = more a b _ _ h
changes a b _ w e h = tt

kept_refused : (a b : ℕ) (note : Note) (r : Refusal) (w : World) → Counts a b w →
    Counts a b (after_refusal w note r)
unfolding after_refusal
kept_refused a b (Asked (Pull c l)) Idle w h =
    after_idle (Counts a b) w c h (kept_after_pick (Bounds a b) w c h)
kept_refused a b _ _ w h = h

kept_answer : (a b : ℕ) (r : Option Refusal) (w : World) (note : Note) → refusal w note ≡ r → Counts a b w →
    Counts (a + greatest_tick) (b + 1) (judged_outcome w note r).world
unfolding judged_outcome
kept_answer a b (Some r) w note e h = more a b _ _ (kept_refused a b note r w h)
kept_answer a b None w note e h =
    let most : Fixed → Type 0 = Bounds (a + greatest_tick) (b + 1) in
    kept_listed most (concerned_station w note) (outcome_of w note).world
    (kept_done most note w (changes a b note w (no_row (refusals w note) e) h) (more a b _ _ h))

-- A call advances the clock by at most the greatest tick, and begins at most one exchange.
pub counts_step : (a b : ℕ) (w : World) (note : Note) → (w.clock ≤ a) × (w.exchanges ≤ b) →
    ((step w note).world.clock ≤ a + greatest_tick) × ((step w note).world.exchanges ≤ b + 1)
unfolding step
counts_step a b w note h = kept_answer a b (refusal w note) w note refl h
