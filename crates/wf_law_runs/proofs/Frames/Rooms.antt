-- Proves the law of room, in every world of a run. By induction on the run.
use Rattle.std.proofs.Common.{◌≡◌, refl, sym, subst, arith, ℕ, ◌+◌, ◌≤◌, Bool, true, false, if◌then◌else◌, List, [], ◌∷◌, take, is_none, Option, Some, None}
use Rattle.wf_frame.specs.declared.settings.Config.{Config}
use Rattle.wf_frame.specs.Settings.{IsInRange}
use Rattle.wf_frame.specs.declared.notes.Ask.TheVariants.{Join, Leave, Rate, Tick, Pull, Arrive, Answer, Done, Sleep, Wake, Poll, Rx, Reap, Ampdu, Stop, Start, Unsent, GiveUp, Flush, Offload, Weight, Plain, Hold, Begin, Free, Cease, Group, Service, Bss}
use Rattle.wf_frame.specs.declared.notes.Note.{Note}
use Rattle.wf_frame.specs.declared.notes.Note.TheVariants.{Enqueue, Asked}
use Rattle.wf_frame.specs.declared.notes.Refusal.{Refusal}
use Rattle.wf_def_world.specs.World.{World, accepted_count, inside, opening}
use Rattle.wf_def_world.specs.Refusals.{refusals, refusal}
use Rattle.wf_def_world.specs.Step.{step}
use Rattle.wf_def_world.specs.Run.{Entry, world_after}
use Rattle.wf_def_world.specs.Stretches.{world_at}
use Rattle.wf_law_runs.specs.Room.{reaped_by, reaped_in, RoomLaw}
use Rattle.wf_law_rules.proofs.Lemmas.Numbers.{le_no}
use Rattle.wf_law_runs.proofs.Windows.Opened.{NoRow, no_row}
use Rattle.wf_law_runs.proofs.Deficits.Configs.{config_step, config_run}
use Rattle.wf_law_runs.proofs.Frames.Fates.{brought, fetched, Steady, steady_step, steady_first, counted_step}
use Rattle.wf_law_runs.proofs.Frames.Counted.{placed_at}

-- r is how many frames were reaped.
record Fits (r : ℕ) (w : World) : Type 0 where
  within : inside w ≤ w.config.room
  reaped : inside w + r ≡ accepted_count w

-- There is room for a frame that is accepted.
fits_note : (note : Note) (w : World) → NoRow (refusals w note) → inside w ≤ w.config.room →
    brought note + inside w ≤ w.config.room
fits_note (Enqueue s t flow len) w e h = omega (arith, h, le_no w.config.room (inside w) e.1.1.1.0)
fits_note (Asked ask) w e h = omega (arith, h)

fits_brought : (r : Option Refusal) (w : World) (note : Note) → refusal w note ≡ r →
    inside w ≤ w.config.room → (if is_none r then brought note else 0) + inside w ≤ w.config.room
fits_brought None w note e h = fits_note note w (no_row (refusals w note) e) h
fits_brought (Some r) w note e h = omega (arith, h)

nothing_if : (b : Bool) → ◌≡◌ {A = ℕ} 0 (if b then 0 else 0)
nothing_if true = refl
nothing_if false = refl

reaped_is : (note : Note) (w : World) → reaped_by w note
    ≡ (if is_none (refusal w note) then fetched note else 0)
reaped_is (Enqueue s t flow len) w = nothing_if (is_none (refusal w (Enqueue s t flow len)))
reaped_is (Asked Reap) w = refl
reaped_is (Asked (Join s window start exponent weight)) w = nothing_if _
reaped_is (Asked (Leave s)) w = nothing_if _
reaped_is (Asked (Rate s rate)) w = nothing_if _
reaped_is (Asked (Tick by)) w = nothing_if _
reaped_is (Asked (Pull c l)) w = nothing_if _
reaped_is (Asked (Arrive e i)) w = nothing_if _
reaped_is (Asked (Answer e)) w = nothing_if _
reaped_is (Asked (Done e heard air)) w = nothing_if _
reaped_is (Asked (Sleep s)) w = nothing_if _
reaped_is (Asked (Ampdu s octets)) w = nothing_if _
reaped_is (Asked (Stop s)) w = nothing_if _
reaped_is (Asked (Start s)) w = nothing_if _
reaped_is (Asked (Wake s)) w = nothing_if _
reaped_is (Asked (Poll s)) w = nothing_if _
reaped_is (Asked (Rx s c air)) w = nothing_if _
reaped_is (Asked (Unsent e i)) w = nothing_if _
reaped_is (Asked (GiveUp e i)) w = nothing_if _
reaped_is (Asked (Flush s t)) w = nothing_if _
reaped_is (Asked (Offload s exponent weight)) w = nothing_if _
reaped_is (Asked (Weight s weight)) w = nothing_if _
reaped_is (Asked (Plain s start exponent weight)) w = nothing_if _
reaped_is (Asked (Hold s t)) w = nothing_if _
reaped_is (Asked (Begin s t window)) w = nothing_if _
reaped_is (Asked (Free s t)) w = nothing_if _
reaped_is (Asked (Cease s t)) w = nothing_if _
reaped_is (Asked (Group ask)) w = nothing_if _
reaped_is (Asked (Service ask)) w = nothing_if _
reaped_is (Asked (Bss s b)) w = nothing_if _

fits_step : (l : List ℕ) (r : ℕ) (w : World) (note : Note) → Steady l w → Fits r w →
    Fits (r + reaped_by w note) (step w note).world
fits_step l r w note k f =
    let c = counted_step l w note k in
    let room : (if is_none (refusal w note) then brought note else 0) + inside w ≤ w.config.room =
    fits_brought (refusal w note) w note refl f.within in
    record {
      within = subst (λ (config : Config). inside (step w note).world ≤ config.room)
          (sym (config_step w note)) (omega (arith, c.1, room));
      reaped = omega (arith, c.0, c.1, f.reaped, reaped_is note w);
    }

fits_run : (h : List Entry) (l : List ℕ) (r : ℕ) (w : World) → Steady l w → Fits r w →
    Fits (r + reaped_in w h) (world_after w h)
unfolding world_after
fits_run [] l r w k f = record { within = f.within; reaped = omega (arith, f.reaped) }
fits_run (e ∷ es) l r w k f =
    let rest : Fits (r + reaped_by w e.1 + reaped_in (step w e.1).world es)
    (world_after (step w e.1).world es) = fits_run es _ (r + reaped_by w e.1) (step w e.1).world
    (steady_step l w e.1 k) (fits_step l r w e.1 k f) in
    record { within = rest.within; reaped = omega (arith, rest.reaped) }

fits : (config : Config) (h : List Entry) → Fits (reaped_in (opening config) h)
    (world_after (opening config) h)
fits config h =
    let f : Fits (0 + reaped_in (opening config) h) (world_after (opening config) h) =
    fits_run h [] 0 (opening config) (steady_first config)
    (record { within = omega arith; reaped = refl }) in
    record { within = f.within; reaped = omega (arith, f.reaped) }

pub room_law : (config : Config) (h : List Entry) → IsInRange config → RoomLaw config h
room_law config h range m =
    let w : World = world_at config h m in
    let f : Fits (reaped_in (opening config) (take m h)) w = fits config (take m h) in
    record {
      within = subst (λ (c : Config). inside w ≤ c.room) (config_run (take m h) (opening config)) f.within;
      placed = omega (arith, placed_at config h m range);
      reaped = f.reaped;
    }
