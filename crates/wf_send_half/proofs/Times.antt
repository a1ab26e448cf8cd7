-- Proves that a half at a later time represents the world at this time. By as many ticks of one microsecond
-- as are needed.
use Rattle.std.proofs.Common.{◌≡◌, refl, sym, subst, ℕ, zero, suc, ◌+◌, ◌-◌, ◌≤◌, arith, None}
use Rattle.std.specs.Prelude.{Result, Ok, Err, IfOk, IfErr, OnOk}
use Rattle.std.proofs.lemmas.Bool.{le-ltb}
use Rattle.wf_frame.specs.Frames.{FrameValue}
use Rattle.wf_frame.specs.declared.notes.Ask.TheVariants.{Tick}
use Rattle.wf_frame.specs.declared.notes.Note.TheVariants.{Asked}
use Rattle.wf_frame.specs.declared.notes.Refusal.{Refusal}
use Rattle.wf_frame.specs.declared.notes.ReplyNote.TheVariants.{Now}
use Rattle.wf_def_lists.specs.Bounds.{greatest_tick}
use Rattle.wf_def_world.specs.CanSend.{with_listings_of}
use Rattle.wf_def_world.specs.Refusals.{first_refusal, refusal}
use Rattle.wf_def_world.specs.Step.{Outcome, outcome_of, judged_outcome, step, tick_outcome}
use Rattle.wf_def_world.specs.World.{World}
use Rattle.wf_law_driver.specs.Unheard.{IsUnheard}
use Rattle.wf_send_half_model.specs.Half.{TransmitValue}
use Rattle.wf_send_half_model.specs.Standing.{StandsFor}
use Rattle.wf_send_half_model.proofs.Whole.{tick_meets}
use Rattle.wf_send_half.specs.Clock.{at_time}
use Rattle.wf_send_half.specs.Flags.{Flags, IsTracked}
use Rattle.wf_send_half.specs.Half.{HasUnheardWorld}

-- a tick that is not too long is not refused
step_tick : (w : World) (by : ℕ) → by ≤ greatest_tick →
    step w (Asked (Tick by))
    ≡ record { world = at_time w (w.clock + by); reply = Now (w.clock + by) }
unfolding step judged_outcome outcome_of first_refusal tick_outcome with_listings_of
step_tick w by short = rw (le-ltb greatest_tick by short) refl

passes : (w : World) (by : ℕ) → by ≤ greatest_tick → refusal w (Asked (Tick by)) ≡ None
unfolding first_refusal
passes w by short = rw (le-ltb greatest_tick by short) refl

-- the half at another time
abbrev half_at : TransmitValue → ℕ → TransmitValue
half_at v clock = record v { clock = clock }

module _ (v : TransmitValue) (w : World) (bodies : ℕ → FrameValue) where
  -- one tick of a microsecond
  one_later : (c : ℕ) → StandsFor (half_at v c) (at_time w c) bodies →
      StandsFor (half_at v (c + 1)) (at_time w (c + 1)) bodies
  one_later c h =
      let short : 1 ≤ greatest_tick = omega arith in
      subst (λ (o : Outcome). StandsFor (half_at v (c + 1)) o.world bodies) (step_tick (at_time w c) 1 short)
      (tick_meets (half_at v c) (at_time w c) bodies h 1 (passes (at_time w c) 1 short)).stands

  later : (n c : ℕ) → StandsFor v w bodies → w.clock + n ≡ c → StandsFor (half_at v c) (at_time w c) bodies
  later zero c h is =
      let same : w.clock ≡ c = omega (arith, is) in
      subst (λ (k : ℕ). StandsFor (half_at v k) (at_time w k) bodies) same
      (subst (λ (k : ℕ). StandsFor (half_at v k) w bodies) h.parts.others.clock h)
  later (suc n) c h is =
      let same : w.clock + n + 1 ≡ c = omega (arith, is) in
      subst (λ (k : ℕ). StandsFor (half_at v k) (at_time w k) bodies) same
      (one_later (w.clock + n) (later n (w.clock + n) h refl))

  moved_stands : (now : ℕ) → v.clock ≤ now → StandsFor v w bodies →
      StandsFor (half_at v now) (at_time w now) bodies
  moved_stands now after h =
      let reached : w.clock + (now - w.clock) ≡ now = omega (arith, after, h.parts.others.clock) in
      later (now - w.clock) now h reached

-- no receiver has more at another time
unheard_at : (w : World) (c : ℕ) → IsUnheard w → IsUnheard (at_time w c)
unheard_at w c un = record { marks = un.marks; acked = un.acked }

moved_unheard : (v : TransmitValue) (now : ℕ) → v.clock ≤ now → HasUnheardWorld v →
    HasUnheardWorld (half_at v now)
moved_unheard v now after h = record {
  world = at_time h.world now;
  bodies = h.bodies;
  stands = moved_stands v h.world h.bodies now after h.stands;
  unheard = unheard_at h.world now h.unheard;
}

-- the same stations are ready
moved_tracked : (v : TransmitValue) (r : Flags) (now : ℕ) → v.clock ≤ now → IsTracked v r →
    IsTracked (half_at v now) r
moved_tracked v r now after h = record {
  some = moved_unheard v now after h.some;
  flags = λ c. record { stations = (h.flags c).stations; tells = (h.flags c).tells };
}

-- u is v after a move of the clock, which may be refused
module _ (v u : TransmitValue) (now : ℕ) where
  pub stands_after : (o : Result ℕ Refusal) → IfOk o (λ _. v.clock ≤ now) → OnOk o (u ≡ half_at v now) →
      OnOk o ((w : World) (bodies : ℕ → FrameValue) → StandsFor v w bodies →
      StandsFor u (at_time w now) bodies)
  stands_after (Ok n) after moved = λ w bodies h.
      subst (λ (z : TransmitValue). StandsFor z (at_time w now) bodies) (sym moved)
      (moved_stands v w bodies now after h)
  stands_after (Err r) after moved = tt

  pub tracked_after : (r : Flags) (o : Result ℕ Refusal) → IfOk o (λ _. v.clock ≤ now) →
      OnOk o (u ≡ half_at v now) → IfErr o (λ _. u ≡ v) → IsTracked v r → IsTracked u r
  tracked_after r (Ok n) after moved same h =
      subst (λ (z : TransmitValue). IsTracked z r) (sym moved) (moved_tracked v r now after h)
  tracked_after r (Err e) after moved same h = subst (λ (z : TransmitValue). IsTracked z r) (sym same) h
