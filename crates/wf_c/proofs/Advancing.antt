-- Proves what a move of the clock leaves of a handle. By cases of its result.
use Rattle.std.proofs.Common.{◌≡◌, refl, ap, ◌∙◌, ℕ, ◌<◌, ◌≤◌, ◌^◌, arith, Bool, true, false, ◌||◌, Some, None, if◌then◌else◌}
use Rattle.std.specs.Prelude.{nat_lt, nat_le}
use Rattle.std.proofs.lemmas.Bool.Decides.{nat_tests}
use Rattle.wf_frame.specs.Frames.{FrameValue}
use Rattle.wf_frame.specs.declared.answers.Brief.TheVariants.{Now, Refused}
use Rattle.wf_frame.specs.declared.notes.Refusal.{Refusal}
use Rattle.wf_frame.specs.declared.notes.Refusal.TheVariants.{BadTick}
use Rattle.wf_def_world.specs.World.{World}
use Rattle.wf_send_half.specs.Clock.{at_time, time_fault}
use Rattle.wf_send_half_model.specs.Standing.{StandsFor}
use Rattle.wf_path.specs.Paths.{PathValue, IsPath}
use Rattle.wf_c.specs.Clock.{IsAdvanced}
use Rattle.wf_c.specs.Numbers.{numbers_of}
use Rattle.wf_c.specs.declared.held.Held.{Held}
use Rattle.wf_c.specs.declared.reply.Reply.{Reply}

-- whether a time is refused
abbrev is_refused : ℕ → ℕ → Bool
is_refused clock now = nat_lt now clock || nat_le (2 ^ 61) now

fault_by : (b : Bool) (r : Refusal) → Some r ≡ (if b then Some BadTick else None) → (r ≡ BadTick) × (b ≡ true)
fault_by true r e = (cc e, refl)
fault_by false r e = absurd (cc e)

no_fault : (b : Bool) (r : Refusal) → None ≡ (if b then Some r else None) → b ≡ false
no_fault true r e = absurd (cc e)
no_fault false r e = refl

when_earlier : (clock now : ℕ) → is_refused clock now ≡ false → clock ≤ now
when_earlier clock now e = grind (arith, nat_tests, e)

when_large : (clock now : ℕ) → is_refused clock now ≡ false → now < 2 ^ 61
when_large clock now e = grind (arith, nat_tests, e)

when_between : (clock now : ℕ) → is_refused clock now ≡ true → clock ≤ now → now < 2 ^ 61 → ⊥
when_between clock now e later low = grind (arith, nat_tests, e, later, low)

-- h is the handle before, and q its path after the move
module _ (h : Held) (q : PathValue) (now : ℕ) (shown : Reply) (addresses : q.addresses ≡ h.path.addresses)
    (path : IsPath q.half) where
  abbrev clock : ℕ
  clock = h.path.half.clock

  abbrev after : Held
  after = record h { path = q }

  pub advanced : (t : ℕ) → None ≡ time_fault clock now → t ≡ now →
      ((w : World) (bodies : ℕ → FrameValue) → StandsFor h.path.half w bodies →
      StandsFor q.half (at_time w now) bodies) → shown ≡ numbers_of (Now t) → IsAdvanced h now after shown
  advanced t fault is stands shows =
      let passes : is_refused clock now ≡ false = no_fault (is_refused clock now) BadTick fault in
      record {
        moved = λ later low. record {
          stands = stands;
          addresses = addresses;
          reserve = omega arith;
          path = path;
          shows = shows ∙ ap (λ (n : ℕ). numbers_of (Now n)) is;
        };
        earlier = λ before.
            absurd (let after_it = when_earlier clock now passes in omega (arith, before, after_it));
        large = λ past. absurd (let low = when_large clock now passes in omega (arith, past, low));
      }

  pub refused : (r : Refusal) → Some r ≡ time_fault clock now → q ≡ h.path → shown ≡ numbers_of (Refused r) →
      IsAdvanced h now after shown
  refused r fault same shows =
      let why = fault_by (is_refused clock now) r fault in
      let kept : after ≡ h = ap (λ (z : PathValue). record h { path = z }) same in
      let shows_it : shown ≡ numbers_of (Refused BadTick) =
      shows ∙ ap (λ (z : Refusal). numbers_of (Refused z)) why.0 in
      record {
        moved = λ later low. absurd (when_between clock now why.1 later low);
        earlier = λ before. (kept, shows_it);
        large = λ past. (kept, shows_it);
      }
