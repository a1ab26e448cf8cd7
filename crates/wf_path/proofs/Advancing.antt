-- Proves what a move of the clock leaves of a path. By cases of its result.
use Rattle.std.proofs.Common.{◌≡◌, refl, ap, sym, ◌∙◌, subst, ℕ, ◌<◌, ◌^◌, arith, Bool, true, false, ◌||◌, Some, None, if◌then◌else◌, leb-false}
use Rattle.std.specs.Prelude.{Result, Ok, Err, IfErr, OnOk, nat_lt, nat_le}
use Rattle.std.specs.Result.{result_err}
use Rattle.wf_frame.specs.declared.notes.Refusal.{Refusal}
use Rattle.wf_frame.specs.declared.notes.Refusal.TheVariants.{BadTick}
use Rattle.wf_send_half.specs.Clock.{time_fault}
use Rattle.wf_send_half_model.specs.Half.{TransmitValue}
use Rattle.wf_path.specs.Addresses.{Addresses}
use Rattle.wf_path.specs.Paths.{PathValue, IsSmall}
use Rattle.wf_path.proofs.Values.{half_is, with_half}

no_fault : (b : Bool) (r : Refusal) → None ≡ (if b then Some r else None) → b ≡ false
no_fault true r e = absurd (cc e)
no_fault false r e = refl

right_is : (a b : Bool) → (a || b) ≡ false → b ≡ false
right_is true b e = absurd (cc e)
right_is false b e = e

-- a time to which a clock is moved is below 2^61
time_low : (clock now : ℕ) → None ≡ time_fault clock now → now < 2 ^ 61
time_low clock now e = leb-false (2 ^ 61) now
    (right_is (nat_lt now clock) (nat_le (2 ^ 61) now) (no_fault _ BadTick e))

-- x is the half of the path p, a are its addresses, and u is the half after the move
module _ (x u : TransmitValue) (a : Addresses) (p : PathValue)
    (same : ◌≡◌ {A = PathValue} (record { half = x; addresses = a }) p) (now : ℕ) where
  pub small_after : (result : Result ℕ Refusal) → result_err result ≡ time_fault x.clock now →
      OnOk result (u ≡ record x { clock = now }) → IfErr result (λ _. u ≡ x) → IsSmall p.half → IsSmall u
  small_after (Ok n) fault moved refused small =
      let before : IsSmall x = subst IsSmall (sym (half_is same)) small in
      let low : now < 2 ^ 61 = time_low x.clock now fault in
      subst IsSmall (sym moved) (record {
        clock = omega (arith, low);
        exchanges = before.exchanges;
        accepted = before.accepted;
        charged = before.charged;
        received = before.received;
        group = before.group;
      })
  small_after (Err r) fault moved refused small = subst IsSmall (sym (refused ∙ half_is same)) small

  pub kept_after : (result : Result ℕ Refusal) → IfErr result (λ _. u ≡ x) →
      IfErr result (λ _. with_half a u ≡ p)
  kept_after (Ok n) refused = tt
  kept_after (Err r) refused = ap (λ (z : TransmitValue). with_half a z) refused ∙ same
