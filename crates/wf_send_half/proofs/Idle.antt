-- Proves that no flag of a class is up exactly if no station is ready in the class.
use Rattle.std.proofs.Common.{◌≡◌, refl, ap, sym, ◌∙◌, arith, ℕ, zero, suc, ◌<◌, Bool, true, false, not, ◌||◌, ◌↔◌, List, [], ◌∷◌, length, get_or}
use Rattle.std.specs.List.{list_any}
use Rattle.std.proofs.lemmas.Bool.{and_parts}
use Rattle.wf_frame.specs.declared.classes.Class.{Class}
use Rattle.wf_frame.specs.Frames.{FrameValue}
use Rattle.wf_def_world.specs.World.{World, is_live}
use Rattle.wf_def_world.specs.CanSend.{is_ready}
use Rattle.wf_law_runs.specs.Rotations.{NoneReady}
use Rattle.wf_send_half_model.specs.Half.{TransmitValue}
use Rattle.wf_send_half_model.specs.Standing.{StandsFor}
use Rattle.wf_send_half_model.proofs.Readers.{ready_same}
use Rattle.wf_send_half.specs.Flags.{Flags, flags_in, AreFlags}

-- a flag that is up is found
up_found : (xs : List Bool) (s : ℕ) → get_or xs s false ≡ true → list_any (λ up. up) xs ≡ true
up_found [] s up = absurd (cc up)
up_found (b ∷ xs) zero up = ap (λ (y : Bool). y || list_any (λ up. up) xs) up
up_found (b ∷ xs) (suc s) up = either b (up_found xs s up)
  where
    either : (y : Bool) → list_any (λ up. up) xs ≡ true → (y || list_any (λ up. up) xs) ≡ true
    either true k = refl
    either false k = k

-- if no flag is up, none is found
none_found : (xs : List Bool) → ((s : ℕ) → s < length xs → get_or xs s false ≡ false) →
    list_any (λ up. up) xs ≡ false
none_found [] down = refl
none_found (b ∷ xs) down = ap (λ (y : Bool). y || list_any (λ up. up) xs) (down zero (omega arith))
    ∙ none_found xs (λ s low. down (suc s) (omega (arith, low)))

module _ (v : TransmitValue) (r : Flags) (flags : AreFlags v r) (c : Class) (w : World)
    (bodies : ℕ → FrameValue) (h : StandsFor v w bodies) where
  same_flag : (s : ℕ) → s < v.config.stations → get_or (flags_in r c) s false ≡ is_ready w c s
  same_flag s low = (flags c).tells s low ∙ ready_same v w bodies c s h.parts

  -- a ready station is live, so it has a flag
  ready_low : (s : ℕ) → is_ready w c s ≡ true → s < v.config.stations
  ready_low s ready = omega (
    arith,
    h.parts.others.turns.live s (and_parts (is_live w s) _ ready).0,
    ap (λ k. k.stations) h.parts.others.config,
  )

  none_ready : list_any (λ up. up) (flags_in r c) ≡ false → NoneReady w c
  none_ready none s = by_case (is_ready w c s) refl
    where
      by_case : (b : Bool) → is_ready w c s ≡ b → is_ready w c s ≡ false
      by_case false e = e
      by_case true e =
          let up : list_any (λ (k : Bool). k) (flags_in r c) ≡ true =
          up_found (flags_in r c) s (same_flag s (ready_low s e) ∙ e) in
          absurd (let no : true ≡ false = sym up ∙ none in cc no)

  none_flagged : NoneReady w c → list_any (λ up. up) (flags_in r c) ≡ false
  none_flagged nobody = none_found (flags_in r c)
      (λ s low. same_flag s (omega (arith, low, (flags c).stations)) ∙ nobody s)

  pub idle_means : (found : Bool) → found ≡ list_any (λ up. up) (flags_in r c) →
      (not found ≡ true) ↔ NoneReady w c
  idle_means found is = (
    (λ off. none_ready (sym is ∙ down found off)),
    (λ nobody. ap not (is ∙ none_flagged nobody)),
  )
    where
      down : (b : Bool) → not b ≡ true → b ≡ false
      down false k = refl
      down true k = absurd (cc k)
