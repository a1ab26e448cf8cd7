-- Proves that a pull would send, by the flags and the open exchanges, exactly if the machine does not
-- refuse it.
use Rattle.std.proofs.Common.{◌≡◌, refl, ap, ap₂, sym, ◌∙◌, arith, ℕ, zero, suc, ◌<◌, Bool, true, false, not, ◌&&◌, nat_le, List, [], ◌∷◌, length, get_or, inl, inr, Some, leb-false}
use Rattle.std.specs.Prelude.{count_by, is_none}
use Rattle.std.specs.List.{list_any}
use Rattle.std.proofs.lemmas.Bool.{cases_Bool}
use Rattle.std.proofs.lemmas.List.{get_or_past}
use Rattle.wf_frame.specs.Classes.{same_class}
use Rattle.wf_frame.specs.Frames.{FrameValue}
use Rattle.wf_frame.specs.declared.classes.Class.{Class}
use Rattle.wf_frame.specs.declared.notes.Ask.TheVariants.{Pull}
use Rattle.wf_frame.specs.declared.notes.Limits.{Limits}
use Rattle.wf_frame.specs.declared.notes.Note.TheVariants.{Asked}
use Rattle.wf_frame.specs.declared.notes.Refusal.TheVariants.{Idle}
use Rattle.wf_frame.specs.declared.settings.Config.{Config}
use Rattle.wf_def_world.specs.World.{World, is_live}
use Rattle.wf_def_world.specs.CanSend.{is_ready, can_send_in, may_receive}
use Rattle.wf_def_world.specs.Exchanges.{picked_station}
use Rattle.wf_def_world.specs.Refusals.{first_refusal, refusal, open_of_class, is_at_aql_total}
use Rattle.wf_law_runs.specs.Rotations.{KeepsRotations, NoneReady}
use Rattle.wf_law_runs.proofs.AllLaws.{laws}
use Rattle.wf_send_half_model.specs.Half.{TransmitValue, is_ahead_of}
use Rattle.wf_send_half_model.specs.Standing.{StandsFor}
use Rattle.wf_send_half_model.proofs.Reached.{by_law}
use Rattle.wf_send_half_model.proofs.Readers.{class_count_same, ahead_same, ready_same}
use Rattle.wf_send_half.specs.Flags.{Flags, flags_in, IsTracked}

-- ---- flags

-- some flag of a list is up
record IsUp (xs : List Bool) : Type 0 where
  at : ℕ
  low : at < length xs
  up : get_or xs at false ≡ true

some_up : (xs : List Bool) → list_any (λ up. up) xs ≡ true → IsUp xs
some_up [] is = absurd (cc is)
some_up (true ∷ xs) is = record { at = 0; low = omega arith; up = refl }
some_up (false ∷ xs) is =
    let r : IsUp xs = some_up xs is in
    record { at = suc r.at; low = omega (arith, r.low); up = r.up }

none_up : (xs : List Bool) → list_any (λ up. up) xs ≡ false → (s : ℕ) → get_or xs s false ≡ false
none_up [] is s = get_or_past [] s false (omega arith)
none_up (true ∷ xs) is s = absurd (cc is)
none_up (false ∷ xs) is zero = refl
none_up (false ∷ xs) is (suc s) = none_up xs is s

-- ---- a pull

module _ (w : World) (c : Class) (l : Limits) (keeps : KeepsRotations w) where
  when_full : nat_le w.config.inflight (open_of_class w c) ≡ true →
      false ≡ is_none (refusal w (Asked (Pull c l)))
  unfolding first_refusal
  when_full full = rw full refl

  when_ahead : nat_le w.config.inflight (open_of_class w c) ≡ false → is_at_aql_total w ≡ true →
      false ≡ is_none (refusal w (Asked (Pull c l)))
  unfolding first_refusal
  when_ahead room ahead = rw (room, ahead) refl

  when_ready : nat_le w.config.inflight (open_of_class w c) ≡ false → is_at_aql_total w ≡ false → (s : ℕ) →
      is_ready w c s ≡ true → true ≡ is_none (refusal w (Asked (Pull c l)))
  unfolding first_refusal
  when_ready room behind s ready = by (is_none (picked_station w c).winner) refl
    where
      by : (b : Bool) → is_none (picked_station w c).winner ≡ b →
          true ≡ is_none (refusal w (Asked (Pull c l)))
      by false won = rw (room, behind, won) refl
      by true none =
          let idle : refusal w (Asked (Pull c l)) ≡ Some Idle = rw (room, behind, none) refl in
          let unready : is_ready w c s ≡ false = ((keeps.idle c l).0 idle).1 s in
          absurd (cc (ready, unready))

  when_none : nat_le w.config.inflight (open_of_class w c) ≡ false → is_at_aql_total w ≡ false → NoneReady
      w c →
      false ≡ is_none (refusal w (Asked (Pull c l)))
  when_none room behind none = sym (ap is_none ((keeps.idle c l).1 ((leb-false _ _ room, behind), none)))

-- a live station's number is below the setting
live_low : (v : TransmitValue) (w : World) (bodies : ℕ → FrameValue) → StandsFor v w bodies → (s : ℕ) →
    is_live w s ≡ true → s < v.config.stations
live_low v w bodies h s live = omega (
  arith,
  h.parts.others.turns.live s live,
  ap (λ (k : Config). k.stations) h.parts.others.config,
)

module _ (v : TransmitValue) (r : Flags) (t : IsTracked v r) (c : Class) (w : World) (bodies : ℕ → FrameValue)
    (h : StandsFor v w bodies) where
  keeps : KeepsRotations w
  keeps = by_law KeepsRotations w h.reached
      (laws w.config h.reached.history h.reached.in_range).rotations

  -- if no flag of a class is up, no station is ready in it
  nobody : list_any (λ up. up) (flags_in r c) ≡ false → NoneReady w c
  nobody none s = elim (cases_Bool (is_live w s)) [
    | inl live ↦ sym (ready_same v w bodies c s h.parts)
        ∙ sym ((t.flags c).tells s (live_low v w bodies h s live))
        ∙ none_up (flags_in r c) none s
    | inr gone ↦ ap (λ (b : Bool). b && (can_send_in w s c && may_receive w s c)) gone
  ]

  -- if a flag of a class is up, some station is ready in it
  somebody : (u : IsUp (flags_in r c)) → is_ready w c u.at ≡ true
  somebody u = sym (ready_same v w bodies c u.at h.parts)
      ∙ sym ((t.flags c).tells u.at (omega (arith, u.low, (t.flags c).stations))) ∙ u.up

  abbrev some_flag : Bool
  some_flag = list_any (λ up. up) (flags_in r c)

  -- the flags and the open exchanges determine whether a pull would send
  pub pull_is : (l : Limits) → (not (nat_le v.config.inflight (count_by (λ x. same_class x.class c) v.opened))
      && not (is_ahead_of v)) && some_flag ≡ is_none (refusal w (Asked (Pull c l)))
  pull_is l =
      ap₂ (λ (a b : Bool). (not a && not b) && some_flag)
      (ap₂ nat_le (ap (λ (k : Config). k.inflight) h.parts.others.config)
      (class_count_same v w bodies c h.parts)) (ahead_same v w bodies h.parts)
      ∙ by (nat_le w.config.inflight (open_of_class w c)) refl (is_at_aql_total w) refl some_flag refl
    where
      by : (full : Bool) → nat_le w.config.inflight (open_of_class w c) ≡ full → (ahead : Bool) →
          is_at_aql_total w ≡ ahead → (some : Bool) → some_flag ≡ some →
          (not full && not ahead) && some ≡ is_none (refusal w (Asked (Pull c l)))
      by true full ahead off some is = when_full w c l keeps full
      by false room true ahead some is = when_ahead w c l keeps room ahead
      by false room false behind true is =
          let u : IsUp (flags_in r c) = some_up (flags_in r c) is in
          when_ready w c l keeps room behind u.at (somebody u)
      by false room false behind false is = when_none w c l keeps room behind (nobody is)
