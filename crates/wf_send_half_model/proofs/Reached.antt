-- Proves that a step leads from the world of a run to another one, and that each law of all runs holds in it.
use Rattle.std.proofs.Common.{◌≡◌, refl, ap, ap₂, sym, ◌∙◌, subst, ℕ, ◌+◌, Bool, true, false, ◌&&◌, if◌then◌else◌, List, [], ◌∷◌, ◌++◌, length, take, map, Some, None, is_some}
use Rattle.std.proofs.lemmas.Bool.{ne_eqb}
use Rattle.wf_frame.specs.declared.classes.Class.{Class}
use Rattle.wf_frame.specs.declared.settings.Config.{Config}
use Rattle.wf_frame.specs.declared.notes.Note.{Note}
use Rattle.wf_frame.specs.declared.notes.Note.TheVariants.{Asked}
use Rattle.wf_frame.specs.declared.notes.Ask.TheVariants.{Pull}
use Rattle.wf_frame.specs.declared.notes.Refusal.{Refusal}
use Rattle.wf_frame.specs.declared.notes.Refusal.TheVariants.{Idle}
use Rattle.wf_frame.specs.declared.notes.ReplyNote.TheVariants.{Refused}
use Rattle.wf_frame.specs.Classes.{same_class}
use Rattle.wf_frame.specs.Settings.{IsInRange}
use Rattle.wf_def_lists.specs.Lengths.{greatest_body}
use Rattle.wf_def_lists.specs.Table.{at}
use Rattle.wf_def_world.specs.World.{World, Exchange, opening, is_live, owed}
use Rattle.wf_def_world.specs.CanSend.{with_listings_of}
use Rattle.wf_def_world.specs.Refusals.{refusal}
use Rattle.wf_def_world.specs.Run.{Entry, by, world_after}
use Rattle.wf_def_world.specs.Step.{outcome_of, concerned_station, after_refusal, judged_outcome, step}
use Rattle.wf_def_world.specs.Stretches.{world_at}
use Rattle.wf_law_runs.specs.Queues.{HasLength, IsAtMost, HaveLengths, AreAtMost}
use Rattle.wf_law_runs.specs.Windows.{OpenRises}
use Rattle.wf_law_runs.proofs.Deficits.Books.{Books, books, core}
use Rattle.wf_law_runs.proofs.Deficits.Configs.{config_step}
use Rattle.wf_law_runs.proofs.Deficits.Kept.{IsOpen}
use Rattle.wf_law_runs.proofs.Deficits.KeptStep.{kept}
use Rattle.wf_law_runs.proofs.Deficits.Openings.{Every}
use Rattle.wf_law_runs.proofs.Windows.Law.{window_law}
use Rattle.wf_sched_refines.proofs.Stands.{some_account}
use Rattle.wf_send_half_model.specs.Standing.{IsReached}

-- ---- one more entry

world_then : (h : List Entry) (w : World) (e : Entry) →
    world_after w (h ++ e ∷ []) ≡ (step (world_after w h) e.1).world
unfolding world_after
world_then [] w e = refl
world_then (x ∷ h) w e = world_then h (step w x.1).world e

lengths_then : (h : List Entry) (e : Entry) → HaveLengths h → HasLength e.1 → HaveLengths (h ++ e ∷ [])
lengths_then [] e h k = (k, tt)
lengths_then (x ∷ xs) e h k = (h.0, lengths_then xs e h.1 k)

most_then : (h : List Entry) (e : Entry) (most : ℕ) → AreAtMost most h → IsAtMost most e.1 →
    AreAtMost most (h ++ e ∷ [])
most_then [] e most h k = (k, tt)
most_then (x ∷ xs) e most h k = (h.0, most_then xs e most h.1 k)

pub reached_step : (w : World) (note : Note) → IsReached w → HasLength note → IsAtMost greatest_body note →
    IsReached (step w note).world
reached_step w note r some most = record {
  in_range = subst IsInRange (sym (config_step w note)) r.in_range;
  history = r.history ++ by 0 note ∷ [];
  lengths = (
    lengths_then r.history (by 0 note) r.lengths.0 some,
    most_then r.history (by 0 note) greatest_body r.lengths.1 most,
  );
  after =
      ap (λ (x : World). (step x note).world) r.after
      ∙ sym (world_then r.history (opening w.config) (by 0 note))
      ∙ ap (λ (c : Config). world_after (opening c) (r.history ++ by 0 note ∷ [])) (sym (config_step w note));
}

-- ---- the laws

take_all : (h : List Entry) → take (length h) h ≡ h
take_all [] = refl
take_all (e ∷ h) = ap (λ (l : List Entry). e ∷ l) (take_all h)

-- the world after all entries
pub now_is : (w : World) (r : IsReached w) → world_at w.config r.history (length r.history) ≡ w
now_is w r = ap (world_after (opening w.config)) (take_all r.history) ∙ sym r.after

-- a property that holds after any number of entries holds of the world
pub by_law : (P : World → Type 0) (w : World) (r : IsReached w) →
    ((m : ℕ) → P (world_at w.config r.history m)) → P w
by_law P w r law = subst P (now_is w r) (law (length r.history))

-- ---- the open exchanges

pub rises : (w : World) → IsReached w → OpenRises 0 w.exchanges w.opened
rises w r = by_law (λ u. OpenRises 0 u.exchanges u.opened) w r (λ m. (window_law w.config r.history m).rising)

-- in books in which a station is not live, the exchanges of live stations owe no airtime of this station
none_owed : (b : Books) (s : ℕ) (c : Class) → is_some (b.accounts s) ≡ false → (xs : List Exchange) →
    Every (IsOpen b) (map core xs) → owed s c xs ≡ 0
none_owed b s c off [] live = refl
none_owed b s c off (x ∷ xs) live =
    ap₂ (λ (y : Bool) (n : ℕ). (if y && same_class x.class c then x.charge else 0) + n)
    (ne_eqb x.station s (λ e. away (ap (λ (n : ℕ). is_some (b.accounts n)) (sym e) ∙ live.0.live)))
    (none_owed b s c off xs live.1)
  where
    away : is_some (b.accounts s) ≡ true → ⊥
    away on = let e : false ≡ true = sym off ∙ on in cc e

-- in the world of a run, a station that is not live owes none
pub owes_nothing : (w : World) → IsReached w → (s : ℕ) (c : Class) → is_live w s ≡ false →
    owed s c w.opened ≡ 0
owes_nothing w r s c off = none_owed (books w) s c (some_account (at None w.stations s) ∙ off) w.opened
    (subst OpensAreLive (sym r.after) (kept w.config r.history r.in_range).opens)
  where
    OpensAreLive : World → Type 0
    OpensAreLive u = Every (IsOpen (books u)) (books u).opened

-- ---- the parts of a step

pub step_done : (w : World) (note : Note) → refusal w note ≡ None →
    step w note ≡ record (outcome_of w note) {
      world =
          with_listings_of (outcome_of w note).world (concerned_station w note);
    }
unfolding step judged_outcome
step_done w note e = ap (judged_outcome w note) e

pub step_refused : (w : World) (note : Note) (r : Refusal) → refusal w note ≡ Some r →
    step w note ≡ record { world = after_refusal w note r; reply = Refused r }
unfolding step judged_outcome
step_refused w note r e = ap (judged_outcome w note) e

-- a refusal changes nothing, except the refusal of a pull that finds no ready station
pub nothing_changed : (w : World) (note : Note) (r : Refusal) → (r ≡ Idle → ⊥) → after_refusal w note r ≡ w
unfolding after_refusal
nothing_changed w (Asked (Pull c l)) Idle h = absurd (h refl)
nothing_changed w _ _ h = refl
