-- Proves that the inferred calls continue a history: they bring no frame. By induction over the calls.
use Rattle.std.proofs.Common.{ℕ, Bool, true, false, List, [], ◌∷◌, ◌++◌}
use Rattle.wf_frame.specs.declared.settings.Config.{Config}
use Rattle.wf_frame.specs.declared.notes.Ask.TheVariants.{Arrive, Answer}
use Rattle.wf_frame.specs.declared.notes.Note.TheVariants.{Asked}
use Rattle.wf_def_world.specs.World.{World, Content, opening}
use Rattle.wf_def_world.specs.Step.{step}
use Rattle.wf_def_world.specs.Run.{Entry, world_after}
use Rattle.wf_law_runs.specs.Queues.{HaveLengths, AreAtMost}
use Rattle.wf_law_runs.proofs.Frames.Fates.{world_after-append}
use Rattle.wf_law_driver.specs.Inferred.{arrivals, answer_inferred, indices_inferred, inferred, RunLaw}

lengths_append : (h es : List Entry) → HaveLengths h → HaveLengths es → HaveLengths (h ++ es)
lengths_append [] es a b = b
lengths_append (e ∷ h) es a b = (a.0, lengths_append h es a.1 b)

most_append : (n : ℕ) (h es : List Entry) → AreAtMost n h → AreAtMost n es → AreAtMost n (h ++ es)
most_append n [] es a b = b
most_append n (e ∷ h) es a b = (a.0, most_append n h es a.1 b)

inferred_lengths : (batch : Bool) (is js : List ℕ) (caller e : ℕ) → HaveLengths
    (arrivals caller e is ++ answer_inferred batch caller e js)
inferred_lengths true [] [] caller e = tt
inferred_lengths true [] (j ∷ js) caller e = tt
inferred_lengths false [] [] caller e = tt
inferred_lengths false [] (j ∷ js) caller e = (tt, tt)
inferred_lengths batch (i ∷ is) js caller e = (tt, inferred_lengths batch is js caller e)

inferred_most : (batch : Bool) (n : ℕ) (is js : List ℕ) (caller e : ℕ) →
    AreAtMost n (arrivals caller e is ++ answer_inferred batch caller e js)
inferred_most true n [] [] caller e = tt
inferred_most true n [] (j ∷ js) caller e = tt
inferred_most false n [] [] caller e = tt
inferred_most false n [] (j ∷ js) caller e = (tt, tt)
inferred_most batch n (i ∷ is) js caller e = (tt, inferred_most batch n is js caller e)

pub run_law : (config : Config) (h : List Entry) → RunLaw config h
run_law config h caller e shown batch content =
    let is : List ℕ = indices_inferred shown content in
    let es : List Entry = inferred caller e shown batch content in
    record {
      world = world_after-append h (opening config) es;
      lengths = λ a. lengths_append h es a (inferred_lengths batch is is caller e);
      most = λ n a. most_append n h es a (inferred_most batch n is is caller e);
    }

-- All inferred calls keep what each Arrive and each Answer keeps. Other crates use this.
module _ (P : World → Type 0) (arrive : (w : World) (e i : ℕ) → P w → P (step w (Asked (Arrive e i))).world)
    (answer : (w : World) (e : ℕ) → P w → P (step w (Asked (Answer e))).world) where
  all_kept : (batch : Bool) (is js : List ℕ) (caller e : ℕ) (w : World) → P w →
      P (world_after w (arrivals caller e is ++ answer_inferred batch caller e js))
  unfolding world_after
  all_kept true [] [] caller e w h = h
  all_kept true [] (j ∷ js) caller e w h = h
  all_kept false [] [] caller e w h = h
  all_kept false [] (j ∷ js) caller e w h = answer w e h
  all_kept batch (i ∷ is) js caller e w h = all_kept batch is js caller e
      (step w (Asked (Arrive e i))).world (arrive w e i h)

  pub inferred_keeps : (w : World) (caller e : ℕ) (shown : ℕ → Bool) (batch : Bool) (content : Content) →
      P w → P (world_after w (inferred caller e shown batch content))
  inferred_keeps w caller e shown batch content h = all_kept batch (indices_inferred shown content)
      (indices_inferred shown content) caller e w h
