-- Proves what two stations of a class get between two moments of a run, from what they get over entries.
use Rattle.std.proofs.Common.{◌≡◌, ap, sym, ◌∙◌, subst, arith, ℕ, ◌+◌, ◌-◌, ◌≤◌, Bool, List, take, drop}
use Rattle.wf_frame.specs.declared.settings.Config.{Config}
use Rattle.wf_frame.specs.declared.classes.Class.{Class}
use Rattle.wf_frame.specs.Settings.{IsInRange}
use Rattle.wf_def_world.specs.World.{opening}
use Rattle.wf_def_world.specs.Run.{Entry, world_after}
use Rattle.wf_def_world.specs.Stretches.{world_at, charged_between}
use Rattle.wf_law_runs.specs.Shares.{received_between}
use Rattle.wf_law_runs.proofs.Deficits.Accounts.{accounts}
use Rattle.wf_law_runs.proofs.Deficits.Configs.{config_run}
use Rattle.wf_law_runs.proofs.Deficits.KeptStep.{kept}
use Rattle.wf_law_runs.proofs.Fairness.Law.{run_split}
use Rattle.wf_law_runs.proofs.Shares.Stretch.{Fits, IsHeld, IsGround, held_run, IsEven}
use Rattle.wf_law_runs.specs.Deficits.{IsSteady}

pub ground_at : (config : Config) (h : List Entry) (m : ℕ) → IsInRange config →
    IsGround config (world_at config h m)
ground_at config h m range = record {
  same = config_run (take m h) (opening config);
  kept = kept config (take m h) range;
  fair = accounts config (take m h);
}

-- the world some entries after a moment
pub after_moment : (config : Config) (h : List Entry) (a d : ℕ) →
    world_at config h (a + d) ≡ world_after (world_at config h a) (take d (drop a h))
after_moment config h a d = run_split a d h (opening config)

-- what two stations get between two moments
pub held_between : (config : Config) (h : List Entry) (t : Bool) (c : Class) (s i a b : ℕ) →
    IsInRange config → a ≤ b → (s ≡ i → ⊥) →
    ((m : ℕ) → a ≤ m → m ≤ b → Fits t c s i (world_at config h a) (world_at config h m)) →
    IsHeld config c s i (charged_between config h i c a b) (charged_between config h s c a b)
    (received_between config h s c a b) (world_at config h a) (world_at config h b)
held_between config h t c s i a b range order differs fits =
    let e : a + (b - a) ≡ b = omega arith in
    subst (IsHeld config c s i (charged_between config h i c a b) (charged_between config h s c a b)
    (received_between config h s c a b) (world_at config h a))
    (sym (after_moment config h a (b - a)) ∙ ap (world_at config h) e)
    (held_run config t c s i (world_at config h a) (drop a h) differs (ground_at config h a range) (b - a)
    (λ d l. subst (Fits t c s i (world_at config h a)) (after_moment config h a d)
    (fits (a + d) (omega arith) (omega arith))))

-- the world at a later moment
pub later_is : (config : Config) (h : List Entry) (a b : ℕ) → a ≤ b →
    world_at config h b ≡ world_after (world_at config h a) (take (b - a) (drop a h))
later_is config h a b order = let e : a + (b - a) ≡ b = omega arith in
    sym (ap (world_at config h) e) ∙ after_moment config h a (b - a)

-- a station that is steady between two moments
pub even : (config : Config) (h : List Entry) (s : ℕ) (c : Class) (a b : ℕ) → IsSteady config h s c a b →
    IsEven c s (world_at config h a) (world_at config h b)
even config h s c a b steady = record { weight = sym steady.weight; base = sym steady.base }
