-- Proves that a station is steady between two moments at which, and between which, it is live, if no entry
-- between them sets its weight. By induction on the entries.
use Rattle.std.proofs.Common.{◌≡◌, refl, sym, ◌∙◌, subst, arith, ℕ, zero, suc, ◌+◌, ◌-◌, ◌≤◌, true, false, List, [], ◌∷◌, take, drop}
use Rattle.wf_frame.specs.declared.settings.Config.{Config}
use Rattle.wf_frame.specs.declared.classes.Class.{Class}
use Rattle.wf_frame.specs.Settings.{IsInRange}
use Rattle.wf_def_world.specs.World.{World, is_live}
use Rattle.wf_def_world.specs.Step.{step}
use Rattle.wf_def_world.specs.Run.{Entry, world_after}
use Rattle.wf_def_world.specs.Stretches.{world_at}
use Rattle.wf_law_runs.specs.Deficits.{is_weight_of, IsSteady}
use Rattle.wf_law_runs.proofs.Deficits.Books.{books}
use Rattle.wf_law_runs.proofs.Deficits.Kept.{IsKept}
use Rattle.wf_law_runs.proofs.Deficits.KeptStep.{kept, kept_step}
use Rattle.wf_law_runs.proofs.Shares.Stretch.{IsEven}
use Rattle.wf_law_runs.proofs.Shares.Moments.{after_moment, later_is}
use Rattle.wf_law_runs.proofs.Shares.Weights.{firm_step}

-- No entry sets the weight of station s.
abbrev pub NoneSets : ℕ → List Entry → Type 0
NoneSets s [] = Unit {0}
NoneSets s (e ∷ es) = (is_weight_of s e.1 ≡ false) × NoneSets s es

even_here : (c : Class) (s : ℕ) (w : World) → IsEven c s w w
even_here c s w = record { weight = refl; base = refl }

even_run : (es : List Entry) (d : ℕ) (w : World) (s : ℕ) (c : Class) → IsKept (books w) →
    ((n : ℕ) → n ≤ d → is_live (world_after w (take n es)) s ≡ true) → NoneSets s (take d es) →
    IsEven c s w (world_after w (take d es))
unfolding world_after
even_run es zero w s c k live none = even_here c s w
even_run [] (suc d) w s c k live none = even_here c s w
even_run (e ∷ es) (suc d) w s c k live none =
    let one = firm_step w e.1 s k none.0 (live zero (omega arith)) (live (suc zero) (omega arith)) in
    let rest : IsEven c s (step w e.1).world (world_after (step w e.1).world (take d es)) =
    even_run es d (step w e.1).world s c (kept_step w e.1 k) (λ n l. live (suc n) (omega arith)) none.1 in
    record { weight = rest.weight ∙ one.weight; base = rest.base ∙ one.base c }

pub steady_unless_set : (config : Config) (h : List Entry) (s : ℕ) (c : Class) (a b : ℕ) → IsInRange config →
    a ≤ b → ((m : ℕ) → a ≤ m → m ≤ b → is_live (world_at config h m) s ≡ true) →
    NoneSets s (take (b - a) (drop a h)) → IsSteady config h s c a b
steady_unless_set config h s c a b range order live none =
    let run : IsEven c s (world_at config h a) (world_at config h b) =
    subst (IsEven c s (world_at config h a)) (sym (later_is config h a b order))
    (even_run (drop a h) (b - a) (world_at config h a) s c (kept config (take a h) range)
    (λ n l. subst (λ (v : World). is_live v s ≡ true) (after_moment config h a n)
    (live (a + n) (omega arith) (omega arith))) none) in
    record { weight = sym run.weight; base = sym run.base }
