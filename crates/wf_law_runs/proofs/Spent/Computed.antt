-- Proves that each Done charges the computed airtime, if none may give an airtime. By cases of the call and
-- by induction on the history.
use Rattle.std.proofs.Common.{◌≡◌, ap, ◌∙◌, arith, ℕ, List, [], ◌∷◌, Option, Some, None, IfSome}
use Rattle.wf_frame.specs.declared.settings.Config.{Config}
use Rattle.wf_frame.specs.declared.notes.Ask.TheVariants.{Done}
use Rattle.wf_frame.specs.declared.notes.Note.{Note}
use Rattle.wf_frame.specs.declared.notes.Note.TheVariants.{Asked}
use Rattle.wf_def_world.specs.World.{World, Exchange, exchange, opening}
use Rattle.wf_def_world.specs.Exchanges.{charge_of}
use Rattle.wf_def_world.specs.Refusals.{refusals, refusal}
use Rattle.wf_def_world.specs.Step.{step}
use Rattle.wf_def_world.specs.Run.{Entry}
use Rattle.wf_law_runs.specs.Deficits.{IsNear}
use Rattle.wf_law_runs.specs.Shares.{ChargesWithin, AreWithin, ComputedLaw}
use Rattle.wf_law_runs.proofs.Deficits.Configs.{config_step}
use Rattle.wf_law_runs.proofs.Deficits.KeptStep.{no_row, charge_exact}

none_differs : (m n : ℕ) → m ≡ n → IsNear 0 m n
none_differs m n e = (omega arith, omega arith)

computed_step : (note : Note) (w : World) → w.config.charge ≡ 0 → ChargesWithin 0 w note
computed_step (Asked (Done e heard air)) w none = λ fine. go fine (exchange w e)
  where
    go : refusal w (Asked (Done e heard air)) ≡ None → (o : Option Exchange) →
        IfSome o (λ x. IsNear 0 (charge_of air x) x.charge)
    go fine None = tt
    go fine (Some x) = none_differs (charge_of air x) x.charge
        (charge_exact w.config x air (no_row (refusals w (Asked (Done e heard air))) fine).1.1.0 none)
computed_step _ w none = tt

computed_run : (es : List Entry) (w : World) → w.config.charge ≡ 0 → AreWithin 0 w es
computed_run [] w none = tt
computed_run (e ∷ es) w none = (
  computed_step e.1 w none,
  computed_run es (step w e.1).world (ap (λ (z : Config). z.charge) (config_step w e.1) ∙ none),
)

pub computed_law : (config : Config) (h : List Entry) → ComputedLaw config h
computed_law config h none = computed_run h (opening config) none
