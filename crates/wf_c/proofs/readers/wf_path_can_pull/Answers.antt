-- Proves what `wf_path_can_pull` promises: the path that the handle holds says whether the pull of the class
-- with this number would be refused.
use Rattle.std.proofs.Common.{◌≡◌, ◌∙◌, refl, ap, sym, subst, ℤ, pos, Bool, true, false, is_none, Option, Some}
use mir.Syntax.{w32}
use mir.Val.{to_z, of_z}
use Rattle.wf_frame.specs.declared.notes.Ask.TheVariants.{Pull}
use Rattle.wf_frame.specs.declared.notes.Note.TheVariants.{Asked}
use Rattle.wf_def_world.specs.Refusals.{refusal}
use Rattle.wf_c.specs.Calls.{HoldsFor}
use Rattle.wf_c.specs.declared.held.Held.{Held}
use Rattle.wf_c.specs.Numbers.{class_shown, flag_of}
use Rattle.wf_c.proofs.readers.wf_path_can_pull.Goals as goal

-- the number of a flag fits 32 bits
fits : (b : Bool) → to_z w32 (of_z w32 (pos (flag_of b))) ≡ pos (flag_of b)
fits false = refl
fits true = refl

pub returns-in-Some-clause-world : goal.returns-in-Some-clause-world
returns-in-Some-clause-world c w bodies h =
    let is : class_shown c.args.class ≡ Some c.in-Some.class = sym c.class_of_number.ensures ∙ c.in-Some.is in
    rw is (λ limits. ap (λ (z : ℤ). to_z w32 (of_z w32 z)) (c.number_of_flag.ensures
    ∙ ap (λ (b : Bool). pos (flag_of b))
    (c.can_pull.ensures w bodies (subst (λ (o : Option Held). HoldsFor o w bodies) c.held.ensures.value h)
    limits))
    ∙ fits (is_none (refusal w (Asked (Pull c.in-Some.class limits)))))
