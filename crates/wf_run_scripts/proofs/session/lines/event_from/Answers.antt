-- Proves that the arguments that were read are in their ranges. By cases of the event.
use Rattle.std.proofs.Common.{◌≡◌, ◌≤◌, ◌∙◌, ℕ, List, [], ◌∷◌, sym, ap}
use Rattle.std.specs.Prelude.{Ok, Some}
use Rattle.wf_def_lists.specs.Bounds.{greatest_window, greatest_start}
use Rattle.wf_frame.specs.declared.calls.Arg.{Arg}
use Rattle.wf_frame.specs.declared.calls.Value.{Value}
use Rattle.wf_trace.specs.Grammar.{read_args}
use Rattle.wf_trace.specs.Notes.{long_in}
use Rattle.wf_trace.specs.Words.{words, number_of}
use Rattle.wf_trace.proofs.ArgLaws.{both_ok, number_ok}
use Rattle.wf_run_scripts.specs.declared.session.verb.Verb.{Verb}
use Rattle.wf_run_scripts.specs.declared.session.verb.Verb.TheVariants.{Ask, Again, To, Close, Restart}
use Rattle.wf_run_scripts.specs.SessionLines.{session_args, AreInRange}
use Rattle.wf_run_scripts.proofs.session.lines.event_from.Goals as goal

asked : (window start : Value) (values more others : List Value) → values ≡ window ∷ more →
    more ≡ start ∷ others →
    (1 ≤ long_in (Some window)) × (long_in (Some window) ≤ greatest_window) → (0 ≤ long_in (Some start)) ×
    (long_in (Some start) ≤ greatest_start) →
    AreInRange Ask values
asked window start values more others one two windows starts = rw (one, two) (windows.0, windows.1, starts.1)

in_range : (verb : Verb) (line : List (List ℕ)) (values : List Value) →
    read_args (session_args verb) line ≡ Ok values → AreInRange verb values
in_range Ask [] values is = absurd (cc)
in_range Ask (window ∷ []) values is = let a = both_ok _ _ values is in absurd (cc)
in_range Ask (window ∷ start ∷ more) values is =
    let a = both_ok _ _ values is in
    let b = both_ok _ _ a.1 a.3 in
    asked a.0 b.0 values a.1 b.1 a.4 b.4 (number_ok 1 greatest_window (number_of window) a.0 a.2)
    (number_ok 0 greatest_start (number_of start) b.0 b.2)
in_range Again line values is = tt
in_range To line values is = tt
in_range Close line values is = tt
in_range Restart line values is = tt

pub made-requires : goal.made-requires
made-requires c =
    rw (c.as_slice.ensures.value)
    (in_range c.in-Some-named.verb (words c.in-Some.rest.now) c.in-Ok.values.items
    (sym (c.in-Ok.ensures ∙ ap (λ (args : List Arg). read_args args (words c.in-Some.rest.now))
    c.args-2.ensures.args)))
