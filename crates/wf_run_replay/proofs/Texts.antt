-- Proves that the octets that a replay writes call by call are the text of the trace.
use Rattle.std.proofs.Common.{◌≡◌, ℕ, List, [], ◌∷◌, ◌++◌, length, true, append-nil, refl, sym, ◌∙◌, ap, subst}
use Rattle.std.specs.Prelude.{Option, Some, None, option_map, map}
use Rattle.std.specs.List.{concat}
use Rattle.wf_frame.specs.declared.settings.Config.{Config}
use Rattle.wf_trace.specs.declared.reader.Item.{Item}
use Rattle.wf_trace.specs.declared.reader.Item.TheVariants.{Head, Entry, Finish, Bad}
use Rattle.wf_trace.specs.Reading.{Reading, reading}
use Rattle.wf_io.specs.declared.status.Status.{Status}
use Rattle.wf_io.specs.declared.status.Status.TheVariants.{NoMemory}
use Rattle.wf_def_world.specs.World.{World, opening}
use Rattle.wf_def_world.specs.Step.{Outcome, step}
use Rattle.wf_def_world.specs.Run.{Entry as Called, Past, replies, world_of, world_after}
use Rattle.wf_def_world.specs.Text.{answer_line, summary}
use Rattle.wf_trace_laws.specs.Histories.{settings_among, history_among}
use Rattle.wf_trace_laws.specs.Tellings.{told_calls, begun, world_behind, told_so_far, told_whole}
use Rattle.wf_trace_laws.specs.Outcomes.{TraceOutcome}
use Rattle.wf_trace_laws.proofs.Tellings.{outcome_as}
use Rattle.wf_run_replay.specs.Outcome.{StatusSays}
use Rattle.wf_run_replay.specs.Running.{closing, closing_of, telling}
use Rattle.wf_run_replay.specs.Texts.{answers_of, text_by, answers, text}

calls_are : (w : World) (es : List Called) → told_calls telling w es ≡ concat (map answer_line (replies w es))
unfolding replies
calls_are w [] = refl
calls_are w (e ∷ es) = let o : Outcome = step w e.1 in
    ap (λ l. answer_line o.reply ++ l) (calls_are o.world es)

so_far_of : (config : Option Config) (history : List Called) →
    begun telling config history ≡ answers_of config history
so_far_of None history = refl
so_far_of (Some config) history = calls_are (opening config) history

so_far_is : (r : Reading) → told_so_far telling r ≡ answers r
so_far_is r = so_far_of (settings_among r.items) (history_among r.items)

none_closes : (history : List Called) (ending : Option Item) →
    closing None (length history) ending ≡ text_by None history ending
none_closes history None = refl
none_closes history (Some Finish) = refl
none_closes history (Some (Bad fault)) = refl
none_closes history (Some (Head config)) = refl
none_closes history (Some (Entry caller note)) = refl

some_closes : (config : Config) (history : List Called) (ending : Option Item) →
    answers_of (Some config) history ++ closing (Some (world_after (opening config) history))
    (length history) ending ≡ text_by (Some config) history ending
some_closes config history None = append-nil (answers_of (Some config) history)
some_closes config history (Some Finish) = refl
some_closes config history (Some (Bad fault)) = refl
some_closes config history (Some (Head other)) = append-nil (answers_of (Some config) history)
some_closes config history (Some (Entry caller note)) = append-nil (answers_of (Some config) history)

whole_of : (config : Option Config) (history : List Called) (ending : Option Item) →
    begun telling config history ++ closing (world_behind config history) (length history) ending
    ≡ text_by config history ending
whole_of None history ending = none_closes history ending
whole_of (Some config) history ending =
    ap (λ l. l ++ closing (Some (world_after (opening config) history)) (length history) ending)
    (so_far_of (Some config) history) ∙ some_closes config history ending

whole_is : (r : Reading) → told_whole telling r ≡ text r
whole_is r = whole_of (settings_among r.items) (history_among r.items) r.ending

-- The outcome of the telling is the outcome of a replay.
pub said : (status : Status) (input taken written : List ℕ) →
    TraceOutcome (λ (r : Reading). told_so_far telling r) (λ (r : Reading). told_whole telling r) status input
    taken written → StatusSays status input taken written
said = outcome_as (λ (r : Reading). told_so_far telling r) answers
    (λ (r : Reading). told_whole telling r) text
    (λ closed octets. so_far_is (reading closed octets))
    (λ closed octets. whole_is (reading closed octets))

-- If there is no memory for the buffer, nothing was read and nothing written.
pub unsaid : (input : List ℕ) → StatusSays NoMemory input [] []
unsaid input = (text (reading true input), refl)

-- The last lines of a stage with this history.
pub closing_is : {T : Type 0} → (past : T → Past) (stage : Option T) (x : T) (p : Past) → stage ≡ Some x →
    p ≡ past x →
    summary (world_of p) (length p.history) ≡ closing_of (option_map past stage)
closing_is past stage x p some is =
    subst (λ y. summary (world_of p) (length p.history) ≡ closing_of (option_map past y)) (sym some)
    (ap (λ (q : Past). summary (world_of q) (length q.history)) is)
