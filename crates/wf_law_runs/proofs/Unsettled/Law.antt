-- Proves the law of unsettled numbers, by cases of the call and induction on the run.
use Rattle.std.proofs.Common.{◌≡◌, refl, sym, ◌∙◌, subst, arith, ℕ, ◌≤◌, List, [], ◌∷◌, Option, Some, None, take}
use Rattle.wf_frame.specs.declared.settings.Config.{Config}
use Rattle.wf_frame.specs.Settings.{IsInRange}
use Rattle.wf_frame.specs.declared.notes.Ask.TheVariants.{Join, Leave, Rate, Tick, Pull, Arrive, Answer, Done, Sleep, Wake, Poll, Rx, Reap, Ampdu, Stop, Start, Unsent, GiveUp, Flush, Offload, Weight, Plain, Hold, Begin, Free, Cease, Group, Service, Bss}
use Rattle.wf_frame.specs.declared.notes.Note.{Note}
use Rattle.wf_frame.specs.declared.notes.Note.TheVariants.{Enqueue, Asked}
use Rattle.wf_frame.specs.declared.notes.Refusal.{Refusal}
use Rattle.wf_def_world.specs.World.{World, session, exchange, is_held_back, opening}
use Rattle.wf_def_world.specs.Service.{station_served}
use Rattle.wf_def_world.specs.Refusals.{refusals, refusal}
use Rattle.wf_def_world.specs.Step.{tick_outcome, rate_outcome, sleep_outcome, wake_outcome, poll_outcome, rx_outcome, outcome_of, concerned_station, judged_outcome, step}
use Rattle.wf_def_world.specs.Run.{Entry, world_after}
use Rattle.wf_def_world.specs.Stretches.{world_at}
use Rattle.wf_law_runs.specs.Unsettled.{most_unsettled, UnsettledLaw}
use Rattle.wf_law_runs.proofs.Deficits.Configs.{config_step}
use Rattle.wf_law_runs.proofs.Frames.Delivered.{same_enqueued}
use Rattle.wf_law_runs.proofs.Windows.Agreed.{IsLawful, IsFound, found, lawful_step, lawful_at_first, not_no}
use Rattle.wf_law_runs.proofs.Windows.Opened.{NoRow, no_row}
use Rattle.wf_law_runs.proofs.Windows.Sides.{same_listed, same_on_station, same_on_share, same_weighed, same_held, same_freed}
use Rattle.wf_law_runs.proofs.Unsettled.Counts.{is_open, tally_count}
use Rattle.wf_law_runs.proofs.Unsettled.Keeps.{IsAsShort, found_short, keeps_same, keeps_open, keeps_arrived, keeps_answered, keeps_unsent, keeps_given_up, keeps_ended, keeps_flushed, keeps_begun, keeps_ceased, keeps_joined, keeps_offloaded, keeps_plain, keeps_gone, keeps_reaped, keeps_refused}
use Rattle.wf_law_runs.proofs.Unsettled.Pulls.{IsFew, few_kept, few_pulled}

-- ---- the step

few_done : (config : Config) (note : Note) (w : World) → w.config ≡ config → 1 ≤ config.agg →
    NoRow (refusals w note) → IsLawful w → IsFew config w → IsFew config (outcome_of w note).world
unfolding outcome_of tick_outcome rate_outcome sleep_outcome wake_outcome poll_outcome rx_outcome
few_done config (Enqueue s t flow len) w is some r i k =
    few_kept config w _ (keeps_same w _ (same_enqueued w s t flow len)) k
few_done config (Asked (Join s window start exponent weight)) w is some r i k =
    few_kept config w _ (keeps_joined w s window start exponent weight) k
few_done config (Asked (Leave s)) w is some r i k = few_kept config w _ (keeps_gone w s) k
few_done config (Asked (Rate s rate)) w is some r i k =
    few_kept config w _ (keeps_same w _ (same_on_station w s _ (λ x t. refl))) k
few_done config (Asked (Tick by)) w is some r i k = record { numbers = k.numbers; opened = k.opened }
few_done config (Asked (Pull c l)) w is some r i k = few_pulled config w c l is some r i k
few_done config (Asked (Arrive e n)) w is some r i k = few_kept config w _
    (keeps_open (IsAsShort w) (exchange w e) w _ (found_short w e) (λ x. keeps_arrived w x n)) k
few_done config (Asked (Answer e)) w is some r i k = few_kept config w _
    (keeps_open (IsAsShort w) (exchange w e) w _ (found_short w e) (λ x. keeps_answered w x)) k
few_done config (Asked (Done e heard air)) w is some r i k = few_kept config w _
    (keeps_open (IsFound w i) (exchange w e) w _ (found w i e) (λ x. keeps_ended air w i x heard)) k
few_done config (Asked (Sleep s)) w is some r i k =
    few_kept config w _ (keeps_same w _ (same_on_station w s _ (λ x t. refl))) k
few_done config (Asked (Ampdu s octets)) w is some r i k =
    few_kept config w _ (keeps_same w _ (same_on_station w s _ (λ x t. refl))) k
few_done config (Asked (Stop s)) w is some r i k =
    few_kept config w _ (keeps_same w _ (same_on_station w s _ (λ x t. refl))) k
few_done config (Asked (Start s)) w is some r i k =
    few_kept config w _ (keeps_same w _ (same_on_station w s _ (λ x t. refl))) k
few_done config (Asked (Wake s)) w is some r i k =
    few_kept config w _ (keeps_same w _ (same_on_station w s _ (λ x t. refl))) k
few_done config (Asked (Poll s)) w is some r i k =
    few_kept config w _ (keeps_same w _ (same_on_station w s _ (λ x t. refl))) k
few_done config (Asked (Rx s c air)) w is some r i k =
    few_kept config w _ (keeps_same w _ (same_on_share w s c _)) k
few_done config (Asked Reap) w is some r i k = few_kept config w _ (keeps_reaped w.finished w) k
few_done config (Asked (Unsent e n)) w is some r i k = few_kept config w _
    (keeps_open (IsAsShort w) (exchange w e) w _ (found_short w e) (λ x. keeps_unsent w x n)) k
few_done config (Asked (GiveUp e n)) w is some r i k = few_kept config w _
    (keeps_open (IsAsShort w) (exchange w e) w _ (found_short w e) (λ x. keeps_given_up w x n)) k
few_done config (Asked (Flush s t)) w is some r i k = few_kept config w _ (keeps_flushed w s t) k
few_done config (Asked (Offload s exponent weight)) w is some r i k =
    few_kept config w _ (keeps_offloaded w s exponent weight) k
few_done config (Asked (Weight s weight)) w is some r i k =
    few_kept config w _ (keeps_same w _ (same_weighed w s weight)) k
few_done config (Asked (Plain s start exponent weight)) w is some r i k =
    few_kept config w _ (keeps_plain w s start exponent weight) k
few_done config (Asked (Hold s t)) w is some r i k =
    few_kept config w _ (keeps_same w _ (same_held w s t r.1.1.1.0 r.1.1.1.1.0)) k
few_done config (Asked (Begin s t window)) w is some r i k = few_kept config w _ (keeps_begun w s t window) k
few_done config (Asked (Free s t)) w is some r i k =
    few_kept config w _ (keeps_same w _ (same_freed w s t (not_no (is_held_back w s t) r.1.1.1.0))) k
few_done config (Asked (Cease s t)) w is some r i k = few_kept config w _ (keeps_ceased w s t) k
few_done config (Asked (Group ask)) w is some r i k = record { numbers = k.numbers; opened = k.opened }
few_done config (Asked (Service ask)) w is some r i k =
    few_kept config w _ (keeps_same w _ (same_on_station w (station_served ask) _ (λ x t. refl))) k
few_done config (Asked (Bss s b)) w is some r i k =
    few_kept config w _ (keeps_same w _ (same_on_station w s _ (λ x t. refl))) k

few_answer : (config : Config) (o : Option Refusal) (w : World) (note : Note) → refusal w note ≡ o →
    w.config ≡ config → 1 ≤ config.agg → IsLawful w → IsFew config w →
    IsFew config (judged_outcome w note o).world
unfolding judged_outcome
few_answer config (Some r) w note e is some i k = few_kept config w _ (keeps_refused note r w) k
few_answer config None w note e is some i k =
    few_kept config (outcome_of w note).world _
    (keeps_same _ _ (same_listed (concerned_station w note) (outcome_of w note).world))
    (few_done config note w is some (no_row (refusals w note) e) i k)

few_step : (config : Config) (w : World) (note : Note) → w.config ≡ config → 1 ≤ config.agg → IsLawful w →
    IsFew config w → IsFew config (step w note).world
unfolding step
few_step config w note is some i k = few_answer config (refusal w note) w note refl is some i k

-- ---- the run

few_run : (config : Config) (h : List Entry) (w : World) → w.config ≡ config → 1 ≤ config.agg → IsLawful w →
    IsFew config w → IsFew config (world_after w h)
unfolding world_after
few_run config [] w is some i k = k
few_run config (e ∷ es) w is some i k =
    few_run config es (step w e.1).world (config_step w e.1 ∙ is) some (lawful_step w e.1 i)
    (few_step config w e.1 is some i k)

few : (config : Config) (h : List Entry) → IsInRange config → IsFew config (world_after (opening config) h)
few config h range = few_run config h (opening config) refl range.agg.0 (lawful_at_first config)
    (record { numbers = λ s t. omega arith; opened = tt })

pub unsettled_law : (config : Config) (h : List Entry) → IsInRange config → UnsettledLaw config h
unsettled_law config h range m s t =
    let w : World = world_at config h m in
    subst (λ (n : ℕ). n ≤ most_unsettled config) (sym (tally_count is_open (session w s t).slots))
    ((few config (take m h) range).numbers s t)
