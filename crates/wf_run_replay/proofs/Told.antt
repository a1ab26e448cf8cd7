-- Proves that the octets that are written call by call are the capture of the trace.
use Rattle.std.proofs.Common.{◌≡◌, ℕ, List, [], ◌∷◌, ◌++◌, append-nil, refl, sym, ◌∙◌, ap}
use Rattle.std.specs.Prelude.{Option, Some, None}
use Rattle.wf_frame.specs.declared.settings.Config.{Config}
use Rattle.wf_trace.specs.Reading.{Reading, reading}
use Rattle.wf_io.specs.declared.status.Status.{Status}
use Rattle.wf_io.specs.Capture.{file_head_octets}
use Rattle.wf_def_world.specs.World.{World, opening}
use Rattle.wf_def_world.specs.Run.{Entry}
use Rattle.wf_def_world.specs.Step.{step}
use Rattle.wf_report.specs.ListingLaw.{capture_of_packets}
use Rattle.wf_report.specs.Captures.{packets_by, packets_of, packets_from}
use Rattle.wf_report.specs.Packets.{octets_of_packets}
use Rattle.wf_report.proofs.Entries.{octets_of-append}
use Rattle.wf_trace_laws.specs.Histories.{settings_among, history_among}
use Rattle.wf_trace_laws.specs.Tellings.{told_calls, begun, told_so_far, told_whole}
use Rattle.wf_trace_laws.specs.Outcomes.{TraceOutcome}
use Rattle.wf_trace_laws.proofs.Tellings.{outcome_as}
use Rattle.wf_run_replay.specs.Captured.{packets_with, captured, telling}
use Rattle.wf_run_replay.specs.CaptureOutcome.{CaptureOutcome}

calls_are : (w : World) (es : List Entry) → told_calls telling w es ≡ octets_of_packets (packets_from w es)
unfolding packets_from
calls_are w [] = refl
calls_are w (e ∷ es) =
    ap (λ l. packets_of w e.1 ++ l) (calls_are (step w e.1).world es)
    ∙ sym (octets_of-append (packets_by w e.1) (packets_from (step w e.1).world es))

so_far_of : (config : Option Config) (history : List Entry) →
    begun telling config history ≡ capture_of_packets (packets_with config history)
so_far_of None history = sym (append-nil file_head_octets)
so_far_of (Some config) history = ap (λ l. file_head_octets ++ l) (calls_are (opening config) history)

so_far_is : (r : Reading) → told_so_far telling r ≡ captured r
so_far_is r = so_far_of (settings_among r.items) (history_among r.items)

whole_is : (r : Reading) → told_whole telling r ≡ captured r
whole_is r = append-nil (told_so_far telling r) ∙ so_far_is r

-- The outcome of the telling is the outcome of a capture.
pub said : (status : Status) (input taken written : List ℕ) →
    TraceOutcome (λ (r : Reading). told_so_far telling r) (λ (r : Reading). told_whole telling r) status input
    taken written → CaptureOutcome status input taken written
said = outcome_as (λ (r : Reading). told_so_far telling r) captured
    (λ (r : Reading). told_whole telling r) captured
    (λ closed octets. so_far_is (reading closed octets))
    (λ closed octets. whole_is (reading closed octets))
