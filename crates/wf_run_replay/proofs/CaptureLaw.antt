-- Proves that `frames` lists the packets of a trace's capture, in order, from the law of written captures.
use Rattle.std.proofs.Common.{◌≡◌, ℕ, ◌≤◌, List, [], length, Option, Some, None, true, refl, sym, subst}
use Rattle.wf_frame.specs.declared.settings.Config.{Config}
use Rattle.wf_trace.specs.Reading.{reading}
use Rattle.wf_report.specs.ListedPackets.{most_octets_read}
use Rattle.wf_report.specs.ListingLaw.{IsListed, capture_of_packets}
use Rattle.wf_report.proofs.WrittenCaptures.{written_law}
use Rattle.wf_report.specs.Captures.{most_calls_timed}
use Rattle.wf_report.proofs.Listed.{run_listed}
use Rattle.wf_trace_laws.specs.Histories.{settings_among, history_among}
use Rattle.wf_trace_laws.proofs.Ranges.{reading_in, trace_laws}
use Rattle.wf_run_replay.specs.Captured.{packets_with}
use Rattle.wf_run_replay.specs.CaptureOutcome.{CaptureLaw}

abbrev IsListedWith : Option Config → List ℕ → Type 0
IsListedWith config input = length (history_among (reading true input).items) ≤ most_calls_timed →
    length (capture_of_packets (packets_with config (history_among (reading true input).items)))
    ≤ most_octets_read → IsListed (packets_with config (history_among (reading true input).items))

pub capture_law : (input : List ℕ) → CaptureLaw input
capture_law input = of (settings_among (reading true input).items) refl
  where
    of : (config : Option Config) → settings_among (reading true input).items ≡ config →
        IsListedWith (settings_among (reading true input).items) input
    of None none = subst (λ (o : Option Config). IsListedWith o input) (sym none) (λ timed. written_law [] tt)
    of (Some config) is =
        subst (λ (o : Option Config). IsListedWith o input) (sym is)
        (run_listed config (history_among (reading true input).items) (reading_in true input config is)
        ((trace_laws true input config is).1))
