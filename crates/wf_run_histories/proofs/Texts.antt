-- Proves that the trace and the summary that are written are the text of the history, and that the trace is
-- read as this history.
use Rattle.std.proofs.Common.{◌≡◌, ℕ, List, length, refl, ◌∙◌, ap, subst}
use Rattle.std.specs.Prelude.{Option, Result, Ok, Err, OnOk}
use Rattle.std.specs.Io.KnownBytes.{append_known}
use Rattle.wf_frame.specs.Settings.{standard}
use Rattle.wf_frame.specs.declared.settings.Config.{Config}
use Rattle.wf_trace.specs.Traces.{CanBeNamed, trace_of}
use Rattle.wf_trace.proofs.HistoryLaws.{trace_read}
use Rattle.wf_io.specs.Fronts.{HoldsFront}
use Rattle.wf_io.proofs.FrontLaws.{front_first, front_next, two_written}
use Rattle.wf_def_world.specs.World.{opening}
use Rattle.wf_def_world.specs.Run.{Entry, Past, world_of, world_after}
use Rattle.wf_def_world.specs.Text.{summary, history_summary}
use Rattle.wf_run_histories.specs.Lives.{IsLiveHistory, TellsOf, live_text}

-- The summary of a cell with the standard settings.
pub summary_is : (p : Past) → p.config ≡ standard →
    summary (world_of p) (length p.history) ≡ history_summary standard p.history
summary_is p is = ap (λ (c : Config). summary (world_after (opening c) p.history) (length p.history)) is

pub text_written : (p : Past) → p.config ≡ standard → (old now new : Option (List ℕ)) →
    now ≡ append_known old (trace_of p.history) →
    new ≡ append_known now (summary (world_of p) (length p.history)) →
    new ≡ append_known old (live_text p.history)
text_written p is old now new first second =
    two_written old now new (trace_of p.history) (history_summary standard p.history) first
    (second ∙ ap (append_known now) (summary_is p is))

-- A consequence of a fact that holds after success.
pub on_ok : {T E P Q : Type 0} (r : Result T E) → OnOk r P → (P → Q) → OnOk r Q
on_ok (Ok x) p follows = follows p
on_ok (Err e) p follows = tt

pub trace_front : (p : Past) (old new : Option (List ℕ)) → HoldsFront old new (trace_of p.history) →
    HoldsFront old new (live_text p.history)
trace_front p old new front = front_first old new (trace_of p.history)
    (history_summary standard p.history) front

pub text_front : (p : Past) → p.config ≡ standard → (old now new : Option (List ℕ)) →
    now ≡ append_known old (trace_of p.history) →
    HoldsFront now new (summary (world_of p) (length p.history)) → HoldsFront old new (live_text p.history)
text_front p is old now new first front =
    front_next old now new (trace_of p.history) (history_summary standard p.history) first
    (subst (HoldsFront now new) (summary_is p is) front)

-- The complete text has the trace of the history, which is read as this history.
pub tells : (seed senders frames : ℕ) (history : List Entry) → IsLiveHistory seed senders frames history →
    CanBeNamed history → TellsOf history (live_text history)
tells seed senders frames history live range =
    record {
      text = refl;
      read = λ closed. trace_read history closed
          (history_summary standard history) range live.few;
    }
