-- Defines the command `live`: the histories that its workers can make, and the text that it writes.
use Rattle.std.specs.Prelude.{◌≡◌, ◌⊎◌, ℕ, ◌+◌, ◌<◌, ◌≤◌, Bool, List, [], ◌++◌, length, map, All}
use Rattle.wf_frame.specs.Settings.{standard}
use Rattle.wf_trace.specs.Traces.{trace_of, trace_items}
use Rattle.wf_run_histories.specs.Opening.{opening_calls}
use Rattle.wf_io.specs.Fronts.{IsFrontOf}
use Rattle.wf_io.specs.declared.status.Status.{Status}
use Rattle.wf_io.specs.declared.status.Status.TheVariants.{Done, Usage, BadTrace, ReadFault, WriteFault, NoMemory}
use Rattle.wf_trace.specs.Reading.{reading}
use Rattle.wf_def_world.specs.World.{World, opening}
use Rattle.wf_def_world.specs.Run.{Entry, world_after}
use Rattle.wf_def_world.specs.Text.{history_summary}
use Rattle.wf_run_histories.specs.Workloads.{Made, Driver, IsWalk, walked, driver_of, sender_calls}
use Rattle.wf_run_histories.specs.Workloads.Phase.{Ends}
use Rattle.wf_run_histories.specs.Makings.{made_by}
use Rattle.wf_run_histories.specs.Crew.{driver_count, driver_quota, class_of_driver}

-- The world in which the gate opens.
abbrev pub opened_world : ℕ → World
opened_world senders = world_after (opening standard) (opening_calls senders)

-- The calls of a driver are a walk. It ended when nobody was ready and the clock had shown that all senders
-- had ended, or it went on until all calls of its seat were made.
pub record IsDriven (d : Driver) (made : List Made) : Type 0 where
  pub walk : IsWalk d made
  pub ended : ((walked d made).phase ≡ Ends) ⊎ (length made ≡ driver_quota)

-- A history of `live`: the opening calls, followed by the calls of the workers, each exactly once.
pub record IsLiveHistory (seed senders frames : ℕ) (history : List Entry) : Type 0 where
  pub calls : List Entry
  pub is : history ≡ opening_calls senders ++ calls
  pub few : length history ≤ standard.calls
  -- Every caller is a sender or a driver.
  pub callers : All (λ e. e.0 < senders + driver_count) calls
  -- All calls of each sender, in order.
  pub sent : (s : ℕ) → s < senders → map (λ m. m.0) (made_by s (opened_world senders) calls)
      ≡ sender_calls seed s frames
  -- The calls of each driver, with their replies.
  pub driven : (driver : ℕ) → driver < driver_count →
      IsDriven (driver_of seed driver (class_of_driver driver) senders)
      (made_by (senders + driver) (opened_world senders) calls)

-- The text that is written for a history: its trace and its summary.
abbrev pub live_text : List Entry → List ℕ
live_text history = trace_of history ++ history_summary standard history

-- The written octets are the text of the history, and the trace in them is read as this history.
pub record TellsOf (history : List Entry) (written : List ℕ) : Type 0 where
  pub text : written ≡ live_text history
  pub read : (closed : Bool) → reading closed written ≡ trace_items history

-- The octets that were written, by the status: the text of a history of `live`, a prefix of one, or nothing.
abbrev pub LiveStatusSays : Status → ℕ → ℕ → ℕ → List ℕ → Type 0
LiveStatusSays Done seed senders frames written = (history : List Entry) ×
    IsLiveHistory seed senders frames history × TellsOf history written
LiveStatusSays WriteFault seed senders frames written = (history : List Entry) ×
    IsLiveHistory seed senders frames history × IsFrontOf written (live_text history)
LiveStatusSays NoMemory seed senders frames written = written ≡ []
LiveStatusSays BadTrace seed senders frames written = ⊥
LiveStatusSays ReadFault seed senders frames written = ⊥
LiveStatusSays Usage seed senders frames written = ⊥
