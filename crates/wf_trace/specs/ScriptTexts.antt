-- Defines the text that is written for a script.
use Rattle.std.specs.Prelude.{ℕ, Bool, List, [], ◌∷◌, ◌++◌, Option, Some, None}
use Rattle.wf_trace.specs.Faults.{fault_line}
use Rattle.wf_trace.specs.declared.script.ending.Ending.{Ending}
use Rattle.wf_trace.specs.declared.script.ending.Ending.TheVariants.{Finish, Bad}
use Rattle.wf_trace.specs.Scripts.{Script}

-- the manner of answering: what is written for an event, the state after it, whether it may run out of
-- memory, and what is written at the end of a script
pub record Manner (E W : Type 0) : Type 0 where
  pub answer : W → E → List ℕ
  pub after : W → E → W
  pub wants : W → E → Bool
  pub closing : W → List ℕ

-- the answers to events, in order
abbrev pub answers : {E W : Type 0} → Manner E W → W → List E → List ℕ
answers m w [] = []
answers m w (event ∷ events) = m.answer w event ++ answers m (m.after w event) events

abbrev pub state_behind : {E W : Type 0} → Manner E W → W → List E → W
state_behind m w [] = w
state_behind m w (event ∷ events) = state_behind m (m.after w event) events

-- the last lines, or the line of the fault
abbrev pub last_lines : {E W : Type 0} → Manner E W → W → Option Ending → List ℕ
last_lines m w None = []
last_lines m w (Some Finish) = m.closing w
last_lines m w (Some (Bad fault)) = fault_line fault

abbrev pub text : {E W : Type 0} → Manner E W → W → Script E → List ℕ
text m w s = answers m w s.events ++ last_lines m (state_behind m w s.events) s.ending
