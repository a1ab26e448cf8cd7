-- Defines the law of agreements for a script.
use Rattle.std.specs.Prelude.{ℕ, take}
use Rattle.wf_session.specs.declared.event.Event.{Event}
use Rattle.wf_session.specs.Laws.{AgreementLaw}
use Rattle.wf_trace.specs.Scripts.{Script}

-- After each event of a script: if both ends have an agreement open, these are equal, the recipient has
-- opened the one that the originator has open, and each end opened each token at most once.
abbrev pub HasLaw : Script Event → Type 0
HasLaw s = (n : ℕ) → AgreementLaw 0 64 (take n s.events)
