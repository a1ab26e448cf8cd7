-- Defines how the outcomes of transmissions are shown as numbers, and what an end by them leaves of a path.
use Rattle.std.specs.Prelude.{◌≡◌, ◌≤◌, ◌==◌, ℕ, nat_lt, Bool, List, Option, Some, None, if◌then◌else◌}
use Rattle.std.specs.List.{list_any}
use Rattle.wf_frame.specs.declared.answers.Brief.TheVariants.{Refused}
use Rattle.wf_frame.specs.declared.notes.Refusal.{Refusal}
use Rattle.wf_frame.specs.declared.notes.Refusal.TheVariants.{NoExchange, BadIndex}
use Rattle.wf_def_world.specs.World.{Exchange}
use Rattle.wf_path.specs.Each.{IsEndedEach}
use Rattle.wf_path.specs.declared.each.Outcome.{Outcome}
use Rattle.wf_path.specs.declared.each.Outcome.TheVariants.{Acked, Retry, Unsent, GaveUp}
use Rattle.wf_c.specs.Numbers.{numbers_of}
use Rattle.wf_c.specs.declared.held.Held.{Held}
use Rattle.wf_c.specs.declared.reply.Reply.{Reply}

-- the outcome with this number; 0 to 3 are the numbers of outcomes
abbrev pub outcome_shown : ℕ → Outcome
outcome_shown n =
    if n == 0 then Acked
    else (if n == 1 then Retry
    else (if n == 2 then Unsent else GaveUp))

-- whether one of these numbers is no number of an outcome
abbrev pub has_bad_outcome : List ℕ → Bool
has_bad_outcome = list_any (λ n. nat_lt 3 n)

-- the code of such numbers
abbrev pub bad_outcome : ℕ
bad_outcome = 68

-- The effect of the end of exchange e by the outcomes of its transmissions: h before, k after, and the
-- caller's struct. `air` is the airtime that was given, if any. No node of the reserve is taken.
pub record IsExchangeEndedEach (h : Held) (e : ℕ) (outcomes : List Outcome) (air : Option ℕ) (k : Held)
    (shown : Reply) : Type 0 where
  pub ended : IsEndedEach h.path e outcomes air k.path k.answer.brief
  pub reserve : h.reserve ≤ k.reserve
  pub shows : shown ≡ numbers_of k.answer.brief

-- why an exchange, if it is open, does not end by more than 256 outcomes: no exchange has as many
-- transmissions
abbrev pub refusal_of_many : Option Exchange → Refusal
refusal_of_many None = NoExchange
refusal_of_many (Some x) = BadIndex

-- The effect of a call that is refused for this reason: h before, k after, and the caller's struct.
pub record IsEndRefused (h : Held) (reason : Refusal) (k : Held) (shown : Reply) : Type 0 where
  pub path : k.path ≡ h.path
  pub reserve : h.reserve ≤ k.reserve
  pub shows : shown ≡ numbers_of (Refused reason)
