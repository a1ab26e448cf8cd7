-- Defines the agreement law, which holds however messages are lost, repeated or reordered, and ends
-- restarted.
use Rattle.std.specs.Prelude.{◌≡◌, ℕ, ◌+◌, ◌≤◌, ◌&&◌, not, Bool, List, [], ◌∷◌, Option, Some, if◌then◌else◌}
use Rattle.wf_session.specs.declared.agreement.Agreement.{Agreement}
use Rattle.wf_session.specs.Ends.{has_token}
use Rattle.wf_session.specs.declared.event.Event.{Event}
use Rattle.wf_session.specs.World.{Parley, new_parley, after_event, after_events}

abbrev pub originators : Parley → Option Agreement
originators w = w.originator.opened

abbrev pub recipients : Parley → Option Agreement
recipients w = w.recipient.opened

-- if both ends are open, they hold the same token, window and start
abbrev pub EndsAgree : Parley → Type 0
EndsAgree w = (a b : Agreement) → originators w ≡ Some a → recipients w ≡ Some b → a ≡ b

-- if the originator is open, its token is the last one that opened at the recipient
abbrev pub RecipientOpened : Parley → Type 0
RecipientOpened w = (a : Agreement) → originators w ≡ Some a → w.recipient.last ≡ a.token

-- whether an end opens with this token as its agreement changes from `before` to `after`
abbrev pub opens : ℕ → Option Agreement → Option Agreement → Bool
opens token before after = has_token token after && not (has_token token before)

-- how often an end opens with this token in a list of events
unfoldable pub times_opened : (Parley → Option Agreement) → ℕ → Parley → List Event → ℕ
times_opened end token w [] = 0
times_opened end token w (event ∷ later) =
    (if opens token (end w) (end (after_event event w)) then 1 else 0) + times_opened end token
    (after_event event w) later

-- after every list of events: the ends agree, the recipient opened the agreement that is open at the
-- originator, and each token opened at most once at each end
pub record AgreementLaw (tid limit : ℕ) (events : List Event) : Type 0 where
  pub agree : EndsAgree (after_events (new_parley tid limit) events)
  pub recipient_opened : RecipientOpened (after_events (new_parley tid limit) events)
  pub once_originator : (token : ℕ) → times_opened originators token (new_parley tid limit) events ≤ 1
  pub once_recipient : (token : ℕ) → times_opened recipients token (new_parley tid limit) events ≤ 1
