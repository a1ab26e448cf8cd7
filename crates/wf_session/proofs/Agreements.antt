-- Proves the agreement law from `Sound` and `Once`: all messages with one token have the same terms, so both
-- ends have the same agreement.
use Rattle.std.proofs.Common.{◌≡◌, ℕ, List, Some, sym, ◌∙◌, ap, subst}
use Rattle.wf_session.specs.declared.agreement.Agreement.{Agreement}
use Rattle.wf_session.specs.Ends.{granted}
use Rattle.wf_session.specs.declared.event.Event.{Event}
use Rattle.wf_session.specs.World.{Parley, new_parley, after_events}
use Rattle.wf_session.specs.Laws.{EndsAgree, RecipientOpened, AgreementLaw}
use Rattle.wf_session.proofs.Sound.{Terms, OpenedFits, IsGood, opening_good, events_good}
use Rattle.wf_session.proofs.Once.{originator_once, recipient_once}

-- two agreements that fit the same last token are the same
same_agreement : (terms : ℕ → Terms) (limit last : ℕ) (a b : Agreement) →
    OpenedFits terms limit last (Some a) → OpenedFits terms limit last (Some b) → a ≡ b
same_agreement terms limit last a b first second =
    joined (first.0 ∙ sym second.0)
    (first.1 ∙ ap (λ t. granted limit (terms t).window) (first.0 ∙ sym second.0) ∙ sym second.1)
    (first.2 ∙ ap (λ t. (terms t).start) (first.0 ∙ sym second.0) ∙ sym second.2)
  where
    joined : a.token ≡ b.token → a.window ≡ b.window → a.start ≡ b.start → a ≡ b
    joined p q r i = record { token = p i; window = q i; start = r i }

ends_agree : (w : Parley) → IsGood w → EndsAgree w
ends_agree w (terms, s) a b here there =
    same_agreement terms w.recipient.limit w.recipient.last a b
    (subst (OpenedFits terms w.recipient.limit w.recipient.last) here s.opened_there)
    (subst (OpenedFits terms w.recipient.limit w.recipient.last) there s.accepted)

recipient_opened : (w : Parley) → IsGood w → RecipientOpened w
recipient_opened w (terms, s) a here = sym (subst
    (OpenedFits terms w.recipient.limit w.recipient.last) here s.opened_there).0

pub agreements : (tid limit : ℕ) (events : List Event) → AgreementLaw tid limit events
agreements tid limit events =
    let good = opening_good tid limit in
    let after = events_good events (new_parley tid limit) good in
    record {
      agree = ends_agree (after_events (new_parley tid limit) events) after;
      recipient_opened = recipient_opened (after_events (new_parley tid limit) events) after;
      once_originator = λ token. originator_once token events (new_parley tid limit) good;
      once_recipient = λ token. recipient_once token events (new_parley tid limit) good;
    }
