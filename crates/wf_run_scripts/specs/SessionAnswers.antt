-- Defines the text that `session` writes: the answer to each event, and the lines after the line `end`.
use Rattle.std.specs.Prelude.{ℕ, Bool, true, false, ◌&&◌, is_none, List, [], ◌∷◌, ◌++◌, codes, decimal, length, Option, Some, None, option_map, slice_get}
use Rattle.std.specs.List.{join_with_byte}
use Rattle.wf_session.specs.declared.agreement.Agreement.{Agreement}
use Rattle.wf_session.specs.declared.event.Event.{Event}
use Rattle.wf_session.specs.declared.event.Event.TheVariants as event
use Rattle.wf_session.specs.declared.offer.OfferFault.{OfferFault}
use Rattle.wf_session.specs.declared.offer.OfferFault.TheVariants as fault
use Rattle.wf_session.specs.Ends.{ask_fault}
use Rattle.wf_session.specs.Laws.{originators, recipients}
use Rattle.wf_session.specs.World.{Parley, new_parley, after_event}
use Rattle.wf_frame.specs.Words.{line}
use Rattle.wf_trace.specs.ScriptTexts.{Manner}
use Rattle.wf_run_scripts.specs.declared.session.refusal.Refusal.{Refusal}
use Rattle.wf_run_scripts.specs.declared.session.refusal.Refusal.TheVariants.{Spent, Open, NotAsked, NotOpen, NoMessage}

-- Why an event is refused.
abbrev pub refusal_of_offer : OfferFault → Refusal
refusal_of_offer fault.Spent = Spent
refusal_of_offer (fault.Open token) = Open token

-- The event is refused if something is not there.
abbrev pub unless_there : {T : Type 0} → Refusal → Option T → Option Refusal
unless_there session_refusal None = Some session_refusal
unless_there session_refusal (Some thing) = None

abbrev pub session_refusal : Event → Parley → Option Refusal
session_refusal (event.Ask window start) w = option_map refusal_of_offer (ask_fault w.originator)
session_refusal event.Again w = unless_there NotAsked w.originator.asked
session_refusal (event.ToOriginator index) w = unless_there NoMessage (slice_get w.answers index)
session_refusal (event.ToRecipient index) w = unless_there NoMessage (slice_get w.asks index)
session_refusal event.CloseOriginator w = unless_there NotOpen w.originator.opened
session_refusal event.CloseRecipient w = unless_there NotOpen w.recipient.opened
session_refusal event.RestartOriginator w = None
session_refusal event.RestartRecipient w = None

abbrev pub session_refusal_words : Refusal → List (List ℕ)
session_refusal_words Spent = codes "spent" ∷ []
session_refusal_words (Open token) = codes "open" ∷ decimal token ∷ []
session_refusal_words NotAsked = codes "not-asked" ∷ []
session_refusal_words NotOpen = codes "not-open" ∷ []
session_refusal_words NoMessage = codes "no-message" ∷ []

-- One end: `-`, or `TOKEN:WINDOW:START` of its agreement.
abbrev pub side_word : Option Agreement → List ℕ
side_word None = codes "-"
side_word (Some a) = join_with_byte 58 (decimal a.token ∷ decimal a.window ∷ decimal a.start ∷ [])

-- Both ends.
abbrev pub ends_line : Parley → List ℕ
ends_line w = line (codes "a" ∷ side_word (originators w) ∷ codes "b" ∷ side_word (recipients w) ∷ [])

-- The answer to an event: both ends after it, or why it is refused.
abbrev pub answer_of : Option Refusal → Parley → List ℕ
answer_of None after = ends_line after
answer_of (Some session_refusal) after = line (codes "refused" ∷ session_refusal_words session_refusal)

abbrev pub answer : Parley → Event → List ℕ
answer w event = answer_of (session_refusal event w) (after_event event w)

-- The `join` line of a trace with the parameters of the agreement, if both ends have it open; S is 0 and the
-- A-MPDU length exponent is 3.
abbrev pub join_line : Option Agreement → Option Agreement → List ℕ
join_line None there = line (codes "no" ∷ codes "agreement" ∷ [])
join_line (Some a) None = line (codes "no" ∷ codes "agreement" ∷ [])
join_line (Some a) (Some b) = line (codes "join" ∷ codes "0" ∷ decimal a.window ∷ decimal a.start ∷ codes "3" ∷ [])

-- The text after the line `end`: how many messages each end sent, and the agreement.
abbrev pub closing : Parley → List ℕ
closing w = line (codes "sent" ∷ decimal (length w.asks) ∷ decimal (length w.answers) ∷ []) ++ join_line (originators w) (recipients w)

-- The events at which an end may send a message.
abbrev pub may_send : Event → Bool
may_send (event.Ask window start) = true
may_send event.Again = true
may_send (event.ToOriginator index) = false
may_send (event.ToRecipient index) = true
may_send event.CloseOriginator = true
may_send event.CloseRecipient = true
may_send event.RestartOriginator = false
may_send event.RestartRecipient = false

-- Memory may run out for the message of an event that is not refused.
abbrev pub wants : Parley → Event → Bool
wants w event = may_send event && is_none (session_refusal event w)

abbrev pub manner : Manner Event Parley
manner = record { answer = answer; after = λ w event. after_event event w; wants = wants; closing = closing }

-- Both ends of TID 0. The recipient's limit is 64.
abbrev pub first : Parley
first = new_parley 0 64
