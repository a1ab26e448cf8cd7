-- Defines both ends of one TID's agreement and the messages between them. Each message that was ever sent can
-- arrive at any time, any number of times or never. So messages are lost, repeated and reordered.
use Rattle.std.specs.Prelude.{ℕ, true, false, List, [], ◌∷◌, ◌++◌, Option, Some, None, Result, Ok, Err, option_to_list, slice_get}
use Rattle.wf_session.specs.declared.action.Action.{Action}
use Rattle.wf_session.specs.declared.event.Event.{Event}
use Rattle.wf_session.specs.declared.event.Event.TheVariants.{Ask, Again, ToOriginator, ToRecipient, CloseOriginator, CloseRecipient, RestartOriginator, RestartRecipient}
use Rattle.wf_session.specs.declared.offer.OfferFault.{OfferFault}
use Rattle.wf_session.specs.Ends.{OfferValue, AcceptValue, new_offer, new_accept, ask_answer, after_ask, asked_again, offer_heard, accept_heard, accept_answer, teardown_of}

pub record Parley : Type 0 where
  pub originator : OfferValue
  pub recipient : AcceptValue
  pub asks : List Action  -- all that the originator ever sent
  pub answers : List Action  -- all that the recipient ever sent

-- two new ends of a TID, the recipient with this limit, and no messages
abbrev pub new_parley : ℕ → ℕ → Parley
new_parley tid limit = record {
  originator = new_offer tid 0;
  recipient = new_accept tid limit 0;
  asks = [];
  answers = [];
}

-- the messages, with one more if one is sent
abbrev pub with_sent : List Action → Option Action → List Action
with_sent sent message = sent ++ option_to_list message

-- the request of an ask; None if the ask was refused
abbrev pub request_of_ask : Result Action OfferFault → Option Action
request_of_ask (Ok message) = Some message
request_of_ask (Err fault) = None

-- a message arrives; nothing changes if no message has this number
abbrev pub to_originator : Option Action → Parley → Parley
to_originator None w = w
to_originator (Some message) w = record w { originator = offer_heard message w.originator }

abbrev pub to_recipient : Option Action → Parley → Parley
to_recipient None w = w
to_recipient (Some message) w =
    record w {
      recipient = accept_heard message w.recipient;
      answers =
          with_sent w.answers (accept_answer message w.recipient);
    }

unfoldable pub after_event : Event → Parley → Parley
after_event (Ask window start) w =
    record w {
      originator = after_ask window start w.originator;
      asks =
          with_sent w.asks (request_of_ask (ask_answer window start w.originator));
    }
after_event Again w = record w { asks = with_sent w.asks (asked_again w.originator) }
after_event (ToOriginator index) w = to_originator (slice_get w.answers index) w
after_event (ToRecipient index) w = to_recipient (slice_get w.asks index) w
after_event CloseOriginator w =
    record w {
      originator = record w.originator { opened = None };
      asks = with_sent w.asks (teardown_of w.originator.tid true w.originator.opened);
    }
after_event CloseRecipient w =
    record w {
      recipient = record w.recipient { opened = None };
      answers = with_sent w.answers (teardown_of w.recipient.tid false w.recipient.opened);
    }
after_event RestartOriginator w = record w { originator = new_offer w.originator.tid w.originator.last }
after_event RestartRecipient w = record w {
  recipient =
      new_accept w.recipient.tid w.recipient.limit w.recipient.last;
}

-- after a list of events, one after the other
unfoldable pub after_events : Parley → List Event → Parley
after_events w [] = w
after_events w (event ∷ later) = after_events (after_event event w) later
