-- Defines the two ends of one TID's agreement: the originator requests it, and the recipient makes it (IEEE
-- 802.11-2012, 9.21.2 and 9.21.4). Each request has a token, one above the last. A request whose token is not
-- above the last one that opened at the recipient opens nothing.
use Rattle.std.specs.Prelude.{ℕ, ◌+◌, ◌≤◌, ◌==◌, ◌&&◌, not, nat_lt, nat_le, Bool, false, Option, Some, None, Result, Ok, Err, option_map, min, if◌then◌else◌}
use Rattle.std.specs.Option.{ForSome}
use Rattle.wf_session.specs.declared.action.Action.{Action}
use Rattle.wf_session.specs.declared.action.Action.TheVariants.{Request, Response, Teardown}
use Rattle.wf_session.specs.declared.agreement.Agreement.{Agreement}
use Rattle.wf_session.specs.declared.decoding.ActionFault.{ActionFault}
use Rattle.wf_session.specs.declared.offer.OfferFault.{OfferFault}
use Rattle.wf_session.specs.declared.offer.OfferFault.TheVariants.{Spent, Open}

-- whether this is an agreement with this token
abbrev pub has_token : ℕ → Option Agreement → Bool
has_token token None = false
has_token token (Some agreement) = agreement.token == token

abbrev pub response_of : ℕ → Agreement → Action
response_of tid agreement = Response agreement.token 0 tid agreement.window

abbrev pub request_of : ℕ → Agreement → Action
request_of tid agreement = Request agreement.token tid agreement.window agreement.start

-- the message that ends an open agreement, with reason 1
abbrev pub teardown_of : ℕ → Bool → Option Agreement → Option Action
teardown_of tid initiator opened = option_map (λ (agreement : Agreement). Teardown tid initiator 1) opened

-- the agreement, if there is one, has a window of 1 to 256
abbrev pub HasWindow : Option Agreement → Type 0
HasWindow o = ForSome o (λ (agreement : Agreement). (1 ≤ agreement.window) × (agreement.window ≤ 256))

-- ---- the originator
pub record OfferValue : Type 0 where
  pub tid : ℕ
  pub last : ℕ  -- the last token that was used, 0 before the first
  pub asked : Option Agreement  -- the request that is not settled yet
  pub opened : Option Agreement

abbrev pub new_offer : ℕ → ℕ → OfferValue
new_offer tid last = record { tid = tid; last = last; asked = None; opened = None }

-- why a request is refused: all tokens are used, or an agreement is open
abbrev pub ask_fault : OfferValue → Option OfferFault
ask_fault e = if e.last == 255 then Some Spent
    else option_map (λ (agreement : Agreement). Open agreement.token) e.opened

-- the agreement that the next request asks for
abbrev pub next_wish : ℕ → ℕ → OfferValue → Agreement
next_wish window start e = record { token = e.last + 1; window = window; start = start }

-- the fault, if there is one; otherwise the message
abbrev pub fault_or : Option OfferFault → Action → Result Action OfferFault
fault_or None message = Ok message
fault_or (Some fault) message = Err fault

abbrev pub unless : Option OfferFault → OfferValue → OfferValue → OfferValue
unless None before after = after
unless (Some fault) before after = before

abbrev pub ask_answer : ℕ → ℕ → OfferValue → Result Action OfferFault
ask_answer window start e = fault_or (ask_fault e) (request_of e.tid (next_wish window start e))

abbrev pub after_ask : ℕ → ℕ → OfferValue → OfferValue
after_ask window start e = unless (ask_fault e) e
    (record e { last = e.last + 1; asked = Some (next_wish window start e) })

-- the last request again
abbrev pub asked_again : OfferValue → Option Action
asked_again e = option_map (request_of e.tid) e.asked

-- the end after a response to its request: a window from 1 to the requested one opens the agreement, and a
-- status other than 0 settles the request without one
abbrev pub offer_settled : ℕ → ℕ → Agreement → OfferValue → OfferValue
offer_settled status window wish e =
    if status == 0 then (if nat_le 1 window && nat_le window wish.window
    then record e { asked = None; opened = Some (record wish { window = window }) } else e)
    else record e { asked = None }

abbrev pub with_response : ℕ → ℕ → ℕ → OfferValue → OfferValue
with_response token status window e = to_wish e.asked
  where
    to_wish : Option Agreement → OfferValue
    to_wish None = e
    to_wish (Some wish) = if wish.token == token then offer_settled status window wish e else e

-- the end after a message: only a response with its TID and the requested token, or a recipient's DELBA of
-- its TID, changes it
abbrev pub offer_heard : Action → OfferValue → OfferValue
offer_heard (Request token tid window start) e = e
offer_heard (Response token status tid window) e =
    if tid == e.tid then with_response token status window e else e
offer_heard (Teardown tid initiator reason) e =
    if (tid == e.tid) && not initiator then record e { opened = None } else e

-- the end after octets: the action that they contain is handled, and other octets change nothing
abbrev pub offer_received : Result Action ActionFault → OfferValue → OfferValue
offer_received (Ok message) e = offer_heard message e
offer_received (Err fault) e = e

-- ---- the recipient
pub record AcceptValue : Type 0 where
  pub tid : ℕ
  pub limit : ℕ  -- the greatest window
  pub last : ℕ  -- the last token that opened, 0 before the first
  pub opened : Option Agreement

abbrev pub new_accept : ℕ → ℕ → ℕ → AcceptValue
new_accept tid limit last = record { tid = tid; limit = limit; last = last; opened = None }

-- the granted window: the lesser of the requested one and the limit; a request for 0 gets the limit
abbrev pub granted : ℕ → ℕ → ℕ
granted limit window = if window == 0 then limit else min window limit

-- the end after a request of its TID: a token above the last opens an agreement, which replaces an open one
abbrev pub with_request : ℕ → ℕ → ℕ → AcceptValue → AcceptValue
with_request token window start e =
    if nat_lt e.last token then record e {
      last = token;
      opened =
          Some (record { token = token; window = granted e.limit window; start = start });
    }
    else e

-- the end after a message: only a request of its TID, or an originator's DELBA of its TID, changes it
abbrev pub accept_heard : Action → AcceptValue → AcceptValue
accept_heard (Request token tid window start) e =
    if tid == e.tid then with_request token window start e else e
accept_heard (Response token status tid window) e = e
accept_heard (Teardown tid initiator reason) e =
    if (tid == e.tid) && initiator then record e { opened = None } else e

-- the response to a request with this token, if the open agreement has that token
abbrev pub response_to : ℕ → AcceptValue → Option Action
response_to token e = if has_token token e.opened then option_map (response_of e.tid) e.opened else None

-- the answer to a message: a response to each request of its TID whose token is open afterwards, whether it
-- opened now or before
abbrev pub accept_answer : Action → AcceptValue → Option Action
accept_answer (Request token tid window start) e =
    if tid == e.tid then response_to token (with_request token window start e) else None
accept_answer (Response token status tid window) e = None
accept_answer (Teardown tid initiator reason) e = None

-- the end after octets, and the answer to them
abbrev pub accept_received : Result Action ActionFault → AcceptValue → AcceptValue
accept_received (Ok message) e = accept_heard message e
accept_received (Err fault) e = e

abbrev pub accept_reply : Result Action ActionFault → AcceptValue → Option Action
accept_reply (Ok message) e = accept_answer message e
accept_reply (Err fault) e = None
