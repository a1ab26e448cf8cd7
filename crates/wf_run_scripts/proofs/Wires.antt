-- Proves that the octets of a message decode to the action that was sent, and that both ends keep their TID
-- and limit.
use Rattle.std.proofs.Common.{◌≡◌, ℕ, zero, suc, ◌==◌, ◌&&◌, nat_lt, List, [], ◌∷◌, refl, sym, ◌∙◌, ap, All, map}
use Rattle.std.specs.Prelude.{Option, Some, None, Result, Ok, Err, option_map, slice_get}
use Rattle.std.proofs.lemmas.List.Elements.{All-head, All-tail}
use Rattle.wf_session.specs.declared.action.Action.{Action}
use Rattle.wf_session.specs.declared.action.Action.TheVariants.{Request, Response, Teardown}
use Rattle.wf_session.specs.declared.decoding.ActionFault.{ActionFault}
use Rattle.wf_session.specs.declared.event.Event.TheVariants.{ToOriginator, ToRecipient}
use Rattle.wf_session.specs.Ends.{OfferValue, AcceptValue, granted, offer_received, with_request, accept_heard, accept_answer, accept_received, accept_reply}
use Rattle.wf_session.specs.Faults.{first_action_fault, action_read, decoded_action}
use Rattle.wf_session.specs.Layout.{action_in}
use Rattle.wf_session.specs.World.{Parley, with_sent, after_event}
use Rattle.wf_session.proofs.Sound.{choose}
use Rattle.wf_run_scripts.specs.declared.session.refusal.Refusal.TheVariants.{NoMessage}
use Rattle.wf_run_scripts.specs.SessionAnswers.{unless_there}
use Rattle.wf_run_scripts.specs.Wires.{IsRead, HasEnds}

no_fault : (fault : Option ActionFault) (action other : Action) → action_read fault action ≡ Ok other →
    fault ≡ None
no_fault None action other is = refl
no_fault (Some fault) action other is = absurd (cc)

-- Octets that decode to an action.
pub is_read : (octets : List ℕ) (action : Action) → decoded_action octets ≡ Ok action → IsRead octets
is_read octets action is = no_fault (first_action_fault octets) (action_in octets) action is

pub read_as : (octets : List ℕ) → IsRead octets → decoded_action octets ≡ Ok (action_in octets)
read_as octets is = rw is refl

-- The message with a number, among those that were sent.
pub message_at : (sent : List (List ℕ)) (index : ℕ) →
    slice_get (map action_in sent) index ≡ option_map action_in (slice_get sent index)
message_at [] index = refl
message_at (octets ∷ sent) zero = refl
message_at (octets ∷ sent) (suc index) = message_at sent index

pub message_read : (sent : List (List ℕ)) (index : ℕ) (octets : List ℕ) → All IsRead sent →
    slice_get sent index ≡ Some octets → IsRead octets
message_read [] index octets all is = absurd (cc)
message_read (first ∷ sent) zero octets all is = let same : first ≡ octets = cc in
    rw (sym same) (All-head IsRead first sent all)
message_read (first ∷ sent) (suc index) octets all is =
    message_read sent index octets (All-tail IsRead first sent all) is

-- ---- both ends, with octets between them
abbrev pub parley : OfferValue → AcceptValue → List (List ℕ) → List (List ℕ) → Parley
parley originator recipient asks answers = record {
  originator = originator;
  recipient = recipient;
  asks =
      map action_in asks;
  answers = map action_in answers;
}

message_action : (sent : List (List ℕ)) (index : ℕ) (octets : List ℕ) → Some octets ≡ slice_get sent index →
    slice_get (map action_in sent) index ≡ Some (action_in octets)
message_action sent index octets at = message_at sent index ∙ ap (option_map action_in) (sym at)

message_decoded : (sent : List (List ℕ)) (index : ℕ) (octets : List ℕ) → All IsRead sent →
    Some octets ≡ slice_get sent index → decoded_action octets ≡ Ok (action_in octets)
message_decoded sent index octets all at = read_as octets (message_read sent index octets all (sym at))

pub arrives_there : (o : OfferValue) (r : AcceptValue) (asks answers : List (List ℕ)) (index : ℕ)
    (octets : List ℕ) → All IsRead answers → Some octets ≡ slice_get answers index →
    parley (offer_received (decoded_action octets) o) r asks answers
    ≡ after_event (ToOriginator index) (parley o r asks answers)
unfolding after_event
arrives_there o r asks answers index octets all at =
    rw (message_action answers index octets at, message_decoded answers index octets all at) refl

pub there_refused : (sent : List (List ℕ)) (index : ℕ) (octets : List ℕ) →
    Some octets ≡ slice_get sent index → None ≡ unless_there NoMessage (slice_get (map action_in sent) index)
there_refused sent index octets at = rw (message_action sent index octets at) refl

pub arrives_here : (o : OfferValue) (r new : AcceptValue) (asks answers more : List (List ℕ)) (index : ℕ)
    (octets : List ℕ) (reply : Option Action) → All IsRead asks → Some octets ≡ slice_get asks index →
    new ≡ accept_received (decoded_action octets) r → reply ≡ accept_reply (decoded_action octets) r →
    map action_in more ≡ with_sent (map action_in answers) reply →
    parley o new asks more ≡ after_event (ToRecipient index) (parley o r asks answers)
unfolding after_event
arrives_here o r new asks answers more index octets reply all at is replies sends =
    let read = message_decoded asks index octets all at in
    let heard : new ≡ accept_heard (action_in octets) r = is ∙ ap (λ d. accept_received d r) read in
    let said : map action_in more ≡ with_sent (map action_in answers) (accept_answer (action_in octets) r) =
    sends ∙ ap (with_sent (map action_in answers)) (replies ∙ ap (λ d. accept_reply d r) read) in
    rw (message_action asks index octets at, heard, said) refl

-- An arriving message does not change the TID and the limit of an end.
abbrev Keeps : AcceptValue → AcceptValue → Type 0
Keeps e new = (new.tid ≡ e.tid) × (new.limit ≡ e.limit)

heard_keeps : (message : Action) (e : AcceptValue) → Keeps e (accept_heard message e)
heard_keeps (Request token tid window start) e =
    choose (Keeps e) (tid == e.tid) (with_request token window start e) e
    (λ _. choose (Keeps e) (nat_lt e.last token) (record
    e {
      last = token;
      opened = Some (record {
        token = token;
        window = granted e.limit window;
        start =
            start;
      });
    }) e (λ _. (refl, refl)) (λ _. (refl, refl)))
    (λ _. (refl, refl))
heard_keeps (Response token status tid window) e = (refl, refl)
heard_keeps (Teardown tid initiator reason) e =
    choose (Keeps e) ((tid == e.tid) && initiator) (record e { opened = None }) e (λ _. (refl, refl))
    (λ _. (refl, refl))

received_keeps : (read : Result Action ActionFault) (e : AcceptValue) → Keeps e (accept_received read e)
received_keeps (Ok message) e = heard_keeps message e
received_keeps (Err fault) e = (refl, refl)

pub ends_kept : (tid limit : ℕ) (o : OfferValue) (r new : AcceptValue) (read : Result Action ActionFault) →
    HasEnds tid limit o r → new ≡ accept_received read r → HasEnds tid limit o new
ends_kept tid limit o r new read has is =
    let keeps = received_keeps read r in
    record {
      known = has.known;
      least = has.least;
      most = has.most;
      asks = has.asks;
      answers = ap (λ (e : AcceptValue). e.tid) is ∙ keeps.0 ∙ has.answers;
      limited = ap (λ (e : AcceptValue). e.limit) is ∙ keeps.1 ∙ has.limited;
    }
