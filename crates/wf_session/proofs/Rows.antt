-- Computes worked lists of events: a restart forgets the agreement, and a repeated message opens nothing.
-- Also computes the octets of the message that each event sends.
use Rattle.std.proofs.Common.{◌≡◌, ℕ, List, [], ◌∷◌, ◌++◌, length, map, drop, Option, Some, None, refl}
use Rattle.std.specs.List.{concat}
use Rattle.wf_session.specs.declared.agreement.Agreement.{Agreement}
use Rattle.wf_session.specs.Layout.{action_octets}
use Rattle.wf_session.specs.Laws.{originators, recipients}
use Rattle.wf_session.specs.declared.event.Event.{Event}
use Rattle.wf_session.specs.declared.event.Event.TheVariants.{Ask, Again, ToOriginator, ToRecipient, CloseOriginator, CloseRecipient, RestartRecipient}
use Rattle.wf_session.specs.World.{Parley, new_parley, after_event, after_events}

-- the open agreements of the originator and of the recipient after each event
pub seen : Parley → List Event → List (Option Agreement × Option Agreement)
seen w [] = []
seen w (event ∷ later) = let next : Parley = after_event event w in
    (originators next, recipients next) ∷ seen next later

abbrev held : ℕ → ℕ → ℕ → Option Agreement
held token window start = Some (record { token = token; window = window; start = start })

-- the first request arrives four times, and the recipient restarts in between
abbrev restart_and_replay_events : List Event
restart_and_replay_events =
    Ask 128 500 ∷
    ToRecipient 0 ∷
    ToRecipient 0 ∷
    ToOriginator 0 ∷
    RestartRecipient ∷
    ToRecipient 0 ∷
    Ask 10 0 ∷
    CloseOriginator ∷
    Ask 10 7 ∷
    ToRecipient 0 ∷
    ToOriginator 0 ∷
    ToRecipient 2 ∷
    ToOriginator 2 ∷
    []

pub restart_and_replay : seen (new_parley 0 64) restart_and_replay_events ≡
    (None, None) ∷
    (None, held 1 64 500) ∷
    (None, held 1 64 500) ∷
    (held 1 64 500, held 1 64 500) ∷
    (held 1 64 500, None) ∷
    (held 1 64 500, None) ∷
    (held 1 64 500, None) ∷
    (None, None) ∷
    (None, None) ∷
    (None, None) ∷
    (None, None) ∷
    (None, held 2 10 7) ∷
    (held 2 10 7, held 2 10 7) ∷
    []
unfolding seen after_event
restart_and_replay = refl

pub requests_sent : length (after_events (new_parley 0 64) restart_and_replay_events).asks ≡ 3
unfolding after_events after_event
requests_sent = refl

pub responses_sent : length (after_events (new_parley 0 64) restart_and_replay_events).answers ≡ 3
unfolding after_events after_event
responses_sent = refl

-- the octets of the messages that are sent from `w` to `next`
abbrev pub octets_between : Parley → Parley → List ℕ
octets_between w next = concat (map action_octets (drop (length w.asks) next.asks)
    ++ map action_octets (drop (length w.answers) next.answers))

-- the octets that each event sends: those of one message, or none
pub octets_sent : Parley → List Event → List (List ℕ)
octets_sent w [] = []
octets_sent w (event ∷ later) = let next : Parley = after_event event w in
    octets_between w next ∷ octets_sent next later

-- The first response is lost, the recipient restarts, the originator closes and asks again, and the recipient
-- closes.
abbrev response_lost_and_closed_events : List Event
response_lost_and_closed_events =
    Ask 128 500 ∷
    ToRecipient 0 ∷
    Again ∷
    ToRecipient 1 ∷
    ToOriginator 1 ∷
    RestartRecipient ∷
    CloseOriginator ∷
    ToRecipient 2 ∷
    Ask 10 4095 ∷
    ToRecipient 3 ∷
    ToOriginator 2 ∷
    CloseRecipient ∷
    ToOriginator 3 ∷
    Ask 256 0 ∷
    []

-- The script checks/agreement-frames passes these octets to another program.
pub response_lost_and_closed : octets_sent (new_parley 0 64) response_lost_and_closed_events ≡
    (3 ∷ 0 ∷ 1 ∷ 2 ∷ 32 ∷ 0 ∷ 0 ∷ 64 ∷ 31 ∷ []) ∷
    (3 ∷ 1 ∷ 1 ∷ 0 ∷ 0 ∷ 2 ∷ 16 ∷ 0 ∷ 0 ∷ []) ∷
    (3 ∷ 0 ∷ 1 ∷ 2 ∷ 32 ∷ 0 ∷ 0 ∷ 64 ∷ 31 ∷ []) ∷
    (3 ∷ 1 ∷ 1 ∷ 0 ∷ 0 ∷ 2 ∷ 16 ∷ 0 ∷ 0 ∷ []) ∷
    [] ∷
    [] ∷
    (3 ∷ 2 ∷ 0 ∷ 8 ∷ 1 ∷ 0 ∷ []) ∷
    [] ∷
    (3 ∷ 0 ∷ 2 ∷ 130 ∷ 2 ∷ 0 ∷ 0 ∷ 240 ∷ 255 ∷ []) ∷
    (3 ∷ 1 ∷ 2 ∷ 0 ∷ 0 ∷ 130 ∷ 2 ∷ 0 ∷ 0 ∷ []) ∷
    [] ∷
    (3 ∷ 2 ∷ 0 ∷ 0 ∷ 1 ∷ 0 ∷ []) ∷
    [] ∷
    (3 ∷ 0 ∷ 3 ∷ 2 ∷ 64 ∷ 0 ∷ 0 ∷ 0 ∷ 0 ∷ []) ∷ []
unfolding octets_sent after_event
response_lost_and_closed = refl
