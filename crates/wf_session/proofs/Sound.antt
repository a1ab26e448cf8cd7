-- Proves the invariant of the two ends and of all messages ever sent: all requests with one token have the
-- same window and start, and the open agreement of an end is from the request with the last token. By cases
-- of the event.
use Rattle.std.proofs.Common.{◌≡◌, ℕ, zero, suc, ◌+◌, ◌<◌, ◌≤◌, ◌==◌, ◌&&◌, not, nat_lt, nat_le, Bool, true, false, List, [], ◌∷◌, Option, Some, None, refl, sym, ◌∙◌, ap, subst, arith, if◌then◌else◌}
use Rattle.std.specs.Prelude.{All, slice_get, option_map}
use Rattle.std.proofs.lemmas.Bool.{eqb-true}
use Rattle.std.proofs.lemmas.Bool.Decides.{nat_tests}
use Rattle.std.proofs.lemmas.List.Elements.{All-nil, All-head, All-tail, All-append, All-push, All-weaker}
use Rattle.wf_session.specs.declared.action.Action.{Action}
use Rattle.wf_session.specs.declared.action.Action.TheVariants.{Request, Response, Teardown}
use Rattle.wf_session.specs.declared.agreement.Agreement.{Agreement}
use Rattle.wf_session.specs.declared.offer.OfferFault.{OfferFault}
use Rattle.wf_session.specs.declared.offer.OfferFault.TheVariants.{Spent, Open}
use Rattle.wf_session.specs.Ends.{OfferValue, granted, has_token, unless, fault_or, next_wish, request_of, response_of, offer_settled, with_response, offer_heard, with_request, response_to, accept_heard, accept_answer, teardown_of, asked_again}
use Rattle.wf_session.specs.declared.event.Event.{Event}
use Rattle.wf_session.specs.declared.event.Event.TheVariants.{Ask, Again, ToOriginator, ToRecipient, CloseOriginator, CloseRecipient, RestartOriginator, RestartRecipient}
use Rattle.wf_session.specs.World.{Parley, new_parley, with_sent, request_of_ask, to_originator, to_recipient, after_event, after_events}

-- the window and start of every request with a token
pub record Terms : Type 0 where
  pub window : ℕ
  pub start : ℕ

-- a message of the originator: a request has a token that was used, and the terms of that token
abbrev pub AskFits : (ℕ → Terms) → ℕ → Action → Type 0
AskFits terms last (Request token tid window start) = (token ≤ last) × (window ≡ (terms token).window) ×
    (start ≡ (terms token).start)
AskFits terms last (Response token status tid window) = Unit {0}
AskFits terms last (Teardown tid initiator reason) = Unit {0}

-- a message of the recipient: a response has a token that arrived, and the window granted for the terms of
-- that token
abbrev pub AnswerFits : (ℕ → Terms) → ℕ → ℕ → Action → Type 0
AnswerFits terms limit last (Request token tid window start) = Unit {0}
AnswerFits terms limit last (Response token status tid window) = (token ≤ last) ×
    (window ≡ granted limit (terms token).window)
AnswerFits terms limit last (Teardown tid initiator reason) = Unit {0}

-- the unsettled request has the last token, and the terms of that token
abbrev pub AskedFits : (ℕ → Terms) → ℕ → Option Agreement → Type 0
AskedFits terms last None = Unit {0}
AskedFits terms last (Some a) = (a.token ≡ last) × (a.window ≡ (terms a.token).window) ×
    (a.start ≡ (terms a.token).start)

-- the open agreement has the last token, the window granted for its terms, and their start
abbrev pub OpenedFits : (ℕ → Terms) → ℕ → ℕ → Option Agreement → Type 0
OpenedFits terms limit last None = Unit {0}
OpenedFits terms limit last (Some a) = (a.token ≡ last) × (a.window ≡ granted limit (terms a.token).window) ×
    (a.start ≡ (terms a.token).start)

pub record Sound (terms : ℕ → Terms) (w : Parley) : Type 0 where
  pub asks : All (AskFits terms w.originator.last) w.asks
  pub answers : All (AnswerFits terms w.recipient.limit w.recipient.last) w.answers
  pub asked : AskedFits terms w.originator.last w.originator.asked
  pub opened : OpenedFits terms w.recipient.limit w.originator.last w.originator.opened
  pub opened_there : OpenedFits terms w.recipient.limit w.recipient.last w.originator.opened
  pub accepted : OpenedFits terms w.recipient.limit w.recipient.last w.recipient.opened
  pub lasts : w.recipient.last ≤ w.originator.last

-- ---- an optional message
abbrev pub MessageFits : (Action → Type 0) → Option Action → Type 0
MessageFits P None = Unit {0}
MessageFits P (Some message) = P message

message_fits : (P : Action → Type 0) (sent : List Action) (index : ℕ) → All P sent →
    MessageFits P (slice_get sent index)
message_fits P [] index all = tt
message_fits P (x ∷ xs) zero all = All-head P x xs all
message_fits P (x ∷ xs) (suc index) all = message_fits P xs index (All-tail P x xs all)

sent_fits : (P : Action → Type 0) (sent : List Action) (message : Option Action) → All P sent →
    MessageFits P message → All P (with_sent sent message)
sent_fits P sent None all fits = All-append P sent [] all (All-nil P)
sent_fits P sent (Some message) all fits = All-push P sent message all fits

-- ---- a value chosen by a test
pub choose : {A : Type 0} (P : A → Type 0) (b : Bool) (x y : A) → (b ≡ true → P x) → (b ≡ false → P y) →
    P (if b then x else y)
choose P true x y holds fails = holds refl
choose P false x y holds fails = fails refl

pub choose_both : {A B : Type 0} (P : A → B → Type 0) (b : Bool) (x y : A) (u v : B) → (b ≡ true → P x u) →
    (b ≡ false → P y v) → P (if b then x else y) (if b then u else v)
choose_both P true x y u v holds fails = holds refl
choose_both P false x y u v holds fails = fails refl

-- ---- the ask: its token gets its terms, and the terms of all lower tokens are unchanged
given : (ℕ → Terms) → ℕ → Terms → ℕ → Terms
given terms token new t = if t == token then new else terms t

given_new : (terms : ℕ → Terms) (token : ℕ) (new : Terms) → given terms token new token ≡ new
unfolding given
given_new terms token new = choose (λ r. r ≡ new) (token == token) new (terms token) (λ _. refl)
    (λ fails. absurd (grind (arith, nat_tests, fails)))

given_old : (terms : ℕ → Terms) (token : ℕ) (new : Terms) (t : ℕ) → t < token →
    terms t ≡ given terms token new t
unfolding given
given_old terms token new t below = choose (λ r. terms t ≡ r) (t == token) new (terms t)
    (λ same. absurd (let e = eqb-true t token same in omega (arith, e, below))) (λ _. refl)

ask_still : (terms new : ℕ → Terms) (last : ℕ) → ((t : ℕ) → t ≤ last → terms t ≡ new t) → (message : Action) →
    AskFits terms last message → AskFits new (last + 1) message
ask_still terms new last same (Request token tid window start) fits = (
  omega (arith, fits.0),
  fits.1 ∙ ap (λ (r : Terms). r.window) (same token fits.0),
  fits.2 ∙ ap (λ (r : Terms). r.start) (same token fits.0),
)
ask_still terms new last same (Response token status tid window) fits = tt
ask_still terms new last same (Teardown tid initiator reason) fits = tt

answer_still : (terms new : ℕ → Terms) (limit last : ℕ) → ((t : ℕ) → t ≤ last → terms t ≡ new t) →
    (message : Action) → AnswerFits terms limit last message → AnswerFits new limit last message
answer_still terms new limit last same (Request token tid window start) fits = tt
answer_still terms new limit last same (Response token status tid window) fits =
    (fits.0, fits.1 ∙ ap (λ (r : Terms). granted limit r.window) (same token fits.0))
answer_still terms new limit last same (Teardown tid initiator reason) fits = tt

opened_still : (terms new : ℕ → Terms) (limit last : ℕ) → ((t : ℕ) → t ≤ last → terms t ≡ new t) →
    (o : Option Agreement) → OpenedFits terms limit last o → OpenedFits new limit last o
opened_still terms new limit last same None fits = tt
opened_still terms new limit last same (Some a) fits =
    let e = same a.token (omega (arith, fits.0)) in
    (fits.0, fits.1 ∙ ap (λ (r : Terms). granted limit r.window) e, fits.2 ∙ ap (λ (r : Terms). r.start) e)

asked_now : (terms : ℕ → Terms) (w : Parley) (window start : ℕ) → w.originator.opened ≡ None → Sound terms w →
    Sound (given terms (w.originator.last + 1) (record { window = window; start = start })) (record w {
      originator = record w.originator {
        last = w.originator.last + 1;
        asked =
            Some (next_wish window start w.originator);
      };
      asks = with_sent w.asks (Some (request_of w.originator.tid (next_wish window start w.originator)));
    })
asked_now terms w window start none s =
    let last : ℕ = w.originator.last in
    let wanted : Terms = record { window = window; start = start } in
    let new : ℕ → Terms = given terms (last + 1) wanted in
    let same : (t : ℕ) → t ≤ last → terms t ≡ new t =
    λ t below. given_old terms (last + 1) wanted t (omega (arith, below)) in
    let same_there : (t : ℕ) → t ≤ w.recipient.last →
    terms t ≡ new t = λ t below. same t (omega (arith, below, s.lasts)) in
    let its : new (last + 1) ≡ wanted = given_new terms (last + 1) wanted in
    let its_window : window ≡ (new (last + 1)).window = ap (λ (r : Terms). r.window) (sym its) in
    let its_start : start ≡ (new (last + 1)).start = ap (λ (r : Terms). r.start) (sym its) in
    record {
      asks = sent_fits (AskFits new (last + 1)) w.asks
          (Some (request_of w.originator.tid (next_wish window start w.originator)))
          (All-weaker (AskFits terms last) (AskFits new (last + 1))
          (ask_still terms new last same) w.asks s.asks) (omega arith, its_window, its_start);
      answers = All-weaker (AnswerFits terms w.recipient.limit w.recipient.last)
          (AnswerFits new w.recipient.limit w.recipient.last)
          (answer_still terms new w.recipient.limit w.recipient.last same_there) w.answers s.answers;
      asked = (refl, its_window, its_start);
      opened = subst (OpenedFits new w.recipient.limit (last + 1)) (sym none) tt;
      opened_there = subst (OpenedFits new w.recipient.limit w.recipient.last) (sym none) tt;
      accepted = opened_still terms new w.recipient.limit w.recipient.last same_there w.recipient.opened
          s.accepted;
      lasts = omega (arith, s.lasts);
    }

-- the world after an ask, with this fault or with none
asked_or : Option OfferFault → ℕ → ℕ → Parley → Parley
asked_or fault window start w = record w {
  originator = unless fault w.originator (record
      w.originator { last = w.originator.last + 1; asked = Some (next_wish window start w.originator) });
  asks = with_sent w.asks (request_of_ask (fault_or fault
      (request_of w.originator.tid (next_wish window start w.originator))));
}

abbrev pub IsGood : Parley → Type 0
IsGood w = (terms : ℕ → Terms) × Sound terms w

nothing_sent : (terms : ℕ → Terms) (w : Parley) → Sound terms w →
    Sound terms (record w { asks = with_sent w.asks None })
nothing_sent terms w s = record {
  asks = sent_fits (AskFits terms w.originator.last) w.asks None s.asks tt;
  answers = s.answers;
  asked = s.asked;
  opened = s.opened;
  opened_there = s.opened_there;
  accepted = s.accepted;
  lasts = s.lasts;
}

refused : (terms : ℕ → Terms) (w : Parley) (window start : ℕ) (fault : OfferFault) → Sound terms w →
    IsGood (asked_or (Some fault) window start w)
unfolding asked_or
refused terms w window start fault s = (terms, nothing_sent terms w s)

ask_good : (terms : ℕ → Terms) (w : Parley) (window start : ℕ) (o : Option Agreement) →
    w.originator.opened ≡ o → Sound terms w →
    IsGood (asked_or (if w.originator.last == 255 then Some Spent
    else option_map (λ (agreement : Agreement). Open agreement.token) o) window start w)
unfolding asked_or
ask_good terms w window start None is s =
    choose (λ fault. IsGood (asked_or fault window start w)) (w.originator.last == 255) (Some Spent) None
    (λ _. refused terms w window start Spent s) (λ _. (
      given terms (w.originator.last + 1) (record { window = window; start = start }),
      asked_now terms w window start is s,
    ))
ask_good terms w window start (Some a) is s =
    choose (λ fault. IsGood (asked_or fault window start w)) (w.originator.last == 255) (Some Spent)
    (Some (Open a.token))
    (λ _. refused terms w window start Spent s) (λ _. refused terms w window start (Open a.token) s)

-- ---- the originator sends a message
sends : (terms : ℕ → Terms) (w : Parley) (message : Option Action) →
    MessageFits (AskFits terms w.originator.last) message → Sound terms w →
    Sound terms (record w { asks = with_sent w.asks message })
sends terms w message fits s = record {
  asks = sent_fits (AskFits terms w.originator.last) w.asks message s.asks fits;
  answers = s.answers;
  asked = s.asked;
  opened = s.opened;
  opened_there = s.opened_there;
  accepted = s.accepted;
  lasts = s.lasts;
}

again_fits : (terms : ℕ → Terms) (last tid : ℕ) (o : Option Agreement) → AskedFits terms last o →
    MessageFits (AskFits terms last) (option_map (request_of tid) o)
again_fits terms last tid None fits = tt
again_fits terms last tid (Some a) fits = (omega (arith, fits.0), fits.1, fits.2)

teardown_fits : (terms : ℕ → Terms) (last tid : ℕ) (o : Option Agreement) →
    MessageFits (AskFits terms last) (teardown_of tid true o)
teardown_fits terms last tid None = tt
teardown_fits terms last tid (Some a) = tt

-- ---- the recipient sends a message
answers_more : (terms : ℕ → Terms) (w : Parley) (message : Option Action) →
    MessageFits (AnswerFits terms w.recipient.limit w.recipient.last) message → Sound terms w →
    Sound terms (record w { answers = with_sent w.answers message })
answers_more terms w message fits s = record {
  asks = s.asks;
  answers = sent_fits (AnswerFits terms w.recipient.limit w.recipient.last) w.answers message s.answers fits;
  asked = s.asked;
  opened = s.opened;
  opened_there = s.opened_there;
  accepted = s.accepted;
  lasts = s.lasts;
}

closing_fits : (terms : ℕ → Terms) (limit last tid : ℕ) (o : Option Agreement) →
    MessageFits (AnswerFits terms limit last) (teardown_of tid false o)
closing_fits terms limit last tid None = tt
closing_fits terms limit last tid (Some a) = tt

response_fits : (terms : ℕ → Terms) (limit last tid token : ℕ) (o : Option Agreement) →
    OpenedFits terms limit last o →
    MessageFits (AnswerFits terms limit last) (if has_token token o then option_map (response_of tid) o
    else None)
response_fits terms limit last tid token None fits = tt
response_fits terms limit last tid token (Some a) fits =
    choose (MessageFits (AnswerFits terms limit last)) (a.token == token) (Some (response_of tid a)) None
    (λ _. (omega (arith, fits.0), fits.1)) (λ _. tt)

-- ---- the open agreement or the request of an end changes
with_originator : (terms : ℕ → Terms) (w : Parley) (asked opened : Option Agreement) →
    AskedFits terms w.originator.last asked → OpenedFits terms w.recipient.limit w.originator.last opened
    → OpenedFits terms w.recipient.limit w.recipient.last opened → Sound terms w →
    Sound terms (record w { originator = record w.originator { asked = asked; opened = opened } })
with_originator terms w asked opened fits here there s = record {
  asks = s.asks;
  answers = s.answers;
  asked = fits;
  opened = here;
  opened_there = there;
  accepted = s.accepted;
  lasts = s.lasts;
}

with_recipient : (terms : ℕ → Terms) (w : Parley) (opened : Option Agreement) →
    OpenedFits terms w.recipient.limit w.recipient.last opened
    → Sound terms w → Sound terms (record w { recipient = record w.recipient { opened = opened } })
with_recipient terms w opened fits s = record {
  asks = s.asks;
  answers = s.answers;
  asked = s.asked;
  opened = s.opened;
  opened_there = s.opened_there;
  accepted = fits;
  lasts = s.lasts;
}

-- ---- the originator handles a message
settled_sound : (terms : ℕ → Terms) (w : Parley) (token status window : ℕ) (wish : Agreement) →
    AnswerFits terms w.recipient.limit w.recipient.last (Response token status 0 window)
    → wish.token ≡ token → AskedFits terms w.originator.last (Some wish) → Sound terms w →
    Sound terms (record w { originator = offer_settled status window wish w.originator })
settled_sound terms w token status window wish fits same asked s =
    choose P (status == 0) (if nat_le 1 window && nat_le window wish.window then open_end else w.originator)
    closed_end
    (λ _. choose P (nat_le 1 window && nat_le window wish.window) open_end w.originator (λ _. opens) (λ _. s))
    (λ _. with_originator terms w None w.originator.opened tt s.opened s.opened_there s)
  where
    P : OfferValue → Type 0
    P e = Sound terms (record w { originator = e })

    open_end : OfferValue
    open_end = record w.originator { asked = None; opened = Some (record wish { window = window }) }

    closed_end : OfferValue
    closed_end = record w.originator { asked = None }

    opens : P open_end
    opens = with_originator terms w None (Some (record wish { window = window })) tt
        (asked.0, fits.1 ∙ ap (λ t. granted w.recipient.limit (terms t).window) (sym same), asked.2) (
          omega (arith, asked.0, same, fits.0, s.lasts),
          fits.1 ∙ ap (λ t. granted w.recipient.limit (terms t).window) (sym same),
          asked.2,
        ) s

response_sound : (terms : ℕ → Terms) (w : Parley) (token status window : ℕ) (o : Option Agreement) →
    w.originator.asked ≡ o → AnswerFits terms w.recipient.limit w.recipient.last
    (Response token status 0 window)
    → Sound terms w → Sound terms (record w {
      originator =
          with_response token status window (record w.originator { asked = o });
    })
response_sound terms w token status window None is fits s =
    with_originator terms w None w.originator.opened tt s.opened s.opened_there s
response_sound terms w token status window (Some wish) is fits s =
    let asked : AskedFits terms w.originator.last (Some wish) =
    subst (AskedFits terms w.originator.last) is s.asked in
    let here : Parley = record w { originator = record w.originator { asked = Some wish } } in
    let sound : Sound terms here = with_originator terms w
    (Some wish) w.originator.opened asked s.opened s.opened_there s in
    choose (λ e. Sound terms (record w { originator = e })) (wish.token == token)
    (offer_settled status window wish here.originator) here.originator
    (λ same. settled_sound terms here token status window wish fits
    (eqb-true wish.token token same) asked sound) (λ _. sound)

heard_sound : (terms : ℕ → Terms) (w : Parley) (message : Action) →
    AnswerFits terms w.recipient.limit w.recipient.last message → Sound terms w →
    Sound terms (record w { originator = offer_heard message w.originator })
heard_sound terms w (Request token tid window start) fits s = s
heard_sound terms w (Response token status tid window) fits s =
    choose (λ e. Sound terms (record w { originator = e })) (tid == w.originator.tid)
    (with_response token status window w.originator) w.originator
    (λ _. response_sound terms w token status window w.originator.asked refl fits s) (λ _. s)
heard_sound terms w (Teardown tid initiator reason) fits s =
    choose (λ e. Sound terms (record w { originator = e })) ((tid == w.originator.tid) && not initiator)
    (record w.originator { opened = None }) w.originator
    (λ _. with_originator terms w w.originator.asked None s.asked tt tt s) (λ _. s)

-- ---- the recipient handles a message
answer_later : (terms : ℕ → Terms) (limit last new : ℕ) → last ≤ new → (message : Action) →
    AnswerFits terms limit last message → AnswerFits terms limit new message
answer_later terms limit last new below (Request token tid window start) fits = tt
answer_later terms limit last new below (Response token status tid window) fits =
    (omega (arith, below, fits.0), fits.1)
answer_later terms limit last new below (Teardown tid initiator reason) fits = tt

-- if a used token is above the recipient's last token, no agreement is open at the originator
not_there : (terms : ℕ → Terms) (limit last there token : ℕ) (o : Option Agreement) →
    OpenedFits terms limit last o → OpenedFits terms limit there o → token ≤ last → there < token →
    OpenedFits terms limit token o
not_there terms limit last there token None here far low high = tt
not_there terms limit last there token (Some a) here far low high =
    absurd (omega (arith, here.0, far.0, low, high))

opened_by : (terms : ℕ → Terms) (w : Parley) (token window start : ℕ) →
    AskFits terms w.originator.last (Request token 0 window start) → w.recipient.last < token →
    Sound terms w →
    Sound terms (record w {
      recipient = record w.recipient {
        last = token;
        opened =
            Some (record { token = token; window = granted w.recipient.limit window; start = start });
      };
    })
opened_by terms w token window start fits above s = record {
  asks = s.asks;
  answers = All-weaker (AnswerFits terms w.recipient.limit w.recipient.last)
      (AnswerFits terms w.recipient.limit token)
      (answer_later terms w.recipient.limit w.recipient.last token (omega (arith, above))) w.answers
      s.answers;
  asked = s.asked;
  opened = s.opened;
  opened_there = not_there terms w.recipient.limit w.originator.last w.recipient.last token
      w.originator.opened s.opened s.opened_there fits.0 above;
  accepted = (refl, ap (granted w.recipient.limit) fits.1, fits.2);
  lasts = fits.0;
}

responded : (terms : ℕ → Terms) (w : Parley) (token : ℕ) → Sound terms w →
    Sound terms (record w { answers = with_sent w.answers (response_to token w.recipient) })
responded terms w token s =
    answers_more terms w (response_to token w.recipient)
    (response_fits terms w.recipient.limit w.recipient.last w.recipient.tid token w.recipient.opened
    s.accepted) s

request_sound : (terms : ℕ → Terms) (w : Parley) (token window start : ℕ) →
    AskFits terms w.originator.last (Request token 0 window start) → Sound terms w →
    Sound terms (record w { recipient = with_request token window start w.recipient })
request_sound terms w token window start fits s =
    choose (λ e. Sound terms (record w { recipient = e })) (nat_lt w.recipient.last token)
    (record w.recipient {
      last = token;
      opened = Some
          (record { token = token; window = granted w.recipient.limit window; start = start });
    }) w.recipient
    (λ above. opened_by terms w token window start fits (grind (arith, nat_tests, above)) s) (λ _. s)

accepts_sound : (terms : ℕ → Terms) (w : Parley) (message : Action) →
    AskFits terms w.originator.last message → Sound terms w →
    Sound terms (record w {
      recipient = accept_heard message w.recipient;
      answers =
          with_sent w.answers (accept_answer message w.recipient);
    })
accepts_sound terms w (Request token tid window start) fits s =
    choose_both (λ e message. Sound terms (record w { recipient = e; answers = with_sent w.answers message }))
    (tid == w.recipient.tid)
    (with_request token window start w.recipient) w.recipient
    (response_to token (with_request token window start w.recipient)) None
    (λ _. responded terms (record w { recipient = with_request token window start w.recipient }) token
    (request_sound terms w token window start fits s))
    (λ _. answers_more terms w None tt s)
accepts_sound terms w (Response token status tid window) fits s = answers_more terms w None tt s
accepts_sound terms w (Teardown tid initiator reason) fits s =
    choose (λ e. Sound terms (record w { recipient = e; answers = with_sent w.answers None }))
    ((tid == w.recipient.tid) && initiator) (record w.recipient { opened = None }) w.recipient
    (λ _. with_recipient terms (record w { answers = with_sent w.answers None }) None tt
    (answers_more terms w None tt s)) (λ _. answers_more terms w None tt s)

-- ---- each event, and each list of events
delivered_there : (terms : ℕ → Terms) (w : Parley) (message : Option Action) →
    MessageFits (AnswerFits terms w.recipient.limit w.recipient.last) message → Sound terms w →
    Sound terms (to_originator message w)
delivered_there terms w None fits s = s
delivered_there terms w (Some message) fits s = heard_sound terms w message fits s

delivered_here : (terms : ℕ → Terms) (w : Parley) (message : Option Action) →
    MessageFits (AskFits terms w.originator.last) message → Sound terms w →
    Sound terms (to_recipient message w)
delivered_here terms w None fits s = s
delivered_here terms w (Some message) fits s = accepts_sound terms w message fits s

pub event_good : (event : Event) (w : Parley) → IsGood w → IsGood (after_event event w)
unfolding asked_or after_event
event_good (Ask window start) w (terms, s) = ask_good terms w window start w.originator.opened refl s
event_good Again w (terms, s) = (
  terms,
  sends terms w (asked_again w.originator)
      (again_fits terms w.originator.last w.originator.tid w.originator.asked s.asked) s,
)
event_good (ToOriginator index) w (terms, s) = (
  terms,
  delivered_there terms w (slice_get w.answers index)
      (message_fits (AnswerFits terms w.recipient.limit w.recipient.last) w.answers index s.answers) s,
)
event_good (ToRecipient index) w (terms, s) = (
  terms,
  delivered_here terms w (slice_get w.asks index)
      (message_fits (AskFits terms w.originator.last) w.asks index s.asks) s,
)
event_good CloseOriginator w (terms, s) = (
  terms,
  sends terms (record w { originator = record w.originator { opened = None } })
      (teardown_of w.originator.tid true w.originator.opened)
      (teardown_fits terms w.originator.last w.originator.tid w.originator.opened)
      (with_originator terms w w.originator.asked None s.asked tt tt s),
)
event_good CloseRecipient w (terms, s) = (
  terms,
  answers_more terms (record w { recipient = record w.recipient { opened = None } })
      (teardown_of w.recipient.tid false w.recipient.opened)
      (closing_fits terms w.recipient.limit w.recipient.last w.recipient.tid w.recipient.opened)
      (with_recipient terms w None tt s),
)
event_good RestartOriginator w (terms, s) = (terms, with_originator terms w None None tt tt tt s)
event_good RestartRecipient w (terms, s) = (terms, with_recipient terms w None tt s)

pub opening_good : (tid limit : ℕ) → IsGood (new_parley tid limit)
opening_good tid limit = (
  λ _. record { window = 0; start = 0 },
  record {
    asks = All-nil _;
    answers = All-nil _;
    asked = tt;
    opened = tt;
    opened_there = tt;
    accepted = tt;
    lasts = omega arith;
  },
)

pub events_good : (events : List Event) (w : Parley) → IsGood w → IsGood (after_events w events)
unfolding after_events
events_good [] w good = good
events_good (event ∷ later) w good = events_good later (after_event event w) (event_good event w good)
