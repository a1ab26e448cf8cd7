-- Proves that no token opens twice at an end. A token is gone at an end when it can no longer open there: at
-- the originator if it is not above the last token and is not the requested one, and at the recipient if it
-- is not above the last.
use Rattle.std.proofs.Common.{◌≡◌, ℕ, ◌+◌, ◌<◌, ◌≤◌, ◌==◌, ◌&&◌, not, nat_lt, nat_le, Bool, true, false, List, [], ◌∷◌, inl, inr, Option, Some, None, refl, sym, ◌∙◌, ap, subst, arith, if◌then◌else◌}
use Rattle.std.specs.Prelude.{slice_get}
use Rattle.std.proofs.lemmas.Bool.{eqb-true, cases_Bool}
use Rattle.std.proofs.lemmas.Bool.Decides.{nat_tests}
use Rattle.wf_session.specs.declared.action.Action.{Action}
use Rattle.wf_session.specs.declared.action.Action.TheVariants.{Request, Response, Teardown}
use Rattle.wf_session.specs.declared.agreement.Agreement.{Agreement}
use Rattle.wf_session.specs.declared.offer.OfferFault.{OfferFault}
use Rattle.wf_session.specs.Ends.{OfferValue, AcceptValue, granted, has_token, unless, ask_fault, next_wish, offer_settled, with_response, offer_heard, with_request, accept_heard}
use Rattle.wf_session.specs.declared.event.Event.{Event}
use Rattle.wf_session.specs.declared.event.Event.TheVariants.{Ask, Again, ToOriginator, ToRecipient, CloseOriginator, CloseRecipient, RestartOriginator, RestartRecipient}
use Rattle.wf_session.specs.World.{Parley, to_originator, to_recipient, after_event}
use Rattle.wf_session.specs.Laws.{originators, recipients, opens, times_opened}
use Rattle.wf_session.proofs.Sound.{Terms, AskedFits, IsGood, choose, event_good}

-- one event at an end, for a token: if the token opens, it is gone afterwards; if it was gone, it does not
-- open and stays gone
pub record Once (opened : Bool) (before after : Type 0) : Type 0 where
  pub spends : opened ≡ true → after
  pub stays : before → (opened ≡ false) × after

not_again : (token : ℕ) (o : Option Agreement) → opens token o o ≡ false
not_again token o = elim (has_token token o) as (λ b. (b && not b) ≡ false) [ true ↦ refl | false ↦ refl ]

-- an end whose agreement is unchanged or ends opens nothing
keeps : (token : ℕ) (o : Option Agreement) (before after : Type 0) → (before → after) →
    Once (opens token o o) before after
keeps token o before after stays = record {
  spends = λ opened. absurd (grind (arith, not_again token o, opened));
  stays = λ gone. (not_again token o, stays gone);
}

ends : (token : ℕ) (o : Option Agreement) (before after : Type 0) → (before → after) →
    Once (opens token o None) before after
ends token o before after stays = record {
  spends = λ opened. absurd (grind (arith, opened));
  stays = λ gone. (refl, stays gone);
}

-- a new agreement replaces another
begins : (token : ℕ) (o : Option Agreement) (a : Agreement) (before after : Type 0) →
    (a.token ≡ token → after) → (before → (a.token == token) ≡ false) → (before → after) →
    Once (opens token o (Some a)) before after
begins token o a before after its other stays = record {
  spends = λ opened. its (eqb-true a.token token (left (a.token == token) (not (has_token token o)) opened));
  stays = λ gone. (ap (λ b. b && not (has_token token o)) (other gone), stays gone);
}
  where
    left : (a b : Bool) → (a && b) ≡ true → a ≡ true
    left true b e = refl
    left false b e = e

-- ---- the count
pub counts : (end : Parley → Option Agreement) (token : ℕ) (Gone : Parley → Type 0) →
    ((event : Event) (w : Parley) → IsGood w → Once (opens token (end w) (end (after_event event w))) (Gone w)
    (Gone (after_event event w))) →
    (events : List Event) (w : Parley) → IsGood w → (Gone w → times_opened end token w events ≡ 0) ×
    (times_opened end token w events ≤ 1)
unfolding times_opened
counts end token Gone step [] w good = (λ _. refl, omega arith)
counts end token Gone step (event ∷ later) w good =
    let next : Parley = after_event event w in
    let rest = counts end token Gone step later next (event_good event w good) in
    let once = step event w good in (
      λ gone. ap (λ b. (if b then 1 else 0) + times_opened end token next later) (once.stays gone).0
          ∙ (let none = rest.0 (once.stays gone).1 in omega (arith, none)),
      elim (cases_Bool (opens token (end w) (end next))) [
        | inl opened ↦ subst (λ b. (if b then 1 else 0) + times_opened end token next later ≤ 1) (sym opened)
            (let none = rest.0 (once.spends opened) in omega (arith, none))
        | inr kept ↦ subst (λ b. (if b then 1 else 0) + times_opened end token next later ≤ 1) (sym kept)
            (let few = rest.1 in omega (arith, few))
      ],
    )

-- ---- the originator
abbrev GoneThere : ℕ → OfferValue → Type 0
GoneThere token e = (token ≤ e.last) × (has_token token e.asked ≡ false)

-- one event, as the originator sees it
abbrev OnceThere : ℕ → OfferValue → OfferValue → Type 0
OnceThere token e new = Once (opens token e.opened new.opened) (GoneThere token e) (GoneThere token new)

ask_once : (token window start : ℕ) (e : OfferValue) (fault : Option OfferFault) →
    OnceThere token e (unless fault e (record e {
      last = e.last + 1;
      asked =
          Some (next_wish window start e);
    }))
ask_once token window start e None = keeps token e.opened (GoneThere token e)
    (GoneThere token (record e { last = e.last + 1; asked = Some (next_wish window start e) }))
    (λ gone. (omega (arith, gone.0), grind (arith, nat_tests, gone.0)))
ask_once token window start e (Some fault) = keeps token e.opened (GoneThere token e) (GoneThere token e)
    (λ gone. gone)

settled_once : (token status window : ℕ) (wish : Agreement) (e : OfferValue) → wish.token ≡ e.last →
    e.asked ≡ Some wish → OnceThere token e (offer_settled status window wish e)
settled_once token status window wish e last asked =
    choose (OnceThere token e) (status == 0) (if nat_le 1 window && nat_le window wish.window then open_end
    else e) (record e { asked = None })
    (λ _. choose (OnceThere token e) (nat_le 1 window && nat_le window wish.window) open_end e
    (λ _. begins token e.opened (record wish { window = window }) (GoneThere token e)
    (GoneThere token open_end) (λ its. (omega (arith, its, last), refl))
    (λ gone. ap (has_token token) (sym asked) ∙ gone.1) (λ gone. (gone.0, refl)))
    (λ _. keeps token e.opened (GoneThere token e) (GoneThere token e) (λ gone. gone)))
    (λ _. keeps token e.opened (GoneThere token e) (GoneThere token (record e { asked = None }))
    (λ gone. (gone.0, refl)))
  where
    open_end : OfferValue
    open_end = record e { asked = None; opened = Some (record wish { window = window }) }

response_once : (terms : ℕ → Terms) (token it status window : ℕ) (e : OfferValue) (o : Option Agreement) →
    e.asked ≡ o → AskedFits terms e.last o → OnceThere token e
    (with_response it status window (record e { asked = o }))
response_once terms token it status window e None is fits =
    keeps token e.opened (GoneThere token e) (GoneThere token (record e { asked = None }))
    (λ gone. (gone.0, refl))
response_once terms token it status window e (Some wish) is fits =
    choose (OnceThere token e) (wish.token == it)
    (offer_settled status window wish (record e { asked = Some wish })) (record e { asked = Some wish })
    (λ _. before (settled_once token status window wish (record e { asked = Some wish }) fits.0 refl))
    (λ _. keeps token e.opened (GoneThere token e) (GoneThere token (record e { asked = Some wish }))
    (λ gone. (gone.0, ap (has_token token) (sym is) ∙ gone.1)))
  where
    before : OnceThere token (record e { asked = Some wish })
        (offer_settled status window wish (record e { asked = Some wish })) →
        OnceThere token e (offer_settled status window wish (record e { asked = Some wish }))
    before once = record {
      spends = once.spends;
      stays =
          λ gone. once.stays (gone.0, ap (has_token token) (sym is) ∙ gone.1);
    }

heard_once : (terms : ℕ → Terms) (token : ℕ) (e : OfferValue) (message : Action) →
    AskedFits terms e.last e.asked → OnceThere token e (offer_heard message e)
heard_once terms token e (Request it tid window start) fits =
    keeps token e.opened (GoneThere token e) (GoneThere token e) (λ gone. gone)
heard_once terms token e (Response it status tid window) fits =
    choose (OnceThere token e) (tid == e.tid) (with_response it status window e) e
    (λ _. response_once terms token it status window e e.asked refl fits)
    (λ _. keeps token e.opened (GoneThere token e) (GoneThere token e) (λ gone. gone))
heard_once terms token e (Teardown tid initiator reason) fits =
    choose (OnceThere token e) ((tid == e.tid) && not initiator) (record e { opened = None }) e
    (λ _. ends token e.opened (GoneThere token e) (GoneThere token e) (λ gone. gone))
    (λ _. keeps token e.opened (GoneThere token e) (GoneThere token e) (λ gone. gone))

delivered_once : (terms : ℕ → Terms) (token : ℕ) (w : Parley) (message : Option Action) →
    AskedFits terms w.originator.last w.originator.asked →
    OnceThere token w.originator (to_originator message w).originator
delivered_once terms token w None fits = keeps token w.originator.opened (GoneThere token w.originator)
    (GoneThere token w.originator) (λ gone. gone)
delivered_once terms token w (Some message) fits = heard_once terms token w.originator message fits

-- a message to the recipient does not change the originator
apart : (w : Parley) (message : Option Action) → (to_recipient message w).originator ≡ w.originator
apart w None = refl
apart w (Some message) = refl

originator_step : (token : ℕ) (event : Event) (w : Parley) → IsGood w →
    OnceThere token w.originator (after_event event w).originator
unfolding after_event
originator_step token (Ask window start) w (terms, s) =
    ask_once token window start w.originator (ask_fault w.originator)
originator_step token Again w (terms, s) = keeps token w.originator.opened (GoneThere token w.originator)
    (GoneThere token w.originator) (λ gone. gone)
originator_step token (ToOriginator index) w (terms, s) =
    delivered_once terms token w (slice_get w.answers index) s.asked
originator_step token (ToRecipient index) w (terms, s) =
    subst (OnceThere token w.originator) (sym (apart w (slice_get w.asks index)))
    (keeps token w.originator.opened (GoneThere token w.originator) (GoneThere token w.originator)
    (λ gone. gone))
originator_step token CloseOriginator w (terms, s) =
    ends token w.originator.opened (GoneThere token w.originator) (GoneThere token w.originator)
    (λ gone. gone)
originator_step token CloseRecipient w (terms, s) =
    keeps token w.originator.opened (GoneThere token w.originator) (GoneThere token w.originator)
    (λ gone. gone)
originator_step token RestartOriginator w (terms, s) =
    ends token w.originator.opened (GoneThere token w.originator)
    (GoneThere token (record w.originator { asked = None; opened = None })) (λ gone. (gone.0, refl))
originator_step token RestartRecipient w (terms, s) =
    keeps token w.originator.opened (GoneThere token w.originator) (GoneThere token w.originator)
    (λ gone. gone)

pub originator_once : (token : ℕ) (events : List Event) (w : Parley) → IsGood w →
    times_opened originators token w events ≤ 1
originator_once token events w good = (counts originators token (λ v. GoneThere token v.originator)
    (originator_step token) events w good).1

-- ---- the recipient
abbrev OnceHere : ℕ → AcceptValue → AcceptValue → Type 0
OnceHere token e new = Once (opens token e.opened new.opened) (token ≤ e.last) (token ≤ new.last)

request_once : (token it window start : ℕ) (e : AcceptValue) →
    OnceHere token e (with_request it window start e)
request_once token it window start e =
    choose (OnceHere token e) (nat_lt e.last it) (record
    e {
      last = it;
      opened = Some (record {
        token = it;
        window = granted e.limit window;
        start =
            start;
      });
    }) e
    (λ above. let over : e.last < it = grind (arith, nat_tests, above) in
    begins token e.opened (record { token = it; window = granted e.limit window; start = start })
    (token ≤ e.last) (token ≤ it)
    (λ its. omega (arith, its)) (λ gone. grind (arith, nat_tests, gone, over))
    (λ gone. omega (arith, gone, over)))
    (λ _. keeps token e.opened (token ≤ e.last) (token ≤ e.last) (λ gone. gone))

accepts_once : (token : ℕ) (e : AcceptValue) (message : Action) → OnceHere token e (accept_heard message e)
accepts_once token e (Request it tid window start) =
    choose (OnceHere token e) (tid == e.tid) (with_request it window start e) e
    (λ _. request_once token it window start e)
    (λ _. keeps token e.opened (token ≤ e.last) (token ≤ e.last) (λ gone. gone))
accepts_once token e (Response it status tid window) =
    keeps token e.opened (token ≤ e.last) (token ≤ e.last) (λ gone. gone)
accepts_once token e (Teardown tid initiator reason) =
    choose (OnceHere token e) ((tid == e.tid) && initiator) (record e { opened = None }) e
    (λ _. ends token e.opened (token ≤ e.last) (token ≤ e.last) (λ gone. gone))
    (λ _. keeps token e.opened (token ≤ e.last) (token ≤ e.last) (λ gone. gone))

delivered_here_once : (token : ℕ) (w : Parley) (message : Option Action) →
    OnceHere token w.recipient (to_recipient message w).recipient
delivered_here_once token w None = keeps token w.recipient.opened (token ≤ w.recipient.last)
    (token ≤ w.recipient.last) (λ gone. gone)
delivered_here_once token w (Some message) = accepts_once token w.recipient message

apart_here : (w : Parley) (message : Option Action) → (to_originator message w).recipient ≡ w.recipient
apart_here w None = refl
apart_here w (Some message) = refl

recipient_step : (token : ℕ) (event : Event) (w : Parley) → IsGood w →
    OnceHere token w.recipient (after_event event w).recipient
unfolding after_event
recipient_step token (Ask window start) w _ =
    keeps token w.recipient.opened (token ≤ w.recipient.last) (token ≤ w.recipient.last) (λ gone. gone)
recipient_step token Again w _ = keeps token w.recipient.opened (token ≤ w.recipient.last)
    (token ≤ w.recipient.last) (λ gone. gone)
recipient_step token (ToOriginator index) w _ =
    subst (OnceHere token w.recipient) (sym (apart_here w (slice_get w.answers index)))
    (keeps token w.recipient.opened (token ≤ w.recipient.last) (token ≤ w.recipient.last) (λ gone. gone))
recipient_step token (ToRecipient index) w _ = delivered_here_once token w (slice_get w.asks index)
recipient_step token CloseOriginator w _ = keeps token w.recipient.opened (token ≤ w.recipient.last)
    (token ≤ w.recipient.last) (λ gone. gone)
recipient_step token CloseRecipient w _ = ends token w.recipient.opened (token ≤ w.recipient.last)
    (token ≤ w.recipient.last) (λ gone. gone)
recipient_step token RestartOriginator w _ = keeps token w.recipient.opened (token ≤ w.recipient.last)
    (token ≤ w.recipient.last) (λ gone. gone)
recipient_step token RestartRecipient w _ = ends token w.recipient.opened (token ≤ w.recipient.last)
    (token ≤ w.recipient.last) (λ gone. gone)

pub recipient_once : (token : ℕ) (events : List Event) (w : Parley) → IsGood w →
    times_opened recipients token w events ≤ 1
recipient_once token events w good = (counts recipients token (λ v. token ≤ v.recipient.last)
    (recipient_step token) events w good).1
