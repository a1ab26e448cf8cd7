-- Proves that an exchange that a reply names has begun by then. By cases of the call.
use Rattle.std.proofs.Common.{◌≡◌, ℕ, ◌<◌, ◌≤◌, Bool, true, false, if◌then◌else◌, List, [], ◌∷◌, Option, Some, None, refl, sym, ◌∙◌, subst, arith}
use Rattle.wf_frame.specs.declared.classes.Class.{Class}
use Rattle.wf_frame.specs.declared.notes.Ask.TheVariants.{Join, Leave, Rate, Tick, Pull, Arrive, Answer, Done, Sleep, Wake, Poll, Rx, Reap, Ampdu, Stop, Start, Unsent, GiveUp, Flush, Offload, Weight, Plain, Hold, Begin, Free, Cease, Group, Service, Bss}
use Rattle.wf_frame.specs.declared.notes.Limits.{Limits}
use Rattle.wf_frame.specs.declared.notes.Note.{Note}
use Rattle.wf_frame.specs.declared.notes.Note.TheVariants.{Enqueue, Asked}
use Rattle.wf_frame.specs.declared.notes.Refusal.{Refusal}
use Rattle.wf_frame.specs.declared.notes.ReplyNote.{ReplyNote}
use Rattle.wf_frame.specs.declared.notes.ReplyNote.TheVariants.{Send}
use Rattle.wf_frame.specs.Classes.{all_classes}
use Rattle.wf_def_agreement.specs.Receiver.{Score}
use Rattle.wf_def_world.specs.World.{World, Exchange, exchange, with_bounds, with_station, on_station, with_rotation}
use Rattle.wf_def_world.specs.CanSend.{with_listing_in, with_listings_in, with_listings_of}
use Rattle.wf_def_world.specs.Exchanges.{Prepared, picked_station, after_pick, bounds_of, with_exchange_opened, with_spent}
use Rattle.wf_def_world.specs.Refusals.{refusal}
use Rattle.wf_def_world.specs.Step.{Outcome, join_outcome, leave_outcome, rate_outcome, tick_outcome, enqueue_outcome, send_outcome, pull_outcome_for, pull_outcome, arrive_outcome, answer_reply, answer_outcome, unsent_outcome, give_up_outcome, flush_outcome, done_outcome, outcome_where_open, sleep_outcome, wake_outcome, poll_outcome, rx_outcome, reap_outcome, outcome_of, concerned_station, judged_outcome, step, offload_outcome, weight_outcome, plain_outcome, hold_outcome, begin_outcome, free_outcome, cease_outcome}

-- If a reply names the exchange that it begins, the number is below n.
abbrev pub NamesBelow : ℕ → ReplyNote → Type 0
NamesBelow n (Send e s t air part more eosp) = e < n
NamesBelow n _ = Unit {0}

-- The same for the outcome of a call, with the number of exchanges that have begun by then.
abbrev NamesOwn : Outcome → Type 0
NamesOwn o = NamesBelow o.world.exchanges o.reply

own_sent : (s t : ℕ) (c : Class) (p : Prepared) → NamesOwn (send_outcome s t c p)
unfolding send_outcome with_spent with_exchange_opened on_station with_station
own_sent s t c p = omega arith

own_pulled_by : (o : Option ℕ) (w : World) (c : Class) → NamesOwn (pull_outcome_for w c o)
unfolding pull_outcome_for
own_pulled_by None w c = tt
own_pulled_by (Some s) w c = own_sent s _ c _

own_pulled : (w : World) (c : Class) (l : Limits) → NamesOwn (pull_outcome w c l)
unfolding pull_outcome
own_pulled w c l =
    own_pulled_by (picked_station w c).winner (with_bounds (after_pick w c) (bounds_of w.config c l)) c

own_open : (o : Option Exchange) (w : World) (f : Exchange → Outcome) → ((x : Exchange) → NamesOwn (f x)) →
    NamesOwn (outcome_where_open w o f)
unfolding outcome_where_open
own_open None w f h = tt
own_open (Some x) w f h = h x

own_arrived : (w : World) (x : Exchange) (i : ℕ) → NamesOwn (arrive_outcome w x i)
unfolding arrive_outcome
own_arrived w x i = tt

own_shown : (plain : Bool) (n : ℕ) (b : Score) (wide : Bool) → NamesBelow n (answer_reply plain b wide)
own_shown true n b wide = tt
own_shown false n b wide = tt

own_answered : (w : World) (x : Exchange) → NamesOwn (answer_outcome w x)
unfolding answer_outcome
own_answered w x = own_shown x.plain _ _ _

own_unsent : (w : World) (x : Exchange) (i : ℕ) → NamesOwn (unsent_outcome w x i)
unfolding unsent_outcome
own_unsent w x i = tt

own_given_up : (w : World) (x : Exchange) (i : ℕ) → NamesOwn (give_up_outcome w x i)
unfolding give_up_outcome
own_given_up w x i = tt

own_done : (w : World) (x : Exchange) (heard : Bool) (air : Option ℕ) → NamesOwn (done_outcome w x heard air)
unfolding done_outcome
own_done w x heard air = tt

own_reaped : (ids : List ℕ) (w : World) → NamesOwn (reap_outcome w ids)
unfolding reap_outcome
own_reaped [] w = tt
own_reaped (id ∷ ids) w = tt

own_outcome : (note : Note) (w : World) → NamesOwn (outcome_of w note)
unfolding outcome_of enqueue_outcome join_outcome leave_outcome rate_outcome tick_outcome sleep_outcome
    wake_outcome poll_outcome rx_outcome flush_outcome offload_outcome weight_outcome plain_outcome
    hold_outcome begin_outcome free_outcome cease_outcome
own_outcome (Enqueue s t flow len) w = tt
own_outcome (Asked (Join s window start exponent weight)) w = tt
own_outcome (Asked (Leave s)) w = tt
own_outcome (Asked (Rate s rate)) w = tt
own_outcome (Asked (Tick by)) w = tt
own_outcome (Asked (Pull c l)) w = own_pulled w c l
own_outcome (Asked (Arrive e i)) w = own_open (exchange w e) w _ (λ x. own_arrived w x i)
own_outcome (Asked (Answer e)) w = own_open (exchange w e) w _ (λ x. own_answered w x)
own_outcome (Asked (Done e heard air)) w = own_open (exchange w e) w _ (λ x. own_done w x heard air)
own_outcome (Asked (Sleep s)) w = tt
own_outcome (Asked (Wake s)) w = tt
own_outcome (Asked (Poll s)) w = tt
own_outcome (Asked (Rx s c air)) w = tt
own_outcome (Asked Reap) w = own_reaped w.finished w
own_outcome (Asked (Ampdu s octets)) w = tt
own_outcome (Asked (Stop s)) w = tt
own_outcome (Asked (Start s)) w = tt
own_outcome (Asked (Unsent e i)) w = own_open (exchange w e) w _ (λ x. own_unsent w x i)
own_outcome (Asked (GiveUp e i)) w = own_open (exchange w e) w _ (λ x. own_given_up w x i)
own_outcome (Asked (Flush s t)) w = tt
own_outcome (Asked (Offload s exponent weight)) w = tt
own_outcome (Asked (Weight s weight)) w = tt
own_outcome (Asked (Plain s start exponent weight)) w = tt
own_outcome (Asked (Hold s t)) w = tt
own_outcome (Asked (Begin s t window)) w = tt
own_outcome (Asked (Free s t)) w = tt
own_outcome (Asked (Cease s t)) w = tt
own_outcome (Asked (Group ask)) w = tt
own_outcome (Asked (Service ask)) w = tt
own_outcome (Asked (Bss s b)) w = tt

-- Listing a station begins no exchange.
same_if : (b : Bool) (u w : World) → u.exchanges ≡ w.exchanges → (if b then u else w).exchanges ≡ w.exchanges
same_if true u w is = is
same_if false u w is = refl

same_listing : (w : World) (s : ℕ) (c : Class) → (with_listing_in w s c).exchanges ≡ w.exchanges
unfolding with_listing_in with_rotation
same_listing w s c = same_if _ _ w refl

same_listings : (cs : List Class) (w : World) (s : ℕ) → (with_listings_in w s cs).exchanges ≡ w.exchanges
unfolding with_listings_in
same_listings [] w s = refl
same_listings (c ∷ cs) w s = same_listings cs (with_listing_in w s c) s ∙ same_listing w s c

same_listed : (o : Option ℕ) (w : World) → (with_listings_of w o).exchanges ≡ w.exchanges
unfolding with_listings_of
same_listed None w = refl
same_listed (Some s) w = same_listings all_classes w s

own_judged : (r : Option Refusal) (w : World) (note : Note) → NamesOwn (judged_outcome w note r)
unfolding judged_outcome
own_judged (Some r) w note = tt
own_judged None w note =
    subst (λ n. NamesBelow n (outcome_of w note).reply)
    (sym (same_listed (concerned_station w note) (outcome_of w note).world)) (own_outcome note w)

-- The reply to a call names an exchange that has begun by then.
pub names_own : (w : World) (note : Note) → NamesBelow (step w note).world.exchanges (step w note).reply
unfolding step
names_own w note = own_judged (refusal w note) w note

-- The bound may grow.
pub names_more : (r : ReplyNote) (m n : ℕ) → m ≤ n → NamesBelow m r → NamesBelow n r
names_more (Send e s t air part more eosp) m n le is = omega (arith, le, is)
names_more _ m n le is = tt
