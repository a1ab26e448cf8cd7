-- Proves that a call that sends frames opens the exchange that its reply names, and that all other calls send
-- none. By cases of the call.
use Rattle.std.proofs.Common.{◌≡◌, refl, sym, subst, ℕ, Bool, true, false, ◌⊎◌, inl, inr, List, [], ◌∷◌, ◌++◌, Option, Some, None}
use Rattle.wf_frame.specs.declared.classes.Class.{Class}
use Rattle.wf_frame.specs.declared.notes.Ask.TheVariants.{Join, Leave, Rate, Tick, Pull, Arrive, Answer, Done, Sleep, Wake, Poll, Rx, Reap, Ampdu, Stop, Start, Unsent, GiveUp, Flush, Offload, Weight, Plain, Hold, Begin, Free, Cease, Group, Service, Bss}
use Rattle.wf_frame.specs.declared.notes.Limits.{Limits}
use Rattle.wf_frame.specs.declared.notes.Note.{Note}
use Rattle.wf_frame.specs.declared.notes.Note.TheVariants.{Enqueue, Asked}
use Rattle.wf_frame.specs.declared.notes.Refusal.{Refusal}
use Rattle.wf_frame.specs.declared.notes.ReplyNote.{ReplyNote}
use Rattle.wf_frame.specs.declared.notes.ReplyNote.TheVariants.{Send}
use Rattle.wf_def_agreement.specs.Receiver.{Score}
use Rattle.wf_def_world.specs.World.{World, Exchange, exchange}
use Rattle.wf_law_runs.specs.Waiting.{is_sent_to}
use Rattle.wf_def_world.specs.Exchanges.{Prepared, part_of, exchange_of, picked_station, with_exchange_opened}
use Rattle.wf_def_world.specs.Refusals.{refusal}
use Rattle.wf_def_world.specs.Step.{Outcome, enqueue_outcome, join_outcome, leave_outcome, rate_outcome, tick_outcome, send_outcome, pull_outcome_for, pull_outcome, arrive_outcome, answer_reply, answer_outcome, unsent_outcome, give_up_outcome, flush_outcome, done_outcome, outcome_where_open, sleep_outcome, wake_outcome, poll_outcome, rx_outcome, reap_outcome, outcome_of, concerned_station, judged_outcome, step, offload_outcome, weight_outcome, plain_outcome, hold_outcome, begin_outcome, free_outcome, cease_outcome}
use Rattle.wf_law_runs.specs.Windows.{SomeOpen}
use Rattle.wf_law_runs.specs.Tries.{tries_by, frames_sent_by, data_exchanges_by}
use Rattle.wf_law_runs.proofs.Common.Picked.{picked_world}
use Rattle.wf_law_runs.proofs.Windows.Opened.{Each}
use Rattle.wf_law_runs.proofs.Windows.Sides.{same_spent, same_listed}

-- A reply that sends no frame.
pub record SendsNone (r : ReplyNote) : Type 0 where
  pub tries : (k : ℕ) → tries_by k r ≡ 0
  pub frames : frames_sent_by r ≡ 0
  pub exchanges : data_exchanges_by r ≡ 0
  pub receiver : (s : ℕ) → is_sent_to s r ≡ false

-- An outcome that opens an exchange, and whose reply names it.
pub record Opens (o : Outcome) : Type 0 where
  pub exchange : Exchange
  pub among : SomeOpen (λ y. y ≡ exchange) o.world.opened
  pub reply : o.reply ≡ Send exchange.number exchange.station exchange.tid exchange.charge
      (part_of exchange.batch exchange.plain exchange.content) exchange.more exchange.eosp

abbrev pub NoneOrOpens : Outcome → Type 0
NoneOrOpens o = SendsNone o.reply ⊎ Opens o

pub at_some : (P : Exchange → Type 0) (xs : List Exchange) (x : Exchange) → Each P xs →
    SomeOpen (λ y. y ≡ x) xs → P x
at_some P [] x h s = absurd s
at_some P (y ∷ ys) x h s = elim s [ inl e ↦ subst P e h.0 | inr e ↦ at_some P ys x h.1 e ]

pub some_last : (xs : List Exchange) (x : Exchange) → SomeOpen (λ y. y ≡ x) (xs ++ x ∷ [])
some_last [] x = inl refl
some_last (y ∷ ys) x = inr (some_last ys x)

nothing : (r : ReplyNote) → ((k : ℕ) → tries_by k r ≡ 0) → frames_sent_by r ≡ 0 → data_exchanges_by r ≡ 0 →
    ((s : ℕ) → is_sent_to s r ≡ false) → SendsNone r
nothing r t f d n = record { tries = t; frames = f; exchanges = d; receiver = n }

none_open : (o : Option Exchange) (w : World) (f : Exchange → Outcome) →
    ((x : Exchange) → SendsNone (f x).reply) → SendsNone (outcome_where_open w o f).reply
unfolding outcome_where_open
none_open None w f h = nothing _ (λ k. refl) refl refl (λ s. refl)
none_open (Some x) w f h = h x

none_answered : (plain : Bool) (b : Score) (wide : Bool) → SendsNone (answer_reply plain b wide)
none_answered true b wide = nothing _ (λ k. refl) refl refl (λ s. refl)
none_answered false b wide = nothing _ (λ k. refl) refl refl (λ s. refl)

none_reaped : (ids : List ℕ) (w : World) → SendsNone (reap_outcome w ids).reply
unfolding reap_outcome
none_reaped [] w = nothing _ (λ k. refl) refl refl (λ s. refl)
none_reaped (id ∷ ids) w = nothing _ (λ k. refl) refl refl (λ s. refl)

opens_sent : (s t : ℕ) (c : Class) (p : Prepared) → Opens (send_outcome s t c p)
unfolding send_outcome with_exchange_opened
opens_sent s t c p =
    let x : Exchange = exchange_of s t c p in
    record {
      exchange = x;
      among = subst (SomeOpen (λ y. y ≡ x)) (sym (same_spent (with_exchange_opened p.world x) x).opened)
          (some_last p.world.opened x);
      reply = refl;
    }

opens_pulled_by : (o : Option ℕ) (w : World) (c : Class) → NoneOrOpens (pull_outcome_for w c o)
unfolding pull_outcome_for
opens_pulled_by None w c = inl (nothing _ (λ k. refl) refl refl (λ s. refl))
opens_pulled_by (Some s) w c = inr (opens_sent s _ c _)

opens_pulled : (w : World) (c : Class) (l : Limits) → NoneOrOpens (pull_outcome w c l)
unfolding pull_outcome
opens_pulled w c l = opens_pulled_by (picked_station w c).winner (picked_world w c l) c

-- A call that is not a Pull sends nothing.
abbrev pub PullsOr : Note → ReplyNote → Type 0
PullsOr note r = ((c : Class) × (l : Limits) × (note ≡ Asked (Pull c l))) ⊎ SendsNone r

none_done : (note : Note) (w : World) → PullsOr note (outcome_of w note).reply
unfolding outcome_of enqueue_outcome join_outcome offload_outcome weight_outcome leave_outcome
    tick_outcome rate_outcome sleep_outcome wake_outcome poll_outcome rx_outcome arrive_outcome
    answer_outcome unsent_outcome give_up_outcome flush_outcome done_outcome plain_outcome hold_outcome
    begin_outcome free_outcome cease_outcome
none_done (Enqueue s t flow len) w = inr (nothing _ (λ k. refl) refl refl (λ s. refl))
none_done (Asked (Join s window start exponent weight)) w = inr (nothing _ (λ k. refl) refl refl (λ s. refl))
none_done (Asked (Leave s)) w = inr (nothing _ (λ k. refl) refl refl (λ s. refl))
none_done (Asked (Rate s rate)) w = inr (nothing _ (λ k. refl) refl refl (λ s. refl))
none_done (Asked (Tick by)) w = inr (nothing _ (λ k. refl) refl refl (λ s. refl))
none_done (Asked (Pull c l)) w = inl (c, l, refl)
none_done (Asked (Arrive e n)) w =
    inr (none_open (exchange w e) w _ (λ x. nothing _ (λ k. refl) refl refl (λ s. refl)))
none_done (Asked (Answer e)) w = inr (none_open (exchange w e) w _ (λ x. none_answered x.plain _ _))
none_done (Asked (Done e heard air)) w = inr (none_open (exchange w e) w _ (λ x.
    nothing _ (λ k. refl) refl refl (λ s. refl)))
none_done (Asked (Sleep s)) w = inr (nothing _ (λ k. refl) refl refl (λ s. refl))
none_done (Asked (Ampdu s octets)) w = inr (nothing _ (λ k. refl) refl refl (λ s. refl))
none_done (Asked (Stop s)) w = inr (nothing _ (λ k. refl) refl refl (λ s. refl))
none_done (Asked (Start s)) w = inr (nothing _ (λ k. refl) refl refl (λ s. refl))
none_done (Asked (Wake s)) w = inr (nothing _ (λ k. refl) refl refl (λ s. refl))
none_done (Asked (Poll s)) w = inr (nothing _ (λ k. refl) refl refl (λ s. refl))
none_done (Asked (Rx s c air)) w = inr (nothing _ (λ k. refl) refl refl (λ s. refl))
none_done (Asked Reap) w =
    inr (none_reaped w.finished w)
none_done (Asked (Unsent e n)) w =
    inr (none_open (exchange w e) w _ (λ x. nothing _ (λ k. refl) refl refl (λ s. refl)))
none_done (Asked (GiveUp e n)) w =
    inr (none_open (exchange w e) w _ (λ x. nothing _ (λ k. refl) refl refl (λ s. refl)))
none_done (Asked (Flush s t)) w = inr (nothing _ (λ k. refl) refl refl (λ s. refl))
none_done (Asked (Offload s exponent weight)) w = inr (nothing _ (λ k. refl) refl refl (λ s. refl))
none_done (Asked (Weight s weight)) w = inr (nothing _ (λ k. refl) refl refl (λ s. refl))
none_done (Asked (Plain s start exponent weight)) w = inr (nothing _ (λ k. refl) refl refl (λ s. refl))
none_done (Asked (Hold s t)) w = inr (nothing _ (λ k. refl) refl refl (λ s. refl))
none_done (Asked (Begin s t window)) w = inr (nothing _ (λ k. refl) refl refl (λ s. refl))
none_done (Asked (Free s t)) w = inr (nothing _ (λ k. refl) refl refl (λ s. refl))
none_done (Asked (Cease s t)) w = inr (nothing _ (λ k. refl) refl refl (λ s. refl))
none_done (Asked (Group ask)) w = inr (nothing _ (λ k. refl) refl refl (λ s. refl))
none_done (Asked (Service ask)) w = inr (nothing _ (λ k. refl) refl refl (λ s. refl))
none_done (Asked (Bss s b)) w = inr (nothing _ (λ k. refl) refl refl (λ s. refl))

none_answer : (r : Option Refusal) (w : World) (note : Note) → PullsOr note (judged_outcome w note r).reply
unfolding judged_outcome
none_answer (Some r) w note = inr (nothing _ (λ k. refl) refl refl (λ s. refl))
none_answer None w note = none_done note w

pub none_step : (w : World) (note : Note) → PullsOr note (step w note).reply
unfolding step
none_step w note = none_answer (refusal w note) w note

pulled_is : (w : World) (c : Class) (l : Limits) → outcome_of w (Asked (Pull c l)) ≡ pull_outcome w c l
unfolding outcome_of
pulled_is w c l = refl

opens_done : (note : Note) (w : World) → NoneOrOpens (outcome_of w note)
opens_done note w = elim (none_done note w) [
  | inl p ↦ subst (λ (n : Note). NoneOrOpens (outcome_of w n)) (sym p.2)
      (subst NoneOrOpens (sym (pulled_is w p.0 p.1)) (opens_pulled w p.0 p.1))
  | inr h ↦ inl h
]

opens_answer : (r : Option Refusal) (w : World) (note : Note) → NoneOrOpens (judged_outcome w note r)
unfolding judged_outcome
opens_answer (Some r) w note = inl (nothing _ (λ k. refl) refl refl (λ s. refl))
opens_answer None w note = elim (opens_done note w) [
  | inl h ↦ inl h
  | inr h ↦ inr (record {
    exchange = h.exchange;
    among = subst (SomeOpen (λ y. y ≡ h.exchange))
        (sym (same_listed (concerned_station w note) (outcome_of w note).world).opened) h.among;
    reply = h.reply;
  })
]

pub opens_step : (w : World) (note : Note) → NoneOrOpens (step w note)
unfolding step
opens_step w note = opens_answer (refusal w note) w note
