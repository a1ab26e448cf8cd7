-- Proves that no call changes the settings.
use Rattle.std.proofs.Common.{◌≡◌, refl, ap, ◌∙◌, ℕ, Bool, true, false, if◌then◌else◌, List, [], ◌∷◌, Option, Some, None}
use Rattle.wf_frame.specs.declared.classes.Class.{Class}
use Rattle.wf_frame.specs.declared.notes.Ask.TheVariants.{Join, Leave, Rate, Tick, Pull, Arrive, Answer, Done, Sleep, Wake, Poll, Rx, Reap, Ampdu, Stop, Start, Unsent, GiveUp, Flush, Offload, Weight, Plain, Hold, Begin, Free, Cease, Group, Service, Bss}
use Rattle.wf_frame.specs.declared.notes.Limits.{Limits}
use Rattle.wf_frame.specs.declared.notes.Note.{Note}
use Rattle.wf_frame.specs.declared.notes.Note.TheVariants.{Enqueue, Asked}
use Rattle.wf_frame.specs.declared.notes.Refusal.{Refusal}
use Rattle.wf_frame.specs.declared.notes.Refusal.TheVariants.{Idle}
use Rattle.wf_def_rotation.specs.Rotation.{Rotation}
use Rattle.wf_def_world.specs.World.{World, Exchange, exchange, with_rotation, with_exchange, on_receiver, on_tid, on_station, with_station}
use Rattle.wf_frame.specs.Classes.{all_classes}
use Rattle.wf_def_world.specs.CanSend.{with_listing_in, with_listings_in, with_listings_of}
use Rattle.wf_def_world.specs.Exchanges.{Prepared, after_pick, after_tid_turn, prepared_exchange, sending_tid}
use Rattle.wf_def_world.specs.Refusals.{refusal}
use Rattle.wf_def_world.specs.Step.{Outcome, tick_outcome, outcome_where_open, pull_outcome_for, pull_outcome, arrive_outcome, answer_outcome, unsent_outcome, give_up_outcome, outcome_of, after_refusal, judged_outcome, step}
use Rattle.wf_def_world.specs.Run.{Entry, world_after}
use Rattle.wf_law_runs.proofs.Common.Refused.{after_idle}
use Rattle.wf_law_runs.proofs.Deficits.Books.{Books, books}
use Rattle.wf_law_runs.proofs.Deficits.BookSteps.{books_after_turn, books_prepared, books_sent, books_ended, books_gone, books_enqueued, books_received, books_reaped, books_slept, books_woken, books_credited, books_with_rate, books_joined, books_after_pick, books_stated, books_stopped, books_started, books_flushed, books_offloaded, books_weighed, books_joined_plain, books_held, books_begun, books_freed, books_ceased, books_served, books_moved}

same : (w v : World) (b : Books) → books v ≡ b → b.config ≡ w.config → v.config ≡ w.config
same w v b e h = ap (λ (z : Books). z.config) e ∙ h

listed_if : (w : World) (c : Class) (r : Rotation) (b : Bool) →
    (if b then with_rotation w c r else w).config ≡ w.config
unfolding with_rotation
listed_if w c r true = refl
listed_if w c r false = refl

config_listed_in_all : (cs : List Class) (w : World) (s : ℕ) → (with_listings_in w s cs).config ≡ w.config
unfolding with_listings_in with_listing_in
config_listed_in_all [] w s = refl
config_listed_in_all (c ∷ cs) w s = config_listed_in_all cs _ s ∙ listed_if w c _ _

config_listed : (o : Option ℕ) (w : World) → (with_listings_of w o).config ≡ w.config
unfolding with_listings_of
config_listed None w = refl
config_listed (Some s) w = config_listed_in_all all_classes w s

config_after_pick : (w : World) (c : Class) → (after_pick w c).config ≡ w.config
config_after_pick w c = same w (after_pick w c) _ (books_after_pick w c) refl

config_pulled_by : (o : Option ℕ) (v : World) (c : Class) → (pull_outcome_for v c o).world.config ≡ v.config
unfolding pull_outcome_for
config_pulled_by None v c = refl
config_pulled_by (Some s) v c =
    let t : ℕ = sending_tid v s c in
    let p : Prepared = prepared_exchange (after_tid_turn v s c t) s t in
    let e : books p.world ≡ books v = books_prepared (after_tid_turn v s c t) s t
    ∙ books_after_turn v s c t in
    ap (λ (z : Books). z.config) (books_sent s t c p) ∙ ap (λ (z : Books). z.config) e

config_pulled : (w : World) (c : Class) (l : Limits) → (pull_outcome w c l).world.config ≡ w.config
unfolding pull_outcome
config_pulled w c l = config_pulled_by _ _ c ∙ config_after_pick w c

config_open : (o : Option Exchange) (w : World) (f : Exchange → Outcome) →
    ((x : Exchange) → (f x).world.config ≡ w.config) → (outcome_where_open w o f).world.config ≡ w.config
unfolding outcome_where_open
config_open None w f h = refl
config_open (Some x) w f h = h x

config_arrived : (w : World) (x : Exchange) (j : ℕ) → (arrive_outcome w x j).world.config ≡ w.config
unfolding arrive_outcome with_exchange on_receiver on_tid on_station with_station
config_arrived w x j = refl

config_answered : (w : World) (x : Exchange) → (answer_outcome w x).world.config ≡ w.config
unfolding answer_outcome with_exchange
config_answered w x = refl

config_unsent : (w : World) (x : Exchange) (j : ℕ) → (unsent_outcome w x j).world.config ≡ w.config
unfolding unsent_outcome with_exchange
config_unsent w x j = refl

config_given_up : (w : World) (x : Exchange) (j : ℕ) → (give_up_outcome w x j).world.config ≡ w.config
unfolding give_up_outcome with_exchange
config_given_up w x j = refl

pub config_done : (note : Note) (w : World) → (outcome_of w note).world.config ≡ w.config
unfolding outcome_of tick_outcome
config_done (Enqueue s t flow len) w = ap (λ (z : Books). z.config) (books_enqueued w s t flow len)
config_done (Asked (Join s window start exponent weight)) w =
    ap (λ (z : Books). z.config) (books_joined w s window start exponent weight)
config_done (Asked (Offload s exponent weight)) w =
    ap (λ (z : Books). z.config) (books_offloaded w s exponent weight)
config_done (Asked (Plain s start exponent weight)) w =
    ap (λ (z : Books). z.config) (books_joined_plain w s start exponent weight)
config_done (Asked (Weight s weight)) w = ap (λ (z : Books). z.config) (books_weighed w s weight)
config_done (Asked (Leave s)) w = ap (λ (z : Books). z.config) (books_gone w s)
config_done (Asked (Rate s rate)) w =
    ap (λ (z : Books). z.config) (books_with_rate w s rate)
config_done (Asked (Tick by)) w = refl
config_done (Asked (Pull c l)) w = config_pulled w c l
config_done (Asked (Arrive e j)) w = config_open (exchange w e) w _ (λ x. config_arrived w x j)
config_done (Asked (Unsent e j)) w = config_open (exchange w e) w _ (λ x. config_unsent w x j)
config_done (Asked (GiveUp e j)) w = config_open (exchange w e) w _ (λ x. config_given_up w x j)
config_done (Asked (Answer e)) w = config_open (exchange w e) w _ (λ x. config_answered w x)
config_done (Asked (Done e heard air)) w = config_open (exchange w e) w _
    (λ x. ap (λ (z : Books). z.config) (books_ended air w x heard))
config_done (Asked (Sleep s)) w = ap (λ (z : Books). z.config) (books_slept w s)
config_done (Asked (Ampdu s octets)) w = ap (λ (z : Books). z.config) (books_stated w s octets)
config_done (Asked (Stop s)) w = ap (λ (z : Books). z.config) (books_stopped w s)
config_done (Asked (Start s)) w = ap (λ (z : Books). z.config) (books_started w s)
config_done (Asked (Flush s t)) w = ap (λ (z : Books). z.config) (books_flushed w s t)
config_done (Asked (Hold s t)) w = ap (λ (z : Books). z.config) (books_held w s t)
config_done (Asked (Begin s t window)) w = ap (λ (z : Books). z.config) (books_begun w s t window)
config_done (Asked (Free s t)) w = ap (λ (z : Books). z.config) (books_freed w s t)
config_done (Asked (Cease s t)) w = ap (λ (z : Books). z.config) (books_ceased w s t)
config_done (Asked (Wake s)) w = ap (λ (z : Books). z.config) (books_woken w s)
config_done (Asked (Poll s)) w = ap (λ (z : Books). z.config) (books_credited w s)
config_done (Asked (Rx s c air)) w = ap (λ (z : Books). z.config) (books_received w s c air)
config_done (Asked Reap) w = ap (λ (z : Books). z.config) (books_reaped w.finished w)
config_done (Asked (Group ask)) w = refl
config_done (Asked (Service ask)) w = ap (λ (z : Books). z.config) (books_served w ask)
config_done (Asked (Bss s b)) w = ap (λ (z : Books). z.config) (books_moved w s b)

config_refused : (note : Note) (r : Refusal) (w : World) → (after_refusal w note r).config ≡ w.config
unfolding after_refusal
config_refused (Asked (Pull c l)) Idle w = after_idle (λ v. v.config ≡ w.config) w c refl
    (config_after_pick w c)
config_refused _ _ w = refl

config_answer : (r : Option Refusal) (w : World) (note : Note) →
    (judged_outcome w note r).world.config ≡ w.config
unfolding judged_outcome
config_answer (Some r) w note = config_refused note r w
config_answer None w note = config_listed _ _ ∙ config_done note w

pub config_step : (w : World) (note : Note) → (step w note).world.config ≡ w.config
unfolding step
config_step w note = config_answer (refusal w note) w note

pub config_run : (h : List Entry) (w : World) → (world_after w h).config ≡ w.config
unfolding world_after
config_run [] w = refl
config_run (e ∷ es) w = config_run es _ ∙ config_step w e.1
