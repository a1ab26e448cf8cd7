-- Proves that all flow queues together have at most `limit` frames, in every world of a run: beyond the
-- limit, an Enqueue drops a frame of the longest queue.
use Rattle.std.proofs.Common.{◌≡◌, refl, ap, ◌∙◌, arith, ℕ, zero, suc, ◌+◌, ◌<◌, ◌≤◌, inr, List, [], ◌∷◌, ◌++◌, length, take, Option, Some, None}
use Rattle.std.proofs.lemmas.List.{length-append}
use Rattle.std.proofs.lemmas.List.Sums.{sum_by-cons}
use Rattle.std.specs.Prelude.{sum_by}
use Rattle.wf_frame.specs.declared.settings.Config.{Config}
use Rattle.wf_frame.specs.Settings.{IsInRange}
use Rattle.wf_frame.specs.declared.notes.Ask.{Ask}
use Rattle.wf_frame.specs.declared.notes.Ask.TheVariants.{Join, Leave, Rate, Tick, Pull, Arrive, Answer, Done, Sleep, Wake, Poll, Rx, Reap, Ampdu, Stop, Start, Unsent, GiveUp, Flush, Offload, Weight, Plain, Hold, Begin, Free, Cease, Group, Service, Bss}
use Rattle.wf_frame.specs.declared.notes.Note.{Note}
use Rattle.wf_frame.specs.declared.notes.Note.TheVariants.{Enqueue, Asked}
use Rattle.wf_frame.specs.declared.notes.Refusal.{Refusal}
use Rattle.wf_frame.specs.declared.notes.Refusal.TheVariants.{Idle}
use Rattle.wf_def_lists.specs.Table.{with_member}
use Rattle.wf_def_codel.specs.Codel.{Item, octets}
use Rattle.wf_def_world.specs.World.{World, Queue, Exchange, new_queue, queue, accepted_count, exchange, on_queue, with_frame_finished, with_fate, opening}
use Rattle.wf_def_world.specs.Service.{station_served}
use Rattle.wf_def_world.specs.FlowQueues.{is_at_limit, total_queued, longest_queue, without_head, after_limit, queue_for, with_appended, after_put_in}
use Rattle.wf_def_world.proofs.Longest.{octets_at, longest_first_most}
use Rattle.wf_def_world.specs.Refusals.{refusal}
use Rattle.wf_def_world.specs.Step.{Outcome, tick_outcome, unsent_outcome, give_up_outcome, rate_outcome, sleep_outcome, wake_outcome, poll_outcome, rx_outcome, with_frame, enqueue_outcome, outcome_where_open, concerned_station, outcome_of, after_refusal, judged_outcome, step}
use Rattle.wf_def_world.specs.Run.{Entry, world_after}
use Rattle.wf_def_world.specs.Stretches.{world_at}
use Rattle.wf_law_runs.specs.Queues.{EachItem, HasLength, HaveLengths}
use Rattle.wf_law_runs.specs.Room.{LimitLaw}
use Rattle.wf_law_rules.proofs.Lemmas.Numbers.{on_if}
use Rattle.wf_law_rules.proofs.Lemmas.Tables.{each_put}
use Rattle.wf_law_rules.proofs.Lemmas.Sums.{sum_put, sum_below}
use Rattle.wf_law_rules.proofs.Lemmas.Numbers.{le_yes, le_no}
use Rattle.wf_law_runs.proofs.Common.Refused.{after_idle}
use Rattle.wf_law_runs.proofs.Deficits.Configs.{config_step}
use Rattle.wf_law_runs.proofs.Frames.Fewer.{HasOctets, Less, less, less_plain, less_on_station, less_on_share, less_after_pick, less_listed, less_within_limit, less_weighed, less_held, less_begun, less_freed, less_ceased}
use Rattle.wf_law_runs.proofs.Frames.Delivered.{less_joined, less_gone, less_pulled, less_arrived, less_answered, less_marked, less_flushed, less_reaped, less_ended, less_offloaded, less_unagreed}
use Rattle.wf_law_runs.proofs.Queues.Shelved.{each_append}
use Rattle.wf_law_runs.proofs.Releases.Placed.{Any, less_put_in}

-- ---- the longest queue

each_octet : (xs : List Item) → EachItem HasOctets xs → length xs ≤ octets xs
each_octet [] h = omega arith
each_octet (x ∷ xs) h = omega (arith, sum_by-cons (λ (y : Item). y.len) x xs, h.0, each_octet xs h.1)

-- If the longest queue has no frames, no queue has.
none_queued : (w : World) → ((q : ℕ) → EachItem HasOctets (queue w q).items) →
    (queue w (longest_queue w)).items ≡ [] → total_queued w ≡ 0
unfolding octets_at
none_queued w sized e =
    let most : (k : ℕ) → octets_at w.queues k ≤ octets_at w.queues (longest_queue w) =
    (longest_first_most w.queues).most in
    let none : octets (queue w (longest_queue w)).items ≡ 0 = ap octets e in
    let empty : sum_by (λ (q : Queue). length q.items) w.queues ≤ 0 =
    sum_below (λ (q : Queue). length q.items) new_queue [] w.queues refl
    (λ k. omega (arith, each_octet (queue w k).items (sized k), most k, none)) in
    omega (arith, empty)

-- ---- how many frames are queued

total_less : (P : ℕ → Type 0) (w v : World) → Less P w v → total_queued v ≤ total_queued w
total_less P w v h = sum_below (λ (q : Queue). length q.items) new_queue w.queues v.queues refl
    (λ k. (h.queues k).short)

total_on_queue : (w : World) (q : ℕ) (f : Queue → Queue) →
    total_queued (on_queue w q f) + length (queue w q).items ≡ total_queued w + length (f (queue w q)).items
unfolding on_queue
total_on_queue w q f = sum_put (λ (y : Queue). length y.items) new_queue w.queues q (f (queue w q)) refl

-- One frame is removed.
total_head : (items : List Item) (w : World) (q : ℕ) → (queue w q).items ≡ items → 0 < length items →
    suc (total_queued (without_head w q items)) ≡ total_queued w
unfolding without_head with_frame_finished with_fate
total_head [] w q e h = absurd (omega (arith, h))
total_head (x ∷ rest) w q e h = omega (
  arith,
  total_on_queue w q (λ y. record y { items = rest }),
  ap (length {A = Item}) e,
)

below_limit : (w : World) → 0 < w.config.limit → ((q : ℕ) → EachItem HasOctets (queue w q).items) →
    total_queued w ≤ w.config.limit → total_queued (after_limit w) < w.config.limit
unfolding after_limit
below_limit w some sized h =
    let items : List Item = (queue w (longest_queue w)).items in
    on_if (λ (v : World). total_queued v < w.config.limit) (is_at_limit w)
    (without_head w (longest_queue w) items) w
    (λ e. on_length items refl
    (λ none. absurd (omega (arith, none_queued w sized none, le_yes w.config.limit (total_queued w) e, some)))
    (λ l. omega (
      arith,
      total_head items w (longest_queue w) refl l,
      le_yes w.config.limit (total_queued w) e,
    )))
    (λ e. omega (arith, h, le_no w.config.limit (total_queued w) e))
  where
    on_length : {P : Type 0} (xs : List Item) {ys : List Item} → ys ≡ xs → (ys ≡ [] → P) →
        (0 < length xs → P) → P
    on_length [] e f g = f e
    on_length (x ∷ xs) e f g = g (omega arith)

-- ---- the step

-- n is the limit.
record IsLimited (n : ℕ) (w : World) : Type 0 where
  limit : w.config.limit ≡ n
  sized : (q : ℕ) → EachItem HasOctets (queue w q).items
  most : total_queued w ≤ n

-- The queues of a world, for any settings.
record IsSmall (n : ℕ) (w : World) : Type 0 where
  sized : (q : ℕ) → EachItem HasOctets (queue w q).items
  most : total_queued w ≤ n

small_less : (n : ℕ) (P : ℕ → Type 0) (w v : World) → Less P w v → IsSmall n w → IsSmall n v
small_less n P w v h i = record {
  sized = λ q. (h.queues q).sized (i.sized q);
  most =
      omega (arith, total_less P w v h, i.most);
}

sized_on : (u : World) (q : ℕ) (x : Item) → HasOctets x → ((r : ℕ) → EachItem HasOctets (queue u r).items) →
    (r : ℕ) → EachItem HasOctets (queue (on_queue u q (λ y. record y { items = y.items ++ x ∷ [] })) r).items
unfolding on_queue
sized_on u q x one sized = each_put (λ r y. EachItem HasOctets y.items) new_queue u.queues q _ sized
    (each_append HasOctets (queue u q).items x (sized q) one)

small_appended : (n : ℕ) (u : World) (q : ℕ) (x : Item) → HasOctets x → total_queued u < n →
    ((r : ℕ) → EachItem HasOctets (queue u r).items) → IsSmall n (with_appended u q x)
unfolding with_appended
small_appended n u q x one h sized = record {
  sized = sized_on u q x one sized;
  most = omega (
    arith,
    total_on_queue u q (λ y. record y { items = y.items ++ x ∷ [] }),
    length-append (queue u q).items (x ∷ []),
    h,
  );
}

small_with_frame : (n : ℕ) (w : World) (note : Note) → IsSmall n w → IsSmall n (with_frame w note)
unfolding with_frame
small_with_frame n w note i = record { sized = i.sized; most = i.most }

small_enqueued : (n : ℕ) (w : World) (s t flow len : ℕ) → 0 < n → 1 ≤ len → IsLimited n w →
    IsSmall n (enqueue_outcome w s t flow len).world
unfolding enqueue_outcome
small_enqueued n w s t flow len some one i =
    let u : World = after_limit w in
    let q : ℕ = queue_for u s t flow in
    let x : Item = record { id = accepted_count w; stamp = w.clock; len = len } in
    let below : total_queued u < w.config.limit =
    below_limit w (omega (arith, some, i.limit)) i.sized (omega (arith, i.most, i.limit)) in
    small_with_frame n (after_put_in u s t q x) (Enqueue s t flow len)
    (small_less n Any (with_appended u q x) (after_put_in u s t q x) (less_put_in u s t q x)
    (small_appended n u q x one (omega (arith, below, i.limit))
    (λ r. ((less_within_limit Any w).queues r).sized (i.sized r))))

less_any : (P : ℕ → Type 0) (w v : World) → Less P w v → Less Any w v
less_any P w v h = record {
  queues = h.queues;
  accepted = h.accepted;
  fates = λ id a. inr tt;
  notes = h.notes;
}

less_open : (o : Option Exchange) (w : World) (f : Exchange → Outcome) →
    ((x : Exchange) → Less Any w (f x).world) → Less Any w (outcome_where_open w o f).world
unfolding outcome_where_open
less_open None w f h = less Any w
less_open (Some x) w f h = h x

-- Only an Enqueue adds a frame to a queue.
less_asked : (ask : Ask) (w : World) → Less Any w (outcome_of w (Asked ask)).world
unfolding outcome_of tick_outcome rate_outcome sleep_outcome wake_outcome poll_outcome rx_outcome
    unsent_outcome give_up_outcome
less_asked (Join s window start exponent weight) w = less_joined Any w s window start exponent weight
less_asked (Offload s exponent weight) w = less_offloaded Any w s exponent weight
less_asked (Weight s weight) w = less_weighed Any w s weight
less_asked (Plain s start exponent weight) w = less_unagreed Any w s start exponent weight
less_asked (Hold s t) w = less_held Any w s t
less_asked (Begin s t window) w = less_begun Any w s t window
less_asked (Free s t) w = less_freed Any w s t
less_asked (Cease s t) w = less_ceased Any w s t
less_asked (Leave s) w = less_gone Any w s
less_asked (Rate s rate) w = less_on_station Any w s _
less_asked (Tick by) w = less_plain Any w _ refl refl
less_asked (Pull c l) w = less_pulled Any w c l
less_asked (Arrive e n) w = less_open (exchange w e) w _ (λ x. less_arrived Any w x n)
less_asked (Unsent e n) w = less_open (exchange w e) w _
    (λ x. less_marked Any w x (with_member n x.unsent) x.given_up)
less_asked (GiveUp e n) w = less_open (exchange w e) w _
    (λ x. less_marked Any w x x.unsent (with_member n x.given_up))
less_asked (Flush s t) w = less_flushed Any w s t
less_asked (Answer e) w = less_open (exchange w e) w _ (λ x. less_answered Any w x)
less_asked (Done e heard air) w = less_open (exchange w e) w _
    (λ x. less_any _ w _ (less_ended air w x heard))
less_asked (Sleep s) w = less_on_station Any w s _
less_asked (Ampdu s octets) w = less_on_station Any w s _
less_asked (Stop s) w = less_on_station Any w s _
less_asked (Start s) w = less_on_station Any w s _
less_asked (Wake s) w = less_on_station Any w s _
less_asked (Poll s) w = less_on_station Any w s _
less_asked (Rx s c air) w = less_on_share Any w s c _
less_asked Reap w = less_reaped w.finished Any w
less_asked (Group ask) w = less_plain Any w _ refl refl
less_asked (Service ask) w = less_on_station Any w (station_served ask) _
less_asked (Bss s b) w = less_on_station Any w s _

small_done : (note : Note) (n : ℕ) (w : World) → 0 < n → HasLength note → IsLimited n w →
    IsSmall n (outcome_of w note).world
unfolding outcome_of
small_done (Enqueue s t flow len) n w some one i = small_enqueued n w s t flow len some one i
small_done (Asked ask) n w some one i = small_less n Any w _ (less_asked ask w)
    (record { sized = i.sized; most = i.most })

small_refused : (note : Note) (r : Refusal) (n : ℕ) (w : World) → IsSmall n w →
    IsSmall n (after_refusal w note r)
unfolding after_refusal
small_refused (Asked (Pull c l)) Idle n w i = after_idle (IsSmall n) w c i
    (small_less n Any w _ (less_after_pick Any w c) i)
small_refused _ _ n w i = i

small_answer : (r : Option Refusal) (n : ℕ) (w : World) (note : Note) → 0 < n → HasLength note →
    IsLimited n w → IsSmall n (judged_outcome w note r).world
unfolding judged_outcome
small_answer (Some r) n w note some one i = small_refused note r n w
    (record { sized = i.sized; most = i.most })
small_answer None n w note some one i = small_less n Any (outcome_of w note).world _
    (less_listed Any (concerned_station w note) (outcome_of w note).world) (small_done note n w some one i)

limited_step : (n : ℕ) (w : World) (note : Note) → 0 < n → HasLength note → IsLimited n w →
    IsLimited n (step w note).world
unfolding step
limited_step n w note some one i =
    let k : IsSmall n (step w note).world = small_answer (refusal w note) n w note some one i in
    record {
      limit = ap (λ (c : Config). c.limit) (config_step w note) ∙ i.limit;
      sized = k.sized;
      most =
          k.most;
    }

limited_run : (h : List Entry) (n : ℕ) (w : World) → 0 < n → HaveLengths h → IsLimited n w →
    IsLimited n (world_after w h)
unfolding world_after
limited_run [] n w some long i = i
limited_run (e ∷ es) n w some long i = limited_run es n (step w e.1).world some long.1
    (limited_step n w e.1 some long.0 i)

pub have_lengths_taken : (m : ℕ) (h : List Entry) → HaveLengths h → HaveLengths (take m h)
have_lengths_taken zero h a = tt
have_lengths_taken (suc m) [] a = tt
have_lengths_taken (suc m) (e ∷ es) a = (a.0, have_lengths_taken m es a.1)

pub limit_law : (config : Config) (h : List Entry) → IsInRange config → LimitLaw config h
limit_law config h range long m =
    let i : IsLimited config.limit (world_at config h m) =
    limited_run (take m h) config.limit (opening config) (omega (arith, range.limit.0))
    (have_lengths_taken m h long) (record { limit = refl; sized = λ q. tt; most = omega arith }) in
    i.most
