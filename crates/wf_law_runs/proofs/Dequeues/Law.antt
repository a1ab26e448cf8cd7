-- Proves the law of CoDel in whole runs, by induction on the run.
use Rattle.std.proofs.Common.{subst, ap, sym, ◌∙◌, suc, ◌++◌, ◌<◌, inl, inr, ◌≡◌, refl, ℕ, ◌==◌, ◌&&◌, is_none, List, [], ◌∷◌, take}
use Rattle.wf_frame.specs.declared.settings.Config.{Config}
use Rattle.wf_frame.specs.declared.notes.Ask.TheVariants.{Join, Leave, Rate, Tick, Pull, Arrive, Answer, Done, Sleep, Wake, Poll, Rx, Reap, Ampdu, Stop, Start, Unsent, GiveUp, Flush, Offload, Weight, Plain, Hold, Begin, Free, Cease, Group, Service, Bss}
use Rattle.wf_frame.specs.declared.notes.Note.{Note}
use Rattle.wf_frame.specs.declared.notes.Note.TheVariants.{Enqueue, Asked}
use Rattle.wf_def_codel.specs.Codel.{Codel}
use Rattle.wf_def_world.specs.World.{World, queue, opening}
use Rattle.wf_def_world.specs.FlowQueues.{after_limit}
use Rattle.wf_def_world.specs.Refusals.{refusal}
use Rattle.wf_def_world.specs.Step.{step}
use Rattle.wf_def_world.specs.Run.{Entry, world_after}
use Rattle.wf_law_rules.specs.CodelLaws.{looks_in, first_looks, HasStood, drops_by, codel_after_all}
use Rattle.wf_law_rules.proofs.Lemmas.Numbers.{on_if}
use Rattle.wf_law_rules.proofs.Lemmas.CodelLaws.{standing, rate}
use Rattle.wf_law_runs.specs.Dequeues.{Visits, no_visits, renewed_visits, calmed_visits, lists_queue, becomes_listed, visits_done, visits_after, visits_in, KeepsCodel, HasDequeue, CodelLaw}
use Rattle.wf_law_runs.proofs.Dequeues.States.{state_of, codel_append, codel_step}
use Rattle.wf_law_runs.proofs.Dequeues.Drops.{DroppedBy, drops_step}

-- The visits x of queue q: the queue has the state after them, and no look before them saw a standing queue.
record IsVisited (w : World) (q : ℕ) (x : Visits) : Type 0 where
  state : (queue w q).codel ≡ state_of x
  start : x.start.first_above ≡ 0

start_done : (note : Note) (w : World) (q : ℕ) (x : Visits) → x.start.first_above ≡ 0 →
    (visits_done w q note x).start.first_above ≡ 0
start_done (Enqueue s t flow len) w q x h = on_if (λ (y : Visits). y.start.first_above ≡ 0)
    ((w.config.codel_reset == 1) && becomes_listed (after_limit w) s t flow q) (calmed_visits x) x
    (λ _. refl) (λ _. h)
start_done (Asked (Join s window start exponent weight)) w q x h = h
start_done (Asked (Offload s exponent weight)) w q x h = h
start_done (Asked (Weight s weight)) w q x h = h
start_done (Asked (Plain s start exponent weight)) w q x h = h
start_done (Asked (Hold s t)) w q x h = h
start_done (Asked (Begin s t window)) w q x h = h
start_done (Asked (Free s t)) w q x h = h
start_done (Asked (Cease s t)) w q x h = h
start_done (Asked (Leave s)) w q x h = on_if (λ (y : Visits). y.start.first_above ≡ 0) (lists_queue w s q)
    (renewed_visits x) x (λ _. refl) (λ _. h)
start_done (Asked (Rate s to)) w q x h = h
start_done (Asked (Tick by)) w q x h = h
start_done (Asked (Pull c l)) w q x h = h
start_done (Asked (Arrive e n)) w q x h = h
start_done (Asked (Unsent e n)) w q x h = h
start_done (Asked (GiveUp e n)) w q x h = h
start_done (Asked (Flush s t)) w q x h = h
start_done (Asked (Answer e)) w q x h = h
start_done (Asked (Done e heard air)) w q x h = h
start_done (Asked (Sleep s)) w q x h = h
start_done (Asked (Ampdu s octets)) w q x h = h
start_done (Asked (Stop s)) w q x h = h
start_done (Asked (Start s)) w q x h = h
start_done (Asked (Wake s)) w q x h = h
start_done (Asked (Poll s)) w q x h = h
start_done (Asked (Rx s c air)) w q x h = h
start_done (Asked Reap) w q x h = h
start_done (Asked (Group ask)) w q x h = h
start_done (Asked (Service ask)) w q x h = h
start_done (Asked (Bss s b)) w q x h = h

visited_step : (w : World) (note : Note) (q : ℕ) (x : Visits) → IsVisited w q x →
    IsVisited (step w note).world q (visits_after w q note x)
visited_step w note q x i = record {
  state = codel_step w note q x i.state;
  start = on_if (λ (y : Visits). y.start.first_above ≡ 0) (is_none (refusal w note))
      (visits_done w q note x) x (λ _. start_done note w q x i.start) (λ _. i.start);
}

visited_run : (h : List Entry) (w : World) (q : ℕ) (x : Visits) → IsVisited w q x →
    IsVisited (world_after w h) q (visits_in w q h x)
unfolding world_after
visited_run [] w q x i = i
visited_run (e ∷ es) w q x i = visited_run es (step w e.1).world q (visits_after w q e.1 x)
    (visited_step w e.1 q x i)

visited : (config : Config) (h : List Entry) (q : ℕ) →
    IsVisited (world_after (opening config) h) q (visits_in (opening config) q h no_visits)
visited config h q = visited_run h (opening config) q no_visits (record { state = refl; start = refl })

keeps_codel : (w : World) (q : ℕ) (x : Visits) → IsVisited w q x → KeepsCodel w q x
keeps_codel w q x i = record {
  state = i.state;
  start = i.start;
  standing = λ before after v n e below. standing x.start before v n i.start below;
  rate = λ interval T before visits after v e h.
      rate interval T (codel_after_all x.start before) v visits h;
}

-- The dequeue of a call that drops a frame, with the visits of its queue before the call.
dropped_by : (config : Config) (before : List Entry) (note : Note) (id : ℕ) →
    DroppedBy (world_after (opening config) before) note id → HasDequeue config before note id
dropped_by config before note id d =
    let w : World = world_after (opening config) before in
    let x : Visits = visits_in (opening config) d.queue before no_visits in
    let i : IsVisited w d.queue x = visited config before d.queue in
    let below : d.number < drops_by (codel_after_all x.start (x.dequeues ++ d.before)) d.dequeue =
    subst (λ (c : Codel). d.number < drops_by c d.dequeue)
    (ap (λ (c : Codel). codel_after_all c d.before) i.state
    ∙ sym (codel_append x.dequeues d.before x.start)) d.dropped in
    record {
      queue = d.queue;
      dropped = record {
        before = d.before;
        dequeue = d.dequeue;
        after = d.after;
        number = d.number;
        item = d.item;
        split = d.split;
        clock = d.now;
        found = d.found;
        named = d.named;
        dropped = below;
        stood = subst (λ (n : ℕ). HasStood n (looks_in x.start (x.dequeues ++ d.before)
            ++ first_looks d.dequeue (suc d.number))) d.now
            (standing x.start (x.dequeues ++ d.before) d.dequeue d.number i.start below);
      };
    }

pub codel_law : (config : Config) (h : List Entry) → CodelLaw config h
codel_law config h = record {
  kept = λ m q. keeps_codel _ q _ (visited config (take m h) q);
  dropped = λ before after e id split got.
      let w : World = world_after (opening config) before in
      elim ((drops_step w e.1).drops id got.fate) [
        | inl old ↦ absurd (got.new old)
        | inr new ↦ dropped_by config before e.1 id new
      ];
}
