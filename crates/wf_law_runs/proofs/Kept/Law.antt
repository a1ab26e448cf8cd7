-- Proves the law of numbers: a number keeps its frame, and stays acknowledged or failed. By cases of the
-- call and induction on the run.
use Rattle.std.proofs.Common.{◌≡◌, ◌≢◌, refl, ap, sym, ◌∙◌, subst, arith, ℕ, zero, suc, ◌+◌, ◌-◌, ◌≤◌, true, false, ◌==◌, List, [], ◌∷◌, Option, Some, None, IfSome, take, drop, ◌&&◌}
use Rattle.wf_frame.specs.declared.settings.Config.{Config}
use Rattle.wf_frame.specs.declared.notes.Ask.TheVariants.{Join, Leave, Rate, Tick, Pull, Arrive, Answer, Done, Sleep, Wake, Poll, Rx, Reap, Ampdu, Stop, Start, Unsent, GiveUp, Flush, Offload, Weight, Hold, Begin, Free, Cease, Group, Service, Bss}
use Rattle.wf_frame.specs.declared.notes.Ask.TheVariants as call
use Rattle.wf_frame.specs.declared.notes.Note.{Note}
use Rattle.wf_frame.specs.declared.notes.Note.TheVariants.{Enqueue, Asked}
use Rattle.wf_frame.specs.declared.notes.Refusal.{Refusal}
use Rattle.wf_frame.specs.declared.notes.Refusal.TheVariants.{Idle}
use Rattle.wf_frame.specs.Classes.{all_classes}
use Rattle.wf_def_lists.specs.Table.{upto}
use Rattle.wf_def_agreement.specs.Session.{Session, Slot, is_settled}
use Rattle.wf_def_world.specs.World.{World, Station, Exchange, session, is_live, exchange, with_station, opening, is_held_back}
use Rattle.wf_def_world.specs.Service.{station_served}
use Rattle.wf_def_world.specs.Refusals.{refusals, refusal}
use Rattle.wf_def_world.specs.Step.{Outcome, join_outcome, after_tids_left, without_listings, leave_outcome, rate_outcome, tick_outcome, outcome_where_open, sleep_outcome, wake_outcome, poll_outcome, rx_outcome, reap_outcome, concerned_station, outcome_of, after_refusal, judged_outcome, step, offload_outcome, plain_outcome}
use Rattle.wf_def_world.specs.Run.{Entry, world_after}
use Rattle.wf_def_world.specs.Stretches.{world_at}
use Rattle.wf_law_rules.proofs.Lemmas.Numbers.{on_bool, eq_yes, eq_no, both, yes_eq, and_true}
use Rattle.wf_law_runs.specs.Kept.{is_leave_of, is_agreement_of, KeepsNumbers, IsOneStay, KeepsByCall, KeptLaw}
use Rattle.wf_law_runs.proofs.Common.Refused.{after_idle}
use Rattle.wf_law_runs.proofs.Common.Moments.{take_parts}
use Rattle.wf_law_runs.proofs.Windows.Sides.{Side, Same, then_same, same_listed, same_after_pick, same_on_station, same_on_share, same_weighed, same_held, same_freed}
use Rattle.wf_law_runs.proofs.Windows.Opened.{NoRow, no_row}
use Rattle.wf_law_runs.proofs.Windows.Agreed.{IsLawful, IsFound, found, same_left_tids, same_off_lists, lawful, lawful_step, not_no}
use Rattle.wf_law_runs.proofs.Releases.Released.{side_with_station, live_with_station, live_own_station}
use Rattle.wf_law_runs.proofs.Frames.Delivered.{same_enqueued}
use Rattle.wf_law_runs.proofs.Kept.Lasting.{Lasts, lasts_refl, lasts_equal, then_lasts, Last, last_same, last_here, last_pulled, last_arrived, last_answered, last_unsent, last_given_up, last_flushed, last_ended, LastBut, last_begun, last_ceased}
use Rattle.wf_law_runs.proofs.Frames.Fates.{world_after-append}

-- How a call changes the sessions of each station that is live before and after it.
record Stays (note : Note) (w v : World) : Type 0 where
  sessions : (s t : ℕ) → is_live w s ≡ true → is_live v s ≡ true → Lasts (session w s t) (session v s t)
  sizes : (s t : ℕ) → is_live w s ≡ true → is_live v s ≡ true → is_agreement_of s t note ≡ false →
      (session v s t).size ≡ (session w s t).size
  live : (s : ℕ) → is_live w s ≡ true → is_leave_of s note ≡ false → is_live v s ≡ true

stays_last : (note : Note) (w v : World) → Last w v → Stays note w v
stays_last note w v h = record {
  sessions = λ s t _ _. h.sessions s t;
  sizes = λ s t _ _ _. h.sizes s t;
  live = λ s l _. h.live s ∙ l;
}

-- An agreement begins or ends.
stays_but : (note : Note) (s t : ℕ) (w v : World) →
    ((i j : ℕ) → is_agreement_of i j note ≡ false → (i == s) && (j == t) ≡ false) → LastBut s t w v →
    Stays note w v
stays_but note s t w v k h = record {
  sessions = λ i j _ _. h.sessions i j;
  sizes = λ i j _ _ n. h.sizes i j (k i j n);
  live = λ i l _. h.live i ∙ l;
}

other_way : (s t i j : ℕ) → (s == i) && (t == j) ≡ false → (i == s) && (j == t) ≡ false
other_way s t i j h = on_bool ((i == s) && (j == t))
    (λ own.
    let b = both (i == s) (j == t) own in
    absurd (cc (
      and_true (s == i) (t == j) (yes_eq s i (sym (eq_yes i s b.0))) (yes_eq t j (sym (eq_yes j t b.1))),
      h,
    )))
    (λ no. no)

stays_same : (note : Note) (w v : World) → Same w v → Stays note w v
stays_same note w v h = stays_last note w v (last_same w v h)

then_same_stays : (note : Note) (w u v : World) → Stays note w u → Same u v → Stays note w v
then_same_stays note w u v h k = record {
  sessions = λ s t l m. then_lasts (session w s t) (session u s t) (session v s t)
      (h.sessions s t l (sym (k.live s) ∙ m)) ((last_same u v k).sessions s t);
  sizes = λ s t l m n. (last_same u v k).sizes s t ∙ h.sizes s t l (sym (k.live s) ∙ m) n;
  live = λ s l n. k.live s ∙ h.live s l n;
}

-- ---- joining and leaving

lasts_station : (w : World) (i s t : ℕ) (o : Option Station) → i ≢ s →
    Lasts (session w s t) (session (with_station w i o) s t)
lasts_station w i s t o ne = lasts_equal _ _ (ap (λ (a : Side). a.session) (side_with_station w i s t o ne))

size_station : (w : World) (i s t : ℕ) (o : Option Station) → i ≢ s →
    (session (with_station w i o) s t).size ≡ (session w s t).size
size_station w i s t o ne = ap (λ (a : Side). a.session.size) (side_with_station w i s t o ne)

-- A station joins that was not live.
stays_joined : (note : Note) (w : World) (i : ℕ) (x : Station) → is_live w i ≡ false →
    Stays note w (with_station w i (Some x))
stays_joined note w i x dead = record {
  sessions = λ s t l m. on_bool (i == s) (λ own. absurd (cc (ap (is_live w) (eq_yes i s own), dead, l)))
      (λ other. lasts_station w i s t (Some x) (eq_no i s other));
  sizes = λ s t l m n. on_bool (i == s) (λ own. absurd (cc (ap (is_live w) (eq_yes i s own), dead, l)))
      (λ other. size_station w i s t (Some x) (eq_no i s other));
  live = λ s l n. on_bool (i == s) (λ own. absurd (cc (ap (is_live w) (eq_yes i s own), dead, l)))
      (λ other. live_with_station w i s (Some x) (eq_no i s other) ∙ l);
}

-- A station leaves.
stays_gone : (w : World) (i : ℕ) → Stays (Asked (Leave i)) w (with_station w i None)
stays_gone w i = record {
  sessions = λ s t l m. on_bool (i == s)
      (λ own. absurd (cc (
        ap (is_live (with_station w i None)) (eq_yes i s own),
        live_own_station w i None,
        m,
      )))
      (λ other. lasts_station w i s t None (eq_no i s other));
  sizes = λ s t l m n. on_bool (i == s)
      (λ own. absurd (cc (
        ap (is_live (with_station w i None)) (eq_yes i s own),
        live_own_station w i None,
        m,
      )))
      (λ other. size_station w i s t None (eq_no i s other));
  live = λ s l n. live_with_station w i s None (eq_no i s n) ∙ l;
}

stays_after : (note : Note) (w u v : World) → Same w u → Stays note u v → Stays note w v
stays_after note w u v k h = record {
  sessions = λ s t l m. then_lasts (session w s t) (session u s t) (session v s t)
      ((last_same w u k).sessions s t) (h.sessions s t (k.live s ∙ l) m);
  sizes = λ s t l m n. h.sizes s t (k.live s ∙ l) m n ∙ (last_same w u k).sizes s t;
  live = λ s l n. h.live s (k.live s ∙ l) n;
}

stays_join : (note : Note) (w : World) (i window start exponent weight : ℕ) → is_live w i ≡ false →
    Stays note w (join_outcome w i window start exponent weight).world
unfolding join_outcome
stays_join note w i window start exponent weight dead = stays_joined note w i _ dead

stays_offload : (note : Note) (w : World) (i exponent weight : ℕ) → is_live w i ≡ false →
    Stays note w (offload_outcome w i exponent weight).world
unfolding offload_outcome
stays_offload note w i exponent weight dead = stays_joined note w i _ dead

stays_unagreed : (note : Note) (w : World) (i start exponent weight : ℕ) → is_live w i ≡ false →
    Stays note w (plain_outcome w i start exponent weight).world
unfolding plain_outcome
stays_unagreed note w i start exponent weight dead = stays_joined note w i _ dead

stays_leave : (w : World) (i : ℕ) → Stays (Asked (Leave i)) w (leave_outcome w i).world
unfolding leave_outcome
stays_leave w i =
    let u : World = without_listings (after_tids_left w i (upto 8)) i all_classes in
    stays_after (Asked (Leave i)) w u _ (then_same _ _ _ (same_left_tids (upto 8) w i)
    (same_off_lists all_classes _ i)) (stays_gone u i)

-- ---- the step

last_open : (P : Exchange → Type 0) (o : Option Exchange) (w : World) (f : Exchange → Outcome) → IfSome o P →
    ((x : Exchange) → P x → Last w (f x).world) → Last w (outcome_where_open w o f).world
unfolding outcome_where_open
last_open P None w f h k = last_here w
last_open P (Some x) w f h k = k x h

last_reaped : (ids : List ℕ) (w : World) → Last w (reap_outcome w ids).world
unfolding reap_outcome
last_reaped [] w = last_here w
last_reaped (id ∷ ids) w = record {
  sessions = λ s t. lasts_refl (session w s t);
  sizes = λ s t. refl;
  live = λ s. refl;
}

stays_done : (note : Note) (w : World) → IsLawful w → NoRow (refusals w note) →
    Stays note w (outcome_of w note).world
unfolding outcome_of tick_outcome rate_outcome sleep_outcome wake_outcome poll_outcome rx_outcome
stays_done (Enqueue s t flow len) w i r = stays_same _ w _ (same_enqueued w s t flow len)
stays_done (Asked (Join s window start exponent weight)) w i r =
    stays_join _ w s window start exponent weight r.1.1.1.1.1.0
stays_done (Asked (Leave s)) w i r = stays_leave w s
stays_done (Asked (Rate s rate)) w i r = stays_same _ w _ (same_on_station w s _ (λ x t. refl))
stays_done (Asked (Tick by)) w i r = stays_last _ w _
    (record { sessions = λ s t. lasts_refl (session w s t); sizes = λ s t. refl; live = λ s. refl })
stays_done (Asked (Pull c l)) w i r = stays_last _ w _ (last_pulled w c l i)
stays_done (Asked (Arrive e n)) w i r = stays_last _ w _
    (last_open (IsFound w i) (exchange w e) w _ (found w i e) (λ x f. last_arrived w x n))
stays_done (Asked (Answer e)) w i r = stays_last _ w _
    (last_open (IsFound w i) (exchange w e) w _ (found w i e) (λ x f. last_answered w x))
stays_done (Asked (Done e heard air)) w i r = stays_last _ w _
    (last_open (IsFound w i) (exchange w e) w _ (found w i e) (λ x f. last_ended air w i x heard f))
stays_done (Asked (Sleep s)) w i r = stays_same _ w _ (same_on_station w s _ (λ x t. refl))
stays_done (Asked (Ampdu s octets)) w i r = stays_same _ w _ (same_on_station w s _ (λ x t. refl))
stays_done (Asked (Stop s)) w i r = stays_same _ w _ (same_on_station w s _ (λ x t. refl))
stays_done (Asked (Start s)) w i r = stays_same _ w _ (same_on_station w s _ (λ x t. refl))
stays_done (Asked (Wake s)) w i r = stays_same _ w _ (same_on_station w s _ (λ x t. refl))
stays_done (Asked (Poll s)) w i r = stays_same _ w _ (same_on_station w s _ (λ x t. refl))
stays_done (Asked (Rx s c air)) w i r = stays_same _ w _ (same_on_share w s c _)
stays_done (Asked Reap) w i r = stays_last _ w _ (last_reaped w.finished w)
stays_done (Asked (Unsent e n)) w i r = stays_last _ w _
    (last_open (IsFound w i) (exchange w e) w _ (found w i e) (λ x f. last_unsent w x n))
stays_done (Asked (GiveUp e n)) w i r = stays_last _ w _
    (last_open (IsFound w i) (exchange w e) w _ (found w i e) (λ x f. last_given_up w x n))
stays_done (Asked (Flush s t)) w i r = stays_last _ w _ (last_flushed w s t)
stays_done (Asked (Offload s exponent weight)) w i r = stays_offload _ w s exponent weight r.1.1.1.0
stays_done (Asked (Weight s weight)) w i r = stays_same _ w _ (same_weighed w s weight)
stays_done (Asked (call.Plain s start exponent weight)) w i r =
    stays_unagreed _ w s start exponent weight r.1.1.1.1.0
stays_done (Asked (Hold s t)) w i r = stays_same _ w _ (same_held w s t r.1.1.1.0 r.1.1.1.1.0)
stays_done (Asked (Begin s t window)) w i r = stays_but (Asked (Begin s t window)) s t w _
    (λ a b. other_way s t a b) (last_begun w s t window)
stays_done (Asked (Free s t)) w i r =
    stays_same _ w _ (same_freed w s t (not_no (is_held_back w s t) r.1.1.1.0))
stays_done (Asked (Cease s t)) w i r = stays_but (Asked (Cease s t)) s t w _ (λ a b. other_way s t a b)
    (last_ceased w s t)
stays_done (Asked (Group ask)) w i r = stays_last _ w _
    (record { sessions = λ s t. lasts_refl (session w s t); sizes = λ s t. refl; live = λ s. refl })
stays_done (Asked (Service ask)) w i r =
    stays_same _ w _ (same_on_station w (station_served ask) _ (λ x t. refl))
stays_done (Asked (Bss s b)) w i r = stays_same _ w _ (same_on_station w s _ (λ x t. refl))

last_refused : (note : Note) (r : Refusal) (w : World) → Last w (after_refusal w note r)
unfolding after_refusal
last_refused (Asked (Pull c l)) Idle w = after_idle (Last w) w c (last_here w)
    (last_same w _ (same_after_pick w c))
last_refused _ _ w = last_here w

stays_answer : (r : Option Refusal) (w : World) (note : Note) → refusal w note ≡ r → IsLawful w →
    Stays note w (judged_outcome w note r).world
unfolding judged_outcome
stays_answer (Some r) w note e i = stays_last note w _ (last_refused note r w)
stays_answer None w note e i = then_same_stays note w (outcome_of w note).world _
    (stays_done note w i (no_row (refusals w note) e))
    (same_listed (concerned_station w note) (outcome_of w note).world)

stays_step : (w : World) (note : Note) → IsLawful w → Stays note w (step w note).world
unfolding step
stays_step w note i = stays_answer (refusal w note) w note refl i

-- ---- the run

lasts_run : (d : ℕ) (h : List Entry) (w : World) (s t : ℕ) → IsLawful w →
    ((k : ℕ) → k ≤ d → is_live (world_after w (take k h)) s ≡ true) →
    Lasts (session w s t) (session (world_after w (take d h)) s t)
unfolding world_after
lasts_run zero h w s t i live = lasts_refl (session w s t)
lasts_run (suc d) [] w s t i live = lasts_refl (session w s t)
lasts_run (suc d) (e ∷ es) w s t i live =
    then_lasts (session w s t) (session (step w e.1).world s t) _
    ((stays_step w e.1 i).sessions s t (live 0 (omega arith)) (live 1 (omega arith)))
    (lasts_run d es (step w e.1).world s t (lawful_step w e.1 i) (λ k l. live (suc k) (omega (arith, l))))

-- The world k entries later.
later : (config : Config) (h : List Entry) (a k : ℕ) →
    world_at config h (a + k) ≡ world_after (world_at config h a) (take k (drop a h))
later config h a k = ap (world_after (opening config)) (sym (take_parts a k h))
    ∙ world_after-append (take a h) (opening config) (take k (drop a h))

lasts_stay : (config : Config) (h : List Entry) (s t a b : ℕ) → IsOneStay config h s a b →
    Lasts (session (world_at config h a) s t) (session (world_at config h b) s t)
lasts_stay config h s t a b o =
    let e : a + (b - a) ≡ b = let l : a ≤ b = o.order in omega arith in
    let y : Session = session (world_at config h a) s t in
    subst (λ (n : ℕ). Lasts y (session (world_at config h n) s t)) e
    (subst (λ (w : World). Lasts y (session w s t)) (sym (later config h a (b - a)))
    (lasts_run (b - a) (drop a h) (world_at config h a) s t (lawful config (take a h))
    (λ k l. subst (λ (w : World). is_live w s ≡ true) (later config h a k)
    (o.live (a + k) (omega arith) (omega (arith, o.order, l))))))

pub keeps_numbers : (y z : Session) → Lasts y z → KeepsNumbers y z
keeps_numbers y z h = record {
  first = h.kept.first;
  next = h.kept.next;
  ids = h.kept.ids;
  acked = λ n l b e. ap (λ (x : Slot). x.state) (h.settled n l b (ap is_settled e)) ∙ e;
  failed = λ n l b e. ap (λ (x : Slot). x.state) (h.settled n l b (ap is_settled e)) ∙ e;
}

-- One call in any world with the invariant, for crates that prove their laws call by call.
pub kept_step : (w : World) (note : Note) → IsLawful w → KeepsByCall w note
kept_step w note i =
    let h : Stays note w (step w note).world = stays_step w note i in
    record {
      live = h.live;
      numbers = λ s t l m. keeps_numbers (session w s t)
          (session (step w note).world s t) (h.sessions s t l m);
      windows = h.sizes;
    }

pub kept_law : (config : Config) (h : List Entry) → KeptLaw config h
kept_law config h = record {
  calls = λ m note. kept_step (world_at config h m) note (lawful config (take m h));
  stays = λ s t a b o. keeps_numbers (session (world_at config h a) s t) (session (world_at config h b) s t)
      (lasts_stay config h s t a b o);
}
