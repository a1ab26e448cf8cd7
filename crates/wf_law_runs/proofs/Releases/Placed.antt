-- Defines an invariant of the released ids and a world: each frame has one place, and is released at most
-- once. Proves that each elementary change of a world keeps it.
use Rattle.std.proofs.Common.{◌≡◌, ◌≢◌, refl, ap, sym, ◌∙◌, subst, arith, ℕ, zero, suc, ◌-◌, ◌<◌, ◌≤◌, nat_lt, Bool, true, false, if◌then◌else◌, ◌&&◌, ◌==◌, ◌||◌, ◌⊎◌, inl, inr, List, [], ◌∷◌, ◌++◌, length, filter, nat_le, Option, Some, None, IfSome, length-append}
use Rattle.wf_frame.specs.declared.settings.Config.{Config}
use Rattle.wf_frame.specs.declared.classes.Class.{Class}
use Rattle.wf_def_lists.specs.Table.{at, has}
use Rattle.wf_def_codel.specs.Codel.{Item}
use Rattle.wf_def_agreement.specs.Receiver.{Receiver, Score, score, with_arrived, with_start, release_start, greatest, released_between}
use Rattle.wf_def_agreement.specs.Session.{Session, Slot, slot, with_number_given, next_number, no_slot}
use Rattle.wf_def_world.specs.World.{receiver, World, Station, Tid, Frame, no_frame, Exchange, Content, Frames, Request, new_tid, is_wide, session, exchange, with_station, on_tid, on_session, on_receiver, on_queue, with_exchange, opening, new_queue, queue, accepted_count, Mode}
use Rattle.wf_def_world.specs.FlowQueues.{after_limit, with_appended, after_put_in, queue_for}
use Rattle.wf_def_world.specs.Exchanges.{transmissions, no_mpdu, picked_station, after_arrival, with_heard_start, mpdus_of, ids_of}
use Rattle.wf_frame.specs.declared.notes.Ask.TheVariants.{Join, Leave, Rate, Tick, Pull, Arrive, Answer, Done, Sleep, Wake, Poll, Rx, Reap, Ampdu, Stop, Start, Unsent, GiveUp, Flush, Offload, Weight, Hold, Begin, Free, Cease, Group, Service, Bss}
use Rattle.wf_frame.specs.declared.notes.Ask.TheVariants as call
use Rattle.wf_frame.specs.declared.notes.Note.{Note}
use Rattle.wf_frame.specs.declared.notes.Note.TheVariants.{Enqueue, Asked}
use Rattle.wf_def_world.specs.Step.{offload_outcome, weight_outcome, Outcome, join_outcome, after_tid_left, after_tids_left, without_listings, leave_outcome, rate_outcome, tick_outcome, with_frame, enqueue_outcome, send_outcome, pull_outcome_for, pull_outcome, answer_reply, answer_outcome, unsent_outcome, give_up_outcome, flush_outcome, done_outcome, outcome_where_open, sleep_outcome, wake_outcome, poll_outcome, rx_outcome, reap_outcome, outcome_of, plain_outcome, hold_outcome, begin_outcome, free_outcome}
use Rattle.wf_law_rules.proofs.Lemmas.Joined.{has_append, once_append}
use Rattle.wf_law_rules.proofs.Lemmas.Tables.{each_put}
use Rattle.wf_law_runs.proofs.Sessions.Starts.{at_append}
use Rattle.wf_law_runs.proofs.Sessions.Flights.{next-give}
use Rattle.wf_law_rules.proofs.Lemmas.Numbers.{Climbs, climbs_from, on_bool, on_if, lt_yes, lt_no, eq_yes, eq_no, yes_eq, not_eq, le_yes, either, both, and_true, or_left, or_right, has_old, climbs_with, climbs_at, greatest_least, greatest_has, greatest_within}
use Rattle.wf_law_runs.proofs.Windows.Sides.{Side, side_of, side, sides_of, Same, each_side_on, then_same, same_within_limit, same_put_in}
use Rattle.wf_law_runs.proofs.Windows.Agreement.{slot_give, IsAgreed, agreed_arrived}
use Rattle.wf_law_runs.proofs.Windows.Opened.{FlyIn}
use Rattle.wf_frame.specs.declared.classes.Fate.TheVariants.{Held}
use Rattle.wf_law_runs.proofs.Releases.Passing.{release_rises}
use Rattle.wf_def_lists.specs.Lists.{IsOnce}
use Rattle.wf_law_runs.specs.Releases.{named_by}
use Rattle.wf_law_runs.proofs.Common.Picked.{picked_world}
use Rattle.wf_law_runs.proofs.Releases.Kept.{KeptSession}
use Rattle.wf_law_runs.proofs.Windows.Agreed.{IsLawful, IsOpenIn, rises_at}
use Rattle.wf_law_runs.proofs.Releases.Released.{side_with_station, side_own_station}
use Rattle.wf_law_runs.proofs.Frames.Fewer.{Ordered, carries, fewer, Less, less, then_less, less_plain, less_on_tid, less_on_receiver, less_with_queues, less_with_rotation, less_drop_all, less_within_limit, less_listed_queue, less_purge_queues, IsTaken}

pub data Place : Type 0 where
  Queued : (queue : ℕ) → Place
  Numbered : (station : ℕ) → (tid : ℕ) → (number : ℕ) → Place

-- The id of an assigned number belongs to an accepted frame, its place is this number, and it was released
-- only if the number is below the release start.
pub record IsLabel (home : ℕ → Place) (l : List ℕ) (c s t : ℕ) (a : Side) (n : ℕ) : Type 0 where
  pub old : (slot a.session n).id < c
  pub place : home (slot a.session n).id ≡ Numbered s t n
  pub passed : has l (slot a.session n).id ≡ true → n < release_start a.receiver

abbrev pub Labels : (ℕ → Place) → List ℕ → ℕ → ℕ → ℕ → Side → Type 0
Labels home l c s t a = (n : ℕ) → a.session.first ≤ n → n < next_number a.session → IsLabel home l c s t a n

pub record IsQueued (home : ℕ → Place) (l : List ℕ) (c q k : ℕ) : Type 0 where
  pub old : k < c
  pub place : home k ≡ Queued q
  pub passed : has l k ≡ false

-- l are the ids that were released so far.
pub record Placing (l : List ℕ) (w : World) : Type 0 where
  pub home : ℕ → Place
  pub ordered : (q : ℕ) → Ordered 0 (queue w q).items
  pub queued : (q k : ℕ) → carries (queue w q).items k ≡ true → IsQueued home l (accepted_count w) q k
  pub numbered : (s t : ℕ) → Labels home l (accepted_count w) s t (side w s t)
  pub old : (k : ℕ) → has l k ≡ true → k < accepted_count w
  pub once : IsOnce l

-- Any frame may be acknowledged.
abbrev pub Any : ℕ → Type 0
Any k = Unit {0}

labels_older : (home : ℕ → Place) (l : List ℕ) (c d s t : ℕ) (a : Side) → c ≤ d → Labels home l c s t a →
    Labels home l d s t a
labels_older home l c d s t a h k n from below = let i = k n from below in
    record { old = omega (arith, i.old, h); place = i.place; passed = i.passed }

-- The queues have no more frames, and the sessions and receivers do not change.
pub placed_less : (l : List ℕ) (w v : World) → Less Any w v → ((s t : ℕ) → side v s t ≡ side w s t) →
    Placing l w → Placing l v
placed_less l w v h d p = record {
  home = p.home;
  ordered = λ q. (h.queues q).ordered 0 (p.ordered q);
  queued = λ q k e. let i = p.queued q k ((h.queues q).has k e) in
      record { old = omega (arith, i.old, h.accepted); place = i.place; passed = i.passed };
  numbered = λ s t. subst (Labels p.home l (accepted_count v) s t) (sym (d s t))
      (labels_older p.home l (accepted_count w) (accepted_count v) s t (side w s t) h.accepted
      (p.numbered s t));
  old = λ k e. omega (arith, p.old k e, h.accepted);
  once = p.once;
}

-- A session changes; its numbers keep their ids, and it has no new numbers.
pub placed_session : (l : List ℕ) (w : World) (s t : ℕ) (f : Session → Session) →
    KeptSession (session w s t) (f (session w s t)) →
    next_number (f (session w s t)) ≡ next_number (session w s t) → Placing l w →
    Placing l (on_session w s t f)
unfolding on_session
placed_session l w s t f k e p =
    let g : Tid → Tid = λ y. record y { session = f y.session } in
    let h : Less Any w (on_tid w s t g) = less_on_tid Any w s t g in
    record {
      home = p.home;
      ordered = λ q. (h.queues q).ordered 0 (p.ordered q);
      queued = λ q i d. let j = p.queued q i ((h.queues q).has i d) in
          record { old = omega (arith, j.old, h.accepted); place = j.place; passed = j.passed };
      numbered = each_side_on (λ i j a. Labels p.home l (accepted_count (on_tid w s t g)) i j a) w s t g
          (λ i j. labels_older p.home l (accepted_count w) _ i j (side w i j) h.accepted (p.numbered i j))
          (λ n from below.
          let low : (session w s t).first ≤ n = omega (arith, from, k.first) in
          let high : n < next_number (session w s t) = omega (arith, below, e) in
          let i = p.numbered s t n low high in
          let d : (slot (f (session w s t)) n).id ≡ (slot (session w s t) n).id = k.ids n low high in
          record {
            old = omega (arith, i.old, h.accepted, d);
            place = ap p.home d ∙ i.place;
            passed =
                λ q. i.passed (ap (has l) (sym d) ∙ q);
          });
      old = λ i d. omega (arith, p.old i d, h.accepted);
      once = p.once;
    }

-- ---- a number is assigned to a frame

abbrev moved : (ℕ → Place) → ℕ → Place → ℕ → Place
moved home id place k = if k == id then place else home k

moved_same : (home : ℕ → Place) (id : ℕ) (place : Place) (k : ℕ) → k ≡ id → moved home id place k ≡ place
moved_same home id place k e = ap (λ (b : Bool). if b then place else home k) (yes_eq k id e)

moved_other : (home : ℕ → Place) (id : ℕ) (place : Place) (k : ℕ) → k ≢ id → moved home id place k ≡ home k
moved_other home id place k e = ap (λ (b : Bool). if b then place else home k) (not_eq k id e)

pub slot_new_id : (y : Session) (id n : ℕ) → n ≡ next_number y → (slot (with_number_given y id) n).id ≡ id
slot_new_id y id n e =
    let k : n - y.first ≡ length y.slots = omega (arith, e) in
    ap (λ (i : ℕ). (at no_slot (with_number_given y id).slots i).id) k
    ∙ ap (λ (x : Slot). x.id) (at_append y.slots _)

pub placed_give : (l : List ℕ) (u v : World) (s t : ℕ) (x : Item) → Same u v → Less Any u v → IsTaken u v x →
    Placing l u → Placing l (on_session v s t (λ y. with_number_given y x.id))
unfolding on_session
placed_give l u v s t x k h taken p =
    let y : Session = session v s t in
    let g : Tid → Tid = λ z. record z { session = with_number_given z.session x.id } in
    let w : World = on_tid v s t g in
    let m : Less Any u w = then_less Any u v w h (less_on_tid Any v s t g) in
    let home : ℕ → Place = moved p.home x.id (Numbered s t (next_number y)) in
    let own : IsQueued p.home l (accepted_count u) taken.place x.id = p.queued taken.place x.id taken.there in
    let apart : (n i j : ℕ) → (id : ℕ) → p.home id ≡ Numbered i j n →
    id ≢ x.id = λ n i j id e d. cc (e, ap p.home d, own.place) in
    let stays : (i j : ℕ) (a : Side) → Labels p.home l (accepted_count u) i j a →
    Labels home l (accepted_count w) i j a = λ i j a q n from below.
    let b = q n from below in
    record {
      old = omega (arith, b.old, m.accepted);
      place =
          moved_other p.home x.id _ (slot a.session n).id (apart n i j _ b.place) ∙ b.place;
      passed = b.passed;
    }
    in
    record {
      home = home;
      ordered = λ q. (m.queues q).ordered 0 (p.ordered q);
      queued = λ q i d.
          let j : IsQueued p.home l (accepted_count u) q i = p.queued q i ((m.queues q).has i d) in
          let ne : i ≢ x.id = λ e. (
          let same_queue : q ≡ taken.place = cc (j.place, own.place, ap p.home e) in
          let carried : carries (queue v q).items i ≡ true = ((less_on_tid Any v s t g).queues q).has i d in
          let there : carries (queue v taken.place).items x.id ≡ true =
          subst (λ (c : ℕ). carries (queue v taken.place).items c ≡ true) e
          (subst (λ (c : ℕ). carries (queue v c).items i ≡ true) same_queue carried) in
          cc (there, taken.gone p.ordered))
          in
          record {
            old = omega (arith, j.old, m.accepted);
            place = moved_other p.home x.id _ i ne ∙ j.place;
            passed = j.passed;
          };
      numbered = each_side_on (λ i j a. Labels home l (accepted_count w) i j a) v s t g
          (λ i j. stays i j (side v i j) (subst (Labels p.home l (accepted_count u) i j) (sym (k.sides i j))
          (p.numbered i j)))
          (λ n from below. on_bool (nat_lt n (next_number y))
          (λ b.
          let q : IsLabel p.home l (accepted_count u) s t (side v s t) n =
          subst (Labels p.home l (accepted_count u) s t) (sym (k.sides s t)) (p.numbered s t) n from
          (lt_yes n (next_number y) b) in
          let d : (slot (with_number_given y x.id) n).id ≡ (slot y n).id =
          ap (λ (z : Slot). z.id) (slot_give y x.id n from (lt_yes n (next_number y) b)) in
          record {
            old = omega (arith, q.old, m.accepted, d);
            place =
                ap home d ∙ moved_other p.home x.id _ (slot y n).id (apart n s t _ q.place) ∙ q.place;
            passed =
                λ z. q.passed (ap (has l) (sym d) ∙ z);
          })
          (λ b.
          let here : n ≡ next_number y = omega (arith, next-give y x.id, below, lt_no n (next_number y) b) in
          let d : (slot (with_number_given y x.id) n).id ≡ x.id = slot_new_id y x.id n here in
          record {
            old = omega (arith, own.old, m.accepted, d);
            place =
                moved_same p.home x.id _ _ d ∙ ap (Numbered s t) (sym here);
            passed =
                λ z. absurd (cc (z, own.passed));
          }));
      old = λ i d. omega (arith, p.old i d, m.accepted);
      once = p.once;
    }

-- ---- the end of an exchange

pub next-heard : (b : Bool) (f : ℕ) (y : Session) → next_number (with_heard_start b f y) ≡ next_number y
next-heard true f y = refl
next-heard false f y = refl

-- ---- arrivals

pub record IsIdOf (y : Session) (ns : List ℕ) (k : ℕ) : Type 0 where
  pub number : ℕ
  pub among : has ns number ≡ true
  pub id : (slot y number).id ≡ k

pub has_ids : (ns : List ℕ) (y : Session) (k : ℕ) → has (ids_of y ns) k ≡ true → IsIdOf y ns k
has_ids [] y k h = absurd (cc h)
has_ids (n ∷ ns) y k h = elim (either ((slot y n).id == k) (has (ids_of y ns) k) h) [
  | inl e ↦ record { number = n; among = or_left (n == n) (has ns n) (yes_eq n n refl); id = eq_yes _ _ e }
  | inr e ↦ (let i = has_ids ns y k e in record {
    number = i.number;
    among =
        or_right (n == i.number) (has ns i.number) i.among;
    id = i.id;
  })
]

-- The ids of increasing numbers have no repeats, if the place of each is its number.
pub once_ids : (ns : List ℕ) (lo : ℕ) (y : Session) (home : ℕ → Place) (s t : ℕ) → Climbs lo ns →
    ((n : ℕ) → has ns n ≡ true → home (slot y n).id ≡ Numbered s t n) → IsOnce (ids_of y ns)
once_ids [] lo y home s t c h = tt
once_ids (n ∷ ns) lo y home s t c h = (
  on_bool (has (ids_of y ns) (slot y n).id) (λ e.
      let i : IsIdOf y ns (slot y n).id = has_ids ns y (slot y n).id e in
      let there : home (slot y i.number).id ≡ Numbered s t i.number =
      h i.number (or_right (n == i.number) (has ns i.number) i.among) in
      let here : home (slot y n).id ≡ Numbered s t n = h n (or_left (n == n) (has ns n) (yes_eq n n refl)) in
      let same_number : i.number ≡ n = cc (there, here, ap home i.id) in
      absurd (omega (arith, same_number, climbs_at ns (suc n) i.number c.1 i.among))) (λ e. e),
  once_ids ns (suc n) y home s t c.1 (λ m e. h m (or_right (n == m) (has ns m) e)),
)

pub climbs_filter : (p : ℕ → Bool) (xs : List ℕ) (lo : ℕ) → Climbs lo xs → Climbs lo (filter p xs)
climbs_filter p [] lo c = tt
climbs_filter p (x ∷ xs) lo c = on_if (Climbs lo) (p x) (x ∷ filter p xs) (filter p xs)
    (λ _. (c.0, climbs_filter p xs (suc x) c.1))
    (λ _. climbs_from (suc x) lo (filter p xs) (omega (arith, c.0)) (climbs_filter p xs (suc x) c.1))

pub filter_has : (p : ℕ → Bool) (xs : List ℕ) (n : ℕ) → has (filter p xs) n ≡ true → (has xs n ≡ true) ×
    (p n ≡ true)
filter_has p [] n h = absurd (cc h)
filter_has p (x ∷ xs) n h = on_if (λ (ys : List ℕ). has ys n ≡ true → (((x == n) || has xs n) ≡ true) ×
    (p n ≡ true)) (p x) (x ∷ filter p xs) (filter p xs)
    (λ yes_x e. elim (either (x == n) (has (filter p xs) n) e) [
      | inl d ↦ (or_left (x == n) (has xs n) d, ap p (sym (eq_yes x n d)) ∙ yes_x)
      | inr d ↦ (let q = filter_has p xs n d in (or_right (x == n) (has xs n) q.0, q.1))
    ])
    (λ _ e. let q = filter_has p xs n e in (or_right (x == n) (has xs n) q.0, q.1)) h

-- The frames that a receiver releases when it becomes q.
pub record Grows (y : Session) (r q : Receiver) : Type 0 where
  pub rising : Climbs 0 q.arrived
  pub within : (n : ℕ) → has q.arrived n ≡ true → (y.first ≤ n) × (n < next_number y)
  pub rises : release_start r ≤ release_start q

-- The receiver becomes q, and no id is released.
pub passes_silent : (l : List ℕ) (w v : World) (s t : ℕ) (q : Receiver) (b : Bool) → Less Any w v →
    ((i j : ℕ) → (i ≡ s → j ≡ t → ⊥) → side v i j ≡ side w i j) →
    side v s t ≡ record { session = session w s t; receiver = q; agreed = b } → Grows (session w s t)
    (receiver w s t) q →
    Placing l w → Placing l v
passes_silent l w v s t q agreed h apart own g p =
    let y : Session = session w s t in
    record {
      home = p.home;
      ordered = λ c. (h.queues c).ordered 0 (p.ordered c);
      queued = λ c k e.
          let i : IsQueued p.home l (accepted_count w) c k = p.queued c k ((h.queues c).has k e) in
          record { old = omega (arith, i.old, h.accepted); place = i.place; passed = i.passed };
      numbered = λ i j. on_bool ((i == s) && (j == t))
          (λ here.
          let b = both (i == s) (j == t) here in
          let es : s ≡ i = sym (eq_yes i s b.0) in
          let et : t ≡ j = sym (eq_yes j t b.1) in
          subst (λ (a : ℕ). Labels p.home l (accepted_count v) a j (side v a j)) es
          (subst (λ (c : ℕ). Labels p.home l (accepted_count v) s c (side v s c)) et
          (subst (Labels p.home l (accepted_count v) s t) (sym own) (λ n from below.
          let k : IsLabel p.home l (accepted_count w) s t (side w s t) n = p.numbered s t n from below in
          record {
            old = omega (arith, k.old, h.accepted);
            place = k.place;
            passed = λ d. omega (arith, k.passed d, g.rises);
          }))))
          (λ other.
          let not_here : i ≡ s → j ≡ t → ⊥ = λ es et. cc
          (other, and_true (i == s) (j == t) (yes_eq i s es) (yes_eq j t et)) in
          subst (Labels p.home l (accepted_count v) i j) (sym (apart i j not_here))
          (labels_older p.home l (accepted_count w) (accepted_count v) i j (side w i j) h.accepted
          (p.numbered i j)));
      old = λ k e. omega (arith, p.old k e, h.accepted);
      once = p.once;
    }

pub passes_more : (l : List ℕ) (w v : World) (s t : ℕ) (q : Receiver) (b : Bool) → Less Any w v →
    ((i j : ℕ) → (i ≡ s → j ≡ t → ⊥) → side v i j ≡ side w i j) →
    side v s t ≡ record { session = session w s t; receiver = q; agreed = b } → Grows (session w s t)
    (receiver w s t) q →
    Placing l w
    → Placing (l ++ ids_of (session w s t) (released_between (receiver w s t) q)) v
passes_more l w v s t q agreed h apart own g p =
    let y : Session = session w s t in
    let r : Receiver = receiver w s t in
    let ns : List ℕ = released_between r q in
    let among : (n : ℕ) → has ns n ≡ true → (y.first ≤ n) × (n < next_number y) × (release_start r ≤ n) ×
    (n < release_start q) = λ n e.
    let f = filter_has (λ n. nat_le (release_start r) n && nat_lt n (release_start q)) q.arrived n e in
    let b = both (nat_le (release_start r) n) (nat_lt n (release_start q)) f.1 in
    let k = g.within n f.0 in
    (k.0, k.1, le_yes _ _ b.0, lt_yes _ _ b.1)
    in
    let label : (n : ℕ) → has ns n ≡ true → IsLabel p.home l (accepted_count w) s t (side w s t) n =
    λ n e. p.numbered s t n (among n e).0 (among n e).1 in
    let fresh : (k : ℕ) → has (ids_of y ns) k ≡ true → has l k ≡ false = λ k e.
    let i : IsIdOf y ns k = has_ids ns y k e in
    on_bool (has l k) (λ d. absurd (let low : release_start r ≤ i.number = (among i.number i.among).2 in
    omega (arith, low, (label i.number i.among).passed (ap (has l) i.id ∙ d)))) (λ d. d)
    in
    let was : (k : ℕ) → has (l ++ ids_of y ns) k ≡ true → (has l k ≡ true) ⊎
    (has (ids_of y ns) k ≡ true) = λ k e. either (has l k) (has (ids_of y ns) k)
    (sym (has_append l (ids_of y ns) k) ∙ e) in
    -- If the id of a number of any TID is released now, it is this number.
    let labels : (i j : ℕ) (a : Side) → a.session ≡ session w i j →
    ((n : ℕ) → (n < release_start (receiver w i j)) ⊎ ((i ≡ s) × (j ≡ t) × (has ns n ≡ true)) →
    n < release_start a.receiver) → Labels p.home (l ++ ids_of y ns) (accepted_count v) i j a =
    λ i j a same_session below n from to.
    let e : (slot a.session n).id ≡ (slot (session w i j) n).id =
    ap (λ (z : Session). (slot z n).id) same_session in
    let b : IsLabel p.home l (accepted_count w) i j (side w i j) n =
    p.numbered i j n (omega (arith, from, ap (λ (z : Session). z.first) same_session))
    (omega (arith, to, ap next_number same_session)) in
    record {
      old = omega (arith, b.old, h.accepted, e);
      place = ap p.home e ∙ b.place;
      passed = λ d. below n (elim (was (slot (session w i j) n).id
          (ap (has (l ++ ids_of y ns)) (sym e) ∙ d)) [
            | inl old ↦ inl (b.passed old)
            | inr new ↦ (
                let k : IsIdOf y ns (slot (session w i j) n).id =
                has_ids ns y (slot (session w i j) n).id new in
                let there : p.home (slot y k.number).id ≡ Numbered s t k.number =
                (label k.number k.among).place in
                let is_i : i ≡ s = cc (there, b.place, ap p.home k.id) in
                let is_j : j ≡ t = cc (there, b.place, ap p.home k.id) in
                let is_n : k.number ≡ n = cc (there, b.place, ap p.home k.id) in
                inr (is_i, is_j, ap (has ns) (sym is_n) ∙ k.among))
          ]);
    }
    in
    record {
      home = p.home;
      ordered = λ c. (h.queues c).ordered 0 (p.ordered c);
      queued = λ c k e.
          let i : IsQueued p.home l (accepted_count w) c k = p.queued c k ((h.queues c).has k e) in
          record {
            old = omega (arith, i.old, h.accepted);
            place = i.place;
            passed = has_append l (ids_of y ns) k ∙ ap (λ (b : Bool). b || has (ids_of y ns) k) i.passed
                ∙ on_bool (has (ids_of y ns) k) (λ d.
                let j : IsIdOf y ns k = has_ids ns y k d in
                absurd (cc ((label j.number j.among).place, i.place, ap p.home j.id))) (λ d. d);
          };
      numbered = λ i j. on_bool ((i == s) && (j == t))
          (λ here.
          let b = both (i == s) (j == t) here in
          let es : s ≡ i = sym (eq_yes i s b.0) in
          let et : t ≡ j = sym (eq_yes j t b.1) in
          subst (λ (a : ℕ). Labels p.home (l ++ ids_of y ns) (accepted_count v) a j (side v a j)) es
          (subst (λ (c : ℕ). Labels p.home (l ++ ids_of y ns) (accepted_count v) s c (side v s c)) et
          (subst (Labels p.home (l ++ ids_of y ns) (accepted_count v) s t) (sym own)
          (labels s t (record { session = y; receiver = q; agreed = agreed }) refl
          (λ n d. elim d [ inl old ↦ omega (arith, old, g.rises) | inr new ↦ (among n new.2).3 ])))))
          (λ other.
          let not_here : i ≡ s → j ≡ t → ⊥ = λ es et. cc
          (other, and_true (i == s) (j == t) (yes_eq i s es) (yes_eq j t et)) in
          subst (Labels p.home (l ++ ids_of y ns) (accepted_count v) i j) (sym (apart i j not_here))
          (labels i j (side w i j) refl (λ n d. elim
          d [ inl old ↦ old | inr new ↦ absurd (not_here new.0 new.1) ])));
      old = λ k e. elim (was k e) [
        | inl old ↦ omega (arith, p.old k old, h.accepted)
        | inr new ↦ (let i : IsIdOf y ns k = has_ids ns y k new in
            omega (arith, (label i.number i.among).old, i.id, h.accepted))
      ];
      once = once_append l (ids_of y ns) p.once (once_ids ns 0 y p.home s t
          (climbs_filter _ q.arrived 0 g.rising) (λ n e. (label n e).place)) fresh;
    }

grows_arrived : (y : Session) (r : Receiver) (m : ℕ) → IsAgreed y r → y.first ≤ m → m < next_number y →
    Grows y r (with_arrived m r)
grows_arrived y r m a l b =
    let c : Climbs 0 (with_arrived m r).arrived = climbs_with r.arrived 0 m (omega arith) a.rising in
    record {
      rising = c;
      within = (agreed_arrived y r m l b a).arrived;
      rises = release_rises r (with_arrived m r) (omega arith) c (λ n h. has_old r.arrived m n h);
    }

pub grows_told : (y : Session) (r : Receiver) (f : ℕ) → Climbs 0 r.arrived →
    ((n : ℕ) → has r.arrived n ≡ true → (y.first ≤ n) × (n < next_number y)) → Grows y r (with_start f r)
grows_told y r f rising within = record {
  rising = rising;
  within = within;
  rises = release_rises r (with_start f r) (greatest_within r.starts r.first
      (greatest (with_start f r).first (with_start f r).starts)
      (greatest_least (with_start f r).starts r.first)
      (λ k h. greatest_has (with_start f r).starts r.first k (has_old r.starts f k h))) rising (λ n h. h);
}

grows_start : (y : Session) (r : Receiver) (f : ℕ) → IsAgreed y r → Grows y r (with_start f r)
grows_start y r f a = grows_told y r f a.rising a.arrived

pub grows_after : (c : Content) (w : World) (i : IsLawful w) (x : Exchange) (n : ℕ) → x.content ≡ c →
    IsOpenIn w x → n < transmissions c → Grows (session w x.station x.tid) (receiver w x.station x.tid)
    (after_arrival c n (receiver w x.station x.tid))
grows_after (Frames ms) w i x n e o l =
    let y : Session = session w x.station x.tid in
    let flies : FlyIn x.number ms y = subst (λ (c : Content). FlyIn x.number (mpdus_of c) y) e o.opened.flies
    in
    let p = rises_at y.first (next_number y) ms n l flies.rising in
    grows_arrived y (receiver w x.station x.tid) (at no_mpdu ms n).number (i.agreed x.station x.tid) p.0 p.1
grows_after (Request f) w i x n e o l = grows_start (session w x.station x.tid) (receiver w x.station x.tid) f
    (i.agreed x.station x.tid)

pub less_taken : (w : World) (x z : Exchange) (g : Receiver → Receiver) →
    Less Any w (with_exchange (on_receiver w x.station x.tid g) z)
unfolding with_exchange
less_taken w x z g = then_less Any w _ _ (less_on_receiver Any w x.station x.tid g)
    (less_plain Any _ _ refl refl)

-- ---- joining and leaving

pub less_with_station : (w : World) (s : ℕ) (o : Option Station) → Less Any w (with_station w s o)
unfolding with_station
less_with_station w s o = less_plain Any w _ refl refl

abbrev pub IsBare : Side → Type 0
IsBare a = next_number a.session ≡ a.session.first

pub placed_station : (l : List ℕ) (w : World) (i : ℕ) (o : Option Station) → ((t : ℕ) → IsBare (sides_of
    o t)) →
    Placing l w → Placing l (with_station w i o)
placed_station l w i o bare p =
    let v : World = with_station w i o in
    let h : Less Any w v = less_with_station w i o in
    record {
      home = p.home;
      ordered = λ q. (h.queues q).ordered 0 (p.ordered q);
      queued = λ q k e. let j = p.queued q k ((h.queues q).has k e) in
          record { old = omega (arith, j.old, h.accepted); place = j.place; passed = j.passed };
      numbered = λ s t. on_bool (i == s)
          (λ own. subst (λ (a : ℕ). Labels p.home l (accepted_count v) a t (side v a t)) (eq_yes i s own)
          (subst (Labels p.home l (accepted_count v) i t) (sym (side_own_station w i t o))
          (λ n from below. absurd (omega (arith, from, below, bare t)))))
          (λ other. subst (Labels p.home l (accepted_count v) s t)
          (sym (side_with_station w i s t o (eq_no i s other)))
          (labels_older p.home l (accepted_count w) (accepted_count v) s t (side w s t) h.accepted
          (p.numbered s t)));
      old = λ k e. omega (arith, p.old k e, h.accepted);
      once = p.once;
    }

pub new_bare : (mode : Mode) (first size : ℕ) → IsBare (side_of (new_tid mode first size))
new_bare mode first size = omega arith

pub less_left_tids : (ts : List ℕ) (w : World) (s : ℕ) → Less Any w (after_tids_left w s ts)
unfolding after_tids_left after_tid_left
less_left_tids [] w s = less Any w
less_left_tids (t ∷ ts) w s = then_less Any _ _ _
    (then_less Any _ _ _ (then_less Any _ _ _ (less_drop_all Any _ w _ (λ h. cc h))
    (less_purge_queues Any _ _)) (less_with_queues Any _ s t _)) (less_left_tids ts _ s)

pub less_off_lists : (cs : List Class) (w : World) (s : ℕ) → Less Any w (without_listings w s cs)
unfolding without_listings
less_off_lists [] w s = less Any w
less_off_lists (c ∷ cs) w s = then_less Any _ _ _ (less_with_rotation Any w c _) (less_off_lists cs _ s)

-- ---- a frame is enqueued

ordered_append : (xs : List Item) (x : Item) (lo : ℕ) → Ordered lo xs → lo ≤ x.id →
    ((k : ℕ) → carries xs k ≡ true → k < x.id) → Ordered lo (xs ++ x ∷ [])
ordered_append [] x lo o h f = (h, tt)
ordered_append (y ∷ xs) x lo o h f =
    let first_old : y.id < x.id = f y.id (or_left (y.id == y.id) (carries xs y.id)
    (yes_eq y.id y.id refl)) in (
      o.0,
      ordered_append xs x (suc y.id) o.1 (omega arith)
          (λ k e. f k (or_right (y.id == k) (carries xs k) e)),
    )

carries_append : (xs : List Item) (x : Item) (k : ℕ) → carries (xs ++ x ∷ []) k ≡ true →
    (carries xs k ≡ true) ⊎ (k ≡ x.id)
carries_append [] x k h = elim (either (x.id == k) false h) [
  | inl e ↦ inr (sym (eq_yes x.id k e))
  | inr e ↦
      absurd (cc e)
]
carries_append (y ∷ xs) x k h = elim (either (y.id == k) (carries (xs ++ x ∷ []) k) h) [
  | inl e ↦ inl (or_left (y.id == k) (carries xs k) e)
  | inr e ↦ elim (carries_append xs x k e) [
    | inl d ↦ inl (or_right (y.id == k) (carries xs k) d)
    | inr d ↦
        inr d
  ]
]

-- A frame that is in queue c after x was appended to queue q was there before, or it is x and c is q.
pub queue_appended : (u : World) (q : ℕ) (x : Item) (c k : ℕ) →
    carries (queue (with_appended u q x) c).items k ≡ true → (carries (queue u c).items k ≡ true) ⊎
    ((c ≡ q) × (k ≡ x.id))
unfolding with_appended on_queue
queue_appended u q x c k = each_put (λ i y. i ≡ c → carries y.items k ≡ true →
    (carries (queue u c).items k ≡ true) ⊎ ((c ≡ q) × (k ≡ x.id))) new_queue u.queues q _
    (λ i e h. inl (subst (λ (j : ℕ). carries (queue u j).items k ≡ true) e h))
    (λ e h. elim (carries_append (queue u q).items x k h) [
      | inl d ↦
          inl (subst (λ (j : ℕ). carries (queue u j).items k ≡ true) e d)
      | inr d ↦ inr (sym e, d)
    ]) c refl

ordered_appended : (u : World) (q : ℕ) (x : Item) → ((c : ℕ) → Ordered 0 (queue u c).items) →
    ((c k : ℕ) → carries (queue u c).items k ≡ true → k < x.id) → (c : ℕ) →
    Ordered 0 (queue (with_appended u q x) c).items
unfolding with_appended on_queue
ordered_appended u q x o f = each_put (λ i y. Ordered 0 y.items) new_queue u.queues q _ o
    (ordered_append (queue u q).items x 0 (o q) (omega arith) (f q))

placed_put : (l : List ℕ) (w u v : World) (q : ℕ) (x : Item) → x.id ≡ accepted_count w → Less Any w u →
    Less Any (with_appended u q x) v → ((s t : ℕ) → side v s t ≡ side w s t) →
    accepted_count w < accepted_count v → Placing l w → Placing l v
placed_put l w u v q x e h k d more p =
    let home : ℕ → Place = moved p.home x.id (Queued q) in
    let older : (c i : ℕ) → carries (queue u c).items i ≡ true →
    IsQueued p.home l (accepted_count w) c i = λ c i b. p.queued c i ((h.queues c).has i b) in
    record {
      home = home;
      ordered = λ c. (k.queues c).ordered 0 (ordered_appended u q x
          (λ c. (h.queues c).ordered 0 (p.ordered c)) (λ c i b. omega (arith, e, (older c i b).old)) c);
      queued = λ c i b. elim (queue_appended u q x c i ((k.queues c).has i b)) [
        | inl was ↦ (
            let j : IsQueued p.home l (accepted_count w) c i = older c i was in
            let ne : i ≢ x.id = λ same_id. omega (arith, same_id, e, j.old) in
            record {
              old = omega (arith, j.old, more);
              place =
                  moved_other p.home x.id (Queued q) i ne ∙ j.place;
              passed = j.passed;
            })
        | inr new ↦ record {
          old = omega (arith, new.1, e, more);
          place = moved_same p.home x.id (Queued q) i new.1 ∙ ap Queued (sym new.0);
          passed = on_bool (has l i) (λ z. absurd (omega (arith, p.old i z, new.1, e))) (λ z. z);
        }
      ];
      numbered = λ s t. subst (Labels home l (accepted_count v) s t) (sym (d s t)) (λ n from below.
          let j : IsLabel p.home l (accepted_count w) s t (side w s t) n = p.numbered s t n from below in
          let ne : (slot (session w s t) n).id ≢ x.id = λ same_id. omega (arith, same_id, e, j.old) in
          record {
            old = omega (arith, j.old, more);
            place =
                moved_other p.home x.id (Queued q) _ ne ∙ j.place;
            passed = j.passed;
          });
      old = λ i b. omega (arith, p.old i b, more);
      once = p.once;
    }

pub less_put_in : (u : World) (s t q : ℕ) (x : Item) → Less Any (with_appended u q x) (after_put_in u s t q x)
unfolding after_put_in
less_put_in u s t q x = less_listed_queue Any (with_appended u q x) s t q

pub accepted_appended : (u : World) (q : ℕ) (x : Item) → accepted_count (with_appended u q x) ≡
    accepted_count u
unfolding with_appended on_queue
accepted_appended u q x = refl

at_before : (fs : List Frame) (x : Frame) (k : ℕ) → k < length fs →
    at no_frame (fs ++ x ∷ []) k ≡ at no_frame fs k
at_before [] x k h = absurd (omega arith)
at_before (f ∷ fs) x zero h = refl
at_before (f ∷ fs) x (suc k) h = at_before fs x k (omega arith)

pub less_with_frame : (w : World) (note : Note) → Less Any w (with_frame w note)
unfolding with_frame
less_with_frame w note = record {
  queues = λ q. fewer (queue w q).items;
  accepted = omega (arith, length-append w.frames (record { note = note; fate = Held } ∷ []));
  fates = λ id h. inr tt;
  notes = λ id h. ap (λ (f : Frame). f.note)
      (at_before w.frames (record { note = note; fate = Held }) id h);
}

pub accepted_with_frame : (w : World) (note : Note) →
    accepted_count (with_frame w note) ≡ suc (accepted_count w)
unfolding with_frame
accepted_with_frame w note = omega (arith, length-append w.frames (record { note = note; fate = Held } ∷ []))

pub side_with_frame : (w : World) (note : Note) (s t : ℕ) → side (with_frame w note) s t ≡ side w s t
unfolding with_frame
side_with_frame w note s t = refl

pub placed_enqueued : (l : List ℕ) (w : World) (s t flow len : ℕ) → Placing l w →
    Placing l (enqueue_outcome w s t flow len).world
unfolding enqueue_outcome
placed_enqueued l w s t flow len p =
    let u : World = after_limit w in
    let q : ℕ = queue_for u s t flow in
    let x : Item = record { id = accepted_count w; stamp = w.clock; len = len } in
    let a : World = after_put_in u s t q x in
    let h : Less Any w u = less_within_limit Any w in
    let k : Less Any (with_appended u q x) a = less_put_in u s t q x in
    placed_put l w u (with_frame a (Enqueue s t flow len)) q x refl h
    (then_less Any _ a _ k (less_with_frame a (Enqueue s t flow len)))
    (λ i j. side_with_frame a (Enqueue s t flow len) i j
    ∙ (then_same w u a (same_within_limit w) (same_put_in u s t q x)).sides i j)
    (omega (
      arith,
      accepted_with_frame a (Enqueue s t flow len),
      k.accepted,
      h.accepted,
      accepted_appended u q x,
    )) p

-- ---- the ids that a call releases

pub any_some : (o : Option Exchange) → IfSome o (λ _. Unit {0})
any_some None = tt
any_some (Some x) = tt

pub named_open : (o : Option Exchange) (w : World) (f : Exchange → Outcome) →
    ((x : Exchange) → named_by (f x).reply ≡ []) → named_by (outcome_where_open w o f).reply ≡ []
unfolding outcome_where_open
named_open None w f h = refl
named_open (Some x) w f h = h x

named_pulled_by : (o : Option ℕ) (w : World) (c : Class) → named_by (pull_outcome_for w c o).reply ≡ []
unfolding pull_outcome_for send_outcome
named_pulled_by None w c = refl
named_pulled_by (Some s) w c = refl

named_reaped : (ids : List ℕ) (w : World) → named_by (reap_outcome w ids).reply ≡ []
unfolding reap_outcome
named_reaped [] w = refl
named_reaped (id ∷ ids) w = refl

-- An Ack and a BlockAck release no id.
named_answered : (plain : Bool) (b : Score) (wide : Bool) → named_by (answer_reply plain b wide) ≡ []
named_answered true b wide = refl
named_answered false b wide = refl

-- The reply to a call releases no id, unless it is an arrival or ends an agreement.
pub named_done : (note : Note) (w : World) → (named_by (outcome_of w note).reply ≡ []) ⊎
    (((e : ℕ) × (n : ℕ) × (note ≡ Asked (Arrive e n))) ⊎
    ((s : ℕ) × (t : ℕ) × (note ≡ Asked (Cease s t))))
unfolding outcome_of enqueue_outcome join_outcome offload_outcome weight_outcome leave_outcome
    rate_outcome tick_outcome pull_outcome answer_outcome unsent_outcome give_up_outcome flush_outcome
    done_outcome sleep_outcome wake_outcome poll_outcome rx_outcome plain_outcome hold_outcome begin_outcome
    free_outcome
named_done (Enqueue s t flow len) w = inl refl
named_done (Asked (Join s window start exponent weight)) w = inl refl
named_done (Asked (Leave s)) w = inl refl
named_done (Asked (Rate s rate)) w = inl refl
named_done (Asked (Tick by)) w = inl refl
named_done (Asked (Pull c l)) w = inl (named_pulled_by (picked_station w c).winner (picked_world w c l) c)
named_done (Asked (Arrive e n)) w = inr (inl (e, n, refl))
named_done (Asked (Answer e)) w = inl (named_open (exchange w e) w _ (λ x. named_answered x.plain
    (score (receiver w x.station x.tid)) (is_wide w x.station x.tid)))
named_done (Asked (Done e heard air)) w = inl (named_open (exchange w e) w _ (λ x. refl))
named_done (Asked (Sleep s)) w = inl refl
named_done (Asked (Ampdu s octets)) w = inl refl
named_done (Asked (Stop s)) w = inl refl
named_done (Asked (Start s)) w = inl refl
named_done (Asked (Wake s)) w = inl refl
named_done (Asked (Poll s)) w = inl refl
named_done (Asked (Rx s c air)) w = inl refl
named_done (Asked Reap) w = inl (named_reaped w.finished w)
named_done (Asked (Unsent e n)) w = inl (named_open (exchange w e) w _ (λ x. refl))
named_done (Asked (GiveUp e n)) w = inl (named_open (exchange w e) w _ (λ x. refl))
named_done (Asked (Flush s t)) w = inl refl
named_done (Asked (Offload s exponent weight)) w = inl refl
named_done (Asked (Weight s weight)) w = inl refl
named_done (Asked (call.Plain s start exponent weight)) w = inl refl
named_done (Asked (Hold s t)) w = inl refl
named_done (Asked (Begin s t window)) w = inl refl
named_done (Asked (Free s t)) w = inl refl
named_done (Asked (Cease s t)) w = inr (inr (s, t, refl))
named_done (Asked (Group ask)) w = inl refl
named_done (Asked (Service ask)) w = inl refl
named_done (Asked (Bss s b)) w = inl refl

pub placed_at_first : (config : Config) → Placing [] (opening config)
placed_at_first config = record {
  home = λ k. Queued 0;
  ordered = λ q. tt;
  queued = λ q k e. absurd (cc e);
  numbered = λ s t n from below. absurd (omega (arith, from, below));
  old = λ k e. absurd (cc e);
  once = tt;
}
