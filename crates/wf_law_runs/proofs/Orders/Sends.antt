-- Proves the law of sent flows: the ids of each flow increase in the order of their first sends. A frame that
-- is sent is before all held frames of its flow that were never sent: these are queued, or wait at higher
-- numbers. By induction on the run.
use Rattle.std.proofs.Common.{◌≡◌, refl, ap, sym, ◌∙◌, subst, arith, ℕ, suc, ◌+◌, ◌-◌, ◌<◌, ◌≤◌, nat_lt, Bool, true, false, if◌then◌else◌, not, ◌==◌, ◌||◌, ◌⊎◌, inl, inr, List, [], ◌∷◌, ◌++◌, map, filter, append-nil, append_assoc, length, ◌%◌, count_by}
use Rattle.std.proofs.Math.Seq.{take-length}
use Rattle.std.proofs.lemmas.Bool.{not-true}
use Rattle.std.proofs.lemmas.List.Sums.{sum_by-cons}
use Rattle.wf_frame.specs.declared.settings.Config.{Config}
use Rattle.wf_frame.specs.Settings.{IsInRange}
use Rattle.wf_frame.specs.declared.notes.Note.{Note}
use Rattle.wf_frame.specs.declared.notes.Note.TheVariants.{Enqueue, Asked}
use Rattle.wf_frame.specs.declared.notes.Part.TheVariants.{Mpdus, Request as Asks, Batch, Plain}
use Rattle.wf_frame.specs.declared.notes.ReplyNote.{ReplyNote}
use Rattle.wf_frame.specs.declared.notes.ReplyNote.TheVariants.{Send}
use Rattle.wf_def_lists.specs.Table.{has}
use Rattle.wf_def_codel.specs.Codel.{Item}
use Rattle.wf_def_agreement.specs.Session.{Session, State, slot, with_number_given, next_number, is_settled}
use Rattle.wf_def_world.specs.World.{World, Exchange, Mpdu, Content, Frames, Request, session, frame, queue, accepted_count, on_queue, opening}
use Rattle.wf_def_world.specs.FlowQueues.{after_limit, after_put_in, with_appended, queue_for}
use Rattle.wf_def_world.specs.Exchanges.{mpdus_of, part_of}
use Rattle.wf_def_world.specs.Step.{enqueue_outcome, step}
use Rattle.wf_def_world.specs.Run.{Entry, world_after}
use Rattle.wf_law_rules.proofs.Lemmas.Joined.{has_first, has_second, has_either}
use Rattle.wf_law_rules.proofs.Lemmas.Numbers.{on_bool, on_if, lt_yes, lt_no, eq_yes, yes_eq, either, or_left, or_right}
use Rattle.wf_law_runs.specs.Places.{IsNumbered, Numbered, Queued, Place, StandsAt, StandsOnce, IsRightFor, KeepsPlaces}
use Rattle.wf_law_runs.specs.Queues.{IsFor}
use Rattle.wf_law_runs.specs.Flows.{ids_sent_by, not_among, sent_from, FlowSendLaw}
use Rattle.wf_law_runs.specs.Tries.{count_of, tries_by, tries, unsent as times_unsent}
use Rattle.wf_law_runs.specs.Releases.{named_by, named_from}
use Rattle.wf_law_runs.proofs.Sessions.Flights.{Rises}
use Rattle.wf_law_runs.proofs.Windows.Agreed.{IsLawful, IsOpenIn}
use Rattle.wf_law_runs.proofs.Releases.Placed.{Any, filter_has, less_put_in, less_with_frame, less_with_station}
use Rattle.wf_law_runs.proofs.Releases.Steps.{through_step}
use Rattle.wf_law_runs.proofs.Frames.Fewer.{Less, less_on_session, less_within_limit, carries}
use Rattle.wf_law_runs.proofs.Frames.Delivered.{Labelled}
use Rattle.wf_law_runs.proofs.Frames.Fates.{IsHeld, Steady, steady_step, steady_run, steady_first, remains_step}
use Rattle.wf_law_runs.proofs.Frames.Places.{place_law}
use Rattle.wf_law_runs.proofs.Tries.Counts.{counts}
use Rattle.wf_law_runs.proofs.Tries.Opens.{at_some}
use Rattle.wf_law_runs.proofs.Orders.Lines.{Lane, lane_of, Agrees, Before, AreLined, InLine}
use Rattle.wf_law_runs.proofs.Orders.Fronts.{among, AllBelow, among_least, all_below, all_in_among, IsAbove, OpensFirst, first_step}
use Rattle.wf_law_runs.proofs.Orders.Law.{world_more, line_first, in_line, flow_rises, carried_held}

-- ---- accepted frames keep their notes

record Older (u w : World) : Type 0 where
  accepted : accepted_count u ≤ accepted_count w
  notes : (k : ℕ) → k < accepted_count u → (frame w k).note ≡ (frame u k).note

older_less : (u w v : World) → Less Any w v → Older u w → Older u v
older_less u w v h o = record {
  accepted = omega (arith, o.accepted, h.accepted);
  notes = λ k l. h.notes k (omega (arith, l, o.accepted)) ∙ o.notes k l;
}

older_appended : (u w : World) (q : ℕ) (x : Item) → Older u w → Older u (with_appended w q x)
unfolding with_appended on_queue
older_appended u w q x o = record { accepted = o.accepted; notes = o.notes }

older_enqueued : (u w : World) (s t flow len : ℕ) → Older u w → Older u (enqueue_outcome w s t flow len).world
unfolding enqueue_outcome
older_enqueued u w s t flow len o =
    let z : World = after_limit w in
    let q : ℕ = queue_for z s t flow in
    let x : Item = record { id = accepted_count w; stamp = w.clock; len = len } in
    let a : World = after_put_in z s t q x in
    older_less u a _ (less_with_frame a (Enqueue s t flow len)) (older_less u (with_appended z q x) a
    (less_put_in z s t q x) (older_appended u z q x (older_less u w z (less_within_limit Any w) o)))

older_step : (w : World) (note : Note) → IsLawful w → Older w (step w note).world
older_step w note i = through_step (λ _ v. Older w v) (λ _. Unit {0}) (λ _ u v h _ o. older_less w u v h o)
    (λ _ u s t f _ _ o. older_less w u _ (less_on_session Any u s t f) o)
    (λ _ u v s t x _ h _ o. older_less w v _ (less_on_session Any v s t (λ y. with_number_given y x.id))
    (older_less w u v h o))
    (λ _ u v s t q b _ h _ _ _ o. older_less w u v h o)
    (λ _ u v s t q b h _ _ _ o. older_less w u v h o)
    (λ _ u j o _ k. older_less w u _ (less_with_station u j o) k)
    (λ _ u s t flow len _ _ o. older_enqueued w u s t flow len o) [] w i note tt
    (record { accepted = omega arith; notes = λ k _. refl })

-- ---- lanes

-- The lane of a frame, by its call.
abbrev lane_at : ℕ → World → ℕ → Lane
lane_at flows w k = lane_of flows (frame w k).note

before_agrees : (flows : ℕ) (lane : ℕ → Lane) (w : World) (a b : ℕ) → Agrees flows lane w a →
    Agrees flows lane w b → Before lane a b → Before (lane_at flows w) a b
before_agrees flows lane w a b x y h e = h (x ∙ (e ∙ sym y))

numbered_before : (flows : ℕ) (r : List ℕ) (v : World) (p : InLine flows r v) (s t n m : ℕ) →
    (session v s t).first ≤ n → n < m → m < next_number (session v s t) →
    Before (lane_at flows v) (slot (session v s t) n).id (slot (session v s t) m).id
numbered_before flows r v p s t n m from less below = before_agrees flows p.lane v _ _
    ((p.sides s t).known n from (omega (arith, less, below)))
    ((p.sides s t).known m (omega (arith, from, less)) below) ((p.sides s t).rising n m from less below)

queued_before : (flows : ℕ) (r : List ℕ) (v : World) (p : InLine flows r v) (s t n q k : ℕ) →
    (session v s t).first ≤ n → n < next_number (session v s t) → carries (queue v q).items k ≡ true →
    Before (lane_at flows v) (slot (session v s t) n).id k
queued_before flows r v p s t n q k from below c = before_agrees flows p.lane v _ _
    ((p.sides s t).known n from below) (p.known q k c) ((p.sides s t).queued n q k from below c)

lined_append : (lane : ℕ → Lane) (xs ys : List ℕ) → AreLined lane xs → AreLined lane ys →
    ((a b : ℕ) → has xs a ≡ true → has ys b ≡ true → Before lane a b) → AreLined lane (xs ++ ys)
lined_append lane [] ys a b h = b
lined_append lane (x ∷ xs) ys a b h = (
  (λ j e. elim (has_either xs ys j e) [
    | inl d ↦ a.0 j d
    | inr d ↦ h x j (or_left (x == x) (has xs x) (yes_eq x x refl)) d
  ]),
  lined_append lane xs ys a.1 b (λ c d e f. h c d (or_right (x == c) (has xs c) e) f),
)

lined_filter : (lane : ℕ → Lane) (test : ℕ → Bool) (xs : List ℕ) → AreLined lane xs →
    AreLined lane (filter test xs)
lined_filter lane test [] a = tt
lined_filter lane test (x ∷ xs) a = on_if (AreLined lane) (test x) (x ∷ filter test xs) (filter test xs)
    (λ _. ((λ j e. a.0 j (filter_has test xs j e).0), lined_filter lane test xs a.1))
    (λ _. lined_filter lane test xs a.1)

-- The lanes of the members may be given by another function.
lined_same : (lane other : ℕ → Lane) (xs : List ℕ) → ((k : ℕ) → has xs k ≡ true → other k ≡ lane k) →
    AreLined lane xs → AreLined other xs
lined_same lane other [] h a = tt
lined_same lane other (x ∷ xs) h a =
    let here : other x ≡ lane x = h x (or_left (x == x) (has xs x) (yes_eq x x refl)) in (
      (λ j e d. a.0 j e (sym here ∙ (d ∙ h j (or_right (x == j) (has xs j) e)))),
      lined_same lane other xs (λ k e. h k (or_right (x == k) (has xs k) e)) a.1,
    )

lined_nothing : (lane : ℕ → Lane) (xs : List ℕ) → ((a : ℕ) → has xs a ≡ true → ⊥) → AreLined lane xs
lined_nothing lane [] h = tt
lined_nothing lane (x ∷ xs) h = absurd (h x (or_left (x == x) (has xs x) (yes_eq x x refl)))

-- ---- the ids of an exchange

ids_in : List Mpdu → List ℕ
ids_in [] = []
ids_in (m ∷ ms) = m.id ∷ ids_in ms

-- A number of the aggregate carries frame k.
record IsSentAt (y : Session) (ms : List Mpdu) (k : ℕ) : Type 0 where
  number : ℕ
  is_among : among number ms ≡ true
  carries_it : (slot y number).id ≡ k

sent_at : (ms : List Mpdu) (y : Session) (k : ℕ) → Labelled y ms → has (ids_in ms) k ≡ true → IsSentAt y ms k
unfolding ids_in
sent_at [] y k l h = absurd (cc h)
sent_at (m ∷ ms) y k l h = elim (either (m.id == k) (has (ids_in ms) k) h) [
  | inl e ↦ record {
    number = m.number;
    is_among = or_left (m.number == m.number) (among m.number ms) (yes_eq m.number m.number refl);
    carries_it = l.0 ∙ eq_yes m.id k e;
  }
  | inr e ↦ (let a : IsSentAt y ms k = sent_at ms y k l.1 e in record {
    number = a.number;
    is_among = or_right (m.number == a.number) (among a.number ms) a.is_among;
    carries_it = a.carries_it;
  })
]

among_below : (ms : List Mpdu) (hi n : ℕ) → AllBelow hi ms → among n ms ≡ true → n < hi
among_below [] hi n a h = absurd (cc h)
among_below (m ∷ ms) hi n a h = elim (either (m.number == n) (among n ms) h) [
  | inl e ↦ omega (arith, a.0, eq_yes m.number n e)
  | inr e ↦ among_below ms hi n a.1 e
]

lined_ids : (ms : List Mpdu) (flows : ℕ) (r : List ℕ) (v : World) (p : InLine flows r v) (s t lo : ℕ) →
    (session v s t).first ≤ lo → Rises lo (next_number (session v s t)) ms → Labelled (session v s t) ms →
    AreLined (lane_at flows v) (ids_in ms)
unfolding ids_in
lined_ids [] flows r v p s t lo from c l = tt
lined_ids (m ∷ ms) flows r v p s t lo from c l = (
  (λ j e.
      let y : Session = session v s t in
      let a : IsSentAt y ms j = sent_at ms y j l.1 e in
      subst (λ (i : ℕ). Before (lane_at flows v) i j) l.0
      (subst (Before (lane_at flows v) (slot y m.number).id)
      a.carries_it (numbered_before flows r v p s t m.number a.number (omega (arith, from, c.0))
      (among_least ms (suc m.number) (next_number y) a.number c.2 a.is_among)
      (among_below ms (next_number y) a.number
      (all_below ms (suc m.number) (next_number y) c.2) a.is_among)))),
  lined_ids ms flows r v p s t (suc m.number) (omega (arith, from, c.0)) c.2 l.1,
)

-- ---- the ids of a reply

named_ids : (ms : List Mpdu) →
    map (λ (m : ℕ × ℕ). m.0) (map (λ (m : Mpdu). (m.id, m.number % 4096)) ms) ≡ ids_in ms
unfolding ids_in
named_ids [] = refl
named_ids (m ∷ ms) = ap (λ (ids : List ℕ). m.id ∷ ids) (named_ids ms)

batch_ids : (ms : List Mpdu) → map (λ (m : Mpdu). m.id) ms ≡ ids_in ms
unfolding ids_in
batch_ids [] = refl
batch_ids (m ∷ ms) = ap (λ (ids : List ℕ). m.id ∷ ids) (batch_ids ms)

sent_ids : (batch plain : Bool) (c : Content) (number station tid air : ℕ) (more eosp : Bool) →
    ids_sent_by (Send number station tid air (part_of batch plain c) more eosp) ≡ ids_in (mpdus_of c)
unfolding ids_in
sent_ids false false (Frames ms) number station tid air more eosp = named_ids ms
sent_ids false true (Frames ms) number station tid air more eosp = named_ids ms
sent_ids true plain (Frames ms) number station tid air more eosp = batch_ids ms
sent_ids false plain (Request start) number station tid air more eosp = refl
sent_ids true plain (Request start) number station tid air more eosp = refl

count_some : (ms : List (ℕ × ℕ)) (k : ℕ) → has (map (λ (m : ℕ × ℕ). m.0) ms) k ≡ true → 1 ≤ count_of k ms
count_some [] k h = absurd (cc h)
count_some (m ∷ ms) k h = go (m.0 == k) refl (count_some ms k) h
  where
    go : (b : Bool) → (m.0 == k) ≡ b → (has (map (λ (m : ℕ × ℕ). m.0) ms) k ≡ true → 1 ≤ count_of k ms) →
        ((m.0 == k) || has (map (λ (m : ℕ × ℕ). m.0) ms) k) ≡ true →
        1 ≤ (if m.0 == k then 1 else 0) + count_of k ms
    go true e f d = rw e (omega arith)
    go false e f d = rw e (omega (arith, f (rw e at d)))

count_none : (ms : List (ℕ × ℕ)) (k : ℕ) → has (map (λ (m : ℕ × ℕ). m.0) ms) k ≡ false → count_of k ms ≡ 0
count_none [] k h = refl
count_none (m ∷ ms) k h = go (m.0 == k) refl (count_none ms k) h
  where
    go : (b : Bool) → (m.0 == k) ≡ b → (has (map (λ (m : ℕ × ℕ). m.0) ms) k ≡ false → count_of k ms ≡ 0) →
        ((m.0 == k) || has (map (λ (m : ℕ × ℕ). m.0) ms) k) ≡ false →
        ((if m.0 == k then 1 else 0) + count_of k ms) ≡ 0
    go true e f d = absurd (cc (rw e at d))
    go false e f d = rw e (omega (arith, f (rw e at d)))

ids_some : (ids : List ℕ) (k : ℕ) → has ids k ≡ true → 1 ≤ count_by (λ i. i == k) ids
ids_some [] k h = absurd (cc h)
ids_some (i ∷ ids) k h = go (i == k) refl (ids_some ids k) h
    (sum_by-cons (λ (j : ℕ). if j == k then 1 else 0) i ids)
  where
    go : (b : Bool) → (i == k) ≡ b → (has ids k ≡ true → 1 ≤ count_by (λ j. j == k) ids) →
        ((i == k) || has ids k) ≡ true → count_by (λ j. j == k) (i ∷ ids)
        ≡ (if i == k then 1 else 0) + count_by (λ j. j == k) ids → 1 ≤ count_by (λ j. j == k) (i ∷ ids)
    go true e f d whole = rw whole (rw e (omega arith))
    go false e f d whole = rw whole (rw e (omega (arith, f (rw e at d))))

ids_none : (ids : List ℕ) (k : ℕ) → has ids k ≡ false → count_by (λ i. i == k) ids ≡ 0
ids_none [] k h = refl
ids_none (i ∷ ids) k h = go (i == k) refl (ids_none ids k) h
    (sum_by-cons (λ (j : ℕ). if j == k then 1 else 0) i ids)
  where
    go : (b : Bool) → (i == k) ≡ b → (has ids k ≡ false → count_by (λ j. j == k) ids ≡ 0) →
        ((i == k) || has ids k) ≡ false → count_by (λ j. j == k) (i ∷ ids)
        ≡ (if i == k then 1 else 0) + count_by (λ j. j == k) ids → count_by (λ j. j == k) (i ∷ ids) ≡ 0
    go true e f d whole = absurd (cc (rw e at d))
    go false e f d whole = rw whole (rw e (omega (arith, f (rw e at d))))

some_tries : (r : ReplyNote) (k : ℕ) → has (ids_sent_by r) k ≡ true → 1 ≤ tries_by k r
some_tries (Send exchange station tid air (Mpdus ms) more eosp) k h = count_some ms k h
some_tries (Send exchange station tid air (Batch ids) more eosp) k h = ids_some ids k h
some_tries (Send exchange station tid air (Plain ms) more eosp) k h = count_some ms k h
some_tries _ k h = absurd (cc h)

no_tries : (r : ReplyNote) (k : ℕ) → has (ids_sent_by r) k ≡ false → tries_by k r ≡ 0
no_tries (Send exchange station tid air (Mpdus ms) more eosp) k h = count_none ms k h
no_tries (Send exchange station tid air (Batch ids) more eosp) k h = ids_none ids k h
no_tries (Send exchange station tid air (Plain ms) more eosp) k h = count_none ms k h
no_tries (Send exchange station tid air (Asks start) more eosp) k h = refl
no_tries _ k h = refl

filter_in : (test : ℕ → Bool) (xs : List ℕ) (k : ℕ) → has xs k ≡ true → test k ≡ true →
    has (filter test xs) k ≡ true
filter_in test [] k h e = absurd (cc h)
filter_in test (x ∷ xs) k h e = on_bool (x == k)
    (λ same. let is : test x ≡ true = ap test (eq_yes x k same) ∙ e in
    rw is (or_left (x == k) (has (filter test xs) k) same))
    (λ other. elim (either (x == k) (has xs k) h) [
      | inl d ↦ absurd (cc (d, other))
      | inr d ↦ on_if (λ (ys : List ℕ). has ys k ≡ true) (test x) (x ∷ filter test xs) (filter test xs)
          (λ _. or_right (x == k) (has (filter test xs) k) (filter_in test xs k d e))
          (λ _. filter_in test xs k d e)
    ])

-- An id that is not listed after a reply was not sent by it.
unlisted : (old ids : List ℕ) (k : ℕ) → has (old ++ not_among old ids) k ≡ false → has ids k ≡ false
unlisted old ids k h = on_bool (has ids k) (λ yes. on_bool (has old k)
    (λ was. absurd (cc (h, has_first old (not_among old ids) k was)))
    (λ new. absurd (cc (
      h,
      has_second old (not_among old ids) k
          (filter_in (λ id. not (has old id)) ids k yes (ap not new)),
    )))) (λ none. none)

still_listed : (h : List Entry) (w : World) (old : List ℕ) (k : ℕ) → has old k ≡ true →
    has (sent_from w old h) k ≡ true
unfolding sent_from
still_listed [] w old k e = e
still_listed (x ∷ h) w old k e = still_listed h (step w x.1).world _ k (has_first old _ k e)

-- An id that is not listed was never sent.
never_sent : (h : List Entry) (w : World) (old : List ℕ) (k : ℕ) → has (sent_from w old h) k ≡ false →
    tries w k h ≡ 0
unfolding sent_from
never_sent [] w old k e = refl
never_sent (x ∷ h) w old k e =
    let now : List ℕ = old ++ not_among old (ids_sent_by (step w x.1).reply) in
    let none : has now k ≡ false = on_bool (has now k)
    (λ d. absurd (cc (still_listed h (step w x.1).world now k d, e))) (λ d. d) in
    omega (
      arith,
      no_tries (step w x.1).reply k (unlisted old (ids_sent_by (step w x.1).reply) k none),
      never_sent h (step w x.1).world now k e,
    )

-- ---- the invariant

-- l are the ids that were sent so far, in the order in which each was sent first.
record InTurn (flows : ℕ) (l : List ℕ) (w : World) : Type 0 where
  old : (k : ℕ) → has l k ≡ true → k < accepted_count w
  -- A frame that was sent is before each held frame of its lane that was not sent.
  turn : (a b : ℕ) → has l a ≡ true → has l b ≡ false → b < accepted_count w → IsHeld w b →
      lane_at flows w a ≡ lane_at flows w b → a < b
  lined : AreLined (lane_at flows w) l

-- The lane of a frame for a TID of a station is of this TID.
for_lane : (flows s t : ℕ) (note : Note) → IsFor s t note →
    ((lane_of flows note).station ≡ s) × ((lane_of flows note).tid ≡ t)
for_lane flows s t (Enqueue i j flow len) h = h
for_lane flows s t (Asked ask) h = absurd h

unsettled_state : (st : State) → is_settled st ≡ false → (st ≡ State.Waiting) ⊎
    ((e : ℕ) × (st ≡ State.Flying e))
unsettled_state State.Waiting h = inl refl
unsettled_state (State.Flying e) h = inr (e, refl)
unsettled_state State.Acked h = absurd (cc h)
unsettled_state State.Failed h = absurd (cc h)

-- A number that carries a frame has it as its place.
place_for : (v : World) (k : KeepsPlaces v) (id s t n : ℕ) → IsNumbered v id s t n →
    IsFor s t (frame v id).note
place_for v k id s t n h =
    let held : (id < accepted_count v) × IsHeld v id = k.only_held id (Numbered s t n) h in
    let one : StandsOnce v id = k.held id held.0 held.1 in
    subst (IsRightFor v id) (sym (one.only (Numbered s t n) h)) one.right

-- World v is later than w, and l are the ids that were sent before v.
module _ (flows : ℕ) (r l : List ℕ) (v : World) (p : InLine flows r v) (k : KeepsPlaces v)
    (flying : (s t n e : ℕ) → (slot (session v s t) n).state ≡ State.Flying e →
    has l (slot (session v s t) n).id ≡ true) where
  -- A number that is sent in an exchange before all numbers that wait.
  turn_sent : (x : Exchange) → IsOpenIn v x →
      IsAbove x.content (session v x.station x.tid) → (n b : ℕ) → among n (mpdus_of x.content) ≡ true →
      has l b ≡ false → b < accepted_count v → IsHeld v b →
      lane_at flows v (slot (session v x.station x.tid) n).id ≡ lane_at flows v b →
      (slot (session v x.station x.tid) n).id < b
  turn_sent x o above n b is_in new old held same_lane = go one.place one.stands one.right
    where
      y : Session
      y = session v x.station x.tid

      ms : List Mpdu
      ms = mpdus_of x.content

      one : StandsOnce v b
      one = k.held b old held

      from : y.first ≤ n
      from = among_least ms y.first (next_number y) n o.opened.flies.rising is_in

      below : n < next_number y
      below = among_below ms (next_number y) n
          (all_below ms y.first (next_number y) o.opened.flies.rising) is_in

      flies : (slot y n).state ≡ State.Flying x.number
      flies = all_in_among ms y (State.Flying x.number) n o.opened.flies.flying is_in

      mine : IsFor x.station x.tid (frame v (slot y n).id).note
      mine = place_for v k (slot y n).id x.station x.tid n (record {
        from = from;
        below = below;
        carries = refl;
        unsettled = ap is_settled flies;
      })

      -- b is at number m of the TID.
      compare : (m : ℕ) → IsNumbered v b x.station x.tid m → (slot y n).id < b
      compare m h = on_bool (nat_lt n m)
          (λ less. subst (λ (i : ℕ). (slot y n).id < i) h.carries
          (numbered_before flows r v p x.station x.tid n m from (lt_yes n m less) h.below
          (same_lane ∙ ap (lane_at flows v) (sym h.carries))))
          (λ more. elim (unsettled_state (slot y m).state h.unsettled) [
            | inl waits ↦
                let high : n < m = among_below ms m n (above m h.from waits) is_in in
                absurd (omega (arith, high, lt_no n m more))
            | inr f ↦ absurd (cc (
              flying x.station x.tid m f.0 f.1,
              ap (has l) h.carries,
              new,
            ))
          ])

      go : (q : Place) → StandsAt v b q → IsRightFor v b q → (slot y n).id < b
      go (Queued q) h right = queued_before flows r v p x.station x.tid n q b from below
          (carried_held (queue v q).items b h) same_lane
      go (Numbered i j m) h right =
          let a = for_lane flows x.station x.tid (frame v (slot y n).id).note mine in
          let c = for_lane flows i j (frame v b).note right in
          let is_i : i ≡ x.station = sym c.0 ∙ (ap (λ (z : Lane). z.station) (sym same_lane) ∙ a.0) in
          let is_j : j ≡ x.tid = sym c.1 ∙ (ap (λ (z : Lane). z.tid) (sym same_lane) ∙ a.1) in
          compare m (subst (λ (i : ℕ). IsNumbered v b i x.tid m) is_i
          (subst (λ (j : ℕ). IsNumbered v b i j m) is_j h))

-- ---- a call

lane_older : (flows : ℕ) (u v : World) (k : ℕ) → Older u v → k < accepted_count u →
    lane_at flows v k ≡ lane_at flows u k
lane_older flows u v k o low = ap (lane_of flows) (o.notes k low)

held_before : (w v : World) (b : ℕ) → IsHeld w b ⊎ ((frame v b).fate ≡ (frame w b).fate) → IsHeld v b →
    IsHeld w b
held_before w v b r h = elim r [ inl held ↦ held | inr same ↦ sym same ∙ h ]

in_turn_step : (flows : ℕ) (q r l : List ℕ) (w : World) (note : Note) → Steady q w →
    InLine flows r (step w note).world → KeepsPlaces (step w note).world
    → ((s t n e : ℕ) → (slot (session (step w note).world s t) n).state ≡ State.Flying e →
    has (l ++ not_among l (ids_sent_by (step w note).reply))
    (slot (session (step w note).world s t) n).id ≡ true)
    → InTurn flows l w → InTurn flows (l ++ not_among l (ids_sent_by (step w note).reply)) (step w note).world
in_turn_step flows q r l w note y p k flying f = elim (first_step w note y.lawful) [
  | inl none ↦ all (λ a e. absurd
      (let some : 1 ≤ tries_by a (step w note).reply = some_tries (step w note).reply a (sent a e) in
      omega (arith, some, none.tries a))) (lined_none none.tries)
  | inr x ↦ all_first x
]
  where
    v : World
    v = (step w note).world

    ids : List ℕ
    ids = ids_sent_by (step w note).reply

    new : List ℕ
    new = not_among l ids

    o : Older w v
    o = older_step w note y.lawful

    y' : Steady (q ++ named_by (step w note).reply) v
    y' = steady_step q w note y

    sent : (a : ℕ) → has new a ≡ true → has ids a ≡ true
    sent a e = (filter_has (λ id. not (has l id)) ids a e).0

    unsent : (a : ℕ) → has new a ≡ true → has l a ≡ false
    unsent a e = not-true (has l a) (filter_has (λ id. not (has l id)) ids a e).1

    New : Type 0
    New = (a : ℕ) → has new a ≡ true → (a < accepted_count v) × IsHeld v a ×
        ((b : ℕ) → has (l ++ new) b ≡ false → b < accepted_count v → IsHeld v b →
        lane_at flows v a ≡ lane_at flows v b → a < b)

    -- A frame that was sent before is before each other held frame of its lane.
    was_sent : (a b : ℕ) → has l a ≡ true → has l b ≡ false → b < accepted_count v → IsHeld v b →
        lane_at flows v a ≡ lane_at flows v b → a < b
    was_sent a b e n low held same = on_bool (nat_lt b (accepted_count w))
        (λ yes.
        let low' : b < accepted_count w = lt_yes b (accepted_count w) yes in
        f.turn a b e n low' (held_before w v b ((remains_step q w note y).remains b) held)
        (sym (lane_older flows w v a o (f.old a e)) ∙ (same ∙ lane_older flows w v b o low')))
        (λ no. omega (arith, f.old a e, lt_no b (accepted_count w) no))

    apart : (b : ℕ) → has (l ++ new) b ≡ false → has l b ≡ false
    apart b n = on_bool (has l b) (λ d. absurd (cc (has_first l new b d, n))) (λ d. d)

    all : New → AreLined (lane_at flows v) new → InTurn flows (l ++ new) v
    all h lined = record {
      old = λ a e. elim (has_either l new a e) [
        | inl d ↦ omega (arith, f.old a d, o.accepted)
        | inr d ↦ (h a d).0
      ];
      turn = λ a b e n low held same. elim (has_either l new a e) [
        | inl d ↦ was_sent a b d (apart b n) low held same
        | inr d ↦ (h a d).2 b n low held same
      ];
      lined = lined_append (lane_at flows v) l new (lined_same (lane_at flows w) (lane_at flows v) l
          (λ a e. lane_older flows w v a o (f.old a e)) f.lined) lined
          (λ a b e d same. was_sent a b e (unsent b d) (h b d).0 (h b d).1 same);
    }

    lined_none : ((a : ℕ) → tries_by a (step w note).reply ≡ 0) → AreLined (lane_at flows v) new
    lined_none none = lined_nothing (lane_at flows v) new (λ a e.
        let some : 1 ≤ tries_by a (step w note).reply = some_tries (step w note).reply a (sent a e) in
        omega (arith, some, none a))

    new_frame : (z : Exchange) → IsOpenIn v z → IsAbove z.content (session v z.station z.tid) → (a : ℕ) →
        IsSentAt (session v z.station z.tid) (mpdus_of z.content) a →
        (a < accepted_count v) × IsHeld v a ×
        ((b : ℕ) → has (l ++ new) b ≡ false → b < accepted_count v → IsHeld v b →
        lane_at flows v a ≡ lane_at flows v b → a < b)
    new_frame z i above a c =
        let s : Session = session v z.station z.tid in
        let ms : List Mpdu = mpdus_of z.content in
        let place : IsNumbered v a z.station z.tid c.number = record {
          from = among_least ms s.first (next_number s) c.number i.opened.flies.rising c.is_among;
          below = among_below ms (next_number s) c.number
              (all_below ms s.first (next_number s) i.opened.flies.rising) c.is_among;
          carries = c.carries_it;
          unsettled = ap is_settled
              (all_in_among ms s (State.Flying z.number) c.number i.opened.flies.flying c.is_among);
        } in
        let held = k.only_held a (Numbered z.station z.tid c.number) place in (
          held.0,
          held.1,
          (λ b n low h same. subst (λ (j : ℕ). j < b) c.carries_it
              (turn_sent flows r (l ++ new) v p k flying z i above c.number b c.is_among n low h
              (ap (lane_at flows v) c.carries_it ∙ same))),
        )

    all_first : OpensFirst (step w note) → InTurn flows (l ++ new) v
    all_first x =
        let z : Exchange = x.opens.exchange in
        let ms : List Mpdu = mpdus_of z.content in
        let open_in : IsOpenIn v z = at_some (IsOpenIn v) v.opened z y'.lawful.opened x.opens.among in
        let labels : Labelled (session v z.station z.tid) ms =
        at_some (λ u. Labelled (session v u.station u.tid) (mpdus_of u.content)) v.opened z
        y'.labelled.labels x.opens.among in
        let named : ids ≡ ids_in ms = ap ids_sent_by x.opens.reply
        ∙ sent_ids z.batch z.plain z.content z.number z.station z.tid z.charge z.more z.eosp in
        all (λ a e.
        let c : IsSentAt (session v z.station z.tid) ms a =
        sent_at ms (session v z.station z.tid) a labels
        (ap (λ (xs : List ℕ). has xs a) (sym named) ∙ sent a e)
        in new_frame z open_in x.above a c)
        (lined_filter (lane_at flows v) (λ id. not (has l id)) ids
        (subst (AreLined (lane_at flows v)) (sym named) (lined_ids ms flows r v p z.station z.tid
        (session v z.station z.tid).first (omega arith) open_in.opened.flies.rising labels)))

-- ---- the run

sent_more : (h : List Entry) (w : World) (l : List ℕ) (e : Entry) →
    sent_from w l (h ++ e ∷ []) ≡ sent_from w l h
    ++ not_among (sent_from w l h) (ids_sent_by (step (world_after w h) e.1).reply)
unfolding sent_from world_after
sent_more [] w l e = refl
sent_more (x ∷ h) w l e = sent_more h (step w x.1).world _ e

module _ (config : Config) (range : IsInRange config) (keeps : config.keep_order ≡ 1) where
  line_at : (h : List Entry) → InLine config.flows (named_from (opening config) [] h)
      (world_after (opening config) h)
  unfolding named_from world_after
  line_at h = in_line config range keeps h [] (line_first config.flows config)

  places_at : (h : List Entry) → KeepsPlaces (world_after (opening config) h)
  places_at h = subst (λ (k : List Entry). KeepsPlaces (world_after (opening config) k)) (take-length h)
      (place_law config h range (length h))

  flying_at : (h : List Entry) (s t n e : ℕ) →
      (slot (session (world_after (opening config) h) s t) n).state ≡ State.Flying e →
      has (sent_from (opening config) [] h) (slot (session (world_after (opening config) h) s t) n).id ≡ true
  flying_at h s t n e f =
      let y : Session = session (world_after (opening config) h) s t in
      let l : List ℕ = sent_from (opening config) [] h in
      let c : tries (opening config) (slot y n).id h ≡ (slot y n).attempts + 1
      + times_unsent (opening config) (slot y n).id h =
      ((counts config h).slots s t (n - y.first)).flies e f in
      on_bool (has l (slot y n).id) (λ d. d)
      (λ none. absurd (omega (arith, c, never_sent h (opening config) [] (slot y n).id none)))

  in_turn : (es h : List Entry) → InTurn config.flows (sent_from (opening config) [] h)
      (world_after (opening config) h) → InTurn config.flows (sent_from (opening config) [] (h ++ es))
      (world_after (opening config) (h ++ es))
  in_turn [] h f = subst (λ (k : List Entry).
      InTurn config.flows (sent_from (opening config) [] k) (world_after (opening config) k))
      (sym (append-nil h)) f
  in_turn (e ∷ es) h f =
      let w : World = world_after (opening config) h in
      let l : List ℕ = sent_from (opening config) [] h in
      let h' : List Entry = h ++ e ∷ [] in
      let is_v : world_after (opening config) h' ≡ (step w e.1).world = world_more h (opening config) e in
      let is_l : sent_from (opening config) [] h' ≡ l ++ not_among l (ids_sent_by (step w e.1).reply) =
      sent_more h (opening config) [] e in
      let next : InTurn config.flows (l ++ not_among l (ids_sent_by (step w e.1).reply)) (step w e.1).world =
      in_turn_step config.flows (named_from (opening config) [] h) (named_from (opening config) [] h') l w e.1
      (steady_run h [] (opening config) (steady_first config))
      (subst (InLine config.flows (named_from (opening config) [] h')) is_v (line_at h'))
      (subst KeepsPlaces is_v (places_at h'))
      (λ s t n c. subst (λ (u : World). (slot (session u s t) n).state ≡ State.Flying c →
      has (l ++ not_among l (ids_sent_by (step w e.1).reply)) (slot (session u s t) n).id ≡ true) is_v
      (subst (λ (k : List ℕ).
      (slot (session (world_after (opening config) h') s t) n).state ≡ State.Flying c →
      has k (slot (session (world_after (opening config) h') s t) n).id ≡ true) is_l
      (flying_at h' s t n c))) f
      in
      let more : InTurn config.flows (sent_from (opening config) [] h') (world_after (opening config) h') =
      subst (λ (k : List ℕ). InTurn config.flows k (world_after (opening config) h')) (sym is_l)
      (subst (InTurn config.flows (l ++ not_among l (ids_sent_by (step w e.1).reply))) (sym is_v) next) in
      subst (λ (k : List Entry).
      InTurn config.flows (sent_from (opening config) [] k) (world_after (opening config) k))
      (append_assoc h (e ∷ []) es) (in_turn es h' more)

turn_first : (flows : ℕ) (config : Config) → InTurn flows [] (opening config)
turn_first flows config = record {
  old = λ k e. absurd (cc e);
  turn = λ a b e. absurd (cc e);
  lined = tt;
}

pub flow_send_law : (config : Config) (h : List Entry) → IsInRange config → FlowSendLaw config h
unfolding sent_from world_after
flow_send_law config h range keeps s t flow =
    let w : World = world_after (opening config) h in
    let f : InTurn config.flows (sent_from (opening config) [] h) w =
    in_turn config range keeps h [] (turn_first config.flows config) in
    flow_rises config.flows (lane_at config.flows w) w s t flow (sent_from (opening config) [] h) 0
    (λ k e. refl) f.lined (λ k e is. omega arith)
