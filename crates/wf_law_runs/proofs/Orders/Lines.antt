-- Defines an invariant of the released ids and a world: the frames of one TID and one flow queue are in
-- line. All that are queued are in one queue, and they are released before the numbered ones that are not
-- released, which come before the queued ones. Proves that each elementary change but the enqueue keeps
-- it.
use Rattle.std.proofs.Common.{◌≡◌, refl, ap, sym, ◌∙◌, subst, arith, ℕ, suc, ◌%◌, ◌<◌, ◌≤◌, nat_lt, nat_le, true, ◌&&◌, ◌==◌, ◌⊎◌, inl, inr, List, [], ◌∷◌, ◌++◌, Option, Bool}
use Rattle.wf_def_lists.specs.Table.{has}
use Rattle.wf_def_codel.specs.Codel.{Item}
use Rattle.wf_def_agreement.specs.Session.{Session, Slot, slot, next_number, with_number_given}
use Rattle.wf_def_agreement.specs.Receiver.{Receiver, release_start, released_between}
use Rattle.wf_frame.specs.declared.notes.Note.{Note}
use Rattle.wf_frame.specs.declared.notes.Note.TheVariants.{Enqueue, Asked}
use Rattle.wf_def_world.specs.World.{World, Station, Tid, session, receiver, frame, queue, accepted_count, on_session, on_tid, with_station, is_agreed}
use Rattle.wf_def_world.specs.Exchanges.{ids_of}
use Rattle.wf_law_rules.proofs.Lemmas.Numbers.{Climbs, climbs_at, on_bool, lt_yes, lt_no, le_yes, eq_yes, eq_no, yes_eq, either, both, and_true, or_left, or_right}
use Rattle.wf_law_rules.proofs.Lemmas.Joined.{has_append}
use Rattle.wf_law_runs.proofs.Sessions.Flights.{next-give}
use Rattle.wf_law_runs.proofs.Windows.Sides.{Side, side, sides_of, Same, each_side_on}
use Rattle.wf_law_runs.proofs.Windows.Agreement.{slot_give}
use Rattle.wf_law_runs.proofs.Frames.Fewer.{carries, Less, then_less, less_on_tid, IsTaken}
use Rattle.wf_law_runs.proofs.Frames.Owners.{IsOwned}
use Rattle.wf_law_runs.specs.Queues.{IsFor}
use Rattle.wf_law_runs.proofs.Releases.Kept.{KeptSession}
use Rattle.wf_law_runs.proofs.Releases.Released.{side_with_station, side_own_station}
use Rattle.wf_law_runs.proofs.Releases.Placed.{Placing, Any, Grows, IsBare, IsIdOf, has_ids, filter_has, climbs_filter, placed_less, placed_session, placed_give, passes_more, placed_station, less_with_station, slot_new_id, passes_silent}

-- The lane of a frame: its station and TID, and the flow queue of its flow.
pub record Lane : Type 0 where
  pub station : ℕ
  pub tid : ℕ
  pub queue : ℕ

-- The lane of the frame that a call brings, for this number of flow queues.
abbrev pub lane_of : ℕ → Note → Lane
lane_of flows (Enqueue s t flow len) = record { station = s; tid = t; queue = flow % flows }
lane_of flows (Asked ask) = record { station = 0; tid = 0; queue = 0 }

-- If both frames are of one lane, a was accepted before b.
abbrev pub Before : (ℕ → Lane) → ℕ → ℕ → Type 0
Before lane a b = lane a ≡ lane b → a < b

-- The lane of an accepted frame equals the lane of its call.
abbrev pub Agrees : ℕ → (ℕ → Lane) → World → ℕ → Type 0
Agrees flows lane w k = lane k ≡ lane_of flows (frame w k).note

-- The ids of each lane increase.
abbrev pub AreLined : (ℕ → Lane) → List ℕ → Type 0
AreLined lane [] = Unit {0}
AreLined lane (k ∷ ks) = ((j : ℕ) → has ks j ≡ true → Before lane k j) × AreLined lane ks

-- The numbers of one TID are in line, and come before the queued frames and after the released ones.
pub record Lines (flows : ℕ) (lane : ℕ → Lane) (l : List ℕ) (w : World) (a : Side) : Type 0 where
  pub known : (n : ℕ) → a.session.first ≤ n → n < next_number a.session →
      Agrees flows lane w (slot a.session n).id
  pub rising : (n m : ℕ) → a.session.first ≤ n → n < m → m < next_number a.session →
      Before lane (slot a.session n).id (slot a.session m).id
  pub queued : (n q k : ℕ) → a.session.first ≤ n → n < next_number a.session →
      carries (queue w q).items k ≡ true → Before lane (slot a.session n).id k
  pub passed : (n k : ℕ) → a.session.first ≤ n → n < next_number a.session → release_start a.receiver ≤ n →
      has l k ≡ true → Before lane k (slot a.session n).id

-- l are the ids that were released so far.
pub record InLine (flows : ℕ) (l : List ℕ) (w : World) : Type 0 where
  pub placing : Placing l w
  pub lane : ℕ → Lane
  -- All queued frames of a lane are in one queue. A flow queue has the frames of its flows.
  pub one : (q r a b : ℕ) → carries (queue w q).items a ≡ true → carries (queue w r).items b ≡ true →
      lane a ≡ lane b → q ≡ r
  pub home : (q a : ℕ) → q < flows → carries (queue w q).items a ≡ true → (lane a).queue ≡ q
  pub known : (q a : ℕ) → carries (queue w q).items a ≡ true → Agrees flows lane w a
  pub sides : (s t : ℕ) → Lines flows lane l w (side w s t)
  pub released : (k q j : ℕ) → has l k ≡ true → carries (queue w q).items j ≡ true → Before lane k j
  pub listed : (k : ℕ) → has l k ≡ true → Agrees flows lane w k
  pub lined : AreLined lane l

-- ---- frames leave the queues

agrees_less : (flows : ℕ) (lane : ℕ → Lane) (w v : World) (k : ℕ) → Less Any w v → k < accepted_count w →
    Agrees flows lane w k → Agrees flows lane v k
agrees_less flows lane w v k h low e = e ∙ ap (lane_of flows) (sym (h.notes k low))

pub lines_less : (flows : ℕ) (lane : ℕ → Lane) (l : List ℕ) (w v : World) (p : Placing l w) (s t : ℕ) →
    Less Any w v → Lines flows lane l w (side w s t) → Lines flows lane l v (side w s t)
lines_less flows lane l w v p s t h i = record {
  known = λ n from below. agrees_less flows lane w v _ h (p.numbered s t n from below).old
      (i.known n from below);
  rising = i.rising;
  queued = λ n q k from below c. i.queued n q k from below ((h.queues q).has k c);
  passed = i.passed;
}

pub line_less : (flows : ℕ) (l : List ℕ) (w v : World) → Less Any w v →
    ((s t : ℕ) → side v s t ≡ side w s t) → InLine flows l w → InLine flows l v
line_less flows l w v h d p = record {
  placing = placed_less l w v h d p.placing;
  lane = p.lane;
  one = λ q r a b c e. p.one q r a b ((h.queues q).has a c) ((h.queues r).has b e);
  home = λ q a low c. p.home q a low ((h.queues q).has a c);
  known = λ q a c. agrees_less flows p.lane w v a h (p.placing.queued q a ((h.queues q).has a c)).old
      (p.known q a ((h.queues q).has a c));
  sides = λ s t. subst (Lines flows p.lane l v) (sym (d s t))
      (lines_less flows p.lane l w v p.placing s t h (p.sides s t));
  released = λ k q j e c. p.released k q j e ((h.queues q).has j c);
  listed = λ k e. agrees_less flows p.lane w v k h (p.placing.old k e) (p.listed k e);
  lined = p.lined;
}

-- ---- a session changes, and its numbers keep their ids

before_first : (lane : ℕ → Lane) (a b c : ℕ) → a ≡ b → Before lane b c → Before lane a c
before_first lane a b c e h = subst (λ (n : ℕ). Before lane n c) (sym e) h

before_second : (lane : ℕ → Lane) (a b c : ℕ) → b ≡ c → Before lane a c → Before lane a b
before_second lane a b c e h = subst (λ (n : ℕ). Before lane a n) (sym e) h

lines_session : (flows : ℕ) (lane : ℕ → Lane) (l : List ℕ) (w : World) (a : Side) (y : Session) →
    KeptSession a.session y → next_number y ≡ next_number a.session → Lines flows lane l w a →
    Lines flows lane l w (record a { session = y })
lines_session flows lane l w a y k e i = record {
  known = λ n from below. subst (Agrees flows lane w) (sym (same n from below))
      (i.known n (low n from) (high n below));
  rising = λ n m from less below. before_first lane _ _ _ (same n from (omega (arith, less, below)))
      (before_second lane _ _ _ (same m (omega (arith, from, less)) below)
      (i.rising n m (low n from) less (high m below)));
  queued = λ n q j from below c. before_first lane _ _ j (same n from below)
      (i.queued n q j (low n from) (high n below) c);
  passed = λ n j from below start c. before_second lane j _ _ (same n from below)
      (i.passed n j (low n from) (high n below) start c);
}
  where
    low : (n : ℕ) → y.first ≤ n → a.session.first ≤ n
    low n from = omega (arith, from, k.first)

    high : (n : ℕ) → n < next_number y → n < next_number a.session
    high n below = omega (arith, below, e)

    same : (n : ℕ) → y.first ≤ n → n < next_number y → (slot y n).id ≡ (slot a.session n).id
    same n from below = k.ids n (low n from) (high n below)

pub line_session : (flows : ℕ) (l : List ℕ) (w : World) (s t : ℕ) (f : Session → Session) →
    KeptSession (session w s t) (f (session w s t)) →
    next_number (f (session w s t)) ≡ next_number (session w s t) → InLine flows l w →
    InLine flows l (on_session w s t f)
unfolding on_session
line_session flows l w s t f k e p =
    let g : Tid → Tid = λ y. record y { session = f y.session } in
    let v : World = on_tid w s t g in
    let h : Less Any w v = less_on_tid Any w s t g in
    record {
      placing = placed_session l w s t f k e p.placing;
      lane = p.lane;
      one = λ q r a b c e. p.one q r a b ((h.queues q).has a c) ((h.queues r).has b e);
      home = λ q a low c. p.home q a low ((h.queues q).has a c);
      known = λ q a c. agrees_less flows p.lane w v a h (p.placing.queued q a ((h.queues q).has a c)).old
          (p.known q a ((h.queues q).has a c));
      sides = each_side_on (λ i j a. Lines flows p.lane l v a) w s t g
          (λ i j. lines_less flows p.lane l w v p.placing i j h (p.sides i j))
          (lines_session flows p.lane l v (side w s t) (f (session w s t)) k e
          (lines_less flows p.lane l w v p.placing s t h (p.sides s t)));
      released = λ k q j e c. p.released k q j e ((h.queues q).has j c);
      listed = λ k e. agrees_less flows p.lane w v k h (p.placing.old k e) (p.listed k e);
      lined = p.lined;
    }

-- ---- a number is given to a frame

-- The next number gets the frame `id`, which comes after the numbered and the released frames of its lane and
-- before the queued ones.
lines_given : (flows : ℕ) (lane : ℕ → Lane) (l : List ℕ) (w : World) (a : Side) (id : ℕ) →
    Agrees flows lane w id →
    ((n : ℕ) → a.session.first ≤ n → n < next_number a.session → Before lane (slot a.session n).id id) →
    ((q k : ℕ) → carries (queue w q).items k ≡ true → Before lane id k) →
    ((k : ℕ) → has l k ≡ true → Before lane k id) → Lines flows lane l w a →
    Lines flows lane l w (record a { session = with_number_given a.session id })
lines_given flows lane l w a id agrees numbered queued passed i = record {
  known = λ n from below. split n from below (Agrees flows lane w) (λ low. i.known n from low) agrees;
  rising = λ n m from less below.
      let low : n < next_number a.session = omega (arith, less, below, next-give a.session id) in
      before_first lane _ _ _ (old n from low) (split m (omega (arith, from, less)) below
      (Before lane (slot a.session n).id) (λ high. i.rising n m from less high) (numbered n from low));
  queued = λ n q k from below c. split n from below (λ (x : ℕ). Before lane x k)
      (λ low. i.queued n q k from low c) (queued q k c);
  passed = λ n k from below start c. split n from below (Before lane k)
      (λ low. i.passed n k from low start c) (passed k c);
}
  where
    old : (n : ℕ) → a.session.first ≤ n → n < next_number a.session → (slot (with_number_given a.session
        id) n).id ≡ (slot a.session n).id
    old n from low = ap (λ (x : Slot). x.id) (slot_give a.session id n from low)

    split : (n : ℕ) → a.session.first ≤ n → n < next_number (with_number_given a.session id) → (P : ℕ →
        Type 0) →
        (n < next_number a.session → P (slot a.session n).id) → P id → P (slot (with_number_given
        a.session id) n).id
    split n from below P here last = on_bool (nat_lt n (next_number a.session))
        (λ b. let low : n < next_number a.session = lt_yes n (next_number a.session) b in
        subst P (sym (ap (λ (x : Slot). x.id) (slot_give a.session id n from low))) (here low))
        (λ b. let end : n ≡ next_number a.session =
        omega (arith, next-give a.session id, below, lt_no n (next_number a.session) b) in
        subst P (sym (slot_new_id a.session id n end)) last)

pub line_give : (flows : ℕ) (l : List ℕ) (u v : World) (s t : ℕ) (x : Item) → Same u v → Less Any u v →
    IsTaken u v x → InLine flows l u → InLine flows l (on_session v s t (λ y. with_number_given y x.id))
unfolding on_session
line_give flows l u v s t x k h taken p =
    let g : Tid → Tid = λ z. record z { session = with_number_given z.session x.id } in
    let w : World = on_tid v s t g in
    let on : Less Any v w = less_on_tid Any v s t g in
    let m : Less Any u w = then_less Any u v w h on in
    let same : (i j : ℕ) → Lines flows p.lane l w (side v i j) = λ i j.
    subst (Lines flows p.lane l w) (sym (k.sides i j))
    (lines_less flows p.lane l u w p.placing i j m (p.sides i j)) in
    record {
      placing = placed_give l u v s t x k h taken p.placing;
      lane = p.lane;
      one = λ q r a b c e. p.one q r a b ((m.queues q).has a c) ((m.queues r).has b e);
      home = λ q a low c. p.home q a low ((m.queues q).has a c);
      known = λ q a c. agrees_less flows p.lane u w a m (p.placing.queued q a ((m.queues q).has a c)).old
          (p.known q a ((m.queues q).has a c));
      sides = each_side_on (λ i j a. Lines flows p.lane l w a) v s t g same
          (lines_given flows p.lane l w (side v s t) x.id
          (agrees_less flows p.lane u w x.id m (p.placing.queued taken.place x.id taken.there).old
          (p.known taken.place x.id taken.there))
          (λ n. subst (λ (a : Side). a.session.first ≤ n → n < next_number a.session →
          Before p.lane (slot a.session n).id x.id) (sym (k.sides s t))
          (λ from below. (p.sides s t).queued n taken.place x.id from below taken.there))
          (λ q j c e.
          let here : q ≡ taken.place = p.one q taken.place j x.id ((m.queues q).has j c) taken.there (sym
          e) in
          taken.later p.placing.ordered j
          (subst (λ (r : ℕ). carries (queue v r).items j ≡ true) here ((on.queues q).has j c)))
          (λ j c. p.released j taken.place x.id c taken.there)
          (same s t));
      released = λ k q j e c. p.released k q j e ((m.queues q).has j c);
      listed = λ k e. agrees_less flows p.lane u w k m (p.placing.old k e) (p.listed k e);
      lined = p.lined;
    }

-- ---- a station joins or leaves

pub line_station : (flows : ℕ) (l : List ℕ) (w : World) (i : ℕ) (o : Option Station) →
    ((t : ℕ) → IsBare (sides_of o t)) → InLine flows l w → InLine flows l (with_station w i o)
line_station flows l w i o bare p =
    let v : World = with_station w i o in
    let h : Less Any w v = less_with_station w i o in
    record {
      placing = placed_station l w i o bare p.placing;
      lane = p.lane;
      one = λ q r a b c e. p.one q r a b ((h.queues q).has a c) ((h.queues r).has b e);
      home = λ q a low c. p.home q a low ((h.queues q).has a c);
      known = λ q a c. agrees_less flows p.lane w v a h (p.placing.queued q a ((h.queues q).has a c)).old
          (p.known q a ((h.queues q).has a c));
      sides = λ s t. on_bool (i == s)
          (λ own. subst (λ (a : ℕ). Lines flows p.lane l v (side v a t)) (eq_yes i s own)
          (subst (Lines flows p.lane l v) (sym (side_own_station w i t o)) (no_lines (sides_of o t) (bare
          t))))
          (λ other. subst (Lines flows p.lane l v) (sym (side_with_station w i s t o (eq_no i s other)))
          (lines_less flows p.lane l w v p.placing s t h (p.sides s t)));
      released = λ k q j e c. p.released k q j e ((h.queues q).has j c);
      listed = λ k e. agrees_less flows p.lane w v k h (p.placing.old k e) (p.listed k e);
      lined = p.lined;
    }
  where
    no_lines : (a : Side) → IsBare a → Lines flows p.lane l (with_station w i o) a
    no_lines a none = record {
      known = λ n from below. absurd (omega (arith, from, below, none));
      rising = λ n m from less below. absurd (omega (arith, from, less, below, none));
      queued = λ n q k from below c. absurd (omega (arith, from, below, none));
      passed = λ n k from below start c. absurd (omega (arith, from, below, none));
    }

-- ---- numbers are released

lined_append : (lane : ℕ → Lane) (xs ys : List ℕ) → AreLined lane xs → AreLined lane ys →
    ((k j : ℕ) → has xs k ≡ true → has ys j ≡ true → Before lane k j) → AreLined lane (xs ++ ys)
lined_append lane [] ys a b h = b
lined_append lane (x ∷ xs) ys a b h = (
  λ j e. elim (either (has xs j) (has ys j) (sym (has_append xs ys j) ∙ e)) [
    | inl d ↦ a.0 j d
    | inr d ↦ h x j (or_left (x == x) (has xs x) (yes_eq x x refl)) d
  ],
  lined_append lane xs ys a.1 b (λ k j d e. h k j (or_right (x == k) (has xs k) d) e),
)

lined_ids : (lane : ℕ → Lane) (y : Session) (ns : List ℕ) (lo : ℕ) → Climbs lo ns →
    ((n m : ℕ) → has ns n ≡ true → has ns m ≡ true → n < m → Before lane (slot y n).id (slot y m).id) →
    AreLined lane (ids_of y ns)
lined_ids lane y [] lo c h = tt
lined_ids lane y (n ∷ ns) lo c h = (
  λ j e.
      let i : IsIdOf y ns j = has_ids ns y j e in
      before_second lane (slot y n).id j (slot y i.number).id (sym i.id)
      (h n i.number (or_left (n == n) (has ns n) (yes_eq n n refl)) (or_right (n == i.number) (has ns
      i.number) i.among)
      (omega (arith, climbs_at ns (suc n) i.number c.1 i.among))),
  lined_ids lane y ns (suc n) c.1 (λ m k d e. h m k (or_right (n == m) (has ns m) d)
      (or_right (n == k) (has ns k) e)),
)

-- Two numbers whose frames are of one lane are of one TID.
same_tid : (flows : ℕ) (lane : ℕ → Lane) (w : World) (o : IsOwned w) (s t i j n m : ℕ) →
    (session w s t).first ≤ n → n < next_number (session w s t) →
    (session w i j).first ≤ m → m < next_number (session w i j) →
    Agrees flows lane w (slot (session w s t) n).id → Agrees flows lane w (slot (session w i j) m).id →
    lane (slot (session w s t) n).id ≡ lane (slot (session w i j) m).id → (i ≡ s) × (j ≡ t)
same_tid flows lane w o s t i j n m from below from' below' here there e =
    let a : IsFor s t (frame w (slot (session w s t) n).id).note =
    (o.mine s t (slot (session w s t) n).id n (record { from = from; below = below; id = refl })).0 in
    let b : IsFor i j (frame w (slot (session w i j) m).id).note =
    (o.mine i j (slot (session w i j) m).id m (record { from = from'; below = below'; id = refl })).0 in
    let x = of_note (frame w (slot (session w s t) n).id).note s t a in
    let y = of_note (frame w (slot (session w i j) m).id).note i j b in
    let both : lane_of flows (frame w (slot (session w s t) n).id).note
    ≡ lane_of flows (frame w (slot (session w i j) m).id).note = sym here ∙ e ∙ there in (
      sym y.0 ∙ ap (λ (z : Lane). z.station) (sym both) ∙ x.0,
      sym y.1 ∙ ap (λ (z : Lane). z.tid) (sym both) ∙ x.1,
    )
  where
    of_note : (note : Note) (a b : ℕ) → IsFor a b note → ((lane_of flows note).station ≡ a) ×
        ((lane_of flows note).tid ≡ b)
    of_note (Enqueue c d flow len) a b h = h
    of_note (Asked ask) a b h = absurd h

-- The receiver becomes q, and no id is released.
pub line_silent : (flows : ℕ) (l : List ℕ) (w v : World) (s t : ℕ) (q : Receiver) (b : Bool) → Less Any w v →
    ((i j : ℕ) → (i ≡ s → j ≡ t → ⊥) → side v i j ≡ side w i j) →
    side v s t ≡ record { session = session w s t; receiver = q; agreed = b } →
    Grows (session w s t) (receiver w s t) q → InLine flows l w → InLine flows l v
line_silent flows l w v s t q agreed h apart own g p = record {
  placing = passes_silent l w v s t q agreed h apart own g p.placing;
  lane = p.lane;
  one = λ q r a b c e. p.one q r a b ((h.queues q).has a c) ((h.queues r).has b e);
  home = λ q a low c. p.home q a low ((h.queues q).has a c);
  known = λ q a c. agrees_less flows p.lane w v a h (p.placing.queued q a ((h.queues q).has a c)).old
      (p.known q a ((h.queues q).has a c));
  sides = λ i j. on_bool ((i == s) && (j == t))
      (λ yes.
      let b = both (i == s) (j == t) yes in
      let es : s ≡ i = sym (eq_yes i s b.0) in
      let et : t ≡ j = sym (eq_yes j t b.1) in
      subst (λ (a : ℕ). Lines flows p.lane l v (side v a j)) es
      (subst (λ (c : ℕ). Lines flows p.lane l v (side v s c)) et
      (subst (Lines flows p.lane l v) (sym own) here)))
      (λ no. subst (Lines flows p.lane l v) (sym (apart i j (λ es et. cc
      (no, and_true (i == s) (j == t) (yes_eq i s es) (yes_eq j t et)))))
      (lines_less flows p.lane l w v p.placing i j h (p.sides i j)));
  released = λ k q j e c. p.released k q j e ((h.queues q).has j c);
  listed = λ k e. agrees_less flows p.lane w v k h (p.placing.old k e) (p.listed k e);
  lined = p.lined;
}
  where
    here : Lines flows p.lane l v (record { session = session w s t; receiver = q; agreed = agreed })
    here =
        let i : Lines flows p.lane l v (side w s t) =
        lines_less flows p.lane l w v p.placing s t h (p.sides s t)
        in
        record {
          known = i.known;
          rising = i.rising;
          queued = i.queued;
          passed = λ n k from below start e. i.passed n k from below (omega (arith, start, g.rises)) e;
        }

pub line_release : (flows : ℕ) (l : List ℕ) (w v : World) (s t : ℕ) (q : Receiver) (b : Bool) → IsOwned w →
    Less Any w v →
    ((i j : ℕ) → (i ≡ s → j ≡ t → ⊥) → side v i j ≡ side w i j) →
    side v s t ≡ record { session = session w s t; receiver = q; agreed = b } →
    Grows (session w s t) (receiver w s t) q → InLine flows l w →
    InLine flows (l ++ ids_of (session w s t) (released_between (receiver w s t) q)) v
line_release flows l w v s t q agreed owned h apart own g p =
    let y : Session = session w s t in
    let r : Receiver = receiver w s t in
    let ns : List ℕ = released_between r q in
    let among : (n : ℕ) → has ns n ≡ true → (y.first ≤ n) × (n < next_number y) × (release_start r ≤ n) ×
    (n < release_start q) = λ n e.
    let f = filter_has (λ n. nat_le (release_start r) n && nat_lt n (release_start q)) q.arrived n e in
    let b = both (nat_le (release_start r) n) (nat_lt n (release_start q)) f.1 in
    let k = g.within n f.0 in
    (k.0, k.1, le_yes _ _ b.0, lt_yes _ _ b.1)
    in
    let here : Lines flows p.lane l w (side w s t) = p.sides s t in
    let was : (k : ℕ) → has (l ++ ids_of y ns) k ≡ true → (has l k ≡ true) ⊎ IsIdOf y ns k = λ k e.
    elim (either (has l k) (has (ids_of y ns) k) (sym (has_append l (ids_of y ns) k) ∙ e)) [
      | inl old ↦ inl old
      | inr new ↦ inr (has_ids ns y k new)
    ] in
    let at_tid : (receiver' : Receiver) (z : Bool) (a b : ℕ) → ((n k : ℕ) → (session w a b).first ≤ n →
    n < next_number (session w a b) → release_start receiver' ≤ n → has (l ++ ids_of y ns) k ≡ true →
    Before p.lane k (slot (session w a b) n).id) → Lines flows p.lane (l ++ ids_of y ns) v
    (record { session = session w a b; receiver = receiver'; agreed = z }) = λ receiver' z a b after.
    let i : Lines flows p.lane l v (side w a b) = lines_less flows p.lane l w v p.placing a b h (p.sides
    a b) in
    record { known = i.known; rising = i.rising; queued = i.queued; passed = after } in
    record {
      placing = passes_more l w v s t q agreed h apart own g p.placing;
      lane = p.lane;
      one = λ q r a b c e. p.one q r a b ((h.queues q).has a c) ((h.queues r).has b e);
      home = λ q a low c. p.home q a low ((h.queues q).has a c);
      known = λ q a c. agrees_less flows p.lane w v a h (p.placing.queued q a ((h.queues q).has a c)).old
          (p.known q a ((h.queues q).has a c));
      sides = λ i j. on_bool ((i == s) && (j == t))
          (λ yes.
          let b = both (i == s) (j == t) yes in
          let es : s ≡ i = sym (eq_yes i s b.0) in
          let et : t ≡ j = sym (eq_yes j t b.1) in
          subst (λ (a : ℕ). Lines flows p.lane (l ++ ids_of y ns) v (side v a j)) es
          (subst (λ (c : ℕ). Lines flows p.lane (l ++ ids_of y ns) v (side v s c)) et
          (subst (Lines flows p.lane (l ++ ids_of y ns) v) (sym own)
          (at_tid q agreed s t (λ n k from below start e. elim (was k e) [
            | inl old ↦ here.passed n k from below (omega (arith, start, g.rises)) old
            | inr new ↦ before_first p.lane k (slot y new.number).id (slot y n).id (sym new.id)
                (here.rising new.number n (among new.number new.among).0
                (omega (arith, start, (among new.number new.among).3)) below)
          ])))))
          (λ no.
          let not_here : i ≡ s → j ≡ t → ⊥ = λ es et. cc
          (no, and_true (i == s) (j == t) (yes_eq i s es) (yes_eq j t et)) in
          subst (Lines flows p.lane (l ++ ids_of y ns) v) (sym (apart i j not_here))
          (at_tid (receiver w i j) (is_agreed w i j) i j (λ n k from below start e. elim (was k e) [
            | inl old ↦ (p.sides i j).passed n k from below start old
            | inr new ↦ (λ lanes.
                let m : ℕ = new.number in
                let one : (i ≡ s) × (j ≡ t) = same_tid flows p.lane w owned s t i j m n
                (among m new.among).0 (among m new.among).1 from below
                (here.known m (among m new.among).0 (among m new.among).1)
                ((p.sides i j).known n from below) (ap p.lane new.id ∙ lanes) in
                absurd (not_here one.0 one.1))
          ])));
      released = λ k q j e c. elim (was k e) [
        | inl old ↦ p.released k q j old ((h.queues q).has j c)
        | inr new ↦ before_first p.lane k (slot y new.number).id j (sym new.id)
            (here.queued new.number q j (among new.number new.among).0 (among new.number new.among).1
            ((h.queues q).has j c))
      ];
      listed = λ k e. elim (was k e) [
        | inl old ↦ agrees_less flows p.lane w v k h (p.placing.old k old) (p.listed k old)
        | inr new ↦
            let m : ℕ = new.number in
            subst (Agrees flows p.lane v) new.id (agrees_less flows p.lane w v (slot y m).id h
            (p.placing.numbered s t m (among m new.among).0 (among m new.among).1).old
            (here.known m (among m new.among).0 (among m new.among).1))
      ];
      lined = lined_append p.lane l (ids_of y ns) p.lined
          (lined_ids p.lane y ns 0 (climbs_filter _ q.arrived 0 g.rising)
          (λ n m a b less. here.rising n m (among n a).0 less (among m b).1))
          (λ k j old e.
          let new : IsIdOf y ns j = has_ids ns y j e in
          before_second p.lane k j (slot y new.number).id (sym new.id)
          (here.passed new.number k (among new.number new.among).0 (among new.number new.among).1
          (among new.number new.among).2 old));
    }
