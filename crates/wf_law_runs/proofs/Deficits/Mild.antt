-- Defines the changes of a world by which no other station becomes ready (mild changes). Proves that each
-- part of a call is one.
use Rattle.std.proofs.Common.{◌≡◌, refl, ap, ap₂, sym, ◌∙◌, subst, arith, ℕ, ◌+◌, ◌*◌, ◌<◌, ◌≤◌, Bool, true, false, if◌then◌else◌, List, [], ◌∷◌, Option, Some, None, is_some, unwrap_or, option_map, not, ◌&&◌, ◌||◌, length, nat_lt, ◌==◌, inl, inr, ◌⊎◌, sum_by}
use Rattle.std.proofs.lemmas.Bool.{and_parts, ltb-true, lt-ltb}
use Rattle.std.proofs.lemmas.List.Sums.{sum_by-cons}
use Rattle.wf_frame.specs.declared.settings.Config.{Config}
use Rattle.wf_frame.specs.declared.classes.Class.{Class}
use Rattle.wf_frame.specs.declared.classes.Class.TheVariants.{Bk, Be, Vi, Vo}
use Rattle.wf_frame.specs.declared.classes.Fate.{Fate}
use Rattle.wf_def_lists.specs.Table.{at, change}
use Rattle.wf_def_rotation.specs.Rotation.{Rotation, in_order}
use Rattle.wf_def_agreement.specs.Session.{waiting_numbers, request_due, has_room}
use Rattle.wf_def_world.specs.World.{World, Bounds, Station, Share, Tid, Queue, holds_back, no_tid, no_station, new_queue, station, tid_of, queue, is_live, owed, with_bounds, with_station, on_station, on_tid, on_share, on_queue, with_rotation, with_fate, with_frame_finished, with_frames_finished}
use Rattle.wf_frame.specs.Classes.{lower_tid, upper_tid}
use Rattle.wf_def_world.specs.FlowQueues.{frames_queued}
use Rattle.wf_def_world.specs.CanSend.{request_open, can_send, can_send_in, is_below_aql, is_reachable, may_receive, is_ready}
use Rattle.wf_law_rules.proofs.Lemmas.Tables.{each_put, at_put_other}
use Rattle.wf_def_lists.specs.Lists.{on}
use Rattle.wf_law_rules.proofs.Lemmas.Counts.{on-cons_same, on-cons}

-- The part of a station that its readiness depends on.
abbrev pub sends : Station → Station
sends x = record x { shares = [] }

-- TID t of station s lists queue q.
abbrev pub Lists : World → ℕ → ℕ → ℕ → Type 0
Lists w s t q = 0 < on (in_order (tid_of w s t).queues) q

-- The queue is a shared one, or the TID's own overflow queue.
abbrev pub Owned : Config → ℕ → ℕ → ℕ → Type 0
Owned config s t q = (q < config.flows) ⊎ (q ≡ config.flows + 8 * s + t)

-- World v follows from w, and no station except s becomes ready.
pub record IsMild (s : ℕ) (w v : World) : Type 0 where
  pub config : v.config ≡ w.config
  pub stations : (y : ℕ) → (y ≡ s → ⊥) → option_map sends (at None v.stations y)
      ≡ option_map sends (at None w.stations y)
  pub requests : (y t : ℕ) → (y ≡ s → ⊥) → request_open v y t ≡ request_open w y t
  pub airtime : (y : ℕ) (c : Class) → (y ≡ s → ⊥) → owed y c v.opened ≡ owed y c w.opened
  pub lengths : (y t q : ℕ) → (y ≡ s → ⊥) → t < 8 → Lists w y t q →
      length (queue v q).items ≤ length (queue w q).items
  pub keys : (y t q : ℕ) → Lists v y t q → Lists w y t q ⊎ Owned w.config y t q
  pub live : (y : ℕ) → is_live v y ≡ true → (is_live w y ≡ true) ⊎ (y < w.config.stations)

-- ---- the readiness of other stations

read_sends : {X : Type 0} (f : Station → X) → ((x : Station) → f (sends x) ≡ f x) → (o : Option Station) →
    f (unwrap_or (option_map sends o) no_station) ≡ f (unwrap_or o no_station)
read_sends f h None = refl
read_sends f h (Some x) = h x

reads : {X : Type 0} (f : Station → X) → ((x : Station) → f (sends x) ≡ f x) → (s : ℕ) (w v : World) →
    IsMild s w v → (y : ℕ) → (y ≡ s → ⊥) → f (station v y) ≡ f (station w y)
reads f h s w v m y other = sym (read_sends f h (at None v.stations y))
    ∙ (ap (λ (o : Option Station). f (unwrap_or o no_station)) (m.stations y other)
    ∙ read_sends f h (at None w.stations y))

some_sends : (o : Option Station) → is_some (option_map sends o) ≡ is_some o
some_sends None = refl
some_sends (Some x) = refl

live_same : (s : ℕ) (w v : World) → IsMild s w v → (y : ℕ) → (y ≡ s → ⊥) → is_live v y ≡ is_live w y
live_same s w v m y other = sym (some_sends (at None v.stations y))
    ∙ (ap is_some (m.stations y other) ∙ some_sends (at None w.stations y))

tid_same : (s : ℕ) (w v : World) → IsMild s w v → (y t : ℕ) → (y ≡ s → ⊥) → tid_of v y t ≡ tid_of w y t
tid_same s w v m y t other = reads (λ x. at no_tid x.tids t) (λ x. refl) s w v m y other

-- Returns whether a TID can send, if its queues have n frames.
abbrev sends_with : Tid → Bool → ℕ → Bool
sends_with x asked n = if request_due x.session then not asked
    else nat_lt 0 (length (waiting_numbers x.session))
    || (nat_lt 0 n && (has_room x.session && not (holds_back x.mode)))

sends_more : (x : Tid) (asked : Bool) (n m : ℕ) → n ≤ m → sends_with x asked n ≡ true →
    sends_with x asked m ≡ true
sends_more x asked n m h e = go (request_due x.session) (nat_lt 0 (length (waiting_numbers x.session)))
    (has_room x.session && not (holds_back x.mode)) e
  where
    go : (a b c : Bool) → (if a then not asked else b || (nat_lt 0 n && c)) ≡ true →
        (if a then not asked else b || (nat_lt 0 m && c)) ≡ true
    go true b c e = e
    go false true c e = refl
    go false false c e =
        let parts = and_parts _ _ e in
        let some : 0 < n = ltb-true _ _ parts.0 in
        let more : nat_lt 0 m ≡ true = lt-ltb _ _ (omega arith) in
        rw (more, parts.1) refl

sum_less : (f g : ℕ → ℕ) (qs : List ℕ) → ((q : ℕ) → 0 < on qs q → f q ≤ g q) → sum_by f qs ≤ sum_by g qs
sum_less f g [] h = omega arith
sum_less f g (q ∷ qs) h =
    let here : f q ≤ g q = h q (omega (arith, on-cons_same q qs)) in
    let rest : sum_by f qs ≤ sum_by g qs = sum_less f g qs (λ p k. h p (omega (arith, on-cons q p qs))) in
    omega (arith, sum_by-cons f q qs, sum_by-cons g q qs)

queued_less : (s : ℕ) (w v : World) → IsMild s w v → (y t : ℕ) → (y ≡ s → ⊥) → t < 8 →
    frames_queued v y t ≤ frames_queued w y t
queued_less s w v m y t other below =
    subst (λ (x : Tid). sum_by (λ q. length (queue v q).items) (in_order x.queues) ≤ frames_queued w y t)
    (sym (tid_same s w v m y t other))
    (sum_less (λ q. length (queue v q).items) (λ q. length (queue w q).items) (in_order (tid_of w y t).queues)
    (λ q k. m.lengths y t q other below k))

can_send_less : (s : ℕ) (w v : World) → IsMild s w v → (y t : ℕ) → (y ≡ s → ⊥) → t < 8 →
    can_send v y t ≡ true → can_send w y t ≡ true
can_send_less s w v m y t other below h =
    let h' : sends_with (tid_of w y t) (request_open w y t) (frames_queued v y t) ≡ true =
    subst (λ (b : Bool). sends_with (tid_of w y t) b (frames_queued v y t) ≡ true) (m.requests y t other)
    (subst (λ (x : Tid). sends_with x (request_open v y t) (frames_queued v y t) ≡ true)
    (tid_same s w v m y t other) h) in
    sends_more (tid_of w y t) (request_open w y t) (frames_queued v y t) (frames_queued w y t)
    (queued_less s w v m y t other below) h'

lower_below : (c : Class) → lower_tid c < 8
lower_below Bk = omega arith
lower_below Be = omega arith
lower_below Vi = omega arith
lower_below Vo = omega arith

upper_below : (c : Class) → upper_tid c < 8
upper_below Bk = omega arith
upper_below Be = omega arith
upper_below Vi = omega arith
upper_below Vo = omega arith

or_less : (a b a' b' : Bool) → (a ≡ true → a' ≡ true) → (b ≡ true → b' ≡ true) → a || b ≡ true →
    a' || b' ≡ true
or_less true b a' b' h k e = ap (λ (z : Bool). z || b') (h refl)
or_less false b true b' h k e = refl
or_less false b false b' h k e = k e

-- The limit on airtime in flight holds or not as before.
below_same : (s : ℕ) (w v : World) → IsMild s w v → (y : ℕ) (c : Class) → (y ≡ s → ⊥) →
    is_below_aql v y c ≡ is_below_aql w y c
below_same s w v m y c other = ap₂ (λ (config : Config) (n : ℕ). (config.aql == 0) || nat_lt n config.aql)
    m.config (m.airtime y c other)

may_receive_same : (s : ℕ) (w v : World) → IsMild s w v → (y : ℕ) (c : Class) → (y ≡ s → ⊥) →
    may_receive v y c ≡ may_receive w y c
may_receive_same s w v m y c other = ap₂ (λ (a b : Bool). a && b)
    (reads (λ x. not x.stopped) (λ x. refl) s w v m y other)
    (ap₂ (λ (a b : Bool). a && b)
    (reads (λ x. is_reachable x c) (λ x. refl) s w v m y other)
    (below_same s w v m y c other))

-- No other station becomes ready.
pub ready_less : (s : ℕ) (w v : World) → IsMild s w v → (y : ℕ) (c : Class) → (y ≡ s → ⊥) →
    is_ready v c y ≡ true → is_ready w c y ≡ true
ready_less s w v m y c other h =
    let parts : (is_live v y ≡ true) × ((can_send_in v y c && may_receive v y c) ≡ true) =
    and_parts _ _ h in
    let more : (can_send_in v y c ≡ true) × (may_receive v y c ≡ true) = and_parts _ _ parts.1 in
    let live : is_live w y ≡ true = sym (live_same s w v m y other) ∙ parts.0 in
    let can : can_send_in w y c ≡ true =
    or_less (can_send v y (lower_tid c)) (can_send v y (upper_tid c)) (can_send w y (lower_tid c))
    (can_send w y (upper_tid c))
    (can_send_less s w v m y (lower_tid c) other (lower_below c))
    (can_send_less s w v m y (upper_tid c) other (upper_below c)) more.0 in
    let may : may_receive w y c ≡ true = sym (may_receive_same s w v m y c other) ∙ more.1 in
    rw (live, can, may) refl

-- ---- sequences of changes

pub mild_here : (s : ℕ) (w : World) → IsMild s w w
mild_here s w = record {
  config = refl;
  stations = λ y _. refl;
  requests = λ y t _. refl;
  airtime = λ y c _. refl;
  lengths =
      λ y t q _ _ _. omega arith;
  keys = λ y t q k. inl k;
  live = λ y k. inl k;
}

-- No station reads the bounds of the latest pull.
pub mild_bounds : (s : ℕ) (w : World) (b : Bounds) → IsMild s w (with_bounds w b)
mild_bounds s w b = record {
  config = refl;
  stations = λ y _. refl;
  requests = λ y t _. refl;
  airtime = λ y c _. refl;
  lengths =
      λ y t q _ _ _. omega arith;
  keys = λ y t q k. inl k;
  live = λ y k. inl k;
}

pub mild_then : (s : ℕ) (w u v : World) → IsMild s w u → IsMild s u v → IsMild s w v
mild_then s w u v h k = record {
  config = k.config ∙ h.config;
  stations = λ y other. k.stations y other ∙ h.stations y other;
  requests = λ y t other. k.requests y t other ∙ h.requests y t other;
  airtime = λ y c other. k.airtime y c other ∙ h.airtime y c other;
  lengths = λ y t q other below on_list.
      let first : length (queue u q).items ≤ length (queue w q).items = h.lengths y t q other below on_list in
      let second : length (queue v q).items ≤ length (queue u q).items =
      k.lengths y t q other below (subst (λ (x : Tid). 0 < on (in_order x.queues) q)
      (sym (tid_same s w u h y t other)) on_list) in
      omega arith;
  keys = λ y t q on_list. elim (k.keys y t q on_list) [
    | inl l ↦ h.keys y t q l
    | inr o ↦ inr (subst (λ (config : Config). Owned config y t q) h.config o)
  ];
  live = λ y is. elim (k.live y is) [
    | inl l ↦ h.live y l
    | inr o ↦ inr (subst (λ (config : Config). y < config.stations) h.config o)
  ];
}

pub mild_if : (b : Bool) (s : ℕ) (w u v : World) → IsMild s w u → IsMild s w v →
    IsMild s w (if b then u else v)
mild_if true s w u v h k = h
mild_if false s w u v h k = k

-- ---- one station changes

abbrev on_tids : ℕ → (Tid → Tid) → Station → Station
on_tids t f x = record x { tids = change no_tid x.tids t f }

each_tid_put : (P : ℕ → Tid → Type 0) (t : ℕ) (f : Tid → Tid) (o : Option Station) →
    ((j : ℕ) → P j (at no_tid (unwrap_or o no_station).tids j)) →
    P t (f (at no_tid (unwrap_or o no_station).tids t)) → (j : ℕ) →
    P j (at no_tid (unwrap_or (option_map (on_tids t f) o) no_station).tids j)
each_tid_put P t f None h k j = h j
each_tid_put P t f (Some x) h k j = each_put P no_tid x.tids t (f (at no_tid x.tids t)) h k j

some_map : (f : Station → Station) (o : Option Station) → is_some (option_map f o) ≡ is_some o
some_map f None = refl
some_map f (Some x) = refl

-- Any part of the station may change, if its TID lists only queues that it listed or owns.
pub mild_on_tid : (w : World) (s t : ℕ) (f : Tid → Tid) →
    ((q : ℕ) → 0 < on (in_order (f (tid_of w s t)).queues) q → Lists w s t q ⊎ Owned w.config s t q) →
    IsMild s w (on_tid w s t f)
unfolding on_tid on_station with_station
mild_on_tid w s t f h = record {
  config = refl;
  stations = λ y other. ap (option_map sends) (at_put_other None w.stations s y _ (λ e. other (sym e)));
  requests = λ y j _. refl;
  airtime = λ y c _. refl;
  lengths = λ y j q _ _ _. omega arith;
  keys = λ y j q. each_put (λ y o. (j q : ℕ) → 0
      < on (in_order (at no_tid (unwrap_or o no_station).tids j).queues) q → Lists w y j q ⊎
      Owned w.config y j q) None w.stations s _
      (λ y j q k. inl k)
      (each_tid_put (λ j x. (q : ℕ) → 0 < on (in_order x.queues) q → Lists w s j q ⊎ Owned w.config s j q) t f
      (at None w.stations s) (λ j q k. inl k) h) y j q;
  live = λ y is. inl (sym (each_put (λ y o. is_some o ≡ is_live w y) None w.stations s _ (λ y. refl)
      (some_map _ (at None w.stations s)) y) ∙ is);
}

same_tids : (f : Station → Station) → ((x : Station) → (f x).tids ≡ x.tids) → (o : Option Station) (j q : ℕ) →
    0 < on (in_order (at no_tid (unwrap_or (option_map f o) no_station).tids j).queues) q →
    0 < on (in_order (at no_tid (unwrap_or o no_station).tids j).queues) q
same_tids f h None j q k = k
same_tids f h (Some x) j q k = subst (λ (ts : List Tid). 0 < on (in_order (at no_tid ts j).queues) q) (h x) k

-- The TIDs of the station do not change.
pub mild_on_station : (w : World) (s : ℕ) (f : Station → Station) → ((x : Station) → (f x).tids ≡ x.tids) →
    IsMild s w (on_station w s f)
unfolding on_station with_station
mild_on_station w s f h = record {
  config = refl;
  stations = λ y other. ap (option_map sends) (at_put_other None w.stations s y _ (λ e. other (sym e)));
  requests = λ y j _. refl;
  airtime = λ y c _. refl;
  lengths = λ y j q _ _ _. omega arith;
  keys = λ y j q k. inl (each_put (λ y o. (j q : ℕ) →
      0 < on (in_order (at no_tid (unwrap_or o no_station).tids j).queues) q → Lists w y j q) None w.stations
      s _ (λ y j q k. k) (same_tids f h (at None w.stations s)) y j q k);
  live = λ y is. inl (sym (each_put (λ y o. is_some o ≡ is_live w y) None w.stations s _ (λ y. refl)
      (some_map f (at None w.stations s)) y) ∙ is);
}

-- A change of a share changes no readiness.
hidden_sends : (f : Station → Station) → ((x : Station) → sends (f x) ≡ sends x) → (o : Option Station) →
    option_map sends (option_map f o) ≡ option_map sends o
hidden_sends f h None = refl
hidden_sends f h (Some x) = ap (λ (z : Station). Some z) (h x)

pub mild_on_share : (s : ℕ) (w : World) (i : ℕ) (c : Class) (f : Share → Share) →
    IsMild s w (on_share w i c f)
unfolding on_share on_station with_station
mild_on_share s w i c f = record {
  config = refl;
  stations = λ y _. each_put (λ y o. option_map sends o ≡ option_map sends (at None w.stations y)) None
      w.stations i _ (λ y. refl) (hidden_sends _ (λ x. refl) (at None w.stations i)) y;
  requests = λ y j _. refl;
  airtime = λ y c _. refl;
  lengths = λ y j q _ _ _. omega arith;
  keys = λ y j q k. inl (each_put (λ y o. (j q : ℕ) →
      0 < on (in_order (at no_tid (unwrap_or o no_station).tids j).queues) q → Lists w y j q) None w.stations
      i _ (λ y j q k. k) (same_tids _ (λ x. refl) (at None w.stations i)) y j q k);
  live = λ y is. inl (sym (each_put (λ y o. is_some o ≡ is_live w y) None w.stations i _ (λ y. refl)
      (some_map _ (at None w.stations i)) y) ∙ is);
}

-- A station joins or leaves, and lists no queue.
pub mild_with_station : (w : World) (s : ℕ) (o : Option Station) →
    ((j q : ℕ) → 0 < on (in_order (at no_tid (unwrap_or o no_station).tids j).queues) q → ⊥) →
    (is_some o ≡ true → s < w.config.stations) → IsMild s w (with_station w s o)
unfolding with_station
mild_with_station w s o none h = record {
  config = refl;
  stations = λ y other. ap (option_map sends) (at_put_other None w.stations s y o (λ e. other (sym e)));
  requests = λ y j _. refl;
  airtime = λ y c _. refl;
  lengths = λ y j q _ _ _. omega arith;
  keys = each_put (λ y z. (j q : ℕ) → 0 < on (in_order (at no_tid (unwrap_or z no_station).tids j).queues) q →
      Lists w y j q ⊎ Owned w.config y j q) None w.stations s o (λ y j q k. inl k)
      (λ j q k. absurd (none j q k));
  live = each_put (λ y z. is_some z ≡ true → (is_live w y ≡ true) ⊎ (y < w.config.stations)) None w.stations s
      o (λ y k. inl k) (λ k. inr (h k));
}

-- ---- no station changes

pub mild_on_queue : (s : ℕ) (w : World) (q : ℕ) (f : Queue → Queue) →
    length (f (queue w q)).items ≤ length (queue w q).items → IsMild s w (on_queue w q f)
unfolding on_queue
mild_on_queue s w q f h = record {
  config = refl;
  stations = λ y _. refl;
  requests = λ y t _. refl;
  airtime = λ y c _. refl;
  lengths = λ y t p _ _ _. each_put (λ p x. length x.items ≤ length (queue w p).items) new_queue w.queues q
      (f (queue w q)) (λ p. omega arith) h p;
  keys = λ y t p k. inl k;
  live = λ y k. inl k;
}

pub mild_with_rotation : (s : ℕ) (w : World) (c : Class) (r : Rotation) → IsMild s w (with_rotation w c r)
unfolding with_rotation
mild_with_rotation s w c r = record {
  config = refl;
  stations = λ y _. refl;
  requests = λ y t _. refl;
  airtime = λ y c _. refl;
  lengths = λ y t q _ _ _. omega arith;
  keys = λ y t q k. inl k;
  live = λ y k. inl k;
}

pub mild_finish : (s : ℕ) (w : World) (fate : Fate) (id : ℕ) → IsMild s w (with_frame_finished w fate id)
unfolding with_frame_finished with_fate
mild_finish s w fate id = record {
  config = refl;
  stations = λ y _. refl;
  requests = λ y t _. refl;
  airtime = λ y c _. refl;
  lengths =
      λ y t q _ _ _. omega arith;
  keys = λ y t q k. inl k;
  live = λ y k. inl k;
}

pub mild_finish_all : (ids : List ℕ) (s : ℕ) (w : World) (fate : Fate) →
    IsMild s w (with_frames_finished w fate ids)
unfolding with_frames_finished
mild_finish_all [] s w fate = mild_here s w
mild_finish_all (id ∷ ids) s w fate = mild_then s w _ _ (mild_finish s w fate id)
    (mild_finish_all ids s _ fate)
