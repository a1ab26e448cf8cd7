-- Proves that an aggregate takes the waiting numbers from the lowest up while they fit, as the world's does.
-- By induction along the window's list of waiting numbers.
use Rattle.std.proofs.Common.{◌≡◌, refl, ap, sym, ◌∙◌, subst, arith, ℕ, suc, ◌+◌, ◌-◌, ◌%◌, ◌<◌, ◌≤◌, ◌==◌, ◌||◌, Bool, true, false, if◌then◌else◌, List, [], ◌∷◌, ◌++◌, map, length, length-append, append-nil, append_assoc, None, option_map, inl, inr, eq-eqb}
use Rattle.std.specs.Prelude.{nat_lt}
use Rattle.std.proofs.lemmas.Bool.{or_left, or_right}
use Rattle.std.proofs.lemmas.Bool.Decides.{nat_tests}
use Rattle.std.proofs.lemmas.List.{map-append}
use Rattle.wf_frame.specs.Frames.{FrameValue}
use Rattle.wf_def_air.specs.Fit.{most_octets, fits}
use Rattle.wf_def_lists.specs.Lists.{IsRising}
use Rattle.wf_def_agreement.specs.Session.{Session, State, slot, start_of, waiting_numbers}
use Rattle.wf_def_lists.specs.Table.{has}
use Rattle.wf_octets.specs.Distance.{distance}
use Rattle.wf_def_world.specs.World.{World, Mpdu, station, session, len_of, accepted_count}
use Rattle.wf_def_world.specs.Exchanges.{most_frames, lens_of, fits_in, mpdu_of, waiting_mpdus, longest_fitting, with_fresh, aggregate_of}
use Rattle.wf_def_world.proofs.Fitting.{IsBegun, chosen_all, chosen_ends}
use Rattle.wf_law_runs.specs.Windows.{EachMpdu}
use Rattle.wf_law_rules.proofs.Lemmas.Numbers.{eq_yes}
use Rattle.wf_law_runs.proofs.Sessions.Starts.{start_ge}
use Rattle.wf_air.specs.Sizes.{AggregateSizeValue, SizeStandsFor as SizeStandsFor}
use Rattle.wf_send_parts.specs.Listing.{IsListedNext, waiting_since}
use Rattle.wf_send_parts.specs.Window.{on_air, waiting_from}
use Rattle.wf_send_parts.proofs.Listing.{listing_begins, listing_near, listing_ends, waiting_exactly, waiting_rise}
use Rattle.wf_send_parts.proofs.Numbers.{waiting_is}
use Rattle.wf_send_parts.specs.Windows.{window_of}
use Rattle.wf_send_half_model.specs.Half.{TransmitValue, some_wait}
use Rattle.wf_send_half_model.specs.Filling.{IsWaitingWith, AreWaiting, IsToFill, room_for, IsChoosing, IsFilling, IsFilled}
use Rattle.wf_send_half_model.proofs.Readers.{waiting_same}
use Rattle.wf_send_half_model.proofs.Flies.{rises_past}
use Rattle.wf_send_half_model.proofs.Gives.{Placed, placed, given_below, if_first, if_second}

-- ---- the first of the waiting numbers

has_front : (xs ys : List ℕ) (n : ℕ) → has xs n ≡ true → has (xs ++ ys) n ≡ true
has_front [] ys n h = absurd (cc h)
has_front (x ∷ xs) ys n h = go (x == n) (has_front xs ys n) h
  where
    go : (b : Bool) → (has xs n ≡ true → has (xs ++ ys) n ≡ true) → b || has xs n ≡ true →
        b || has (xs ++ ys) n ≡ true
    go true later h = refl
    go false later h = later h

rising_front : (lo : ℕ) (xs ys : List ℕ) → IsRising lo (xs ++ ys) → IsRising lo xs
rising_front lo [] ys h = tt
rising_front lo (x ∷ xs) ys h = (h.0, rising_front (suc x) xs ys h.1)

low_of : (lo n : ℕ) (xs : List ℕ) → IsRising lo xs → has xs n ≡ true → lo ≤ n
low_of lo n [] rising h = absurd (cc h)
low_of lo n (x ∷ xs) rising h = go (x == n) refl (low_of (suc x) n xs rising.1) h
  where
    go : (b : Bool) → (x == n) ≡ b → (has xs n ≡ true → suc x ≤ n) → b || has xs n ≡ true → lo ≤ n
    go true e later h = let same : x ≡ n = eq_yes x n e in omega (arith, rising.0, same)
    go false e later h = omega (arith, rising.0, later h)

each_number : (P : Mpdu → Type 0) (g : ℕ → Mpdu) (ns : List ℕ) → ((n : ℕ) → has ns n ≡ true → P (g n)) →
    EachMpdu P (map g ns)
each_number P g [] h = tt
each_number P g (n ∷ ns) h = (
  h n (or_left (n == n) (has ns n) (eq-eqb n n refl)),
  each_number P g ns (λ k e. h k (or_right (n == k) (has ns k) e)),
)

numbers_of : (w : World) (s t : ℕ) (ns : List ℕ) → map (λ m. m.number) (map (mpdu_of w s t) ns) ≡ ns
numbers_of w s t [] = refl
numbers_of w s t (n ∷ ns) = ap (λ (l : List ℕ). n ∷ l) (numbers_of w s t ns)

airs_of : (w : World) (s t : ℕ) (ns : List ℕ) →
    map on_air ns ≡ map (λ m. on_air m.number) (map (mpdu_of w s t) ns)
airs_of w s t [] = refl
airs_of w s t (n ∷ ns) = ap (λ (l : List ℕ). on_air n ∷ l) (airs_of w s t ns)

no_numbers : (ns : List ℕ) → map on_air ns ≡ [] → ns ≡ []
no_numbers [] e = refl
no_numbers (n ∷ ns) e = absurd (cc e)

begun : (w : World) (s : ℕ) (g : ℕ → Mpdu) (ns : List ℕ) → (0 < length ns → fits_in w s (map g ns) ≡ true) →
    IsBegun w s (map g ns)
unfolding IsBegun
begun w s g [] h = inl refl
begun w s g (n ∷ ns) h = inr (h (omega arith))

aggregate_by : (w : World) (s t : ℕ) (ms chosen : List Mpdu) → waiting_mpdus w s t ≡ ms →
    longest_fitting w s ms ≡ chosen →
    aggregate_of w s t ≡ (if length chosen == length ms
    then with_fresh (most_frames w s - length chosen) w s t chosen
    else record { world = w; mpdus = chosen })
unfolding aggregate_of
aggregate_by w s t ms chosen is fit =
    ap (λ (xs : List Mpdu). if length (longest_fitting w s xs) == length xs
    then with_fresh (most_frames w s - length (longest_fitting w s xs)) w s t (longest_fitting w s xs)
    else record { world = w; mpdus = longest_fitting w s xs }) is
    ∙ ap (λ (c : List Mpdu). if length c == length ms then with_fresh (most_frames w s - length c) w s t c
    else record { world = w; mpdus = c }) fit

aggregate_all : (w : World) (s t : ℕ) (ms : List Mpdu) → waiting_mpdus w s t ≡ ms →
    longest_fitting w s ms ≡ ms → aggregate_of w s t ≡ with_fresh (most_frames w s - length ms) w s t ms
aggregate_all w s t ms is fit = aggregate_by w s t ms ms is fit
    ∙ if_first (length ms == length ms) _ _ (eq-eqb (length ms) (length ms) refl)

fewer_than : (ms rest : List Mpdu) (m : Mpdu) → (length ms == length (ms ++ m ∷ rest)) ≡ false
fewer_than ms rest m = let e = length-append ms (m ∷ rest) in grind (arith, nat_tests)

aggregate_front : (w : World) (s t : ℕ) (ms rest : List Mpdu) (m : Mpdu) →
    waiting_mpdus w s t ≡ ms ++ m ∷ rest → longest_fitting w s (ms ++ m ∷ rest) ≡ ms →
    aggregate_of w s t ≡ record { world = w; mpdus = ms }
aggregate_front w s t ms rest m is fit = aggregate_by w s t (ms ++ m ∷ rest) ms is fit
    ∙ if_second (length ms == length (ms ++ m ∷ rest)) _ _ (fewer_than ms rest m)

-- ---- facts about a waiting number

module _ (v : TransmitValue) (w : World) (bodies : ℕ → FrameValue) (s t : ℕ)
    (to : IsToFill v w bodies s t) where
  abbrev y : Session
  y = session w s t

  abbrev g : ℕ → Mpdu
  g = mpdu_of w s t

  pub known_number : (n : ℕ) → y.first ≤ n → (slot y n).state ≡ State.Waiting →
      (slot y n).id < accepted_count w
  known_number n from waits =
      let p : Placed w = placed w s t to.turned.underway in
      (p.placing.numbered s t n from (omega (arith, from, given_below y.slots (n - y.first) waits))).old

  waits_there : (n : ℕ) → has (waiting_numbers y) n ≡ true → IsWaitingWith y bodies (g n)
  waits_there n h =
      let from : y.first ≤ n = omega (
        arith,
        low_of (start_of y) n (waiting_numbers y) (waiting_rise y) h,
        start_ge y.slots y.first,
      ) in
      let waits : (slot y n).state ≡ State.Waiting =
      waiting_is (slot y n).state (sym (waiting_exactly y n from) ∙ h) in
      record {
        waits = waits;
        carries = refl;
        frame =
            (to.turned.parts.others.notes (slot y n).id (known_number n from waits)).id;
      }

  chosen_wait : (ns rest : List ℕ) → ns ++ rest ≡ waiting_numbers y → AreWaiting y bodies (map g ns)
  chosen_wait ns rest e = record {
    each = each_number (IsWaitingWith y bodies) g ns
        (λ n h. waits_there n (ap (λ (l : List ℕ). has l n) (sym e) ∙ has_front ns rest n h));
    rising = subst (IsRising y.first) (sym (numbers_of w s t ns))
        (rises_past y.first (start_of y) ns (start_ge y.slots y.first)
        (rising_front (start_of y) ns rest (subst (IsRising (start_of y)) (sym e) (waiting_rise y))));
  }

  pub choosing_begins : IsChoosing (room_for w s t) [] (window_of v.windows s t).start w s t
  choosing_begins = record {
    chosen = [];
    listed = listing_begins (window_of v.windows s t) y bodies
        (to.turned.parts.windows.all.stands s t to.turned.live to.turned.tid);
    on_air = refl;
    room_is = record { settings = refl; lens = record { count = refl; octets = refl } };
    fit = λ some. absurd (omega (arith, some));
  }

  module _ (room : AggregateSizeValue) (numbers : List ℕ) (from : ℕ)
      (so_far : IsChoosing room numbers from w s t) where
    abbrev ns : List ℕ
    ns = so_far.chosen

    pub choosing_near : distance from (window_of v.windows s t).start
        ≤ length (window_of v.windows s t).places
    choosing_near = listing_near (window_of v.windows s t) y bodies
        (to.turned.parts.windows.all.stands s t to.turned.live to.turned.tid) ns from so_far.listed

    -- the lengths with one more, by the half's setting and by the world's
    abbrev longer : ℕ → Mpdu → List ℕ
    longer overhead m = lens_of w.config.overhead (map g ns) ++ (m.len + overhead) ∷ []

    same_lens : (m : Mpdu) → longer v.config.overhead m ≡ longer w.config.overhead m
    same_lens m = ap (λ c. longer c.overhead m) to.turned.parts.others.config

    adds_number : (m : Mpdu) → fits room.rate room.limits.octets room.limits.frames room.limits.time
        (longer v.config.overhead m) ≡ fits_in w s (map g ns ++ m ∷ [])
    adds_number m =
        ap (λ (r : AggregateSizeValue). fits r.rate r.limits.octets r.limits.frames r.limits.time
        (longer v.config.overhead m)) so_far.room_is.settings
        ∙ ap (fits (station w s).rate
        (most_octets (station w s).rate (station w s).exponent (station w s).ampdu) (most_frames w s)
        w.bounds.air)
        (same_lens m ∙ sym (map-append (λ (k : Mpdu). k.len + w.config.overhead) (map g ns) (m ∷ [])))

    -- all of them are chosen
    pub choosing_ends : option_map on_air (waiting_from y so_far.listed.number) ≡ None →
        IsFilling v w bodies s t room numbers (map g ns) (aggregate_of w s t)
    choosing_ends none =
        let all : ns ≡ waiting_numbers y = listing_ends y ns from so_far.listed none in
        record {
          parts = to.turned.parts;
          live = to.turned.live;
          tid = to.turned.tid;
          quiet = to.quiet;
          underway = to.turned.underway;
          waiting = chosen_wait ns [] (append-nil ns ∙ all);
          on_air = so_far.on_air ∙ airs_of w s t ns;
          room_is = so_far.room_is;
          leads = sym (aggregate_all w s t (map g ns) (sym (ap (map g) all))
              (ap (longest_fitting w s) (sym (append-nil (map g ns)))
              ∙ chosen_all w s (map g ns) (begun w s g ns so_far.fit)));
        }

    -- if the list ends with none chosen, no number waits
    pub choosing_none : option_map on_air (waiting_from y so_far.listed.number) ≡ None → numbers ≡ [] →
        some_wait (window_of v.windows s t) ≡ false
    choosing_none none empty =
        waiting_same v w bodies s t to.turned.parts to.turned.live to.turned.tid
        ∙ ap (λ (l : List ℕ). nat_lt 0 (length l)) (sym (listing_ends y ns from so_far.listed none)
        ∙ no_numbers ns (sym so_far.on_air ∙ empty))

    module _ (seq : ℕ) (next : IsListedNext y ns seq) where
      abbrev m : Mpdu
      m = g next.number

      pub choosing_len : length (bodies (slot y next.number).id).body ≡ m.len
      choosing_len =
          let from : y.first ≤ next.number = omega (
            arith,
            next.is_number.from_start,
            start_ge y.slots y.first,
          ) in
          sym (ap len_of (to.turned.parts.others.notes (slot y next.number).id
          (known_number next.number from next.waits)).note)

      pub choosing_next : (more : AggregateSizeValue) →
          fits room.rate room.limits.octets room.limits.frames room.limits.time
          (longer v.config.overhead m) ≡ true →
          more ≡ record room { count = more.count; octets = more.octets } →
          SizeStandsFor more (longer v.config.overhead m) →
          IsChoosing more (numbers ++ seq ∷ []) ((seq + 1) % 4096) w s t
      choosing_next more fit kept lens =
          let split : map g (ns ++ next.number ∷ []) ≡ map g ns ++ m ∷ [] =
          map-append g ns (next.number ∷ []) in
          record {
            chosen = ns ++ next.number ∷ [];
            listed = next.goes_on;
            on_air = ap2 so_far.on_air next.is_number.on_air ∙ sym (map-append on_air ns (next.number ∷ []));
            room_is = record {
              settings = kept ∙ ap (λ (r : AggregateSizeValue). record r {
                count = more.count;
                octets =
                    more.octets;
              })
                  so_far.room_is.settings;
              lens = subst (SizeStandsFor more) (same_lens m ∙ sym (ap (lens_of w.config.overhead) split
                  ∙ map-append (λ (k : Mpdu). k.len + w.config.overhead) (map g ns) (m ∷ []))) lens;
            };
            fit = λ some. ap (fits_in w s) split ∙ sym (adds_number m) ∙ fit;
          }
        where
          ap2 : {ms : List ℕ} {n : ℕ} → numbers ≡ ms → seq ≡ n → numbers ++ seq ∷ [] ≡ ms ++ n ∷ []
          ap2 {ms} {n} a b = ap (λ (l : List ℕ). l ++ seq ∷ []) a ∙ ap (λ (k : ℕ). ms ++ k ∷ []) b

      pub choosing_stops : fits room.rate room.limits.octets room.limits.frames room.limits.time
          (longer v.config.overhead m) ≡ false → IsFilled v bodies s t room numbers (aggregate_of w s t)
      choosing_stops fit =
          let rest : List ℕ = waiting_since y next.goes_on.number in
          let split : ns ++ next.number ∷ rest ≡ waiting_numbers y =
          sym (append_assoc ns (next.number ∷ []) rest) ∙ next.goes_on.rest in
          let all : waiting_mpdus w s t ≡ map g ns ++ m ∷ map g rest =
          ap (map g) (sym split) ∙ map-append g ns (next.number ∷ rest) in
          let front : longest_fitting w s (map g ns ++ m ∷ map g rest) ≡ map g ns =
          chosen_ends w s (map g ns) m (map g rest) (begun w s g ns so_far.fit)
          (sym (adds_number m) ∙ fit) in
          subst (IsFilled v bodies s t room numbers) (sym
          (aggregate_front w s t (map g ns) (map g rest) m all front)) (record {
            parts = to.turned.parts;
            live = to.turned.live;
            tid = to.turned.tid;
            underway = to.turned.underway;
            waiting = chosen_wait ns (next.number ∷ rest) split;
            on_air = so_far.on_air ∙ airs_of w s t ns;
            room_is = so_far.room_is;
          })
