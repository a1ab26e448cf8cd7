-- Proves the filling of an aggregate, number by number: waiting numbers, then fresh frames.
use Rattle.std.proofs.Common.{◌≡◌, refl, ap, ap₂, sym, ◌∙◌, subst, arith, ℕ, ◌+◌, ◌%◌, ◌<◌, ◌≤◌, ◌&&◌, nat_le, nat_lt, Bool, true, false, not, List, [], ◌∷◌, ◌++◌, length, map, Option, Some, None, IfSome, option_map}
use Rattle.std.proofs.lemmas.List.{length-map, length-append}
use Rattle.std.proofs.lemmas.Bool.Decides.{nat_tests}
use Rattle.wf_frame.specs.Frames.{FrameValue}
use Rattle.wf_def_air.specs.Fit.{fits}
use Rattle.wf_def_agreement.specs.Session.{Session, slot, start_of, next_number, with_number_given}
use Rattle.wf_def_world.specs.World.{World, Bounds, Mpdu, session, codel_params}
use Rattle.wf_def_world.specs.Exchanges.{Aggregate, aggregate_of, lens_of, mpdu_of}
use Rattle.wf_air.specs.declared.fit.SizeLimits.{SizeLimits}
use Rattle.wf_air.specs.Sizes.{AggregateSizeValue, SizeStandsFor as SizeStandsFor, empty_size}
use Rattle.wf_send_parts.specs.Listing.{IsListedNext}
use Rattle.wf_send_parts.specs.Window.{WindowStandsFor as WindowStandsFor, IsNumber, on_air, waiting_from}
use Rattle.wf_send_parts.proofs.Listing.{listing_next}
use Rattle.wf_send_parts.specs.declared.stations.members.Member.{Member}
use Rattle.wf_send_parts.specs.Members.{member}
use Rattle.wf_send_parts.specs.Windows.{window_of}
use Rattle.wf_send_half_model.specs.Half.{TransmitValue, can_give_of}
use Rattle.wf_send_half_model.specs.Filling.{IsToFill, room_for, IsChoosing, IsFilling, IsFilled, after_giving}
use Rattle.wf_send_half_model.specs.Pulling.{is_wide_of}
use Rattle.wf_send_half_model.proofs.Asked.{params_read, room_read}
use Rattle.wf_send_half_model.proofs.Fills.{choosing_begins, choosing_ends, choosing_len, choosing_next, choosing_stops}
use Rattle.wf_send_half_model.proofs.Gives.{fresh_own, fresh_goes_on, fresh_stops}
use Rattle.wf_send_half.specs.Pulls.{size_limits_of, IsSameButFrames, HasTurn, AggregateGoesOn, HasLens, IsGivenNumber}

-- ---- an empty aggregate

-- x is the value of the fields of the half v
pub begun : (x v : TransmitValue) → x ≡ v → (s t : ℕ) (b : Bounds) (m : Member) →
    member x.members s ≡ Some m →
    (limits : SizeLimits) → IfSome (member v.members s) (λ k. limits ≡ size_limits_of v s b k) → (size : ℕ) →
    size ≡ (window_of x.windows s t).size → (room : AggregateSizeValue) →
    room ≡ empty_size m.rate limits x.config.answers (nat_lt 64 size) → (numbers : List ℕ) → numbers ≡ [] →
    (w : World) (bodies : ℕ → FrameValue) → IsToFill v w bodies s t → w.bounds ≡ b →
    IsChoosing room numbers (window_of v.windows s t).start w s t
begun x v same s t b m is limits exact size size_is room made numbers none w bodies to bounds =
    let known : member v.members s ≡ Some m = ap (λ (z : TransmitValue). member z.members s) (sym same)
    ∙ is in
    let limits_are : limits ≡ size_limits_of v s b m =
    subst (λ (o : Option Member). IfSome o (λ k. limits ≡ size_limits_of v s b k)) known exact in
    let room_is : room ≡ room_for w s t =
    made
    ∙ ap₂ (λ (n : ℕ) (a : ℕ). empty_size m.rate limits a (nat_lt 64 n))
    (size_is ∙ ap (λ (z : TransmitValue). (window_of z.windows s t).size) same)
    (ap (λ (z : TransmitValue). z.config.answers) same)
    ∙ ap (λ (l : SizeLimits). empty_size m.rate l v.config.answers (is_wide_of v s t)) limits_are
    ∙ room_read v w bodies s to.turned.parts to.turned.live m known t to.turned.tid b bounds in
    subst (λ (ns : List ℕ). IsChoosing room ns (window_of v.windows s t).start w s t) (sym none)
    (subst (λ (r : AggregateSizeValue). IsChoosing r [] (window_of v.windows s t).start w s t) (sym room_is)
    (choosing_begins v w bodies s t to))

-- ---- the number of frames

pub choosing_lens : (room : AggregateSizeValue) (numbers : List ℕ) (from : ℕ) (w : World) (s t : ℕ) →
    IsChoosing room numbers from w s t → room.limits.frames ≤ 256 → HasLens room numbers
choosing_lens room numbers from w s t h few = record {
  lens = lens_of w.config.overhead (map (mpdu_of w s t) h.chosen);
  stands = h.room_is.lens;
  as_many = omega (
    arith,
    ap (length {A = ℕ}) h.on_air,
    length-map h.chosen on_air,
    length-map h.chosen (mpdu_of w s t),
    length-map (map (mpdu_of w s t) h.chosen) (λ (m : Mpdu). m.len + w.config.overhead),
  );
  few = few;
}

-- if one more fits, the aggregate has fewer numbers than its greatest number
pub few_chosen : (room : AggregateSizeValue) (numbers : List ℕ) (from : ℕ) (w : World) (s t : ℕ) →
    IsChoosing room numbers from w s t → room.limits.frames ≤ 256 → (len : ℕ) →
    ((ls : List ℕ) → SizeStandsFor room ls →
    true ≡ fits room.rate room.limits.octets room.limits.frames room.limits.time (ls ++ len ∷ [])) →
    length numbers < 256
few_chosen room numbers from w s t h few len exact =
    let lens : HasLens room numbers = choosing_lens room numbers from w s t h few in
    let within : nat_le (length (lens.lens ++ len ∷ [])) room.limits.frames ≡ true =
    first_of _ _ (exact lens.lens lens.stands) in
    grind (arith, nat_tests, within, length-append lens.lens (len ∷ []), lens.as_many, few)
  where
    first_of : (a b : Bool) → true ≡ (a && b) → a ≡ true
    first_of true b e = refl
    first_of false b e = absurd (cc e)

pub same_limits : (room more : AggregateSizeValue) → more ≡ record room {
  count = more.count;
  octets =
      more.octets;
} →
    more.limits ≡ room.limits
same_limits room more kept = ap (λ (r : AggregateSizeValue). r.limits) kept

-- ---- waiting numbers

module _ (v : TransmitValue) (w : World) (bodies : ℕ → FrameValue) (s t : ℕ) (to : IsToFill v w bodies s t)
    (room : AggregateSizeValue) (numbers : List ℕ) (from : ℕ)
    (so_far : IsChoosing room numbers from w s t) where
  abbrev y : Session
  y = session w s t

  stands : WindowStandsFor (window_of v.windows s t) y bodies
  stands = to.turned.parts.windows.all.stands s t to.turned.live to.turned.tid

  pub next_read : (result : Option ℕ) →
      ((z : Session) (all : ℕ → FrameValue) (n : ℕ) → WindowStandsFor (window_of v.windows s t) z all →
      from ≡ n % 4096 → start_of z ≤ n → n ≤ next_number z →
      result ≡ option_map on_air (waiting_from z n)) →
      option_map on_air (waiting_from y so_far.listed.number) ≡ result
  next_read result given = sym (given y bodies so_far.listed.number stands so_far.listed.on_air
      so_far.listed.from_start so_far.listed.to_next)

  module _ (seq : ℕ) (is : option_map on_air (waiting_from y so_far.listed.number) ≡ Some seq) where
    next : IsListedNext y so_far.chosen seq
    next = listing_next y so_far.chosen from so_far.listed seq is

    module _ (f : FrameValue) (read : (z : Session) (all : ℕ → FrameValue) (n : ℕ) →
        WindowStandsFor (window_of v.windows s t) z all → IsNumber z n seq → f ≡ all (slot z n).id) (len : ℕ)
        (octets : len ≡ length f.body) (size : ℕ) (protected : size ≡ len + v.config.overhead) where
      len_is : len ≡ (mpdu_of w s t next.number).len
      len_is = octets ∙ ap (λ (g : FrameValue). length g.body)
          (read y bodies next.number stands next.is_number)
          ∙ choosing_len v w bodies s t to room numbers from so_far seq next

      size_is : size ≡ (mpdu_of w s t next.number).len + v.config.overhead
      size_is = protected ∙ ap (λ (n : ℕ). n + v.config.overhead) len_is

      abbrev lens : List ℕ
      lens = lens_of w.config.overhead (map (mpdu_of w s t) so_far.chosen)

      pub waiting_goes_on : (more : AggregateSizeValue) → ((ls : List ℕ) → SizeStandsFor room ls →
          true ≡ fits room.rate room.limits.octets room.limits.frames room.limits.time (ls ++ size ∷ [])) →
          ((ls : List ℕ) → SizeStandsFor room ls → SizeStandsFor more (ls ++ size ∷ [])) →
          more ≡ record room { count = more.count; octets = more.octets } →
          IsChoosing more (numbers ++ seq ∷ []) ((seq + 1) % 4096) w s t
      waiting_goes_on more exact taken kept =
          choosing_next v w bodies s t to room numbers from so_far seq next more
          (ap (λ (n : ℕ). fits room.rate room.limits.octets room.limits.frames room.limits.time
          (lens ++ n ∷ [])) (sym size_is)
          ∙ sym (exact lens so_far.room_is.lens)) kept
          (subst (λ (n : ℕ). SizeStandsFor more (lens ++ n ∷ [])) size_is (taken lens so_far.room_is.lens))

      pub waiting_ends : ((ls : List ℕ) → SizeStandsFor room ls →
          false ≡ fits room.rate room.limits.octets room.limits.frames room.limits.time (ls ++ size ∷ [])) →
          IsFilled v bodies s t room numbers (aggregate_of w s t)
      waiting_ends exact =
          choosing_stops v w bodies s t to room numbers from so_far seq next
          (ap (λ (n : ℕ). fits room.rate room.limits.octets room.limits.frames room.limits.time
          (lens ++ n ∷ [])) (sym size_is)
          ∙ sym (exact lens so_far.room_is.lens))

  pub all_waiting : option_map on_air (waiting_from y so_far.listed.number) ≡ None →
      AggregateGoesOn v bodies s t room numbers (aggregate_of w s t)
  all_waiting none = record {
    world = w;
    mpdus = map (mpdu_of w s t) so_far.chosen;
    filling =
        choosing_ends v w bodies s t to room numbers from so_far none;
  }

-- ---- fresh frames

-- a frame is queued and can get a number, or not
pub both_give : {n : ℕ} {takes : Bool} → 0 < n → takes ≡ true → (nat_lt 0 n && takes) ≡ true
both_give some e = grind (arith, nat_tests)

pub takes_none : (some takes : Bool) → takes ≡ false → (some && takes) ≡ false
takes_none true takes e = e
takes_none false takes e = refl

-- its window takes one and the TID is not held, or not
pub takes_number : (can held : Bool) → can ≡ true → held ≡ false → (can && not held) ≡ true
takes_number true false a b = refl
takes_number true true a b = absurd (cc b)
takes_number false held a b = absurd (cc a)

pub takes_no_number : (can held : Bool) → can ≡ false → (can && not held) ≡ false
takes_no_number false held e = refl
takes_no_number true held e = absurd (cc e)

pub held_gives : (some can held : Bool) → held ≡ true → (some && (can && not held)) ≡ false
held_gives true true true e = refl
held_gives true false true e = refl
held_gives false can true e = refl
held_gives some can false e = absurd (cc e)

pub none_queued : (n : ℕ) (takes : Bool) → n ≡ 0 → (nat_lt 0 n && takes) ≡ false
none_queued n takes e = subst (λ (k : ℕ). (nat_lt 0 k && takes) ≡ false) (sym e) refl

module _ (v : TransmitValue) (bodies : ℕ → FrameValue) (s t : ℕ) (room : AggregateSizeValue)
    (numbers : List ℕ)
    (after : Aggregate) (h : AggregateGoesOn v bodies s t room numbers after)
    (few : length numbers < room.limits.frames)
    (gives : can_give_of v s t ≡ true)
    (u : TransmitValue) (number len : ℕ) (given : IsGivenNumber v u s t number len) (size : ℕ)
    (protected : size ≡ len + v.config.overhead) where
  left : IsFilling v h.world bodies s t room numbers h.mpdus after
  left = h.filling

  right : given.params ≡ codel_params h.world s
  right = given.read.is ∙ params_read v h.world bodies s left.parts left.live given.read.rate
      given.read.is_rate

  own : given.frame ≡ bodies given.frame.id
  own = fresh_own v h.world bodies s t room numbers h.mpdus after left given.params right given.frame
      given.out

  stays : (number ≡ next_number (session h.world s t) % 4096) ×
      WindowStandsFor given.window (with_number_given (session h.world s t) given.frame.id) bodies
  stays = given.waits (session h.world s t) bodies (left.parts.windows.all.stands s t left.live left.tid) own

  fresh_size : size ≡ length given.frame.body + v.config.overhead
  fresh_size = protected ∙ ap (λ (n : ℕ). n + v.config.overhead) given.octets

  abbrev fresh_lens : List ℕ
  fresh_lens = lens_of h.world.config.overhead h.mpdus

  pub goes_on_fresh : (more : AggregateSizeValue) → ((ls : List ℕ) → SizeStandsFor room ls →
      true ≡ fits room.rate room.limits.octets room.limits.frames room.limits.time (ls ++ size ∷ [])) →
      ((ls : List ℕ) → SizeStandsFor room ls → SizeStandsFor more (ls ++ size ∷ [])) →
      more ≡ record room { count = more.count; octets = more.octets } →
      AggregateGoesOn u bodies s t more (numbers ++ number ∷ []) after
  goes_on_fresh more exact taken kept =
      subst (λ (z : TransmitValue). AggregateGoesOn z bodies s t more (numbers ++ number ∷ []) after)
      (sym given.is)
      (subst (λ (n : ℕ). AggregateGoesOn (after_giving v s t given.params given.window) bodies s t more
      (numbers ++ n ∷ []) after) (sym stays.0) (record {
        world = _;
        mpdus = _;
        filling = fresh_goes_on v h.world bodies s t room numbers h.mpdus after left given.params right
            given.frame given.out given.window given.room stays.1 few gives more
            (ap (λ (n : ℕ). fits room.rate room.limits.octets room.limits.frames room.limits.time
            (fresh_lens ++ n ∷ []))
            (sym fresh_size) ∙ sym (exact fresh_lens left.room_is.lens)) kept
            (subst (λ (n : ℕ). SizeStandsFor more (fresh_lens ++ n ∷ [])) fresh_size
            (taken fresh_lens left.room_is.lens));
      }))

  pub ends_fresh : ((ls : List ℕ) → SizeStandsFor room ls →
      false ≡ fits room.rate room.limits.octets room.limits.frames room.limits.time (ls ++ size ∷ [])) →
      IsFilled u bodies s t room numbers after
  ends_fresh exact =
      subst (λ (z : TransmitValue). IsFilled z bodies s t room numbers after) (sym given.is)
      (fresh_stops v h.world bodies s t room numbers h.mpdus after left given.params right given.frame
      given.out given.window given.room stays.1 few gives
      (ap (λ (n : ℕ). fits room.rate room.limits.octets room.limits.frames room.limits.time
      (fresh_lens ++ n ∷ []))
      (sym fresh_size) ∙ sym (exact fresh_lens left.room_is.lens)))

pub turn_of : (v : TransmitValue) (bodies : ℕ → FrameValue) (s t : ℕ) (room : AggregateSizeValue)
    (numbers : List ℕ)
    (after : Aggregate) → AggregateGoesOn v bodies s t room numbers after → HasTurn v s t
turn_of v bodies s t room numbers after h = record {
  world = h.world;
  bodies = bodies;
  turned = record {
    parts = h.filling.parts;
    live = h.filling.live;
    tid = h.filling.tid;
    underway =
        h.filling.underway;
  };
}

pub same_given : (v x u : TransmitValue) (s t number len : ℕ) → IsSameButFrames v x →
    IsGivenNumber x u s t number len → IsSameButFrames v u
same_given v x u s t number len same given =
    given.is
    ∙ ap (λ (z : TransmitValue). after_giving z s t given.params given.window) same
    ∙ ap (λ (z : TransmitValue). record v { flows = z.flows; windows = z.windows; tally = z.tally })
    (sym (given.is ∙ ap (λ (z : TransmitValue). after_giving z s t given.params given.window) same))
