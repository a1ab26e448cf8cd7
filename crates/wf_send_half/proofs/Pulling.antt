-- Proves the clauses of a pull: the station that is picked sends a request, or an aggregate.
use Rattle.std.proofs.Common.{◌≡◌, refl, ap, sym, ◌∙◌, subst, arith, ℕ, ◌-◌, ◌^◌, ◌<◌, ◌≤◌, ◌==◌, ℤ, pos, negsuc, ◌+ℤ◌, ◌-ℤ◌, ◌≤ℤ◌, ◌↔◌, Bool, true, false, not, ◌&&◌, ◌||◌, if◌then◌else◌, List, [], ◌∷◌, ◌++◌, length, map, Option, Some, None, IfSome, is_some, option_map, unwrap_or}
use Rattle.std.specs.Prelude.{All, nat_le, count_by}
use Rattle.std.proofs.lemmas.Bool.{and_parts}
use Rattle.std.proofs.lemmas.Bool.Decides.{nat_tests}
use Rattle.std.proofs.lemmas.Int.{ints}
use Rattle.std.proofs.lemmas.List.Elements.{All-head, All-tail}
use Rattle.wf_send_parts.specs.declared.exchanges.opened.Open.{Open}
use Rattle.std.proofs.lemmas.List.{get_or-set_same}
use Rattle.wf_frame.specs.declared.answers.Brief.{Brief}
use Rattle.wf_frame.specs.declared.answers.Brief.TheVariants.{Send}
use Rattle.wf_frame.specs.declared.answers.Kind.{Kind}
use Rattle.wf_frame.specs.declared.classes.Class.{Class}
use Rattle.wf_frame.specs.declared.notes.Ask.TheVariants.{Pull}
use Rattle.wf_frame.specs.declared.notes.Limits.{Limits}
use Rattle.wf_frame.specs.declared.notes.Note.TheVariants.{Asked}
use Rattle.wf_frame.specs.declared.notes.Part.{Part}
use Rattle.wf_frame.specs.declared.notes.Part.TheVariants.{Batch, Request as Starts}
use Rattle.wf_frame.specs.declared.notes.ReplyNote.TheVariants.{Send as Sends, Refused as Refuses}
use Rattle.wf_frame.specs.declared.notes.Refusal.TheVariants.{Idle, Full, Ahead}
use Rattle.wf_frame.specs.Calls.{no_limits}
use Rattle.wf_frame.specs.Answers.{part_sent, reply_with}
use Rattle.wf_frame.specs.Classes.{lower_tid, same_class}
use Rattle.wf_frame.specs.Frames.{FrameValue}
use Rattle.wf_def_lists.specs.Bounds.{greatest_air, least_ampdu, greatest_ampdu}
use Rattle.wf_def_lists.specs.Lengths.{greatest_body}
use Rattle.wf_def_rotation.specs.Rotation.{Rotation, has_key}
use Rattle.wf_def_agreement.specs.Session.{request_due}
use Rattle.wf_def_lists.specs.Table.{at}
use Rattle.wf_def_world.specs.World.{World, Bounds, Mpdu, Frames, Station, opening, no_station, is_live, station, session, on_station, with_station, on_share}
use Rattle.wf_def_world.specs.CanSend.{can_give, can_send, has_waiting, request_open}
use Rattle.wf_frame.specs.declared.settings.Config.{Config}
use Rattle.wf_def_world.specs.Run.{Entry, world_after}
use Rattle.wf_def_world.specs.Step.{step}
use Rattle.wf_def_world.specs.Exchanges.{aggregate_of, picked_station, after_pick, bounds_of, sending_tid, after_tid_turn, part_of}
use Rattle.wf_law_runs.specs.Rotations.{NoneReady}
use Rattle.wf_law_runs.proofs.Deficits.Books.{books}
use Rattle.wf_law_runs.proofs.Deficits.Kept.{IsKept}
use Rattle.wf_law_runs.proofs.Deficits.KeptStep.{kept}
use Rattle.wf_law_runs.proofs.Ranges.Law.{range_law}
use Rattle.wf_law_runs.proofs.Ranges.Traits.{Traits, traits_step}
use Rattle.wf_law_runs.proofs.Sent.Lengths.{IsStocked, stocked}
use Rattle.wf_law_runs.proofs.Sent.Some.{IsFit, fit, apt_picked, apt_turned, some_filled}
use Rattle.wf_sched.specs.ClassRotas.{SchedValue, IsAfterPick, class_rota, with_class_rota, pick_of_class, deficit}
use Rattle.wf_sched_refines.specs.Calls.{HasPickedInClass}
use Rattle.wf_sched_refines.specs.Standing.{SchedulerStandsFor as TurnsStandFor, TellsReady}
use Rattle.wf_sched_refines.proofs.Calls.{charge_fits}
use Rattle.wf_sched_refines.proofs.Picks.{pick_same}
use Rattle.wf_send_parts.specs.declared.exchanges.opened.Sending.{Sending}
use Rattle.wf_send_parts.specs.declared.exchanges.opened.Sending.TheVariants.{Data, Request as Starts_at}
use Rattle.wf_send_parts.proofs.Calls.{due_is}
use Rattle.wf_send_parts.specs.declared.stations.members.Member.{Member}
use Rattle.wf_send_parts.specs.Exchanges.{airtime_of}
use Rattle.wf_send_parts.specs.Members.{member, is_offloaded_in, with_upper}
use Rattle.wf_send_parts.specs.Windows.{window_of}
use Rattle.wf_send_half_model.specs.Half.{TransmitValue, is_plain_of, can_send_of, is_ahead_of}
use Rattle.wf_send_half_model.specs.Standing.{IsMember, AreBoth, IsReached, Parts, StandsFor, Meets}
use Rattle.wf_send_half_model.specs.Changes.{after_listing_in}
use Rattle.wf_send_half_model.specs.Filling.{after_pick_within, IsTurned}
use Rattle.wf_send_half_model.specs.Pulling.{sending_tid_of, after_turn, open_next, after_sending}
use Rattle.wf_send_half_model.proofs.Asked.{turn_sends, full_refused, ahead_refused, idle_refused, not_refused, none_ready_refused, some_ready_picked}
use Rattle.wf_send_half_model.proofs.Meets.{refused_meets}
use Rattle.wf_send_half_model.proofs.Openings.{opens_above, opens_small, opens_within}
use Rattle.wf_send_half_model.proofs.Pulls.{pick_parts, pick_within_parts, idle_pull, idle_pull_stays}
use Rattle.wf_send_half_model.proofs.Reached.{by_law, now_is}
use Rattle.wf_send_half_model.proofs.Readers.{can_send_same, live_same, ready_same}
use Rattle.wf_send_half_model.proofs.Sends.{winner_live, turn_tid, turned, request_meets, data_meets}
use Rattle.wf_send_parts.specs.Sent.{with_all_sent, with_one_sent}
use Rattle.wf_send_half.specs.Replies.{bodies_sent}
use Rattle.wf_send_half.specs.Pulls.{HasLengths, TakesAggregates, IsSameButFrames, IsPreparedAs, TellsWhoIsReady, IsPickedInClass, HasToPrepare, IsRequestDue, IsData, IsPreparedFor, pairs_of, start_sent, kind_of, kind_in}

-- ---- facts about the worlds of a run

traits_run : (h : List Entry) (w : World) → Traits w → Traits (world_after w h)
unfolding world_after
traits_run [] w i = i
traits_run (e ∷ es) w i = traits_run es (step w e.1).world (traits_step w e.1 i)

fit_reached : (w : World) → IsReached w → IsFit w
fit_reached w r =
    fit w (subst (λ (z : World). IsKept (books z)) (sym r.after) (kept w.config r.history r.in_range))
    (subst (IsStocked greatest_body) (sym r.after) (stocked greatest_body w.config r.history r.lengths.1))
    (subst Traits (sym r.after) (traits_run r.history (opening w.config) (λ s. tt)))

-- the numbers of a station that bound its aggregates are in their ranges
abbrev HasRanges : Station → Type 0
HasRanges x = (x.exponent ≤ 3) × IfSome x.ampdu (λ n. (least_ampdu ≤ n) × (n ≤ greatest_ampdu))

ranges_reached : (w : World) → IsReached w → (s : ℕ) → is_live w s ≡ true → HasRanges (station w s)
ranges_reached w r s = by_law (λ u. is_live u s ≡ true → HasRanges (station u s)) w r
    (λ m live. let k = (range_law w.config r.history r.in_range m).stations s live in (k.exponent, k.ampdu))

lengths_of : (m : Option Member) (o : Option Station) → AreBoth IsMember m o →
    (is_some o ≡ true → HasRanges (unwrap_or o no_station)) → IfSome m HasLengths
lengths_of None o h has = tt
lengths_of (Some m) None h has = absurd h
lengths_of (Some m) (Some x) h has = (
  omega (arith, h.exponent, (has refl).0),
  subst (λ (o : Option ℕ). IfSome o (λ n. (least_ampdu ≤ n) × (n ≤ greatest_ampdu))) (sym h.ampdu)
      (has refl).1,
)

pub takes_aggregates : (v : TransmitValue) (w : World) (bodies : ℕ → FrameValue) → StandsFor v w bodies →
    (s : ℕ) → TakesAggregates v s
takes_aggregates v w bodies h s = lengths_of (member v.members s) (at None w.stations s)
    (h.parts.others.stations.live s) (ranges_reached w h.reached s)

upper_takes : (o : Option Member) (c : Class) (b : Bool) → IfSome o HasLengths →
    IfSome (option_map (with_upper c b) o) HasLengths
upper_takes None c b h = tt
upper_takes (Some m) c b h = h

turn_takes : (v : TransmitValue) (s t : ℕ) (c : Class) → s < length v.members → TakesAggregates v s →
    TakesAggregates (after_turn v s c t) s
turn_takes v s t c low h =
    subst (λ (o : Option Member). IfSome o HasLengths)
    (sym (get_or-set_same v.members s (option_map (with_upper c (t == lower_tid c)) (member v.members s))
    None low))
    (upper_takes (member v.members s) c (t == lower_tid c) h)

turned_bounds : (w : World) (s : ℕ) (c : Class) (t : ℕ) → (after_tid_turn w s c t).bounds ≡ w.bounds
unfolding after_tid_turn on_share on_station with_station
turned_bounds w s c t = refl

last_small : (xs : List Open) (y : Open) → All (λ o. o.charge ≤ greatest_air) (xs ++ y ∷ []) →
    y.charge ≤ greatest_air
last_small [] y h = All-head (λ (o : Open). o.charge ≤ greatest_air) y [] h
last_small (x ∷ xs) y h = last_small xs y (All-tail (λ (o : Open). o.charge ≤ greatest_air) x (xs ++ y ∷
    []) h)

-- ---- frames, each with its number or, in a batch, without

-- the ids of an aggregate are those of its pairs
ids_of_pairs : (ms : List Mpdu) → map (λ m. m.id) ms ≡ map (λ p. p.0) (pairs_of ms)
ids_of_pairs [] = refl
ids_of_pairs (m ∷ ms) = ap (λ (l : List ℕ). m.id ∷ l) (ids_of_pairs ms)

-- the machine replies with the frames that the half wrote, as a batch, one by one or in an aggregate
part_same : (batch plain : Bool) (ms : List Mpdu) →
    part_of batch plain (Frames ms) ≡ part_sent None (kind_of batch plain) (pairs_of ms)
part_same false false ms = refl
part_same false true ms = refl
part_same true plain ms = ap (λ (l : List ℕ). Batch l) (ids_of_pairs ms)

-- the bodies after frames are sent do not depend on their numbers
ids_sent : (pairs : List (ℕ × ℕ)) (bodies : ℕ → FrameValue) →
    with_all_sent (map (λ id. (id, 0)) (map (λ p. p.0) pairs)) bodies ≡ with_all_sent pairs bodies
ids_sent [] bodies = refl
ids_sent (p ∷ pairs) bodies = ids_sent pairs (with_one_sent p.0 bodies)

-- the frames of a batch are sent again as others
sent_same : (kind : Kind) (e s t air : ℕ) (more eosp : Bool) (pairs : List (ℕ × ℕ))
    (bodies : ℕ → FrameValue) →
    bodies_sent (Sends e s t air (part_sent None kind pairs) more eosp) bodies ≡ with_all_sent pairs bodies
sent_same Kind.Aggregate e s t air more eosp pairs bodies = refl
sent_same Kind.Plain e s t air more eosp pairs bodies = refl
sent_same Kind.Batch e s t air more eosp pairs bodies = ids_sent pairs bodies

-- ---- the station that is picked

sends_data : (b x y : Bool) → (if b then x else y) ≡ true → b ≡ false → y ≡ true
sends_data true x y h quiet = absurd (cc quiet)
sends_data false x y h quiet = h

module _ {v u : TransmitValue} {w : World} {bodies : ℕ → FrameValue} {s : ℕ} {c : Class} {l : Limits}
    (h : IsPickedInClass v u w bodies s c l) where
  -- the world after the pick, with the bounds of the pull
  abbrev picked_in : World
  picked_in = after_pick_within w c l

  abbrev picked_half : TransmitValue
  picked_half = record v { sched = u.sched }

  pub tid_of : sending_tid_of u s c ≡ sending_tid picked_in s c
  tid_of = ap (λ (z : TransmitValue). sending_tid_of z s c) h.others
      ∙ turn_tid v w bodies h.stands c l s h.won u.sched h.picked

  picked_parts : Parts picked_half picked_in bodies
  picked_parts = pick_within_parts v w bodies c u.sched h.picked h.stands.parts l

  picked_within : s < length v.members
  picked_within = omega (
    arith,
    picked_parts.others.turns.live s (winner_live v w bodies h.stands c l s h.won),
    picked_parts.others.stations.sized.0,
  )

  pub live_picked : is_some (member u.members s) ≡ true
  live_picked =
      ap (λ (z : TransmitValue). is_some (member z.members s)) h.others
      ∙ live_same picked_half picked_in bodies s picked_parts
      ∙ winner_live v w bodies h.stands c l s h.won

  module _ {t : ℕ} (t_is : t ≡ sending_tid_of u s c) {y : TransmitValue} (y_is : y ≡ after_turn u s c t) where
    abbrev turned_world : World
    turned_world = after_tid_turn picked_in s c t

    own_tid : t ≡ sending_tid_of picked_half s c
    own_tid = t_is ∙ ap (λ (z : TransmitValue). sending_tid_of z s c) h.others

    half_is : y ≡ after_turn picked_half s c t
    half_is = y_is ∙ ap (λ (z : TransmitValue). after_turn z s c t) h.others

    pub turned_half : IsTurned y turned_world bodies s t
    turned_half = subst (λ (z : TransmitValue). IsTurned z turned_world bodies s t) (sym half_is)
        (turned v w bodies h.stands c l s h.won u.sched h.picked t own_tid)

    can_send_turned : can_send turned_world s t ≡ true
    can_send_turned =
        sym (can_send_same y turned_world bodies s t turned_half.parts turned_half.live turned_half.tid)
        ∙ ap (λ (z : TransmitValue). can_send_of z s t) half_is
        ∙ ap (λ (k : ℕ). can_send_of picked_half s k) own_tid
        ∙ turn_sends v w bodies h.stands c l s h.won u.sched h.picked

    -- the half keeps its settings
    same_settings : y.config ≡ w.config
    same_settings = ap (λ (z : TransmitValue). z.config) half_is ∙ h.stands.parts.others.config

    bounds_turned : (b : Bounds) → b ≡ bounds_of y.config c l → turned_world.bounds ≡ b
    bounds_turned b b_is = turned_bounds picked_in s c t
        ∙ ap (λ (k : Config). bounds_of k c l) (sym same_settings) ∙ sym b_is

    pub to_prepare : (b : Bounds) → b ≡ bounds_of y.config c l → HasToPrepare y s t b
    to_prepare b b_is = record {
      world = turned_world;
      bodies = bodies;
      turned = turned_half;
      bounds = bounds_turned b b_is;
      some = λ quiet.
          some_filled turned_world s t turned_half.live
          (sends_data (request_due (session turned_world s t)) (not (request_open turned_world s t))
          (has_waiting turned_world s t || can_give turned_world s t) can_send_turned quiet)
          (apt_turned picked_in s c t (apt_picked w c l (fit_reached w h.stands.reached)));
    }

    pub live_turned : is_some (member y.members s) ≡ true
    live_turned = live_same y turned_world bodies s turned_half.parts ∙ turned_half.live

    pub takes_turned : TakesAggregates y s
    takes_turned = subst (λ (z : TransmitValue). TakesAggregates z s) (sym half_is)
        (turn_takes picked_half s t c picked_within (takes_aggregates v w bodies h.stands s))

    -- ---- its transmissions

    module _ (b : Bounds) (b_is : b ≡ bounds_of y.config c l) (z : TransmitValue) (charge : ℕ)
        (pairs : List (ℕ × ℕ)) where
      request_sent : (start : ℕ) → IsRequestDue y z s t charge start →
          Meets w bodies (Asked (Pull c l))
          (after_listing_in (after_sending z s t c charge (Starts_at start)) s c)
          (Sends z.exchanges s t charge (Starts start) (open_next z s t c charge (Starts_at start)).more
          (open_next z s t c charge (Starts_at start)).eosp)
      request_sent start k =
          subst (λ (x : TransmitValue). Meets w bodies (Asked (Pull c l))
          (after_listing_in (after_sending x s t c charge (Starts_at start)) s c)
          (Sends x.exchanges s t charge (Starts start) (open_next x s t c charge (Starts_at start)).more
          (open_next x s t c charge (Starts_at start)).eosp))
          (sym k.same)
          (subst (λ (n : ℕ). Meets w bodies (Asked (Pull c l))
          (after_listing_in (after_sending y s t c charge (Starts_at n)) s c)
          (Sends y.exchanges s t charge (Starts n) (open_next y s t c charge (Starts_at n)).more
          (open_next y s t c charge (Starts_at n)).eosp))
          (sym k.start_is)
          (request_meets v w bodies h.stands c l s h.passes h.won t
          (t_is ∙ tid_of) y turned_half k.due charge k.charge_is))

      data_sent : (numbers : List ℕ) → IsData y z s t b charge pairs numbers →
          Meets w (with_all_sent pairs bodies) (Asked (Pull c l))
          (after_listing_in (after_sending z s t c charge (Data numbers)) s c)
          (Sends z.exchanges s t charge (part_sent None (kind_in z s t) pairs)
          (open_next z s t c charge (Data numbers)).more
          (open_next z s t c charge (Data numbers)).eosp)
      data_sent numbers k =
          let quiet : request_due (session turned_world s t) ≡ false =
          sym (due_is (window_of y.windows s t) (session turned_world s t) bodies
          (turned_half.parts.windows.all.stands s t turned_half.live turned_half.tid)) ∙ k.quiet in
          let p : IsPreparedAs z (aggregate_of turned_world s t) bodies s t charge numbers pairs =
          k.prepared turned_world bodies (record { turned = turned_half; quiet = quiet })
          (bounds_turned b b_is) in
          subst (λ (part : Part). Meets w (with_all_sent pairs bodies) (Asked (Pull c l))
          (after_listing_in (after_sending z s t c charge (Data numbers)) s c)
          (Sends z.exchanges s t charge part (open_next z s t c charge (Data numbers)).more
          (open_next z s t c charge (Data numbers)).eosp))
          (part_same (is_offloaded_in z.members s) (is_plain_of z s t) (aggregate_of turned_world s t).mpdus
          ∙ ap (part_sent None (kind_in z s t)) (sym p.pairs_are))
          (data_meets v w bodies h.stands c l s h.passes h.won t (t_is ∙ tid_of)
          (aggregate_of turned_world s t) refl quiet z p.world (with_all_sent pairs bodies) p.off charge
          numbers p.charge_is p.numbers_are)

      all_sent : (sending : Sending) → IsPreparedFor y z s t b charge pairs sending →
          Meets w (bodies_sent (reply_with (Send z.exchanges s t charge (start_sent sending)
          (kind_in z s t) (open_next z s t c charge sending).more
          (open_next z s t c charge sending).eosp) pairs []) bodies)
          (Asked (Pull c l)) (after_listing_in (after_sending z s t c charge sending) s c)
          (reply_with (Send z.exchanges s t charge (start_sent sending) (kind_in z s t)
          (open_next z s t c charge sending).more
          (open_next z s t c charge sending).eosp) pairs [])
      all_sent (Data numbers) k =
          let kind : Kind = kind_in z s t in
          let more : Bool = (open_next z s t c charge (Data numbers)).more in
          let eosp : Bool = (open_next z s t c charge (Data numbers)).eosp in
          subst (λ (f : ℕ → FrameValue). Meets w f (Asked (Pull c l))
          (after_listing_in (after_sending z s t c charge (Data numbers)) s c)
          (Sends z.exchanges s t charge (part_sent None kind pairs) more eosp))
          (sym (sent_same kind z.exchanges s t charge more eosp pairs bodies)) (data_sent numbers k)
      all_sent (Starts_at start) k = request_sent start k

      pub pull_done : (sending : Sending) → IsPreparedFor y z s t b charge pairs sending →
          {a : TransmitValue} →
          a ≡ after_listing_in (after_sending z s t c charge sending) s c →
          {brief : Brief} → brief ≡ Send z.exchanges s t charge (start_sent sending)
          (kind_in z s t) (open_next z s t c charge sending).more
          (open_next z s t c charge sending).eosp →
          Meets w (bodies_sent (reply_with brief pairs []) bodies) (Asked (Pull c l)) a
          (reply_with brief pairs [])
      pull_done sending k {a} a_is {brief} brief_is =
          subst (λ (x : TransmitValue). Meets w (bodies_sent (reply_with brief pairs []) bodies)
          (Asked (Pull c l)) x (reply_with brief pairs [])) (sym a_is)
          (subst (λ (b : Brief). Meets w (bodies_sent (reply_with b pairs []) bodies) (Asked (Pull c l))
          (after_listing_in (after_sending z s t c charge sending) s c) (reply_with b pairs []))
          (sym brief_is)
          (all_sent sending k))

      -- its charge is small, as that of each open exchange in the world of a run
      pub charge_small : (sending : Sending) → IsPreparedFor y z s t b charge pairs sending →
          charge ≤ greatest_air
      charge_small sending k =
          let a : TransmitValue = after_listing_in (after_sending z s t c charge sending) s c in
          last_small z.opened (open_next z s t c charge sending)
          (opens_small a (step w (Asked (Pull c l))).world _ (pull_done sending k refl refl).stands)

    -- its number is above those of all open exchanges
    pub opens_next : {z : TransmitValue} → IsSameButFrames y z → All (λ o. o.number < z.exchanges) z.opened
    opens_next same =
        subst (λ (x : TransmitValue). All (λ o. o.number < x.exchanges) x.opened) (sym same)
        (subst (λ (x : TransmitValue). All (λ o. o.number < x.exchanges) x.opened) (sym half_is)
        (opens_above v w bodies h.stands))

-- ---- refused as Full

few_open : (n m k : ℕ) → m < n → m ≡ k → nat_le n k ≡ false
few_open n m k h e = grind (arith, nat_tests)

many_open : (n m k : ℕ) → n ≤ m → m ≡ k → nat_le n k ≡ true
many_open n m k h e = grind (arith, nat_tests)

abbrev open_in : TransmitValue → Class → ℕ
open_in v c = count_by (λ x. same_class x.class c) v.opened

pub pull_full : {x v : TransmitValue} → x ≡ v → {w : World} {bodies : ℕ → FrameValue} →
    StandsFor v w bodies → {c : Class} {l : Limits} {n : ℕ} → n ≡ open_in x c → x.config.inflight ≤ n →
    Meets w bodies (Asked (Pull c l)) v (Refuses (Full n))
pull_full {x} {v} same {w} {bodies} h {c} {l} {n} is full =
    let at_x : StandsFor x w bodies = subst (λ (z : TransmitValue). StandsFor z w bodies) (sym same) h in
    subst (λ (z : TransmitValue). Meets w bodies (Asked (Pull c l)) z (Refuses (Full n))) same
    (subst (λ (k : ℕ). Meets w bodies (Asked (Pull c l)) x (Refuses (Full k))) (sym is)
    (refused_meets x w bodies (Asked (Pull c l)) (Full (open_in x c)) at_x
    (full_refused x w bodies c l at_x.parts (many_open x.config.inflight n (open_in x c) full is))
    (λ e. cc e)))

-- refused as Ahead
pub pull_ahead : {x v : TransmitValue} → x ≡ v → {w : World} {bodies : ℕ → FrameValue} →
    StandsFor v w bodies → {c : Class} {l : Limits} {n k : ℕ} → n ≡ open_in x c → n < x.config.inflight →
    is_ahead_of x ≡ true → k ≡ airtime_of x.opened → Meets w bodies (Asked (Pull c l)) v (Refuses (Ahead k))
pull_ahead {x} {v} same {w} {bodies} h {c} {l} {n} {k} is less ahead owed =
    let at_x : StandsFor x w bodies = subst (λ (z : TransmitValue). StandsFor z w bodies) (sym same) h in
    subst (λ (z : TransmitValue). Meets w bodies (Asked (Pull c l)) z (Refuses (Ahead k))) same
    (subst (λ (m : ℕ). Meets w bodies (Asked (Pull c l)) x (Refuses (Ahead m))) (sym owed)
    (refused_meets x w bodies (Asked (Pull c l)) (Ahead (airtime_of x.opened)) at_x
    (ahead_refused x w bodies c l at_x.parts (few_open x.config.inflight n (open_in x c) less is) ahead)
    (λ e. cc e)))

-- ---- the pick

-- x is the value of the fields of the half v
module _ {x v : TransmitValue} (same : x ≡ v) {w : World} {bodies : ℕ → FrameValue}
    (stands : StandsFor v w bodies) {c : Class} {ready : List Bool} (told : TellsWhoIsReady v c ready) {n : ℕ}
    (count : n ≡ open_in x c) (less : n < x.config.inflight) (behind : is_ahead_of x ≡ false) where
  at_x : StandsFor x w bodies
  at_x = subst (λ (z : TransmitValue). StandsFor z w bodies) (sym same) stands

  few : nat_le x.config.inflight (open_in x c) ≡ false
  few = few_open x.config.inflight n (open_in x c) less count

  pub room_next : length x.opened < 32
  room_next = opens_within x w bodies at_x c few

  tells : TellsReady w c ready
  tells s listed =
      let to_x : TellsWhoIsReady x c ready = subst (λ (z : TransmitValue). TellsWhoIsReady z c ready)
      (sym same) told in
      to_x.tells s (ap (λ (r : Rotation). has_key r s) (at_x.parts.others.turns.rotations c) ∙ listed)
      ∙ ready_same x w bodies c s at_x.parts

  -- with the setting `pending`, a pull that finds no ready station changes nothing
  pub pull_stays : {l : Limits} → (idle : Bool) → ((idle ≡ true) ↔ NoneReady w c) →
      ((x.config.pending == 1) && idle) ≡ true →
      Meets w bodies (Asked (Pull c l)) v (Refuses Idle)
  pull_stays {l} idle means stops =
      let both = and_parts (x.config.pending == 1) idle stops in
      subst (λ (z : TransmitValue). Meets w bodies (Asked (Pull c l)) z (Refuses Idle)) same
      (idle_pull_stays x w bodies at_x c l both.0
      (none_ready_refused x w bodies c l at_x.parts few behind (means.0 both.1)))

  winner_is : (picked_station w c).winner ≡ (pick_of_class x.sched c ready).winner
  winner_is = sym (pick_same x.sched w c ready at_x.parts.others.turns tells).winner

  module _ {turns : SchedValue} (after : IsAfterPick (class_rota x.sched c) (pick_of_class x.sched c ready)
      (class_rota turns c)) (others : turns ≡ with_class_rota x.sched c (class_rota turns c)) where
    has_picked : HasPickedInClass w c x.sched turns
    has_picked = record { ready = ready; tells = tells; turned = after; others = others }

    pub picked_one : (l : Limits) → {s : ℕ} → Some s ≡ (pick_of_class x.sched c ready).winner →
        IsPickedInClass x (record x { sched = turns }) w bodies s c l
    picked_one l {s} is = record {
      stands = at_x;
      passes = not_refused x w bodies c l at_x.parts few behind s (winner_is ∙ sym is);
      won = winner_is ∙ sym is;
      picked = has_picked;
      others = refl;
    }

    -- the deficit of the picked station is as in the world of a run, or more: a charge fits
    pub pick_fits : {s : ℕ} → Some s ≡ (pick_of_class x.sched c ready).winner → (air : ℕ) →
        air ≤ greatest_air → negsuc (2 ^ 62 - 1) ≤ℤ (deficit turns c s -ℤ pos air)
    pick_fits {s} is air few_air =
        let won : (picked_station w c).winner ≡ Some s = winner_is ∙ sym is in
        let parts : Parts (record x { sched = turns }) (after_pick w c) bodies =
        pick_parts x w bodies c turns has_picked at_x.parts in
        let live : is_live w s ≡ true =
        sym (live_same x w bodies s at_x.parts)
        ∙ live_same (record x { sched = turns }) (after_pick w c) bodies s parts
        ∙ winner_live x w bodies at_x c no_limits s won in
        let r : IsReached w = at_x.reached in
        let back = sym (now_is w r) in
        let low : negsuc (2 ^ 62 - 1) ≤ℤ (deficit x.sched c s -ℤ pos air) =
        charge_fits w.config r.history (length r.history) x.sched s c air r.in_range
        (subst (TurnsStandFor x.sched) back at_x.parts.others.turns)
        (subst (λ (u : World). is_live u s ≡ true) back live) (omega (arith, few_air)) in
        rises (deficit x.sched c s) (deficit turns c s) _ air (after.deficits s) low
      where
        rises : (d e : ℤ) (n m : ℕ) → e ≡ d +ℤ pos n → negsuc (2 ^ 62 - 1) ≤ℤ (d -ℤ pos m) →
            negsuc (2 ^ 62 - 1) ≤ℤ (e -ℤ pos m)
        rises d e n m is low = omega (arith, ints)

    -- No station is picked. With the setting `pending` this cannot be, as some station is ready.
    pub picked_none : {l : Limits} → (idle : Bool) → ((idle ≡ true) ↔ NoneReady w c) →
        ((x.config.pending == 1) && idle) ≡ false → None ≡ (pick_of_class x.sched c ready).winner →
        Meets w bodies (Asked (Pull c l)) (record x { sched = turns }) (Refuses Idle)
    picked_none {l} idle means goes is = by_setting (x.config.pending == 1) refl goes
      where
        none : (picked_station w c).winner ≡ None
        none = winner_is ∙ sym is

        by_setting : (b : Bool) → (x.config.pending == 1) ≡ b → (b && idle) ≡ false →
            Meets w bodies (Asked (Pull c l)) (record x { sched = turns }) (Refuses Idle)
        by_setting false off k = idle_pull x w bodies at_x c l turns off
            (idle_refused x w bodies c l at_x.parts few behind none) has_picked
        by_setting true on k = absurd (some_ready_picked w c at_x.reached
            (λ nobody. let no : true ≡ false = sym (means.1 nobody) ∙ k in cc no) none)

    -- with the setting `pending`, a pull that is not refused before the pick has a station to pick
    pub picked_some : (idle : Bool) → ((idle ≡ true) ↔ NoneReady w c) →
        ((x.config.pending == 1) && idle) ≡ false → v.config.pending ≡ 1 →
        None ≡ (pick_of_class x.sched c ready).winner → ⊥
    picked_some idle means goes on is =
        let on_x : x.config.pending ≡ 1 = subst (λ (z : TransmitValue). z.config.pending ≡ 1) (sym same) on in
        let off : idle ≡ false = ap (λ (k : ℕ). (k == 1) && idle) (sym on_x) ∙ goes in
        some_ready_picked w c at_x.reached
        (λ nobody. let no : true ≡ false = sym (means.1 nobody) ∙ off in cc no) (winner_is ∙ sym is)
