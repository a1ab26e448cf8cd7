-- Proves that a pull reads the same values from a half as from its world, and that the half refuses a pull
-- exactly if the machine does.
use Rattle.std.proofs.Common.{◌≡◌, refl, ap, ap₂, sym, ◌∙◌, subst, arith, ℕ, ◌+◌, ◌-◌, ◌<◌, Bool, true, false, if◌then◌else◌, [], ◌∷◌, length, Option, Some, None, is_some, is_none, option_map, unwrap_or}
use Rattle.std.specs.Prelude.{nat_le, IfSome, count_by}
use Rattle.wf_frame.specs.declared.classes.Class.{Class}
use Rattle.wf_frame.specs.Classes.{lower_tid, upper_tid, same_class, tid_number}
use Rattle.wf_frame.specs.declared.notes.Note.TheVariants.{Asked}
use Rattle.wf_frame.specs.declared.notes.Ask.TheVariants.{Pull}
use Rattle.wf_frame.specs.declared.notes.Limits.{Limits}
use Rattle.wf_frame.specs.declared.notes.Refusal.{Refusal}
use Rattle.wf_frame.specs.declared.notes.Refusal.TheVariants.{Full, Ahead, Idle}
use Rattle.wf_frame.specs.Frames.{FrameValue}
use Rattle.wf_def_air.specs.Airtime.{Rate}
use Rattle.wf_def_air.specs.Fit.{most_octets}
use Rattle.wf_def_codel.specs.Codel.{Params}
use Rattle.wf_def_codel.specs.Parameters.{params_at}
use Rattle.wf_def_lists.specs.Table.{at}
use Rattle.wf_def_world.specs.World.{World, Bounds, Station, no_station, is_live, station, share, rotation, codel_params, owed_by_all}
use Rattle.wf_def_world.specs.CanSend.{can_send, can_send_in, is_ready}
use Rattle.wf_def_world.specs.Exchanges.{frames_allowed, most_frames, station_need, picked_station, sending_tid}
use Rattle.wf_def_world.specs.Refusals.{open_of_class, is_at_aql_total, first_refusal, refusal}
use Rattle.wf_def_rotation.specs.Rotation.{has_key}
use Rattle.wf_law_rules.proofs.Lemmas.Counts.{listed-none}
use Rattle.wf_law_rules.proofs.Lemmas.Rotations.{pick_none}
use Rattle.wf_law_runs.specs.Rotations.{NoneReady}
use Rattle.wf_law_runs.proofs.Windows.Opened.{pick_ready}
use Rattle.wf_law_runs.proofs.Windows.Agreed.{sends, winner_ready}
use Rattle.wf_air.specs.Sizes.{AggregateSizeValue, empty_size}
use Rattle.wf_sched.specs.ClassRotas.{SchedValue}
use Rattle.wf_sched_refines.specs.Calls.{HasPickedInClass}
use Rattle.wf_queue_flows.specs.Flows.{TakenFromFlows, frames_of_tid, taken_for_tid as take_out}
use Rattle.wf_queue_flows_refines.specs.Standing.{flows_part}
use Rattle.wf_queue_flows_refines.proofs.Heads.{drops_counted}
use Rattle.wf_send_parts.specs.declared.stations.members.Member.{Member}
use Rattle.wf_send_parts.specs.Exchanges.{airtime_of}
use Rattle.wf_send_parts.specs.Members.{member}
use Rattle.wf_send_parts.specs.declared.stations.sleepers.Sleeper.{Sleeper}
use Rattle.wf_send_parts.specs.Sleepers.{sleeper}
use Rattle.wf_send_half_model.specs.Half.{TransmitValue, can_send_of, is_ahead_of}
use Rattle.wf_send_half_model.specs.Standing.{IsMember, AreBoth, IsReached, Parts, StandsFor}
use Rattle.wf_send_half_model.specs.Pulling.{sending_tid_of, is_wide_of, frames_allowed_of}
use Rattle.wf_send_half_model.specs.Filling.{after_pick_within, room_for}
use Rattle.wf_send_half_model.proofs.Pulls.{pick_within_parts, sending_same, sending_low, wide_same}
use Rattle.wf_send_half_model.proofs.Readers.{can_send_same, class_count_same, airtime_same, ahead_same}
use Rattle.wf_send_half_model.proofs.Sends.{from_winner, winner_live}
use Rattle.wf_send_half_model.proofs.Whole.{listed_where_ready}

-- ---- the station

read_member : {X : Type 0} (f : Member → X) (g : Station → X) →
    ((m : Member) (x : Station) → IsMember m x → f m ≡ g x) → (m : Option Member) (o : Option Station) →
    AreBoth IsMember m o → is_some o ≡ true → (k : X) → option_map f m ≡ Some k →
    k ≡ g (unwrap_or o no_station)
read_member f g same None None h live k e = absurd (cc live)
read_member f g same None (Some x) h live k e = absurd h
read_member f g same (Some m) None h live k e = absurd h
read_member f g same (Some m) (Some x) h live k e = let is : f m ≡ k = cc in sym is ∙ same m x h

module _ (v : TransmitValue) (w : World) (bodies : ℕ → FrameValue) (s : ℕ) (h : Parts v w bodies)
    (live : is_live w s ≡ true) (rate : Rate)
    (rate_is : option_map (λ m. m.rate) (member v.members s) ≡ Some rate) where
  pub rate_read : rate ≡ (station w s).rate
  rate_read = read_member (λ m. m.rate) (λ x. x.rate) (λ m x k. k.rate) (member v.members s)
      (at None w.stations s) (h.others.stations.live s) live rate rate_is

  pub params_read : params_at rate ≡ codel_params w s
  params_read = ap params_at rate_read

-- the member of a live station has its rate, its exponent, and its stated length of aggregates
member_read : (k : Member) (m : Option Member) (o : Option Station) → AreBoth IsMember m o →
    is_some o ≡ true →
    m ≡ Some k → IsMember k (unwrap_or o no_station)
member_read k None None h live e = absurd (cc live)
member_read k None (Some x) h live e = absurd h
member_read k (Some m) None h live e = absurd h
member_read k (Some m) (Some x) h live e =
    let is : m ≡ k = cc in subst (λ (z : Member). IsMember z x) is h

-- an empty aggregate with these limits
abbrev sized : Rate → ℕ → Option ℕ → ℕ → ℕ → ℕ → Bool → AggregateSizeValue
sized r exponent stated frames time answers wide =
    empty_size r (record { octets = most_octets r exponent stated; frames = frames; time = time }) answers
    wide

pub room_read : (v : TransmitValue) (w : World) (bodies : ℕ → FrameValue) (s : ℕ) → Parts v w bodies →
    is_live w s ≡ true → (m : Member) → member v.members s ≡ Some m → (t : ℕ) → t < 8 → (b : Bounds) →
    w.bounds ≡ b →
    empty_size m.rate (record {
      octets = most_octets m.rate m.exponent m.ampdu;
      frames = frames_allowed_of (sleeper v.sleepers s) m.rate b;
      time = b.air;
    }) v.config.answers (is_wide_of v s t) ≡ room_for w s t
room_read v w bodies s h live m is t low b bounds =
    let x : Station = station w s in
    let k : IsMember m x = member_read m (member v.members s) (at None w.stations s)
    (h.others.stations.live s) live is in
    let wide : Bool = is_wide_of v s t in
    ap₂ (λ (r : Rate) (n : ℕ). sized r n m.ampdu
    (frames_allowed_of (sleeper v.sleepers s) r b) b.air v.config.answers wide) k.rate k.exponent
    ∙ ap₂ (λ (o : Option ℕ) (y : Sleeper). sized x.rate x.exponent o (frames_allowed_of y x.rate b) b.air
    v.config.answers wide) k.ampdu (h.others.stations.rests s live)
    ∙ ap₂ (λ (c : Bounds) (n : ℕ). sized x.rate x.exponent x.ampdu (frames_allowed x c) c.air n wide)
    (sym bounds) (ap (λ c. c.answers) h.others.config)
    ∙ ap (sized x.rate x.exponent x.ampdu (most_frames w s) w.bounds.air w.config.answers)
    (wide_same v w bodies s t h live low)

-- ---- a take

pub drops_read : (v : TransmitValue) (w : World) (bodies : ℕ → FrameValue) (s t : ℕ) → Parts v w bodies →
    is_live w s ≡ true → t < 8 → (params : Params) (f : FrameValue) →
    (take_out v.flows (tid_number s t) v.clock params).frame ≡ Some f →
    frames_of_tid v.flows (tid_number s t) - 1 - frames_of_tid
    (take_out v.flows (tid_number s t) v.clock params).flows (tid_number s t)
    ≡ length (take_out v.flows (tid_number s t) v.clock params).flows.backlog.finished - length
    v.flows.backlog.finished
drops_read v w bodies s t h live low params f out =
    let i : ℕ = tid_number s t in
    let st = h.others.flows in
    let within : i < length v.flows.rotas.lists =
    omega (arith, h.others.turns.live s live, low, st.sized.lists, ap (λ x. x.stations) st.settings) in
    go (take_out v.flows i v.clock params) out (drops_counted v.flows
    (flows_part w) st i within v.clock params)
  where
    go : (x : TakenFromFlows) → x.frame ≡ Some f →
        IfSome x.frame (λ g. length x.flows.backlog.finished + frames_of_tid x.flows (tid_number s t) + 1
        ≡ length v.flows.backlog.finished + frames_of_tid v.flows (tid_number s t)) →
        frames_of_tid v.flows (tid_number s t) - 1 - frames_of_tid x.flows (tid_number s t)
        ≡ length x.flows.backlog.finished - length v.flows.backlog.finished
    go x e k = let sum = from_winner_of x.frame e k in omega (arith, sum)
      where
        from_winner_of : (o : Option FrameValue) → o ≡ Some f →
            IfSome o (λ g. length x.flows.backlog.finished + frames_of_tid x.flows (tid_number s t) + 1
            ≡ length v.flows.backlog.finished + frames_of_tid v.flows (tid_number s t)) →
            length x.flows.backlog.finished + frames_of_tid x.flows (tid_number s t) + 1
            ≡ length v.flows.backlog.finished + frames_of_tid v.flows (tid_number s t)
        from_winner_of None e k = absurd (cc e)
        from_winner_of (Some g) e k = k

-- ---- who sends

pub turn_sends : (v : TransmitValue) (w : World) (bodies : ℕ → FrameValue) → StandsFor v w bodies →
    (c : Class) (l : Limits) (s : ℕ) → (picked_station w c).winner ≡ Some s → (turns : SchedValue) →
    HasPickedInClass w c v.sched turns →
    can_send_of (record v { sched = turns }) s (sending_tid_of (record v { sched = turns }) s c) ≡ true
turn_sends v w bodies h c l s won turns picked =
    let x : TransmitValue = record v { sched = turns } in
    let u : World = after_pick_within w c l in
    let k : Parts x u bodies = pick_within_parts v w bodies c turns picked h.parts l in
    let live : is_live u s ≡ true = winner_live v w bodies h c l s won in
    let can : can_send_in u s c ≡ true = (from_winner (picked_station w c).winner s
    (λ i. (is_live u i ≡ true) × (can_send_in u i c ≡ true)) won (winner_ready w c l)).1 in
    ap (can_send_of x s) (sending_same x u bodies s c k live)
    ∙ can_send_same x u bodies s (sending_tid u s c) k live (sending_low x u bodies s c k live)
    ∙ sends (can_send u s) (share u s c).upper (lower_tid c) (upper_tid c) can

-- ---- refusals

three_rows : (a b d : Bool) (r q k : Refusal) → first_refusal ((a, r) ∷ (b, q) ∷ (d, k) ∷ [])
    ≡ (if a then Some r else if b then Some q else if d then Some k else None)
unfolding first_refusal
three_rows a b d r q k = refl

-- what the rows of a pull give, by their tests
abbrev judged_by : ℕ → ℕ → Bool → Bool → Bool → Option Refusal
judged_by count airtime full ahead idle =
    if full then Some (Full count) else if ahead then Some (Ahead airtime)
    else if idle then Some Idle else None

module _ (v : TransmitValue) (w : World) (bodies : ℕ → FrameValue) (c : Class) (l : Limits)
    (h : Parts v w bodies) where
  abbrev nobody : Bool
  nobody = is_none (picked_station w c).winner

  abbrev judged : Bool → Bool → Bool → Option Refusal
  judged = judged_by (open_of_class w c) (owed_by_all w.opened)

  rows_are : refusal w (Asked (Pull c l))
      ≡ judged (nat_le w.config.inflight (open_of_class w c)) (is_at_aql_total w) nobody
  rows_are = three_rows (nat_le w.config.inflight (open_of_class w c)) (is_at_aql_total w) nobody
      (Full (open_of_class w c)) (Ahead (owed_by_all w.opened)) Idle

  count_read : count_by (λ x. same_class x.class c) v.opened ≡ open_of_class w c
  count_read = class_count_same v w bodies c h

  test_read : nat_le v.config.inflight (count_by (λ x. same_class x.class c) v.opened)
      ≡ nat_le w.config.inflight (open_of_class w c)
  test_read = ap₂ (λ (n m : ℕ). nat_le n m) (ap (λ x. x.inflight) h.others.config) count_read

  pub full_refused : nat_le v.config.inflight (count_by (λ x. same_class x.class c) v.opened) ≡ true →
      refusal w (Asked (Pull c l)) ≡ Some (Full (count_by (λ x. same_class x.class c) v.opened))
  full_refused full =
      rows_are
      ∙ ap (λ (b : Bool). judged b (is_at_aql_total w) nobody) (sym test_read ∙ full)
      ∙ ap (λ (n : ℕ). Some (Full n)) (sym count_read)

  module _ (few : nat_le v.config.inflight (count_by (λ x. same_class x.class c) v.opened) ≡ false) where
    with_room : refusal w (Asked (Pull c l)) ≡ judged false (is_at_aql_total w) nobody
    with_room = rows_are ∙ ap (λ (b : Bool). judged b (is_at_aql_total w) nobody) (sym test_read ∙ few)

    pub ahead_refused : is_ahead_of v ≡ true →
        refusal w (Asked (Pull c l)) ≡ Some (Ahead (airtime_of v.opened))
    ahead_refused ahead =
        with_room
        ∙ ap (λ (b : Bool). judged false b nobody) (sym (ahead_same v w bodies h) ∙ ahead)
        ∙ ap (λ (n : ℕ). Some (Ahead n)) (sym (airtime_same v w bodies h))

    module _ (behind : is_ahead_of v ≡ false) where
      by_winner : (o : Option ℕ) → (picked_station w c).winner ≡ o →
          refusal w (Asked (Pull c l)) ≡ (if is_none o then Some Idle else None)
      by_winner o is =
          with_room
          ∙ ap (λ (b : Bool). judged false b nobody) (sym (ahead_same v w bodies h) ∙ behind)
          ∙ ap (λ (z : Option ℕ). if is_none z then Some Idle else None) is

      pub idle_refused : (picked_station w c).winner ≡ None → refusal w (Asked (Pull c l)) ≡ Some Idle
      idle_refused none = by_winner None none

      pub not_refused : (s : ℕ) → (picked_station w c).winner ≡ Some s → refusal w (Asked (Pull c l)) ≡ None
      not_refused s won = by_winner (Some s) won

      idle_only : (o : Option ℕ) → (picked_station w c).winner ≡ o →
          refusal w (Asked (Pull c l)) ≡ Some Idle →
          o ≡ None
      idle_only None is idle = refl
      idle_only (Some s) is idle =
          absurd (let e : None ≡ Some Idle = sym (by_winner (Some s) is) ∙ idle in cc e)

      -- if no station is ready, the pull is refused as Idle
      pub none_ready_refused : NoneReady w c → refusal w (Asked (Pull c l)) ≡ Some Idle
      none_ready_refused nobody_ready = idle_refused (unpicked (picked_station w c).winner
          (pick_ready (station_need w c) (is_ready w c) (rotation w c)))
        where
          unpicked : (o : Option ℕ) → IfSome o (λ k. is_ready w c k ≡ true) → o ≡ None
          unpicked None is = refl
          unpicked (Some k) is = absurd (let e : true ≡ false = sym is ∙ nobody_ready k in cc e)

-- in the world of a run, a station is picked if one is ready, since it is listed
pub some_ready_picked : (w : World) (c : Class) → IsReached w → (NoneReady w c → ⊥) →
    (picked_station w c).winner ≡ None → ⊥
some_ready_picked w c r some none = some (λ s. not_ready s (is_ready w c s) refl)
  where
    not_ready : (s : ℕ) (b : Bool) → is_ready w c s ≡ b → is_ready w c s ≡ false
    not_ready s false e = e
    not_ready s true e =
        let off : has_key (rotation w c) s ≡ false =
        listed-none (rotation w c) s
        (pick_none (station_need w c) (is_ready w c) (rotation w c) none s e) in
        absurd (let no : true ≡ false = sym (listed_where_ready w r s c e) ∙ off in cc no)
