-- Proves a whole pull: the picked station sends a request or an aggregate, and the half represents the world
-- after the step.
use Rattle.std.proofs.Common.{◌||◌, ◌≡◌, refl, ap, ap₂, sym, ◌∙◌, subst, arith, ℕ, ◌<◌, Bool, true, false, if◌then◌else◌, List, [], Option, Some, None, is_some, unwrap_or}
use Rattle.std.specs.Prelude.{IfSome}
use Rattle.wf_frame.specs.declared.classes.Class.{Class}
use Rattle.wf_frame.specs.declared.notes.Note.TheVariants.{Asked}
use Rattle.wf_frame.specs.declared.notes.Ask.TheVariants.{Pull}
use Rattle.wf_frame.specs.declared.notes.Limits.{Limits}
use Rattle.wf_frame.specs.declared.notes.Part.TheVariants.{Request as Starts}
use Rattle.wf_frame.specs.declared.notes.ReplyNote.{ReplyNote}
use Rattle.wf_frame.specs.declared.notes.ReplyNote.TheVariants.{Send}
use Rattle.wf_frame.specs.Frames.{FrameValue}
use Rattle.wf_def_air.specs.Airtime.{Rate, is_single, data_charge, plain_charge, request_charge}
use Rattle.wf_def_lists.specs.Table.{at}
use Rattle.wf_def_air.specs.Fit.{aggregate_octets, plain_octets}
use Rattle.wf_def_agreement.specs.Session.{request_due}
use Rattle.wf_def_world.specs.World.{World, Station, Frames, no_station, is_live, is_wide, is_plain, station, session}
use Rattle.wf_def_world.specs.CanSend.{can_send_in}
use Rattle.wf_def_world.specs.Exchanges.{picked_station, sending_tid, after_tid_turn, lens_of, Aggregate, aggregate_of, with_flying, Prepared, aggregate_charge, prepared_data, prepared_request, prepared_exchange, part_of}
use Rattle.wf_def_world.specs.Refusals.{refusal}
use Rattle.wf_def_world.specs.Step.{Outcome, send_outcome, pull_outcome_for, pull_outcome, outcome_of}
use Rattle.wf_law_runs.proofs.Windows.Agreed.{winner_ready}
use Rattle.wf_air.specs.Sizes.{AggregateSizeValue}
use Rattle.wf_sched.specs.ClassRotas.{SchedValue}
use Rattle.wf_sched_refines.specs.Calls.{HasPickedInClass}
use Rattle.wf_send_parts.specs.declared.exchanges.opened.Sending.TheVariants.{Data, Request as Starts_at}
use Rattle.wf_send_parts.proofs.Calls.{due_is}
use Rattle.wf_send_parts.specs.declared.stations.members.Member.{Member}
use Rattle.wf_send_parts.specs.Members.{member, is_offloaded_in}
use Rattle.wf_send_parts.specs.Windows.{window_of}
use Rattle.wf_send_half_model.specs.Half.{TransmitValue, is_plain_of}
use Rattle.wf_send_half_model.specs.Standing.{IsMember, AreBoth, numbers_on_air, sending_of, Parts, StandsFor, Meets}
use Rattle.wf_send_half_model.specs.Changes.{after_listing_in}
use Rattle.wf_send_half_model.specs.Pulling.{sending_tid_of, after_turn, is_wide_of, open_next, after_sending}
use Rattle.wf_send_half_model.specs.Filling.{after_pick_within, room_for, charge_in, IsTakingOff, IsTurned, IsFilled}
use Rattle.wf_send_half_model.specs.Views.{Agreements}
use Rattle.wf_send_half_model.proofs.Views.{agreements_session, agreements_share}
use Rattle.wf_send_half_model.proofs.Flies.{off_ends}
use Rattle.wf_send_half_model.proofs.Meets.{listed_in_meets}
use Rattle.wf_send_half_model.proofs.OneClass.{pull_listed}
use Rattle.wf_send_half_model.proofs.Pulls.{pick_within_parts, sending_same, sending_low, turn_parts, send_parts, send_reply, wide_same}
use Rattle.wf_send_half_model.proofs.Readers.{plain_same}

-- ---- the picked station has its turn

pub from_winner : (o : Option ℕ) (s : ℕ) (P : ℕ → Type 0) → o ≡ Some s → IfSome o P → P s
from_winner None s P e h = absurd (cc e)
from_winner (Some k) s P e h = let same : k ≡ s = cc in subst P same h

turn_live : (w : World) (s t : ℕ) (c : Class) → is_live w s ≡ true → is_live (after_tid_turn w s c t) s ≡ true
unfolding after_tid_turn
turn_live w s t c live = ap (λ (a : Agreements). a.live s) (agreements_share w s c _) ∙ live

module _ (v : TransmitValue) (w : World) (bodies : ℕ → FrameValue) (h : StandsFor v w bodies) (c : Class)
    (l : Limits) (s : ℕ) (won : (picked_station w c).winner ≡ Some s) where
  -- the world after the pick, with the bounds of the pull
  abbrev picked_in : World
  picked_in = after_pick_within w c l

  pub winner_live : is_live picked_in s ≡ true
  winner_live = (from_winner (picked_station w c).winner s
      (λ k. (is_live picked_in k ≡ true) × (can_send_in picked_in k c ≡ true)) won
      (winner_ready w c l)).0

  module _ (turns : SchedValue) (picked : HasPickedInClass w c v.sched turns) where
    picks : Parts (record v { sched = turns }) picked_in bodies
    picks = pick_within_parts v w bodies c turns picked h.parts l

    pub turn_tid : sending_tid_of (record v { sched = turns }) s c ≡ sending_tid picked_in s c
    turn_tid = sending_same (record v { sched = turns }) picked_in bodies s c picks winner_live

    pub turned : (t : ℕ) → t ≡ sending_tid_of (record v { sched = turns }) s c →
        IsTurned (after_turn (record v { sched = turns }) s c t)
        (after_tid_turn picked_in s c t) bodies s t
    turned t is = record {
      parts = turn_parts (record v { sched = turns }) picked_in bodies s c t
          (picks.others.turns.live s winner_live) picks;
      live = turn_live picked_in s t c winner_live;
      tid = omega (
        arith,
        is,
        turn_tid,
        sending_low (record v { sched = turns })
            picked_in bodies s c picks winner_live,
      );
      underway = record { before = w; reached = h.reached; class = c; limits = l; given = 0; is = refl };
    }

-- ---- the exchange that is sent

pull_for : (w : World) (c : Class) (s : ℕ) → pull_outcome_for w c (Some s)
    ≡ send_outcome s (sending_tid w s c) c (prepared_exchange (after_tid_turn w s c (sending_tid w s c)) s
    (sending_tid w s c))
unfolding pull_outcome_for
pull_for w c s = refl

pull_is : (w : World) (c : Class) (l : Limits) → outcome_of w (Asked (Pull c l))
    ≡ pull_outcome_for (after_pick_within w c l) c (picked_station w c).winner
unfolding outcome_of pull_outcome
pull_is w c l = refl

if_due : (b : Bool) (p q : Prepared) → b ≡ true → (if b then p else q) ≡ p
if_due true p q e = refl
if_due false p q e = absurd (cc e)

if_not_due : (b : Bool) (p q : Prepared) → b ≡ false → (if b then p else q) ≡ q
if_not_due true p q e = absurd (cc e)
if_not_due false p q e = refl

due_prepared : (w : World) (s t : ℕ) → request_due (session w s t) ≡ true →
    prepared_exchange w s t ≡ prepared_request w s t
unfolding prepared_exchange
due_prepared w s t due = if_due (request_due (session w s t)) _ _ due

quiet_prepared : (w : World) (s t : ℕ) → request_due (session w s t) ≡ false →
    prepared_exchange w s t ≡ prepared_data s t (aggregate_of w s t)
unfolding prepared_exchange
quiet_prepared w s t quiet = if_not_due (request_due (session w s t)) _ _ quiet

-- a request is charged by the rate of its station's member, which is that of the station
charged_as : (x : TransmitValue) (u : World) (bodies : ℕ → FrameValue) (s t charge : ℕ) → Parts x u bodies →
    is_live u s ≡ true → t < 8 →
    IfSome (member x.members s) (λ m. charge ≡ request_charge x.config.answers m.rate (is_wide_of x s t)) →
    charge ≡ request_charge u.config.answers (station u s).rate (is_wide u s t)
charged_as x u bodies s t charge h live low charge_is =
    go (member x.members s) (at None u.stations s) (h.others.stations.live s) live charge_is
    ∙ ap₂ (λ (n : ℕ) (b : Bool). request_charge n (station u s).rate b)
    (ap (λ k. k.answers) h.others.config) (wide_same x u bodies s t h live low)
  where
    go : (m : Option Member) (o : Option Station) → AreBoth IsMember m o → is_some o ≡ true →
        IfSome m (λ k. charge ≡ request_charge x.config.answers k.rate (is_wide_of x s t)) →
        charge ≡ request_charge x.config.answers (unwrap_or o no_station).rate (is_wide_of x s t)
    go None None both some e = absurd (cc some)
    go None (Some y) both some e = absurd both
    go (Some m) None both some e = absurd both
    go (Some m) (Some y) both some e =
        e ∙ ap (λ (r : Rate). request_charge x.config.answers r (is_wide_of x s t)) both.rate

module _ (v : TransmitValue) (w : World) (bodies : ℕ → FrameValue) (h : StandsFor v w bodies) (c : Class)
    (l : Limits) (s : ℕ) (done : refusal w (Asked (Pull c l)) ≡ None)
    (won : (picked_station w c).winner ≡ Some s) (t : ℕ)
    (t_is : t ≡ sending_tid (after_pick_within w c l) s c) where
  -- the world after the pick, with the bounds of the pull, and the one after the turn
  abbrev w0 : World
  w0 = after_pick_within w c l

  abbrev w1 : World
  w1 = after_tid_turn w0 s c t

  sent_meets : (sent : ℕ → FrameValue) (p : Prepared) → prepared_exchange w1 s t ≡ p →
      (x : TransmitValue) → Parts x p.world sent →
      is_live p.world s ≡ true → t < 8 →
      Meets w sent (Asked (Pull c l)) (after_listing_in
      (after_sending x s t c p.charge (sending_of p.content)) s c)
      (Send x.exchanges s t p.charge (part_of (is_offloaded_in x.members s) (is_plain_of x s t) p.content)
      (open_next x s t c p.charge (sending_of p.content)).more
      (open_next x s t c p.charge (sending_of p.content)).eosp)
  sent_meets sent p is x parts live low =
      let all : outcome_of w (Asked (Pull c l)) ≡ send_outcome s t c p =
      pull_is w c l ∙ ap (pull_outcome_for w0 c) won ∙ pull_for w0 c s
      ∙ ap (λ (k : ℕ). send_outcome s k c (prepared_exchange (after_tid_turn w0 s c k) s k))
      (sym t_is) ∙ ap (send_outcome s t c) is in
      let half : TransmitValue = after_sending x s t c p.charge (sending_of p.content) in
      subst (λ (r : ReplyNote). Meets w sent (Asked (Pull c l)) (after_listing_in half s c) r)
      (ap (λ (o : Outcome). o.reply) all ∙ sym (send_reply x sent s t c p parts live low))
      (listed_in_meets half w sent (Asked (Pull c l)) h.reached tt tt done
      (subst (λ (o : Outcome). Parts half o.world sent) (sym all)
      (send_parts x sent s t c p parts live low)) s c won (pull_listed w c l s h.reached won))

  -- a request
  pub request_meets : (x : TransmitValue) → IsTurned x w1 bodies s t →
      is_some (window_of x.windows s t).due ≡ true → (charge : ℕ) →
      IfSome (member x.members s) (λ m. charge ≡ request_charge x.config.answers m.rate (is_wide_of x s t)) →
      Meets w bodies (Asked (Pull c l)) (after_listing_in
      (after_sending x s t c charge (Starts_at (window_of x.windows s t).start)) s c)
      (Send x.exchanges s t charge (Starts (window_of x.windows s t).start)
      (open_next x s t c charge (Starts_at (window_of x.windows s t).start)).more
      (open_next x s t c charge (Starts_at (window_of x.windows s t).start)).eosp)
  request_meets x to due charge charge_is =
      let stands = to.parts.windows.all.stands s t to.live to.tid in
      let is_due : request_due (session w1 s t) ≡ true =
      sym (due_is (window_of x.windows s t) (session w1 s t) bodies stands) ∙ due in
      let meets = sent_meets bodies (prepared_request w1 s t) (due_prepared w1 s t is_due) x to.parts to.live
      to.tid in
      subst (λ (n : ℕ). Meets w bodies (Asked (Pull c l))
      (after_listing_in (after_sending x s t c n (Starts_at (window_of x.windows s t).start)) s c)
      (Send x.exchanges s t n (Starts (window_of x.windows s t).start)
      (open_next x s t c n (Starts_at (window_of x.windows s t).start)).more
      (open_next x s t c n (Starts_at (window_of x.windows s t).start)).eosp))
      (sym (charged_as x w1 bodies s t charge to.parts to.live to.tid charge_is))
      (subst (λ (k : ℕ). Meets w bodies (Asked (Pull c l))
      (after_listing_in (after_sending x s t c (prepared_request w1 s t).charge (Starts_at k)) s c)
      (Send x.exchanges s t (prepared_request w1 s t).charge (Starts k)
      (open_next x s t c (prepared_request w1 s t).charge (Starts_at k)).more
      (open_next x s t c (prepared_request w1 s t).charge (Starts_at k)).eosp))
      (sym stands.start) meets)

  -- an aggregate
  data_sent : (a : Aggregate) → aggregate_of w1 s t ≡ a → request_due (session w1 s t) ≡ false →
      (x : TransmitValue) (sent : ℕ → FrameValue) → Parts x (prepared_data s t a).world sent →
      is_live (prepared_data s t a).world s ≡ true → t < 8 →
      Meets w sent (Asked (Pull c l)) (after_listing_in
      (after_sending x s t c (aggregate_charge s t a) (Data (numbers_on_air a.mpdus))) s c)
      (Send x.exchanges s t (aggregate_charge s t a)
      (part_of (is_offloaded_in x.members s) (is_plain_of x s t) (Frames a.mpdus))
      (open_next x s t c (aggregate_charge s t a) (Data (numbers_on_air a.mpdus))).more
      (open_next x s t c (aggregate_charge s t a) (Data (numbers_on_air a.mpdus))).eosp)
  unfolding prepared_data
  data_sent a is quiet x sent parts live low = sent_meets sent (prepared_data s t a)
      (quiet_prepared w1 s t quiet ∙ ap (prepared_data s t) is) x parts live low

  pub data_meets : (a : Aggregate) → aggregate_of w1 s t ≡ a → request_due (session w1 s t) ≡ false →
      (x : TransmitValue) (u : World) (sent : ℕ → FrameValue) → IsTakingOff x u sent s t a.world.exchanges []
      (prepared_data s t a).world →
      (charge : ℕ) (numbers : List ℕ) → charge ≡ aggregate_charge s t a → numbers ≡ numbers_on_air a.mpdus →
      Meets w sent (Asked (Pull c l)) (after_listing_in (after_sending x s t c charge (Data numbers)) s c)
      (Send x.exchanges s t charge
      (part_of (is_offloaded_in x.members s) (is_plain_of x s t) (Frames a.mpdus))
      (open_next x s t c charge (Data numbers)).more
      (open_next x s t c charge (Data numbers)).eosp)
  data_meets a is quiet x u sent left charge numbers charge_is numbers_is =
      let live : is_live (prepared_data s t a).world s ≡ true =
      ap (λ (z : World). is_live z s) (sym left.leads)
      ∙ ap (λ (z : Agreements). z.live s) (agreements_session u s t
      (with_flying a.world.exchanges []) left.live) ∙ left.live in
      let meets = data_sent a is quiet x sent (off_ends x u sent s t a.world.exchanges
      (prepared_data s t a).world left) live left.tid in
      subst (λ (n : ℕ). Meets w sent (Asked (Pull c l))
      (after_listing_in (after_sending x s t c n (Data numbers)) s c)
      (Send x.exchanges s t n (part_of (is_offloaded_in x.members s) (is_plain_of x s t) (Frames a.mpdus))
      (open_next x s t c n (Data numbers)).more
      (open_next x s t c n (Data numbers)).eosp)) (sym charge_is)
      (subst (λ (ns : List ℕ). Meets w sent (Asked (Pull c l))
      (after_listing_in (after_sending x s t c (aggregate_charge s t a) (Data ns)) s c)
      (Send x.exchanges s t (aggregate_charge s t a)
      (part_of (is_offloaded_in x.members s) (is_plain_of x s t) (Frames a.mpdus))
      (open_next x s t c (aggregate_charge s t a) (Data ns)).more
      (open_next x s t c (aggregate_charge s t a) (Data ns)).eosp)) (sym numbers_is) meets)

-- ---- its charge

-- the charge that the half computes, by whether the TID has an agreement
charge_is : (b : Bool) (w : World) (s t count octets : ℕ) (lens : List ℕ) →
    charge_in (record (room_for w s t) { count = count; octets = octets }) b lens
    ≡ (if b || is_single (station w s).rate
    then plain_charge w.config.answers (station w s).rate (plain_octets (station w s).rate lens)
    else data_charge w.config.answers (station w s).rate (aggregate_octets lens) (is_wide w s t))
charge_is b w s t count octets lens = refl

pub filled_charge : (v : TransmitValue) (bodies : ℕ → FrameValue) (s t : ℕ) (room : AggregateSizeValue)
    (numbers : List ℕ) (a : Aggregate) → IsFilled v bodies s t room numbers a →
    charge_in room (is_plain_of v s t) (lens_of a.world.config.overhead a.mpdus) ≡ aggregate_charge s t a
filled_charge v bodies s t room numbers a h =
    let lens : List ℕ = lens_of a.world.config.overhead a.mpdus in
    ap (λ (b : Bool). charge_in room b lens) (plain_same v a.world bodies s t h.parts h.live h.tid)
    ∙ ap (λ (r : AggregateSizeValue). charge_in r (is_plain a.world s t) lens) h.room_is.settings
    ∙ charge_is (is_plain a.world s t) a.world s t room.count room.octets lens
