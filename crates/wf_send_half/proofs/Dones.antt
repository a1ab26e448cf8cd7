-- Proves what a Done does to the half from what it does to its parts.
use Rattle.std.proofs.Common.{◌≡◌, refl, ap, ap₂, sym, ◌∙◌, subst, arith, ℕ, ◌-◌, ◌^◌, ◌<◌, ◌≤◌, ◌==◌, pos, negsuc, ◌+ℤ◌, ◌-ℤ◌, ◌≤ℤ◌, Bool, true, false, not, List, [], ◌∷◌, length, Option, Some, None, is_none, option_map, unwrap_or, if◌then◌else◌, is_some, ◌&&◌}
use Rattle.std.specs.Prelude.{find, filter, IfSome, IfNone}
use Rattle.wf_frame.specs.declared.notes.Note.TheVariants.{Asked}
use Rattle.wf_frame.specs.declared.notes.Ask.TheVariants.{Done}
use Rattle.wf_frame.specs.declared.notes.ReplyNote.{ReplyNote}
use Rattle.wf_frame.specs.declared.notes.ReplyNote.TheVariants.{Refused}
use Rattle.wf_frame.specs.declared.notes.Refusal.{Refusal}
use Rattle.wf_frame.specs.declared.notes.Refusal.TheVariants.{NoExchange, NoAnswer, BadAir}
use Rattle.wf_frame.specs.declared.settings.Config.{Config}
use Rattle.wf_frame.specs.declared.classes.Class.{Class}
use Rattle.wf_frame.specs.Classes.{class_of}
use Rattle.wf_frame.specs.Frames.{FrameValue}
use Rattle.std.specs.List.{list_all}
use Rattle.wf_def_agreement.specs.Receiver.{Score, shows}
use Rattle.wf_def_agreement.specs.Session.{End}
use Rattle.wf_def_lists.specs.Table.{has, upto}
use Rattle.wf_def_world.specs.World.{World, Exchange, Mpdu, Content, Frames, Request, exchange, is_live, is_wide}
use Rattle.wf_def_world.specs.CanSend.{is_request}
use Rattle.wf_def_world.specs.Exchanges.{mpdus_of, is_acked, numbers_unsent, charge_of}
use Rattle.wf_law_runs.specs.Delivery.{is_batch}
use Rattle.wf_def_world.specs.Refusals.{refusal}
use Rattle.wf_frame.specs.Settings.{is_bad_air}
use Rattle.wf_def_world.specs.Step.{done_outcome}
use Rattle.wf_law_runs.specs.Windows.{EachMpdu, EachOpen}
use Rattle.wf_law_runs.specs.Numbers.{greatest_computed}
use Rattle.wf_law_runs.proofs.Deficits.Numbers.{legacy_within, number_law}
use Rattle.wf_send_parts.specs.declared.exchanges.opened.Open.{Open}
use Rattle.wf_send_parts.specs.Exchanges.{has_nothing_sent as nothing_sent}
use Rattle.wf_send_parts.specs.declared.stations.members.Member.{Member}
use Rattle.wf_send_parts.specs.Members.{member, charged_in, on_member, with_charge}
use Rattle.wf_sched.specs.ClassRotas.{SchedValue, deficit}
use Rattle.wf_sched_refines.specs.Standing.{SchedulerStandsFor as TurnsStandFor, with_deficit_charged as with_turns_charged, with_paid_back, with_pending_paid_back}
use Rattle.wf_sched_refines.proofs.Calls.{charge_fits_later, pay_back_fits}
use Rattle.wf_law_driver.specs.Inferred.{is_wholly_unsent}
use Rattle.wf_law_driver.proofs.Opened.{found_number, first_refuses}
use Rattle.wf_send_half_model.specs.Half.{TransmitValue}
use Rattle.wf_send_half_model.specs.Standing.{open_of, sending_of, numbers_on_air, Parts, StandsFor, Meets}
use Rattle.wf_send_half_model.specs.Changes.{after_listing_in}
use Rattle.wf_send_half_model.specs.Ending.{after_close, without_pending_charge}
use Rattle.wf_send_half_model.proofs.Dones.{done_meets, request_tid}
use Rattle.wf_send_half_model.proofs.Endings.{found, open_live}
use Rattle.wf_send_half_model.proofs.FitMarks.{answered_sent, same_transmissions}
use Rattle.wf_send_half_model.proofs.Meets.{refused_meets}
use Rattle.wf_send_half_model.proofs.Reached.{now_is, by_law}
use Rattle.wf_send_half_model.proofs.Readers.{exchange_same}
use Rattle.wf_send_half.specs.Bits.{is_shown, is_unanswered, IsNoBatch, IsToldAs, AreShown, AreArrived, NoneIsShown, GoesBy, IsClosed, IsChargeSmall, has_bad_air, is_answer_impossible, end_refusal, ended_reply}
use Rattle.wf_send_half.specs.Half.{HasWorld}
use Rattle.wf_send_half.specs.declared.finish.Ended.{Ended}
use Rattle.wf_send_half.proofs.Ends.{begun}
use Rattle.std.proofs.lemmas.Bool.{and_parts, eqb-true, leb-true, not-false}
use Rattle.wf_law_driver.proofs.Ended.{bad_lost, bad_heard, bad_told, batch_lacks_none, may_end_lost, may_end_told}

-- ---- the exchange that is open

pub record IsKnown (w : World) (e : ℕ) (o : Open) : Type 0 where
  pub exchange_is : Exchange
  pub known : exchange w e ≡ Some exchange_is
  pub same : o ≡ open_of exchange_is

known_by : (w : World) (e : ℕ) (o : Open) (found : Option Exchange) → exchange w e ≡ found →
    Some o ≡ option_map open_of found → IsKnown w e o
known_by w e o None is h = absurd (cc h)
known_by w e o (Some x) is h = record { exchange_is = x; known = is; same = cc h }

-- its TID is below 8
pub low_tid : (v : TransmitValue) (w : World) (bodies : ℕ → FrameValue) → StandsFor v w bodies → (e : ℕ)
    (x : Exchange) → exchange w e ≡ Some x → x.tid < 8
low_tid v w bodies h e x known = by_content x.content refl
  where
    by_content : (c : Content) → x.content ≡ c → x.tid < 8
    by_content (Frames mpdus) is = (begun v w bodies h e x known None (numbers_on_air mpdus)
        (ap sending_of is)
        (λ n. End.Missed)).tid
    by_content (Request start) is = request_tid v w bodies h e x known start is

none_by : (found : Option Exchange) → None ≡ option_map open_of found → found ≡ None
none_by None h = refl
none_by (Some x) h = absurd (cc h)

module _ (v : TransmitValue) (w : World) (bodies : ℕ → FrameValue) (h : StandsFor v w bodies) (e : ℕ) where
  pub known_of : (o : Open) → Some o ≡ find (λ x. x.number == e) v.opened → IsKnown w e o
  known_of o is = known_by w e o (exchange w e) refl (is ∙ exchange_same v w bodies e h.parts)

  pub none_open : None ≡ find (λ x. x.number == e) v.opened → exchange w e ≡ None
  none_open is = none_by (exchange w e) (is ∙ exchange_same v w bodies e h.parts)

  -- refused if it is not open
  pub refused_done : (answered : Bool) (air : Option ℕ) → None ≡ find (λ x. x.number == e) v.opened →
      Meets w bodies (Asked (Done e answered air)) v (Refused NoExchange)
  refused_done answered air is =
      refused_meets v w bodies (Asked (Done e answered air)) NoExchange h
      (first_refuses (is_none (exchange w e), NoExchange) _ (ap is_none (none_open is))) (λ i. cc i)

  -- refused if the airtime is out of range
  pub bad_done : (answered : Bool) (air : Option ℕ) →
      refusal w (Asked (Done e answered air)) ≡ Some BadAir →
      Meets w bodies (Asked (Done e answered air)) v (Refused BadAir)
  bad_done answered air bad =
      refused_meets v w bodies (Asked (Done e answered air)) BadAir h bad (λ i. cc i)

-- ---- the reason of the refusal

-- the reason, by the exchange if it is open
abbrev reason : Option (ℕ × List ℕ) → Bool → Option Open → Option Refusal
reason heard bad f = if is_none f then Some NoExchange
    else if is_some heard && unwrap_or (option_map is_unanswered f) false then Some NoAnswer
    else if bad then Some BadAir
    else None

module _ (v : TransmitValue) (e : ℕ) (heard : Option (ℕ × List ℕ)) (air : Option ℕ) where
  pub ends_unknown : None ≡ find (λ x. x.number == e) v.opened →
      end_refusal v e heard air ≡ Some NoExchange
  ends_unknown none = ap (reason heard (is_bad_air v.config air)) (sym none)

  module _ (o : Open) (some : Some o ≡ find (λ x. x.number == e) v.opened) where
    -- the tests of an open exchange
    by_tests : (unanswered bad : Bool) → is_answer_impossible v e heard ≡ unanswered →
        is_bad_air v.config air ≡ bad → end_refusal v e heard air
        ≡ (if unanswered then Some NoAnswer else if bad then Some BadAir else None)
    by_tests unanswered bad is also =
        ap (λ (f : Option Open). if is_none f then Some NoExchange
        else if is_answer_impossible v e heard then Some NoAnswer
        else if is_bad_air v.config air then Some BadAir else None) (sym some)
        ∙ ap₂ (λ (a b : Bool). if a then Some NoAnswer else if b then Some BadAir else None) is also

    pub ends_unanswered : is_answer_impossible v e heard ≡ true → end_refusal v e heard air ≡ Some NoAnswer
    ends_unanswered is = by_tests true (is_bad_air v.config air) is refl

    pub ends_bad : is_answer_impossible v e heard ≡ false → is_bad_air v.config air ≡ true →
        end_refusal v e heard air ≡ Some BadAir
    ends_bad answers bad = by_tests false true answers bad

    pub ends_well : is_answer_impossible v e heard ≡ false → is_bad_air v.config air ≡ false →
        end_refusal v e heard air ≡ None
    ends_well answers fine = by_tests false false answers fine

-- something was heard for an exchange that is no batch and of which nothing went on the air
pub record IsUnanswered (v : TransmitValue) (e : ℕ) : Type 0 where
  pub opened : Open
  pub some : Some opened ≡ find (λ x. x.number == e) v.opened
  pub unbatched : opened.batch ≡ false
  pub nothing : nothing_sent opened ≡ true

pub not_true : (a : Bool) → not a ≡ true → a ≡ false
not_true true e = sym e
not_true false e = refl

pub unanswered_of : (v : TransmitValue) (e : ℕ) (heard : Option (ℕ × List ℕ)) →
    is_answer_impossible v e heard ≡ true → (is_some heard ≡ true) × IsUnanswered v e
unanswered_of v e heard h =
    let both = and_parts (is_some heard) _ h in (both.0, go (find (λ x. x.number == e) v.opened) refl both.1)
  where
    go : (o : Option Open) → find (λ x. x.number == e) v.opened ≡ o →
        unwrap_or (option_map is_unanswered o) false ≡ true → IsUnanswered v e
    go None is k = absurd (cc k)
    go (Some x) is k =
        let two = and_parts (not x.batch) (nothing_sent x) k in
        record { opened = x; some = sym is; unbatched = not_true x.batch two.0; nothing = two.1 }

-- the test of the half, in terms of its fields
pub answers_then : (v u : TransmitValue) (e : ℕ) (heard : Option (ℕ × List ℕ)) (b : Bool) → u ≡ v →
    b ≡ is_answer_impossible v e heard → b ≡ false → is_answer_impossible u e heard ≡ false
answers_then v u e heard b same is none =
    ap (λ (z : TransmitValue). is_answer_impossible z e heard) same ∙ (sym is ∙ none)

-- both sides ask alike whether something went on the air
pub nothing_same : (x : Exchange) → nothing_sent (open_of x) ≡ is_wholly_unsent x
nothing_same x = ap (λ (n : ℕ). list_all (has x.unsent) (upto n)) (same_transmissions x.content)

-- something went on the air of an exchange that was answered
module _ (v : TransmitValue) (w : World) (bodies : ℕ → FrameValue) (h : StandsFor v w bodies) (e : ℕ)
    (k : IsUnanswered v e) where
  pub not_sent : (x : Exchange) → exchange w e ≡ Some x → is_wholly_unsent x ≡ true
  not_sent x known =
      let it : IsKnown w e k.opened = known_of v w bodies h e k.opened k.some in
      let same : it.exchange_is ≡ x = cc (it.known, known) in
      sym (nothing_same x) ∙ ap (λ (y : Exchange). nothing_sent (open_of y)) (sym same)
      ∙ ap nothing_sent (sym it.same) ∙ k.nothing

  pub not_batch : (x : Exchange) → exchange w e ≡ Some x → x.batch ≡ false
  not_batch x known =
      let it : IsKnown w e k.opened = known_of v w bodies h e k.opened k.some in
      let same : it.exchange_is ≡ x = cc (it.known, known) in
      ap (λ (y : Exchange). y.batch) (sym same) ∙ (ap (λ (o : Open). o.batch) (sym it.same) ∙ k.unbatched)

  pub never_answered : (x : Exchange) (b : Score) → exchange w e ≡ Some x → x.answer ≡ Some b → ⊥
  never_answered x b known kept =
      let off : is_wholly_unsent x ≡ false = sym (nothing_same x)
      ∙ answered_sent w h.reached e x b known kept in
      let on : is_wholly_unsent x ≡ true = not_sent x known in
      absurd (cc (off, on))

-- the exchange is open, and its airtime is out of range
pub record IsBad (v : TransmitValue) (e : ℕ) (air : Option ℕ) : Type 0 where
  pub opened : Open
  pub some : Some opened ≡ find (λ x. x.number == e) v.opened
  pub bad : is_bad_air v.config air ≡ true

pub bad_of : (v : TransmitValue) (e : ℕ) (air : Option ℕ) → has_bad_air v e air ≡ true → IsBad v e air
bad_of v e air h = go (find (λ x. x.number == e) v.opened) refl h
  where
    go : (o : Option Open) → find (λ x. x.number == e) v.opened ≡ o →
        is_some o && is_bad_air v.config air ≡ true → IsBad v e air
    go None is k = absurd (cc k)
    go (Some x) is k = record { opened = x; some = sym is; bad = k }

-- the airtime is in range, by the test of the half
pub fine_then : (v u : TransmitValue) (e : ℕ) (air : Option ℕ) (o : Open) (found : Bool) → u ≡ v →
    found ≡ has_bad_air v e air → found ≡ false → Some o ≡ find (λ x. x.number == e) u.opened →
    is_bad_air u.config air ≡ false
fine_then v u e air o found same is none some =
    ap (λ (f : Option Open). is_some f && is_bad_air u.config air) some
    ∙ (ap (λ (z : TransmitValue). has_bad_air z e air) same ∙ (sym is ∙ none))

module _ (v : TransmitValue) (w : World) (bodies : ℕ → FrameValue) (h : StandsFor v w bodies) (e : ℕ)
    (air : Option ℕ) (k : IsBad v e air) where
  bad_there : is_bad_air w.config air ≡ true
  bad_there = sym (ap (λ (c : Config). is_bad_air c air) h.parts.others.config) ∙ k.bad

  pub bad_meets_lost : Meets w bodies (Asked (Done e false air)) v (Refused BadAir)
  bad_meets_lost =
      let it : IsKnown w e k.opened = known_of v w bodies h e k.opened k.some in
      bad_done v w bodies h e false air (bad_lost w e it.exchange_is air it.known bad_there)

  pub bad_meets_heard : (x : Exchange) (b : Score) → exchange w e ≡ Some x → x.answer ≡ Some b →
      Meets w bodies (Asked (Done e true air)) v (Refused BadAir)
  bad_meets_heard x b known kept =
      bad_done v w bodies h e true air (bad_heard w e x b air known kept bad_there)

  pub bad_meets_told : (told : Bool) (x : Exchange) → exchange w e ≡ Some x → x.batch ≡ true →
      Meets w bodies (Asked (Done e told air)) v (Refused BadAir)
  bad_meets_told false x known batch = bad_meets_lost
  bad_meets_told true x known batch =
      bad_done v w bodies h e true air (bad_told w e x air known (batch_lacks_none x batch) bad_there)

-- a batch may end, whether the call says that something was heard or not
pub may_end_batch : (told : Bool) (w : World) (e : ℕ) (x : Exchange) (air : Option ℕ) →
    exchange w e ≡ Some x → x.batch ≡ true → is_bad_air w.config air ≡ false →
    refusal w (Asked (Done e told air)) ≡ None
may_end_batch false w e x air known batch fine = may_end_lost w e x air known fine
may_end_batch true w e x air known batch fine =
    may_end_told w e x air known (batch_lacks_none x batch) fine

-- ---- its charge

-- the half's charge of an exchange is the machine's
pub at_charge : (v self : TransmitValue) (o : Open) (x : Exchange) (air : Option ℕ) → o ≡ open_of x →
    self ≡ after_close v o (unwrap_or air o.charge) → self ≡ after_close v o (charge_of air x)
at_charge v self o x air same closed =
    closed ∙ ap (λ (k : Open). after_close v o (unwrap_or air k.charge)) same

named_few : (config : Config) (air : Option ℕ) (computed : ℕ) → is_bad_air config air ≡ false →
    config.charge ≤ 65535 → computed < 2 ^ 32 → unwrap_or air computed < 2 ^ 32
named_few config None computed fine range few = few
named_few config (Some n) computed fine range few = omega (
  arith,
  leb-true n config.charge (and_parts _ _ (not-false _ fine)).1,
  range,
)

module _ (v : TransmitValue) (some : HasWorld v) (e : ℕ) (o : Open)
    (is : Some o ≡ find (λ x. x.number == e) v.opened) where
  it : IsKnown some.world e o
  it = known_of v some.world some.bodies some.stands e o is

  station_live : is_live some.world o.station ≡ true
  station_live = ap (λ (k : Open). is_live some.world k.station) it.same
      ∙ open_live some.world some.stands.reached e it.exchange_is it.known

  pub within_turns : o.station < v.sched.stations
  within_turns =
      let turns = some.stands.parts.others.turns in
      omega (arith, turns.live o.station station_live, turns.stations)

  pub within_members : o.station < length v.members
  within_members = omega (
    arith,
    some.stands.parts.others.turns.live o.station station_live,
    some.stands.parts.others.stations.sized.0,
  )

  pub within_config : o.station < v.config.stations
  within_config = omega (
    arith,
    some.stands.parts.others.turns.live o.station station_live,
    ap (λ (k : Config). k.stations) some.stands.parts.others.config,
  )

  pub open_low : o.tid < 8
  open_low = subst (λ (k : Open). k.tid < 8) (sym it.same)
      (low_tid v some.world some.bodies some.stands e it.exchange_is it.known)

  charge_few : (air : Option ℕ) → is_bad_air v.config air ≡ false → unwrap_or air o.charge < 2 ^ 32
  charge_few air fine =
      let r = some.stands.reached in
      let legacy : ℕ = some.world.config.legacy in
      let each : EachOpen (λ y. (1 ≤ y.charge) × (y.charge ≤ greatest_computed legacy)) some.world.opened =
      by_law (λ u. EachOpen (λ y. (1 ≤ y.charge) × (y.charge ≤ greatest_computed u.config.legacy)) u.opened)
      some.world r
      (λ m. (number_law some.world.config r.history r.in_range m).charges) in
      let few = found (λ y. (1 ≤ y.charge) × (y.charge ≤ greatest_computed legacy)) some.world.opened e
      it.exchange_is
      it.known each in
      named_few v.config air o.charge fine (omega (
        arith,
        ap (λ (k : Config). k.charge) some.stands.parts.others.config,
        r.in_range.charge.1,
      )) (omega (arith, ap (λ (k : Open). k.charge) it.same, few.1, legacy_within legacy))

  -- the airtime that was charged when it opened may be paid back
  pub pay_back_low : (is_on : Bool) → is_on ≡ (v.config.pending == 1) → is_on ≡ true →
      (deficit v.sched o.class o.station +ℤ pos o.charge) ≤ℤ pos (2 ^ 32 - 1)
  pay_back_low is_on setting on =
      let r = some.stands.reached in
      let back = sym (now_is some.world r) in
      let one : some.world.config.pending ≡ 1 =
      sym (ap (λ (k : Config). k.pending) some.stands.parts.others.config)
      ∙ eqb-true v.config.pending 1 (sym setting ∙ on) in
      subst (λ (k : Open). (deficit v.sched k.class k.station +ℤ pos k.charge) ≤ℤ pos (2 ^ 32 - 1))
      (sym it.same)
      (pay_back_fits some.world.config r.history (length r.history) e v.sched it.exchange_is r.in_range
      (subst (TurnsStandFor v.sched) back some.stands.parts.others.turns)
      (subst (λ (u : World). exchange u e ≡ Some it.exchange_is) back it.known) one
      (subst (λ (u : World). is_live u it.exchange_is.station ≡ true) back
      (open_live some.world r e it.exchange_is it.known)))

  -- the turns after that
  pub paid_is : (is_on : Bool) (paid : SchedValue) → is_on ≡ (v.config.pending == 1) →
      paid ≡ (if is_on then with_paid_back v.sched o.station o.class o.charge else v.sched) →
      paid ≡ without_pending_charge v o
  paid_is is_on paid setting is = is
      ∙ ap (λ (b : Bool). if b then with_paid_back v.sched o.station o.class o.charge else v.sched) setting

  pub within_paid : (paid : SchedValue) → paid ≡ without_pending_charge v o → o.station < paid.stations
  within_paid paid is = omega (
    arith,
    within_turns,
    ap (λ (z : SchedValue). z.stations) is,
    kept_stations (v.config.pending == 1),
  )
    where
      kept_stations : (b : Bool) →
          (if b then with_paid_back v.sched o.station o.class o.charge else v.sched).stations
          ≡ v.sched.stations
      kept_stations true = refl
      kept_stations false = refl

  pub charge_low : (air : Option ℕ) (n : ℕ) (paid : SchedValue) → is_bad_air v.config air ≡ false →
      n ≡ unwrap_or air o.charge → paid ≡ without_pending_charge v o →
      negsuc (2 ^ 62 - 1) ≤ℤ (deficit paid o.class o.station -ℤ pos n)
  charge_low air n paid fine charge is =
      let r = some.stands.reached in
      let back = sym (now_is some.world r) in
      subst (λ (z : SchedValue). negsuc (2 ^ 62 - 1) ≤ℤ (deficit z o.class o.station -ℤ pos n))
      (ap (λ (k : Config). with_pending_paid_back k v.sched o.station o.class o.charge)
      (sym some.stands.parts.others.config) ∙ sym is)
      (charge_fits_later some.world.config r.history (length r.history) v.sched o.station o.class o.charge n
      r.in_range (subst (TurnsStandFor v.sched) back some.stands.parts.others.turns)
      (subst (λ (u : World). is_live u o.station ≡ true) back station_live)
      (omega (arith, charge, charge_few air fine)))

  pub charge_small : IsChargeSmall v e → IfSome (member v.members o.station)
      (λ m. charged_in m o.class < 2 ^ 62)
  charge_small small = subst (λ (f : Option Open).
      IfSome f (λ x. IfSome (member v.members x.station) (λ m. charged_in m x.class < 2 ^ 62))) (sym is) small

  pub closes : (air : Option ℕ) {n : ℕ} {opened : List Open} {paid turns : SchedValue}
      {members : List (Option Member)} → n ≡ unwrap_or air o.charge →
      opened ≡ filter (λ x. not (x.number == e)) v.opened → paid ≡ without_pending_charge v o →
      turns ≡ with_turns_charged paid o.station o.class n →
      members ≡ on_member v.members o.station (with_charge o.class n) →
      record v { opened = opened; sched = turns; members = members } ≡ after_close v o
      (unwrap_or air o.charge)
  closes air {n} {opened} {paid} {turns} {members} charge a p b c =
      let number : e ≡ o.number = sym (ap (λ (k : Open). k.number) it.same
      ∙ found_number some.world e it.exchange_is it.known) in
      ap₂ (λ (z : List Open) (y : SchedValue). record v { opened = z; sched = y; members = members })
      (a ∙ ap (λ (i : ℕ). filter (λ (x : Open). not (x.number == i)) v.opened) number)
      (b ∙ ap (λ (z : SchedValue). with_turns_charged z o.station o.class n) p)
      ∙ ap (λ (m : List (Option Member)). record (after_close v o n) { members = m }) c
      ∙ ap (after_close v o) charge

  pub closed_now : (air : Option ℕ) (self : TransmitValue) → self ≡ after_close v o (unwrap_or air o.charge) →
      IsClosed self o
  closed_now air self is_closed = record {
    before = v;
    world = some.world;
    bodies = some.bodies;
    number = e;
    exchange_is = it.exchange_is;
    stands = some.stands;
    known = it.known;
    same = it.same;
    air = air;
    closed = at_charge v self o it.exchange_is air it.same is_closed;
  }

-- if it is not open, none is taken out
pub unopened : (e : ℕ) (xs : List Open) → None ≡ find (λ x. x.number == e) xs →
    filter (λ x. not (x.number == e)) xs ≡ xs
unopened e [] h = refl
unopened e (x ∷ xs) h = go (x.number == e) h (unopened e xs)
  where
    go : (b : Bool) → None ≡ (if b then Some x else find (λ y. y.number == e) xs) →
        (None ≡ find (λ y. y.number == e) xs → filter (λ y. not (y.number == e)) xs ≡ xs) →
        (if not b then x ∷ filter (λ y. not (y.number == e)) xs else filter (λ y. not (y.number == e)) xs) ≡ x
        ∷ xs
    go true k later = absurd (cc k)
    go false k later = ap (λ (l : List Open). x ∷ l) (later k)

-- ---- a BlockAck was heard, or not

pub not_both : {X : Type 0} (o : Option X) → is_some o ≡ true → o ≡ None → ⊥
not_both None some none = absurd (cc some)
not_both (Some s) some none = absurd (cc none)

pub where_none : {X : Type 0} (P : Type 0) (heard : Option X) → (heard ≡ None → P) → IfNone heard P
where_none P None f = f refl
where_none P (Some s) f = tt

pub from_none : {X : Type 0} (P : Type 0) (heard : Option X) → heard ≡ None → IfNone heard P → P
from_none P None e p = p
from_none P (Some s) e p = absurd (cc e)

pub where_some : {X : Type 0} (P : X → Type 0) (heard : Option X) → ((s : X) → heard ≡ Some s → P s) →
    IfSome heard P
where_some P None f = tt
where_some P (Some s) f = f s refl

-- ---- the BlockAck by which it ends

-- P holds of each of these transmissions that went on the air
abbrev OfSent : Exchange → (Mpdu → Type 0) → List Mpdu → Type 0
OfSent x P ms = EachMpdu (λ m. has (numbers_unsent x) m.number ≡ false → P m) ms

shown_numbers : (b : Score) (x : Exchange) (p : ℕ → Bool) → x.answer ≡ Some b → (ms : List Mpdu) →
    OfSent x (λ m. shows b m.number ≡ p m.number) ms →
    OfSent x (λ m. is_acked true x.answer m.number ≡ p m.number) ms
shown_numbers b x p kept [] h = tt
shown_numbers b x p kept (m ∷ ms) h = (
  λ sent. ap (λ (a : Option Score). is_acked true a m.number) kept ∙ h.0 sent,
  shown_numbers b x p kept ms h.1,
)

none_acked : (a : Option Score) (n : ℕ) → is_acked false a n ≡ false
none_acked None n = refl
none_acked (Some b) n = refl

lost_numbers : (x : Exchange) (p : ℕ → Bool) (ms : List Mpdu) → OfSent x (λ m. p m.number ≡ false) ms →
    OfSent x (λ m. is_acked false x.answer m.number ≡ p m.number) ms
lost_numbers x p [] h = tt
lost_numbers x p (m ∷ ms) h =
    (λ sent. none_acked x.answer m.number ∙ sym (h.0 sent), lost_numbers x p ms h.1)

all_lost : (x : Exchange) (ms : List Mpdu) → OfSent x (λ m. false ≡ false) ms
all_lost x [] = tt
all_lost x (m ∷ ms) = (λ sent. refl, all_lost x ms)

unbatched_here : (w : World) (e : ℕ) (x : Exchange) → exchange w e ≡ Some x → IsNoBatch w e → x.batch ≡ false
unbatched_here w e x known none = sym (ap is_batch known) ∙ none

pub goes_lost : (w : World) (e : ℕ) (x : Exchange) → exchange w e ≡ Some x → IsNoBatch w e →
    GoesBy w x None false
goes_lost w e x known none = record {
  numbers = λ no. lost_numbers x (λ n. false) (mpdus_of x.content) (all_lost x (mpdus_of x.content));
  arrived = λ yes. absurd (cc (yes, unbatched_here w e x known none));
  request = λ is. refl;
}

pub goes_shown : (w : World) (x : Exchange) (b : Score) (score : ℕ × List ℕ) → x.batch ≡ false →
    x.answer ≡ Some b → AreShown w x b (Some score) → GoesBy w x (Some score) true
goes_shown w x b score unbatched kept shown = record {
  numbers = λ no.
      shown_numbers b x (is_shown (is_wide w x.station x.tid) (Some score)) kept (mpdus_of x.content) shown;
  arrived = λ yes. absurd (cc (yes, unbatched));
  request = λ is. refl;
}

pub goes_unshown : (w : World) (x : Exchange) (heard : Option (ℕ × List ℕ)) → x.batch ≡ false →
    is_request x.content ≡ false → NoneIsShown w x heard → GoesBy w x heard false
goes_unshown w x heard unbatched data_is none = record {
  numbers = λ no.
      lost_numbers x (is_shown (is_wide w x.station x.tid) heard) (mpdus_of x.content) none;
  arrived = λ yes. absurd (cc (yes, unbatched));
  request = λ is. absurd (cc (is, data_is));
}

-- a batch ends by what arrived
pub goes_arrived : (w : World) (x : Exchange) (heard : Option (ℕ × List ℕ)) (told : Bool) →
    x.batch ≡ true → IsToldAs x heard told → AreArrived w x heard → GoesBy w x heard told
goes_arrived w x heard told batch request there = record {
  numbers = λ no. absurd (cc (no, batch));
  arrived = λ yes. there;
  request = request;
}

-- ---- the whole call

module _ (v : TransmitValue) (w : World) (bodies : ℕ → FrameValue) (h : StandsFor v w bodies) (e : ℕ)
    (x : Exchange) (known : exchange w e ≡ Some x) (o : Open) (same : o ≡ open_of x) (answered : Bool)
    (air : Option ℕ) (allowed : refusal w (Asked (Done e answered air)) ≡ None)
    (z y : TransmitValue) (ended : Ended) where
  pub done_whole : Parts z (done_outcome w x answered air).world bodies →
      ended_reply ended ≡ (done_outcome w x answered air).reply → (c : Class) → c ≡ class_of o.tid →
      y ≡ after_listing_in z o.station c →
      Meets w bodies (Asked (Done e answered air)) y (ended_reply ended)
  done_whole parts told c of listed =
      let after : TransmitValue = after_listing_in z x.station (class_of x.tid) in
      let met : Meets w bodies (Asked (Done e answered air)) after (done_outcome w x answered air).reply =
      done_meets v z w bodies e answered air x h known allowed parts in
      let is : y ≡ after = listed ∙ ap (after_listing_in z o.station) of
      ∙ ap (λ (k : Open). after_listing_in z k.station (class_of k.tid)) same in
      subst (λ (k : TransmitValue). Meets w bodies (Asked (Done e answered air)) k (ended_reply ended))
      (sym is)
      (subst (λ (r : ReplyNote). Meets w bodies (Asked (Done e answered air)) after r) (sym told) met)

-- x is the value of the fields of the half v; u has the exchange o taken out and charged; z has it settled
module _ {x v : TransmitValue} (same : x ≡ v) {e : ℕ} {o : Open}
    (is : Some o ≡ find (λ k. k.number == e) x.opened) {air : Option ℕ}
    (fine : is_bad_air x.config air ≡ false) {u : TransmitValue}
    (shut : u ≡ after_close x o (unwrap_or air o.charge)) {heard : Option (ℕ × List ℕ)}
    {z y : TransmitValue} {ended : Ended}
    (settled : (p : TransmitValue) (w : World) (bodies : ℕ → FrameValue) (n : ℕ) (k : Exchange)
    (answered : Bool) (named : Option ℕ) → StandsFor p w bodies → exchange w n ≡ Some k → o ≡ open_of k →
    u ≡ after_close p o (charge_of named k) → GoesBy w k heard answered →
    Parts z (done_outcome w k answered named).world bodies)
    (told : (p : TransmitValue) (w : World) (bodies : ℕ → FrameValue) (n : ℕ) (k : Exchange)
    (answered : Bool) (named : Option ℕ) → StandsFor p w bodies → exchange w n ≡ Some k → o ≡ open_of k →
    u ≡ after_close p o (charge_of named k) → GoesBy w k heard answered →
    ended_reply ended ≡ (done_outcome w k answered named).reply)
    {c : Class} (of : c ≡ class_of o.tid) (listed : y ≡ after_listing_in z o.station c) where
  -- it is the world's Done if the BlockAck agrees and the world does not refuse it
  pub done_met : {w : World} {bodies : ℕ → FrameValue} → StandsFor v w bodies → (answered : Bool) →
      ((k : Exchange) → exchange w e ≡ Some k → GoesBy w k heard answered) →
      ((k : Exchange) → exchange w e ≡ Some k → is_bad_air w.config air ≡ false →
      refusal w (Asked (Done e answered air)) ≡ None) →
      Meets w bodies (Asked (Done e answered air)) y (ended_reply ended)
  done_met {w} {bodies} h answered goes allowed =
      let at : StandsFor x w bodies = subst (λ (t : TransmitValue). StandsFor t w bodies) (sym same) h in
      let k : IsKnown w e o = known_of x w bodies at e o is in
      let n : Exchange = k.exchange_is in
      let closed = at_charge x u o n air k.same shut in
      done_whole x w bodies at e n k.known o k.same answered air
      (allowed n k.known (ap (λ (t : Config). is_bad_air t air) (sym at.parts.others.config) ∙ fine))
      z y ended (settled x w bodies e n answered air at k.known k.same closed (goes n k.known))
      (told x w bodies e n answered air at k.known k.same closed (goes n k.known)) c of listed
