-- Proves that the flags are right after a pull. By cases of its reply: the flag of the station that sends is
-- set, or the pull is refused.
use Rattle.std.proofs.Common.{◌≡◌, refl, ap, sym, ◌∙◌, subst, arith, ℕ, ◌<◌, Bool, true, false, List, [], length, Option, Some, None, inl, inr}
use Rattle.std.specs.Prelude.{is_none, is_some, IfSome}
use Rattle.std.proofs.lemmas.Bool.{cases_lt}
use Rattle.std.proofs.lemmas.List.{get_or_past}
use Rattle.wf_frame.specs.Answers.{reply_with}
use Rattle.wf_frame.specs.Frames.{FrameValue}
use Rattle.wf_frame.specs.declared.answers.Brief.{Brief}
use Rattle.wf_frame.specs.declared.answers.Brief.TheVariants as brief
use Rattle.wf_frame.specs.declared.answers.Kind.{Kind}
use Rattle.wf_frame.specs.declared.classes.Class.{Class}
use Rattle.wf_frame.specs.declared.notes.Ask.TheVariants.{Pull}
use Rattle.wf_frame.specs.declared.notes.Limits.{Limits}
use Rattle.wf_frame.specs.declared.notes.Note.TheVariants.{Asked}
use Rattle.wf_frame.specs.declared.notes.Part.{Part}
use Rattle.wf_frame.specs.declared.notes.Refusal.{Refusal}
use Rattle.wf_frame.specs.declared.notes.ReplyNote.{ReplyNote}
use Rattle.wf_frame.specs.declared.notes.ReplyNote.TheVariants.{Send, Refused}
use Rattle.wf_frame.specs.declared.settings.Config.{Config}
use Rattle.wf_def_world.specs.World.{World, Exchange, rotation, is_live}
use Rattle.wf_def_world.specs.CanSend.{is_ready}
use Rattle.wf_def_world.specs.Exchanges.{picked_station, sending_tid, after_tid_turn, prepared_exchange, exchange_of, part_of}
use Rattle.wf_def_world.specs.Refusals.{refusal, refusals}
use Rattle.wf_def_world.specs.Step.{Outcome, outcome_of, pull_outcome, pull_outcome_for, send_outcome, step}
use Rattle.wf_law_runs.proofs.Deficits.KeptStep.{NoRow, no_row}
use Rattle.wf_law_runs.proofs.Windows.Opened.{pick_ready, left_true}
use Rattle.wf_send_half_model.specs.Half.{TransmitValue, is_ready_of}
use Rattle.wf_send_half_model.specs.Readiness.{ends_service}
use Rattle.wf_send_half_model.specs.Standing.{StandsFor, Meets}
use Rattle.wf_send_half_model.specs.Filling.{after_pick_within}
use Rattle.wf_send_half_model.proofs.Pulled.{ready_pulled}
use Rattle.wf_send_half_model.proofs.Reached.{step_done, step_refused}
use Rattle.wf_send_half_model.proofs.Readers.{live_same}
use Rattle.wf_send_half_model.proofs.Spared.{ready_refused}
use Rattle.wf_send_parts.specs.declared.stations.members.Member.{Member}
use Rattle.wf_send_parts.specs.Members.{member}
use Rattle.wf_send_half.specs.Replies.{bodies_sent}
use Rattle.wf_send_half.specs.Half.{HasUnheardWorld}
use Rattle.wf_send_half.specs.Flags.{Flags, flags_in, with_flag, with_flags, AreFlags, FlagsHaveRoom, IsTracked}
use Rattle.wf_send_half.proofs.FlagSteps.{AreNearly, all_set, set_four, set_alone}
use Rattle.wf_send_half.proofs.Kept.{Leaves, kept_unheard, same_config, nearly}

-- a station sends
pub record HasSent (winner : Option ℕ) (reply : ReplyNote) : Type 0 where
  pub station : ℕ
  pub won : winner ≡ Some station
  pub exchange : ℕ
  pub tid : ℕ
  pub air : ℕ
  pub part : Part
  pub more : Bool
  pub eosp : Bool
  pub is : reply ≡ Send exchange station tid air part more eosp

-- the reply of a pull: a station sends, or the pull is refused
pub data Says (w : World) (c : Class) (l : Limits) (reply : ReplyNote) : Type 0 where
  Sends : HasSent (picked_station w c).winner reply → Says w c l reply
  Refuses : (r : Refusal) → refusal w (Asked (Pull c l)) ≡ Some r → reply ≡ Refused r → Says w c l reply

sent_for : (w : World) (c : Class) (winner : Option ℕ) → is_none winner ≡ false →
    HasSent winner (pull_outcome_for w c winner).reply
unfolding pull_outcome_for send_outcome
sent_for w c None e = absurd (cc e)
sent_for w c (Some s) e =
    let t : ℕ = sending_tid w s c in
    let x : Exchange = exchange_of s t c (prepared_exchange (after_tid_turn w s c t) s t) in
    record {
      station = s;
      won = refl;
      exchange = x.number;
      tid = t;
      air = x.charge;
      part = part_of x.batch x.plain x.content;
      more = x.more;
      eosp = x.eosp;
      is = refl;
    }

sent_by : (w : World) (c : Class) (l : Limits) → is_none (picked_station w c).winner ≡ false →
    HasSent (picked_station w c).winner (outcome_of w (Asked (Pull c l))).reply
unfolding outcome_of pull_outcome
sent_by w c l e = sent_for (after_pick_within w c l) c (picked_station w c).winner e

pub says : (w : World) (c : Class) (l : Limits) → Says w c l (step w (Asked (Pull c l))).reply
says w c l = from (refusal w (Asked (Pull c l))) refl
  where
    from : (o : Option Refusal) → refusal w (Asked (Pull c l)) ≡ o →
        Says w c l (step w (Asked (Pull c l))).reply
    from (Some r) e = Refuses r e (ap (λ (o : Outcome). o.reply) (step_refused w (Asked (Pull c l)) r e))
    from None e =
        let rows : NoRow (refusals w (Asked (Pull c l))) = no_row (refusals w (Asked (Pull c l))) e in
        subst (λ (x : ReplyNote). Says w c l x) (sym (ap (λ (o : Outcome). o.reply)
        (step_done w (Asked (Pull c l)) e))) (Sends (sent_by w c l rows.1.1.0))

-- the station that sends was picked
pub sender_won : (w : World) (c : Class) (l : Limits) (e s t air : ℕ) (part : Part)
    (more eosp : Bool) → Send e s t air part more eosp ≡ (step w (Asked (Pull c l))).reply →
    (picked_station w c).winner ≡ Some s
sender_won w c l e s t air part more eosp is = from (says w c l)
  where
    from : Says w c l (step w (Asked (Pull c l))).reply → (picked_station w c).winner ≡ Some s
    from (Refuses r h how) = absurd (let k = is ∙ how in cc k)
    from (Sends sent) =
        let k : Send e s t air part more eosp ≡ Send sent.exchange sent.station sent.tid sent.air sent.part
        sent.more sent.eosp = is ∙ sent.is in
        let same : s ≡ sent.station = cc k in
        sent.won ∙ ap (λ (n : ℕ). Some n) (sym same)

-- ---- the flags

-- after a refused pull all flags are right, after any other all except that of the station that sends, or its
-- four if the exchange ends a service period
module _ (v y : TransmitValue) (r : Flags) (flags : AreFlags v r) (w : World) (bodies after : ℕ → FrameValue)
    (c : Class) (l : Limits) (reply : ReplyNote) (h : StandsFor v w bodies)
    (m : Meets w after (Asked (Pull c l)) y reply) where
  pub nearly_pulled : (Q : ℕ → Class → Type 0) → ((s : ℕ) (d : Class) → (Q s d → ⊥) →
      (picked_station w c).winner ≡ Some s → (c ≡ d → ⊥) × (ends_service reply ≡ false)) → AreNearly y r Q
  nearly_pulled Q apart =
      nearly v y r flags w bodies after (Asked (Pull c l)) reply h m Q
      (λ s d out. ready_pulled w c l h.reached s d (λ won.
      let k = apart s d out won in (k.0, ap ends_service (sym m.reply) ∙ k.1)))

-- ---- the station that is picked

winner_ready : (w : World) (c : Class) (s : ℕ) → (picked_station w c).winner ≡ Some s → is_ready w c s ≡ true
winner_ready w c s won = subst (λ (o : Option ℕ). IfSome o (λ k. is_ready w c k ≡ true)) won
    (pick_ready _ (is_ready w c) (rotation w c))

-- the number of a live station is below the setting `stations`
live_within : (v : TransmitValue) (w : World) (bodies : ℕ → FrameValue) (s : ℕ) → StandsFor v w bodies →
    is_live w s ≡ true → s < v.config.stations
live_within v w bodies s h live = elim (cases_lt s (length v.members)) [
  | inl low ↦ omega (
    arith,
    low,
    h.parts.others.stations.sized.0,
    ap (λ (z : Config). z.stations) h.parts.others.config,
  )
  | inr past ↦
      let none : is_some (member v.members s) ≡ false =
      ap (λ (o : Option Member). is_some o) (get_or_past v.members s None past) in
      absurd (let k : false ≡ true = sym none ∙ live_same v w bodies s h.parts ∙ live in cc k)
]

pub winner_within : (v : TransmitValue) (w : World) (bodies : ℕ → FrameValue) (c : Class) (s : ℕ) →
    StandsFor v w bodies → (picked_station w c).winner ≡ Some s → s < v.config.stations
winner_within v w bodies c s h won = live_within v w bodies s h
    (left_true (is_live w s) _ (winner_ready w c s won))

-- ---- a brief that sends

pub record IsSend (b : Brief) : Type 0 where
  pub exchange : ℕ
  pub station : ℕ
  pub tid : ℕ
  pub air : ℕ
  pub request : Option ℕ
  pub kind : Kind
  pub more : Bool
  pub eosp : Bool
  pub is : b ≡ brief.Send exchange station tid air request kind more eosp

send_only : (b : Brief) (pairs : List (ℕ × ℕ)) (e s t air : ℕ) (part : Part)
    (more eosp : Bool) → reply_with b pairs [] ≡ Send e s t air part more eosp → IsSend b
send_only brief.Joined pairs e s t air part more eosp is = absurd (cc is)
send_only (brief.Left dropped) pairs e s t air part more eosp is = absurd (cc is)
send_only brief.Set pairs e s t air part more eosp is = absurd (cc is)
send_only (brief.Now now) pairs e s t air part more eosp is = absurd (cc is)
send_only (brief.Accepted id dropped) pairs e s t air part more eosp is = absurd (cc is)
send_only (brief.Send a i j n request kind k f) pairs e s t air part more eosp is = record {
  exchange = a;
  station = i;
  tid = j;
  air = n;
  request = request;
  kind = kind;
  more = k;
  eosp = f;
  is = refl;
}
send_only brief.Released pairs e s t air part more eosp is = absurd (cc is)
send_only (brief.Ba start b0 b1 b2 b3 wide) pairs e s t air part more eosp is = absurd (cc is)
send_only (brief.Done acked waiting failed) pairs e s t air part more eosp is = absurd (cc is)
send_only brief.Slept pairs e s t air part more eosp is = absurd (cc is)
send_only brief.Woken pairs e s t air part more eosp is = absurd (cc is)
send_only (brief.Polled class) pairs e s t air part more eosp is = absurd (cc is)
send_only (brief.Charged deficit) pairs e s t air part more eosp is = absurd (cc is)
send_only (brief.Reaped id fate) pairs e s t air part more eosp is = absurd (cc is)
send_only brief.Stopped pairs e s t air part more eosp is = absurd (cc is)
send_only brief.Started pairs e s t air part more eosp is = absurd (cc is)
send_only brief.Marked pairs e s t air part more eosp is = absurd (cc is)
send_only (brief.Flushed dropped) pairs e s t air part more eosp is = absurd (cc is)
send_only brief.Ack pairs e s t air part more eosp is = absurd (cc is)
send_only (brief.Held start) pairs e s t air part more eosp is = absurd (cc is)
send_only brief.Begun pairs e s t air part more eosp is = absurd (cc is)
send_only brief.Freed pairs e s t air part more eosp is = absurd (cc is)
send_only (brief.Ceased dropped) pairs e s t air part more eosp is = absurd (cc is)
send_only (brief.Group answer) pairs e s t air part more eosp is = absurd (cc is)
send_only (brief.Service answer) pairs e s t air part more eosp is = absurd (cc is)
send_only (brief.Refused refusal) pairs e s t air part more eosp is = absurd (cc is)

-- ---- a whole pull

-- x is the half before the pull, with the flags r, and u is the half after it
module _ (x : TransmitValue) (r : Flags) (h : IsTracked x r) (c : Class) (l : Limits) (b : Brief)
    (pairs : List (ℕ × ℕ)) (u : TransmitValue) (meets : Leaves x u (bodies_sent (reply_with b pairs []))
    (Asked (Pull c l))
    (reply_with b pairs [])) where
  -- each pulled frame is sent again
  abbrev sent : (ℕ → FrameValue) → ℕ → FrameValue
  sent = bodies_sent (reply_with b pairs [])

  met : Meets h.some.world (sent h.some.bodies) (Asked (Pull c l)) u (reply_with b pairs [])
  met = meets h.some.world h.some.bodies h.some.stands

  pub pulled_unheard : HasUnheardWorld u
  pulled_unheard = kept_unheard x u sent (Asked (Pull c l)) (reply_with b pairs []) meets tt h.some

  -- a station sends
  module _ (e s t air : ℕ) (request : Option ℕ) (kind : Kind) (more eosp : Bool)
      (is : b ≡ brief.Send e s t air request kind more eosp) where
    won : (picked_station h.some.world c).winner ≡ Some s
    won = sender_won h.some.world c l e s t air _ more eosp
        (sym (ap (λ (z : Brief). reply_with z pairs []) is) ∙ met.reply)

    pub sender_low : s < x.config.stations
    sender_low = winner_within x h.some.world h.some.bodies c s h.some.stands won

    pub sender_within : s < u.config.stations
    sender_within = subst (λ (z : Config). s < z.stations)
        (same_config x u h.some.world h.some.bodies (sent h.some.bodies) (Asked (Pull c l)) _ h.some.stands
        met)
        sender_low

    pub sender_room : s < length (flags_in r c)
    sender_room = omega (arith, sender_low, (h.flags c).stations)

    pub sender_rooms : FlagsHaveRoom r s
    sender_rooms d = omega (arith, sender_low, (h.flags d).stations)

    ends : ends_service (reply_with b pairs []) ≡ eosp
    ends = ap (λ (z : Brief). ends_service (reply_with z pairs [])) is

    -- the exchange ends no service period
    pub tracked_sender : eosp ≡ false → (z : Flags) → z ≡ with_flag r c s (is_ready_of u c s) → IsTracked u z
    tracked_sender goes_on z set = subst (IsTracked u) (sym set) (record {
      some = pulled_unheard;
      flags = set_alone u r s c
          (nearly_pulled x u r h.flags h.some.world h.some.bodies (sent h.some.bodies) c l _ h.some.stands met
          (λ i d. (i ≡ s) × (d ≡ c))
          (λ i d out wins. (
            λ same. out (let k : Some i ≡ Some s = sym wins ∙ won in cc k, sym same),
            ends ∙ goes_on,
          )))
          sender_within;
    })

    -- it may end one
    pub tracked_last : (z : Flags) → z ≡ with_flags r u s → IsTracked u z
    tracked_last z set = subst (IsTracked u) (sym set) (record {
      some = pulled_unheard;
      flags = set_four u r s
          (nearly_pulled x u r h.flags h.some.world h.some.bodies (sent h.some.bodies) c l _ h.some.stands met
          (λ i d. i ≡ s)
          (λ i d out wins. absurd (out (let k : Some i ≡ Some s = sym wins ∙ won in cc k))))
          sender_within;
    })

  -- no station sends
  pub tracked_idle : (IsSend b → ⊥) → IsTracked u r
  tracked_idle none = record {
    some = pulled_unheard;
    flags = all_set u r (λ _ _. ⊥)
        (nearly x u r h.flags h.some.world h.some.bodies (sent h.some.bodies) (Asked (Pull c l)) _
        h.some.stands met
        (λ _ _. ⊥) (λ s d _. from (says h.some.world c l) s d))
        (λ s d low other. other);
  }
    where
      from : Says h.some.world c l (step h.some.world (Asked (Pull c l))).reply → (s : ℕ) (d : Class) →
          is_ready (step h.some.world (Asked (Pull c l))).world d s ≡ is_ready h.some.world d s
      from (Sends sent) s d = absurd (none (send_only b pairs sent.exchange sent.station sent.tid sent.air
          sent.part sent.more sent.eosp (met.reply ∙ sent.is)))
      from (Refuses why is how) s d = ready_refused h.some.world (Asked (Pull c l)) why is s d
