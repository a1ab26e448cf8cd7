-- Proves the effect of an Arrive, an Unsent, an Answer and a Done on an engine, from its marks and from what
-- its path sends.
use Rattle.std.proofs.Common.{◌≡◌, refl, ap, sym, ◌∙◌, subst, ℕ, ◌<◌, ◌≤◌, Bool, true, false, List, [], Option, Some, None, IfSome, if◌then◌else◌, length, arith}
use Rattle.std.specs.Prelude.{◌==◌, find, IfNone, not, filter, option_map, is_none, nat_le, nat_lt, ◌&&◌, if◌then◌else◌}
use Rattle.std.specs.Option.{option_or}
use Rattle.std.proofs.lemmas.Bool.{leb-false}
use Rattle.wf_frame.specs.Frames.{FrameValue}
use Rattle.wf_frame.specs.Answers.{reply_with}
use Rattle.wf_frame.specs.declared.answers.Brief.{Brief}
use Rattle.wf_frame.specs.declared.answers.Brief.TheVariants as brief
use Rattle.wf_frame.specs.declared.notes.Ask.TheVariants.{Arrive, Answer, Done, Unsent}
use Rattle.wf_frame.specs.declared.notes.Note.{Note}
use Rattle.wf_frame.specs.declared.notes.Note.TheVariants.{Asked}
use Rattle.wf_frame.specs.declared.notes.Refusal.{Refusal}
use Rattle.wf_frame.specs.declared.notes.Refusal.TheVariants.{NoExchange, NoAnswer, BadAir, BadIndex, Marked, Idle}
use Rattle.wf_frame.specs.declared.notes.ReplyNote.{ReplyNote}
use Rattle.wf_frame.specs.declared.notes.ReplyNote.TheVariants.{Refused, Released, Ack, Ba}
use Rattle.wf_def_agreement.specs.Receiver.{Score}
use Rattle.wf_def_lists.specs.Table.{bits_word, has}
use Rattle.wf_def_world.specs.World.{World, Exchange, Content, Frames, Request, exchange, is_live, is_agreed}
use Rattle.wf_def_world.specs.Exchanges.{transmissions, mpdus_of}
use Rattle.wf_def_world.specs.Refusals.{refusal, refusals, exchange_has}
use Rattle.wf_frame.specs.Settings.{is_bad_air}
use Rattle.wf_def_world.specs.Step.{Outcome, after_refusal, step}
use Rattle.wf_law_rules.proofs.Lemmas.Numbers.{on_bool}
use Rattle.wf_law_runs.specs.Delivery.{is_batch}
use Rattle.wf_law_runs.specs.Sent.{IsSent}
use Rattle.wf_law_runs.specs.Windows.{EachOpen}
use Rattle.wf_law_runs.proofs.Deficits.KeptStep.{no_row}
use Rattle.wf_law_runs.proofs.Sent.Law.{sent_law}
use Rattle.wf_recv_marks.specs.declared.marks.Mark.{Mark}
use Rattle.wf_recv_marks.specs.Marks.{with_arrival, with_answer, with_changed}
use Rattle.wf_recv_peer.specs.Board.{Board}
use Rattle.wf_recv_peer.specs.Agreements.{PeerValue}
use Rattle.wf_send_half.specs.Bits.{AreShown, AreArrived, IsToldAs, IsNoBatch}
use Rattle.wf_send_half_model.specs.Half.{TransmitValue}
use Rattle.wf_send_half_model.specs.Standing.{StandsFor, IsReached, Meets as PathMeets}
use Rattle.wf_send_half_model.proofs.Reached.{by_law, step_refused}
use Rattle.wf_send_half_model.proofs.Endings.{found}
use Rattle.wf_send_half_model.proofs.Meets.{refused_meets}
use Rattle.wf_send_half_model.proofs.Whole.{arrive_stands, answer_stands}
use Rattle.wf_law_driver.proofs.Opened.{found_number}
use Rattle.wf_path.specs.declared.reading.Sent.{Sent}
use Rattle.wf_path.specs.Heard.{shown_at}
use Rattle.wf_path.specs.Transmissions.{sent_of, start_on_air, start_announced}
use Rattle.wf_cell_model.specs.Arriving.{CarriesId, peer_after, peer_requested, buffer_outcome_of_transmission}
use Rattle.wf_cell_model.specs.Answers.{KeepsShown}
use Rattle.wf_cell_model.specs.Catching.{twelve_bit_start, peers_caught_up}
use Rattle.wf_cell_model.specs.Hearing.{with_peer, peer_of, agreement_of, mark_of, Hears}
use Rattle.wf_cell_model.specs.Refusing.{mark_in, told_refusal, answer_refusal, done_refusal}
use Rattle.wf_cell.specs.Engines.{EngineValue, EngineIsIn, EngineMeets, IsToldBy, heard_by}
use Rattle.wf_cell_model.proofs.Keeping.{refused_hears}
use Rattle.wf_cell_model.proofs.Catching.{ended_live, ended_hears}
use Rattle.wf_cell_model.proofs.Sent.{open_now, station_now, tid_now}
use Rattle.wf_cell_model.proofs.Arriving.{arrived_hears, arrived_up}
use Rattle.wf_cell_model.proofs.Answering.{answered_hears, answer_reply}
use Rattle.wf_cell_model.proofs.Telling.{mark_told, arrive_told, unsent_told, untold_told, answer_inferred, done_inferred}
use Rattle.wf_cell_model.proofs.Shown.{mark_shown}
use Rattle.wf_cell.proofs.Batches.{shown_arrived}
use Rattle.wf_frame.specs.declared.settings.Config.{Config}

-- ---- open exchanges

-- the exchange is open
pub record IsOpen (w : World) (e : ℕ) : Type 0 where
  pub sending : Exchange
  pub known : exchange w e ≡ Some sending

open_where : {X : Type 0} (f : Exchange → X) (o : Option Exchange) (y : X) → option_map f o ≡ Some y →
    (x : Exchange) × ((o ≡ Some x) × (f x ≡ y))
open_where f None y e = absurd (cc)
open_where f (Some x) y e = let same : f x ≡ y = cc in (x, (refl, same))

none_where : {X : Type 0} (f : Exchange → X) (o : Option Exchange) → option_map f o ≡ None → o ≡ None
none_where f None e = refl
none_where f (Some x) e = absurd (cc)

pub none_open : (v : EngineValue) (w : World) (bodies : ℕ → FrameValue) (e : ℕ) → EngineIsIn v w bodies →
    mark_in v.marks e ≡ None → exchange w e ≡ None
none_open v w bodies e i none = none_where mark_of (exchange w e)
    (sym (mark_told v.peers v.marks w e i.hears) ∙ none)

pub none_sent : (w : World) (e : ℕ) → None ≡ option_map sent_of (exchange w e) → exchange w e ≡ None
none_sent w e none = none_where sent_of (exchange w e) (sym none)

pub no_mark : (v : EngineValue) (w : World) (bodies : ℕ → FrameValue) (e : ℕ) → EngineIsIn v w bodies →
    exchange w e ≡ None → mark_in v.marks e ≡ None
no_mark v w bodies e i none = mark_told v.peers v.marks w e i.hears ∙ ap (option_map mark_of) none

-- an open exchange has at most 256 transmissions
pub transmissions_few : (w : World) (e : ℕ) (x : Exchange) → IsReached w → exchange w e ≡ Some x →
    transmissions x.content < 257
transmissions_few w e x r known = few x.content sent.most
  where
    sent : IsSent w x
    sent = found (IsSent w) w.opened e x known (by_law (λ u. EachOpen (IsSent u) u.opened) w r
        (λ m. (sent_law w.config r.history m).opened))

    few : (content : Content) → length (mpdus_of content) ≤ 256 → transmissions content < 257
    few (Frames mpdus) most = omega (arith, most)
    few (Request start) most = omega arith

-- ---- a refused call of an exchange

-- it leaves the engine unchanged
refused_in : (v : EngineValue) (note : Note) (r : Refusal) (w : World) (bodies : ℕ → FrameValue) →
    EngineIsIn v w bodies → StandsFor v.half (step w note).world bodies → refusal w note ≡ Some r →
    EngineMeets w bodies note v (Refused r)
refused_in v note r w bodies i stands e = record {
  is_in = record { half = stands; hears = refused_hears v.peers v.marks w note r i.half.reached i.hears e };
  reply = sym (ap (λ (o : Outcome). o.reply) (step_refused w note r e));
}

-- an exchange that the path sends is open
pub told_open : (w : World) (e : ℕ) (sent : Sent) → option_map sent_of (exchange w e) ≡ Some sent → IsOpen w e
told_open w e sent told = let o = open_where sent_of (exchange w e) sent told in
    record { sending = o.0; known = o.1.0 }

pub told_is : (w : World) (e : ℕ) (sent : Sent) (x : Exchange) →
    option_map sent_of (exchange w e) ≡ Some sent → exchange w e ≡ Some x → sent ≡ sent_of x
told_is w e sent x told known = let both : Some sent ≡ Some (sent_of x) =
    sym told ∙ ap (option_map sent_of) known in cc

pub told_few : (w : World) (e : ℕ) (sent : Sent) → IsReached w →
    option_map sent_of (exchange w e) ≡ Some sent → sent.count < 257
told_few w e sent r told =
    let o = told_open w e sent told in
    omega (
      arith,
      transmissions_few w e o.sending r o.known,
      ap (λ (s : Sent). s.count) (told_is w e sent o.sending told o.known),
    )

-- ---- Arrive

module _ (v : EngineValue) (w : World) (bodies : ℕ → FrameValue) (e k : ℕ) (i : EngineIsIn v w bodies) where
  -- by what the marks say of the exchange, which has `count` transmissions if it is open
  told_by : (count : ℕ) (told : Option Refusal) → IfSome (exchange w e)
      (λ x. count ≡ transmissions x.content) →
      told ≡ told_refusal (mark_in v.marks e) count k → IsToldBy w e k told
  told_by count (Some r) counted same = (
    arrive_told v.peers v.marks w e k count i.hears counted
        ∙ ap (λ (o : Option Refusal). option_or o
        (if exchange_has (exchange w e) (λ x. has x.unsent k) then Some Marked else None)) (sym same),
    unsent_told v.peers v.marks w e k count r i.hears counted (sym same),
  )
  told_by count None counted same = (
    arrive_told v.peers v.marks w e k count i.hears counted
        ∙ ap (λ (o : Option Refusal). option_or o
        (if exchange_has (exchange w e) (λ x. has x.unsent k) then Some Marked else None)) (sym same),
    untold_told v.peers v.marks w e k count i.hears (sym same),
  )

  pub told_not_open : exchange w e ≡ None → IsToldBy w e k (Some NoExchange)
  told_not_open none = told_by 0 (Some NoExchange)
      (subst (λ (o : Option Exchange). IfSome o (λ x. 0 ≡ transmissions x.content)) (sym none) tt)
      (sym (ap (λ (m : Option Mark). told_refusal m 0 k) (no_mark v w bodies e i none)))

  pub told_if_open : (sent : Sent) (m : Mark) (told : Option Refusal) →
      Some sent ≡ option_map sent_of (exchange w e) → mark_in v.marks e ≡ Some m →
      told ≡ told_refusal (Some m) sent.count k → IsToldBy w e k told
  told_if_open sent m told is marked same =
      let o = open_where sent_of (exchange w e) sent (sym is) in
      told_by sent.count told
      (subst (λ (p : Option Exchange). IfSome p (λ x. sent.count ≡ transmissions x.content)) (sym o.1.0)
      (ap (λ (s : Sent). s.count) (sym o.1.1)))
      (same ∙ ap (λ (p : Option Mark). told_refusal p sent.count k) (sym marked))

  -- an index that is not refused is small
  pub told_low : (sent : Sent) (m : Mark) → Some sent ≡ option_map sent_of (exchange w e) →
      None ≡ told_refusal (Some m) sent.count k → k < 256
  told_low sent m is none =
      let few : sent.count < 257 = told_few w e sent i.half.reached (sym is) in
      omega (arith, few, within sent.count (first_passes (nat_le sent.count k) _ (sym none)))
    where
      first_passes : (b : Bool) (o : Option Refusal) → (if b then Some BadIndex else o) ≡ None → b ≡ false
      first_passes true o h = absurd (cc h)
      first_passes false o h = refl

      within : (n : ℕ) → nat_le n k ≡ false → k < n
      within n above = leb-false n k above

  same_unsent : (r : Refusal) → after_refusal w (Asked (Unsent e k)) r ≡ w
  unfolding after_refusal
  same_unsent r = refl

  -- the effect of a refused Unsent
  pub unsent_refused : (r : Refusal) → refusal w (Asked (Unsent e k)) ≡ Some r →
      EngineMeets w bodies (Asked (Unsent e k)) v (Refused r)
  unsent_refused r is = refused_in v (Asked (Unsent e k)) r w bodies i
      (subst (λ (u : World). StandsFor v.half u bodies) (sym (ap (λ (o : Outcome). o.world)
      (step_refused w (Asked (Unsent e k)) r is) ∙ same_unsent r)) i.half) is

  pub arrive_refused : (r : Refusal) → Some r ≡ refusal w (Asked (Arrive e k)) →
      EngineMeets w bodies (Asked (Arrive e k)) v (Refused r)
  arrive_refused r is = refused_in v (Asked (Arrive e k)) r w bodies i
      (arrive_stands v.half w bodies e k i.half) (sym is)

pub told_station : (v : EngineValue) (w : World) (bodies : ℕ → FrameValue) (e : ℕ) (sent : Sent) →
    EngineIsIn v w bodies → option_map sent_of (exchange w e) ≡ Some sent → sent.station < length v.peers
told_station v w bodies e sent i told =
    let o = told_open w e sent told in
    omega (
      arith,
      station_now w e o.sending i.half.reached o.known,
      ap (λ (s : Sent). s.station) (told_is w e sent o.sending told o.known),
      i.hears.sized.count,
    )

pub told_tid : (w : World) (e : ℕ) (sent : Sent) → IsReached w →
    option_map sent_of (exchange w e) ≡ Some sent → sent.tid < 8
told_tid w e sent r told =
    let o = told_open w e sent told in
    omega (
      arith,
      tid_now w r e o.sending o.known,
      ap (λ (s : Sent). s.tid) (told_is w e sent o.sending told o.known),
    )

-- the station of an exchange that ended is live
pub told_live : (w : World) (e : ℕ) (heard : Bool) (air : Option ℕ) → IsReached w → (sent : Sent) →
    option_map sent_of (exchange w e) ≡ Some sent → refusal w (Asked (Done e heard air)) ≡ None →
    is_live (step w (Asked (Done e heard air))).world sent.station ≡ true
told_live w e heard air r sent told done =
    let o = told_open w e sent told in
    ap (λ (s : Sent). is_live (step w (Asked (Done e heard air))).world s.station)
    (told_is w e sent o.sending told o.known)
    ∙ ended_live w e heard air o.sending r o.known done

-- ---- the start that a path announces

-- If the path announces none for a live station, the TID has an agreement, and no receive half moves.
pub unannounced_peers : (w : World) (s t : ℕ) (peers : List PeerValue) → None ≡ start_announced w s t →
    is_live w s ≡ true → peers ≡ peers_caught_up w s t peers
unannounced_peers w s t peers none live = of (is_live w s) (is_agreed w s t) none live
  where
    of : (there agreed : Bool) → None ≡ (if there && not agreed then Some (start_on_air w s t) else None) →
        there ≡ true → peers ≡ (if agreed then peers
        else with_peer s (peer_requested t (twelve_bit_start w s t) (peer_of peers s)) peers)
    of true true e is = refl
    of true false e is = absurd (cc e)
    of false agreed e is = absurd (cc is)

-- the index of a transmission that may arrive is below the number of transmissions
pub arrives_within : (w : World) (e k : ℕ) (x : Exchange) → exchange w e ≡ Some x →
    refusal w (Asked (Arrive e k)) ≡ None → k < transmissions x.content
arrives_within w e k x known done = below (transmissions x.content)
    (subst (λ (o : Option Exchange). HasNot o) known (no_row (refusals w (Asked (Arrive e k))) done).1.0)
  where
    HasNot : Option Exchange → Type 0
    HasNot o = exchange_has o (λ y. nat_le (transmissions y.content) k) ≡ false

    below : (n : ℕ) → nat_le n k ≡ false → k < n
    below n above = leb-false n k above

-- the effect of an Arrive
pub arrived_meets : (v : EngineValue) (w : World) (bodies : ℕ → FrameValue) (e k id : ℕ) (x : Exchange) →
    EngineIsIn v w bodies → exchange w e ≡ Some x → refusal w (Asked (Arrive e k)) ≡ None →
    CarriesId id k x.content →
    EngineMeets w bodies (Asked (Arrive e k))
    (record v {
      peers = with_peer x.station (peer_after x.tid k id x.content (peer_of v.peers x.station))
          v.peers;
      marks = with_changed e (with_arrival k) v.marks;
    })
    (Released (if x.batch then [] else (buffer_outcome_of_transmission k id x.content
    (agreement_of v.peers x.station x.tid).buffer).up))
arrived_meets v w bodies e k id x i known done carries = record {
  is_in = record {
    half = arrive_stands v.half w bodies e k i.half;
    hears =
        arrived_hears v.peers v.marks w e k id x i.half.reached i.hears known done carries;
  };
  reply = sym (arrived_up v.peers v.marks w e k id x i.half.reached i.hears known done carries);
}

-- ---- Answer

-- the reply of an answer that is an Ack or this BlockAck
pub ack_or_reply : (plain : Bool) (ba : Brief) (pairs : List (ℕ × ℕ)) (ids : List ℕ) →
    reply_with (if plain then brief.Ack else ba) pairs ids ≡ (if plain then Ack else reply_with ba pairs ids)
ack_or_reply true ba pairs ids = refl
ack_or_reply false ba pairs ids = refl

module _ (v : EngineValue) (w : World) (bodies : ℕ → FrameValue) (e : ℕ) (i : EngineIsIn v w bodies) where
  pub answer_not_open : exchange w e ≡ None → Some NoExchange ≡ refusal w (Asked (Answer e))
  answer_not_open none = sym (answer_inferred v.peers v.marks w e i.hears
      ∙ ap (λ (m : Option Mark). answer_refusal m (is_batch (exchange w e))) (no_mark v w bodies e i none))

  pub answer_open : (m : Mark) (batch : Bool) → mark_in v.marks e ≡ Some m →
      batch ≡ is_batch (exchange w e) → answer_refusal (Some m) batch ≡ refusal w (Asked (Answer e))
  answer_open m batch marked is = ap (answer_refusal (Some m)) is
      ∙ sym (answer_inferred v.peers v.marks w e i.hears
      ∙ ap (λ (k : Option Mark). answer_refusal k (is_batch (exchange w e))) marked)

  pub answer_refused : (r : Refusal) → Some r ≡ refusal w (Asked (Answer e)) →
      EngineMeets w bodies (Asked (Answer e)) v (Refused r)
  answer_refused r is = refused_in v (Asked (Answer e)) r w bodies i (answer_stands v.half w bodies e i.half)
      (sym is)

  -- the effect of an Answer
  pub answered_meets : (sent : Sent) → option_map sent_of (exchange w e) ≡ Some sent →
      refusal w (Asked (Answer e)) ≡ None →
      let b : Board = (agreement_of v.peers sent.station sent.tid).board in
      EngineMeets w bodies (Asked (Answer e)) (record
      v { marks = with_changed e (with_answer b.start b.offsets) v.marks })
      (if exchange_has (exchange w e) (λ x. x.plain) then Ack else
      Ba b.start (bits_word 0 b.offsets) (bits_word 1 b.offsets) (bits_word 2 b.offsets)
      (bits_word 3 b.offsets) (nat_lt 64 b.size))
  answered_meets sent told done =
      let o = told_open w e sent told in
      let board_of_sending : Board = (agreement_of v.peers o.sending.station o.sending.tid).board in
      subst (λ (s : Sent).
      let b : Board = (agreement_of v.peers s.station s.tid).board in
      EngineMeets w bodies (Asked (Answer e)) (record
      v { marks = with_changed e (with_answer b.start b.offsets) v.marks })
      (if exchange_has (exchange w e) (λ x. x.plain) then Ack else
      Ba b.start (bits_word 0 b.offsets) (bits_word 1 b.offsets) (bits_word 2 b.offsets)
      (bits_word 3 b.offsets) (nat_lt 64 b.size))) (sym (told_is w e sent o.sending told o.known))
      (record {
        is_in = record {
          half = answer_stands v.half w bodies e i.half;
          hears =
              answered_hears v.peers v.marks w e o.sending i.half.reached i.hears o.known done;
        };
        reply = ap (λ (f : Option Exchange). let b : Board = board_of_sending in
            if exchange_has f (λ x. x.plain) then Ack else
            Ba b.start (bits_word 0 b.offsets) (bits_word 1 b.offsets) (bits_word 2 b.offsets)
            (bits_word 3 b.offsets) (nat_lt 64 b.size)) o.known
            ∙ sym (answer_reply v.peers v.marks w e o.sending i.half.reached i.hears o.known done);
      })

-- ---- Done

not_idle : (config : Config) (m : Option Mark) (batch heard : Bool) (air : Option ℕ) →
    done_refusal config m batch heard air ≡ Some Idle → ⊥
not_idle config None batch heard air e = absurd (cc)
not_idle config (Some m) batch heard air e =
    of (heard && (not batch && is_none m.answer)) (is_bad_air config air) e
  where
    of : (a b : Bool) → (if a then Some NoAnswer else (if b then Some BadAir else None)) ≡ Some Idle → ⊥
    of true b k = absurd (cc)
    of false true k = absurd (cc)
    of false false k = absurd (cc)

module _ (v : EngineValue) (w : World) (bodies : ℕ → FrameValue) (e : ℕ) (heard : Bool) (air : Option ℕ)
    (i : EngineIsIn v w bodies) where
  pub done_not_open : exchange w e ≡ None → Some NoExchange ≡ refusal w (Asked (Done e heard air))
  done_not_open none = sym (done_inferred v.peers v.marks w e heard air i.hears
      ∙ ap (λ (m : Option Mark). done_refusal w.config m (is_batch (exchange w e)) heard air)
      (no_mark v w bodies e i none))

  pub done_marked : (config : Config) → config ≡ v.half.config → (m : Option Mark) (batch : Bool) →
      mark_in v.marks e ≡ m → batch ≡ is_batch (exchange w e) →
      done_refusal config m batch heard air ≡ refusal w (Asked (Done e heard air))
  done_marked config same m batch marked is =
      ap (λ (c : Config). done_refusal c m batch heard air) (same ∙ i.half.parts.others.config)
      ∙ ap (λ (b : Bool). done_refusal w.config m b heard air) is
      ∙ sym (done_inferred v.peers v.marks w e heard air i.hears
      ∙ ap (λ (p : Option Mark). done_refusal w.config p (is_batch (exchange w e)) heard air) marked)

  pub done_refused : (r : Refusal) → Some r ≡ refusal w (Asked (Done e heard air)) →
      EngineMeets w bodies (Asked (Done e heard air)) v (Refused r)
  done_refused r is =
      let m = refused_meets v.half w bodies (Asked (Done e heard air)) r i.half (sym is)
      (λ idle. not_idle v.half.config (mark_in v.marks e) (is_batch (exchange w e)) heard air
      (done_marked v.half.config refl (mark_in v.marks e) (is_batch (exchange w e)) refl refl
      ∙ sym is ∙ ap Some idle)) in
      record {
        is_in = record {
          half = m.stands;
          hears =
              refused_hears v.peers v.marks w (Asked (Done e heard air)) r i.half.reached i.hears (sym is);
        };
        reply =
            m.reply;
      }

  -- the effect of a Done, after which the receive half of an offloaded station catches up
  pub ended_meets : (after : TransmitValue) (answered : ReplyNote) (sent : Sent) →
      option_map sent_of (exchange w e) ≡ Some sent → refusal w (Asked (Done e heard air)) ≡ None →
      PathMeets w bodies (Asked (Done e heard air)) after answered →
      (peers : List PeerValue) (marks : List Mark) →
      peers ≡ peers_caught_up (step w (Asked (Done e heard air))).world sent.station sent.tid v.peers →
      marks ≡ filter (λ m. not (m.number == e)) v.marks →
      EngineMeets w bodies (Asked (Done e heard air)) (record { half = after; peers = peers; marks = marks })
      answered
  ended_meets after answered sent told done m peers marks are closed =
      let o = told_open w e sent told in
      let x : Exchange = o.sending in
      let u : World = (step w (Asked (Done e heard air))).world in
      let at_x : peers_caught_up u x.station x.tid v.peers ≡ peers = sym (are
      ∙ ap (λ (k : Sent). peers_caught_up u k.station k.tid v.peers) (told_is w e sent x told o.known)) in
      record {
        is_in = record {
          half = m.stands;
          hears = subst (λ (ms : List Mark). Hears peers ms u) (sym closed)
              (subst (λ (ps : List PeerValue). Hears ps (filter (λ k. not (k.number == e)) v.marks) u) at_x
              (ended_hears v.peers v.marks w e heard air x i.half.reached i.hears o.known done));
        };
        reply = m.reply;
      }

-- an open exchange has this mark
marked_is : (v : EngineValue) (w : World) (bodies : ℕ → FrameValue) (e : ℕ) (m : Mark) →
    EngineIsIn v w bodies → mark_in v.marks e ≡ Some m →
    (x : Exchange) × ((exchange w e ≡ Some x) × (mark_of x ≡ m))
marked_is v w bodies e m i marked =
    open_where mark_of (exchange w e) m (sym (mark_told v.peers v.marks w e i.hears) ∙ marked)

-- how a path ends exchange e, by the BlockAck that was heard, if any
pub record PathEnds (v : TransmitValue) (e : ℕ) (kept : Option (ℕ × List ℕ)) (air : Option ℕ)
    (after : TransmitValue) (b : Brief) : Type 0 where
  pub lost : IfNone kept ((u : World) (frames : ℕ → FrameValue) (ps : List (ℕ × ℕ)) (is : List ℕ) →
      StandsFor v u frames → IsNoBatch u e →
      PathMeets u frames (Asked (Done e false air)) after (reply_with b ps is))
  pub shown : IfSome kept (λ score. (u : World) (frames : ℕ → FrameValue) (x : Exchange) (a : Score)
      (ps : List (ℕ × ℕ)) (is : List ℕ) → StandsFor v u frames → exchange u e ≡ Some x → x.batch ≡ false →
      x.answer ≡ Some a → AreShown u x a (Some score) →
      PathMeets u frames (Asked (Done e true air)) after (reply_with b ps is))
  pub arrived : (u : World) (frames : ℕ → FrameValue) (x : Exchange) (told : Bool) (ps : List (ℕ × ℕ))
      (is : List ℕ) → StandsFor v u frames → exchange u e ≡ Some x → x.batch ≡ true →
      IsToldAs x kept told → AreArrived u x kept →
      PathMeets u frames (Asked (Done e told air)) after (reply_with b ps is)

-- an exchange without an answer does not end as heard, unless it is a batch
no_answer : (config : Config) (m : Mark) (air : Option ℕ) → m.answer ≡ None →
    done_refusal config (Some m) false true air ≡ None → ⊥
no_answer config m air none ends = of m.answer none ends
  where
    of : (b : Option (ℕ × List ℕ)) → b ≡ None → (if true && (true && is_none b) then Some NoAnswer
        else (if is_bad_air config air then Some BadAir else None)) ≡ None → ⊥
    of None n k = absurd (cc)
    of (Some x) n k = absurd (cc n)

module _ (v : EngineValue) (w : World) (bodies : ℕ → FrameValue) (e : ℕ) (air : Option ℕ)
    (i : EngineIsIn v w bodies) (m : Mark) (marked : mark_in v.marks e ≡ Some m) (after : TransmitValue)
    (b : Brief) (pairs : List (ℕ × ℕ)) (ids : List ℕ) where
  -- an exchange that is no batch, by its kept answer
  end_unbatched : (heard : Bool) → is_batch (exchange w e) ≡ false →
      refusal w (Asked (Done e heard air)) ≡ None →
      PathEnds v.half e (heard_by v.half m false heard) air after b →
      PathMeets w bodies (Asked (Done e heard air)) after (reply_with b pairs ids)
  end_unbatched false plain done ends = ends.lost w bodies pairs ids i.half plain
  end_unbatched true plain done ends = by_answer m.answer refl ends
    where
      by_answer : (o : Option (ℕ × List ℕ)) → m.answer ≡ o → PathEnds v.half e o air after b →
          PathMeets w bodies (Asked (Done e true air)) after (reply_with b pairs ids)
      by_answer None none k = absurd (no_answer v.half.config m air none
          (done_marked v w bodies e true air i v.half.config refl (Some m) false marked (sym plain) ∙ done))
      by_answer (Some score) kept k =
          let s : KeepsShown w e score =
          mark_shown v.peers v.marks w e m score i.half.reached i.hears marked kept in
          k.shown w bodies s.open_now s.answer pairs ids i.half s.found
          (sym (ap is_batch s.found) ∙ plain) s.is s.shown

  -- a batch, by what arrived
  end_batched : (heard : Bool) → is_batch (exchange w e) ≡ true →
      PathEnds v.half e (heard_by v.half m true heard) air after b →
      PathMeets w bodies (Asked (Done e heard air)) after (reply_with b pairs ids)
  end_batched heard batched ends =
      let o = marked_is v w bodies e m i marked in
      let x : Exchange = o.0 in
      let batch : x.batch ≡ true = sym (ap is_batch o.1.0) ∙ batched in
      let number : m.number ≡ e = sym (ap (λ (k : Mark). k.number) o.1.1) ∙ found_number w e x o.1.0 in
      let same : shown_at (find (λ y. y.number == m.number) v.half.opened) m.arrived
      ≡ shown_at (find (λ y. y.number == e) v.half.opened) x.arrived =
      ap (λ (n : ℕ). shown_at (find (λ y. y.number == n) v.half.opened) m.arrived) number
      ∙ ap (λ (k : Mark). shown_at (find (λ y. y.number == e) v.half.opened) k.arrived) (sym o.1.1) in
      ends.arrived w bodies x heard pairs ids i.half o.1.0 batch
      (λ asks. absurd (cc (asks, (open_now w i.half.reached e x o.1.0).right.frames batch)))
      (subst (AreArrived w x) (sym same) (shown_arrived v.half w bodies e x i.half o.1.0 batch))

  -- the path's end of an exchange is the end of a Done
  pub end_met : (heard : Bool) (kept : Option (ℕ × List ℕ)) →
      kept ≡ heard_by v.half m (is_batch (exchange w e)) heard →
      refusal w (Asked (Done e heard air)) ≡ None → PathEnds v.half e kept air after b →
      PathMeets w bodies (Asked (Done e heard air)) after (reply_with b pairs ids)
  end_met heard kept is done ends = on_bool (is_batch (exchange w e))
      (λ batched. end_batched heard batched
      (subst (λ (k : Option (ℕ × List ℕ)). PathEnds v.half e k air after b)
      (is ∙ ap (λ (c : Bool). heard_by v.half m c heard) batched) ends))
      (λ plain. end_unbatched heard plain done
      (subst (λ (k : Option (ℕ × List ℕ)). PathEnds v.half e k air after b)
      (is ∙ ap (λ (c : Bool). heard_by v.half m c heard) plain) ends))

-- the same for an exchange with a mark, whose transmissions the path returns
pub done_met : (v : EngineValue) (w : World) (bodies : ℕ → FrameValue) (e : ℕ) (heard : Bool)
    (air : Option ℕ) → EngineIsIn v w bodies → (sent : Sent) → option_map sent_of (exchange w e) ≡ Some sent →
    (kept : Option (ℕ × List ℕ)) → IfSome (mark_in v.marks e) (λ m. (u : World) (frames : ℕ → FrameValue) →
    StandsFor v.half u frames → kept ≡ heard_by v.half m (is_batch (exchange u e)) heard) →
    refusal w (Asked (Done e heard air)) ≡ None → (after : TransmitValue) (b : Brief) →
    PathEnds v.half e kept air after b → (pairs : List (ℕ × ℕ)) (ids : List ℕ) →
    PathMeets w bodies (Asked (Done e heard air)) after (reply_with b pairs ids)
done_met v w bodies e heard air i sent told kept by_mark done after b ends pairs ids =
    let o = told_open w e sent told in
    let x : Exchange = o.sending in
    let marked : mark_in v.marks e ≡ Some (mark_of x) =
    mark_told v.peers v.marks w e i.hears ∙ ap (option_map mark_of) o.known in
    end_met v w bodies e air i (mark_of x) marked after b pairs ids heard kept
    (subst (λ (k : Option Mark). IfSome k (λ m. (u : World) (frames : ℕ → FrameValue) →
    StandsFor v.half u frames → kept ≡ heard_by v.half m (is_batch (exchange u e)) heard)) marked by_mark
    w bodies i.half) done ends

-- ---- the receive halves after an Arrive

-- the effect of an Arrive, for receive halves, marks and passed-up frames that are equal to these
pub passed_on : (v : EngineValue) (w : World) (bodies : ℕ → FrameValue) (e k id : ℕ) (x : Exchange) →
    EngineIsIn v w bodies → exchange w e ≡ Some x → refusal w (Asked (Arrive e k)) ≡ None →
    CarriesId id k x.content → (peers : List PeerValue) (marks : List Mark) (up : List ℕ) →
    peers ≡ with_peer x.station (peer_after x.tid k id x.content (peer_of v.peers x.station)) v.peers →
    marks ≡ with_changed e (with_arrival k) v.marks →
    up ≡ (buffer_outcome_of_transmission k id x.content (agreement_of v.peers x.station x.tid).buffer).up →
    EngineMeets w bodies (Asked (Arrive e k)) (record v { peers = peers; marks = marks })
    (Released (if is_batch (exchange w e) then [] else up))
passed_on v w bodies e k id x i known done carries peers marks up peers_are marks_are up_is =
    let out : List ℕ = (buffer_outcome_of_transmission k id x.content
    (agreement_of v.peers x.station x.tid).buffer).up in
    let is : (if x.batch then [] else out) ≡ (if is_batch (exchange w e) then [] else up) =
    ap (λ (us : List ℕ). if x.batch then [] else us) (sym up_is)
    ∙ ap (λ (o : Option Exchange). if is_batch o then [] else up) (sym known) in
    subst (λ (us : List ℕ). EngineMeets w bodies (Asked (Arrive e k))
    (record v { peers = peers; marks = marks }) (Released us)) is
    (subst (λ (ms : List Mark). let u : EngineValue = record v { peers = peers; marks = ms } in
    EngineMeets w bodies (Asked (Arrive e k)) u (Released (if x.batch then [] else out))) (sym marks_are)
    (subst (λ (ps : List PeerValue). let u : EngineValue =
    record v { peers = ps; marks = with_changed e (with_arrival k) v.marks } in
    EngineMeets w bodies (Asked (Arrive e k)) u (Released (if x.batch then [] else out)))
    (sym peers_are)
    (arrived_meets v w bodies e k id x i known done carries)))
