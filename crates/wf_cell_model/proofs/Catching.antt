-- Proves the effect of a Done and of a Flush on the receive halves and the marks. A TID without an agreement
-- catches up with its window, and all others are unchanged.
use Rattle.std.proofs.Common.{◌≡◌, refl, ap, sym, ◌∙◌, subst, arith, ℕ, ◌%◌, ◌<◌, ◌==◌, Bool, true, false, not, List, [], ◌∷◌, map, filter, Option, Some, None, if◌then◌else◌}
use Rattle.wf_frame.specs.declared.notes.Ask.TheVariants.{Done, Flush}
use Rattle.wf_frame.specs.declared.notes.Note.{Note}
use Rattle.wf_frame.specs.declared.notes.Note.TheVariants.{Asked}
use Rattle.wf_def_agreement.specs.Receiver.{Receiver, with_start}
use Rattle.wf_def_agreement.specs.Session.{Session, End, start_of, after_flush}
use Rattle.wf_law_rules.proofs.Lemmas.Numbers.{on_bool, le_no, lt_no}
use Rattle.wf_def_world.specs.World.{World, Exchange, Mpdu, Content, Frames, Request, Tid, tid_of, session, receiver, is_live, is_agreed, exchange, on_session, on_tid, without_exchange}
use Rattle.wf_def_world.specs.CanSend.{is_request, with_listings_of}
use Rattle.wf_def_world.specs.Exchanges.{end_of, after_charge, with_all_settled, with_heard_start, caught_up, caught_up_if_plain, after_done}
use Rattle.wf_def_world.specs.Refusals.{refusals, refusal}
use Rattle.wf_def_world.specs.Step.{done_outcome, flush_outcome, outcome_where_open, outcome_of, concerned_station, step}
use Rattle.wf_law_runs.proofs.Common.Flushes.{emptied_world, flush_is}
use Rattle.wf_law_runs.proofs.Sessions.Starts.{start_le}
use Rattle.wf_law_runs.proofs.Windows.Sides.{Side, side, side_of, Same, side_on, side_elsewhere, on_live, told_start, caught_up_is, same as same_world, same_listed, same_charged, same_emptied}
use Rattle.wf_law_runs.proofs.Windows.Opened.{no_row}
use Rattle.wf_law_runs.proofs.Windows.Agreement.{IsAgreed, next_release, score_kept}
use Rattle.wf_law_runs.proofs.Windows.Agreed.{IsLawful, IsFound, found, not_no, ending_of, ending_all, lawful_emptied}
use Rattle.wf_law_runs.proofs.Frames.Delivered.{opened_ended}
use Rattle.wf_law_runs.proofs.Releases.Kept.{kept_equal, kept_flush, kept_heard, kept_refl, heard_size, keep_on_session, keep_settled, keep_ended, keep_caught_up, keep_flushed, opened_flushed}
use Rattle.wf_law_driver.proofs.Opened.{step_done, found_number, some_at}
use Rattle.wf_recv_marks.specs.declared.marks.Mark.{Mark}
use Rattle.wf_recv_peer.specs.Agreements.{PeerValue, AgreementValue}
use Rattle.wf_recv_peer.specs.Board.{after_start as board_requested}
use Rattle.wf_recv_peer.specs.Buffer.{request_outcome as buffer_requested}
use Rattle.wf_recv_peer_refines.specs.Half.{ReceiveHalfStandsFor, IsRequestInReach}
use Rattle.wf_recv_peer_refines.proofs.Halves.{stands_request}
use Rattle.wf_send_half_model.specs.Standing.{IsReached}
use Rattle.wf_cell_model.specs.Arriving.{agreement_after_transmission, peer_requested}
use Rattle.wf_cell_model.specs.Catching.{peers_caught_up}
use Rattle.wf_cell_model.specs.Hearing.{peer_of, agreement_of, with_peer, carried, StandsForTid, mark_of, Hears}
use Rattle.wf_cell_model.proofs.Keeping.{Stays, lawful_now, config_done, stays_kept, stays_same, then_stays, stays_stand, hears_stays}
use Rattle.wf_cell_model.proofs.Receivers.{receivers_on_session, receivers_settled}
use Rattle.wf_cell_model.proofs.Changing.{with_agreement, StaysBut, stays_but, then_stays_but, changed_hears}
use Rattle.wf_cell_model.proofs.Sent.{station_now, tid_now}

-- ---- a TID without an agreement catches up

-- After a change that stays, TID t of station s catches up, if it has no agreement.
record IsCaughtUp (w v : World) (s t : ℕ) : Type 0 where
  before : World
  stays : Stays w before
  live : is_live before s ≡ true
  agreed : is_agreed before s t ≡ false → IsAgreed (session before s t) (receiver before s t)
  after : v ≡ caught_up_if_plain before s t

-- The station is live before it catches up if it is live afterwards.
live_before : (u v : World) (s t : ℕ) → v ≡ caught_up_if_plain u s t → is_live v s ≡ true →
    is_live u s ≡ true
live_before u v s t is live =
    sym ((keep_caught_up u s t).live s) ∙ ap (λ (z : World). is_live z s) (sym is) ∙ live

caught_if : (w : World) (s t : ℕ) → is_agreed w s t ≡ false → caught_up_if_plain w s t ≡ caught_up w s t
unfolding caught_up_if_plain
caught_if w s t none = ap (λ (b : Bool). if b then w else caught_up w s t) none

caught_not : (w : World) (s t : ℕ) → is_agreed w s t ≡ true → caught_up_if_plain w s t ≡ w
unfolding caught_up_if_plain
caught_not w s t has = ap (λ (b : Bool). if b then w else caught_up w s t) has

-- the agreement whose window moved to the start of the session
caught_agreement : Session → AgreementValue → AgreementValue
caught_agreement y a = agreement_after_transmission 0 0 (Request (start_of y % 4096)) a

caught_side : (w : World) (s t : ℕ) → is_live w s ≡ true →
    side (caught_up w s t) s t ≡ side_of (told_start (start_of (session w s t)) (tid_of w s t))
caught_side w s t live =
    let f : Tid → Tid = told_start (start_of (session w s t)) in
    ap (λ (v : World). side v s t) (caught_up_is w s t) ∙ side_on w s t f live

-- One TID changes: all others stay.
pub stays_on_tid : (w : World) (s t : ℕ) (f : Tid → Tid) → StaysBut s t w (on_tid w s t f)
stays_on_tid w s t f = record {
  live = λ i l. sym (on_live w s t f i) ∙ l;
  receivers = λ i j _ other. ap (λ (z : Side). z.receiver) (side_elsewhere w s t f i j
      (λ e d. other (sym e) (sym d)));
  sessions = λ i j _ other. kept_equal (session w i j) (session (on_tid w s t f) i j)
      (ap (λ (z : Side). z.session) (side_elsewhere w s t f i j (λ e d. other (sym e) (sym d))));
}

caught_stays : (w : World) (s t : ℕ) → StaysBut s t w (caught_up w s t)
caught_stays w s t = subst (StaysBut s t w) (sym (caught_up_is w s t))
    (stays_on_tid w s t (told_start (start_of (session w s t))))

-- the start of the window is in reach of the receiver
start_in_reach : (y : Session) (r : Receiver) → IsAgreed y r → IsRequestInReach r (start_of y)
start_in_reach y r a = record {
  score = omega (arith, score_kept y r a);
  release = omega (arith, next_release y r a, start_le y.slots y.first, a.size);
}

stands_moved : (ids : ℕ → ℕ) (y : Session) (r : Receiver) (a : AgreementValue) → IsAgreed y r →
    ReceiveHalfStandsFor ids r a.board a.buffer →
    ReceiveHalfStandsFor ids (with_start (start_of y) r) (caught_agreement y a).board
    (caught_agreement y a).buffer
unfolding caught_agreement
stands_moved ids y r a agreed h =
    let f : ℕ = start_of y in
    let once : f % 4096 ≡ (f % 4096) % 4096 = omega arith in
    subst (λ (k : ℕ). ReceiveHalfStandsFor ids (with_start f r) (board_requested k a.board)
    (buffer_requested k a.buffer).after) once
    (stands_request ids r a.board a.buffer f h (start_in_reach y r agreed))

caught_stands : (w : World) (s t : ℕ) (a : AgreementValue) → is_live w s ≡ true →
    IsAgreed (session w s t) (receiver w s t) → StandsForTid w s t a →
    StandsForTid (caught_up w s t) s t (caught_agreement (session w s t) a)
caught_stands w s t a live agreed h =
    let y : Session = session w s t in
    let b : AgreementValue = caught_agreement y a in
    subst (λ (z : Side). ReceiveHalfStandsFor (carried z.session) z.receiver b.board b.buffer)
    (sym (caught_side w s t live)) (stands_moved (carried y) y (receiver w s t) a agreed h)

-- the receive halves after a TID without an agreement caught up
caught_peers : (w v : World) (s t : ℕ) (peers : List PeerValue) → is_agreed v s t ≡ false →
    start_of (session v s t) ≡ start_of (session w s t) →
    peers_caught_up v s t peers
    ≡ with_peer s (with_agreement t (caught_agreement (session w s t) (agreement_of peers s t))
    (peer_of peers s)) peers
unfolding caught_agreement
caught_peers w v s t peers none start =
    ap (λ (b : Bool). if b then peers else with_peer s (peer_requested t (start_of (session v s t) % 4096)
    (peer_of peers s)) peers) none
    ∙ ap (λ (k : ℕ). with_peer s (peer_requested t (k % 4096) (peer_of peers s)) peers) start

uncaught_peers : (v : World) (s t : ℕ) (peers : List PeerValue) → is_agreed v s t ≡ true →
    peers_caught_up v s t peers ≡ peers
uncaught_peers v s t peers has = ap (λ (b : Bool). if b then peers else with_peer s (peer_requested t
    (start_of (session v s t) % 4096) (peer_of peers s)) peers) has

-- ---- a call after which a TID catches up

module _ (peers : List PeerValue) (marks after : List Mark) (w : World) (s t : ℕ) (lawful : IsLawful w)
    (h : Hears peers marks w) (low : s < w.config.stations) (below : t < 8) where
  -- v is the world after the call
  caught_hears : (u v : World) → Stays w u → is_live u s ≡ true →
      (is_agreed u s t ≡ false → IsAgreed (session u s t) (receiver u s t)) →
      Same (caught_up_if_plain u s t) v → v.config ≡ w.config → after ≡ map mark_of v.opened →
      Hears (peers_caught_up v s t peers) after v
  caught_hears u v stays live agreed same config kept = on_bool (is_agreed u s t)
      (λ has.
      let k : Same u v = subst (λ (z : World). Same z v) (caught_not u s t has) same in
      subst (λ (ps : List PeerValue). Hears ps after v)
      (sym (uncaught_peers v s t peers (ap (λ (z : Side). z.agreed) (k.sides s t) ∙ has)))
      (hears_stays peers marks after w v lawful (then_stays w u v stays (stays_same u v k)) config kept h))
      (λ none.
      let c : World = caught_up u s t in
      let k : Same c v = subst (λ (z : World). Same z v) (caught_if u s t none) same in
      let a : AgreementValue = agreement_of peers s t in
      let b : AgreementValue = caught_agreement (session u s t) a in
      let is : side v s t ≡ side_of (told_start (start_of (session u s t)) (tid_of u s t)) =
      k.sides s t ∙ caught_side u s t live in
      let own : StandsForTid v s t b =
      subst (λ (z : Side). ReceiveHalfStandsFor (carried z.session) z.receiver
      b.board b.buffer) (sym (k.sides s t)) (caught_stands u s t a live (agreed none)
      (stays_stand w u s t a lawful (stays.receivers s t live) (stays.sessions s t live)
      (h.agreements s t (stays.live s live) below))) in
      subst (λ (ps : List PeerValue). Hears ps after v)
      (sym (caught_peers u v s t peers (ap (λ (z : Side). z.agreed) is ∙ none)
      (ap (λ (z : Side). start_of z.session) is)))
      (changed_hears peers marks w v s t b h low below after lawful
      (then_stays_but s t w u v (stays_but s t w u stays)
      (then_stays_but s t u c v (caught_stays u s t) (stays_but s t c v (stays_same c v k))))
      config (λ _. own) kept))

  caught_outcome : (note : Note) → refusal w note ≡ None → IsCaughtUp w (outcome_of w note).world s t →
      after ≡ map mark_of (outcome_of w note).world.opened →
      Hears (peers_caught_up (step w note).world s t peers) after (step w note).world
  caught_outcome note fine c kept =
      let u : World = (outcome_of w note).world in
      let v : World = with_listings_of u (concerned_station w note) in
      let k : Same u v = same_listed (concerned_station w note) u in
      subst (λ (z : World). Hears (peers_caught_up z s t peers) after z) (sym (step_done w note fine))
      (caught_hears c.before v c.stays c.live c.agreed (subst (λ (z : World). Same z v) c.after k)
      (config_done w note fine) (kept ∙ ap (map mark_of) (sym k.opened)))

-- A station that is live in a call's outcome is live after the call.
pub listed_live : (w : World) (s : ℕ) (note : Note) → refusal w note ≡ None →
    is_live (outcome_of w note).world s ≡ true → is_live (step w note).world s ≡ true
listed_live w s note fine live = ap (λ (z : World). is_live z s) (step_done w note fine)
    ∙ (same_listed (concerned_station w note) (outcome_of w note).world).live s ∙ live

-- ---- the end of an exchange

stays_all_settled : (ms : List Mpdu) (w : World) (s t : ℕ) (ends : ℕ → End) →
    Stays w (with_all_settled w s t ends ms)
unfolding with_all_settled
stays_all_settled [] w s t ends = stays_same w w (same_world w)
stays_all_settled (m ∷ ms) w s t ends = then_stays w _ _
    (stays_kept w _ (keep_settled (ends m.number) w s t m) (receivers_settled (ends m.number) w s t m))
    (stays_all_settled ms _ s t ends)

stays_without : (w : World) (e : ℕ) → Stays w (without_exchange w e)
unfolding without_exchange
stays_without w e = record {
  live = λ s l. l;
  receivers = λ s t _. refl;
  sessions = λ s t _. kept_refl (session w s t);
}

-- the world before the numbers of an exchange are settled
charged_world : World → Exchange → Option ℕ → World
charged_world w x air = after_charge (without_exchange w x.number) x air

stays_charged : (w : World) (x : Exchange) (air : Option ℕ) → Stays w (charged_world w x air)
unfolding charged_world
stays_charged w x air = then_stays w _ _ (stays_without w x.number)
    (stays_same _ _ (same_charged air (without_exchange w x.number) x))

done_is : (w : World) (x : Exchange) (heard : Bool) (air : Option ℕ) (c : Content) → x.content ≡ c →
    (done_outcome w x heard air).world ≡ after_done (charged_world w x air) x heard c
unfolding done_outcome charged_world
done_is w x heard air c is = ap (after_done (after_charge (without_exchange w x.number) x air) x heard) is

-- the world after an exchange ended, live as before
done_live : (w : World) (i : IsLawful w) (x : Exchange) (heard : Bool) (air : Option ℕ) → IsFound w i x →
    is_live (done_outcome w x heard air).world x.station ≡ true
done_live w i x heard air here = (keep_ended air w x heard).live x.station ∙ here.open_in.live

-- A request is for a TID with an agreement.
caught_request : (w : World) (i : IsLawful w) (x : Exchange) (heard : Bool) (air : Option ℕ) (f : ℕ) →
    x.content ≡ Request f → IsFound w i x →
    is_agreed (done_outcome w x heard air).world x.station x.tid ≡ true
caught_request w i x heard air f is here =
    (keep_ended air w x heard).agreed x.station x.tid ∙ on_bool (is_agreed w x.station x.tid) (λ has. has)
    (λ none. absurd (cc (here.open_in.calm none, ap is_request is)))

caught_done : (c : Content) (w : World) (i : IsLawful w) (x : Exchange) (heard : Bool) (air : Option ℕ) →
    x.content ≡ c → IsFound w i x → IsCaughtUp w (done_outcome w x heard air).world x.station x.tid
unfolding after_done charged_world
caught_done (Frames ms) w i x heard air is here =
    let u : World = charged_world w x air in
    let v : World = with_all_settled u x.station x.tid (end_of u x heard) ms in
    let after : (done_outcome w x heard air).world ≡ caught_up_if_plain v x.station x.tid =
    done_is w x heard air (Frames ms) is in
    record {
      before = v;
      stays = then_stays w u _ (stays_charged w x air)
          (stays_all_settled ms u x.station x.tid (end_of u x heard));
      live = live_before v _ x.station x.tid after (done_live w i x heard air here);
      agreed = λ _. (ending_all ms x.number x.station x.tid u (end_of u x heard)
          (ending_of air w i x ms heard is here)).agreed x.station x.tid;
      after = after;
    }
caught_done (Request f) w i x heard air is here =
    let u : World = charged_world w x air in
    let v : World = on_session u x.station x.tid (with_heard_start heard f) in
    let same : (done_outcome w x heard air).world ≡ v = done_is w x heard air (Request f) is in
    let has : is_agreed v x.station x.tid ≡ true = ap (λ (z : World). is_agreed z x.station x.tid) (sym same)
    ∙ caught_request w i x heard air f is here in
    let after : (done_outcome w x heard air).world ≡ caught_up_if_plain v x.station x.tid =
    same ∙ sym (caught_not v x.station x.tid has) in
    record {
      before = v;
      stays = then_stays w u v (stays_charged w x air)
          (stays_kept u v (keep_on_session u x.station x.tid (with_heard_start heard f)
          (kept_heard heard f (session u x.station x.tid)) (heard_size heard f (session u x.station x.tid)))
          (receivers_on_session u x.station x.tid (with_heard_start heard f)));
      live = live_before v _ x.station x.tid after (done_live w i x heard air here);
      agreed = λ none. absurd (cc (none, has));
      after = after;
    }

-- ---- the marks of an exchange that ends

kept_if : (b : Bool) (x : Exchange) (ms : List Mark) (ys : List Exchange) → ms ≡ map mark_of ys →
    (if b then mark_of x ∷ ms else ms) ≡ map mark_of (if b then x ∷ ys else ys)
kept_if true x ms ys e = ap (λ (rest : List Mark). mark_of x ∷ rest) e
kept_if false x ms ys e = e

marks_without : (xs : List Exchange) (e : ℕ) →
    filter (λ m. not (m.number == e)) (map mark_of xs) ≡ map mark_of (filter (λ y. not (y.number == e)) xs)
marks_without [] e = refl
marks_without (x ∷ xs) e = kept_if (not (x.number == e)) x _ (filter (λ y. not (y.number == e)) xs)
    (marks_without xs e)

opened_without : (w : World) (e : ℕ) → (without_exchange w e).opened
    ≡ filter (λ y. not (y.number == e)) w.opened
unfolding without_exchange
opened_without w e = refl

pub ended_hears : (peers : List PeerValue) (marks : List Mark) (w : World) (e : ℕ) (heard : Bool)
    (air : Option ℕ) (x : Exchange) → IsReached w → Hears peers marks w → exchange w e ≡ Some x →
    refusal w (Asked (Done e heard air)) ≡ None →
    Hears (peers_caught_up (step w (Asked (Done e heard air))).world x.station x.tid peers)
    (filter (λ m. not (m.number == e)) marks) (step w (Asked (Done e heard air))).world
unfolding outcome_of outcome_where_open
ended_hears peers marks w e heard air x reached h known fine =
    let note : Note = Asked (Done e heard air) in
    let i : IsLawful w = lawful_now w reached in
    let u : World = (done_outcome w x heard air).world in
    let same : (outcome_of w note).world ≡ u =
    ap (λ (o : Option Exchange). (outcome_where_open w o (λ y. done_outcome w y heard air)).world) known in
    let opened : u.opened ≡ filter (λ y. not (y.number == e)) w.opened =
    opened_ended air w x heard ∙ (ap (λ (n : ℕ). (without_exchange w n).opened) (found_number w e x known)
    ∙ opened_without w e) in
    caught_outcome peers marks _ w x.station x.tid i h (station_now w e x reached known)
    (tid_now w reached e x known) note fine
    (subst (λ (z : World). IsCaughtUp w z x.station x.tid) (sym same)
    (caught_done x.content w i x heard air refl (some_at (IsFound w i) (exchange w e) x known (found w i e))))
    (ap (filter (λ m. not (m.number == e))) h.kept
    ∙ (marks_without w.opened e ∙ ap (map mark_of)
    (sym (ap (λ (v : World). v.opened) same ∙ opened))))

-- the station of an exchange that ended is live
pub ended_live : (w : World) (e : ℕ) (heard : Bool) (air : Option ℕ) (x : Exchange) → IsReached w →
    exchange w e ≡ Some x → refusal w (Asked (Done e heard air)) ≡ None →
    is_live (step w (Asked (Done e heard air))).world x.station ≡ true
unfolding outcome_of outcome_where_open
ended_live w e heard air x reached known fine =
    let i : IsLawful w = lawful_now w reached in
    let same : (outcome_of w (Asked (Done e heard air))).world ≡ (done_outcome w x heard air).world =
    ap (λ (o : Option Exchange). (outcome_where_open w o (λ y. done_outcome w y heard air)).world) known in
    listed_live w x.station (Asked (Done e heard air)) fine (ap (λ (z : World). is_live z x.station) same
    ∙ done_live w i x heard air (some_at (IsFound w i) (exchange w e) x known (found w i e)))

-- ---- a flush

caught_flush : (w : World) (s t : ℕ) → IsLawful w → is_live w s ≡ true →
    IsCaughtUp w (flush_outcome w s t).world s t
caught_flush w s t i live =
    let f : Session → Session = after_flush w.config.attempts in
    let v : World = on_session w s t f in
    record {
      before = emptied_world w s t;
      stays = then_stays w v _ (stays_kept w v (keep_on_session w s t f
          (kept_flush w.config.attempts (session w s t)) refl) (receivers_on_session w s t f))
          (stays_same v _ (same_emptied w s t));
      live = live_before (emptied_world w s t) _ s t (flush_is w s t) ((keep_flushed w s t).live s ∙ live);
      agreed = λ _. (lawful_emptied w s t i).agreed s t;
      after = flush_is w s t;
    }

pub flushed_station : (w : World) (s t : ℕ) → refusal w (Asked (Flush s t)) ≡ None → s < w.config.stations
flushed_station w s t fine = le_no w.config.stations s (no_row (refusals w (Asked (Flush s t))) fine).0

pub flushed_tid : (w : World) (s t : ℕ) → refusal w (Asked (Flush s t)) ≡ None → t < 8
flushed_tid w s t fine = omega (arith, lt_no 7 t (no_row (refusals w (Asked (Flush s t))) fine).1.0)

flushed_live : (w : World) (s t : ℕ) → refusal w (Asked (Flush s t)) ≡ None → is_live w s ≡ true
flushed_live w s t fine = not_no (is_live w s) (no_row (refusals w (Asked (Flush s t))) fine).1.1.0

pub live_when_flushed : (w : World) (s t : ℕ) → refusal w (Asked (Flush s t)) ≡ None →
    is_live (step w (Asked (Flush s t))).world s ≡ true
unfolding outcome_of
live_when_flushed w s t fine = listed_live w s (Asked (Flush s t)) fine
    ((keep_flushed w s t).live s ∙ flushed_live w s t fine)

pub flushed_hears : (peers : List PeerValue) (marks : List Mark) (w : World) (s t : ℕ) → IsReached w →
    Hears peers marks w → refusal w (Asked (Flush s t)) ≡ None →
    Hears (peers_caught_up (step w (Asked (Flush s t))).world s t peers) marks
    (step w (Asked (Flush s t))).world
unfolding outcome_of
flushed_hears peers marks w s t reached h fine =
    let note : Note = Asked (Flush s t) in
    let i : IsLawful w = lawful_now w reached in
    caught_outcome peers marks marks w s t i h (flushed_station w s t fine) (flushed_tid w s t fine) note fine
    (caught_flush w s t i (flushed_live w s t fine)) (h.kept ∙ ap (map mark_of) (sym (opened_flushed w s t)))
