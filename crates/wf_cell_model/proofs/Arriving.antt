-- Proves the effect of an Arrive on the receive halves and the marks. The agreement of the exchange's TID
-- changes, and all others are unchanged.
use Rattle.std.proofs.Common.{◌≡◌, refl, ap, sym, ◌∙◌, subst, ℕ, ◌<◌, nat_le, true, false, List, [], map, Option, Some, None, is_some, if◌then◌else◌}
use Rattle.wf_frame.specs.declared.notes.Ask.TheVariants.{Arrive}
use Rattle.wf_frame.specs.declared.notes.Note.{Note}
use Rattle.wf_frame.specs.declared.notes.Note.TheVariants.{Asked}
use Rattle.wf_frame.specs.declared.notes.ReplyNote.TheVariants.{Released}
use Rattle.wf_def_lists.specs.Table.{at, with_member}
use Rattle.wf_def_agreement.specs.Receiver.{Receiver, released_between}
use Rattle.wf_def_agreement.specs.Session.{Session, slot}
use Rattle.wf_def_world.specs.World.{World, Exchange, Content, Frames, Request, session, receiver, exchange, is_live, is_agreed, on_receiver, on_tid, on_station, with_station, with_exchange}
use Rattle.wf_def_world.specs.CanSend.{with_listings_of}
use Rattle.wf_def_world.specs.Exchanges.{transmissions, no_mpdu, mpdus_of, after_arrival, ids_of}
use Rattle.wf_def_world.specs.Refusals.{refusals, refusal}
use Rattle.wf_def_world.specs.Step.{arrive_outcome, outcome_where_open, outcome_of, concerned_station, step}
use Rattle.wf_law_runs.specs.Windows.{EachMpdu}
use Rattle.wf_law_runs.proofs.Windows.Sides.{Side, side, Same, same_listed}
use Rattle.wf_law_runs.proofs.Windows.Opened.{no_row}
use Rattle.wf_law_runs.proofs.Windows.Agreed.{IsLawful, lawful_arrived, found, IsFound, if_on}
use Rattle.wf_law_runs.proofs.Releases.Kept.{kept_equal}
use Rattle.wf_law_runs.proofs.Releases.Released.{side_taken, side_untaken, live_taken}
use Rattle.wf_law_runs.proofs.Frames.Delivered.{opened_on_receiver}
use Rattle.wf_law_driver.proofs.Opened.{with_replaced, step_done, some_at, found_number}
use Rattle.wf_recv_marks.specs.declared.marks.Mark.{Mark}
use Rattle.wf_recv_marks.specs.Marks.{with_arrival, with_changed}
use Rattle.wf_recv_peer.specs.Agreements.{PeerValue, AgreementValue}
use Rattle.wf_recv_peer_refines.specs.Half.{ReceiveHalfStandsFor}
use Rattle.wf_recv_peer_refines.proofs.Halves.{stands_data, up_data, stands_request, up_request}
use Rattle.wf_send_half_model.specs.Standing.{IsReached}
use Rattle.wf_cell_model.specs.Arriving.{buffer_outcome_of_transmission, agreement_after_transmission, peer_after, CarriesId, MayReach}
use Rattle.wf_cell_model.specs.Hearing.{peer_of, agreement_of, with_peer, carried, StandsForTid, mark_of, Hears}
use Rattle.wf_cell_model.proofs.Marks.{changed_marks, rises_now}
use Rattle.wf_cell_model.proofs.Keeping.{lawful_now, reply_done, config_done, stays_same, hears_stays}
use Rattle.wf_cell_model.proofs.Changing.{StaysBut, changed_hears}
use Rattle.wf_cell_model.proofs.Sent.{open_now, sent_now, station_now, tid_now, index_below, reach_now, each_at}

-- ---- the agreement of the exchange's TID

-- the frame of transmission i has the id of its number
CarriesBy : (ℕ → ℕ) → ℕ → ℕ → Content → Type 0
CarriesBy ids id i (Frames ms) = id ≡ ids (at no_mpdu ms i).number
CarriesBy ids id i (Request f) = Unit {0}

carries_by : (c : Content) (y : Session) (id i : ℕ) → i < transmissions c →
    EachMpdu (λ m. (slot y m.number).id ≡ m.id) (mpdus_of c) →
    CarriesId id i c → CarriesBy (carried y) id i c
unfolding CarriesBy
carries_by (Frames ms) y id i low ids h = h ∙ sym (each_at (λ m. (slot y m.number).id ≡ m.id) ms i low ids)
carries_by (Request f) y id i low ids h = tt

stands_after : (c : Content) (ids : ℕ → ℕ) (r : Receiver) (a : AgreementValue) (i id : ℕ) → MayReach r i c →
    CarriesBy ids id i c →
    ReceiveHalfStandsFor ids r a.board a.buffer →
    ReceiveHalfStandsFor ids (after_arrival c i r) (agreement_after_transmission i id c a).board
    (agreement_after_transmission i id c a).buffer
unfolding CarriesBy
stands_after (Frames ms) ids r a i id reach same h =
    let n : ℕ = (at no_mpdu ms i).number in
    subst (λ (k : ℕ). ReceiveHalfStandsFor ids (after_arrival (Frames ms) i r)
    (agreement_after_transmission i k (Frames ms) a).board
    (agreement_after_transmission i k (Frames ms) a).buffer)
    (sym same) (stands_data ids r a.board a.buffer n h reach)
stands_after (Request f) ids r a i id reach same h = stands_request ids r a.board a.buffer f h reach

up_after : (c : Content) (ids : ℕ → ℕ) (r : Receiver) (a : AgreementValue) (i id : ℕ) → MayReach r i c →
    CarriesBy ids id i c →
    ReceiveHalfStandsFor ids r a.board a.buffer →
    (buffer_outcome_of_transmission i id c a.buffer).up ≡ map ids (released_between r (after_arrival c i r))
unfolding CarriesBy
up_after (Frames ms) ids r a i id reach same h =
    ap (λ (k : ℕ). (buffer_outcome_of_transmission i k (Frames ms) a.buffer).up) same
    ∙ up_data ids r a.board a.buffer (at no_mpdu ms i).number h reach
up_after (Request f) ids r a i id reach same h = up_request ids r a.board a.buffer f h reach

-- ---- the world of an arrival, before its station is listed

pub arrived_opened : (w : World) (x : Exchange) (i : ℕ) →
    (arrive_outcome w x i).world.opened ≡ with_replaced
    (record x { arrived = with_member i x.arrived }) w.opened
unfolding arrive_outcome with_exchange
arrived_opened w x i = ap (with_replaced (record x { arrived = with_member i x.arrived }))
    (opened_on_receiver w x.station x.tid (after_arrival x.content i))

arrived_config : (w : World) (x : Exchange) (i : ℕ) → (arrive_outcome w x i).world.config ≡ w.config
unfolding arrive_outcome with_exchange on_receiver on_tid on_station with_station
arrived_config w x i = refl

arrived_own : (w : World) (x : Exchange) (i : ℕ) → is_live w x.station ≡ true →
    side (arrive_outcome w x i).world x.station x.tid ≡
    record {
      session = session w x.station x.tid;
      receiver =
          after_arrival x.content i (receiver w x.station x.tid);
      agreed = is_agreed w x.station x.tid;
    }
unfolding arrive_outcome
arrived_own w x i live = side_taken w x _ (after_arrival x.content i) live

arrived_other : (w : World) (x : Exchange) (i s t : ℕ) → (s ≡ x.station → t ≡ x.tid → ⊥) →
    side (arrive_outcome w x i).world s t ≡ side w s t
unfolding arrive_outcome
arrived_other w x i s t other = side_untaken w x _ (after_arrival x.content i) s t other

arrived_live : (w : World) (x : Exchange) (i s : ℕ) → is_live (arrive_outcome w x i).world s ≡ is_live w s
unfolding arrive_outcome
arrived_live w x i s = live_taken w x _ (after_arrival x.content i) s

arrived_reply : (w : World) (x : Exchange) (i : ℕ) →
    (arrive_outcome w x i).reply ≡
    Released (if x.batch then [] else ids_of (session w x.station x.tid)
    (released_between (receiver w x.station x.tid)
    (after_arrival x.content i (receiver w x.station x.tid))))
unfolding arrive_outcome
arrived_reply w x i = refl

module _ (peers : List PeerValue) (marks : List Mark) (w : World) (e i id : ℕ) (x : Exchange)
    (reached : IsReached w)
    (h : Hears peers marks w) (known : exchange w e ≡ Some x) (fine : refusal w (Asked (Arrive e i)) ≡ None)
    (same_id : CarriesId id i x.content) where
  arrived_world : World
  arrived_world = (arrive_outcome w x i).world

  carries : CarriesBy (carried (session w x.station x.tid)) id i x.content
  carries = carries_by x.content (session w x.station x.tid) id i (index_below w e i x known fine)
      (sent_now w reached e x known).ids same_id

  stood : StandsForTid w x.station x.tid (agreement_of peers x.station x.tid)
  stood = h.agreements x.station x.tid (open_now w reached e x known).live (tid_now w reached e x known)

  -- the agreement of the exchange's TID
  stands_own : StandsForTid arrived_world x.station x.tid
      (agreement_after_transmission i id x.content (agreement_of peers x.station x.tid))
  unfolding arrived_world
  stands_own =
      let a : AgreementValue = agreement_of peers x.station x.tid in
      let b : AgreementValue = agreement_after_transmission i id x.content a in
      subst (λ (z : Side). ReceiveHalfStandsFor (carried z.session) z.receiver b.board b.buffer)
      (sym (arrived_own w x i (open_now w reached e x known).live))
      (stands_after x.content (carried (session w x.station x.tid)) (receiver w x.station x.tid) a i id
      (reach_now w e i x reached known fine) carries stood)

  -- any other agreement
  stays_other : StaysBut x.station x.tid w arrived_world
  unfolding arrived_world
  stays_other = record {
    live = λ s l. sym (arrived_live w x i s) ∙ l;
    receivers = λ s t _ other. ap (λ (k : Side). k.receiver) (arrived_other w x i s t other);
    sessions = λ s t _ other. kept_equal (session w s t) (session (arrive_outcome w x i).world s t)
        (ap (λ (k : Side). k.session) (arrived_other w x i s t other));
  }

  now_hears : Hears (with_peer x.station (peer_after x.tid i id x.content (peer_of peers x.station)) peers)
      (with_changed e (with_arrival i) marks) arrived_world
  unfolding arrived_world
  now_hears = changed_hears peers marks w (arrive_outcome w x i).world x.station x.tid
      (agreement_after_transmission i id x.content (agreement_of peers x.station x.tid)) h
      (station_now w e x reached known) (tid_now w reached e x known)
      (with_changed e (with_arrival i) marks) (lawful_now w reached) stays_other (arrived_config w x i)
      (λ _. stands_own)
      (ap (with_changed e (with_arrival i)) h.kept
      ∙ (changed_marks 0 w.exchanges e w.opened x (record x { arrived = with_member i x.arrived })
      (with_arrival i) (rises_now w reached) known (found_number w e x known) refl
      ∙ ap (map mark_of) (sym (arrived_opened w x i))))

  lawful_then : IsLawful arrived_world
  unfolding arrived_world
  lawful_then =
      let lawful : IsLawful w = lawful_now w reached in
      let rows = no_row (refusals w (Asked (Arrive e i))) fine in
      lawful_arrived w lawful x i (some_at (IsFound w lawful) (exchange w e) x known (found w lawful e))
      (some_at (λ y. is_some y.answer ≡ false) (exchange w e) x known
      (if_on (exchange w e) (λ y. is_some y.answer) rows.1.1.0))
      (some_at (λ y. nat_le (transmissions y.content) i ≡ false) (exchange w e) x known
      (if_on (exchange w e) (λ y. nat_le (transmissions y.content) i) rows.1.0))

  pub arrived_hears : Hears (with_peer x.station
      (peer_after x.tid i id x.content (peer_of peers x.station)) peers)
      (with_changed e (with_arrival i) marks) (step w (Asked (Arrive e i))).world
  unfolding arrived_world outcome_of outcome_where_open
  arrived_hears =
      let note : Note = Asked (Arrive e i) in
      let peers' : List PeerValue = with_peer x.station
      (peer_after x.tid i id x.content (peer_of peers x.station)) peers in
      let marks' : List Mark = with_changed e (with_arrival i) marks in
      let u : World = (arrive_outcome w x i).world in
      let o : Option ℕ = concerned_station w note in
      let is : (outcome_of w note).world ≡ u = ap (λ (k : Option Exchange).
      (outcome_where_open w k (λ y. arrive_outcome w y i)).world) known in
      let v : World = with_listings_of u o in
      let same : Same u v = same_listed o u in
      let config : v.config ≡ u.config = ap (λ (k : World). (with_listings_of k o).config) (sym is)
      ∙ (config_done w note fine ∙ sym (arrived_config w x i)) in
      subst (Hears peers' marks') (sym (step_done w note fine ∙ ap (λ (k : World). with_listings_of k o) is))
      (hears_stays peers' marks' marks' u v lawful_then (stays_same u v same) config
      (now_hears.kept ∙ ap (map mark_of) (sym same.opened)) now_hears)

  pub arrived_up : (step w (Asked (Arrive e i))).reply
      ≡ Released (if x.batch then [] else (buffer_outcome_of_transmission i id x.content
      (agreement_of peers x.station x.tid).buffer).up)
  unfolding outcome_of outcome_where_open
  arrived_up =
      let y : Session = session w x.station x.tid in
      reply_done w (Asked (Arrive e i)) fine
      ∙ (ap (λ (k : Option Exchange). (outcome_where_open w k (λ z. arrive_outcome w z i)).reply) known
      ∙ (arrived_reply w x i
      ∙ ap (λ (ids : List ℕ). Released (if x.batch then [] else ids))
      (sym (up_after x.content (carried y) (receiver w x.station x.tid)
      (agreement_of peers x.station x.tid) i id (reach_now w e i x reached known fine) carries stood))))
