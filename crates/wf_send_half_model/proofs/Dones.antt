-- Proves that the half represents the world after a Done, for requests and for data, and that its reply is
-- the step's.
use Rattle.std.proofs.Common.{◌≡◌, refl, ap, sym, ◌∙◌, subst, arith, ℕ, ◌<◌, Bool, true, false, ◌&&◌, if◌then◌else◌, List, [], ◌∷◌, length, Option, Some, None, max}
use Rattle.std.specs.List.{list_any}
use Rattle.wf_frame.specs.declared.notes.Note.TheVariants.{Asked}
use Rattle.wf_frame.specs.declared.notes.Ask.TheVariants.{Done}
use Rattle.wf_frame.specs.declared.notes.ReplyNote.TheVariants as reply
use Rattle.wf_frame.specs.Classes.{class_of}
use Rattle.wf_frame.specs.Frames.{FrameValue}
use Rattle.wf_def_agreement.specs.Session.{Session, Slot, End, slot, is_acknowledged, is_waiting, is_failed, numbers_where}
use Rattle.wf_def_world.specs.World.{World, Exchange, Mpdu, Content, Frames, Request, is_live, session, exchange, on_session, without_exchange}
use Rattle.wf_def_world.specs.Exchanges.{end_of, with_all_settled, caught_up_if_plain, end_in_batch, end_in_aggregate, end_at_once, is_far, with_heard_start, after_charge, after_done, count_in, charge_of}
use Rattle.wf_def_world.specs.Refusals.{refusal}
use Rattle.wf_def_world.specs.Step.{Outcome, outcome_of, outcome_where_open, station_of, done_outcome}
use Rattle.wf_law_runs.specs.Windows.{IfAsks, IsPending}
use Rattle.wf_law_runs.proofs.Frames.Owners.{IsOwned}
use Rattle.wf_law_runs.proofs.Frames.Places.{standing}
use Rattle.wf_queue_flows_refines.proofs.Leaves.{session_alone}
use Rattle.wf_sched_refines.proofs.Unchanged.{session_leaves}
use Rattle.wf_send_parts.specs.Window.{WindowValue, WindowStandsFor as WindowStandsFor}
use Rattle.wf_send_parts.specs.Windows.{WindowsHaveRoom, with_window}
use Rattle.wf_send_half_model.specs.Half.{TransmitValue}
use Rattle.wf_send_half_model.specs.Standing.{open_of, Parts, StandsFor, Meets}
use Rattle.wf_send_half_model.specs.Changes.{after_listing_in}
use Rattle.wf_send_half_model.specs.Readiness.{IsListedBut}
use Rattle.wf_send_half_model.specs.Ending.{after_close}
use Rattle.wf_send_half_model.specs.Views.{Agreements, agreements}
use Rattle.wf_send_half_model.proofs.Views.{agreements_on_tid, roster_session, ledger_session}
use Rattle.wf_send_half_model.proofs.Stands.{leaves_parts}
use Rattle.wf_send_half_model.proofs.Meets.{listed_in_meets}
use Rattle.wf_send_half_model.proofs.OneClass.{done_listed}
use Rattle.wf_send_half_model.proofs.Moves.{session_parts}
use Rattle.wf_send_half_model.proofs.Reached.{rises}
use Rattle.wf_send_half_model.proofs.Closes.{found_again}
use Rattle.wf_send_half_model.proofs.Endings.{closed_agreements, closed_parts, open_live, of_windows}

-- ---- the world after it

-- how an exchange ends for each number, by the session of its TID
abbrev ends_by : Exchange → Bool → Session → ℕ → End
ends_by x heard y n =
    if x.batch then end_in_batch x n
    else if x.plain && is_far y n then end_at_once (end_in_aggregate x heard n)
    else end_in_aggregate x heard n

pub data_world : (w : World) (x : Exchange) (heard : Bool) (air : Option ℕ) (mpdus : List Mpdu) →
    x.content ≡ Frames mpdus →
    (done_outcome w x heard air).world ≡ caught_up_if_plain (with_all_settled
    (after_charge (without_exchange w x.number) x air) x.station x.tid (end_of w x heard) mpdus)
    x.station x.tid
unfolding done_outcome after_done
data_world w x heard air mpdus is =
    let u : World = after_charge (without_exchange w x.number) x air in
    ap (after_done u x heard) is
    ∙ ap (λ (ends : ℕ → End). caught_up_if_plain (with_all_settled u x.station x.tid ends mpdus)
    x.station x.tid)
    (ap (ends_by x heard) (ap (λ (k : Agreements). k.sessions x.station x.tid) (closed_agreements w x air)))

pub request_world : (w : World) (x : Exchange) (heard : Bool) (air : Option ℕ) (start : ℕ) →
    x.content ≡ Request start →
    (done_outcome w x heard air).world ≡ on_session
    (after_charge (without_exchange w x.number) x air) x.station
    x.tid (with_heard_start heard start)
unfolding done_outcome after_done
request_world w x heard air start is = ap
    (after_done (after_charge (without_exchange w x.number) x air) x heard) is

pub done_reply : (w : World) (x : Exchange) (heard : Bool) (air : Option ℕ) →
    (done_outcome w x heard air).reply ≡ reply.Done (count_in
    (done_outcome w x heard air).world x is_acknowledged)
    (count_in (done_outcome w x heard air).world x is_waiting)
    (count_in (done_outcome w x heard air).world x is_failed)
unfolding done_outcome
done_reply w x heard air = refl

-- ---- a request

some_slots : (p : ℕ → Bool) (n : ℕ) (xs : List Slot) → list_any p (numbers_where is_failed n xs) ≡ true →
    0 < length xs
some_slots p n [] h = absurd (cc h)
some_slots p n (x ∷ xs) h = omega arith

agreements_unheard : (w : World) (s t start : ℕ) →
    agreements (on_session w s t (with_heard_start false start)) ≡ agreements w
unfolding on_session
agreements_unheard w s t start = agreements_on_tid w s t _ (λ y. refl) (λ y. refl)

module _ (v : TransmitValue) (w : World) (bodies : ℕ → FrameValue) (h : StandsFor v w bodies) (e : ℕ)
    (x : Exchange) (known : exchange w e ≡ Some x) (start : ℕ) (is : x.content ≡ Request start) where
  -- it is due, and the window is near its start
  pub pending : IsPending start (session w x.station x.tid)
  pending = subst (λ (c : Content). IfAsks c (λ f. IsPending f (session w x.station x.tid))) is
      (of_windows v w bodies h e x known).pending

  pub request_tid : x.tid < 8
  request_tid =
      let y : Session = session w x.station x.tid in
      let owned : IsOwned w = subst IsOwned (sym h.reached.after)
      (standing w.config h.reached.history h.reached.in_range).stood.owned in
      let some : 0 < length y.slots = some_slots _ y.first y.slots pending.due in
      (owned.mine x.station x.tid (slot y y.first).id y.first
      (record { from = omega arith; below = omega (arith, some); id = refl })).1

  pub unheard_parts : (air : Option ℕ) →
      Parts (after_close v (open_of x) (charge_of air x)) (done_outcome w x false air).world bodies
  unheard_parts air =
      let u : World = after_charge (without_exchange w x.number) x air in
      let live : is_live w x.station ≡ true = open_live w h.reached e x known in
      subst (λ (k : World). Parts (after_close v (open_of x) (charge_of air x)) k bodies)
      (sym (request_world w x false air start is))
      (leaves_parts (after_close v (open_of x) (charge_of air x)) u (on_session u x.station x.tid
      (with_heard_start false start)) bodies
      (record {
        part = session_alone u x.station x.tid _;
        agreements =
            agreements_unheard u x.station x.tid start;
        roster = roster_session u x.station x.tid _;
        ledger =
            ledger_session u x.station x.tid _;
      })
      (session_leaves u x.station x.tid _) (closed_parts v w bodies x air (found_again w e x known)
      (rises w h.reached) (h.parts.others.turns.live x.station live) h.parts))

  pub heard_parts : (air : Option ℕ) (z : WindowValue) →
      WindowsHaveRoom (with_window v.windows x.station x.tid z) →
      WindowStandsFor z (record (session w x.station x.tid) {
        heard =
            max (session w x.station x.tid).heard start;
      }) bodies →
      Parts (record (after_close v (open_of x) (charge_of air x))
      { windows = with_window v.windows x.station x.tid z })
      (done_outcome w x true air).world bodies
  heard_parts air z room stands =
      let u : World = after_charge (without_exchange w x.number) x air in
      let live : is_live w x.station ≡ true = open_live w h.reached e x known in
      let a : agreements u ≡ agreements w = closed_agreements w x air in
      subst (λ (k : World). Parts (record (after_close v (open_of x) (charge_of air x)) {
        windows =
            with_window v.windows x.station x.tid z;
      }) k bodies) (sym (request_world w x true air start is))
      (session_parts (after_close v (open_of x) (charge_of air x)) u bodies x.station x.tid
      (with_heard_start true start) z
      (ap (λ (k : Agreements). k.live x.station) a ∙ live) request_tid room
      (subst (λ (y : Session). WindowStandsFor z (record y { heard = max y.heard start }) bodies)
      (sym (ap (λ (k : Agreements). k.sessions x.station x.tid) a)) stands)
      (closed_parts v w bodies x air (found_again w e x known) (rises w h.reached)
      (h.parts.others.turns.live x.station live) h.parts))

-- ---- the whole call

pub done_meets : (v z : TransmitValue) (w : World) (bodies : ℕ → FrameValue) (e : ℕ) (heard : Bool)
    (air : Option ℕ) (x : Exchange) → StandsFor v w bodies → exchange w e ≡ Some x →
    refusal w (Asked (Done e heard air)) ≡ None →
    Parts z (done_outcome w x heard air).world bodies →
    Meets w bodies (Asked (Done e heard air)) (after_listing_in z x.station (class_of x.tid))
    (done_outcome w x heard air).reply
unfolding outcome_of outcome_where_open
done_meets v z w bodies e heard air x h known done parts =
    let outcome : outcome_where_open w (exchange w e) (λ y. done_outcome w y heard air)
    ≡ done_outcome w x heard air =
    ap (λ (o : Option Exchange). outcome_where_open w o (λ y. done_outcome w y heard air)) known in
    subst (λ (o : Outcome). Meets w bodies (Asked (Done e heard air))
    (after_listing_in z x.station (class_of x.tid)) o.reply)
    outcome
    (listed_in_meets z w bodies (Asked (Done e heard air)) h.reached tt tt done
    (subst (λ (o : Outcome). Parts z o.world bodies) (sym outcome) parts) x.station (class_of x.tid)
    (ap station_of known)
    (subst (λ (o : Outcome). IsListedBut o.world x.station (class_of x.tid)) (sym outcome)
    (done_listed w e x heard air h.reached known)))
