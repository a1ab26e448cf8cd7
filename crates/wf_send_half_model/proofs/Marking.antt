-- Proves that a half still represents the world after a device marked a transmission of an open exchange. A
-- mark changes the exchange on both sides; one that never went on the air also changes its frame.
use Rattle.std.proofs.Common.{◌≡◌, refl, ap, ap₂, sym, ◌∙◌, subst, arith, ℕ, zero, suc, ◌<◌, ◌≤◌, ◌||◌, Bool, true, List, [], ◌∷◌, length, map, Option, Some, None}
use Rattle.wf_frame.specs.Classes.{tid_number}
use Rattle.wf_frame.specs.Frames.{FrameValue}
use Rattle.wf_frame.specs.declared.notes.Ask.{Ask}
use Rattle.wf_frame.specs.declared.notes.Ask.TheVariants.{Unsent, GiveUp}
use Rattle.wf_frame.specs.declared.notes.Note.TheVariants.{Asked}
use Rattle.wf_frame.specs.declared.notes.ReplyNote.TheVariants.{Marked}
use Rattle.wf_frame.specs.declared.classes.Class.{Class}
use Rattle.wf_def_agreement.specs.Session.{State, slot, is_settled}
use Rattle.wf_def_lists.specs.Table.{at, with_member}
use Rattle.wf_def_rotation.specs.Rotation.{Rotation, has_key}
use Rattle.wf_def_world.specs.World.{World, Exchange, Mpdu, Content, Frames, Request, is_live, session, rotation, exchange, with_exchange}
use Rattle.wf_def_world.specs.CanSend.{is_ready, is_debtor, is_to_list}
use Rattle.wf_def_world.specs.Exchanges.{no_mpdu, mpdus_of}
use Rattle.wf_def_world.specs.Refusals.{refusal}
use Rattle.wf_def_world.specs.Step.{Outcome, outcome_of, outcome_where_open, concerned_station, station_of, unsent_outcome, give_up_outcome}
use Rattle.wf_law_runs.specs.Queues.{HasLength}
use Rattle.wf_law_runs.proofs.Common.Marks.{with_marks, marked_world}
use Rattle.wf_law_runs.specs.Places.{IsNumbered, Numbered, StandsOnce}
use Rattle.wf_law_runs.specs.Windows.{EachMpdu, OpenRises}
use Rattle.wf_queue_flows_refines.proofs.Leaves.{exchange_alone, stands_same}
use Rattle.wf_sched_refines.specs.Standing.{HasSameAir}
use Rattle.wf_sched_refines.proofs.Unchanged.{exchange_leaves}
use Rattle.wf_send_parts.specs.declared.exchanges.opened.Open.{Open}
use Rattle.wf_send_parts.specs.Exchanges.{with_exchange_changed, with_unsent, with_given_up}
use Rattle.wf_send_parts.specs.Sent.{with_one_unsent}
use Rattle.wf_send_parts.specs.Window.{WindowValue, WindowStandsFor, IsNumber, HasOwnFrame, state_at, is_flying, on_air}
use Rattle.wf_send_parts.specs.Windows.{WindowsHaveRoom, window_of, with_window}
use Rattle.wf_send_parts.proofs.Callers.{state_is}
use Rattle.wf_send_parts.proofs.Numbers.{open_number}
use Rattle.wf_send_half_model.specs.Half.{TransmitValue}
use Rattle.wf_send_half_model.specs.Filling.{IsAlone}
use Rattle.wf_send_half_model.specs.Marking.{after_mark, with_transmission_unsent}
use Rattle.wf_send_half_model.specs.Standing.{open_of, Parts, IsReached, StandsFor, Meets}
use Rattle.wf_send_half_model.specs.Views.{Roster, roster}
use Rattle.wf_send_half_model.proofs.Alone.{own_frame, unsent_parts}
use Rattle.wf_send_half_model.proofs.Closes.{number_found}
use Rattle.wf_send_half_model.proofs.Endings.{open_live, numbered_each, flown_each, tid_below, nowhere}
use Rattle.wf_send_half_model.proofs.Enqueues.{places_kept}
use Rattle.wf_send_half_model.proofs.Meets.{idle_meets}
use Rattle.wf_send_half_model.proofs.Reached.{rises}
use Rattle.wf_send_half_model.proofs.Stands.{WindowsStand, ModesStand, StationsStand, GroupsStand, LedgerStands, Pieces, to_pieces, of_pieces}
use Rattle.wf_send_half_model.proofs.Unheard.{marked, one_marked, agreements_exchange, ledger_exchange}
use Rattle.wf_send_half_model.proofs.Debts.{debtor_marked}
use Rattle.wf_send_half_model.proofs.Spared.{orderly_reached}
use Rattle.wf_send_half_model.proofs.Steady.{steady_ready, steady_marked}
use Rattle.wf_send_half_model.proofs.Whole.{listed_where_wanted}

-- ---- the exchange is changed

roster_marked : (w : World) (z : Exchange) (xs : List Open) → map open_of (marked z w.opened) ≡ xs →
    roster (with_exchange w z) ≡ record (roster w) { opened = xs }
unfolding with_exchange
roster_marked w z xs same = ap (λ (ys : List Open). record (roster w) { opened = ys }) same

module _ (v : TransmitValue) (w : World) (bodies : ℕ → FrameValue) (e : ℕ) (x z : Exchange) (f : Open → Open)
    (known : exchange w e ≡ Some x) (rising : OpenRises 0 w.exchanges w.opened) (air : HasSameAir x z)
    (same : open_of z ≡ f (open_of x)) where
  number_is : z.number ≡ e
  number_is = air.number ∙ number_found w.opened e x known

  marked_parts : Parts v w bodies → Parts (after_mark v e f) (with_exchange w z) bodies
  marked_parts h =
      let p : Pieces v w bodies = to_pieces v w bodies h in
      let u : World = with_exchange w z in
      let changed : List Open = with_exchange_changed e f (roster w).opened in
      let now : roster u ≡ record (roster w) { opened = changed } =
      roster_marked w z changed (one_marked w.opened x z e 0 w.exchanges f rising known number_is same) in
      of_pieces (after_mark v e f) u bodies (record {
        config = p.config ∙ sym (ap (λ (r : Roster). r.config) now);
        clock = p.clock ∙ sym (ap (λ (r : Roster). r.clock) now);
        exchanges = p.exchanges ∙ sym (ap (λ (r : Roster). r.exchanges) now);
        opened = ap (with_exchange_changed e f) p.opened ∙ sym (ap (λ (r : Roster). r.opened) now);
        groups = subst (λ (r : Roster). GroupsStand v.groups r.config r.groups) (sym now) p.groups;
        stations = subst (λ (r : Roster). StationsStand v.members v.sleepers r.config.stations r.stations)
            (sym now) p.stations;
        windows = subst (WindowsStand v.windows bodies) (sym (agreements_exchange w z)) p.windows;
        modes = subst (ModesStand v.modes) (sym (agreements_exchange w z)) p.modes;
        flows = stands_same v.flows w u (exchange_alone w z) p.flows;
        turns = exchange_leaves w x z e known rising air v.sched p.turns;
        ledger = subst (LedgerStands v.inside v.tally bodies) (sym (ledger_exchange w z)) p.ledger;
        frames = p.frames;
      })

-- ---- a transmission

pub each_at : (P : Mpdu → Type 0) (ms : List Mpdu) (i : ℕ) → i < length ms → EachMpdu P ms →
    P (at no_mpdu ms i)
each_at P [] i low h = absurd (omega (arith, low))
each_at P (m ∷ ms) zero low h = h.0
each_at P (m ∷ ms) (suc i) low h = each_at P ms i (omega (arith, low)) h.1

module _ (v : TransmitValue) (w : World) (bodies : ℕ → FrameValue) (h : StandsFor v w bodies) (e : ℕ)
    (x : Exchange) (mpdus : List Mpdu) (known : exchange w e ≡ Some x) (is : x.content ≡ Frames mpdus) (i : ℕ)
    (low : i < length mpdus) where
  abbrev mpdu : Mpdu
  mpdu = at no_mpdu mpdus i

  numbered : IsNumbered w mpdu.id x.station x.tid mpdu.number
  numbered = each_at (λ m. IsNumbered w m.id x.station x.tid m.number) mpdus i low
      (subst (λ (c : Content). EachMpdu (λ m. IsNumbered w m.id x.station x.tid m.number) (mpdus_of c)) is
      (numbered_each v w bodies h e x known))

  flown : (slot (session w x.station x.tid) mpdu.number).state ≡ State.Flying x.number
  flown = (each_at (λ m. ((session w x.station x.tid).first ≤ m.number) ×
      ((slot (session w x.station x.tid) m.number).state ≡ State.Flying x.number)) mpdus i low
      (subst (λ (c : Content). EachMpdu (λ m. ((session w x.station x.tid).first ≤ m.number) ×
      ((slot (session w x.station x.tid) m.number).state ≡ State.Flying x.number)) (mpdus_of c)) is
      (flown_each v w bodies h e x known))).1

  station_live : is_live w x.station ≡ true
  station_live = open_live w h.reached e x known

  pub marked_tid : x.tid < 8
  marked_tid = tid_below v w bodies h e x known mpdu numbered

  pub marked_within : tid_number x.station x.tid < length v.windows
  marked_within = omega (
    arith,
    h.parts.windows.sized,
    h.parts.others.turns.live x.station station_live,
    marked_tid,
  )

  -- its 12 bits identify its number, which flies
  pub marked_number : (seq : ℕ) → seq ≡ on_air mpdu.number → IsNumber
      (session w x.station x.tid) mpdu.number seq
  marked_number seq shown = open_number (session w x.station x.tid) mpdu.number seq numbered.from
      (ap is_settled flown) shown

  pub marked_flies : (seq : ℕ) → seq ≡ on_air mpdu.number →
      is_flying (state_at (window_of v.windows x.station x.tid) seq) ≡ true
  marked_flies seq shown =
      ap is_flying (state_is (window_of v.windows x.station x.tid) (session w x.station x.tid) bodies
      (h.parts.windows.all.stands x.station x.tid station_live marked_tid) mpdu.number seq
      (marked_number seq shown) ∙ flown)

  -- its frame is at no other number, in no queue and not on the finished list
  alone : IsAlone v w x.station x.tid mpdu
  alone = record {
    nowhere = nowhere v w bodies h mpdu.id x.station x.tid mpdu.number numbered;
    sole = λ a b n other.
        (let known_id = (places_kept w h.reached).only_held mpdu.id
        (Numbered x.station x.tid mpdu.number) numbered in
        let once : StandsOnce w mpdu.id = (places_kept w h.reached).held mpdu.id known_id.0 known_id.1 in
        let here : Numbered x.station x.tid mpdu.number ≡ once.place =
        once.only (Numbered x.station x.tid mpdu.number) numbered in
        let there : Numbered a b n ≡ once.place = once.only (Numbered a b n) other in
        let ea : a ≡ x.station = cc (here, there) in
        let eb : b ≡ x.tid = cc (here, there) in
        let en : n ≡ mpdu.number = cc (here, there) in
        (ea, eb, en));
  }

  pub marked_own : HasOwnFrame (session w x.station x.tid) mpdu.number
  marked_own = own_frame v w bodies x.station x.tid mpdu alone numbered.carries

  -- the frame counts one transmission less
  pub frame_unsent : (y : WindowValue) → WindowsHaveRoom (with_window v.windows x.station x.tid y) →
      WindowStandsFor y (session w x.station x.tid)
      (with_one_unsent (slot (session w x.station x.tid) mpdu.number).id bodies) →
      Parts (record v { windows = with_window v.windows x.station x.tid y }) w
      (with_transmission_unsent x.content i bodies)
  frame_unsent y room stands =
      subst (λ (c : Content). Parts (record v { windows = with_window v.windows x.station x.tid y }) w
      (with_transmission_unsent c i bodies)) (sym is)
      (unsent_parts v w bodies x.station x.tid mpdu alone h.parts station_live marked_tid y room
      (subst (λ (id : ℕ). WindowStandsFor y (session w x.station x.tid) (with_one_unsent id bodies))
      numbered.carries stands))

-- ---- the calls

same_lists : (w : World) (x : Exchange) (unsent given_up : List ℕ) (c : Class) →
    rotation (marked_world w x unsent given_up) c ≡ rotation w c
unfolding with_exchange
same_lists w x unsent given_up c = refl

-- the half v represents the world after a mark of exchange x, whose station is listed in each class in which
-- it belongs on a list
module _ (v : TransmitValue) (w : World) (bodies : ℕ → FrameValue) (r : IsReached w) (e : ℕ) (x : Exchange)
    (known : exchange w e ≡ Some x) where
  -- each class in which the station belongs on a list lists it
  listed : (unsent given_up : List ℕ) (c : Class) →
      is_to_list (marked_world w x unsent given_up) c x.station ≡ true →
      has_key (rotation (marked_world w x unsent given_up) c) x.station ≡ true
  listed unsent given_up c wanted =
      let u : World = marked_world w x unsent given_up in
      let ready : is_ready u c x.station ≡ is_ready w c x.station =
      steady_ready w u (steady_marked w e x unsent given_up (orderly_reached w r).kept known) c x.station in
      let owes : is_debtor u c x.station ≡ is_debtor w c x.station =
      debtor_marked w e x unsent given_up (orderly_reached w r).kept known c x.station in
      ap (λ (k : Rotation). has_key k x.station) (same_lists w x unsent given_up c)
      ∙ listed_where_wanted w r x.station c
      (ap₂ (λ (a b : Bool). a || b) (sym ready) (sym owes) ∙ wanted)

  mark_meets : (ask : Ask) (unsent given_up : List ℕ) → HasLength (Asked ask) → refusal w (Asked ask) ≡ None →
      outcome_of w (Asked ask) ≡ record { world = marked_world w x unsent given_up; reply = Marked } →
      concerned_station w (Asked ask) ≡ Some x.station → Parts v (marked_world w x unsent given_up) bodies →
      Meets w bodies (Asked ask) v Marked
  mark_meets ask unsent given_up some fine is own k =
      subst (λ (o : Outcome). Meets w bodies (Asked ask) v o.reply) is
      (idle_meets v w bodies (Asked ask) r tt tt fine
      (subst (λ (o : Outcome). Parts v o.world bodies) (sym is) k) x.station own
      (subst (λ (o : Outcome). (c : Class) → is_to_list o.world c x.station ≡ true →
      has_key (rotation o.world c) x.station ≡ true) (sym is) (listed unsent given_up)))

  unsent_is : (i : ℕ) → outcome_of w (Asked (Unsent e i)) ≡ record {
    world = marked_world w x (with_member i x.unsent) x.given_up;
    reply = Marked;
  }
  unfolding outcome_of outcome_where_open unsent_outcome
  unsent_is i = ap (λ (o : Option Exchange). outcome_where_open w o (λ y. unsent_outcome w y i)) known

  given_up_is : (i : ℕ) → outcome_of w (Asked (GiveUp e i)) ≡ record {
    world = marked_world w x x.unsent (with_member i x.given_up);
    reply = Marked;
  }
  unfolding outcome_of outcome_where_open give_up_outcome
  given_up_is i = ap (λ (o : Option Exchange). outcome_where_open w o (λ y. give_up_outcome w y i)) known

-- a mark of a transmission, with its frame's count where it never went on the air
module _ (v : TransmitValue) (w : World) (bodies : ℕ → FrameValue) (h : StandsFor v w bodies) (e : ℕ)
    (x : Exchange) (known : exchange w e ≡ Some x) where
  same_air : (unsent given_up : List ℕ) → HasSameAir x (with_marks unsent given_up x)
  same_air unsent given_up = record { number = refl; station = refl; class = refl; charge = refl }

  unsent_after : (i : ℕ) → refusal w (Asked (Unsent e i)) ≡ None → (y : TransmitValue)
      (others : ℕ → FrameValue) → Parts y w others →
      Meets w others (Asked (Unsent e i)) (after_mark y e (with_unsent i)) Marked
  unsent_after i fine y others k =
      let us : List ℕ = with_member i x.unsent in
      mark_meets (after_mark y e (with_unsent i)) w others h.reached e x known
      (Unsent e i) us x.given_up tt fine
      (unsent_is y w others h.reached e x known i) (ap station_of known)
      (marked_parts y w others e x (with_marks us x.given_up x) (with_unsent i) known (rises w h.reached)
      (same_air us x.given_up) refl k)

  pub data_unsent : (mpdus : List Mpdu) → x.content ≡ Frames mpdus → (i : ℕ) → i < length mpdus →
      refusal w (Asked (Unsent e i)) ≡ None → (z : WindowValue) →
      WindowsHaveRoom (with_window v.windows x.station x.tid z) →
      WindowStandsFor z (session w x.station x.tid)
      (with_one_unsent (slot (session w x.station x.tid) (at no_mpdu mpdus i).number).id bodies) →
      Meets w (with_transmission_unsent x.content i bodies) (Asked (Unsent e i))
      (record (after_mark v e (with_unsent i)) { windows = with_window v.windows x.station x.tid z }) Marked
  data_unsent mpdus is i low fine z room stands =
      unsent_after i fine (record v { windows = with_window v.windows x.station x.tid z })
      (with_transmission_unsent x.content i bodies)
      (frame_unsent v w bodies h e x mpdus known is i low z room stands)

  pub request_unsent : (start : ℕ) → x.content ≡ Request start → (i : ℕ) →
      refusal w (Asked (Unsent e i)) ≡ None →
      Meets w (with_transmission_unsent x.content i bodies) (Asked (Unsent e i))
      (after_mark v e (with_unsent i)) Marked
  request_unsent start is i fine =
      subst (λ (c : Content). Meets w (with_transmission_unsent c i bodies) (Asked (Unsent e i))
      (after_mark v e (with_unsent i)) Marked) (sym is) (unsent_after i fine v bodies h.parts)

  pub given_up_meets : (i : ℕ) → refusal w (Asked (GiveUp e i)) ≡ None →
      Meets w bodies (Asked (GiveUp e i)) (after_mark v e (with_given_up i)) Marked
  given_up_meets i fine =
      let gs : List ℕ = with_member i x.given_up in
      mark_meets (after_mark v e (with_given_up i)) w bodies h.reached e x known
      (GiveUp e i) x.unsent gs tt fine
      (given_up_is v w bodies h.reached e x known i) (ap station_of known)
      (marked_parts v w bodies e x (with_marks x.unsent gs x) (with_given_up i) known (rises w h.reached)
      (same_air x.unsent gs) refl h.parts)
