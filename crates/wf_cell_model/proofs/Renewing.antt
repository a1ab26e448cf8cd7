-- Proves the effect of a Begin and of a Cease on the receive halves, and what a Cease releases. All numbers
-- of the TID are settled then, so an empty agreement from the start of the window on represents its receiver.
use Rattle.std.proofs.Common.{◌≡◌, refl, ap, sym, ◌∙◌, subst, arith, ℕ, suc, ◌+◌, ◌-◌, ◌%◌, ◌<◌, ◌≤◌, Bool, true, false, nat_le, nat_lt, List, [], ◌∷◌, length, map, set-set, if◌then◌else◌, None}
use Rattle.wf_frame.specs.declared.notes.Ask.TheVariants.{Begin, Cease}
use Rattle.wf_frame.specs.declared.notes.Note.{Note}
use Rattle.wf_frame.specs.declared.notes.Note.TheVariants.{Asked}
use Rattle.wf_def_lists.specs.Table.{at}
use Rattle.wf_def_lists.specs.Bounds.{greatest_window}
use Rattle.wf_def_agreement.specs.Receiver.{Receiver, with_start, released_between}
use Rattle.wf_def_agreement.specs.Session.{Session, Slot, State, no_slot, slot, is_waiting, is_settled, first_unsettled, start_of, next_number, numbers_where, after_flush}
use Rattle.wf_law_rules.proofs.Lemmas.Numbers.{le_no, lt_no, le_yes, both}
use Rattle.wf_def_world.specs.World.{World, Mode, tid_of, session, receiver, is_live, on_tid}
use Rattle.wf_def_world.specs.CanSend.{with_listings_of}
use Rattle.wf_def_world.specs.Refusals.{is_within, refusals, refusal}
use Rattle.wf_def_world.specs.Step.{plain_window, after_numbers_ended, outcome_of, concerned_station, step}
use Rattle.wf_law_runs.proofs.Common.Flushes.{next-flush}
use Rattle.wf_law_runs.proofs.Windows.Sides.{Side, side, side_of, side_on, Same, same as same_here, renewed, begun_is, ceased_is, ended_side, ended_live, opened_begun, opened_ceased, live_begun, live_ceased, same_listed, same_ended}
use Rattle.wf_law_runs.proofs.Windows.Opened.{NoRow, no_row}
use Rattle.wf_law_runs.proofs.Windows.Agreement.{IsAgreed, release_next, next_release, score_kept}
use Rattle.wf_law_runs.proofs.Windows.Senders.{none_sending, start_flush}
use Rattle.wf_law_runs.proofs.Windows.Agreed.{IsLawful, NoneOpen, none_of_tid, not_no}
use Rattle.wf_law_runs.proofs.Sessions.Starts.{start_le}
use Rattle.wf_law_runs.proofs.Releases.Kept.{keep_numbers_ended}
use Rattle.wf_law_runs.proofs.Releases.Released.{ceased_receiver}
use Rattle.wf_law_driver.proofs.Opened.{step_done}
use Rattle.wf_recv_marks.specs.declared.marks.Mark.{Mark}
use Rattle.wf_recv_peer.specs.Agreements.{PeerValue, AgreementValue, new_agreement}
use Rattle.wf_recv_peer.specs.Buffer.{request_outcome as buffer_requested}
use Rattle.wf_recv_peer_refines.specs.Half.{ReceiveHalfStandsFor, IsPastAll, IsRequestInReach}
use Rattle.wf_recv_peer_refines.proofs.Halves.{up_request}
use Rattle.wf_recv_peer_refines.proofs.Resized.{stands_resized}
use Rattle.wf_send_half_model.specs.Flushing.{released_at_cease}
use Rattle.wf_send_half_model.specs.Standing.{IsReached}
use Rattle.wf_cell_model.specs.Arriving.{peer_requested}
use Rattle.wf_cell_model.specs.Catching.{twelve_bit_start, peers_renewed}
use Rattle.wf_cell_model.specs.Hearing.{peer_of, agreement_of, with_peer, carried, StandsForTid, mark_of, Hears}
use Rattle.wf_cell_model.proofs.Catching.{stays_on_tid, listed_live}
use Rattle.wf_cell_model.proofs.Changing.{with_agreement, stays_but, then_stays_but, changed_hears}
use Rattle.wf_cell_model.proofs.Keeping.{Stays, lawful_now, config_done, stays_kept, stays_same, stays_stand}
use Rattle.wf_cell_model.proofs.Peers.{peer_own}
use Rattle.wf_cell_model.proofs.Receivers.{receivers_same, then_receivers, receivers_on_session}

-- ---- a session whose numbers are all settled

settled_of : (st : State) → is_waiting st ≡ false → ((e : ℕ) → st ≡ State.Flying e → ⊥) →
    is_settled st ≡ true
settled_of State.Waiting h none = absurd (cc h)
settled_of (State.Flying e) h none = absurd (none e refl)
settled_of State.Acked h none = refl
settled_of State.Failed h none = refl

none_listed : (b : Bool) (n : ℕ) (ns : List ℕ) → nat_lt 0 (length (if b then n ∷ ns else ns)) ≡ false →
    (b ≡ false) × (nat_lt 0 (length ns) ≡ false)
none_listed true n ns h = absurd (omega (arith, lt_no 0 (length (n ∷ ns)) h))
none_listed false n ns h = (refl, h)

all_settled : (xs : List Slot) (n : ℕ) → nat_lt 0 (length (numbers_where is_waiting n xs)) ≡ false →
    ((k e : ℕ) → (at no_slot xs k).state ≡ State.Flying e → ⊥) → first_unsettled n xs ≡ n + length xs
all_settled [] n waits flies = omega arith
all_settled (x ∷ xs) n waits flies =
    let none = none_listed (is_waiting x.state) n (numbers_where is_waiting (suc n) xs) waits in
    let rest : first_unsettled (suc n) xs ≡ suc n + length xs =
    all_settled xs (suc n) none.1 (λ k e. flies (suc k) e) in
    ap (λ (b : Bool). if b then first_unsettled (suc n) xs else n) (settled_of x.state none.0 (flies 0))
    ∙ omega (arith, rest)

-- no number of a TID is on the air while no exchange of it is open
none_flies : (w : World) (s t : ℕ) → IsLawful w → NoneOpen s t w.opened → (n e : ℕ) →
    (session w s t).first ≤ n → (slot (session w s t) n).state ≡ State.Flying e → ⊥
none_flies w s t i none n e from flies = none_sending s t e n w.opened none (i.sent s t refl n e from flies)

-- ---- an agreement that begins again

-- the receiver of a session whose numbers are all below f
past_all : (y : Session) (r : Receiver) (f : ℕ) → IsAgreed y r → next_number y ≡ f → IsPastAll r f
past_all y r f agreed next = record {
  release = omega (arith, release_next y r agreed, next);
  arrived = λ n there. omega (arith, (agreed.arrived n there).1, next);
}

-- The receiver after an agreement begins or ends, from the one before, if f is its start.
renewed_stands : (u : World) (s t size f : ℕ) (mode : Mode) (a : AgreementValue) → is_live u s ≡ true →
    start_of (session u s t) ≡ f → IsPastAll (receiver u s t) f → 1 ≤ size → size ≤ 256 →
    StandsForTid u s t a →
    StandsForTid (on_tid u s t (renewed (start_of (session u s t)) size mode)) s t
    (new_agreement (f % 4096) size)
renewed_stands u s t size f mode a live is past least most h =
    let y : Session = session u s t in
    let b : AgreementValue = new_agreement (f % 4096) size in
    subst (λ (z : Side). ReceiveHalfStandsFor (carried z.session) z.receiver b.board b.buffer)
    (sym (side_on u s t (renewed (start_of y) size mode) live
    ∙ ap (λ (k : ℕ). side_of (renewed k size mode (tid_of u s t))) is))
    (stands_resized (carried y) (receiver u s t) a.board a.buffer 256 f size h past least most)

-- the start of the window afterwards
renewed_start : (u : World) (s t size : ℕ) (mode : Mode) → is_live u s ≡ true →
    start_of (session (on_tid u s t (renewed (start_of (session u s t)) size mode)) s t)
    ≡ start_of (session u s t)
renewed_start u s t size mode live =
    ap (λ (z : Side). start_of z.session)
    (side_on u s t (renewed (start_of (session u s t)) size mode) live)

-- The receive halves after a call that leads to u, after which the TID begins again.
module _ (peers : List PeerValue) (marks : List Mark) (w u : World) (s t size f : ℕ) (mode : Mode)
    (lawful : IsLawful w) (h : Hears peers marks w) (low : s < w.config.stations) (below : t < 8)
    (stays : Stays w u) (live : is_live u s ≡ true) (start : start_of (session u s t) ≡ f)
    (past : IsPastAll (receiver u s t) f) (least : 1 ≤ size) (most : size ≤ 256) where
  renewed_world : World
  renewed_world = on_tid u s t (renewed (start_of (session u s t)) size mode)

  stood : StandsForTid u s t (agreement_of peers s t)
  stood = stays_stand w u s t (agreement_of peers s t) lawful (stays.receivers s t live)
      (stays.sessions s t live) (h.agreements s t (stays.live s live) below)

  renewed_hears : (note : Note) → refusal w note ≡ None → (outcome_of w note).world ≡ renewed_world →
      (outcome_of w note).world.opened ≡ w.opened →
      Hears (peers_renewed (step w note).world s t size peers) marks (step w note).world
  unfolding renewed_world
  renewed_hears note fine is opened =
      let x : World = on_tid u s t (renewed (start_of (session u s t)) size mode) in
      let o : World = (outcome_of w note).world in
      let v : World = with_listings_of o (concerned_station w note) in
      let listed : Same o v = same_listed (concerned_station w note) o in
      let k : Same x v = subst (λ (z : World). Same z v) is listed in
      let b : AgreementValue = new_agreement (f % 4096) size in
      let now : start_of (session v s t) ≡ f = ap (λ (z : Side). start_of z.session) (k.sides s t)
      ∙ renewed_start u s t size mode live ∙ start in
      let own : StandsForTid v s t b =
      subst (λ (z : Side). ReceiveHalfStandsFor (carried z.session) z.receiver
      b.board b.buffer) (sym (k.sides s t))
      (renewed_stands u s t size f mode (agreement_of peers s t) live start past least most stood) in
      subst (λ (z : World). Hears (peers_renewed z s t size peers) marks z) (sym (step_done w note fine))
      (subst (λ (n : ℕ). Hears
      (with_peer s (with_agreement t (new_agreement (n % 4096) size) (peer_of peers s))
      peers) marks v) (sym now)
      (changed_hears peers marks w v s t b h low below marks lawful
      (then_stays_but s t w u v (stays_but s t w u stays)
      (then_stays_but s t u x v (stays_on_tid u s t _) (stays_but s t x v (stays_same x v k))))
      (config_done w note fine) (λ _. own)
      (h.kept ∙ ap (map mark_of) (sym (listed.opened ∙ opened)))))

-- ---- an agreement begins

module _ (w : World) (s t window : ℕ) (fine : refusal w (Asked (Begin s t window)) ≡ None) where
  begin_rows : NoRow (refusals w (Asked (Begin s t window)))
  begin_rows = no_row (refusals w (Asked (Begin s t window))) fine

  pub begun_station : s < w.config.stations
  begun_station = le_no w.config.stations s begin_rows.0

  pub begun_tid : t < 8
  begun_tid = omega (arith, lt_no 7 t begin_rows.1.0)

  pub begun_window : (1 ≤ window) × (window ≤ 256)
  begun_window =
      let range = both (nat_le 1 window) (nat_le window greatest_window)
      (not_no (is_within 1 greatest_window window) begin_rows.1.1.0) in
      (le_yes 1 window range.0, le_yes window 256 range.1)

  -- all numbers of the TID are settled
  begun_next : IsLawful w → start_of (session w s t) ≡ next_number (session w s t)
  begun_next i =
      let y : Session = session w s t in
      all_settled y.slots y.first begin_rows.1.1.1.1.1.1.0 (λ k e flies.
      let place : y.first + k - y.first ≡ k = omega arith in
      none_flies w s t i (none_of_tid s t w.opened begin_rows.1.1.1.1.1.0) (y.first + k) e (omega arith)
      (ap (λ (i : ℕ). (at no_slot y.slots i).state) place ∙ flies))

pub begun_hears : (peers : List PeerValue) (marks : List Mark) (w : World) (s t window : ℕ) → IsReached w →
    Hears peers marks w → refusal w (Asked (Begin s t window)) ≡ None →
    Hears (peers_renewed (step w (Asked (Begin s t window))).world s t window peers) marks
    (step w (Asked (Begin s t window))).world
unfolding outcome_of renewed_world
begun_hears peers marks w s t window reached h fine =
    let note : Note = Asked (Begin s t window) in
    let i : IsLawful w = lawful_now w reached in
    let y : Session = session w s t in
    let range = begun_window w s t window fine in
    let same : Stays w w = stays_same w w (same_here w) in
    renewed_hears peers marks w w s t window (start_of y) Mode.Agreed i h (begun_station w s t window fine)
    (begun_tid w s t window fine) same (not_no (is_live w s) (begin_rows w s t window fine).1.1.1.0) refl
    (past_all y (receiver w s t) (start_of y) (i.agreed s t) (sym (begun_next w s t window fine i)))
    range.0 range.1 note fine (begun_is w s t window) (opened_begun w s t window)

-- ---- an agreement ends

module _ (w : World) (s t : ℕ) (fine : refusal w (Asked (Cease s t)) ≡ None) where
  cease_rows : NoRow (refusals w (Asked (Cease s t)))
  cease_rows = no_row (refusals w (Asked (Cease s t))) fine

  pub ceased_station : s < w.config.stations
  ceased_station = le_no w.config.stations s cease_rows.0

  pub ceased_tid : t < 8
  ceased_tid = omega (arith, lt_no 7 t cease_rows.1.0)

  ceased_live : is_live w s ≡ true
  ceased_live = not_no (is_live w s) cease_rows.1.1.0

  -- the world in which the numbers that wait are given up
  ended : World
  ended = after_numbers_ended w s t

  ended_now : side ended s t ≡ record {
    session = after_flush w.config.attempts (session w s t);
    receiver = receiver w s t;
    agreed = (side w s t).agreed;
  }
  unfolding ended
  ended_now = ended_side w s t ceased_live

  -- all numbers of the TID are settled then
  ended_next : IsLawful w → start_of (session ended s t) ≡ next_number (session w s t)
  unfolding ended
  ended_next i =
      let y : Session = session w s t in
      let limit : ℕ = w.config.attempts in
      ap (λ (z : Side). start_of z.session) ended_now
      ∙ start_flush limit y (none_flies w s t i (none_of_tid s t w.opened cease_rows.1.1.1.1.0))
      ∙ next-flush limit y

  ended_stays : Stays w ended
  unfolding ended
  ended_stays = stays_kept w (after_numbers_ended w s t) (keep_numbers_ended w s t)
      (then_receivers w _ _ (receivers_on_session w s t (after_flush w.config.attempts))
      (receivers_same _ _ (same_ended w s t)))

  ended_past : IsLawful w → IsPastAll (receiver ended s t) (next_number (session w s t))
  unfolding ended
  ended_past i = subst (λ (z : Side). IsPastAll z.receiver (next_number (session w s t))) (sym ended_now)
      (past_all (session w s t) (receiver w s t) (next_number (session w s t)) (i.agreed s t) refl)

pub ceased_hears : (peers : List PeerValue) (marks : List Mark) (w : World) (s t : ℕ) → IsReached w →
    Hears peers marks w → refusal w (Asked (Cease s t)) ≡ None →
    Hears (peers_renewed (step w (Asked (Cease s t))).world s t plain_window peers) marks
    (step w (Asked (Cease s t))).world
unfolding outcome_of renewed_world ended
ceased_hears peers marks w s t reached h fine =
    let note : Note = Asked (Cease s t) in
    let i : IsLawful w = lawful_now w reached in
    renewed_hears peers marks w (ended w s t fine) s t plain_window (next_number (session w s t)) Mode.OnHold
    i h
    (ceased_station w s t fine) (ceased_tid w s t fine) (ended_stays w s t fine)
    (ended_live w s t ∙ ceased_live w s t fine) (ended_next w s t fine i) (ended_past w s t fine i)
    (omega arith)
    (omega arith) note fine (ceased_is w s t) (opened_ceased w s t)

-- ---- what it releases

-- the next number of a session is in reach of its receiver
next_in_reach : (y : Session) (r : Receiver) → IsAgreed y r → IsRequestInReach r (next_number y)
next_in_reach y r a = record {
  score = omega (arith, score_kept y r a, start_le y.slots y.first);
  release = omega (arith, next_release y r a, a.size);
}

pub ceased_up : (peers : List PeerValue) (marks : List Mark) (w : World) (s t : ℕ) → IsReached w →
    Hears peers marks w → refusal w (Asked (Cease s t)) ≡ None →
    (buffer_requested (twelve_bit_start (step w (Asked (Cease s t))).world s t)
    (agreement_of peers s t).buffer).up ≡ released_at_cease w s t
unfolding outcome_of ended
ceased_up peers marks w s t reached h fine =
    let note : Note = Asked (Cease s t) in
    let i : IsLawful w = lawful_now w reached in
    let y : Session = session w s t in
    let r : Receiver = receiver w s t in
    let f : ℕ = next_number y in
    let a : AgreementValue = agreement_of peers s t in
    let e : World = after_numbers_ended w s t in
    let o : World = (outcome_of w note).world in
    let v : World = with_listings_of o (concerned_station w note) in
    let live : is_live w s ≡ true = ceased_live w s t fine in
    let live_e : is_live e s ≡ true = ended_live w s t ∙ live in
    let next : start_of (session e s t) ≡ f = ended_next w s t fine i in
    let now : start_of (session (step w note).world s t) ≡ f =
    ap (λ (z : World). start_of (session z s t)) (step_done w note fine)
    ∙ ap (λ (z : Side). start_of z.session) ((same_listed (concerned_station w note) o).sides s t)
    ∙ ap (λ (z : World). start_of (session z s t)) (ceased_is w s t)
    ∙ renewed_start e s t plain_window Mode.OnHold live_e ∙ next in
    let stood : StandsForTid w s t a = h.agreements s t live (ceased_tid w s t fine) in
    ap (λ (k : ℕ). (buffer_requested (k % 4096) a.buffer).up) now
    ∙ up_request (carried y) r a.board a.buffer f stood (next_in_reach y r (i.agreed s t))
    ∙ ap (λ (k : ℕ). map (carried y) (released_between r (with_start k r))) (sym next)
    ∙ ap (λ (q : Receiver). map (carried y) (released_between r q)) (sym (ceased_receiver w s t live))

-- ---- the station afterwards

pub begun_live : (w : World) (s t window : ℕ) → refusal w (Asked (Begin s t window)) ≡ None →
    is_live (step w (Asked (Begin s t window))).world s ≡ true
unfolding outcome_of
begun_live w s t window fine = listed_live w s (Asked (Begin s t window)) fine
    (live_begun w s t window s ∙ not_no (is_live w s) (begin_rows w s t window fine).1.1.1.0)

pub cease_live : (w : World) (s t : ℕ) → refusal w (Asked (Cease s t)) ≡ None →
    is_live (step w (Asked (Cease s t))).world s ≡ true
unfolding outcome_of
cease_live w s t fine = listed_live w s (Asked (Cease s t)) fine
    (live_ceased w s t s ∙ ceased_live w s t fine)

-- ---- a receive half that moves before it begins again

-- the second of two changes of one agreement stays
renewed_twice : (p : PeerValue) (t : ℕ) (a b : AgreementValue) →
    with_agreement t a (with_agreement t b p) ≡ with_agreement t a p
renewed_twice p t a b = ap (λ (l : List AgreementValue). record p { agreements = l })
    (set-set p.agreements t b a)

-- what it moved to makes no difference
pub renewed_moved : (peers : List PeerValue) (s t start : ℕ) (a : AgreementValue) → s < length peers →
    with_peer s
    (with_agreement t a (peer_of (with_peer s (peer_requested t start (peer_of peers s)) peers) s))
    (with_peer s (peer_requested t start (peer_of peers s)) peers)
    ≡ with_peer s (with_agreement t a (peer_of peers s)) peers
renewed_moved peers s t start a low =
    let q : PeerValue = peer_requested t start (peer_of peers s) in
    ap (λ (p : PeerValue). with_peer s (with_agreement t a p) (with_peer s q peers)) (peer_own peers s q low)
    ∙ set-set peers s q (with_agreement t a q)
    ∙ ap (λ (p : PeerValue). with_peer s p peers) (renewed_twice (peer_of peers s) t a _)
