-- Proves the effect of a Join, of an Offload and of a Plain on the receive halves. The station gets a new
-- one, and all others are unchanged.
use Rattle.std.proofs.Common.{◌≡◌, ◌≢◌, refl, ap, sym, ◌∙◌, subst, arith, ℕ, zero, suc, ◌<◌, ◌≤◌, ◌==◌, nat_le, Bool, true, false, not, ◌&&◌, List, [], ◌∷◌, map, Option, Some, None}
use Rattle.std.proofs.lemmas.List.{get_or-replicate}
use Rattle.wf_frame.specs.declared.settings.Config.{Config}
use Rattle.wf_frame.specs.declared.notes.Ask.TheVariants.{Join, Offload, Plain}
use Rattle.wf_frame.specs.declared.notes.Note.{Note}
use Rattle.wf_frame.specs.declared.notes.Note.TheVariants.{Asked}
use Rattle.wf_def_lists.specs.Bounds.{greatest_window}
use Rattle.wf_def_lists.specs.Table.{at}
use Rattle.wf_def_agreement.specs.Receiver.{new_receiver}
use Rattle.wf_def_agreement.specs.Session.{new_session}
use Rattle.wf_law_rules.proofs.Lemmas.Numbers.{on_bool, eq_yes, eq_no, le_no, le_yes, lt_no}
use Rattle.wf_def_world.specs.World.{World, Tid, Mode, no_tid, new_tid, session, is_live, has_agreement, with_station}
use Rattle.wf_def_world.specs.CanSend.{with_listings_of}
use Rattle.wf_def_world.specs.Refusals.{refusals, refusal}
use Rattle.wf_def_world.specs.Step.{new_station, plain_window, join_outcome, offload_outcome, plain_outcome, outcome_of, concerned_station, step}
use Rattle.wf_law_runs.proofs.Windows.Sides.{Side, side, side_of, Same, same_listed}
use Rattle.wf_law_runs.proofs.Windows.Opened.{no_row}
use Rattle.wf_law_runs.proofs.Windows.Agreed.{IsLawful, IsNewMode, lawful_new}
use Rattle.wf_law_runs.proofs.Releases.Kept.{kept_equal}
use Rattle.wf_law_runs.proofs.Releases.Released.{side_with_station, side_own_station, live_with_station}
use Rattle.wf_law_driver.proofs.Opened.{step_done}
use Rattle.wf_recv_marks.specs.declared.marks.Mark.{Mark}
use Rattle.wf_recv_peer.specs.Agreements.{PeerValue, agreement, new_agreement}
use Rattle.wf_recv_peer_refines.specs.Half.{ReceiveHalfStandsFor}
use Rattle.wf_recv_peer_refines.proofs.Halves.{stands_first}
use Rattle.wf_send_half_model.specs.Standing.{IsReached}
use Rattle.wf_cell_model.specs.Hearing.{new_receive_half, peer_of, agreement_of, with_peer, ArePeers, carried, StandsForTid, mark_of, Hears}
use Rattle.wf_cell_model.proofs.Keeping.{lawful_now, config_done, stays_same, stays_stand, hears_stays}
use Rattle.wf_cell_model.proofs.Peers.{peer_own, peer_other, sized_with}

-- ---- ranges

within : (low high n : ℕ) → not (nat_le low n && nat_le n high) ≡ false → (low ≤ n) × (n ≤ high)
within low high n h = go (nat_le low n) (nat_le n high) refl refl h
  where
    go : (a b : Bool) → nat_le low n ≡ a → nat_le n high ≡ b → not (a && b) ≡ false → (low ≤ n) × (n ≤ high)
    go true true d e k = (le_yes low n d, le_yes n high e)
    go true false d e k = absurd (cc k)
    go false b d e k = absurd (cc k)

pub station_in_range : (w : World) (s window start exponent weight : ℕ) →
    refusal w (Asked (Join s window start exponent weight)) ≡ None → s < w.config.stations
station_in_range w s window start exponent weight fine =
    le_no w.config.stations s (no_row (refusals w (Asked (Join s window start exponent weight))) fine).0

pub window_in_range : (w : World) (s window start exponent weight : ℕ) →
    refusal w (Asked (Join s window start exponent weight)) ≡ None →
    (1 ≤ window) × (window ≤ 256)
window_in_range w s window start exponent weight fine =
    within 1 256 window (no_row (refusals w (Asked (Join s window start exponent weight))) fine).1.0

pub start_in_range : (w : World) (s window start exponent weight : ℕ) →
    refusal w (Asked (Join s window start exponent weight)) ≡ None → start < 4096
start_in_range w s window start exponent weight fine =
    omega (
      arith,
      lt_no 4095 start (no_row (refusals w (Asked (Join s window start exponent weight)))
          fine).1.1.0,
    )

-- ---- its agreements

eight_alike : (y : Tid) (j : ℕ) → j < 8 → at no_tid (y ∷ y ∷ y ∷ y ∷ y ∷ y ∷ y ∷ y ∷ []) j ≡ y
eight_alike y zero h = refl
eight_alike y (suc zero) h = refl
eight_alike y (suc (suc zero)) h = refl
eight_alike y (suc (suc (suc zero))) h = refl
eight_alike y (suc (suc (suc (suc zero)))) h = refl
eight_alike y (suc (suc (suc (suc (suc zero))))) h = refl
eight_alike y (suc (suc (suc (suc (suc (suc zero)))))) h = refl
eight_alike y (suc (suc (suc (suc (suc (suc (suc zero))))))) h = refl
eight_alike y (suc (suc (suc (suc (suc (suc (suc (suc j)))))))) h = absurd (omega (arith, h))

-- the world in which station s is new
abbrev pub joined_world : World → ℕ → Mode → ℕ → ℕ → ℕ → ℕ → Bool → World
joined_world w s mode window start exponent weight off =
    with_station w s (Some (new_station w.config mode window start exponent weight off))

-- both sides of a TID that is new
abbrev new_side : Mode → ℕ → ℕ → Side
new_side mode start window = record {
  session = new_session start window;
  receiver = new_receiver start window;
  agreed = has_agreement mode;
}

joined_side : (w : World) (s : ℕ) (mode : Mode) (window start exponent weight t : ℕ) (off : Bool) → t < 8 →
    side (joined_world w s mode window start exponent weight off) s t ≡ new_side mode start window
joined_side w s mode window start exponent weight t off low =
    side_own_station w s t _ ∙ ap side_of (eight_alike (new_tid mode start window) t low)

joined_rest : (w : World) (s : ℕ) (mode : Mode) (window start exponent weight : ℕ) (off : Bool) →
    ((joined_world w s mode window start exponent weight off).opened ≡ w.opened) ×
    ((joined_world w s mode window start exponent weight off).config ≡ w.config)
unfolding with_station
joined_rest w s mode window start exponent weight off = (refl, refl)

new_stands : (ids : ℕ → ℕ) (start window : ℕ) → 1 ≤ window → window ≤ 256 → start < 4096 →
    ReceiveHalfStandsFor ids (new_receiver start window) (new_agreement start window).board
    (new_agreement start window).buffer
new_stands ids start window least most low =
    subst (λ (n : ℕ). ReceiveHalfStandsFor ids (new_receiver start window) (new_agreement n window).board
    (new_agreement n window).buffer) (omega (arith, low))
    (stands_first ids 256 start window least most)

own_stands : (w v : World) (s : ℕ) (mode : Mode) (start window t : ℕ) →
    side v s t ≡ new_side mode start window → 1 ≤ window → window ≤ 256 → start < 4096 →
    StandsForTid v s t (new_agreement start window)
own_stands w v s mode start window t new least most low =
    subst (λ (a : Side). ReceiveHalfStandsFor (carried a.session) a.receiver
    (new_agreement start window).board (new_agreement start window).buffer) (sym new)
    (new_stands (carried (new_session start window)) start window least most low)

joined_stand : (peers : List PeerValue) (marks : List Mark) (w : World) (s : ℕ) (mode : Mode)
    (window start exponent weight : ℕ) (off : Bool) → IsLawful w → Hears peers marks w →
    s < w.config.stations → 1 ≤ window → window ≤ 256 → start < 4096 → (i t : ℕ) → is_live
    (joined_world w s mode window start exponent weight off) i ≡ true → t < 8 →
    StandsForTid (joined_world w s mode window start exponent weight off) i t
    (agreement_of (with_peer s (new_receive_half s start window) peers) i t)
joined_stand peers marks w s mode window start exponent weight off lawful h low least most small i t live
    below =
    let v : World = joined_world w s mode window start exponent weight off in
    let p : PeerValue = new_receive_half s start window in
    let own : peer_of (with_peer s p peers) s ≡ p = peer_own peers s p (omega (arith, h.sized.count, low)) in
    on_bool (s == i)
    (λ yes. subst (λ (k : ℕ). StandsForTid v k t (agreement_of (with_peer s p peers) k t)) (eq_yes s i yes)
    (subst (StandsForTid v s t)
    (sym (ap (λ (q : PeerValue). agreement q t) own
    ∙ get_or-replicate 8 t (new_agreement start window) (new_agreement 0 256) below))
    (own_stands w v s mode start window t (joined_side w s mode window start exponent weight t off below)
    least most
    small)))
    (λ no.
    let other : s ≢ i = eq_no s i no in
    let same : side v i t ≡ side w i t = side_with_station w s i t _ other in
    subst (StandsForTid v i t) (sym (ap (λ (q : PeerValue). agreement q t)
    (peer_other peers s i p (λ e. other (sym e)))))
    (stays_stand w v i t (agreement_of peers i t) lawful (ap (λ (a : Side). a.receiver) same)
    (kept_equal (session w i t) (session v i t) (ap (λ (a : Side). a.session) same))
    (h.agreements i t (sym (live_with_station w s i _ other) ∙ live) below)))

-- Station s joins by a call that is not refused.
new_station_hears : (peers : List PeerValue) (marks : List Mark) (w : World) (note : Note)
    (s : ℕ) (mode : Mode) (window start exponent weight : ℕ) (off : Bool) → IsReached w →
    Hears peers marks w → IsNewMode mode window off → refusal w note ≡ None →
    (outcome_of w note).world ≡ joined_world w s mode window start exponent weight off →
    s < w.config.stations → is_live w s ≡ false → 1 ≤ window → window ≤ 256 → start < 4096 →
    Hears (with_peer s (new_receive_half s start window) peers) marks (step w note).world
new_station_hears peers marks w note s mode window start exponent weight off reached h modes fine is low dead
    least most
    small =
    let i : IsLawful w = lawful_now w reached in
    let u : World = joined_world w s mode window start exponent weight off in
    let o : Option ℕ = concerned_station w note in
    let v : World = with_listings_of u o in
    let rest = joined_rest w s mode window start exponent weight off in
    let same : Same u v = same_listed o u in
    let p : PeerValue = new_receive_half s start window in
    let listed : with_listings_of (outcome_of w note).world o ≡ v =
    ap (λ (k : World). with_listings_of k o) is in
    let now : Hears (with_peer s p peers) marks u = record {
      sized = subst (λ (c : Config). ArePeers c.stations (with_peer s p peers)) (sym rest.1)
          (sized_with w.config.stations s peers p low (record { own = refl; base = refl }) refl h.sized);
      agreements =
          joined_stand peers marks w s mode window start exponent weight off i h low least most small;
      kept = h.kept ∙ ap (map mark_of) (sym rest.0);
    } in
    subst (Hears (with_peer s p peers) marks) (sym (step_done w note fine ∙ listed))
    (hears_stays _ marks marks u v (lawful_new w s mode window start exponent weight off modes dead i)
    (stays_same u v same)
    (ap (λ (k : World). k.config) (sym listed) ∙ config_done w note fine ∙ sym rest.1)
    (now.kept ∙ ap (map mark_of) (sym same.opened)) now)

pub joined_hears : (peers : List PeerValue) (marks : List Mark) (w : World)
    (s window start exponent weight : ℕ) → IsReached w → Hears peers marks w →
    refusal w (Asked (Join s window start exponent weight)) ≡ None →
    Hears (with_peer s (new_receive_half s start window) peers) marks
    (step w (Asked (Join s window start exponent weight))).world
unfolding outcome_of join_outcome
joined_hears peers marks w s window start exponent weight reached h fine =
    let note : Note = Asked (Join s window start exponent weight) in
    let range = window_in_range w s window start exponent weight fine in
    new_station_hears peers marks w note s Mode.Agreed window start exponent weight false reached h
    (record { device = λ d. absurd (cc d); held = refl; narrow = λ d. absurd (cc d) }) fine refl
    (station_in_range w s window start exponent weight fine)
    (no_row (refusals w note) fine).1.1.1.1.1.0 range.0 range.1
    (start_in_range w s window start exponent weight fine)

pub offloaded_in_range : (w : World) (s exponent weight : ℕ) →
    refusal w (Asked (Offload s exponent weight)) ≡ None → s < w.config.stations
offloaded_in_range w s exponent weight fine =
    le_no w.config.stations s (no_row (refusals w (Asked (Offload s exponent weight))) fine).0

pub offloaded_hears : (peers : List PeerValue) (marks : List Mark) (w : World) (s exponent weight : ℕ) →
    IsReached w → Hears peers marks w → refusal w (Asked (Offload s exponent weight)) ≡ None →
    Hears (with_peer s (new_receive_half s 0 greatest_window) peers) marks
    (step w (Asked (Offload s exponent weight))).world
unfolding outcome_of offload_outcome
offloaded_hears peers marks w s exponent weight reached h fine =
    let note : Note = Asked (Offload s exponent weight) in
    new_station_hears peers marks w note s Mode.Plain greatest_window 0 exponent weight true reached h
    (record { device = λ _. refl; held = refl; narrow = λ d. absurd (cc d) }) fine refl
    (offloaded_in_range w s exponent weight fine) (no_row (refusals w note) fine).1.1.1.0
    (omega arith) (omega arith) (omega arith)

pub plain_in_range : (w : World) (s start exponent weight : ℕ) →
    refusal w (Asked (Plain s start exponent weight)) ≡ None → s < w.config.stations
plain_in_range w s start exponent weight fine =
    le_no w.config.stations s (no_row (refusals w (Asked (Plain s start exponent weight))) fine).0

pub plain_start_in_range : (w : World) (s start exponent weight : ℕ) →
    refusal w (Asked (Plain s start exponent weight)) ≡ None → start < 4096
plain_start_in_range w s start exponent weight fine = omega (
  arith,
  lt_no 4095 start (no_row (refusals w (Asked (Plain s start exponent weight))) fine).1.0,
)

pub plain_hears : (peers : List PeerValue) (marks : List Mark) (w : World) (s start exponent weight : ℕ) →
    IsReached w → Hears peers marks w → refusal w (Asked (Plain s start exponent weight)) ≡ None →
    Hears (with_peer s (new_receive_half s start plain_window) peers) marks
    (step w (Asked (Plain s start exponent weight))).world
unfolding outcome_of plain_outcome
plain_hears peers marks w s start exponent weight reached h fine =
    let note : Note = Asked (Plain s start exponent weight) in
    new_station_hears peers marks w note s Mode.Plain plain_window start exponent weight false reached h
    (record { device = λ d. absurd (cc d); held = refl; narrow = λ _. omega arith }) fine refl
    (plain_in_range w s start exponent weight fine) (no_row (refusals w note) fine).1.1.1.1.0
    (omega arith) (omega arith) (plain_start_in_range w s start exponent weight fine)
