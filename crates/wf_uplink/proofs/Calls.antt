-- Proves the laws over every list of calls, by induction on the list.
use Rattle.std.proofs.Common.{◌≡◌, ℕ, zero, suc, ◌+◌, ◌/◌, ◌%◌, ◌<◌, ◌≤◌, ◌≢◌, ◌==◌, ◌&&◌, not, nat_lt, Bool, true, false, List, [], ◌∷◌, ◌++◌, length, get_or, set, Option, Some, None, is_some, refl, sym, ◌∙◌, ap, ap₂, subst, inl, inr, arith}
use Rattle.std.specs.Prelude.{sum_by}
use Rattle.std.proofs.lemmas.Bool.Decides.{nat_tests}
use Rattle.std.proofs.lemmas.List.Sums.{sum_by-cons}
use Rattle.std.proofs.lemmas.List.{get_or-set_same, get_or-set_other}
use Rattle.wf_def_air.specs.Airtime.{Rate, lowest_rate}
use Rattle.wf_recv_peer.specs.Board.{Board, empty_board}
use Rattle.wf_recv_peer.specs.Plain.{is_repeat, retry_of}
use Rattle.wf_uplink.specs.declared.fault.OpenFault.{OpenFault}
use Rattle.wf_uplink.specs.declared.fault.UplinkFault.{UplinkFault}
use Rattle.wf_uplink.specs.declared.fault.RequestFault.{RequestFault}
use Rattle.wf_uplink.specs.Frames.{sender_of, tid_in_control, sequence_of}
use Rattle.wf_uplink.specs.Requests.{request_tid, request_start}
use Rattle.wf_uplink.specs.Reordering.{Reordering, Passed, ReorderingOutcome, number_read, unopened, moved_to, waiting, unmoved, start_arrived}
use Rattle.wf_uplink.specs.Sides.{SideValue, Agreed, Plain, unopened_side, is_plain_side, side_after, side_asked}
use Rattle.wf_uplink.specs.World.{World, Delivery, Call, Open, OpenPlain, SetRate, Receive, Request, Tick, Expire, Answer, Opened, NotOpened, Set, NotSet, Received, NotReceived, Requested, NotRequested, Now, TimedOut, NoneDue, new_world, rate_of, is_open, place_of, tids_of_station, reordering_at, reordering_of, tid_side, open_fault, open_plain_fault, opened, plain_opened, receive_fault, first_request_fault, frame_air_of, request_air_of, released_in, given_up_in, count_of, place_of_frame, side_of_frame, arrival_outcome, plain_passed, accepted, is_old, passed_for, recorded, delivery_of, place_of_request, asked_outcome, requested, request_delivery, board_shown, first_due, timeout_outcome, expired_at, timeout_of, open_answer, receive_answer, request_answer, expire_answer, answer, after_open, after_open_plain, after_receive, after_request, after_expire, after_call, after_calls, answers}
use Rattle.wf_uplink.specs.Laws.{Covers, TidLaw, TotalsLaw, IsCharged, IsRequestCharged, frame_charge, delivery_in, told_in, told_by, all_told, released_by, given_up_by, accepted_by, old_by}
use Rattle.wf_uplink.proofs.Told.{covers_append, covers_rises, each_once, no_other}
use Rattle.wf_uplink.specs.Soundness.{IsSound}
use Rattle.wf_uplink.proofs.Moves.{choose, choose_both, IsFair, arrived_fair, requested_fair, timed_out_fair}
use Rattle.wf_uplink.proofs.Worlds.{IsTaken, taken, asked, expiring, opening, opening_plain, begun_other, begun_here, sided_other, sided_here, same_station, same_tid, place_within, new_sound, call_sound, calls_sound, some_within, not_none, both, same_or_not}

-- ---- one TID

-- a station is open, and its TID has an agreement
pub record IsAgreed (station tid : ℕ) (w : World) : Type 0 where
  pub live : is_open w station ≡ true
  pub agreed : is_plain_side (tid_side w station tid) ≡ false

-- one call reports the numbers of a station's TID from the old B to the new one, and its agreement stays
pub record IsTold (station tid : ℕ) (w after : World) (a : Answer) : Type 0 where
  pub told : Covers (reordering_of w station tid).start (reordering_of after station tid).start
      (told_by station tid a)
  pub kept : IsAgreed station tid after

-- if the reordering does not change, nothing is reported
stays : (station tid : ℕ) (w after : World) (a : Answer) →
    reordering_of after station tid ≡ reordering_of w station tid → IsAgreed station tid after →
    told_by station tid a ≡ [] → IsTold station tid w after a
stays station tid w after a same kept none = record {
  told = subst (Covers (reordering_of w station tid).start (reordering_of after station tid).start) (sym none)
      (ap (λ (r : Reordering). r.start) (sym same));
  kept = kept;
}

pub still_open : (s u : ℕ) (rates : List (Option Rate)) (rate : Rate) → is_some (get_or rates s None) ≡ true →
    is_some (get_or (set rates u (Some rate)) s None) ≡ true
still_open s u rates rate live =
    elim (same_or_not s u) [
      | inl same ↦
          let within = some_within rates s live in
          ap (λ n. is_some (get_or (set rates n (Some rate)) s None)) (sym same)
          ∙ ap is_some (get_or-set_same rates s (Some rate) None within)
      | inr differ ↦ ap is_some (get_or-set_other rates u s (Some rate) None differ) ∙ live
    ]

-- a delivery for a TID whose reordering has the outcome
delivered : (station tid s t new : ℕ) (w after : World) (d : Delivery) (o : ReorderingOutcome) →
    tid < tids_of_station → t < tids_of_station → IsAgreed station tid after →
    place_of s t < length w.reorderings → after.reorderings ≡ set w.reorderings (place_of s t) o.after →
    d.station ≡ s → d.tid ≡ t → d.passed ≡ o.passed → IsFair new (reordering_of w s t) o → (a : Answer) →
    delivery_in a ≡ Some d →
    IsTold station tid w after a
delivered station tid s t new w after d o tid8 t8 kept within list at_s at_t its fair a is = record {
  told = subst (Covers (reordering_of w station tid).start (reordering_of after station tid).start)
      (sym (ap (told_in station tid) is))
      (choose (Covers (reordering_of w station tid).start (reordering_of after station tid).start)
      ((d.station == station) && (d.tid == tid)) d.passed [] here elsewhere);
  kept = kept;
}
  where
    before : Reordering
    before = unopened

    here : ((d.station == station) && (d.tid == tid)) ≡ true →
        Covers (reordering_of w station tid).start (reordering_of after station tid).start d.passed
    here e =
        let parts = both (d.station == station) (d.tid == tid) e in
        let same_s : s ≡ station = let p = parts.0 in grind (arith, nat_tests, p, at_s) in
        let same_t : t ≡ tid = let p = parts.1 in grind (arith, nat_tests, p, at_t) in
        let now_at : reordering_of after s t ≡ o.after =
        ap (λ (rs : List Reordering). get_or rs (place_of s t) before) list
        ∙ get_or-set_same w.reorderings (place_of s t) o.after before within in
        subst (λ n. Covers (reordering_of w n tid).start (reordering_of after n tid).start d.passed) same_s
        (subst (λ n. Covers (reordering_of w s n).start (reordering_of after s n).start d.passed) same_t
        (subst (λ (r : Reordering). Covers (reordering_of w s t).start r.start d.passed) (sym now_at)
        (subst (Covers (reordering_of w s t).start o.after.start) (sym its) fair.told)))

    elsewhere : ((d.station == station) && (d.tid == tid)) ≡ false →
        Covers (reordering_of w station tid).start (reordering_of after station tid).start []
    elsewhere e =
        let other : place_of station tid ≢ place_of s t = λ same.
        (let one = same_station station tid s t tid8 t8 same in
        let two = same_tid station tid s t tid8 t8 same in
        grind (arith, nat_tests, e, one, two, at_s, at_t)) in
        ap (λ (r : Reordering). r.start)
        (sym (ap (λ (rs : List Reordering). get_or rs (place_of station tid) before) list
        ∙ get_or-set_other w.reorderings (place_of s t) (place_of station tid) o.after before other))

open_told : (station tid s window start : ℕ) (w : World) (f : Option OpenFault) → tid < tids_of_station →
    IsAgreed station tid w → open_fault s window start w ≡ f →
    IsTold station tid w (after_open f s window start w) (open_answer f)
open_told station tid s window start w None tid8 kept e =
    let x = opening s window start w e in
    let differ : station ≢ s = λ same. not_none (rate_of w station) kept.live
    (ap (λ n. rate_of w n) same ∙ x.shut) in
    stays station tid w (opened s window start w) Opened
    (begun_other tids_of_station s window start (place_of station tid) w.reorderings unopened
    (λ t below same. differ (same_station station tid s t tid8 below same)))
    (record {
      live = still_open station s w.rates lowest_rate kept.live;
      agreed = ap is_plain_side (sided_other tids_of_station s (place_of station tid)
          (Agreed (empty_board start window)) w.sides unopened_side
          (λ t below same. differ (same_station station tid s t tid8 below same)))
          ∙ kept.agreed;
    }) refl
open_told station tid s window start w (Some fault) tid8 kept e =
    stays station tid w w (NotOpened fault) refl kept refl

open_plain_told : (station tid s : ℕ) (w : World) (f : Option OpenFault) → tid < tids_of_station →
    IsAgreed station tid w → open_plain_fault s w ≡ f →
    IsTold station tid w (after_open_plain f s w) (open_answer f)
open_plain_told station tid s w None tid8 kept e =
    let x = opening_plain s w e in
    let differ : station ≢ s = λ same. not_none (rate_of w station) kept.live
    (ap (λ n. rate_of w n) same ∙ x.shut) in
    stays station tid w (plain_opened s w) Opened refl
    (record {
      live = still_open station s w.rates lowest_rate kept.live;
      agreed = ap is_plain_side (sided_other tids_of_station s (place_of station tid) (Plain None) w.sides
          unopened_side (λ t below same. differ (same_station station tid s t tid8 below same)))
          ∙ kept.agreed;
    }) refl
open_plain_told station tid s w (Some fault) tid8 kept e =
    stays station tid w w (NotOpened fault) refl kept refl

-- a change of one side that keeps its kind
same_kinds : (sides : List SideValue) (i j : ℕ) (f : SideValue → SideValue) (d : SideValue) →
    ((side : SideValue) → is_plain_side (f side) ≡ is_plain_side side) →
    is_plain_side (get_or (set sides i (f (get_or sides i d))) j d) ≡ is_plain_side (get_or sides j d)
same_kinds [] i j f d keeps = refl
same_kinds (x ∷ xs) zero zero f d keeps = keeps x
same_kinds (x ∷ xs) zero (suc j) f d keeps = refl
same_kinds (x ∷ xs) (suc i) zero f d keeps = refl
same_kinds (x ∷ xs) (suc i) (suc j) f d keeps = same_kinds xs i j f d keeps

after_keeps : (n : ℕ) (side : SideValue) → is_plain_side (side_after n side) ≡ is_plain_side side
after_keeps n (Agreed board) = refl
after_keeps n (Plain last) = refl

asked_keeps : (n : ℕ) (side : SideValue) → is_plain_side (side_asked n side) ≡ is_plain_side side
asked_keeps n (Agreed board) = refl
asked_keeps n (Plain last) = refl

-- an accepted frame changes no rate and no side
pub accepted_rates : (side : SideValue) (place : ℕ) (retry : Bool) (bits : ℕ) (w : World) →
    (accepted side place retry bits w).rates ≡ w.rates
accepted_rates (Agreed board) place retry bits w = refl
accepted_rates (Plain last) place retry bits w = refl

pub accepted_sides : (side : SideValue) (place : ℕ) (retry : Bool) (bits : ℕ) (w : World) →
    (accepted side place retry bits w).sides ≡ w.sides
accepted_sides (Agreed board) place retry bits w = refl
accepted_sides (Plain last) place retry bits w = refl

-- a frame, by its TID's side
abbrev pub received_by : SideValue → List ℕ → World → World
received_by side octets w =
    recorded (place_of_frame octets) (sequence_of octets)
    (accepted side (place_of_frame octets) (retry_of octets) (sequence_of octets) w)

abbrev pub delivery_by : SideValue → List ℕ → World → Delivery
delivery_by side octets w = record {
  station = sender_of octets;
  tid = tid_in_control octets;
  air = frame_air_of side (rate_of w (sender_of octets)) octets;
  old = is_old side (place_of_frame octets) (retry_of octets) (sequence_of octets) w;
  ack = is_plain_side side;
  passed = passed_for side (place_of_frame octets) (retry_of octets) (sequence_of octets) w;
}

received_kept : (station tid : ℕ) (side : SideValue) (octets : List ℕ) (w : World) → IsAgreed station tid w →
    IsAgreed station tid (received_by side octets w)
received_kept station tid side octets w kept =
    let place : ℕ = place_of_frame octets in
    let bits : ℕ = sequence_of octets in
    let sides = accepted_sides side place (retry_of octets) bits w in
    record {
      live = ap (λ (rs : List (Option Rate)). is_some (get_or rs station None))
          (accepted_rates side place (retry_of octets) bits w) ∙ kept.live;
      agreed = ap (λ (ss : List SideValue).
          is_plain_side (get_or (set ss place (side_after bits (get_or ss place unopened_side)))
          (place_of station tid) unopened_side)) sides
          ∙ same_kinds w.sides place (place_of station tid) (side_after bits) unopened_side (after_keeps bits)
          ∙ kept.agreed;
    }

-- a delivery for another TID
pub told_elsewhere : (station tid : ℕ) (d : Delivery) → ((d.station == station) && (d.tid == tid)) ≡ false →
    told_in station tid (Some d) ≡ []
told_elsewhere station tid d other = choose (λ (ps : List Passed). ps ≡ [])
    ((d.station == station) && (d.tid == tid)) d.passed []
    (λ same. absurd (let both_are = sym same ∙ other in grind (arith, both_are))) (λ _. refl)

plain_differs : (station tid : ℕ) (last : Option ℕ) (octets : List ℕ) (w : World) →
    IsAgreed station tid w → side_of_frame octets w ≡ Plain last → (b : Bool) →
    ((sender_of octets == station) && (tid_in_control octets == tid)) ≡ b → b ≡ false
plain_differs station tid last octets w kept is false e = refl
plain_differs station tid last octets w kept is true e =
    let parts = both (sender_of octets == station) (tid_in_control octets == tid) e in
    let same_s : sender_of octets ≡ station = let p = parts.0 in grind (arith, nat_tests, p) in
    let same_t : tid_in_control octets ≡ tid = let p = parts.1 in grind (arith, nat_tests, p) in
    let plain : is_plain_side (tid_side w station tid) ≡ true =
    ap₂ (λ n m. is_plain_side (tid_side w n m)) (sym same_s) (sym same_t) ∙ ap is_plain_side is in
    absurd (let agreed = kept.agreed in grind (arith, plain, agreed))

frame_told : (station tid : ℕ) (octets : List ℕ) (w : World) (side : SideValue) → IsSound w →
    tid < tids_of_station → IsAgreed station tid w → IsTaken octets w → side_of_frame octets w ≡ side →
    IsTold station tid w (received_by side octets w) (Received (delivery_by side octets w))
frame_told station tid octets w (Agreed board) sound tid8 kept x is =
    let s : ℕ = sender_of octets in
    let t : ℕ = tid_in_control octets in
    delivered station tid s t 1 w (received_by (Agreed board) octets w) (delivery_by (Agreed board) octets w)
    (arrival_outcome (place_of s t) (sequence_of octets) w) tid8 x.tid
    (received_kept station tid (Agreed board) octets w kept)
    (place_within w sound s t x.tid x.live) refl refl refl refl
    (arrived_fair _ _ _ (reordering_of w s t) (sound.orderly (place_of s t)))
    (Received (delivery_by (Agreed board) octets w)) refl
frame_told station tid octets w (Plain last) sound tid8 kept x is =
    stays station tid w (received_by (Plain last) octets w)
    (Received (delivery_by (Plain last) octets w)) refl
    (received_kept station tid (Plain last) octets w kept)
    (told_elsewhere station tid (delivery_by (Plain last) octets w)
    (plain_differs station tid last octets w kept is
    ((sender_of octets == station) && (tid_in_control octets == tid)) refl))

receive_told : (station tid : ℕ) (octets : List ℕ) (w : World) (f : Option UplinkFault) → IsSound w →
    tid < tids_of_station → IsAgreed station tid w → receive_fault octets w ≡ f →
    IsTold station tid w (after_receive f octets w) (receive_answer f octets w)
receive_told station tid octets w None sound tid8 kept e =
    frame_told station tid octets w (side_of_frame octets w) sound tid8 kept (taken octets w e) refl
receive_told station tid octets w (Some fault) sound tid8 kept e =
    stays station tid w w (NotReceived fault) refl kept refl

request_told : (station tid : ℕ) (octets : List ℕ) (w : World) (f : Option RequestFault) → IsSound w →
    tid < tids_of_station → IsAgreed station tid w → first_request_fault octets w ≡ f →
    IsTold station tid w (after_request f octets w) (request_answer f octets w)
request_told station tid octets w None sound tid8 kept e =
    let x = asked octets w e in
    let s : ℕ = sender_of octets in
    let t : ℕ = request_tid octets in
    let bits : ℕ = request_start octets in
    delivered station tid s t 0 w (requested octets w) (request_delivery octets w)
    (asked_outcome (place_of s t) bits w) tid8 x.tid
    (record {
      live = kept.live;
      agreed = same_kinds w.sides (place_of s t) (place_of station tid) (side_asked bits) unopened_side
          (asked_keeps bits)
          ∙ kept.agreed;
    })
    (place_within w sound s t x.tid x.live) refl refl refl refl
    (requested_fair _ _ (reordering_of w s t) (sound.orderly (place_of s t)))
    (Requested (request_delivery octets w) (board_shown octets w)) refl
request_told station tid octets w (Some fault) sound tid8 kept e =
    stays station tid w w (NotRequested fault) refl kept refl

pub parts_of : (place : ℕ) → place ≡ place_of (place / tids_of_station) (place % tids_of_station)
parts_of place = omega arith

expire_told : (station tid : ℕ) (w : World) (o : Option ℕ) → IsSound w → tid < tids_of_station →
    IsAgreed station tid w → first_due w ≡ o →
    IsTold station tid w (after_expire o w) (expire_answer o w)
expire_told station tid w None sound tid8 kept e = stays station tid w w NoneDue refl kept refl
expire_told station tid w (Some place) sound tid8 kept e =
    let x = expiring place w e in
    let same : place ≡ place_of (place / tids_of_station) (place % tids_of_station) = parts_of place in
    delivered station tid (place / tids_of_station) (place % tids_of_station) 0 w (expired_at place w)
    (timeout_of place w) (timeout_outcome place w) tid8 (omega arith)
    (record { live = kept.live; agreed = kept.agreed })
    (subst (λ n. n < length w.reorderings) same x.within)
    (ap (λ n. set w.reorderings n (timeout_outcome place w).after) same) refl refl refl
    (subst (λ n. IsFair 0 (reordering_at w n) (timeout_outcome place w)) same
    (timed_out_fair w.clock (reordering_at w place) (sound.orderly place)))
    (TimedOut (timeout_of place w)) refl

call_told : (station tid : ℕ) (call : Call) (w : World) → IsSound w → tid < tids_of_station →
    IsAgreed station tid w → IsTold station tid w (after_call call w) (answer call w)
unfolding after_call
call_told station tid (Open s window start) w sound tid8 kept =
    open_told station tid s window start w (open_fault s window start w) tid8 kept refl
call_told station tid (OpenPlain s) w sound tid8 kept =
    open_plain_told station tid s w (open_plain_fault s w) tid8 kept refl
call_told station tid (SetRate s rate) w sound tid8 kept =
    choose_both (λ (v : World) (a : Answer). IsTold station tid w v a) (is_open w s)
    (record w { rates = set w.rates s (Some rate) }) w Set NotSet
    (λ _. stays station tid w (record w { rates = set w.rates s (Some rate) }) Set refl
    (record { live = still_open station s w.rates rate kept.live; agreed = kept.agreed }) refl)
    (λ _. stays station tid w w NotSet refl kept refl)
call_told station tid (Receive octets) w sound tid8 kept =
    receive_told station tid octets w (receive_fault octets w) sound tid8 kept refl
call_told station tid (Request octets) w sound tid8 kept =
    request_told station tid octets w (first_request_fault octets w) sound tid8 kept refl
call_told station tid (Tick by) w sound tid8 kept =
    stays station tid w (record w { clock = w.clock + by }) (Now (w.clock + by)) refl
    (record { live = kept.live; agreed = kept.agreed }) refl
call_told station tid Expire w sound tid8 kept = expire_told station tid w (first_due w) sound tid8 kept refl

pub calls_told : (station tid : ℕ) (calls : List Call) (w : World) → IsSound w → tid < tids_of_station →
    IsAgreed station tid w →
    Covers (reordering_of w station tid).start (reordering_of (after_calls w calls) station tid).start
    (all_told station tid w calls)
unfolding after_calls answers
calls_told station tid [] w sound tid8 kept = refl
calls_told station tid (call ∷ later) w sound tid8 kept =
    let next : World = after_call call w in
    let one = call_told station tid call w sound tid8 kept in
    covers_append (reordering_of w station tid).start (reordering_of next station tid).start
    (reordering_of (after_calls next later) station tid).start
    (told_by station tid (answer call w)) (all_told station tid next later) one.told
    (calls_told station tid later next (call_sound call w sound) tid8 one.kept)

pub after_both : (w : World) (before later : List Call) →
    after_calls w (before ++ later) ≡ after_calls (after_calls w before) later
unfolding after_calls
after_both w [] later = refl
after_both w (call ∷ before) later = after_both (after_call call w) before later

tid_law_from : (w : World) (station tid first : ℕ) (calls : List Call) →
    Covers first (reordering_of (after_calls w calls) station tid).start (all_told station tid w calls) →
    TidLaw w station tid first calls
tid_law_from w station tid first calls told = record {
  in_order = told;
  rises = covers_rises first (reordering_of (after_calls w calls) station tid).start
      (all_told station tid w calls) told;
  each_once = λ n least below. each_once first (reordering_of (after_calls w calls) station tid).start n
      (all_told station tid w calls) told least below;
  no_other = λ n out. no_other first (reordering_of (after_calls w calls) station tid).start n
      (all_told station tid w calls) told out;
}

pub no_open_fault : (f : Option OpenFault) → open_answer f ≡ Opened → f ≡ None
no_open_fault None e = refl
no_open_fault (Some fault) e = absurd (grind (arith, e))

pub after_one : (call : Call) (w : World) → after_calls w (call ∷ []) ≡ after_call call w
unfolding after_calls
after_one call w = refl

after_opening : (station window start : ℕ) (w : World) → open_fault station window start w ≡ None →
    after_call (Open station window start) w ≡ opened station window start w
unfolding after_call
after_opening station window start w e = ap (λ f. after_open f station window start w) e

pub tids_told : (stations : ℕ) (before later : List Call) (station window start tid : ℕ) → tid < 8 →
    answer (Open station window start) (after_calls (new_world stations) before) ≡ Opened →
    TidLaw (after_calls (new_world stations) (before ++ Open station window start ∷ [])) station tid start
    later
tids_told stations before later station window start tid tid8 opens =
    let w : World = after_calls (new_world stations) before in
    let sound : IsSound w = calls_sound before (new_world stations) (new_sound stations) in
    let e = no_open_fault (open_fault station window start w) opens in
    let x = opening station window start w e in
    let v : World = opened station window start w in
    let there : after_calls (new_world stations) (before ++ Open station window start ∷ []) ≡ v =
    after_both (new_world stations) before (Open station window start ∷ [])
    ∙ after_one (Open station window start) w ∙ after_opening station window start w e in
    let fits : place_of station tids_of_station ≤ length w.reorderings = let within = x.within in
    let size = sound.size in omega (arith, within, size) in
    let first : (reordering_of v station tid).start ≡ start =
    ap (λ (r : Reordering). r.start) (begun_here tids_of_station station window start tid w.reorderings
    unopened tid8 (omega arith) fits) in
    let kept : IsAgreed station tid v = record {
      live = ap is_some (get_or-set_same w.rates station (Some lowest_rate) None x.within);
      agreed = ap is_plain_side (sided_here tids_of_station station tid (Agreed (empty_board start window))
          w.sides unopened_side tid8 (omega arith) (let sides = sound.sides in omega (arith, fits, sides)));
    } in
    subst (λ (u : World). TidLaw u station tid start later) (sym there)
    (tid_law_from v station tid start later
    (subst (λ n. Covers n (reordering_of (after_calls v later) station tid).start
    (all_told station tid v later)) first
    (calls_told station tid later v (subst IsSound there
    (calls_sound (before ++ Open station window start ∷ []) (new_world stations) (new_sound stations)))
    tid8 kept)))

-- ---- the totals

-- the amounts that one call adds to the totals
pub record IsCounted (w after : World) (a : Answer) : Type 0 where
  pub frames : after.frames ≡ w.frames + accepted_by a
  pub up : after.up ≡ w.up + released_by a
  pub old : after.back ≡ w.back + old_by a
  pub missing : after.missing ≡ w.missing + given_up_by a

open_counted : (s window start : ℕ) (w : World) (f : Option OpenFault) →
    IsCounted w (after_open f s window start w) (open_answer f)
open_counted s window start w None = record {
  frames = omega arith;
  up = omega arith;
  old = omega arith;
  missing = omega arith;
}
open_counted s window start w (Some fault) = record {
  frames = omega arith;
  up = omega arith;
  old =
      omega arith;
  missing = omega arith;
}

open_plain_counted : (s : ℕ) (w : World) (f : Option OpenFault) →
    IsCounted w (after_open_plain f s w) (open_answer f)
open_plain_counted s w None = record {
  frames = omega arith;
  up = omega arith;
  old = omega arith;
  missing = omega arith;
}
open_plain_counted s w (Some fault) = record {
  frames = omega arith;
  up = omega arith;
  old = omega arith;
  missing = omega arith;
}

plain_up : (repeat : Bool) (id number : ℕ) →
    count_of (not repeat) ≡ released_in (plain_passed repeat id number)
plain_up true id number = refl
plain_up false id number = refl

plain_no_gap : (repeat : Bool) (id number : ℕ) → given_up_in (plain_passed repeat id number) ≡ 0
plain_no_gap true id number = refl
plain_no_gap false id number = refl

frame_counted : (octets : List ℕ) (w : World) (side : SideValue) →
    IsCounted w (received_by side octets w) (Received (delivery_by side octets w))
frame_counted octets w (Agreed board) = record { frames = refl; up = refl; old = refl; missing = refl }
frame_counted octets w (Plain last) =
    let repeat : Bool = is_repeat last (retry_of octets) (sequence_of octets) in
    let none = plain_no_gap repeat w.frames (sequence_of octets) in
    record {
      frames = refl;
      up = ap (λ n. w.up + n) (plain_up repeat w.frames (sequence_of octets));
      old = refl;
      missing = omega (arith, none);
    }

receive_counted : (octets : List ℕ) (w : World) (f : Option UplinkFault) →
    IsCounted w (after_receive f octets w) (receive_answer f octets w)
receive_counted octets w None = frame_counted octets w (side_of_frame octets w)
receive_counted octets w (Some fault) = record {
  frames = omega arith;
  up = omega arith;
  old = omega arith;
  missing = omega arith;
}

pub timed_out_old : (now : ℕ) (place : ℕ) (w : World) → (timeout_outcome place w).old ≡ false
timed_out_old now place w = waiting_old
  where
    waiting_old : (timeout_outcome place w).old ≡ false
    waiting_old = choose (λ (o : ReorderingOutcome). o.old ≡ false) _ _ _ (λ _. refl) (λ _. refl)

-- a request is no frame
start_old : (n : Option ℕ) (now : ℕ) (r : Reordering) → (start_arrived n now r).old ≡ false
start_old None now r = refl
start_old (Some n) now r = choose (λ (o : ReorderingOutcome). o.old ≡ false) (nat_lt r.start n)
    (waiting now r (moved_to n r)) (unmoved r)
    (λ _. choose (λ (o : ReorderingOutcome). o.old ≡ false) _ _ _ (λ _. refl) (λ _. refl)) (λ _. refl)

pub request_old : (place bits : ℕ) (w : World) → (asked_outcome place bits w).old ≡ false
request_old place bits w =
    start_old (number_read bits (reordering_at w place).start) w.clock (reordering_at w place)

request_counted : (octets : List ℕ) (w : World) (f : Option RequestFault) →
    IsCounted w (after_request f octets w) (request_answer f octets w)
request_counted octets w None = record {
  frames = omega arith;
  up = refl;
  old = ap (λ b. w.back + count_of b) (request_old (place_of_request octets) (request_start octets) w);
  missing = refl;
}
request_counted octets w (Some fault) = record {
  frames = omega arith;
  up = omega arith;
  old = omega arith;
  missing = omega arith;
}

expire_counted : (w : World) (o : Option ℕ) → IsCounted w (after_expire o w) (expire_answer o w)
expire_counted w None = record {
  frames = omega arith;
  up = omega arith;
  old = omega arith;
  missing =
      omega arith;
}
expire_counted w (Some place) = record {
  frames = omega arith;
  up = refl;
  old =
      ap (λ b. w.back + count_of b) (timed_out_old w.clock place w);
  missing = refl;
}

call_counted : (call : Call) (w : World) → IsCounted w (after_call call w) (answer call w)
unfolding after_call
call_counted (Open s window start) w = open_counted s window start w (open_fault s window start w)
call_counted (OpenPlain s) w = open_plain_counted s w (open_plain_fault s w)
call_counted (SetRate s rate) w =
    choose_both (λ (v : World) (a : Answer). IsCounted w v a) (is_open w s)
    (record w { rates = set w.rates s (Some rate) }) w Set NotSet
    (λ _. record { frames = omega arith; up = omega arith; old = omega arith; missing = omega arith })
    (λ _. record { frames = omega arith; up = omega arith; old = omega arith; missing = omega arith })
call_counted (Receive octets) w = receive_counted octets w (receive_fault octets w)
call_counted (Request octets) w = request_counted octets w (first_request_fault octets w)
call_counted (Tick by) w = record {
  frames = omega arith;
  up = omega arith;
  old = omega arith;
  missing =
      omega arith;
}
call_counted Expire w = expire_counted w (first_due w)

pub record AreCounted (w after : World) (all : List Answer) : Type 0 where
  pub frames : after.frames ≡ w.frames + sum_by accepted_by all
  pub up : after.up ≡ w.up + sum_by released_by all
  pub old : after.back ≡ w.back + sum_by old_by all
  pub missing : after.missing ≡ w.missing + sum_by given_up_by all

chained : (count : Answer → ℕ) (a b c : ℕ) (first : Answer) (later : List Answer) → b ≡ a + count first →
    c ≡ b + sum_by count later → c ≡ a + sum_by count (first ∷ later)
chained count a b c first later e f = let parts = sum_by-cons count first later in omega (arith, e, f, parts)

calls_counted : (calls : List Call) (w : World) → AreCounted w (after_calls w calls) (answers w calls)
unfolding after_calls answers
calls_counted [] w = record {
  frames = omega arith;
  up = omega arith;
  old = omega arith;
  missing =
      omega arith;
}
calls_counted (call ∷ later) w =
    let next : World = after_call call w in
    let last : World = after_calls next later in
    let one = call_counted call w in
    let rest = calls_counted later next in
    record {
      frames = chained accepted_by w.frames next.frames last.frames (answer call w)
          (answers next later) one.frames rest.frames;
      up = chained released_by w.up next.up last.up (answer call w) (answers next later) one.up rest.up;
      old = chained old_by w.back next.back last.back (answer call w) (answers next later) one.old rest.old;
      missing = chained given_up_by w.missing next.missing last.missing (answer call w)
          (answers next later) one.missing rest.missing;
    }

from_none : (a b : ℕ) → a ≡ 0 + b → a ≡ b
from_none a b e = omega (arith, e)

pub totals : (stations : ℕ) (calls : List Call) → TotalsLaw stations calls
totals stations calls =
    let w : World = new_world stations in
    let all = calls_counted calls w in
    record {
      each_frame = (calls_sound calls w (new_sound stations)).each_frame;
      frames = from_none (after_calls w calls).frames (sum_by accepted_by (answers w calls)) all.frames;
      up = from_none (after_calls w calls).up (sum_by released_by (answers w calls)) all.up;
      old = from_none (after_calls w calls).back (sum_by old_by (answers w calls)) all.old;
      missing = from_none (after_calls w calls).missing (sum_by given_up_by (answers w calls)) all.missing;
    }

-- ---- the charge

charged : (octets : List ℕ) (w : World) (f : Option UplinkFault) (d : Delivery) → receive_fault octets w ≡ f →
    receive_answer f octets w ≡ Received d → IsCharged w octets d
charged octets w (Some fault) d e is = absurd (grind (arith, is))
charged octets w None d e is =
    let x = taken octets w e in
    subst (IsCharged w octets) (same is) (at_rate (rate_of w (sender_of octets)) refl x.live)
  where
    same : Received (delivery_of octets w) ≡ Received d → delivery_of octets w ≡ d
    same p = grind (arith, p)

    by_side : (side : SideValue) (rate : Rate) →
        frame_air_of side (Some rate) octets ≡ frame_charge side rate octets
    by_side (Agreed board) rate = refl
    by_side (Plain last) rate = refl

    at_rate : (o : Option Rate) → rate_of w (sender_of octets) ≡ o → is_some o ≡ true →
        IsCharged w octets (delivery_of octets w)
    at_rate None p live = absurd (grind (arith, live))
    at_rate (Some rate) p live = (
      rate,
      p,
      ap (λ o. frame_air_of (side_of_frame octets w) o octets) p
          ∙ by_side (side_of_frame octets w) rate,
    )

pub charges : (stations : ℕ) (calls : List Call) (octets : List ℕ) (d : Delivery) →
    answer (Receive octets) (after_calls (new_world stations) calls) ≡ Received d →
    IsCharged (after_calls (new_world stations) calls) octets d
charges stations calls octets d is =
    charged octets (after_calls (new_world stations) calls)
    (receive_fault octets (after_calls (new_world stations) calls)) d refl is

request_charged : (octets : List ℕ) (w : World) (f : Option RequestFault) (d : Delivery) (board : Board) →
    first_request_fault octets w ≡ f → request_answer f octets w ≡ Requested d board →
    IsRequestCharged w d board
request_charged octets w (Some fault) d board e is = absurd (grind (arith, is))
request_charged octets w None d board e is =
    let x = asked octets w e in
    subst (λ (b : Board). IsRequestCharged w d b) (same_board is)
    (subst (λ (v : Delivery). IsRequestCharged w v (board_shown octets w)) (same_delivery is)
    (at_rate (rate_of w (sender_of octets)) refl x.live))
  where
    same_delivery : Requested (request_delivery octets w) (board_shown octets w) ≡ Requested d board →
        request_delivery octets w ≡ d
    same_delivery p = grind (arith, p)

    same_board : Requested (request_delivery octets w) (board_shown octets w) ≡ Requested d board →
        board_shown octets w ≡ board
    same_board p = grind (arith, p)

    at_rate : (o : Option Rate) → rate_of w (sender_of octets) ≡ o → is_some o ≡ true →
        IsRequestCharged w (request_delivery octets w) (board_shown octets w)
    at_rate None p live = absurd (grind (arith, live))
    at_rate (Some rate) p live = (rate, p, ap (λ o. request_air_of o (board_shown octets w)) p)

pub request_charges : (stations : ℕ) (calls : List Call) (octets : List ℕ) (d : Delivery) (board : Board) →
    answer (Request octets) (after_calls (new_world stations) calls) ≡ Requested d board →
    IsRequestCharged (after_calls (new_world stations) calls) d board
request_charges stations calls octets d board is =
    request_charged octets (after_calls (new_world stations) calls)
    (first_request_fault octets (after_calls (new_world stations) calls)) d board refl is
