-- Proves the law of TIDs without an agreement, by induction on the list of calls.
use Rattle.std.proofs.Common.{◌≡◌, ℕ, ◌+◌, ◌/◌, ◌%◌, ◌<◌, ◌≤◌, ◌≢◌, ◌==◌, ◌&&◌, Bool, true, false, ◌⊎◌, inl, inr, List, [], ◌∷◌, ◌++◌, length, get_or, set, Option, Some, None, is_some, refl, sym, ◌∙◌, ap, ap₂, subst, arith}
use Rattle.std.proofs.lemmas.Bool.Decides.{nat_tests}
use Rattle.std.proofs.lemmas.List.{get_or-set_same, get_or-set_other}
use Rattle.wf_def_air.specs.Airtime.{Rate, lowest_rate}
use Rattle.wf_recv_peer.specs.Board.{empty_board}
use Rattle.wf_recv_peer.specs.Plain.{is_repeat, retry_of}
use Rattle.wf_uplink.specs.declared.fault.OpenFault.{OpenFault}
use Rattle.wf_uplink.specs.declared.fault.UplinkFault.{UplinkFault}
use Rattle.wf_uplink.specs.declared.fault.RequestFault.{RequestFault}
use Rattle.wf_uplink.specs.Frames.{sender_of, tid_in_control, sequence_of}
use Rattle.wf_uplink.specs.Requests.{request_tid, request_start}
use Rattle.wf_uplink.specs.Reordering.{Reordering, Passed, Released, unopened}
use Rattle.wf_uplink.specs.Sides.{SideValue, Agreed, Plain, unopened_side, is_plain_side, side_after, side_asked}
use Rattle.wf_uplink.specs.World.{World, Delivery, Call, Open, OpenPlain, SetRate, Receive, Request, Tick, Expire, Answer, Opened, NotOpened, Set, NotSet, Received, NotReceived, Requested, NotRequested, Now, TimedOut, NoneDue, new_world, rate_of, is_open, place_of, tids_of_station, reordering_at, reordering_of, place_side, tid_side, open_fault, open_plain_fault, opened, plain_opened, receive_fault, first_request_fault, given_up_in, place_of_frame, side_of_frame, arrival_outcome, plain_passed, accepted, delivery_of, asked_outcome, requested, request_delivery, board_shown, first_due, timeout_outcome, expired_at, timeout_of, open_answer, receive_answer, request_answer, expire_answer, answer, after_open, after_open_plain, after_receive, after_request, after_expire, after_call, after_calls, answers}
use Rattle.wf_uplink.specs.Laws.{RisesFrom, PlainLaw, told_in, told_by, all_told, released_ids, last_released}
use Rattle.wf_uplink.specs.Soundness.{IsSound}
use Rattle.wf_uplink.proofs.Told.{rises_from_less}
use Rattle.wf_uplink.proofs.Moves.{choose, choose_both}
use Rattle.wf_uplink.proofs.Worlds.{taken, asked, expiring, due_stores, opening, opening_plain, begun_other, sided_other, sided_here, same_station, same_tid, place_within, new_sound, call_sound, calls_sound, not_none, both}
use Rattle.wf_uplink.proofs.Calls.{received_by, delivery_by, accepted_rates, accepted_sides, told_elsewhere, still_open, no_open_fault, after_both, after_one, parts_of}

-- a station is open, and its TID has no agreement; `last` is the number that was released last
pub record IsServed (station tid : ℕ) (last : Option ℕ) (w : World) : Type 0 where
  pub live : is_open w station ≡ true
  pub side : tid_side w station tid ≡ Plain last
  pub none : (reordering_of w station tid).stored ≡ []

-- one call reports nothing of the TID
pub record IsSilent (station tid : ℕ) (last : Option ℕ) (w after : World) (a : Answer) : Type 0 where
  pub told : told_by station tid a ≡ []
  pub served : IsServed station tid last after
  pub frames : w.frames ≤ after.frames

-- or it releases the frame that arrived, whose number is n
pub record IsPassing (station tid n : ℕ) (w after : World) (a : Answer) : Type 0 where
  pub told : told_by station tid a ≡ Released w.frames n ∷ []
  pub served : IsServed station tid (Some n) after
  pub frames : after.frames ≡ w.frames + 1

pub data Step (station tid : ℕ) (last : Option ℕ) (w after : World) (a : Answer) : Type 0 where
  Silent : IsSilent station tid last w after a → Step station tid last w after a
  Passing : (n : ℕ) → IsPassing station tid n w after a → Step station tid last w after a

-- a call that changes nothing of the TID, and reports nothing of it
quiet : (station tid : ℕ) (last : Option ℕ) (w after : World) (a : Answer) →
    IsServed station tid last after → told_by station tid a ≡ [] → w.frames ≤ after.frames →
    Step station tid last w after a
quiet station tid last w after a served told frames =
    Silent (record { told = told; served = served; frames = frames })

same_frames : (n : ℕ) → n ≤ n
same_frames n = omega arith

open_step : (station tid : ℕ) (last : Option ℕ) (s window start : ℕ) (w : World) (f : Option OpenFault) →
    tid < tids_of_station → IsServed station tid last w → open_fault s window start w ≡ f →
    Step station tid last w (after_open f s window start w) (open_answer f)
open_step station tid last s window start w None tid8 served e =
    let x = opening s window start w e in
    let differ : station ≢ s = λ same. not_none (rate_of w station) served.live
    (ap (λ n. rate_of w n) same ∙ x.shut) in
    let other : (t : ℕ) → t < tids_of_station → place_of station tid ≢ place_of s t =
    λ t below same. differ (same_station station tid s t tid8 below same) in
    quiet station tid last w (opened s window start w) Opened
    (record {
      live = still_open station s w.rates lowest_rate served.live;
      side = sided_other tids_of_station s (place_of station tid) (Agreed (empty_board start window)) w.sides
          unopened_side other ∙ served.side;
      none = ap (λ (r : Reordering). r.stored)
          (begun_other tids_of_station s window start (place_of station tid) w.reorderings unopened other)
          ∙ served.none;
    }) refl (same_frames w.frames)
open_step station tid last s window start w (Some fault) tid8 served e =
    quiet station tid last w w (NotOpened fault) served refl (same_frames w.frames)

open_plain_step : (station tid : ℕ) (last : Option ℕ) (s : ℕ) (w : World) (f : Option OpenFault) →
    tid < tids_of_station → IsServed station tid last w → open_plain_fault s w ≡ f →
    Step station tid last w (after_open_plain f s w) (open_answer f)
open_plain_step station tid last s w None tid8 served e =
    let x = opening_plain s w e in
    let differ : station ≢ s = λ same. not_none (rate_of w station) served.live
    (ap (λ n. rate_of w n) same ∙ x.shut) in
    quiet station tid last w (plain_opened s w) Opened
    (record {
      live = still_open station s w.rates lowest_rate served.live;
      side = sided_other tids_of_station s (place_of station tid) (Plain None) w.sides unopened_side
          (λ t below same. differ (same_station station tid s t tid8 below same)) ∙ served.side;
      none = served.none;
    }) refl (same_frames w.frames)
open_plain_step station tid last s w (Some fault) tid8 served e =
    quiet station tid last w w (NotOpened fault) served refl (same_frames w.frames)

-- ---- a frame

-- the number of a repeat is the last one
repeat_same : (last : Option ℕ) (retry : Bool) (n : ℕ) → is_repeat last retry n ≡ true → Some n ≡ last
repeat_same None retry n e = absurd (grind (arith, e))
repeat_same (Some last) retry n e =
    let parts = both retry (last == n) e in
    let same : last ≡ n = let p = parts.1 in grind (arith, nat_tests, p) in
    ap Some (sym same)

more_frames : (side : SideValue) (place : ℕ) (retry : Bool) (bits : ℕ) (w : World) →
    (accepted side place retry bits w).frames ≡ w.frames + 1
more_frames (Agreed board) place retry bits w = refl
more_frames (Plain last) place retry bits w = refl

at_least : (a b : ℕ) → b ≡ a + 1 → a ≤ b
at_least a b e = omega (arith, e)

-- the reordering at another place does not change
accepted_other : (side : SideValue) (place other : ℕ) (retry : Bool) (bits : ℕ) (w : World) → other ≢ place →
    reordering_at (accepted side place retry bits w) other ≡ reordering_at w other
accepted_other (Agreed board) place other retry bits w differ =
    get_or-set_other w.reorderings place other (arrival_outcome place bits w).after unopened differ
accepted_other (Plain last) place other retry bits w differ = refl

-- the side at another place does not change
received_side : (side : SideValue) (octets : List ℕ) (w : World) (other : ℕ) →
    other ≢ place_of_frame octets → place_side (received_by side octets w) other ≡ place_side w other
received_side side octets w other differ =
    let place : ℕ = place_of_frame octets in
    let bits : ℕ = sequence_of octets in
    ap (λ (ss : List SideValue). get_or (set ss place (side_after bits (get_or ss place unopened_side))) other
    unopened_side) (accepted_sides side place (retry_of octets) bits w)
    ∙ get_or-set_other w.sides place other (side_after bits (place_side w place)) unopened_side differ

-- the side at the frame's place
received_here : (side : SideValue) (octets : List ℕ) (w : World) → place_of_frame octets < length w.sides →
    place_side (received_by side octets w) (place_of_frame octets)
    ≡ side_after (sequence_of octets) (place_side w (place_of_frame octets))
received_here side octets w within =
    let place : ℕ = place_of_frame octets in
    let bits : ℕ = sequence_of octets in
    ap (λ (ss : List SideValue). get_or (set ss place (side_after bits (get_or ss place unopened_side))) place
    unopened_side) (accepted_sides side place (retry_of octets) bits w)
    ∙ get_or-set_same w.sides place (side_after bits (place_side w place)) unopened_side within

received_live : (station : ℕ) (side : SideValue) (octets : List ℕ) (w : World) → is_open w station ≡ true →
    is_open (received_by side octets w) station ≡ true
received_live station side octets w live =
    ap (λ (rs : List (Option Rate)). is_some (get_or rs station None))
    (accepted_rates side (place_of_frame octets) (retry_of octets) (sequence_of octets) w) ∙ live

-- a frame of another TID
other_frame : (station tid : ℕ) (last : Option ℕ) (octets : List ℕ) (w : World) (side : SideValue) →
    IsServed station tid last w → place_of station tid ≢ place_of_frame octets →
    ((sender_of octets == station) && (tid_in_control octets == tid)) ≡ false →
    Step station tid last w (received_by side octets w) (Received (delivery_by side octets w))
other_frame station tid last octets w side served differ apart =
    quiet station tid last w (received_by side octets w) (Received (delivery_by side octets w))
    (record {
      live = received_live station side octets w served.live;
      side = received_side side octets w (place_of station tid) differ ∙ served.side;
      none = ap (λ (r : Reordering). r.stored) (accepted_other side (place_of_frame octets)
          (place_of station tid) (retry_of octets) (sequence_of octets) w differ)
          ∙ served.none;
    }) (told_elsewhere station tid (delivery_by side octets w) apart)
    (at_least w.frames (received_by side octets w).frames
    (more_frames side (place_of_frame octets) (retry_of octets) (sequence_of octets) w))

-- what a delivery of the TID reports
told_here : (station tid : ℕ) (d : Delivery) → ((d.station == station) && (d.tid == tid)) ≡ true →
    told_in station tid (Some d) ≡ d.passed
told_here station tid d same = choose (λ (ps : List Passed). ps ≡ d.passed)
    ((d.station == station) && (d.tid == tid)) d.passed []
    (λ _. refl) (λ other. absurd (let both_are = sym same ∙ other in grind (arith, both_are)))

-- a frame of the TID: a repeat, or one that is released
own_frame : (station tid : ℕ) (last : Option ℕ) (octets : List ℕ) (w : World) →
    IsServed station tid last w → place_of_frame octets < length w.sides →
    place_of station tid ≡ place_of_frame octets →
    ((sender_of octets == station) && (tid_in_control octets == tid)) ≡ true → (repeat : Bool) →
    is_repeat last (retry_of octets) (sequence_of octets) ≡ repeat →
    Step station tid last w (received_by (Plain last) octets w) (Received (delivery_by (Plain last) octets w))
own_frame station tid last octets w served within same here repeat is =
    by_repeat repeat is
  where
    bits : ℕ
    bits = sequence_of octets

    after : World
    after = received_by (Plain last) octets w

    d : Delivery
    d = delivery_by (Plain last) octets w

    now_last : tid_side after station tid ≡ Plain (Some bits)
    now_last = ap (place_side after) same ∙ received_here (Plain last) octets w within
        ∙ ap (side_after bits) (ap (place_side w) (sym same) ∙ served.side)

    told : (b : Bool) → is_repeat last (retry_of octets) bits ≡ b →
        told_in station tid (Some d) ≡ plain_passed b w.frames bits
    told b e = told_here station tid d here ∙ ap (λ t. plain_passed t w.frames bits) e

    by_repeat : (b : Bool) → is_repeat last (retry_of octets) bits ≡ b →
        Step station tid last w after (Received d)
    by_repeat true e = Silent (record {
      told = told true e;
      served = record {
        live = received_live station (Plain last) octets w served.live;
        side = now_last ∙ ap Plain (repeat_same last (retry_of octets) bits e);
        none = served.none;
      };
      frames = at_least w.frames after.frames refl;
    })
    by_repeat false e = Passing bits (record {
      told = told false e;
      served = record {
        live = received_live station (Plain last) octets w served.live;
        side = now_last;
        none = served.none;
      };
      frames = refl;
    })

true_or_false : (b : Bool) → (b ≡ true) ⊎ (b ≡ false)
true_or_false true = inl refl
true_or_false false = inr refl

-- two TIDs with equal numbers have one place, and others have others
pub same_place : (s t station tid : ℕ) → ((s == station) && (t == tid)) ≡ true →
    place_of station tid ≡ place_of s t
same_place s t station tid e =
    let parts = both (s == station) (t == tid) e in
    let same_s : s ≡ station = let p = parts.0 in grind (arith, nat_tests, p) in
    let same_t : t ≡ tid = let p = parts.1 in grind (arith, nat_tests, p) in
    ap₂ place_of (sym same_s) (sym same_t)

pub other_place : (s t station tid : ℕ) → t < tids_of_station → tid < tids_of_station →
    ((s == station) && (t == tid)) ≡ false → place_of station tid ≢ place_of s t
other_place s t station tid t8 tid8 e = λ same.
    (let one = same_station station tid s t tid8 t8 same in
    let two = same_tid station tid s t tid8 t8 same in
    grind (arith, nat_tests, e, one, two))

frame_step : (station tid : ℕ) (last : Option ℕ) (octets : List ℕ) (w : World) (f : Option UplinkFault) →
    IsSound w → tid < tids_of_station → IsServed station tid last w → receive_fault octets w ≡ f →
    Step station tid last w (after_receive f octets w) (receive_answer f octets w)
frame_step station tid last octets w (Some fault) sound tid8 served e =
    quiet station tid last w w (NotReceived fault) served refl (same_frames w.frames)
frame_step station tid last octets w None sound tid8 served e =
    let x = taken octets w e in
    let s : ℕ = sender_of octets in
    let t : ℕ = tid_in_control octets in
    elim (true_or_false ((s == station) && (t == tid))) [
      | inl here ↦
          let same = same_place s t station tid here in
          let plain : side_of_frame octets w ≡ Plain last = ap (place_side w) (sym same) ∙ served.side in
          let within : place_of_frame octets < length w.sides =
          let inside = place_within w sound s t x.tid x.live in
          let sides = sound.sides in omega (arith, inside, sides) in
          subst (λ side. Step station tid last w (received_by side octets w)
          (Received (delivery_by side octets w))) (sym plain)
          (own_frame station tid last octets w served within same here
          (is_repeat last (retry_of octets) (sequence_of octets)) refl)
      | inr apart ↦
          other_frame station tid last octets w (side_of_frame octets w) served
          (other_place s t station tid x.tid tid8 apart) apart
    ]

-- ---- a request, and a timeout

request_step : (station tid : ℕ) (last : Option ℕ) (octets : List ℕ) (w : World) (f : Option RequestFault) →
    tid < tids_of_station → IsServed station tid last w → first_request_fault octets w ≡ f →
    Step station tid last w (after_request f octets w) (request_answer f octets w)
request_step station tid last octets w (Some fault) tid8 served e =
    quiet station tid last w w (NotRequested fault) served refl (same_frames w.frames)
request_step station tid last octets w None tid8 served e =
    let x = asked octets w e in
    let s : ℕ = sender_of octets in
    let t : ℕ = request_tid octets in
    let apart : ((s == station) && (t == tid)) ≡ false =
    elim (true_or_false ((s == station) && (t == tid))) [
      | inl here ↦
          absurd (let plain : is_plain_side (tid_side w s t) ≡ true =
          ap (λ n. is_plain_side (place_side w n)) (sym (same_place s t station tid here))
          ∙ ap is_plain_side served.side in
          let agreed = x.agreed in grind (arith, plain, agreed))
      | inr other ↦ other
    ] in
    let differ = other_place s t station tid x.tid tid8 apart in
    quiet station tid last w (requested octets w)
    (Requested (request_delivery octets w) (board_shown octets w))
    (record {
      live = served.live;
      side = get_or-set_other w.sides (place_of s t) (place_of station tid)
          (side_asked (request_start octets) (place_side w (place_of s t))) unopened_side differ
          ∙ served.side;
      none = ap (λ (r : Reordering). r.stored) (get_or-set_other w.reorderings (place_of s t)
          (place_of station tid) (asked_outcome (place_of s t) (request_start octets) w).after unopened
          differ)
          ∙ served.none;
    }) (told_elsewhere station tid (request_delivery octets w) apart) (same_frames w.frames)

expire_step : (station tid : ℕ) (last : Option ℕ) (w : World) (o : Option ℕ) → tid < tids_of_station →
    IsServed station tid last w → first_due w ≡ o →
    Step station tid last w (after_expire o w) (expire_answer o w)
expire_step station tid last w None tid8 served e =
    quiet station tid last w w NoneDue served refl (same_frames w.frames)
expire_step station tid last w (Some place) tid8 served e =
    let x = expiring place w e in
    let s : ℕ = place / tids_of_station in
    let t : ℕ = place % tids_of_station in
    let at : place ≡ place_of s t = parts_of place in
    let differ : place_of station tid ≢ place = λ same. due_stores w.clock (reordering_at w place) x.due
    (ap (λ n. (reordering_at w n).stored) (sym same) ∙ served.none) in
    let apart : ((s == station) && (t == tid)) ≡ false =
    elim (true_or_false ((s == station) && (t == tid))) [
      | inl here ↦ absurd (differ (same_place s t station tid here ∙ sym at))
      | inr other ↦ other
    ] in
    quiet station tid last w (expired_at place w) (TimedOut (timeout_of place w))
    (record {
      live = served.live;
      side = served.side;
      none = ap (λ (r : Reordering). r.stored) (get_or-set_other w.reorderings place (place_of station tid)
          (timeout_outcome place w).after unopened differ)
          ∙ served.none;
    }) (told_elsewhere station tid (timeout_of place w) apart) (same_frames w.frames)

-- ---- every call

call_step : (station tid : ℕ) (last : Option ℕ) (call : Call) (w : World) → IsSound w →
    tid < tids_of_station → IsServed station tid last w →
    Step station tid last w (after_call call w) (answer call w)
unfolding after_call
call_step station tid last (Open s window start) w sound tid8 served =
    open_step station tid last s window start w (open_fault s window start w) tid8 served refl
call_step station tid last (OpenPlain s) w sound tid8 served =
    open_plain_step station tid last s w (open_plain_fault s w) tid8 served refl
call_step station tid last (SetRate s rate) w sound tid8 served =
    choose_both (λ (v : World) (a : Answer). Step station tid last w v a) (is_open w s)
    (record w { rates = set w.rates s (Some rate) }) w Set NotSet
    (λ _. quiet station tid last w (record w { rates = set w.rates s (Some rate) }) Set
    (record {
      live = still_open station s w.rates rate served.live;
      side = served.side;
      none = served.none;
    }) refl (same_frames w.frames))
    (λ _. quiet station tid last w w NotSet served refl (same_frames w.frames))
call_step station tid last (Receive octets) w sound tid8 served =
    frame_step station tid last octets w (receive_fault octets w) sound tid8 served refl
call_step station tid last (Request octets) w sound tid8 served =
    request_step station tid last octets w (first_request_fault octets w) tid8 served refl
call_step station tid last (Tick by) w sound tid8 served =
    quiet station tid last w (record w { clock = w.clock + by }) (Now (w.clock + by))
    (record { live = served.live; side = served.side; none = served.none }) refl (same_frames w.frames)
call_step station tid last Expire w sound tid8 served =
    expire_step station tid last w (first_due w) tid8 served refl

-- what calls report of the TID, and its state after them
pub record IsPlainRun (station tid : ℕ) (last : Option ℕ) (w after : World) (told : List Passed) :
    Type 0 where
  pub served : IsServed station tid (last_released last told) after
  pub in_order : RisesFrom w.frames (released_ids told)
  pub no_gap : given_up_in told ≡ 0

then_silent : (station tid : ℕ) (last : Option ℕ) (w v after : World) (first later : List Passed) →
    first ≡ [] → w.frames ≤ v.frames → IsPlainRun station tid last v after later →
    IsPlainRun station tid last w after (first ++ later)
then_silent station tid last w v after first later none le run =
    subst (λ (xs : List Passed). IsPlainRun station tid last w after (xs ++ later)) (sym none)
    (record {
      served = run.served;
      in_order = rises_from_less w.frames v.frames (released_ids later) le run.in_order;
      no_gap = run.no_gap;
    })

then_passing : (station tid n : ℕ) (last : Option ℕ) (w v after : World) (first later : List Passed) →
    first ≡ Released w.frames n ∷ [] → v.frames ≡ w.frames + 1 →
    IsPlainRun station tid (Some n) v after later → IsPlainRun station tid last w after (first ++ later)
then_passing station tid n last w v after first later one more run =
    subst (λ (xs : List Passed). IsPlainRun station tid last w after (xs ++ later)) (sym one)
    (record {
      served = run.served;
      in_order = (omega arith, subst (λ k. RisesFrom k (released_ids later)) more run.in_order);
      no_gap = run.no_gap;
    })

pub calls_run : (station tid : ℕ) (last : Option ℕ) (calls : List Call) (w : World) → IsSound w →
    tid < tids_of_station → IsServed station tid last w →
    IsPlainRun station tid last w (after_calls w calls) (all_told station tid w calls)
unfolding after_calls answers
calls_run station tid last [] w sound tid8 served =
    record { served = served; in_order = tt; no_gap = refl }
calls_run station tid last (call ∷ later) w sound tid8 served =
    let next : World = after_call call w in
    let told : List Passed = told_by station tid (answer call w) in
    let rest : List Passed = all_told station tid next later in
    elim (call_step station tid last call w sound tid8 served) [
      | Silent step ↦
          then_silent station tid last w next (after_calls next later) told rest step.told step.frames
          (calls_run station tid last later next (call_sound call w sound) tid8 step.served)
      | Passing n step ↦
          then_passing station tid n last w next (after_calls next later) told rest step.told step.frames
          (calls_run station tid (Some n) later next (call_sound call w sound) tid8 step.served)
    ]

-- ---- the law

-- a frame of the TID is old exactly if it is a repeat
repeats_told : (station tid : ℕ) (last : Option ℕ) (octets : List ℕ) (w : World) (f : Option UplinkFault)
    (d : Delivery) → IsServed station tid last w →
    receive_answer f octets w ≡ Received d → d.station ≡ station → d.tid ≡ tid →
    d.old ≡ is_repeat last (retry_of octets) (sequence_of octets)
repeats_told station tid last octets w (Some fault) d served is at_s at_t = absurd (grind (arith, is))
repeats_told station tid last octets w None d served is at_s at_t =
    let same : delivery_of octets w ≡ d = grind (arith, is) in
    let s : sender_of octets ≡ station = ap (λ (v : Delivery). v.station) same ∙ at_s in
    let t : tid_in_control octets ≡ tid = ap (λ (v : Delivery). v.tid) same ∙ at_t in
    let plain : side_of_frame octets w ≡ Plain last = ap₂ (tid_side w) s t ∙ served.side in
    ap (λ (v : Delivery). v.old) (sym same)
    ∙ ap (λ side. (delivery_by side octets w).old) plain

plain_law_from : (w : World) (station tid : ℕ) (calls : List Call) →
    IsPlainRun station tid None w (after_calls w calls) (all_told station tid w calls) →
    PlainLaw w station tid calls
plain_law_from w station tid calls run = record {
  in_order = run.in_order;
  no_gap = run.no_gap;
  repeats = λ octets d is at_s at_t.
      repeats_told station tid (last_released None (all_told station tid w calls)) octets
      (after_calls w calls) (receive_fault octets (after_calls w calls)) d run.served is at_s at_t;
}

after_plain_opening : (station : ℕ) (w : World) → open_plain_fault station w ≡ None →
    after_call (OpenPlain station) w ≡ plain_opened station w
unfolding after_call
after_plain_opening station w e = ap (λ f. after_open_plain f station w) e

pub plain_told : (stations : ℕ) (before later : List Call) (station tid : ℕ) → tid < 8 →
    answer (OpenPlain station) (after_calls (new_world stations) before) ≡ Opened →
    PlainLaw (after_calls (new_world stations) (before ++ OpenPlain station ∷ [])) station tid later
plain_told stations before later station tid tid8 opens =
    let w : World = after_calls (new_world stations) before in
    let sound : IsSound w = calls_sound before (new_world stations) (new_sound stations) in
    let e = no_open_fault (open_plain_fault station w) opens in
    let x = opening_plain station w e in
    let v : World = plain_opened station w in
    let there : after_calls (new_world stations) (before ++ OpenPlain station ∷ []) ≡ v =
    after_both (new_world stations) before (OpenPlain station ∷ [])
    ∙ after_one (OpenPlain station) w ∙ after_plain_opening station w e in
    let fits : place_of station tids_of_station ≤ length w.sides = let within = x.within in
    let size = sound.size in let sides = sound.sides in omega (arith, within, size, sides) in
    let served : IsServed station tid None v = record {
      live = ap is_some (get_or-set_same w.rates station (Some lowest_rate) None x.within);
      side = sided_here tids_of_station station tid (Plain None) w.sides unopened_side tid8 (omega arith)
          fits;
      none = sound.closed station tid tid8 x.shut;
    } in
    subst (λ (u : World). PlainLaw u station tid later) (sym there)
    (plain_law_from v station tid later
    (calls_run station tid None later v (subst IsSound there
    (calls_sound (before ++ OpenPlain station ∷ []) (new_world stations) (new_sound stations)))
    tid8 served))
