-- Proves that nothing is due after as many timeouts as there are TIDs: a TID that gave up its hole starts to
-- wait again.
use Rattle.std.proofs.Common.{◌≡◌, ◌≢◌, ◌⊎◌, inl, inr, ℕ, zero, suc, ◌+◌, ◌*◌, ◌<◌, ◌≤◌, ◌==◌, ◌&&◌, ◌||◌, not, nat_le, nat_lt, Bool, true, false, List, [], ◌∷◌, ◌++◌, length, get_or, set, refl, sym, ◌∙◌, ap, arith}
use Rattle.std.specs.Prelude.{Option, Some, None, replicate}
use Rattle.std.proofs.lemmas.Bool.Decides.{nat_tests}
use Rattle.std.proofs.lemmas.List.{get_or-set_same, get_or-set_other, length-set, length-replicate}
use Rattle.std.proofs.lemmas.List.Quantifiers.{position-Some}
use Rattle.wf_uplink.specs.Reordering.{Reordering, Stored, ReorderingOutcome, unopened, is_none_stored, stored_from, first_hole, least_stored, moved_to, waiting, is_due, timed_out}
use Rattle.wf_def_air.specs.Airtime.{Rate, lowest_rate}
use Rattle.wf_uplink.specs.declared.fault.OpenFault.{OpenFault}
use Rattle.wf_uplink.specs.declared.fault.UplinkFault.{UplinkFault}
use Rattle.wf_uplink.specs.declared.fault.RequestFault.{RequestFault}
use Rattle.wf_recv_peer.specs.Plain.{retry_of}
use Rattle.wf_uplink.specs.Frames.{sequence_of}
use Rattle.wf_uplink.proofs.Calls.{accepted_rates}
use Rattle.wf_uplink.specs.World.{World, Call, Open, OpenPlain, SetRate, Receive, Request, Tick, Expire, tids_of_station, is_open, open_fault, open_plain_fault, receive_fault, first_request_fault, side_of_frame, place_of_frame, first_due, reordering_at, expired_at, after_open, after_open_plain, after_receive, after_request, after_expire, after_call, after_calls}
use Rattle.wf_uplink.specs.Soundness.{ReorderingIsOrderly, IsSound}
use Rattle.wf_uplink.proofs.Heard.{due_after}
use Rattle.wf_uplink.proofs.Moves.{choose, hole_from}
use Rattle.wf_uplink.proofs.Worlds.{same_or_not, IsExpiring, expiring, expired_sound, call_sound, calls_sound, new_sound}
use Rattle.wf_run_scripts.specs.UplinkAnswers.{stations, first}
use Rattle.wf_run_scripts.proofs.UplinkCalls.{after_one, after_none, after-append, quiet_after}

-- The hole after the least stored number is greater than that number.
past_first : (x : Stored) (later : List Stored) →
    x.number < first_hole x.number (stored_from x.number (x ∷ later))
past_first x later =
    choose (λ (xs : List Stored). x.number < first_hole x.number xs) (nat_lt x.number x.number)
    (stored_from x.number later) (x ∷ later)
    (λ below. absurd (grind (arith, nat_tests, below)))
    (λ _. choose (λ n. x.number < n) (x.number == x.number) (first_hole (x.number + 1) later) x.number
    (λ _. let from = hole_from (x.number + 1) later in omega (arith, from))
    (λ other. absurd (grind (arith, nat_tests, other))))

-- A wait that starts now is not due.
fresh : (now : ℕ) (some : Bool) → (some && nat_le (now + 100000) now) ≡ false
fresh now true = grind (arith, nat_tests)
fresh now false = refl

moved_anew : (now : ℕ) (before : Reordering) (o : ReorderingOutcome) → before.start < o.after.start →
    is_due now (waiting now before o).after ≡ false
moved_anew now before o moved =
    choose (λ (p : ReorderingOutcome). is_due now p.after ≡ false)
    (not (before.start == o.after.start) || is_none_stored before.stored)
    (record o { after = record o.after { since = now } }) o
    (λ _. fresh now (not (is_none_stored o.after.stored)))
    (λ stays. absurd (grind (arith, nat_tests, moved, stays)))

not_due : (now : ℕ) (r : Reordering) → ReorderingIsOrderly r → is_due now r ≡ true →
    is_due now (timed_out now r).after ≡ false
not_due now r orderly due = by_stored r.stored refl
  where
    by_stored : (stored : List Stored) → r.stored ≡ stored → is_due now (timed_out now r).after ≡ false
    by_stored [] is = absurd (let none : is_due now r ≡ false = rw is refl in grind (arith, none, due))
    by_stored (x ∷ later) is =
        let rising = rw is at orderly.rising in
        let past = past_first x later in
        let first : least_stored r.start r.stored ≡ x.number = rw is refl in
        moved_anew now r (moved_to (least_stored r.start r.stored) r)
        (rw (first, is) (omega (arith, rising.0, past)))

-- None of the first k TIDs is due.
abbrev AreQuiet : ℕ → World → Type 0
AreQuiet k w = (j : ℕ) → j < k → is_due w.clock (reordering_at w j) ≡ false

pub record IsQuietTo (k : ℕ) (w : World) : Type 0 where
  pub sound : IsSound w
  pub quiet : AreQuiet k w

not_before : (k place : ℕ) (w : World) → IsQuietTo k w → is_due w.clock (reordering_at w place) ≡ true →
    k ≤ place
not_before k place w is due = by_order (nat_le k place) refl
  where
    by_order : (b : Bool) → nat_le k place ≡ b → k ≤ place
    by_order true eq = grind (arith, nat_tests, eq)
    by_order false eq =
        let below : place < k = grind (arith, nat_tests, eq) in
        let quiet = is.quiet place below in
        absurd (grind (arith, quiet, due))

next_quiet : (k place : ℕ) (w : World) → IsQuietTo k w → first_due w ≡ Some place →
    IsQuietTo (place + 1) (expired_at place w)
next_quiet k place w is due =
    let x : IsExpiring place w = expiring place w due in
    let found = position-Some (is_due w.clock) w.reorderings place unopened due in
    let after : Reordering = (timed_out w.clock (reordering_at w place)).after in
    let new : is_due w.clock after ≡ false = not_due w.clock (reordering_at w place)
    (is.sound.orderly place) x.due in
    record {
      sound = expired_sound place w is.sound x;
      quiet = λ j below. by_place j below (same_or_not j place) after new found.0 found.2;
    }
  where
    by_place : (j : ℕ) → j < place + 1 → (j ≡ place) ⊎ (j ≢ place) → (after : Reordering) →
        is_due w.clock after ≡ false → place < length w.reorderings →
        ((i : ℕ) → i < place → is_due w.clock (reordering_at w i) ≡ false) →
        is_due w.clock (get_or (set w.reorderings place after) j unopened) ≡ false
    by_place j below (inl same) after new within before =
        ap (λ i. is_due w.clock (get_or (set w.reorderings place after) i unopened)) same
        ∙ ap (is_due w.clock) (get_or-set_same w.reorderings place after unopened within) ∙ new
    by_place j below (inr other) after new within before =
        ap (is_due w.clock) (get_or-set_other w.reorderings place j after unopened other)
        ∙ before j (omega (arith, below, other))

quiet_from : (n k : ℕ) (w : World) → IsQuietTo k w → length w.reorderings ≤ k + n →
    first_due (after_calls w (replicate n Expire)) ≡ None
quiet_from zero k w is few = by_due (first_due w) refl
  where
    by_due : (o : Option ℕ) → first_due w ≡ o → first_due (after_calls w (replicate 0 Expire)) ≡ None
    by_due None due = ap first_due (quiet_after w 0 due) ∙ due
    by_due (Some place) due =
        let first = position-Some (is_due w.clock) w.reorderings place unopened due in
        let past = not_before k place w is first.1 in
        absurd (let within = first.0 in omega (arith, few, within, past))
quiet_from (suc m) k w is few = by_due (λ n v. quiet_from m n v) (first_due w) refl
  where
    by_due : ((n : ℕ) (v : World) → IsQuietTo n v → length v.reorderings ≤ n + m →
        first_due (after_calls v (replicate m Expire)) ≡ None) →
        (o : Option ℕ) → first_due w ≡ o → first_due (after_calls w (replicate (suc m) Expire)) ≡ None
    by_due others None due = ap first_due (quiet_after w (suc m) due) ∙ due
    by_due others (Some place) due =
        let first = position-Some (is_due w.clock) w.reorderings place unopened due in
        let past = not_before k place w is first.1 in
        let e : expired_at place w ≡ after_call Expire w = due_after w place due in
        let size : length (expired_at place w).reorderings ≡ length w.reorderings =
        length-set w.reorderings place (timed_out w.clock (reordering_at w place)).after in
        ap first_due (after_one w Expire (replicate m Expire))
        ∙ ap (λ (v : World). first_due (after_calls v (replicate m Expire))) (sym e)
        ∙ others (place + 1) (expired_at place w) (next_quiet k place w is due)
        (omega (arith, size, few, past))

-- Nothing is due after the timeouts of a step of the clock.
pub quiet_behind : (n : ℕ) (w : World) → IsSound w → length w.reorderings ≤ n →
    first_due (after_calls w (replicate n Expire)) ≡ None
quiet_behind n w sound few = quiet_from n 0 w
    (record { sound = sound; quiet = λ j below. absurd (omega (arith, below)) }) (omega (arith, few))

-- ---- the worlds of a script

open_size : (station window start : ℕ) (w : World) (o : Option OpenFault) →
    length (after_open o station window start w).rates ≡ length w.rates
open_size station window start w None = length-set w.rates station (Some lowest_rate)
open_size station window start w (Some fault) = refl

open_plain_size : (station : ℕ) (w : World) (o : Option OpenFault) →
    length (after_open_plain o station w).rates ≡ length w.rates
open_plain_size station w None = length-set w.rates station (Some lowest_rate)
open_plain_size station w (Some fault) = refl

request_size : (octets : List ℕ) (w : World) (o : Option RequestFault) →
    length (after_request o octets w).rates ≡ length w.rates
request_size octets w None = refl
request_size octets w (Some fault) = refl

receive_size : (octets : List ℕ) (w : World) (o : Option UplinkFault) →
    length (after_receive o octets w).rates ≡ length w.rates
receive_size octets w None = ap (λ (rs : List (Option Rate)). length rs)
    (accepted_rates (side_of_frame octets w) (place_of_frame octets) (retry_of octets) (sequence_of octets) w)
receive_size octets w (Some fault) = refl

expire_size : (w : World) (o : Option ℕ) → length (after_expire o w).rates ≡ length w.rates
expire_size w None = refl
expire_size w (Some place) = refl

call_size : (call : Call) (w : World) → length (after_call call w).rates ≡ length w.rates
unfolding after_call
call_size (Open station window start) w = open_size station window start w (open_fault station window start w)
call_size (OpenPlain station) w = open_plain_size station w (open_plain_fault station w)
call_size (SetRate station rate) w =
    choose (λ (v : World). length v.rates ≡ length w.rates) (is_open w station)
    (record w { rates = set w.rates station (Some rate) }) w (λ _. length-set w.rates station (Some rate))
    (λ _. refl)
call_size (Receive octets) w = receive_size octets w (receive_fault octets w)
call_size (Request octets) w = request_size octets w (first_request_fault octets w)
call_size (Tick by) w = refl
call_size Expire w = expire_size w (first_due w)

calls_size : (calls : List Call) (w : World) → length (after_calls w calls).rates ≡ length w.rates
calls_size [] w = ap (λ (v : World). length v.rates) (after_none w)
calls_size (call ∷ calls) w = ap (λ (v : World). length v.rates) (after_one w call calls)
    ∙ calls_size calls (after_call call w) ∙ call_size call w

-- The same after a step of the clock anywhere in a list of calls.
pub quiet : (before : List Call) (by : ℕ) → first_due
    (after_calls first (before ++ (Tick by ∷ replicate (tids_of_station * stations) Expire))) ≡ None
quiet before by =
    let w : World = after_calls first before in
    let v : World = after_call (Tick by) w in
    let none : Option Rate = None in
    let sound : IsSound v = call_sound (Tick by) w (calls_sound before first (new_sound stations)) in
    let size : length v.rates ≡ stations = call_size (Tick by) w ∙ calls_size before first
    ∙ length-replicate stations none in
    ap first_due (after-append first before (Tick by ∷ replicate (tids_of_station * stations) Expire)
    ∙ after_one w (Tick by) (replicate (tids_of_station * stations) Expire))
    ∙ quiet_behind (tids_of_station * stations) v sound
    (let reorderings = sound.size in omega (arith, reorderings, size))
