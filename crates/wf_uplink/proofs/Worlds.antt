-- Proves that the invariant holds in every world that calls lead to.
use Rattle.std.proofs.Common.{◌≡◌, ℕ, zero, suc, ◌+◌, ◌*◌, ◌<◌, ◌≤◌, ◌≢◌, ◌&&◌, not, nat_lt, nat_le, Bool, true, false, ◌⊎◌, List, [], ◌∷◌, length, get_or, set, replicate, Option, Some, None, is_some, refl, sym, ◌∙◌, ap, subst, inl, inr, arith, if◌then◌else◌}
use Rattle.std.specs.Prelude.{sum_by}
use Rattle.std.specs.Option.{option_or}
use Rattle.std.proofs.lemmas.Bool.Decides.{nat_tests}
use Rattle.std.proofs.lemmas.List.{get_or-set_same, get_or-set_other, get_or-replicate, get_or_past, length-set, length-replicate}
use Rattle.std.proofs.lemmas.List.Sums.{sum_by-set}
use Rattle.std.proofs.lemmas.List.Folds.{sum_by-replicate}
use Rattle.std.proofs.lemmas.List.Quantifiers.{position-Some}
use Rattle.wf_def_air.specs.Airtime.{Rate, lowest_rate}
use Rattle.wf_uplink.specs.declared.fault.OpenFault.{OpenFault}
use Rattle.wf_uplink.specs.declared.fault.OpenFault.TheVariants.{BadStation, BadWindow, BadStart, Live}
use Rattle.wf_uplink.specs.declared.fault.UplinkFault.{UplinkFault}
use Rattle.wf_uplink.specs.declared.fault.UplinkFault.TheVariants.{NotMine}
use Rattle.wf_uplink.specs.declared.fault.RequestFault.{RequestFault}
use Rattle.wf_uplink.specs.declared.fault.RequestFault.TheVariants.{NotMine as NotMineRequest, NotAgreed}
use Rattle.wf_recv_peer.specs.Board.{empty_board}
use Rattle.wf_recv_peer.specs.Plain.{is_repeat, retry_of}
use Rattle.wf_uplink.specs.Requests.{is_request_addressed, request_tid, request_start, request_header_fault, request_kind_fault, request_form_fault, request_tid_fault}
use Rattle.wf_uplink.specs.Sides.{SideValue, Agreed, Plain, unopened_side, is_plain_side, side_after, side_asked}
use Rattle.wf_uplink.specs.Frames.{sender_of, is_addressed, tid_in_control, sequence_of, header_fault, kind_fault, uplink_tid_fault, length_fault}
use Rattle.wf_uplink.specs.Reordering.{Reordering, ReorderingOutcome, new_reordering, unopened, is_none_stored, is_due}
use Rattle.wf_uplink.specs.World.{World, Call, Open, OpenPlain, SetRate, Receive, Request, Tick, Expire, new_world, rate_of, is_open, place_of, tids_of_station, reordering_at, reordering_of, place_side, with_tid_side, open_fault, open_plain_fault, begun, sided, opened, plain_opened, is_mine, mine_fault, receive_fault, released_in, given_up_in, count_of, with_outcome, place_of_frame, side_of_frame, arrival_outcome, arrived_at, plain_taken, accepted, recorded, received, place_of_request, is_request_mine, request_mine_fault, agreed_fault, first_request_fault, asked_outcome, moved_at, requested, first_due, timeout_outcome, expired_at, after_open, after_open_plain, after_receive, after_request, after_expire, after_call, after_calls}
use Rattle.wf_uplink.specs.Soundness.{ReorderingIsOrderly, IsSound}
use Rattle.wf_uplink.proofs.Told.{covers_count}
use Rattle.wf_uplink.proofs.Moves.{choose, IsFair, arrived_fair, requested_fair, timed_out_fair}

-- ---- lists

-- an element of a list after a write is the new one or the old one
pub set_cases : {A : Type 0} (P : A → Type 0) (xs : List A) (i j : ℕ) (y d : A) → P y → P (get_or xs j d) →
    P (get_or (set xs i y) j d)
set_cases P [] i j y d new old = old
set_cases P (x ∷ xs) zero zero y d new old = new
set_cases P (x ∷ xs) zero (suc j) y d new old = old
set_cases P (x ∷ xs) (suc i) zero y d new old = old
set_cases P (x ∷ xs) (suc i) (suc j) y d new old = set_cases P xs i j y d new old

pub some_within : {A : Type 0} (xs : List (Option A)) (i : ℕ) → is_some (get_or xs i None) ≡ true →
    i < length xs
some_within [] i e = absurd (grind (arith, e))
some_within (x ∷ xs) zero e = omega arith
some_within (x ∷ xs) (suc i) e = let rest = some_within xs i e in omega (arith, rest)

pub not_none : {A : Type 0} (o : Option A) → is_some o ≡ true → o ≡ None → ⊥
not_none None e n = grind (arith, e)
not_none (Some x) e n = grind (arith, n)

pub none_of : {A : Type 0} (o : Option A) → is_some o ≡ false → o ≡ None
none_of None e = refl
none_of (Some x) e = absurd (grind (arith, e))

pub same_or_not : (a b : ℕ) → (a ≡ b) ⊎ (a ≢ b)
same_or_not a b = grind arith

-- ---- the indices of reorderings

pub same_station : (s t u v : ℕ) → t < tids_of_station → v < tids_of_station → place_of s t ≡ place_of u v →
    s ≡ u
same_station s t u v t8 v8 e = omega (arith, t8, v8, e)

pub same_tid : (s t u v : ℕ) → t < tids_of_station → v < tids_of_station → place_of s t ≡ place_of u v → t ≡ v
same_tid s t u v t8 v8 e = omega (arith, t8, v8, e)

pub place_within : (w : World) → IsSound w → (s t : ℕ) → t < tids_of_station → is_open w s ≡ true →
    place_of s t < length w.reorderings
place_within w sound s t t8 o = let within = some_within w.rates s o in let size = sound.size in
    omega (arith, within, size, t8)

-- ---- an outcome of one reordering

sums_up : (released given missing held_one held_all held_new old_one old_new frames up old new : ℕ) →
    released + (given + held_new) ≡ held_one + new → frames ≡ up + old + held_all →
    (held_all + held_new ≡ missing + held_one) → frames + new ≡ (up + released) + (old + given) + missing
sums_up released given missing held_one held_all held_new old_one old_new frames up old new a b c =
    omega (arith, a, b, c)

held_after : (xs : List Reordering) (i : ℕ) (r d : Reordering) → i < length xs →
    sum_by (λ (q : Reordering). length q.stored) (set xs i r) + length (get_or xs i d).stored
    ≡ sum_by (λ (q : Reordering). length q.stored) xs + length r.stored
held_after xs i r d within = sum_by-set (λ (q : Reordering). length q.stored) xs i r d within

-- the world after `new` more frames were accepted
abbrev pub with_frames : ℕ → World → World
with_frames new w = record w { frames = w.frames + new }

pub outcome_sound : (w : World) (place new : ℕ) (o : ReorderingOutcome) → IsSound w →
    place < length w.reorderings →
    ((station tid : ℕ) → tid < tids_of_station → rate_of w station ≡ None → place_of station tid ≢ place) →
    IsFair new (reordering_at w place) o → IsSound (with_outcome place o (with_frames new w))
outcome_sound w place new o sound within other fair =
    let before : Reordering = reordering_at w place in
    let d : Reordering = unopened in
    let count = covers_count before.start o.after.start o.passed fair.told in
    let least = sound.bound place in
    let frames = fair.frames in
    let all = sound.each_frame in
    let sums = held_after w.reorderings place o.after d within in
    record {
      size = length-set w.reorderings place o.after ∙ sound.size;
      sides = sound.sides ∙ sym (length-set w.reorderings place o.after);
      orderly = λ k. set_cases ReorderingIsOrderly w.reorderings place k o.after d fair.orderly
          (sound.orderly k);
      bound = λ k. set_cases (λ (r : Reordering). r.start
          ≤ 4095 + ((w.up + released_in o.passed) + (w.missing + given_up_in o.passed))) w.reorderings place k
          o.after d
          (omega (arith, count, least)) (let old = sound.bound k in omega (arith, old));
      closed = λ station tid t8 none.
          ap (λ (r : Reordering). r.stored) (get_or-set_other w.reorderings place
          (place_of station tid) o.after d (other station tid t8 none))
          ∙ sound.closed station tid t8 none;
      each_frame = omega (arith, frames, all, sums);
    }

-- ---- a frame

or_none : {A : Type 0} (a b : Option A) → option_or a b ≡ None → (a ≡ None) × (b ≡ None)
or_none None b e = (refl, e)
or_none (Some x) b e = absurd (grind (arith, e))

none_where : {A : Type 0} (b : Bool) (x : A) → (if b then None else Some x) ≡ None → b ≡ true
none_where true x e = refl
none_where false x e = absurd (grind (arith, e))

pub both : (a b : Bool) → (a && b) ≡ true → (a ≡ true) × (b ≡ true)
both true b e = (refl, e)
both false b e = absurd (grind (arith, e))

-- a frame without fault belongs to an open station, and its TID is below 8
pub record IsTaken (octets : List ℕ) (w : World) : Type 0 where
  pub live : is_open w (sender_of octets) ≡ true
  pub tid : tid_in_control octets < tids_of_station

pub taken : (octets : List ℕ) (w : World) → receive_fault octets w ≡ None → IsTaken octets w
taken octets w e =
    let past_header = or_none (header_fault octets)
    (option_or (kind_fault octets) (option_or (mine_fault octets w)
    (option_or (uplink_tid_fault octets) (length_fault octets)))) e in
    let past_kind = or_none (kind_fault octets) (option_or (mine_fault octets w)
    (option_or (uplink_tid_fault octets) (length_fault octets))) past_header.1 in
    let past_mine = or_none (mine_fault octets w)
    (option_or (uplink_tid_fault octets) (length_fault octets)) past_kind.1 in
    let past_tid = or_none (uplink_tid_fault octets) (length_fault octets) past_mine.1 in
    let mine = both (is_addressed octets) (is_open w (sender_of octets))
    (none_where (is_mine octets w) NotMine past_mine.0) in
    let below = tid_below octets past_tid.0 in
    record { live = mine.1; tid = below }
  where
    tid_below : (octets : List ℕ) → uplink_tid_fault octets ≡ None → tid_in_control octets < tids_of_station
    tid_below octets f = let t = none_where (nat_lt (tid_in_control octets) 8) _ f in
        grind (arith, nat_tests, t)

pub side_sound : (place : ℕ) (side : SideValue) (w : World) → IsSound w → IsSound (with_tid_side place side w)
side_sound place side w sound = record {
  size = sound.size;
  sides = length-set w.sides place side ∙ sound.sides;
  orderly = sound.orderly;
  bound = sound.bound;
  closed = sound.closed;
  each_frame = sound.each_frame;
}

pub arrived_sound : (s k bits : ℕ) (w : World) → IsSound w → k < tids_of_station → is_open w s ≡ true →
    IsSound (arrived_at (place_of s k) bits w)
arrived_sound s k bits w sound low live =
    outcome_sound w (place_of s k) 1 (arrival_outcome (place_of s k) bits w) sound
    (place_within w sound s k low live)
    (λ station tid t8 none same. not_none (rate_of w s) live
    (ap (λ n. rate_of w n) (sym (same_station station tid s k t8 low same)) ∙ none))
    (arrived_fair _ _ _ (reordering_of w s k) (sound.orderly (place_of s k)))

-- a repeat, or a frame that is released at once
one_or_none : (repeat : Bool) → count_of (not repeat) + count_of repeat ≡ 1
one_or_none true = refl
one_or_none false = refl

pub taken_sound : (repeat : Bool) (w : World) → IsSound w → IsSound (plain_taken repeat w)
taken_sound repeat w sound = record {
  size = sound.size;
  sides = sound.sides;
  orderly = sound.orderly;
  bound = λ place. let old = sound.bound place in omega (arith, old);
  closed = sound.closed;
  each_frame = let all = sound.each_frame in let one = one_or_none repeat in omega (arith, all, one);
}

accepted_sound : (side : SideValue) (s k : ℕ) (retry : Bool) (bits : ℕ) (w : World) → IsSound w →
    k < tids_of_station → is_open w s ≡ true → IsSound (accepted side (place_of s k) retry bits w)
accepted_sound (Agreed board) s k retry bits w sound low live = arrived_sound s k bits w sound low live
accepted_sound (Plain last) s k retry bits w sound low live =
    taken_sound (is_repeat last retry bits) w sound

pub recorded_sound : (place bits : ℕ) (w : World) → IsSound w → IsSound (recorded place bits w)
recorded_sound place bits w sound = side_sound place (side_after bits (place_side w place)) w sound

pub received_sound : (octets : List ℕ) (w : World) → IsSound w → IsTaken octets w →
    IsSound (received octets w)
received_sound octets w sound t =
    let v : World = accepted (side_of_frame octets w) (place_of_frame octets) (retry_of octets)
    (sequence_of octets) w in
    recorded_sound (place_of_frame octets) (sequence_of octets) v
    (accepted_sound (side_of_frame octets w) (sender_of octets) (tid_in_control octets) (retry_of octets)
    (sequence_of octets) w sound t.tid t.live)

-- ---- a request

-- a request without fault belongs to an open station, and to a TID below 8 with an agreement
pub record IsAsked (octets : List ℕ) (w : World) : Type 0 where
  pub live : is_open w (sender_of octets) ≡ true
  pub tid : request_tid octets < tids_of_station
  pub agreed : is_plain_side (place_side w (place_of_request octets)) ≡ false

some_where : {A : Type 0} (b : Bool) (x : A) → (if b then Some x else None) ≡ None → b ≡ false
some_where false x e = refl
some_where true x e = absurd (grind (arith, e))

pub asked : (octets : List ℕ) (w : World) → first_request_fault octets w ≡ None → IsAsked octets w
asked octets w e =
    let past_header = or_none (request_header_fault octets)
    (option_or (request_kind_fault octets) (option_or (request_form_fault octets)
    (option_or (request_mine_fault octets w)
    (option_or (request_tid_fault octets) (agreed_fault octets w))))) e in
    let past_kind = or_none (request_kind_fault octets) (option_or (request_form_fault octets)
    (option_or (request_mine_fault octets w)
    (option_or (request_tid_fault octets) (agreed_fault octets w)))) past_header.1 in
    let past_form = or_none (request_form_fault octets) (option_or (request_mine_fault octets w)
    (option_or (request_tid_fault octets) (agreed_fault octets w))) past_kind.1 in
    let past_mine = or_none (request_mine_fault octets w)
    (option_or (request_tid_fault octets) (agreed_fault octets w)) past_form.1 in
    let past_tid = or_none (request_tid_fault octets) (agreed_fault octets w) past_mine.1 in
    let mine = both (is_request_addressed octets) (is_open w (sender_of octets))
    (none_where (is_request_mine octets w) NotMineRequest past_mine.0) in
    let below = tid_below octets past_tid.0 in
    record {
      live = mine.1;
      tid = below;
      agreed = some_where (is_plain_side (place_side w (place_of_request octets))) NotAgreed past_tid.1;
    }
  where
    tid_below : (octets : List ℕ) → request_tid_fault octets ≡ None → request_tid octets < tids_of_station
    tid_below octets f = let t = none_where (nat_lt (request_tid octets) 8) _ f in
        grind (arith, nat_tests, t)

more_none : (n : ℕ) → n + 0 ≡ n
more_none n = omega arith

pub moved_sound : (s k bits : ℕ) (w : World) → IsSound w → k < tids_of_station → is_open w s ≡ true →
    IsSound (moved_at (place_of s k) bits w)
moved_sound s k bits w sound low live =
    subst (λ n. IsSound (with_outcome (place_of s k) (asked_outcome (place_of s k) bits w)
    (record w { frames = n }))) (more_none w.frames)
    (outcome_sound w (place_of s k) 0 (asked_outcome (place_of s k) bits w) sound
    (place_within w sound s k low live)
    (λ station tid t8 none same. not_none (rate_of w s) live
    (ap (λ n. rate_of w n) (sym (same_station station tid s k t8 low same)) ∙ none))
    (requested_fair bits w.clock (reordering_of w s k) (sound.orderly (place_of s k))))

requested_sound : (octets : List ℕ) (w : World) → IsSound w → IsAsked octets w → IsSound (requested octets w)
requested_sound octets w sound a =
    let v : World = moved_at (place_of_request octets) (request_start octets) w in
    side_sound (place_of_request octets)
    (side_asked (request_start octets) (place_side v (place_of_request octets))) v
    (moved_sound (sender_of octets) (request_tid octets) (request_start octets) w sound a.tid a.live)

-- ---- a timeout

pub record IsExpiring (place : ℕ) (w : World) : Type 0 where
  pub within : place < length w.reorderings
  pub due : is_due w.clock (reordering_at w place) ≡ true

pub expiring : (place : ℕ) (w : World) → first_due w ≡ Some place → IsExpiring place w
expiring place w e =
    let found = position-Some (is_due w.clock) w.reorderings place unopened e in
    record { within = found.0; due = found.1 }

pub due_stores : (now : ℕ) (r : Reordering) → is_due now r ≡ true → r.stored ≡ [] → ⊥
due_stores now r due none =
    let some = both (not (is_none_stored r.stored)) (nat_le (r.since + 100000) now) due in
    let empty : is_none_stored r.stored ≡ true = ap is_none_stored none in
    grind (arith, some.0, empty)

pub expired_sound : (place : ℕ) (w : World) → IsSound w → IsExpiring place w → IsSound (expired_at place w)
expired_sound place w sound x =
    subst (λ n. IsSound (with_outcome place (timeout_outcome place w) (record w { frames = n })))
    (same w.frames)
    (outcome_sound w place 0 (timeout_outcome place w) sound x.within
    (λ station tid t8 none same. due_stores w.clock (reordering_at w place) x.due
    (ap (λ n. (reordering_at w n).stored) (sym same) ∙ sound.closed station tid t8 none))
    (timed_out_fair w.clock (reordering_at w place) (sound.orderly place)))
  where
    same : (n : ℕ) → n + 0 ≡ n
    same n = omega arith

-- ---- a station is opened

pub sided_length : (n station : ℕ) (side : SideValue) (sides : List SideValue) →
    length (sided n station side sides) ≡ length sides
sided_length zero station side sides = refl
sided_length (suc n) station side sides =
    length-set (sided n station side sides) (place_of station n) side ∙ sided_length n station side sides

-- the sides of other stations do not change
pub sided_other : (n station place : ℕ) (side : SideValue) (sides : List SideValue) (d : SideValue) →
    ((t : ℕ) → t < n → place ≢ place_of station t) →
    get_or (sided n station side sides) place d ≡ get_or sides place d
sided_other zero station place side sides d other = refl
sided_other (suc n) station place side sides d other =
    get_or-set_other (sided n station side sides) (place_of station n) place side d (other n (omega arith))
    ∙ sided_other n station place side sides d (λ t below. other t (omega (arith, below)))

pub sided_here : (n station tid : ℕ) (side : SideValue) (sides : List SideValue) (d : SideValue) → tid < n →
    n ≤ tids_of_station → place_of station n ≤ length sides →
    get_or (sided n station side sides) (place_of station tid) d ≡ side
sided_here zero station tid side sides d below most within = absurd (omega (arith, below))
sided_here (suc n) station tid side sides d below most within =
    elim (before_or_last tid n below) [
      | inl before ↦
          get_or-set_other (sided n station side sides) (place_of station n) (place_of station tid)
          side d (λ e. omega (arith, e, before))
          ∙ sided_here n station tid side sides d before (omega (arith, most)) (omega (arith, within))
      | inr last ↦
          let inside : place_of station n < length (sided n station side sides) = let same =
          sided_length n station side sides in omega (arith, within, same) in
          ap (λ t. get_or (sided (suc n) station side sides) (place_of station t) d) last
          ∙ get_or-set_same (sided n station side sides) (place_of station n) side d inside
    ]
  where
    before_or_last : (a b : ℕ) → a < suc b → (a < b) ⊎ (a ≡ b)
    before_or_last a b below = grind (arith, below)

pub begun_length : (n station window start : ℕ) (rs : List Reordering) →
    length (begun n station window start rs) ≡ length rs
begun_length zero station window start rs = refl
begun_length (suc n) station window start rs =
    length-set (begun n station window start rs) (place_of station n) (new_reordering start window)
    ∙ begun_length n station window start rs

pub begun_cases : (P : Reordering → Type 0) (n station window start place : ℕ) (rs : List Reordering)
    (d : Reordering) → P (new_reordering start window) → P (get_or rs place d) →
    P (get_or (begun n station window start rs) place d)
begun_cases P zero station window start place rs d new old = old
begun_cases P (suc n) station window start place rs d new old =
    set_cases P (begun n station window start rs) (place_of station n) place
    (new_reordering start window) d new (begun_cases P n station window start place rs d new old)

-- the reorderings of other stations do not change, nor those of TIDs that are not among the first n
pub begun_other : (n station window start place : ℕ) (rs : List Reordering) (d : Reordering) →
    ((t : ℕ) → t < n → place ≢ place_of station t) →
    get_or (begun n station window start rs) place d ≡ get_or rs place d
begun_other zero station window start place rs d other = refl
begun_other (suc n) station window start place rs d other =
    get_or-set_other (begun n station window start rs) (place_of station n) place
    (new_reordering start window) d (other n (omega arith))
    ∙ begun_other n station window start place rs d (λ t below. other t (omega (arith, below)))

pub begun_here : (n station window start tid : ℕ) (rs : List Reordering) (d : Reordering) → tid < n →
    n ≤ tids_of_station → place_of station n ≤ length rs →
    get_or (begun n station window start rs) (place_of station tid) d ≡ new_reordering start window
begun_here zero station window start tid rs d below most within = absurd (omega (arith, below))
begun_here (suc n) station window start tid rs d below most within =
    elim (before_or_last tid n below) [
      | inl before ↦
          get_or-set_other (begun n station window start rs) (place_of station n) (place_of station tid)
          (new_reordering start window) d (λ e. omega (arith, e, before))
          ∙ begun_here n station window start tid rs d before (omega (arith, most)) (omega (arith, within))
      | inr last ↦
          let inside : place_of station n < length (begun n station window start rs) = let same =
          begun_length n station window start rs in omega (arith, within, same) in
          ap (λ t. get_or (begun (suc n) station window start rs) (place_of station t) d) last
          ∙ get_or-set_same (begun n station window start rs) (place_of station n)
          (new_reordering start window) d inside
    ]
  where
    before_or_last : (a b : ℕ) → a < suc b → (a < b) ⊎ (a ≡ b)
    before_or_last a b below = grind (arith, below)

-- if the station had nothing stored, the number of stored frames does not change
begun_held : (n station window start : ℕ) (rs : List Reordering) → n ≤ tids_of_station →
    place_of station tids_of_station ≤ length rs →
    ((t : ℕ) → t < tids_of_station → (get_or rs (place_of station t) unopened).stored ≡ []) →
    sum_by (λ (r : Reordering). length r.stored) (begun n station window start rs)
    ≡ sum_by (λ (r : Reordering). length r.stored) rs
begun_held zero station window start rs most within none = refl
begun_held (suc n) station window start rs most within none =
    let d : Reordering = unopened in
    let less : n < tids_of_station = omega (arith, most) in
    let inside : place_of station n < length (begun n station window start rs) = let same =
    begun_length n station window start rs in omega (arith, within, same, less) in
    let sums = held_after (begun n station window start rs) (place_of station n)
    (new_reordering start window) d inside in
    let here : length (get_or (begun n station window start rs) (place_of station n) d).stored ≡ 0 =
    ap (λ (r : Reordering). length r.stored) (begun_other n station window start (place_of station n) rs d
    (λ t below e. omega (arith, below, e)))
    ∙ ap length (none n less) in
    let rest = begun_held n station window start rs (omega (arith, less)) within none in
    omega (arith, sums, here, rest)

-- a station that can be opened exists and is not open, its window is not 0, and its first number is at most
-- 4095
pub record IsOpening (station window start : ℕ) (w : World) : Type 0 where
  pub within : station < length w.rates
  pub some : 1 ≤ window
  pub low : start ≤ 4095
  pub shut : rate_of w station ≡ None

pub opening : (station window start : ℕ) (w : World) → open_fault station window start w ≡ None →
    IsOpening station window start w
opening station window start w =
    choose (λ f. f ≡ None → IsOpening station window start w) (not (nat_lt station (length w.rates)))
    (Some BadStation)
    (if not (nat_le 1 window && nat_le window 256) then Some BadWindow
    else (if nat_lt 4095 start then Some BadStart else (if is_open w station then Some Live else None)))
    (λ _ e. absurd (grind (arith, e)))
    (λ inside. choose (λ f. f ≡ None → IsOpening station window start w)
    (not (nat_le 1 window && nat_le window 256)) (Some BadWindow)
    (if nat_lt 4095 start then Some BadStart else (if is_open w station then Some Live else None))
    (λ _ e. absurd (grind (arith, e)))
    (λ fits. choose (λ f. f ≡ None → IsOpening station window start w) (nat_lt 4095 start) (Some BadStart)
    (if is_open w station then Some Live else None)
    (λ _ e. absurd (grind (arith, e)))
    (λ low. choose (λ f. f ≡ None → IsOpening station window start w) (is_open w station) (Some Live) None
    (λ _ e. absurd (grind (arith, e)))
    (λ shut _. record {
      within = grind (arith, nat_tests, inside);
      some = grind (arith, nat_tests, fits);
      low = grind (arith, nat_tests, low);
      shut = none_of (rate_of w station) shut;
    }))))

pub opened_sound : (station window start : ℕ) (w : World) → IsSound w → IsOpening station window start w →
    IsSound (opened station window start w)
opened_sound station window start w sound x =
    let d : Reordering = unopened in
    let some = x.some in
    let low = x.low in
    let room : place_of station tids_of_station ≤ length w.reorderings = let within = x.within in
    let size = sound.size in omega (arith, within, size) in
    record {
      size = begun_length tids_of_station station window start w.reorderings ∙ sound.size
          ∙ ap (λ n. tids_of_station * n) (sym (length-set w.rates station (Some lowest_rate)));
      sides = sided_length tids_of_station station (Agreed (empty_board start window)) w.sides ∙ sound.sides
          ∙ sym (begun_length tids_of_station station window start w.reorderings);
      orderly = λ place. begun_cases ReorderingIsOrderly tids_of_station station window start place
          w.reorderings d (record { window = some; rising = tt }) (sound.orderly place);
      bound = λ place. begun_cases (λ (r : Reordering). r.start ≤ 4095 + (w.up + w.missing)) tids_of_station
          station window start place w.reorderings d (omega (arith, low)) (sound.bound place);
      closed = λ other tid t8 none.
          begun_cases (λ (r : Reordering). r.stored ≡ []) tids_of_station station window start
          (place_of other tid) w.reorderings d refl
          (sound.closed other tid t8 (shut_before other none));
      each_frame = sound.each_frame ∙ ap (λ n. w.up + w.back + n)
          (sym (begun_held tids_of_station station window start w.reorderings (omega arith) room
          (λ t t8. sound.closed station t t8 x.shut)));
    }
  where
    shut_before : (other : ℕ) → get_or (set w.rates station (Some lowest_rate)) other None ≡ None →
        rate_of w other ≡ None
    shut_before other none =
        elim (same_or_not other station) [
          | inl same ↦ ap (λ n. rate_of w n) same ∙ x.shut
          | inr differ ↦ sym (get_or-set_other w.rates station other (Some lowest_rate) None differ) ∙ none
        ]

-- a station that can be opened without agreements exists and is not open
pub record IsOpeningPlain (station : ℕ) (w : World) : Type 0 where
  pub within : station < length w.rates
  pub shut : rate_of w station ≡ None

pub opening_plain : (station : ℕ) (w : World) → open_plain_fault station w ≡ None → IsOpeningPlain station w
opening_plain station w =
    choose (λ f. f ≡ None → IsOpeningPlain station w) (not (nat_lt station (length w.rates)))
    (Some BadStation) (if is_open w station then Some Live else None)
    (λ _ e. absurd (grind (arith, e)))
    (λ inside. choose (λ f. f ≡ None → IsOpeningPlain station w) (is_open w station) (Some Live) None
    (λ _ e. absurd (grind (arith, e)))
    (λ shut _. record {
      within = grind (arith, nat_tests, inside);
      shut = none_of (rate_of w station) shut;
    }))

-- a station that is not open after a station got a rate was not open before
pub shut_before_rate : (station other : ℕ) (rate : Rate) (w : World) → station < length w.rates →
    get_or (set w.rates station (Some rate)) other None ≡ None → rate_of w other ≡ None
shut_before_rate station other rate w within none =
    elim (same_or_not other station) [
      | inl same ↦
          absurd (not_none (get_or (set w.rates station (Some rate)) other None)
          (ap (λ n. is_some (get_or (set w.rates station (Some rate)) n None)) same
          ∙ ap is_some (get_or-set_same w.rates station (Some rate) None within)) none)
      | inr differ ↦ sym (get_or-set_other w.rates station other (Some rate) None differ) ∙ none
    ]

pub plain_opened_sound : (station : ℕ) (w : World) → IsSound w → IsOpeningPlain station w →
    IsSound (plain_opened station w)
plain_opened_sound station w sound x = record {
  size = sound.size ∙ ap (λ n. tids_of_station * n) (sym (length-set w.rates station (Some lowest_rate)));
  sides = sided_length tids_of_station station (Plain None) w.sides ∙ sound.sides;
  orderly = sound.orderly;
  bound = sound.bound;
  closed = λ other tid t8 none. sound.closed other tid t8
      (shut_before_rate station other lowest_rate w x.within none);
  each_frame = sound.each_frame;
}

-- ---- a rate

pub rate_sound : (station : ℕ) (rate : Rate) (w : World) → IsSound w → is_open w station ≡ true →
    IsSound (record w { rates = set w.rates station (Some rate) })
rate_sound station rate w sound live = record {
  size = sound.size ∙ ap (λ n. tids_of_station * n) (sym (length-set w.rates station (Some rate)));
  sides = sound.sides;
  orderly = sound.orderly;
  bound = sound.bound;
  closed = λ other tid t8 none. sound.closed other tid t8
      (shut_before_rate station other rate w (some_within w.rates station live) none);
  each_frame = sound.each_frame;
}

-- ---- every call

pub new_sound : (stations : ℕ) → IsSound (new_world stations)
new_sound stations = record {
  size = length-replicate (tids_of_station * stations) unopened
      ∙ ap (λ n. tids_of_station * n) (sym (length-replicate {A = Option Rate} stations None));
  sides = length-replicate (tids_of_station * stations) unopened_side
      ∙ sym (length-replicate (tids_of_station * stations) unopened);
  orderly = λ place. subst ReorderingIsOrderly (sym (here place))
      (record { window = omega arith; rising = tt });
  bound = λ place. subst (λ (r : Reordering). r.start ≤ 4095 + (0 + 0)) (sym (here place)) (omega arith);
  closed = λ station tid t8 none. ap (λ (r : Reordering). r.stored) (here (place_of station tid));
  each_frame = let none = sum_by-replicate (λ (r : Reordering). length r.stored)
      (tids_of_station * stations) unopened in omega (arith, none);
}
  where
    inside_or_past : (a b : ℕ) → (a < b) ⊎ (b ≤ a)
    inside_or_past a b = grind arith

    here : (place : ℕ) → get_or (replicate (tids_of_station * stations) unopened) place unopened ≡ unopened
    here place =
        elim (inside_or_past place (tids_of_station * stations)) [
          | inl inside ↦ get_or-replicate (tids_of_station * stations) place unopened unopened inside
          | inr past ↦ get_or_past (replicate (tids_of_station * stations) unopened) place unopened
              (let size = length-replicate (tids_of_station * stations) unopened in omega (arith, size, past))
        ]

open_sound : (station window start : ℕ) (w : World) (f : Option OpenFault) → IsSound w →
    open_fault station window start w ≡ f → IsSound (after_open f station window start w)
open_sound station window start w None sound e =
    opened_sound station window start w sound (opening station window start w e)
open_sound station window start w (Some fault) sound e = sound

open_plain_sound : (station : ℕ) (w : World) (f : Option OpenFault) → IsSound w →
    open_plain_fault station w ≡ f → IsSound (after_open_plain f station w)
open_plain_sound station w None sound e =
    plain_opened_sound station w sound (opening_plain station w e)
open_plain_sound station w (Some fault) sound e = sound

request_sound : (octets : List ℕ) (w : World) (f : Option RequestFault) → IsSound w →
    first_request_fault octets w ≡ f → IsSound (after_request f octets w)
request_sound octets w None sound e = requested_sound octets w sound (asked octets w e)
request_sound octets w (Some fault) sound e = sound

receive_sound : (octets : List ℕ) (w : World) (f : Option UplinkFault) → IsSound w →
    receive_fault octets w ≡ f → IsSound (after_receive f octets w)
receive_sound octets w None sound e = received_sound octets w sound (taken octets w e)
receive_sound octets w (Some fault) sound e = sound

expire_sound : (w : World) (o : Option ℕ) → IsSound w → first_due w ≡ o → IsSound (after_expire o w)
expire_sound w None sound e = sound
expire_sound w (Some place) sound e = expired_sound place w sound (expiring place w e)

pub call_sound : (call : Call) (w : World) → IsSound w → IsSound (after_call call w)
unfolding after_call
call_sound (Open station window start) w sound =
    open_sound station window start w (open_fault station window start w) sound refl
call_sound (OpenPlain station) w sound = open_plain_sound station w (open_plain_fault station w) sound refl
call_sound (SetRate station rate) w sound =
    choose IsSound (is_open w station) (record w { rates = set w.rates station (Some rate) }) w
    (rate_sound station rate w sound) (λ _. sound)
call_sound (Receive octets) w sound = receive_sound octets w (receive_fault octets w) sound refl
call_sound (Request octets) w sound =
    request_sound octets w (first_request_fault octets w) sound refl
call_sound (Tick by) w sound =
    record {
      size = sound.size;
      sides = sound.sides;
      orderly = sound.orderly;
      bound = sound.bound;
      closed = sound.closed;
      each_frame = sound.each_frame;
    }
call_sound Expire w sound = expire_sound w (first_due w) sound refl

pub calls_sound : (calls : List Call) (w : World) → IsSound w → IsSound (after_calls w calls)
unfolding after_calls
calls_sound [] w sound = sound
calls_sound (call ∷ later) w sound = calls_sound later (after_call call w) (call_sound call w sound)
