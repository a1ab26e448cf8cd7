-- Proves that the worlds after a frame and after a timeout are those of the definitions, and satisfy the
-- invariant.
use Rattle.std.proofs.Common.{◌≡◌, ℕ, ◌+◌, ◌-◌, ◌<◌, ◌≤◌, Bool, true, false, List, [], ◌∷◌, ◌++◌, take, drop, length, map, set, Some, None, refl, sym, ◌∙◌, ap, ap₂, subst, arith, if◌then◌else◌}
use Rattle.std.specs.Prelude.{count_by, sum_by, IfSome}
use mir.Val.{bool_byte}
use Rattle.wf_def_air.specs.Airtime.{Rate, data_charge, plain_charge}
use Rattle.wf_def_air.specs.Fit.{plain_octets, overhead_octets}
use Rattle.wf_uplink.specs.Sides.{SideValue, Agreed, Plain, is_plain_side}
use Rattle.wf_uplink.proofs.Calls.{timed_out_old, request_old}
use Rattle.wf_uplink.specs.Reordering.{is_none_stored}
use Rattle.std.proofs.lemmas.List.{append-nil, take_all, drop_all}
use Rattle.wf_uplink.specs.declared.items.UpItem.{UpItem}
use Rattle.wf_uplink.specs.Reordering.{Reordering, ReorderingOutcome, timed_out}
use Rattle.wf_uplink.specs.Shown.{item_of, is_frame, missing_of}
use Rattle.wf_uplink.specs.Soundness.{IsSound, IsWatched, world_of, latest, worth_of}
use Rattle.wf_uplink.specs.Reordering.{waits_since_of}
use Rattle.wf_uplink.specs.World.{World, Expire, rate_of, is_open, place_of, tids_of_station, reordering_at, reordering_of, rates_of_answers, around_octets, frame_air_of, count_of, released_in, given_up_in, with_outcome, arrival_outcome, asked_outcome, first_due, expired_at, after_expire, after_call}
use Rattle.wf_uplink.proofs.Moves.{arrived_fair, requested_fair}
use Rattle.wf_uplink.proofs.Worlds.{with_frames, outcome_sound, place_within, same_station, not_none, expiring, expired_sound}
use Rattle.wf_uplink.proofs.Watching.{outcome_watched, arrived_since, requested_since, timed_out_since, released_seen, given_up_seen}

-- ---- the world after a frame, or after a timeout, of the reordering at a place

pub record IsCounted (place new : ℕ) (w : World) (o : ReorderingOutcome) (r : Reordering)
    (released back given : ℕ) (waits : List ℕ) : Type 0 where
  pub world : world_of w.clock w.rates (set w.reorderings place r) w.sides (w.frames + new) (w.up + released)
      (w.back + back) (w.missing + given) ≡ with_outcome place o (with_frames new w)
  pub sound : IsSound (world_of w.clock w.rates (set w.reorderings place r) w.sides (w.frames + new)
      (w.up + released) (w.back + back) (w.missing + given))
  pub watched : IsWatched (world_of w.clock w.rates (set w.reorderings place r) w.sides (w.frames + new)
      (w.up + released) (w.back + back) (w.missing + given)) waits

pub counted : (place new : ℕ) (w : World) (o : ReorderingOutcome) (r : Reordering) (items : List UpItem)
    (released back given : ℕ) (before after : List ℕ) →
    IsSound w → IsSound (with_outcome place o (with_frames new w)) → IsWatched w before →
    place < length w.reorderings → o.after.since ≤ w.clock →
    r ≡ o.after → items ≡ map item_of o.passed → released ≡ count_by is_frame items →
    given ≡ sum_by missing_of items → back ≡ count_of o.old →
    after ≡ set before place (worth_of (waits_since_of r)) →
    IsCounted place new w o r released back given after
counted place new w o r items released back given before after whole sound watched within since e f up missing
    old tree =
    let ups : released ≡ released_in o.passed = up ∙ ap (count_by is_frame) f ∙ released_seen o.passed in
    let gaps : given ≡ given_up_in o.passed = missing ∙ ap (sum_by missing_of) f ∙ given_up_seen o.passed in
    let is : world_of w.clock w.rates (set w.reorderings place r) w.sides (w.frames + new) (w.up + released)
    (w.back + back) (w.missing + given) ≡ with_outcome place o (with_frames new w) =
    ap₂ (λ (q : Reordering) n. world_of w.clock w.rates (set w.reorderings place q) w.sides (w.frames + new)
    (w.up + n) (w.back + back) (w.missing + given)) e ups
    ∙ ap₂ (λ n m. world_of w.clock w.rates (set w.reorderings place o.after) w.sides (w.frames + new)
    (w.up + released_in o.passed) (w.back + n) (w.missing + m)) old gaps in
    let low : place < 2048 = let size = whole.size in let few = watched.stations in
    omega (arith, size, few, within) in
    record {
      world = is;
      sound = subst IsSound (sym is) sound;
      watched = subst (λ (v : World). IsWatched v after) (sym is)
          (subst (IsWatched (with_outcome place o (with_frames new w)))
          (sym (tree ∙ ap (λ (q : Reordering). set before place (worth_of (waits_since_of q))) e))
          (outcome_watched w before place new o watched within low since));
    }

-- ---- a frame

pub heard : (s t bits : ℕ) (w : World) (r : Reordering) (items : List UpItem) (old : Bool)
    (released back given : ℕ) (before after : List ℕ) →
    is_open w s ≡ true → t < tids_of_station → IsSound w → IsWatched w before →
    r ≡ (arrival_outcome (place_of s t) bits w).after →
    items ≡ map item_of (arrival_outcome (place_of s t) bits w).passed →
    old ≡ (arrival_outcome (place_of s t) bits w).old →
    released ≡ count_by is_frame items → given ≡ sum_by missing_of items → back ≡ count_of old →
    after ≡ set before (place_of s t) (worth_of (waits_since_of r)) →
    IsCounted (place_of s t) 1 w (arrival_outcome (place_of s t) bits w) r released back given after
heard s t bits w r items old released back given before after live t8 sound watched e f g up missing backs
    tree =
    let within = place_within w sound s t t8 live in
    let o : ReorderingOutcome = arrival_outcome (place_of s t) bits w in
    counted (place_of s t) 1 w o r items released back given before after sound
    (outcome_sound w (place_of s t) 1 o sound within
    (λ station tid low shut same. not_none (rate_of w s) live
    (ap (rate_of w) (sym (same_station station tid s t low t8 same)) ∙ shut))
    (arrived_fair bits w.frames w.clock (reordering_of w s t) (sound.orderly (place_of s t))))
    watched within (arrived_since bits w.frames w.clock (reordering_of w s t)
    (watched.since (place_of s t))) e f up missing (backs ∙ ap count_of g) tree

-- the charge of a frame, from the octets of its body
pub frame_air_is : (side : SideValue) (rate : Rate) (octets : List ℕ) (body air : ℕ) (plain : Bool) →
    body + 26 ≡ length octets → plain ≡ is_plain_side side →
    air ≡ (if plain then plain_charge rates_of_answers rate (plain_octets rate (body ∷ []))
    else data_charge rates_of_answers rate (body + overhead_octets) false) →
    air ≡ frame_air_of side (Some rate) octets
frame_air_is (Agreed board) rate octets body air false size e is =
    is ∙ ap (λ n. data_charge rates_of_answers rate n false) (more body (length octets) size)
  where
    more : (b n : ℕ) → b + 26 ≡ n → b + overhead_octets ≡ n + around_octets
    more b n e = omega (arith, e)
frame_air_is (Agreed board) rate octets body air true size e is = absurd (grind (arith, e))
frame_air_is (Plain last) rate octets body air true size e is =
    is ∙ ap (λ n. plain_charge rates_of_answers rate (plain_octets rate (n ∷ [])))
    (less body (length octets) size)
  where
    less : (b n : ℕ) → b + 26 ≡ n → b ≡ n - 26
    less b n e = omega (arith, e)
frame_air_is (Plain last) rate octets body air false size e is = absurd (grind (arith, e))

-- a slice that covers the whole list, after a write through it
pub back_whole : {A : Type 0} (size : ℕ) (new old : List A) → length new ≡ length old → size ≡ length old →
    take size (new ++ drop (length new) old) ≡ new
back_whole size new old same all =
    ap (λ ys. take size (new ++ ys)) (drop_all (length new) old (omega (arith, same)))
    ∙ ap (take size) (append-nil new) ∙ take_all size new (omega (arith, same, all))

pub due_after : (w : World) (place : ℕ) → first_due w ≡ Some place → expired_at place w ≡ after_call Expire w
unfolding after_call
due_after w place e = sym (ap (λ o. after_expire o w) e)

pub none_after : (w : World) → first_due w ≡ None → w ≡ after_call Expire w
unfolding after_call
none_after w e = sym (ap (λ o. after_expire o w) e)

-- a Boolean as a number
pub byte_is : (b : Bool) → bool_byte b ≡ count_of b
byte_is true = refl
byte_is false = refl

pub early_since : (clock : ℕ) (r : Reordering) → r.since ≤ clock → clock < latest →
    IfSome (waits_since_of r) (λ k. k ≤ latest)
early_since clock r le early = at (is_none_stored r.stored)
  where
    at : (t : Bool) → IfSome (if t then None else Some r.since) (λ k. k ≤ latest)
    at true = tt
    at false = omega (arith, le, early)

-- a timeout
pub timed : (place : ℕ) (w : World) (r : Reordering) (items : List UpItem) (released given : ℕ)
    (before after : List ℕ) →
    first_due w ≡ Some place → IsSound w → IsWatched w before →
    r ≡ (timed_out w.clock (reordering_at w place)).after →
    items ≡ map item_of (timed_out w.clock (reordering_at w place)).passed →
    released ≡ count_by is_frame items → given ≡ sum_by missing_of items →
    after ≡ set before place (worth_of (waits_since_of r)) →
    IsCounted place 0 w (timed_out w.clock (reordering_at w place)) r released 0 given after
timed place w r items released given before after due sound watched e f up missing tree =
    let x = expiring place w due in
    let o : ReorderingOutcome = timed_out w.clock (reordering_at w place) in
    counted place 0 w o r items released 0 given before after sound
    (subst (λ n. IsSound (with_outcome place o (record w { frames = n }))) (more w.frames)
    (expired_sound place w sound x)) watched x.within
    (timed_out_since w.clock (reordering_at w place) (watched.since place)) e f up missing
    (sym (ap count_of (timed_out_old w.clock place w))) tree
  where
    more : (n : ℕ) → n ≡ n + 0
    more n = omega arith

-- a request
pub moved : (s t bits : ℕ) (w : World) (r : Reordering) (items : List UpItem) (released given : ℕ)
    (before after : List ℕ) →
    is_open w s ≡ true → t < tids_of_station → IsSound w → IsWatched w before →
    r ≡ (asked_outcome (place_of s t) bits w).after →
    items ≡ map item_of (asked_outcome (place_of s t) bits w).passed →
    released ≡ count_by is_frame items → given ≡ sum_by missing_of items →
    after ≡ set before (place_of s t) (worth_of (waits_since_of r)) →
    IsCounted (place_of s t) 0 w (asked_outcome (place_of s t) bits w) r released 0 given after
moved s t bits w r items released given before after live t8 sound watched e f up missing tree =
    let within = place_within w sound s t t8 live in
    let o : ReorderingOutcome = asked_outcome (place_of s t) bits w in
    counted (place_of s t) 0 w o r items released 0 given before after sound
    (outcome_sound w (place_of s t) 0 o sound within
    (λ station tid low shut same. not_none (rate_of w s) live
    (ap (rate_of w) (sym (same_station station tid s t low t8 same)) ∙ shut))
    (requested_fair bits w.clock (reordering_of w s t) (sound.orderly (place_of s t))))
    watched within (requested_since bits w.clock (reordering_of w s t)
    (watched.since (place_of s t))) e f up missing
    (sym (ap count_of (request_old (place_of s t) bits w))) tree

pub no_frames : (w : World) (place : ℕ) (o : ReorderingOutcome) →
    with_outcome place o (with_frames 0 w) ≡ with_outcome place o w
no_frames w place o = ap (λ n. with_outcome place o (record w { frames = n })) (same w.frames)
  where
    same : (n : ℕ) → n + 0 ≡ n
    same n = omega arith

pub no_more_frames : (w : World) (place : ℕ) →
    with_outcome place (timed_out w.clock (reordering_at w place)) (with_frames 0 w) ≡ expired_at place w
no_more_frames w place = ap (λ n. with_outcome place (timed_out w.clock (reordering_at w place))
    (record w { frames = n })) (same w.frames)
  where
    same : (n : ℕ) → n + 0 ≡ n
    same n = omega arith
