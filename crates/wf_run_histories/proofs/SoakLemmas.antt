-- Proves the effect of a call on a soak, and rewrites the rest of each loop by one step.
use Rattle.std.proofs.Common.{◌≡◌, ℕ, zero, suc, ◌+◌, ◌-◌, ◌%◌, ◌<◌, ◌≤◌, ◌==◌, ◌||◌, Bool, true, false, List, [], ◌∷◌, ◌++◌, length, Some, None, refl, ap, sym, ◌∙◌, arith}
use Rattle.std.proofs.lemmas.List.{length-append}
use Rattle.wf_cell.specs.Cells.{calls_left_in, with_entry}
use Rattle.wf_frame.specs.Frames.{FrameValue, new_frame, sample_body}
use Rattle.wf_path.specs.Jobs.{note_of}
use Rattle.wf_path.specs.declared.job.Job.TheVariants.{Give}
use Rattle.wf_frame.specs.Settings.{standard}
use Rattle.wf_frame.specs.declared.settings.Config.{Config}
use Rattle.wf_frame.specs.declared.notes.Note.{Note}
use Rattle.wf_def_world.specs.World.{World, opening}
use Rattle.wf_def_world.specs.Step.{step}
use Rattle.wf_def_world.specs.Run.{Entry, Past, by, world_after, world_of}
use Rattle.wf_frame.specs.declared.notes.Note.TheVariants.{Asked, Enqueue}
use Rattle.wf_frame.specs.declared.notes.Ask.TheVariants.{Reap}
use Rattle.wf_run_histories.specs.Soak.{Soak, machine_of, call, reply_to, stations_join, station_joins, all_sent, transmission_sent, some_arrive, lets_arrive, is_nothing, after_reaps, rounds_played, round_played}

pub nothing_past : (w : World) → world_after w [] ≡ w
unfolding world_after
nothing_past w = refl

-- The world after one more call.
pub one_more : (es : List Entry) (w : World) (e : Entry) →
    world_after w (es ++ e ∷ []) ≡ (step (world_after w es) e.1).world
unfolding world_after
one_more [] w e = refl
one_more (x ∷ es) w e = one_more es (step w x.1).world e

-- The sample body of a frame has the length that was asked for.
pub sample_len : (flow n : ℕ) → length (sample_body flow n) ≡ n
sample_len flow zero = refl
sample_len flow (suc n) =
    let before = sample_len flow n in
    let more = length-append (sample_body flow n) (((flow + n) % 256) ∷ []) in
    omega (arith, before, more)

pub frame_named : (f : FrameValue) (station tid flow len : ℕ) →
    f ≡ new_frame station tid flow (sample_body flow len) → note_of (Give f) ≡ Enqueue station tid flow len
frame_named f station tid flow len is =
    ap (λ (x : FrameValue). note_of (Give x)) is ∙ ap (λ (n : ℕ). Enqueue station tid flow n)
    (sample_len flow len)

-- ---- the cell of a soak

pub has_room : (p : Past) (left : ℕ) → p.config ≡ standard → length p.history + left ≤ 1000000 → 0 < left →
    0 < calls_left_in p
has_room p left is few some =
    let calls : p.config.calls ≡ 1048576 = ap (λ (c : Config). c.calls) is in
    omega (arith, calls, few, some)

pub goes_on : (p q : Past) (left caller : ℕ) (note : Note) → p.config ≡ standard →
    length p.history + left ≤ 1000000 → 0 < left → q ≡ with_entry (by caller note) p →
    (q.config ≡ standard) × (length q.history + (left - 1) ≤ 1000000)
goes_on p q left caller note is few some past =
    let sized : length q.history ≡ length p.history + 1 =
    ap (λ (x : Past). length x.history) past ∙ length-append p.history (by caller note ∷ []) in
    (ap (λ (x : Past). x.config) past ∙ is, omega (arith, sized, few, some))

pub as_standard : (p : Past) → p.config ≡ standard → world_of p ≡ world_after (opening standard) p.history
as_standard p is = ap (λ (c : Config). world_after (opening c) p.history) is

-- ---- a call

-- If no call is left, nothing changes.
pub call_none : (note : Note) (k : Soak) → k.left ≡ 0 → call note k ≡ k
unfolding call
call_none note k none = rw none refl

pub reply_none : (note : Note) (k : Soak) → k.left ≡ 0 → reply_to note k ≡ None
unfolding reply_to
reply_none note k none = rw none refl

not_zero : (n : ℕ) → 0 < n → (n == 0) ≡ false
not_zero n some = grind arith

-- If a call is left, it is made.
abbrev pub one_less : List Entry → Soak → Soak
one_less past k = record k { past = past; left = k.left - 1 }

pub call_one : (note : Note) (k : Soak) → 0 < k.left → call note k ≡ one_less (k.past ++ by 0 note ∷ []) k
unfolding call
call_one note k some = rw (not_zero k.left some) refl

pub reply_one : (note : Note) (k : Soak) → 0 < k.left →
    reply_to note k ≡ Some (step (machine_of k) note).reply
unfolding reply_to
reply_one note k some = rw (not_zero k.left some) refl

-- ---- the rest of each loop

pub joins_on : (s : ℕ) (k : Soak) → s < 16 → stations_join (s + 1) (16 - (s + 1)) (station_joins s k)
    ≡ stations_join s (16 - s) k
unfolding stations_join
joins_on s k below =
    let rest : 16 - s ≡ suc (16 - (s + 1)) = omega arith in
    let next : s + 1 ≡ suc s = omega arith in
    ap (λ j. stations_join j (16 - (s + 1)) (station_joins s k)) next
    ∙ sym (ap (λ n. stations_join s n k) rest)

pub joins_over : (s : ℕ) (k : Soak) → 16 ≤ s → stations_join s (16 - s) k ≡ k
unfolding stations_join
joins_over s k over = let none : 16 - s ≡ 0 = omega arith in ap (λ n. stations_join s n k) none

pub sent_on : (e i count : ℕ) (k : Soak) → i < count →
    all_sent e (i + 1) (count - (i + 1)) (transmission_sent e i k) ≡ all_sent e i (count - i) k
unfolding all_sent
sent_on e i count k below =
    let rest : count - i ≡ suc (count - (i + 1)) = omega arith in
    let next : i + 1 ≡ suc i = omega arith in
    ap (λ j. all_sent e j (count - (i + 1)) (transmission_sent e i k)) next
    ∙ sym (ap (λ n. all_sent e i n k) rest)

pub sent_over : (e i count : ℕ) (k : Soak) → count ≤ i → all_sent e i (count - i) k ≡ k
unfolding all_sent
sent_over e i count k over = let none : count - i ≡ 0 = omega arith in ap (λ n. all_sent e i n k) none

pub arrive_on : (e i count : ℕ) (k : Soak) → i < count →
    (lets_arrive k || some_arrive e (i + 1) (count - (i + 1)) (transmission_sent e i k))
    ≡ some_arrive e i (count - i) k
unfolding some_arrive
arrive_on e i count k below =
    let rest : count - i ≡ suc (count - (i + 1)) = omega arith in
    let next : i + 1 ≡ suc i = omega arith in
    ap (λ j. lets_arrive k || some_arrive e j (count - (i + 1)) (transmission_sent e i k)) next
    ∙ sym (ap (λ n. some_arrive e i n k) rest)

pub arrive_over : (e i count : ℕ) (k : Soak) → count ≤ i → some_arrive e i (count - i) k ≡ false
unfolding some_arrive
arrive_over e i count k over = let none : count - i ≡ 0 = omega arith in ap (λ n. some_arrive e i n k) none

pub or_either : (a b c : Bool) → ((a || b) || c) ≡ (a || (b || c))
or_either true b c = refl
or_either false b c = refl

pub or_false : (a : Bool) → (a || false) ≡ a
or_false true = refl
or_false false = refl

pub reaps_on : (i left : ℕ) (k : Soak) → i < left → is_nothing (reply_to (Asked Reap) k) ≡ false →
    after_reaps (left - (i + 1)) (call (Asked Reap) k) ≡ after_reaps (left - i) k
unfolding after_reaps
reaps_on i left k below more =
    let rest : left - i ≡ suc (left - (i + 1)) = omega arith in
    let step : after_reaps (suc (left - (i + 1))) k ≡ after_reaps (left - (i + 1)) (call (Asked Reap) k) =
    rw more refl in
    sym (ap (λ n. after_reaps n k) rest ∙ step)

pub reaps_end : (i left : ℕ) (k : Soak) → i < left → is_nothing (reply_to (Asked Reap) k) ≡ true →
    call (Asked Reap) k ≡ after_reaps (left - i) k
unfolding after_reaps
reaps_end i left k below none =
    let rest : left - i ≡ suc (left - (i + 1)) = omega arith in
    let step : after_reaps (suc (left - (i + 1))) k ≡ call (Asked Reap) k = rw none refl in
    sym (ap (λ n. after_reaps n k) rest ∙ step)

pub reaps_over : (i left : ℕ) (k : Soak) → left ≤ i → after_reaps (left - i) k ≡ k
unfolding after_reaps
reaps_over i left k over = let none : left - i ≡ 0 = omega arith in ap (λ n. after_reaps n k) none

pub rounds_on : (r most : ℕ) (k : Soak) → r < most → 0 < k.left →
    rounds_played (most - (r + 1)) (r + 1) (round_played r k) ≡ rounds_played (most - r) r k
unfolding rounds_played
rounds_on r most k below some =
    let rest : most - r ≡ suc (most - (r + 1)) = omega arith in
    let next : r + 1 ≡ suc r = omega arith in
    let step : rounds_played (suc (most - (r + 1))) r k
    ≡ rounds_played (most - (r + 1)) (suc r) (round_played r k) = rw (not_zero k.left some) refl in
    ap (λ j. rounds_played (most - (r + 1)) j (round_played r k)) next
    ∙ sym (ap (λ n. rounds_played n r k) rest ∙ step)

pub rounds_end : (n r : ℕ) (k : Soak) → k.left ≡ 0 → rounds_played n r k ≡ k
unfolding rounds_played
rounds_end zero r k none = refl
rounds_end (suc n) r k none = rw none refl

pub rounds_over : (r most : ℕ) (k : Soak) → most ≤ r → rounds_played (most - r) r k ≡ k
unfolding rounds_played
rounds_over r most k over = let none : most - r ≡ 0 = omega arith in ap (λ n. rounds_played n r k) none
