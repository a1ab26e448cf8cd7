-- Proves that each frame of a soak has 64 to 1500 octets, which every step of a round preserves.
use Rattle.std.proofs.Common.{◌==◌, ◌&&◌, ◌-◌, ◌+◌, ◌/◌, ◌%◌, ℕ, zero, suc, Bool, true, false, List, [], ◌∷◌, ◌++◌, arith, if◌then◌else◌}
use Rattle.std.specs.Prelude.{Option, Some, None}
use Rattle.wf_frame.specs.declared.classes.Class.{Class}
use Rattle.wf_frame.specs.declared.notes.Ask.{Ask}
use Rattle.wf_frame.specs.declared.notes.Limits.{Limits}
use Rattle.wf_frame.specs.declared.notes.Ask.TheVariants.{Tick, Pull, Arrive, Answer, Sleep, Wake, Poll, Rx, Reap, Unsent, GiveUp}
use Rattle.wf_frame.specs.declared.classes.Class.TheVariants.{Be}
use Rattle.wf_frame.specs.declared.notes.Note.{Note}
use Rattle.wf_frame.specs.declared.notes.Note.TheVariants.{Asked}
use Rattle.wf_def_world.specs.Run.{Entry, by}
use Rattle.wf_run_histories.specs.Stations.{standard_rate}
use Rattle.wf_run_histories.specs.Lengths.{HasSoakLength, HaveSoakLengths}
use Rattle.wf_run_histories.specs.declared.soak.soaks.SoakKind.{SoakKind}
use Rattle.wf_run_histories.specs.Soak.{Soak, call, reply_to, stations_join, station_joins, frame_for, frame_put, word, drawn, air_used, sleeper_called, has_devices, has_agreements, first_join, limits_in, device_call, device_called, agreement_call, agreement_called, missed, lets_arrive, transmission_sent, all_sent, some_arrive, after_answer_if, exchange_ended, exchange_played, sending, sending_played, class_in_round, after_pull, is_nothing, after_reaps, round_played, rounds_played, soak_begun, soak_history}

-- The frames of the calls so far have such lengths.
abbrev pub Keeps : Soak → Type 0
Keeps k = HaveSoakLengths k.past

behind : (es : List Entry) (e : Entry) → HaveSoakLengths es → HasSoakLength e.1 →
    HaveSoakLengths (es ++ e ∷ [])
behind [] e before has = (has, tt)
behind (x ∷ es) e before has = (before.0, behind es e before.1 has)

either_way : (b : Bool) (one other : Soak) → Keeps one → Keeps other → Keeps (if b then one else other)
either_way true one other first second = first
either_way false one other first second = second

called : (note : Note) (k : Soak) → HasSoakLength note → Keeps k → Keeps (call note k)
unfolding call
called note k has before =
    either_way (k.left == 0) k (record k { past = k.past ++ by 0 note ∷ []; left = k.left - 1 }) before
    (behind k.past (by 0 note) before has)

-- A call without a frame.
asked : (ask : Ask) (k : Soak) → Keeps k → Keeps (call (Asked ask) k)
asked ask k before = called (Asked ask) k tt before

joined : (s n : ℕ) (k : Soak) → Keeps k → Keeps (stations_join s n k)
unfolding stations_join
joined s zero k before = before
joined s (suc n) k before =
    let join : Ask = first_join k.kind s in
    joined (suc s) n (station_joins s k) (asked (standard_rate s) (call (Asked join) k) (asked join k before))

within : (station w : ℕ) → HasSoakLength (frame_for station w)
within station w = (omega arith, omega arith)

put : (k : Soak) → Keeps k → Keeps (frame_put k)
put k before = called (frame_for (word k % 16) (word k)) (drawn k) (within (word k % 16) (word k)) before

used : (r : ℕ) (k : Soak) → Keeps k → Keeps (air_used r k)
used r k before = either_way (r % 8 == 0) (call (Asked (Rx ((r / 8) % 16) Be 200)) k) k
    (asked (Rx ((r / 8) % 16) Be 200) k before) before

slept : (r : ℕ) (k : Soak) → Keeps k → Keeps (sleeper_called r k)
slept r k before =
    let station : ℕ = (r / 64) % 16 in
    either_way (r % 64 == 0) (call (Asked (Sleep station)) k) _ (asked (Sleep station) k before)
    (either_way (r % 64 == 16) (call (Asked (Poll station)) k) _ (asked (Poll station) k before)
    (either_way (r % 64 == 32) (call (Asked (Wake station)) k) k (asked (Wake station) k before) before))

marked : (device : Bool) (w e i : ℕ) (k : Soak) → Keeps k → Keeps (missed device w e i k)
marked false w e i k before = before
marked true w e i k before =
    either_way ((w / 10) % 3 == 0) (call (Asked (Unsent e i)) k) _ (asked (Unsent e i) k before)
    (either_way ((w / 10) % 3 == 1) (call (Asked (GiveUp e i)) k) k (asked (GiveUp e i) k before) before)

transmitted : (e i : ℕ) (k : Soak) → Keeps k → Keeps (transmission_sent e i k)
transmitted e i k before =
    either_way (lets_arrive k) (call (Asked (Arrive e i)) (drawn k))
    (missed (has_devices k.kind) (word k) e i (drawn k))
    (asked (Arrive e i) (drawn k) before) (marked (has_devices k.kind) (word k) e i (drawn k) before)

sent : (e i n : ℕ) (k : Soak) → Keeps k → Keeps (all_sent e i n k)
unfolding all_sent
sent e i zero k before = before
sent e i (suc n) k before = sent e (suc i) n (transmission_sent e i k) (transmitted e i k before)

answered : (some : Bool) (e : ℕ) (k : Soak) → Keeps k → Keeps (after_answer_if some e k)
answered some e k before = either_way some (call (Asked (Answer e)) k) k (asked (Answer e) k before) before

ended : (some : Bool) (e : ℕ) (k : Soak) → Keeps k → Keeps (exchange_ended some e k)
ended some e k before = asked _ (drawn k) before

played : (e n : ℕ) (k : Soak) → Keeps k → Keeps (exchange_played e n k)
unfolding exchange_played
played e n k before =
    ended (some_arrive e 0 n k) e (after_answer_if (some_arrive e 0 n k) e (all_sent e 0 n k))
    (answered (some_arrive e 0 n k) e (all_sent e 0 n k) (sent e 0 n k before))

followed : (exchange : Option (ℕ × ℕ)) (k : Soak) → Keeps k → Keeps (sending_played exchange k)
followed None k before = before
followed (Some exchange) k before = played exchange.0 exchange.1 k before

device : (k : Soak) → Keeps k → Keeps (device_called k)
unfolding device_called
device k before = either_way (has_devices k.kind) (call (Asked (device_call (word k))) (drawn k)) k
    (asked (device_call (word k)) (drawn k) before) before

agreement : (k : Soak) → Keeps k → Keeps (agreement_called k)
unfolding agreement_called
agreement k before = either_way (has_agreements k.kind) (call (Asked (agreement_call (word k))) (drawn k)) k
    (asked (agreement_call (word k)) (drawn k) before) before

pulled : (c : Class) (limits : Limits) (k : Soak) → Keeps k → Keeps (after_pull c limits k)
unfolding after_pull
pulled c limits k before =
    let pull : Soak = call (Asked (Pull c limits)) k in
    followed (sending (reply_to (Asked (Pull c limits)) k)) (agreement_called (device_called pull))
    (agreement (device_called pull) (device pull (asked (Pull c limits) k before)))

reaped : (n : ℕ) (k : Soak) → Keeps k → Keeps (after_reaps n k)
unfolding after_reaps
reaped zero k before = before
reaped (suc n) k before =
    either_way (is_nothing (reply_to (Asked Reap) k)) (call (Asked Reap) k)
    (after_reaps n (call (Asked Reap) k)) (asked Reap k before)
    (reaped n (call (Asked Reap) k) (asked Reap k before))

-- The frames and the tick at the beginning of a round.
abbrev begun : Soak → Soak
begun k = call (Asked (Tick 1000)) (frame_put (frame_put (frame_put (frame_put k))))

begins : (k : Soak) → Keeps k → Keeps (begun k)
begins k before =
    let one : Soak = frame_put k in
    let two : Soak = frame_put one in
    let three : Soak = frame_put two in
    asked (Tick 1000) (frame_put three) (put three (put two (put one (put k before))))

round : (r : ℕ) (k : Soak) → Keeps k → Keeps (round_played r k)
unfolding round_played
round r k before =
    let air : Soak = air_used r (begun k) in
    let limits : Limits = limits_in (has_devices k.kind) r in
    let pull : Soak = after_pull (class_in_round r) limits (sleeper_called r air) in
    reaped pull.left pull (pulled (class_in_round r) limits (sleeper_called r air)
    (slept r air (used r (begun k) (begins k before))))

rounds : (n r : ℕ) (k : Soak) → Keeps k → Keeps (rounds_played n r k)
unfolding rounds_played
rounds zero r k before = before
rounds (suc n) r k before = either_way (k.left == 0) k (rounds_played n (suc r) (round_played r k)) before
    (rounds n (suc r) (round_played r k) (round r k before))

pub soak_lengths : (seed calls : ℕ) (kind : SoakKind) → HaveSoakLengths (soak_history seed calls kind)
unfolding soak_history
soak_lengths seed calls kind = rounds calls 0 (stations_join 0 16 (soak_begun seed calls kind))
    (joined 0 16 (soak_begun seed calls kind) tt)
