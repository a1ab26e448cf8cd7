-- Defines the soak: a long random history. A draw is the next 32-bit word of the PCG generator XSH RR 64/32
-- with this seed and stream 0. The calls depend on the machine's replies, so the history is a function of the
-- seed and of the number of calls. A soak of devices draws the calls of drivers and of offloaded stations
-- too, and a soak of agreements also those of plain stations and of agreements.
use Rattle.std.specs.Prelude.{◌≡◌, ◌≤◌, ℕ, zero, suc, ◌+◌, ◌-◌, ◌/◌, ◌%◌, ◌==◌, Bool, true, false, not, ◌&&◌, ◌||◌, List, [], ◌∷◌, ◌++◌, Option, Some, None, if◌then◌else◌, length}
use Rattle.rand_pcg.specs.Lcg.{Lcg, started, increment_of}
use Rattle.rand_pcg.specs.Pcg.{pcg32, multiplier_64}
use Rattle.wf_frame.specs.Settings.{standard}
use Rattle.wf_frame.specs.declared.classes.Class.{Class}
use Rattle.wf_frame.specs.declared.classes.Class.TheVariants.{Bk, Be, Vi, Vo}
use Rattle.wf_frame.specs.declared.notes.Limits.{Limits}
use Rattle.wf_frame.specs.declared.notes.Ask.{Ask}
use Rattle.wf_frame.specs.declared.notes.Ask.TheVariants.{Leave, Rate, Tick, Pull, Arrive, Answer, Done, Sleep, Wake, Poll, Rx, Reap, Ampdu, Stop, Start, Unsent, GiveUp, Flush, Offload, Weight, Hold, Begin, Free, Cease}
use Rattle.wf_frame.specs.declared.notes.Ask.TheVariants as ask
use Rattle.wf_frame.specs.declared.notes.AskedRate.TheVariants.{Vht}
use Rattle.wf_frame.specs.declared.notes.Note.{Note}
use Rattle.wf_frame.specs.declared.notes.Note.TheVariants.{Enqueue, Asked}
use Rattle.wf_frame.specs.declared.notes.Part.{Part}
use Rattle.wf_frame.specs.declared.notes.Part.TheVariants.{Mpdus, Batch, Request}
use Rattle.wf_frame.specs.declared.notes.Part.TheVariants as part
use Rattle.wf_frame.specs.declared.notes.Refusal.TheVariants.{Nothing}
use Rattle.wf_frame.specs.declared.notes.ReplyNote.{ReplyNote}
use Rattle.wf_frame.specs.declared.notes.ReplyNote.TheVariants.{Send, Refused}
use Rattle.wf_def_lists.specs.Table.{at}
use Rattle.wf_def_world.specs.World.{World, opening}
use Rattle.wf_def_world.specs.Step.{step}
use Rattle.wf_def_world.specs.Run.{Entry, by, world_after}
use Rattle.wf_run_histories.specs.Stations.{standard_join, standard_rate}
use Rattle.wf_run_histories.specs.declared.soak.soaks.SoakKind.{SoakKind}
use Rattle.wf_run_histories.specs.declared.soak.soaks.SoakKind.TheVariants.{Standard, Agreements}

-- Whether a soak draws the calls of drivers and of offloaded stations.
abbrev pub has_devices : SoakKind → Bool
has_devices Standard = false
has_devices _ = true

-- Whether it also draws those of plain stations and of agreements.
abbrev pub has_agreements : SoakKind → Bool
has_agreements Agreements = true
has_agreements _ = false

-- A soak in progress: its kind, the calls so far, the random words to come, and the number of calls that are
-- left.
pub record Soak : Type 0 where
  pub kind : SoakKind
  pub past : List Entry
  pub words : Lcg
  pub left : ℕ

-- The machine, with the standard settings, after the calls so far.
abbrev pub machine_of : Soak → World
machine_of k = world_after (opening standard) k.past

-- A later state of the same soak: some of the calls that were left have been made.
abbrev pub IsLater : Soak → Soak → Type 0
IsLater k later = (length later.past + later.left ≡ length k.past + k.left) × (later.left ≤ k.left)

-- The next word, and the soak after it is drawn.
abbrev pub word : Soak → ℕ
word k = (pcg32 k.words).0

abbrev pub drawn : Soak → Soak
drawn k = record k { words = (pcg32 k.words).1 }

-- The soak after a call, which is made if one is left, and the reply to it.
unfoldable pub call : Note → Soak → Soak
call note k = if k.left == 0 then k else record k { past = k.past ++ by 0 note ∷ []; left = k.left - 1 }

unfoldable pub reply_to : Note → Soak → Option ReplyNote
reply_to note k = if k.left == 0 then None else Some (step (machine_of k) note).reply

-- ---- the stations

-- The join of a station: one that is offloaded, or a standard one with a window from this number on.
abbrev pub join_of : Bool → ℕ → ℕ → Ask
join_of offloaded s start = if offloaded then Offload s 3 1 else standard_join s start

-- The first join of a station. In a soak of devices the odd ones are offloaded; in a soak of agreements half
-- of the others are plain.
abbrev pub first_join : SoakKind → ℕ → Ask
first_join kind s =
    if has_agreements kind && (s % 4 == 2) then ask.Plain s (4080 + s) 3 1
    else join_of (has_devices kind && (s % 2 == 1)) s (4080 + s)

-- A station joins, and its rate is set.
abbrev pub station_joins : ℕ → Soak → Soak
station_joins s k = call (Asked (standard_rate s)) (call (Asked (first_join k.kind s)) k)

-- n stations join, from station s on.
unfoldable pub stations_join : ℕ → ℕ → Soak → Soak
stations_join s zero k = k
stations_join s (suc n) k = stations_join (suc s) n (station_joins s k)

-- ---- a round

-- The frame that a word determines.
abbrev pub frame_for : ℕ → ℕ → Note
frame_for station w = Enqueue station ((w / 16) % 8) ((w / 128) % 256) (64 + (w / 32768) % 1437)

abbrev pub frame_put : Soak → Soak
frame_put k = call (frame_for (word k % 16) (word k)) (drawn k)

-- Every eighth round a station is charged for receiving.
abbrev pub air_used : ℕ → Soak → Soak
air_used r k = if r % 8 == 0 then call (Asked (Rx ((r / 8) % 16) Be 200)) k else k

-- Every 64 rounds a station sleeps; it polls 16 rounds later and wakes 32 rounds later.
abbrev pub sleeper_called : ℕ → Soak → Soak
sleeper_called r k =
    if r % 64 == 0 then call (Asked (Sleep ((r / 64) % 16))) k
    else (if r % 64 == 16 then call (Asked (Poll ((r / 64) % 16))) k
    else (if r % 64 == 32 then call (Asked (Wake ((r / 64) % 16))) k else k))

-- One transmission of an exchange, which arrives for nine of ten words.
abbrev pub lets_arrive : Soak → Bool
lets_arrive k = not (word k % 10 == 0)

-- A transmission that does not arrive. In a soak of devices, one of three never went on the air, and one of
-- three is given up.
abbrev pub missed : Bool → ℕ → ℕ → ℕ → Soak → Soak
missed false w e i k = k
missed true w e i k =
    if (w / 10) % 3 == 0 then call (Asked (Unsent e i)) k
    else (if (w / 10) % 3 == 1 then call (Asked (GiveUp e i)) k else k)

abbrev pub transmission_sent : ℕ → ℕ → Soak → Soak
transmission_sent e i k =
    if lets_arrive k then call (Asked (Arrive e i)) (drawn k)
    else missed (has_devices k.kind) (word k) e i (drawn k)

-- n transmissions, from index i on, and whether one of them arrived.
unfoldable pub all_sent : ℕ → ℕ → ℕ → Soak → Soak
all_sent e i zero k = k
all_sent e i (suc n) k = all_sent e (suc i) n (transmission_sent e i k)

unfoldable pub some_arrive : ℕ → ℕ → ℕ → Soak → Bool
some_arrive e i zero k = false
some_arrive e i (suc n) k = lets_arrive k || some_arrive e (suc i) n (transmission_sent e i k)

abbrev pub after_answer_if : Bool → ℕ → Soak → Soak
after_answer_if answered e k = if answered then call (Asked (Answer e)) k else k

-- If an exchange is answered, the answer is heard for nineteen of twenty words.
abbrev pub exchange_ended : Bool → ℕ → Soak → Soak
exchange_ended answered e k = call (Asked (Done e (answered && not (word k % 20 == 0)) None)) (drawn k)

abbrev pub transmissions_in : Part → ℕ
transmissions_in (Mpdus pairs) = length pairs
transmissions_in (Batch ids) = length ids
transmissions_in (part.Plain pairs) = length pairs
transmissions_in (Request start) = 1

unfoldable pub exchange_played : ℕ → ℕ → Soak → Soak
exchange_played e n k =
    let answered : Bool = some_arrive e 0 n k in
    exchange_ended answered e (after_answer_if answered e (all_sent e 0 n k))

-- The exchange that a reply begins, and its number of transmissions.
abbrev pub sending : Option ReplyNote → Option (ℕ × ℕ)
sending (Some (Send e s t air part more eosp)) = Some (e, transmissions_in part)
sending _ = None

-- The calls that follow the reply to a pull.
abbrev pub sending_played : Option (ℕ × ℕ) → Soak → Soak
sending_played None k = k
sending_played (Some exchange) k = exchange_played exchange.0 exchange.1 k

abbrev pub class_in_round : ℕ → Class
class_in_round r = at Vo (Bk ∷ Be ∷ Vi ∷ []) (r % 4)

-- The limits of a round's pull: none, except in a soak of devices.
abbrev pub limit_if : Bool → ℕ → Option ℕ
limit_if limited most = if limited then Some most else None

abbrev pub limits_in : Bool → ℕ → Limits
limits_in device r = record {
  frames = limit_if (device && (r % 3 == 0)) (1 + r % 8);
  air =
      limit_if (device && (r % 5 == 0)) (100 + r % 2000);
}

-- The call for a station and its device that a word determines, by the table of these calls.
abbrev pub device_calls : ℕ → ℕ → List Ask
device_calls s w =
    Weight s (1 + w % 16) ∷ Weight s (1 + w % 16) ∷ Stop s ∷ Start s ∷ Start s ∷ Flush s (w % 8)
    ∷ Flush s (w % 8) ∷ Leave s ∷ join_of true s 0 ∷ join_of false s (w % 4096)
    ∷ Rate s (Vht (w % 10) 80 false 2) ∷ []

unfoldable pub device_call : ℕ → Ask
device_call w =
    at (Ampdu ((w / 12) % 16) (4096 + (w / 192) % 65536)) (device_calls ((w / 12) % 16) (w / 192)) (w % 12)

-- In a soak of devices each pull is followed by such a call, before its exchange is played.
unfoldable pub device_called : Soak → Soak
device_called k = if has_devices k.kind then call (Asked (device_call (word k))) (drawn k) else k

-- The call for the agreement of a TID that a word determines, by the table of these calls.
abbrev pub agreement_calls : ℕ → ℕ → ℕ → List Ask
agreement_calls s t w =
    Hold s t ∷ Hold s t ∷ Begin s t (1 + w % 256) ∷ Begin s t (1 + w % 256) ∷ Free s t ∷ Cease s t ∷ Cease s t
    ∷ []

unfoldable pub agreement_call : ℕ → Ask
agreement_call w =
    at (ask.Plain ((w / 8) % 16) ((w / 1024) % 4096) 3 1)
    (agreement_calls ((w / 8) % 16) ((w / 128) % 8) (w / 1024)) (w % 8)

-- In a soak of agreements such a call follows too.
unfoldable pub agreement_called : Soak → Soak
agreement_called k = if has_agreements k.kind then call (Asked (agreement_call (word k))) (drawn k) else k

unfoldable pub after_pull : Class → Limits → Soak → Soak
after_pull c limits k =
    sending_played (sending (reply_to (Asked (Pull c limits)) k))
    (agreement_called (device_called (call (Asked (Pull c limits)) k)))

-- Reaps until no finished frame or no call is left, at most n times.
abbrev pub is_nothing : Option ReplyNote → Bool
is_nothing (Some (Refused Nothing)) = true
is_nothing _ = false

unfoldable pub after_reaps : ℕ → Soak → Soak
after_reaps zero k = k
after_reaps (suc n) k = if is_nothing (reply_to (Asked Reap) k) then call (Asked Reap) k
    else after_reaps n (call (Asked Reap) k)

abbrev pub after_all_reaps : Soak → Soak
after_all_reaps k = after_reaps k.left k

unfoldable pub round_played : ℕ → Soak → Soak
round_played r k =
    after_all_reaps (after_pull (class_in_round r) (limits_in (has_devices k.kind) r)
    (sleeper_called r (air_used r (call (Asked (Tick 1000))
    (frame_put (frame_put (frame_put (frame_put k))))))))

-- Rounds from round r on, until no call is left, at most n of them.
unfoldable pub rounds_played : ℕ → ℕ → Soak → Soak
rounds_played zero r k = k
rounds_played (suc n) r k = if k.left == 0 then k else rounds_played n (suc r) (round_played r k)

abbrev pub soak_begun : ℕ → ℕ → SoakKind → Soak
soak_begun seed calls kind = record {
  kind = kind;
  past =
      [];
  words = started 64 multiplier_64 seed (increment_of 64 0);
  left =
      calls;
}

-- The history of a seed and a number of calls, of this kind.
unfoldable pub soak_history : ℕ → ℕ → SoakKind → List Entry
soak_history seed calls kind =
    (rounds_played calls 0 (stations_join 0 16 (soak_begun seed calls kind))).past
