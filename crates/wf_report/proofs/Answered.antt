-- Proves which BlockAck is written for an answer, and which octets of it a sink holds.
use Rattle.std.proofs.Common.{◌≡◌, refl, ap, sym, ◌∙◌, subst, ℕ, ◌≤◌, Bool, List, [], length, take, Option, Some, None, append-nil}
use Rattle.std.specs.Prelude.{option_map, Result, Ok, Err, OnOk}
use Rattle.std.specs.Io.KnownBytes.{append_known}
use Rattle.wf_io.specs.Capture.{packet_octets}
use Rattle.wf_io.specs.Fronts.{HoldsFront}
use Rattle.wf_io.proofs.FrontLaws.{front_partly}
use Rattle.wf_def_world.specs.World.{World, Exchange, exchange}
use Rattle.wf_path.specs.declared.reading.Sent.{Sent as Told}
use Rattle.wf_path.specs.Transmissions.{sent_of}
use Rattle.wf_report.specs.BlockAcks.{block_ack_frame}
use Rattle.wf_report.specs.Packets.{block_acks, words_told, packets_at, octets_of_packets}
use Rattle.wf_report.proofs.SentPackets.{is_open}

-- ---- the BlockAck of an answer

pub acks_none : (at start : ℕ) (words : List ℕ) (wide : Bool) (w : World) (e : ℕ) →
    None ≡ option_map sent_of (exchange w e) →
    octets_of_packets (packets_at at (block_acks start words wide (exchange w e))) ≡ []
acks_none at start words wide w e is = of (exchange w e) refl
  where
    of : (o : Option Exchange) → exchange w e ≡ o →
        octets_of_packets (packets_at at (block_acks start words wide (exchange w e))) ≡ []
    of None none = rw none refl
    of (Some x) known = absurd (let bad : None ≡ Some (sent_of x) = is ∙ ap (option_map sent_of) known in cc)

pub acks_one : (at start : ℕ) (words : List ℕ) (wide : Bool) (w : World) (e : ℕ) (told : Told) →
    Some told ≡ option_map sent_of (exchange w e) →
    octets_of_packets (packets_at at (block_acks start words wide (exchange w e)))
    ≡ packet_octets at (block_ack_frame told.station told.tid start (words_told wide words) wide)
acks_one at start words wide w e told is =
    let o = is_open w e told is in
    ap (λ y. octets_of_packets (packets_at at (block_acks start words wide y))) o.1
    ∙ append-nil (packet_octets at (block_ack_frame (sent_of o.0).station (sent_of o.0).tid start
    (words_told wide words) wide))
    ∙ ap (λ (t : Told). packet_octets at (block_ack_frame t.station t.tid start (words_told wide words) wide))
    (sym o.2)

-- ---- the octets that a sink holds

append_none : (held : Option (List ℕ)) → held ≡ append_known held []
append_none None = refl
append_none (Some xs) = ap Some (sym (append-nil xs))

pub nothing_written : (held : Option (List ℕ)) (octets : List ℕ) → octets ≡ [] →
    held ≡ append_known held octets
nothing_written held octets none = append_none held ∙ ap (append_known held) (sym none)

pub nothing_front : (held : Option (List ℕ)) (octets : List ℕ) → HoldsFront held held octets
nothing_front held octets = record { written = []; rest = octets; is = refl; holds = append_none held }

pub one_written : (held new : Option (List ℕ)) (at clock : ℕ) (f g all : List ℕ) → at ≡ clock → f ≡ g →
    all ≡ packet_octets clock g → new ≡ append_known held (packet_octets at f) → new ≡ append_known held all
one_written held new at clock f g all time same is wrote =
    wrote ∙ ap (λ n. append_known held (packet_octets n f)) time
    ∙ ap (λ o. append_known held (packet_octets clock o)) same ∙ ap (append_known held) (sym is)

pub one_front : (held new : Option (List ℕ)) (at clock : ℕ) (f g all : List ℕ) → at ≡ clock → f ≡ g →
    all ≡ packet_octets clock g →
    (n : ℕ) × (n ≤ length (packet_octets at f)) × (new ≡ append_known held (take n (packet_octets at f))) →
    HoldsFront held new all
one_front held new at clock f g all time same is wrote =
    let whole : packet_octets at f ≡ all = ap (λ n. packet_octets n f) time ∙ ap (packet_octets clock) same
    ∙ sym is in
    subst (HoldsFront held new) whole (front_partly (packet_octets at f) held new wrote)

-- A consequence of a fact that holds after success.
pub on_ok : {T E A B : Type 0} (result : Result T E) → (A → B) → OnOk result A → OnOk result B
on_ok (Ok value) then is = then is
on_ok (Err fault) then is = tt
