-- Proves that the packets of a run can be in a capture, so that `frames` lists each of them.
use Rattle.std.proofs.Common.{◌≡◌, refl, sym, ap, subst, ℕ, ◌+◌, ◌*◌, ◌^◌, ◌<◌, ◌≤◌, Bool, true, false, List, [], ◌∷◌, ◌++◌, length, map, Option, Some, None, lit≤, arith, length-append}
use Rattle.std.specs.Prelude.{option_and_then}
use Rattle.std.specs.Option.{option_map_or}
use Rattle.wf_frame.specs.Settings.{IsInRange}
use Rattle.wf_frame.specs.declared.notes.GroupReply.{GroupReply}
use Rattle.wf_frame.specs.declared.notes.GroupReply.TheVariants as answer
use Rattle.wf_frame.specs.declared.notes.Note.{Note}
use Rattle.wf_frame.specs.declared.notes.Note.TheVariants.{Enqueue, Asked}
use Rattle.wf_frame.specs.declared.notes.ReplyNote.{ReplyNote}
use Rattle.wf_frame.specs.declared.notes.ReplyNote.TheVariants as reply
use Rattle.wf_frame.specs.declared.settings.Config.{Config}
use Rattle.wf_def_lists.specs.Lengths.{greatest_body}
use Rattle.wf_report.specs.ListedPackets.{most_octets_read}
use Rattle.wf_report.specs.ListingLaw.{Sent, AreWritable, IsListed}
use Rattle.wf_report.proofs.WrittenCaptures.{written_law}
use Rattle.wf_octets.specs.HeaderLayout.{header_as_octets}
use Rattle.wf_def_world.specs.Group.{GroupFrame}
use Rattle.wf_def_world.specs.World.{World, Mpdu, Exchange, Content, Frames, Request, exchange, frame, group_of, len_of, opening}
use Rattle.wf_def_world.specs.Run.{Entry, world_after}
use Rattle.wf_def_world.specs.Step.{step}
use Rattle.wf_law_runs.specs.Lengths.{HasLengths}
use Rattle.wf_law_runs.specs.Queues.{IsAtMost, AreAtMost}
use Rattle.wf_law_runs.proofs.Sent.Lengths.{IsStocked, stocked}
use Rattle.wf_path.specs.Transmissions.{header_of, data_octets, octets_of_content}
use Rattle.wf_path.proofs.MadeUp.{plain, frames_plain}
use Rattle.wf_cell.proofs.Runs.{world_then, time_by, config_after}
use Rattle.wf_cell.proofs.Written.{header_long}
use Rattle.wf_report.specs.Captures.{most_calls_timed, sample_of, samples, packets_by, packets_from, packets_in, capture_of}
use Rattle.wf_report.specs.GroupFrames.{group_frames}
use Rattle.wf_report.specs.Packets.{frames_sent, frames_by, frames_of_group, bss_named, block_acks, exchange_answered, packets_at}
use Rattle.wf_report.proofs.Sampled.{length_sample}
use Rattle.wf_report.proofs.Beacons.{beacon_short, group_short}

-- ---- frames that fit in a packet

abbrev IsShort : List ℕ → Type 0
IsShort octets = length octets ≤ 65535

abbrev AreShort : List (List ℕ) → Type 0
AreShort [] = Unit {0}
AreShort (f ∷ frames) = IsShort f × AreShort frames

-- The sample of a call has the length in the call.
sample_length : (note : Note) → length (sample_of note).body ≡ len_of note
sample_length (Enqueue s t flow len) = length_sample flow len
sample_length (Asked ask) = refl

-- Its source has six octets.
sample_source : (note : Note) → length (sample_of note).source ≡ 6
sample_source (Enqueue s t flow len) = refl
sample_source (Asked ask) = refl

data_short : (w : World) (x : Exchange) → IsStocked greatest_body w → (mpdus : List Mpdu) →
    AreShort (map (data_octets plain w (samples w) x) mpdus)
data_short w x all [] = tt
data_short w x all (m ∷ mpdus) = (
  omega (
    arith,
    all.short m.id,
    sample_length (frame w m.id).note,
    header_long w (samples w) x m (sample_source (frame w m.id).note),
    length-append (header_as_octets (header_of plain w (samples w) x m)) (samples w m.id).body,
  ),
  data_short w x all mpdus,
)

content_short : (w : World) (x : Exchange) → IsStocked greatest_body w → (c : Content) →
    AreShort (octets_of_content plain w (samples w) x c)
content_short w x all (Frames mpdus) = data_short w x all mpdus
content_short w x all (Request start) = (lit≤ tt, tt)

sent_short : (w : World) → IsStocked greatest_body w → (e : ℕ) → AreShort (frames_sent w (samples w) e)
sent_short w all e = of (exchange w e) refl
  where
    of : (o : Option Exchange) → exchange w e ≡ o → AreShort (frames_sent w (samples w) e)
    of None none = rw none tt
    of (Some x) known = rw known (subst AreShort (sym (frames_plain w (samples w) x))
        (content_short w x all x.content))

acks_short : (start b0 b1 b2 b3 : ℕ) (wide : Bool) (o : Option Exchange) →
    AreShort (block_acks start (b0 ∷ b1 ∷ b2 ∷ b3 ∷ []) wide o)
acks_short start b0 b1 b2 b3 wide None = tt
acks_short start b0 b1 b2 b3 true (Some x) = (lit≤ tt, tt)
acks_short start b0 b1 b2 b3 false (Some x) = (lit≤ tt, tt)

flying_short : (number : ℕ) (more : Bool) (flying : Option GroupFrame) →
    AreShort (group_frames number more flying)
flying_short number more None = tt
flying_short number more (Some x) = (group_short number more x.len, tt)

group_frames_short : (w : World) (b : ℕ) → w.config.stations ≤ 256 → (answered : GroupReply) →
    AreShort (frames_of_group w b answered)
group_frames_short w b few (answer.Queued id) = tt
group_frames_short w b few (answer.Beacon count follows) = (beacon_short w b few, tt)
group_frames_short w b few (answer.Send id number air more) =
    flying_short number more (group_of w b).flying
group_frames_short w b few (answer.Done id) = tt

frames_asked_short : (w : World) → w.config.stations ≤ 256 → (answered : GroupReply) (asked : Option ℕ) →
    AreShort (option_map_or (λ b. frames_of_group w b answered) asked [])
frames_asked_short w few answered None = tt
frames_asked_short w few answered (Some b) = group_frames_short w b few answered

frames_short : (w : World) → IsStocked greatest_body w → w.config.stations ≤ 256 → (note : Note)
    (answered : ReplyNote) →
    AreShort (frames_by w (samples w) note answered)
frames_short w all few note (reply.Send e s t air part more eosp) = sent_short w all e
frames_short w all few note (reply.Ba start b0 b1 b2 b3 wide) =
    acks_short start b0 b1 b2 b3 wide (option_and_then (exchange w) (exchange_answered note))
frames_short w all few note reply.Ack = (lit≤ tt, tt)
frames_short w all few note (reply.Group answered) = frames_asked_short w few answered (bss_named w note)
frames_short w all few note _ = tt

writable_at : (at : ℕ) (frames : List (List ℕ)) → at < 2 ^ 32 * 1000000 → AreShort frames →
    AreWritable (packets_at at frames)
writable_at at [] time short = tt
writable_at at (f ∷ frames) time short = (
  record { time = time; most = short.0 },
  writable_at at frames time short.1,
)

writable_both : (one two : List Sent) → AreWritable one → AreWritable two → AreWritable (one ++ two)
writable_both [] two a b = b
writable_both (p ∷ one) two a b = (a.0, writable_both one two a.1 b)

-- ---- a run

most_then : (h : List Entry) (e : Entry) → AreAtMost greatest_body h → IsAtMost greatest_body e.1 →
    AreAtMost greatest_body (h ++ e ∷ [])
most_then [] e h k = (k, tt)
most_then (x ∷ xs) e h k = (h.0, most_then xs e h.1 k)

writable_from : (config : Config) (past rest : List Entry) → IsInRange config → AreAtMost greatest_body past →
    AreAtMost greatest_body rest → length past + length rest ≤ most_calls_timed →
    AreWritable (packets_from (world_after (opening config) past) rest)
unfolding packets_from
writable_from config past [] range old new few = tt
writable_from config past (e ∷ rest) range old new few =
    let h : List Entry = past ++ e ∷ [] in
    let long : length h ≡ length past + 1 = omega (arith, length-append past (e ∷ [])) in
    let most : AreAtMost greatest_body h = most_then past e old new.0 in
    let w : World = world_after (opening config) past in
    let then : world_after (opening config) h ≡ (step w e.1).world = world_then past (opening config) e in
    writable_both (packets_by w e.1) (packets_from (step w e.1).world rest)
    (writable_at (step w e.1).world.clock (frames_by (step w e.1).world (samples (step w e.1).world) e.1
    (step w e.1).reply)
    (subst (λ (v : World). v.clock < 2 ^ 32 * 1000000)
    then (omega (arith, time_by config h range, long, few)))
    (frames_short (step w e.1).world (subst (IsStocked greatest_body)
    then (stocked greatest_body config h most))
    (subst (λ (v : World). v.config.stations ≤ 256)
    then (omega (arith, range.stations.1, ap (λ (c : Config). c.stations) (config_after h (opening config)))))
    e.1 (step w e.1).reply))
    (subst (λ (v : World). AreWritable (packets_from v rest))
    then (writable_from config h rest range most new.1 (omega (arith, long, few))))

pub run_listed : (config : Config) (history : List Entry) → IsInRange config → HasLengths history →
    length history ≤ most_calls_timed →
    length (capture_of config history) ≤ most_octets_read → IsListed (packets_in config history)
unfolding world_after
run_listed config history range lengths few small =
    written_law (packets_in config history) (writable_from config [] history range tt lengths.1
    (omega (arith, few))) small
