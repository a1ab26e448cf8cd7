-- Defines what a call puts on the air: the octets of its frames, and their packets.
use Rattle.std.specs.Prelude.{ℕ, Bool, true, false, List, [], ◌∷◌, map, flat_map, Option, Some, None, option_and_then, if◌then◌else◌}
use Rattle.std.specs.Option.{option_map_or}
use Rattle.wf_frame.specs.Frames.{FrameValue}
use Rattle.wf_frame.specs.declared.notes.Ask.TheVariants.{Answer, Group}
use Rattle.wf_frame.specs.declared.notes.GroupReply.{GroupReply}
use Rattle.wf_frame.specs.declared.notes.GroupReply.TheVariants as answer
use Rattle.wf_frame.specs.declared.notes.Note.{Note}
use Rattle.wf_frame.specs.declared.notes.Note.TheVariants.{Asked}
use Rattle.wf_frame.specs.declared.notes.ReplyNote.{ReplyNote}
use Rattle.wf_frame.specs.declared.notes.ReplyNote.TheVariants.{Send, Ba, Ack}
use Rattle.wf_frame.specs.declared.notes.ReplyNote.TheVariants as reply
use Rattle.wf_io.specs.Capture.{packet_octets}
use Rattle.wf_report.specs.ListingLaw.{Sent}
use Rattle.wf_def_world.specs.World.{World, Exchange, exchange, group_of}
use Rattle.wf_def_world.specs.Refusals.{is_bad_bss}
use Rattle.wf_path.specs.Addresses.{made_up}
use Rattle.wf_path.specs.Transmissions.{frames_on_air}
use Rattle.wf_report.specs.AckFrames.{ack_frame}
use Rattle.wf_report.specs.BlockAcks.{block_ack_frame}
use Rattle.wf_report.specs.GroupFrames.{beacon_frame, group_frames}

-- The octets of each transmission of exchange e, by index, with placeholder addresses, or none if it is not
-- open; `bodies` has the frame of each id.
abbrev pub frames_sent : World → (ℕ → FrameValue) → ℕ → List (List ℕ)
frames_sent w bodies e = option_map_or (λ x. frames_on_air made_up w bodies x) (exchange w e) []

-- The exchange that a call answers.
abbrev pub exchange_answered : Note → Option ℕ
exchange_answered (Asked (Answer e)) = Some e
exchange_answered note = None

-- The words of a bitmap that are sent: all four for 256 numbers, the first for 64.
abbrev pub words_told : Bool → List ℕ → List ℕ
words_told true words = words
words_told false [] = []
words_told false (word ∷ words) = word ∷ []

-- The BlockAck of an exchange, from its station and of its TID.
abbrev pub block_acks : ℕ → List ℕ → Bool → Option Exchange → List (List ℕ)
block_acks start words wide None = []
block_acks start words wide (Some x) = block_ack_frame x.station x.tid start (words_told wide words) wide ∷ []

-- The BSS that a call about group frames names, if there is one of that number. If there is none, the call
-- is refused.
abbrev pub bss_named : World → Note → Option ℕ
bss_named w (Asked (Group call)) = if is_bad_bss w call.bss then None else Some call.bss
bss_named w note = None

-- The frames that a call about the group frames of BSS b puts on the air, by the world after it and its
-- answer: a beacon, or the group frame that goes on the air.
abbrev pub frames_of_group : World → ℕ → GroupReply → List (List ℕ)
frames_of_group w b (answer.Queued id) = []
frames_of_group w b (answer.Beacon count follows) = beacon_frame w b ∷ []
frames_of_group w b (answer.Send id number air more) = group_frames number more (group_of w b).flying
frames_of_group w b (answer.Done id) = []

-- The frames that a call puts on the air, by the world after it and its reply: each transmission of the
-- exchange that begins, by index, or the BlockAck or the Ack of the exchange that is answered, or a beacon or
-- a group frame.
abbrev pub frames_by : World → (ℕ → FrameValue) → Note → ReplyNote → List (List ℕ)
frames_by w bodies note (Send e s t air part more eosp) = frames_sent w bodies e
frames_by w bodies note (Ba start b0 b1 b2 b3 wide) =
    block_acks start (b0 ∷ b1 ∷ b2 ∷ b3 ∷ []) wide (option_and_then (exchange w) (exchange_answered note))
frames_by w bodies note Ack = ack_frame ∷ []
frames_by w bodies note (reply.Group answer) =
    option_map_or (λ b. frames_of_group w b answer) (bss_named w note) []
frames_by w bodies note reply = []

-- The packets of these frames, all with the same time.
abbrev pub packets_at : ℕ → List (List ℕ) → List Sent
packets_at at frames = map (λ octets. let p : Sent = record { at = at; octets = octets } in p) frames

-- The octets of packets, in order.
abbrev pub octets_of_packets : List Sent → List ℕ
octets_of_packets packets = flat_map (λ (p : Sent). packet_octets p.at p.octets) packets
