-- Defines the transmissions of an open exchange, as octets (IEEE 802.11-2012, 8.2.4, 8.3.1.8 and 8.3.2.1).
--
-- The world `w` has the exchange, `bodies` has the frame of each id as it was accepted, and `a` has the
-- addresses.
use Rattle.std.specs.Prelude.{ℕ, ◌+◌, ◌==◌, nat_lt, Bool, true, false, not, ◌&&◌, ◌||◌, List, [], ◌∷◌, ◌++◌, map, slice_get, Option, Some, None, option_and_then, option_map, if◌then◌else◌}
use Rattle.std.specs.List.{last_or}
use Rattle.std.specs.Option.{option_map_or}
use Rattle.wf_frame.specs.Frames.{FrameValue}
use Rattle.wf_def_air.specs.Airtime.{fast_mbps, sifs, ack_time, answer_time}
use Rattle.wf_def_agreement.specs.Session.{slot, start_of}
use Rattle.wf_octets.specs.HeaderLayout.{header_as_octets}
use Rattle.wf_octets.specs.declared.header.header.Header.{Header}
use Rattle.wf_octets.specs.declared.header.header.Kind.TheVariants.{QosData}
use Rattle.wf_octets.specs.BlockLayout.{head_octets, request, narrow_fragment}
use Rattle.wf_octets.specs.declared.block.frames.Bar.{Bar}
use Rattle.wf_send_parts.specs.Window.{on_air}
use Rattle.wf_def_world.specs.World.{World, Mpdu, Content, Frames, Request, Exchange, station, session, exchange, is_live, is_agreed}
use Rattle.wf_def_world.specs.CanSend.{is_request}
use Rattle.wf_def_world.specs.Exchanges.{mpdus_of, transmissions}
use Rattle.wf_path.specs.Addresses.{Addresses, address_in, bss_in}
use Rattle.wf_path.specs.declared.reading.Sent.{Sent}

-- ---- one transmission

-- the Duration of a transmission, in microseconds (8.2.5): the interframe space and its answer at 24 Mbit/s.
-- It is 44 if an Ack answers it, else 48, for a BlockAck of 64 numbers.
abbrev pub duration : Bool → ℕ
duration plain = sifs + (if plain then ack_time fast_mbps else answer_time fast_mbps false)

-- the Retry bit (8.2.4.1.6): whether number n of TID t of station s was sent before
abbrev pub is_retried : World → ℕ → ℕ → ℕ → Bool
is_retried w s t n = nat_lt 0 (slot (session w s t) n).attempts

-- whether m is the last frame of exchange x
abbrev pub is_last_frame : Exchange → Mpdu → Bool
is_last_frame x m = option_map_or (λ l. l.number == m.number) (last_or None (mpdus_of x.content)) false

-- The header of a data transmission from the distribution system (8.3.2.1): to the station, from the access
-- point of its BSS, with the source of its frame, the sequence number modulo 4096, and the More Data bit of
-- its exchange (8.2.4.1.8). If the exchange ends a service period, its last frame has the EOSP bit
-- (8.2.4.5.3), and each frame before that has the More Data bit.
abbrev pub header_of : Addresses → World → (ℕ → FrameValue) → Exchange → Mpdu → Header
header_of a w bodies x m = record {
  kind = QosData;
  to_ds = false;
  from_ds = true;
  retry = is_retried w x.station x.tid m.number;
  power = false;
  more = x.more || (x.eosp && not (is_last_frame x m));
  duration = duration x.plain;
  a1 = address_in a x.station;
  a2 = bss_in a (station w x.station).bss;
  a3 = (bodies m.id).source;
  seq = on_air m.number;
  tid = x.tid;
  eosp = x.eosp && is_last_frame x m;
}

-- the octets of a data transmission: the header, and the body of its frame
abbrev pub data_octets : Addresses → World → (ℕ → FrameValue) → Exchange → Mpdu → List ℕ
data_octets a w bodies x m = header_as_octets (header_of a w bodies x m) ++ (bodies m.id).body

-- the BlockAckReq of an exchange with this start (8.3.1.8): to the station, from the access point of its BSS
abbrev pub bar_of : Addresses → World → Exchange → ℕ → Bar
bar_of a w x start = record {
  ra = address_in a x.station;
  ta = bss_in a (station w x.station).bss;
  duration = duration false;
  tid = x.tid;
  start = on_air start;
}

-- the octets of a transmission of a BlockAckReq
abbrev pub bar_octets : Addresses → World → Exchange → ℕ → List ℕ
bar_octets a w x start = head_octets request narrow_fragment (bar_of a w x start)

-- ---- the transmissions of an exchange

-- the octets of each transmission of this content: one for each frame, or one BlockAckReq
abbrev pub octets_of_content : Addresses → World → (ℕ → FrameValue) → Exchange → Content → List (List ℕ)
octets_of_content a w bodies x (Frames mpdus) = map (data_octets a w bodies x) mpdus
octets_of_content a w bodies x (Request start) = bar_octets a w x start ∷ []

-- the octets of each transmission of an exchange, in order
abbrev pub frames_on_air : Addresses → World → (ℕ → FrameValue) → Exchange → List (List ℕ)
frames_on_air a w bodies x = octets_of_content a w bodies x x.content

-- the octets of the transmission with this index, from 0; none if the exchange has fewer transmissions
abbrev pub transmission_octets : Addresses → World → (ℕ → FrameValue) → Exchange → ℕ → Option (List ℕ)
transmission_octets a w bodies x index = slice_get (frames_on_air a w bodies x) index

-- the id of its frame; none if it is a BlockAckReq
abbrev pub transmission_id : Exchange → ℕ → Option ℕ
transmission_id x index = option_map (λ m. m.id) (slice_get (mpdus_of x.content) index)

-- the header of the transmission with this index, as octets; none if it is a BlockAckReq
abbrev pub transmission_header : Addresses → World → (ℕ → FrameValue) → Exchange → ℕ → Option (List ℕ)
transmission_header a w bodies x index =
    option_map (λ m. header_as_octets (header_of a w bodies x m)) (slice_get (mpdus_of x.content) index)

-- the tag of its frame; none if it is a BlockAckReq
abbrev pub transmission_tag : (ℕ → FrameValue) → Exchange → ℕ → Option ℕ
transmission_tag bodies x index = option_map (λ m. (bodies m.id).tag) (slice_get (mpdus_of x.content) index)

-- whether its frame is bare: only its owner has its octets; none if it is a BlockAckReq
abbrev pub transmission_bare : (ℕ → FrameValue) → Exchange → ℕ → Option Bool
transmission_bare bodies x index = option_map (λ m. (bodies m.id).bare) (slice_get (mpdus_of x.content) index)

-- a summary of an exchange: its station, its TID, the number of transmissions, and whether it is a request
abbrev pub sent_of : Exchange → Sent
sent_of x = record {
  station = x.station;
  tid = x.tid;
  count = transmissions x.content;
  request =
      is_request x.content;
}

-- ---- the same for the exchange with number e; none if it is not open

abbrev pub octets_sent : Addresses → World → (ℕ → FrameValue) → ℕ → ℕ → Option (List ℕ)
octets_sent a w bodies e index = option_and_then (λ x. transmission_octets a w bodies x index) (exchange w e)

abbrev pub id_sent : World → ℕ → ℕ → Option ℕ
id_sent w e index = option_and_then (λ x. transmission_id x index) (exchange w e)

abbrev pub header_sent : Addresses → World → (ℕ → FrameValue) → ℕ → ℕ → Option (List ℕ)
header_sent a w bodies e index = option_and_then (λ x. transmission_header a w bodies x index) (exchange w e)

abbrev pub tag_sent : World → (ℕ → FrameValue) → ℕ → ℕ → Option ℕ
tag_sent w bodies e index = option_and_then (λ x. transmission_tag bodies x index) (exchange w e)

abbrev pub bare_sent : World → (ℕ → FrameValue) → ℕ → ℕ → Option Bool
bare_sent w bodies e index = option_and_then (λ x. transmission_bare bodies x index) (exchange w e)

-- ---- the start of a window

-- the start of the window of TID t of station s (WinStartO), modulo 4096
abbrev pub start_on_air : World → ℕ → ℕ → ℕ
start_on_air w s t = on_air (start_of (session w s t))

-- the same if the receiver has it without a BlockAckReq, as it does if the TID has no agreement: the device
-- of an offloaded station announces the start of the window to its peer, and a receiver of single frames
-- takes each of them. None if the TID has an agreement or the station is not live.
abbrev pub start_announced : World → ℕ → ℕ → Option ℕ
start_announced w s t =
    if is_live w s && not (is_agreed w s t) then Some (start_on_air w s t) else None
