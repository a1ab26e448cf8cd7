-- Defines when the stations' receive halves and the marks of the open exchanges represent the receivers of a
-- world.
use Rattle.std.specs.Prelude.{◌≡◌, ℕ, ◌%◌, ◌<◌, true, List, length, map, slice_index_or, slice_set}
use Rattle.std.specs.Option.{option_map}
use Rattle.wf_def_agreement.specs.Session.{Session, slot}
use Rattle.wf_def_agreement.specs.Receiver.{Score}
use Rattle.wf_def_world.specs.World.{World, Exchange, is_live, session, receiver}
use Rattle.wf_octets.specs.Addresses.{base, address_of_station}
use Rattle.wf_recv_peer.specs.Agreements.{PeerValue, AgreementValue, agreement, new_peer}
use Rattle.wf_recv_peer_refines.specs.Half.{ReceiveHalfStandsFor}
use Rattle.wf_recv_marks.specs.declared.marks.Mark.{Mark}

-- ---- receive halves

-- the receive half of station s before anything arrives, with the placeholder addresses
abbrev pub new_receive_half : ℕ → ℕ → ℕ → PeerValue
new_receive_half s start size = new_peer (address_of_station s) base start size

-- a receive half has the placeholder addresses of station s and of the access point
pub record HasAddresses (s : ℕ) (p : PeerValue) : Type 0 where
  pub own : p.own ≡ address_of_station s
  pub base : p.base ≡ base

-- the receive half of a station
abbrev pub peer_of : List PeerValue → ℕ → PeerValue
peer_of peers s = slice_index_or peers s (new_receive_half 0 0 256)

-- the agreement of TID t of a station
abbrev pub agreement_of : List PeerValue → ℕ → ℕ → AgreementValue
agreement_of peers s t = agreement (peer_of peers s) t

-- the receive halves after station s gets this one
abbrev pub with_peer : ℕ → PeerValue → List PeerValue → List PeerValue
with_peer s p peers = slice_set peers s p

-- each of n stations has a receive half, by its number, with its addresses and eight agreements
pub record ArePeers (n : ℕ) (peers : List PeerValue) : Type 0 where
  pub count : length peers ≡ n
  pub addresses : (s : ℕ) → s < n → HasAddresses s (peer_of peers s)
  pub eight : (s : ℕ) → s < n → length (peer_of peers s).agreements ≡ 8

-- new receive halves, before anything arrives
pub record AreNew (n : ℕ) (peers : List PeerValue) : Type 0 where
  pub count : length peers ≡ n
  pub each : (s : ℕ) → s < n → peer_of peers s ≡ new_receive_half s 0 256

-- the id of the frame with a number of a session
abbrev pub carried : Session → ℕ → ℕ
carried y n = (slot y n).id

-- an agreement represents the receiver of TID t of station s
abbrev pub StandsForTid : World → ℕ → ℕ → AgreementValue → Type 0
StandsForTid w s t a = ReceiveHalfStandsFor (carried (session w s t)) (receiver w s t) a.board a.buffer

-- ---- marks

-- an answer as a mark keeps it: its start modulo 4096, and its offsets
abbrev pub kept_of : Score → ℕ × List ℕ
kept_of b = (b.start % 4096, b.offsets)

-- the mark of an exchange: which of its transmissions arrived, and its answer
abbrev pub mark_of : Exchange → Mark
mark_of x = record { number = x.number; arrived = x.arrived; answer = option_map kept_of x.answer }

-- ---- both

-- The agreements of each live station represent its receivers, and each open exchange has its mark.
pub record Hears (peers : List PeerValue) (marks : List Mark) (w : World) : Type 0 where
  pub sized : ArePeers w.config.stations peers
  pub agreements : (s t : ℕ) → is_live w s ≡ true → t < 8 → StandsForTid w s t (agreement_of peers s t)
  pub kept : marks ≡ map mark_of w.opened
