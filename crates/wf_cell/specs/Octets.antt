-- Defines what octets on the air say to a station. In a cell both ends have their placeholder addresses.
use Rattle.std.specs.Prelude.{◌≡◌, ℕ, ◌%◌, List}
use Rattle.wf_def_lists.specs.Table.{at}
use Rattle.wf_def_world.specs.World.{Content, Frames, Request}
use Rattle.wf_def_world.specs.Exchanges.{no_mpdu}
use Rattle.wf_octets.specs.Addresses.{base, address_of_station}
use Rattle.wf_octets.specs.declared.header.header.Header.{Header}
use Rattle.wf_octets.specs.declared.block.frames.Bar.{Bar}
use Rattle.wf_recv_peer.specs.Frames.{IsDataFor, IsRequestFor}

-- octets of data for station s, with this TID and this number
pub record SaysData (s tid number : ℕ) (octets : List ℕ) : Type 0 where
  pub header : Header
  pub is_for : IsDataFor (address_of_station s) base octets header
  pub tid_is : header.tid ≡ tid
  pub number_is : header.seq ≡ number

-- octets of a BlockAckReq for station s, with this TID and this start
pub record SaysRequest (s tid start : ℕ) (octets : List ℕ) : Type 0 where
  pub bar : Bar
  pub is_for : IsRequestFor (address_of_station s) base octets bar
  pub tid_is : bar.tid ≡ tid
  pub start_is : bar.start ≡ start

-- octets of transmission i to this TID of station s: they have its number, or its start, modulo 4096
abbrev pub IsSentTo : ℕ → ℕ → ℕ → Content → List ℕ → Type 0
IsSentTo s tid i (Frames mpdus) octets = SaysData s tid ((at no_mpdu mpdus i).number % 4096) octets
IsSentTo s tid i (Request start) octets = SaysRequest s tid (start % 4096) octets

-- octets of a transmission to station s
pub record IsForStation (s : ℕ) (octets : List ℕ) : Type 0 where
  pub tid : ℕ
  pub index : ℕ
  pub content : Content
  pub sent : IsSentTo s tid index content octets
