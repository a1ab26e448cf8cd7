-- Defines the effect of a transmission on the receive half of its station.
use Rattle.std.specs.Prelude.{◌≡◌, ℕ, ◌%◌, slice_set}
use Rattle.wf_frame.specs.declared.notes.Note.{Note}
use Rattle.wf_frame.specs.declared.notes.Note.TheVariants.{Asked}
use Rattle.wf_frame.specs.declared.notes.Ask.TheVariants.{Join, Offload, Plain, Begin, Cease, Flush, Pull, Arrive, Answer, Done}
use Rattle.wf_def_lists.specs.Table.{at}
use Rattle.wf_def_agreement.specs.Receiver.{Receiver}
use Rattle.wf_def_world.specs.World.{Content, Frames, Request}
use Rattle.wf_def_world.specs.Exchanges.{no_mpdu}
use Rattle.wf_recv_peer.specs.Board.{Board, after_number as board_arrived, after_start as board_requested}
use Rattle.wf_recv_peer.specs.Buffer.{Buffer, BufferOutcome, number_outcome as buffer_arrived, request_outcome as buffer_requested}
use Rattle.wf_recv_peer.specs.Agreements.{PeerValue, AgreementValue, agreement}
use Rattle.wf_recv_peer_refines.specs.Half.{IsInReach, IsRequestInReach}

-- the scoreboard after transmission i, by the number of its frame, or the start of its request, modulo 4096
abbrev pub board_after_transmission : ℕ → Content → Board → Board
board_after_transmission i (Frames mpdus) b = board_arrived ((at no_mpdu mpdus i).number % 4096) b
board_after_transmission i (Request start) b = board_requested (start % 4096) b

-- the effect of transmission i, whose frame has this id, on the reordering buffer
abbrev pub buffer_outcome_of_transmission : ℕ → ℕ → Content → Buffer → BufferOutcome
buffer_outcome_of_transmission i id (Frames mpdus) b =
    buffer_arrived ((at no_mpdu mpdus i).number % 4096) id b
buffer_outcome_of_transmission i id (Request start) b = buffer_requested (start % 4096) b

-- the agreement after transmission i
abbrev pub agreement_after_transmission : ℕ → ℕ → Content → AgreementValue → AgreementValue
agreement_after_transmission i id content a =
    record {
      board = board_after_transmission i content a.board;
      buffer =
          (buffer_outcome_of_transmission i id content a.buffer).after;
    }

-- the receive half after transmission i, which has TID t
abbrev pub peer_after : ℕ → ℕ → ℕ → Content → PeerValue → PeerValue
peer_after t i id content p = record p {
  agreements =
      slice_set p.agreements t (agreement_after_transmission i id content (agreement p t));
}

-- the receive half after its window of TID t moved to this start, modulo 4096, as by a request
abbrev pub peer_requested : ℕ → ℕ → PeerValue → PeerValue
peer_requested t start p = peer_after t 0 0 (Request start) p

-- the frame of transmission i has this id; a request has none
abbrev pub CarriesId : ℕ → ℕ → Content → Type 0
CarriesId id i (Frames mpdus) = id ≡ (at no_mpdu mpdus i).id
CarriesId id i (Request start) = Unit {0}

-- transmission i is within the receiver's reach, so its 12-bit number compares as the whole number does
abbrev pub MayReach : Receiver → ℕ → Content → Type 0
MayReach r i (Frames mpdus) = IsInReach r (at no_mpdu mpdus i).number
MayReach r i (Request start) = IsRequestInReach r start

-- a call that changes neither a receive half nor a mark: any call except these ten
abbrev pub IsUntold : Note → Type 0
IsUntold (Asked (Join s window start exponent weight)) = ⊥
IsUntold (Asked (Offload s exponent weight)) = ⊥
IsUntold (Asked (Plain s start exponent weight)) = ⊥
IsUntold (Asked (Begin s t window)) = ⊥
IsUntold (Asked (Cease s t)) = ⊥
IsUntold (Asked (Flush s t)) = ⊥
IsUntold (Asked (Pull c limits)) = ⊥
IsUntold (Asked (Arrive e i)) = ⊥
IsUntold (Asked (Answer e)) = ⊥
IsUntold (Asked (Done e heard air)) = ⊥
IsUntold note = Unit {0}
