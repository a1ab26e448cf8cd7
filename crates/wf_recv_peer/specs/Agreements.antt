-- Defines the receive half of one station: for each traffic identifier (TID) a scoreboard and a reordering
-- buffer, which handle the same numbers.
use Rattle.std.specs.Prelude.{◌≡◌, ℕ, List, [], ◌++◌, replicate, slice_set, slice_index_or, Option, MatchOption}
use Rattle.wf_recv_peer.specs.Board.{Board, empty_board}
use Rattle.wf_recv_peer.specs.Board.{after_number as board_arrived, after_start as board_requested}
use Rattle.wf_recv_peer.specs.Buffer.{Buffer, BufferOutcome, empty_buffer, ended_buffer, items_of, HasOneMore}
use Rattle.wf_recv_peer.specs.Buffer.{number_outcome as buffer_arrived, request_outcome as buffer_requested}
use Rattle.wf_recv_peer.specs.declared.reading.Reading.{Reading}
use Rattle.wf_recv_peer.specs.declared.reading.Reading.TheVariants.{Data, Request}
use Rattle.wf_recv_peer.specs.Receiving.{tid_read}

pub record AgreementValue : Type 0 where
  pub board : Board
  pub buffer : Buffer

pub record PeerValue : Type 0 where
  pub own : List ℕ  -- the station's address
  pub base : List ℕ  -- the access point's
  pub agreements : List AgreementValue  -- eight, by TID

-- an agreement of which no number arrived
abbrev pub new_agreement : ℕ → ℕ → AgreementValue
new_agreement start size = record { board = empty_board start size; buffer = empty_buffer 256 start size }

-- the half of the station with the address `own`, at the access point with the address `base`
abbrev pub new_peer : List ℕ → List ℕ → ℕ → ℕ → PeerValue
new_peer own base start size = record {
  own = own;
  base = base;
  agreements =
      replicate 8 (new_agreement start size);
}

-- the half in which a TID has this agreement, and the others are unchanged
abbrev pub with_agreement : ℕ → AgreementValue → PeerValue → PeerValue
with_agreement tid a p = record p { agreements = slice_set p.agreements tid a }

-- the agreement of a TID
abbrev pub agreement : PeerValue → ℕ → AgreementValue
agreement p tid = slice_index_or p.agreements tid (new_agreement 0 256)

-- an agreement that ended: the next one begins past its window, unless it is reset
abbrev pub ended_agreement : AgreementValue → AgreementValue
ended_agreement a = record {
  board = empty_board (ended_buffer a.buffer).start a.buffer.size;
  buffer = ended_buffer a.buffer;
}

-- ---- the half after a frame

abbrev pub board_after : Reading → Board → Board
board_after (Data tid number) b = board_arrived number b
board_after (Request tid start) b = board_requested start b

-- `id` is the id of a data frame's item
abbrev pub buffer_outcome : Reading → ℕ → Buffer → BufferOutcome
buffer_outcome (Data tid number) id b = buffer_arrived number id b
buffer_outcome (Request tid start) id b = buffer_requested start b

abbrev pub agreement_after : Reading → ℕ → AgreementValue → AgreementValue
agreement_after reading id a = record {
  board = board_after reading a.board;
  buffer =
      (buffer_outcome reading id a.buffer).after;
}

-- the agreement of the frame's TID handles it, and the others are unchanged
abbrev pub after_frame : Reading → ℕ → PeerValue → PeerValue
after_frame reading id p = record p {
  agreements =
      slice_set p.agreements (tid_read reading) (agreement_after reading id (agreement p (tid_read reading)));
}

-- the buffer of the frame's TID
abbrev pub buffer_of_tid : Reading → PeerValue → Buffer
buffer_of_tid reading p = (agreement p (tid_read reading)).buffer

-- what that buffer passes up, returns and stores
abbrev pub outcome_of_frame : Reading → ℕ → PeerValue → BufferOutcome
outcome_of_frame reading id p = buffer_outcome reading id (buffer_of_tid reading p)

-- Each item exactly once. For data: if the new item is not returned, the items that are passed up and stored
-- are those that were stored before, and the new one. For a request: they are those that were stored before.
abbrev pub IsEachOnce : Reading → ℕ → List ℕ → Option ℕ → Buffer → Buffer → Type 0
IsEachOnce (Data tid number) id up back before after =
    MatchOption back (HasOneMore id (items_of before.places) (up ++ items_of after.places))
    (λ item. (item ≡ id) × (up ≡ []) × (after ≡ before))
IsEachOnce (Request tid start) id up back before after = up ++ items_of after.places ≡ items_of before.places
