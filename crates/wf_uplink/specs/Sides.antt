-- Defines what the access point knows of one TID besides its reordering: under an agreement its scoreboard,
-- and without one the number of the frame that was passed up last.
use Rattle.std.specs.Prelude.{ℕ, nat_lt, Bool, true, false, Option, Some}
use Rattle.wf_recv_peer.specs.Board.{Board, empty_board, after_number, after_start}
use Rattle.wf_recv_peer.specs.Plain.{is_repeat}
use Rattle.wf_uplink.specs.declared.bitmap.Bitmap.{Bitmap}

pub data SideValue : Type 0 where
  Agreed : (board : Board) → SideValue
  Plain : (last : Option ℕ) → SideValue  -- None: no frame was passed up

-- the side of a TID whose station is not open
abbrev pub unopened_side : SideValue
unopened_side = Agreed (empty_board 0 256)

abbrev pub is_plain_side : SideValue → Bool
is_plain_side (Agreed board) = false
is_plain_side (Plain last) = true

-- whether a frame of number n is a repeat, which only its number and its Retry bit tell. Under an agreement
-- the reordering knows which frames are old.
abbrev pub side_repeats : Bool → ℕ → SideValue → Bool
side_repeats retry n (Agreed board) = false
side_repeats retry n (Plain last) = is_repeat last retry n

-- a frame of number n arrives
abbrev pub side_after : ℕ → SideValue → SideValue
side_after n (Agreed board) = Agreed (after_number n board)
side_after n (Plain last) = Plain (Some n)

-- a BlockAckReq with this start arrives
abbrev pub side_asked : ℕ → SideValue → SideValue
side_asked start (Agreed board) = Agreed (after_start start board)
side_asked start (Plain last) = Plain last

-- the scoreboard; no meaning without an agreement
abbrev pub agreed_board : SideValue → Board
agreed_board (Agreed board) = board
agreed_board (Plain last) = empty_board 0 256

-- the BlockAck of a scoreboard: it has 256 bits if the window is above 64, otherwise 64
abbrev pub bitmap_of : Board → Bitmap
bitmap_of b = record { start = b.start; bits = b.offsets; wide = nat_lt 64 b.size }

-- the side in memory
abbrev pub side_in_memory : Bool → Board → Option ℕ → SideValue
side_in_memory true board last = Plain last
side_in_memory false board last = Agreed board
