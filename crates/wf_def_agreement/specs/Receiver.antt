-- Defines the recipient's side of one TID's block acknowledgement agreement, from the numbers and the
-- request starts that arrived: IEEE 802.11-2012, 9.21.7.3 to 9.21.7.6 (scoreboard and receive reordering
-- buffer). WinStartR is `score_start` here, WinStartB is `release_start`, and WinSizeR and WinSizeB are
-- `size`.
use Rattle.std.specs.Prelude.{ℕ, suc, ◌+◌, ◌-◌, ◌==◌, max, nat_lt, nat_le, Bool, ◌&&◌, List, [], ◌∷◌, if◌then◌else◌, filter, map}
use Rattle.wf_def_lists.specs.Table.{has, with_member, bits_word}

-- The receiver of one agreement: the numbers of the frames that arrived, and the starts of the BlockAckReqs
-- that arrived. `first` is the agreement's first number.
pub record Receiver : Type 0 where
  pub first : ℕ
  pub size : ℕ  -- the window, in numbers
  pub arrived : List ℕ  -- a set: the numbers in increasing order
  pub starts : List ℕ  -- a set: the starts in increasing order

-- Returns a receiver to which nothing arrived, from the first number and the window.
abbrev pub new_receiver : ℕ → ℕ → Receiver
new_receiver first size = record { first = first; size = size; arrived = []; starts = [] }

-- The frame with number n arrives.
abbrev pub with_arrived : ℕ → Receiver → Receiver
with_arrived n r = record r { arrived = with_member n r.arrived }

-- A BlockAckReq with start n arrives.
abbrev pub with_start : ℕ → Receiver → Receiver
with_start n r = record r { starts = with_member n r.starts }

-- Returns the greatest of n and the numbers of a list.
abbrev pub greatest : ℕ → List ℕ → ℕ
greatest n [] = n
greatest n (x ∷ xs) = max x (greatest n xs)

-- Returns the least number from n on that is not in an increasing list.
abbrev pub first_missing : ℕ → List ℕ → ℕ
first_missing n [] = n
first_missing n (x ∷ xs) = first_missing (if x == n then suc n else n) xs

-- WinStartB (9.21.7.6): the least number that did not arrive and is at least the first number and every
-- start.
abbrev pub release_start : Receiver → ℕ
release_start r = first_missing (greatest r.first r.starts) r.arrived

-- WinStartR (9.21.7.3): the greatest of the first number, every start, and n - size + 1 for each number n
-- that arrived.
abbrev pub score_start : Receiver → ℕ
score_start r = greatest (greatest r.first r.starts) (map (λ n. suc n - r.size) r.arrived)

-- Returns the numbers that are released between r and the later r', in increasing order: those that arrived
-- and are at least WinStartB of r and less than WinStartB of r'.
abbrev pub released_between : Receiver → Receiver → List ℕ
released_between r r' =
    filter (λ n. nat_le (release_start r) n && nat_lt n (release_start r')) r'.arrived

-- The content of a BlockAck (8.3.1.9): its start, and the offsets from it of the numbers that arrived.
pub record Score : Type 0 where
  pub start : ℕ
  pub offsets : List ℕ

-- Returns whether number n is in the window of the scoreboard: `size` numbers from WinStartR on. A BlockAck
-- has a bit for each of them.
abbrev pub is_scored : Receiver → ℕ → Bool
is_scored r n = nat_le (score_start r) n && nat_lt n (score_start r + r.size)

-- The BlockAck with which the receiver answers.
abbrev pub score : Receiver → Score
score r = record {
  start = score_start r;
  offsets = map (λ n. n - score_start r) (filter (is_scored r) r.arrived);
}

-- Returns whether a BlockAck shows that number n arrived.
abbrev pub shows : Score → ℕ → Bool
shows b n = nat_le b.start n && has b.offsets (n - b.start)

-- Returns word i of the bitmap, 64 bits: offset 64 i + k has the bit of value 2 ^ k.
abbrev pub bitmap_word : Score → ℕ → ℕ
bitmap_word b i = bits_word i b.offsets
