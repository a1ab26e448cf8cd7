-- Defines how a reordering buffer, whose numbers have twelve bits, represents a reordering.
use Rattle.std.specs.Prelude.{◌≡◌, ℕ, ◌+◌, ◌%◌, List, [], ◌∷◌, Option, None, Some}
use Rattle.wf_recv_peer.specs.Buffer.{Buffer, NothingAtStart}
use Rattle.wf_uplink.specs.Reordering.{Reordering, Stored, Passed, Released}

-- the frames at these places; the first place has number b
abbrev pub numbered : ℕ → List (Option ℕ) → List Stored
numbered b [] = []
numbered b (None ∷ places) = numbered (b + 1) places
numbered b (Some id ∷ places) = record { number = b; id = id } ∷ numbered (b + 1) places

-- released frames with consecutive numbers from b on
abbrev pub frames_from : ℕ → List ℕ → List Passed
frames_from b [] = []
frames_from b (id ∷ ids) = Released id b ∷ frames_from (b + 1) ids

abbrev pub reordering_of_buffer : ℕ → ℕ → ℕ → Buffer → Reordering
reordering_of_buffer start window since b = record {
  start = start;
  window = window;
  stored =
      numbered start b.places;
  since = since;
}

-- the buffer represents the window from B on: its start is B modulo 4096
pub record IsBufferFrom (start window : ℕ) (b : Buffer) : Type 0 where
  pub capacity : b.capacity ≡ 256
  pub first : b.start ≡ start % 4096
  pub size : b.size ≡ window
  pub settled : NothingAtStart b
