-- Defines the BlockAck of a station with the address `own`: it goes to the access point, whose address is
-- `base`, and has Duration 0 and the start and bits of the TID's scoreboard.
use Rattle.std.specs.Prelude.{◌≡◌, ℕ, nat_lt, List, take, MatchBool, if◌then◌else◌}
use Rattle.wf_recv_peer.specs.Board.{Board}
use Rattle.wf_octets.specs.declared.block.frames.Ba.{Ba}
use Rattle.wf_octets.specs.declared.block.frames.WideBa.{WideBa}
use Rattle.wf_octets.specs.BlockLayout.{IsBlockAck, IsWideBa, answer, narrow_fragment, wide_fragment, head_octets, head_of_ba, head_of_wide}

abbrev pub narrow_answer : List ℕ → List ℕ → ℕ → Board → Ba
narrow_answer own base tid b = record {
  ra = base;
  ta = own;
  duration = 0;
  tid = tid;
  start = b.start;
  bits = b.offsets;
}

abbrev pub wide_answer : List ℕ → List ℕ → ℕ → Board → WideBa
wide_answer own base tid b = record {
  ra = base;
  ta = own;
  duration = 0;
  tid = tid;
  start = b.start;
  bits = b.offsets;
}

-- the octets have the layout, and each bit that it leaves open is 0
pub record IsWritten (octets : List ℕ) (ba : Ba) : Type 0 where
  pub layout : IsBlockAck octets ba
  pub head : take 20 octets ≡ head_octets answer narrow_fragment (head_of_ba ba)

pub record IsWrittenWide (octets : List ℕ) (ba : WideBa) : Type 0 where
  pub layout : IsWideBa octets ba
  pub head : take 20 octets ≡ head_octets answer wide_fragment (head_of_wide ba)

-- the BlockAck of 256 bits is for windows above 64
abbrev pub answer_size : Board → ℕ
answer_size b = if nat_lt 64 b.size then 52 else 28

abbrev pub IsAnswer : List ℕ → List ℕ → ℕ → Board → List ℕ → Type 0
IsAnswer own base tid b octets =
    MatchBool (nat_lt 64 b.size) (IsWrittenWide octets (wide_answer own base tid b))
    (IsWritten octets (narrow_answer own base tid b))
