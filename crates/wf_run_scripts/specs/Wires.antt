-- Defines the invariants of both ends, and of the octets between them.
use Rattle.std.specs.Prelude.{◌≡◌, ℕ, ◌<◌, ◌≤◌, List, None}
use Rattle.wf_session.specs.Ends.{OfferValue, AcceptValue}
use Rattle.wf_session.specs.Faults.{first_action_fault}

-- The octets decode to an action.
abbrev pub IsRead : List ℕ → Type 0
IsRead octets = first_action_fault octets ≡ None

-- Both ends have the same TID, and the recipient has its limit.
pub record HasEnds (tid limit : ℕ) (originator : OfferValue) (recipient : AcceptValue) : Type 0 where
  pub known : tid < 8
  pub least : 1 ≤ limit
  pub most : limit ≤ 256
  pub asks : originator.tid ≡ tid
  pub answers : recipient.tid ≡ tid
  pub limited : recipient.limit ≡ limit
