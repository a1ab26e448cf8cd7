-- Defines when the answer that a mark keeps of an exchange may end it.
use Rattle.std.specs.Prelude.{◌≡◌, ℕ, List, Some}
use Rattle.wf_def_agreement.specs.Receiver.{Score}
use Rattle.wf_def_world.specs.World.{World, Exchange, exchange}
use Rattle.wf_send_half.specs.Bits.{AreShown}

-- Exchange e is open and has an answer, and this start with these bits shows the same numbers of the exchange
-- as the answer.
pub record KeepsShown (w : World) (e : ℕ) (kept : ℕ × List ℕ) : Type 0 where
  pub open_now : Exchange
  pub answer : Score
  pub found : exchange w e ≡ Some open_now
  pub is : open_now.answer ≡ Some answer
  pub shown : AreShown w open_now answer (Some kept)
