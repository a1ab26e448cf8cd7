-- Defines, for tests, that two seats are all seats of a gate.
use Rattle.std.specs.Prelude.{◌≡◌, length}
use Rattle.wf_gate.specs.Seats.{GateView, SeatView, IsOf}

-- the two are all seats of the gate, in the order of their numbers
pub record IsPair {M N : Type 0} (g : GateView M) (zero one : SeatView M N) : Type 0 where
  pub count : length g.opening.quotas ≡ 2
  pub zero_of : IsOf g zero
  pub zero_number : zero.number ≡ 0
  pub one_of : IsOf g one
  pub one_number : one.number ≡ 1
