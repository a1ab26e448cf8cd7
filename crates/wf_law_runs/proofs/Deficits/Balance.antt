-- Defines the shares whose deficit is the base and the quanta, less the charges.
use Rattle.std.specs.Prelude.{◌≡◌, ℕ, ◌+◌, ◌*◌, ◌<◌, pos, ◌+ℤ◌, ◌-ℤ◌, Bool, false, None, IfSome}
use Rattle.wf_def_lists.specs.Table.{at}
use Rattle.wf_def_world.specs.World.{World, Station, Share, no_share}

-- The share of a station whose quantum is q, and whose weight was set or not.
pub record IsBalanced (q : ℕ) (weighed : Bool) (x : Share) : Type 0 where
  pub deficit : x.deficit ≡ x.base +ℤ pos (q * x.quanta) -ℤ pos (x.charged + x.received)
  pub own : weighed ≡ false → x.base ≡ pos q

abbrev pub IsFairStation : ℕ → Station → Type 0
IsFairStation q x = (k : ℕ) → k < 4 → IsBalanced (q * x.weight) x.weighed (at no_share x.shares k)

pub record IsFair (w : World) : Type 0 where
  pub each : (s : ℕ) → IfSome (at None w.stations s) (IsFairStation w.config.quantum)
