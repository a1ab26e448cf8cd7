-- Defines the world after a device marks transmissions of an open exchange, as Unsent and GiveUp do.
use Rattle.std.proofs.Common.{ℕ, List}
use Rattle.wf_def_world.specs.World.{World, Exchange, with_exchange}

-- Returns an exchange with these marks.
abbrev pub with_marks : List ℕ → List ℕ → Exchange → Exchange
with_marks unsent given_up x = record x { unsent = unsent; given_up = given_up }

-- Returns the world in which the exchange x has these marks.
abbrev pub marked_world : World → Exchange → List ℕ → List ℕ → World
marked_world w x unsent given_up = with_exchange w (with_marks unsent given_up x)
