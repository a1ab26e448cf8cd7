-- Defines how far a run is.
use Rattle.std.specs.Prelude.{◌≡◌, ℕ, Option, Some, None, length}
use Rattle.wf_trace.specs.declared.meaning.Place.{Place}
use Rattle.wf_def_world.specs.World.{World}
use Rattle.wf_def_world.specs.Run.{Past, world_of}

-- the world of the machine, once a head has begun it, and the number of its calls
pub record Progress : Type 0 where
  pub world : Option World
  pub calls : ℕ

-- the same for a past, once a head has begun one
abbrev pub progress_of : Option Past → Progress
progress_of None = record { world = None; calls = 0 }
progress_of (Some p) = record { world = Some (world_of p); calls = length p.history }

-- the world of a past
abbrev pub world_in : Option Past → Option World
world_in p = (progress_of p).world

-- the past has the limit of calls of this place, and as many calls as came before it
abbrev pub IsAt : Option Past → Option Place → Type 0
IsAt None None = Unit {0}
IsAt (Some p) (Some place) = (p.config.calls ≡ place.limit) × (length p.history ≡ place.count)
IsAt _ _ = ⊥
