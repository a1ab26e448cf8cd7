-- Defines what it means to move the clock to a time.
use Rattle.std.specs.Prelude.{ℕ, ◌^◌, nat_lt, nat_le, ◌||◌, Option, Some, None, if◌then◌else◌}
use Rattle.wf_frame.specs.declared.notes.Refusal.{Refusal}
use Rattle.wf_frame.specs.declared.notes.Refusal.TheVariants.{BadTick}
use Rattle.wf_def_world.specs.World.{World}

-- a world at another time
abbrev pub at_time : World → ℕ → World
at_time w clock = record w { clock = clock }

-- why the clock cannot be moved to a time: the time is before the clock, or is 2^61 or more
abbrev pub time_fault : ℕ → ℕ → Option Refusal
time_fault clock now = if nat_lt now clock || nat_le (2 ^ 61) now then Some BadTick else None
