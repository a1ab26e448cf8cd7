-- Defines the world in which a Pull that is not refused prepares its exchange: after the pick, with the
-- bounds that its limits give.
use Rattle.wf_frame.specs.declared.classes.Class.{Class}
use Rattle.wf_frame.specs.declared.notes.Limits.{Limits}
use Rattle.wf_def_world.specs.World.{World, with_bounds}
use Rattle.wf_def_world.specs.Exchanges.{after_pick, bounds_of}

-- Returns the world after the pick of a class, with the bounds of a Pull with these limits.
abbrev pub picked_world : World → Class → Limits → World
picked_world w c l = with_bounds (after_pick w c) (bounds_of w.config c l)
