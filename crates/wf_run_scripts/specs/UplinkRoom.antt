-- Defines when the clock or a total has no room left below 2^62.
use Rattle.std.specs.Prelude.{◌+◌, nat_lt, ◌&&◌, ◌||◌, not, Bool, false, List, [], ◌∷◌}
use Rattle.wf_uplink.specs.Soundness.{latest}
use Rattle.wf_uplink.specs.World.{World, Call, Open, OpenPlain, SetRate, Receive, Request, Tick, Expire, after_call}

-- One more frame, or one more hole, can be counted: fewer than 2^62 frames were accepted, and fewer than 2^62
-- numbers given up.
abbrev pub can_count : World → Bool
can_count w = nat_lt w.frames latest && nat_lt w.missing latest

-- A call that finds no room: a step that would bring the clock to 2^62, or a frame, a request or a hole when
-- a total has reached 2^62.
abbrev pub is_full : Call → World → Bool
is_full (Open station window start) w = false
is_full (OpenPlain station) w = false
is_full (SetRate station rate) w = false
is_full (Receive octets) w = not (can_count w)
is_full (Request octets) w = not (can_count w)
is_full (Tick by) w = not (nat_lt (w.clock + by) latest)
is_full Expire w = not (can_count w)

-- One of these calls, made in order, finds no room.
unfoldable pub lacks_room : World → List Call → Bool
lacks_room w [] = false
lacks_room w (call ∷ later) = is_full call w || lacks_room (after_call call w) later
