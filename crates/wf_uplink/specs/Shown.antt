-- Defines what a caller sees of a delivery, in which sequence numbers are modulo 4096.
use Rattle.std.specs.Prelude.{ℕ, ◌%◌, Bool, true, false, [], map}
use Rattle.wf_uplink.specs.declared.items.UpItem.{UpItem}
use Rattle.wf_uplink.specs.declared.items.UpItem.TheVariants.{Frame, Gap}
use Rattle.wf_uplink.specs.declared.up.Up.{Up}
use Rattle.wf_uplink.specs.declared.up.Totals.{Totals}
use Rattle.wf_uplink.specs.Reordering.{Passed, Released, GivenUp}
use Rattle.wf_uplink.specs.World.{World, Delivery, held}

abbrev pub item_of : Passed → UpItem
item_of (Released id number) = Frame id (number % 4096)
item_of (GivenUp from count) = Gap (from % 4096) count

abbrev pub up_of : Delivery → Up
up_of d = record {
  station = d.station;
  tid = d.tid;
  air = d.air;
  old = d.old;
  ack = d.ack;
  items = map item_of d.passed;
}

abbrev pub nothing_up : Up
nothing_up = record { station = 0; tid = 0; air = 0; old = false; ack = false; items = [] }

abbrev pub totals_of : World → Totals
totals_of w = record { frames = w.frames; up = w.up; old = w.back; held = held w; missing = w.missing }

abbrev pub is_frame : UpItem → Bool
is_frame (Frame id seq) = true
is_frame (Gap from count) = false

-- how many numbers an item gives up
abbrev pub missing_of : UpItem → ℕ
missing_of (Frame id seq) = 0
missing_of (Gap from count) = count
