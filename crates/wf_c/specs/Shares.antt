-- Defines how structs show counts and airtime, and the codes of the functions that read them.
use Rattle.std.specs.Prelude.{◌≡◌, ℕ, nat_lt, Bool, true, false, Option, Some, None, if◌then◌else◌}
use Rattle.wf_frame.specs.declared.classes.Class.{Class}
use Rattle.wf_frame.specs.Refusals.{refusal_number}
use Rattle.wf_frame.specs.declared.notes.Refusal.TheVariants as refusal
use Rattle.wf_def_world.specs.World.{World, is_live, share}
use Rattle.wf_send_parts.specs.Tally.{Counts}
use Rattle.wf_c.specs.Numbers.{bad_class}
use Rattle.wf_c.specs.declared.readers.NoSession.{NoSession}
use Rattle.wf_c.specs.declared.readers.NoSession.TheVariants.{BadTid, NoStation}
use Rattle.wf_c.specs.declared.readers.Share.{Share}
use Rattle.wf_c.specs.declared.readers.Tally.{Tally}

-- the code of a station that is not live: the number of that refusal
abbrev pub no_station_code : ℕ
no_station_code = refusal_number refusal.NoStation

-- the code of a TID above 7: the number of that refusal
abbrev pub bad_tid_code : ℕ
bad_tid_code = refusal_number refusal.BadTid

-- why a station's TID has no session; the TID is checked before the station
abbrev pub session_fault : World → ℕ → ℕ → Option NoSession
session_fault w s tid =
    if nat_lt 7 tid then Some BadTid else (if is_live w s then None else Some NoStation)

-- the code of this fault
abbrev pub session_code : Option NoSession → ℕ
session_code None = 0
session_code (Some BadTid) = bad_tid_code
session_code (Some NoStation) = no_station_code

-- the code of reading a station's airtime in a class: the class, if there is one with the caller's number,
-- and whether the station is live
abbrev pub share_code : Option Class → Bool → ℕ
share_code None live = bad_class
share_code (Some c) true = 0
share_code (Some c) false = no_station_code

-- the counts that the caller's struct shows
abbrev pub counts_shown : Tally → Counts
counts_shown t = record {
  accepted = t.accepted;
  acked = t.acked;
  overlimit = t.overlimit;
  codel = t.codel;
  retries = t.retries;
  left = t.left;
  flushed = t.flushed;
  ended = t.ended;
}

-- the caller's struct shows the airtime of station s in class c
pub record ShowsShare (w : World) (s : ℕ) (c : Class) (shown : Share) : Type 0 where
  pub deficit : shown.deficit ≡ (share w s c).deficit
  pub charged : shown.charged ≡ (share w s c).charged
  pub rx : shown.rx ≡ (share w s c).received
