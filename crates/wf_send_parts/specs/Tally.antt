-- Defines the counts of the accepted frames, by fate.
use Rattle.std.specs.Prelude.{ℕ, ◌+◌, ◌-◌}
use Rattle.wf_frame.specs.declared.classes.Cause.TheVariants.{Overlimit, Codel, Retries, Left, Flushed, Ended}
use Rattle.wf_frame.specs.declared.classes.Fate.{Fate}
use Rattle.wf_frame.specs.declared.classes.Fate.TheVariants.{Held, Acked, Dropped}
use Rattle.wf_send_parts.specs.declared.stations.tally.Tally.{Tally}

pub record Counts : Type 0 where
  pub accepted : ℕ
  pub acked : ℕ
  pub overlimit : ℕ
  pub codel : ℕ
  pub retries : ℕ
  pub left : ℕ
  pub flushed : ℕ
  pub ended : ℕ

abbrev pub counts_of : Tally → Counts
counts_of t = record {
  accepted = t.accepted;
  acked = t.acked;
  overlimit = t.overlimit;
  codel = t.codel;
  retries = t.retries;
  left = t.left;
  flushed = t.flushed;
  ended = t.ended;
}

abbrev pub no_counts : Counts
no_counts = record {
  accepted = 0;
  acked = 0;
  overlimit = 0;
  codel = 0;
  retries = 0;
  left = 0;
  flushed = 0;
  ended = 0;
}

-- frames that have a fate other than Held
abbrev pub settled_count : Counts → ℕ
settled_count c = c.acked + c.overlimit + c.codel + c.retries + c.left + c.flushed + c.ended

-- frames that are still held
abbrev pub held_in : Counts → ℕ
held_in c = c.accepted - settled_count c

-- one more frame is accepted
abbrev pub one_accepted : Counts → Counts
one_accepted c = record c { accepted = c.accepted + 1 }

-- one more frame has this fate
abbrev pub settled_as : Fate → Counts → Counts
settled_as Held c = c
settled_as Acked c = record c { acked = c.acked + 1 }
settled_as (Dropped Overlimit) c = record c { overlimit = c.overlimit + 1 }
settled_as (Dropped Codel) c = record c { codel = c.codel + 1 }
settled_as (Dropped Retries) c = record c { retries = c.retries + 1 }
settled_as (Dropped Left) c = record c { left = c.left + 1 }
settled_as (Dropped Flushed) c = record c { flushed = c.flushed + 1 }
settled_as (Dropped Ended) c = record c { ended = c.ended + 1 }

-- n more frames have this fate
abbrev pub many_settled_as : Fate → ℕ → Counts → Counts
many_settled_as Held n c = c
many_settled_as Acked n c = record c { acked = c.acked + n }
many_settled_as (Dropped Overlimit) n c = record c { overlimit = c.overlimit + n }
many_settled_as (Dropped Codel) n c = record c { codel = c.codel + n }
many_settled_as (Dropped Retries) n c = record c { retries = c.retries + n }
many_settled_as (Dropped Left) n c = record c { left = c.left + n }
many_settled_as (Dropped Flushed) n c = record c { flushed = c.flushed + n }
many_settled_as (Dropped Ended) n c = record c { ended = c.ended + n }
