-- Defines the state of CoDel (RFC 8289, section 5.2) from the fields of the code.
use Rattle.std.specs.Prelude.{◌≤◌, IsTrue}
use Rattle.wf_def_codel.specs.Codel.{Codel}
use Rattle.wf_queue_flows.specs.declared.codel.Codel.TheInside.{Inside}

abbrev pub codel_state_of : Inside → Codel
codel_state_of c = record {
  first_above = c.first_above;
  drop_next = c.drop_next;
  count = c.count;
  last_count = c.last_count;
  dropping = c.dropping;
  dropped = c.dropped;
}

abbrev pub fields_of : Codel → Inside
fields_of c = record {
  first_above = c.first_above;
  drop_next = c.drop_next;
  count = c.count;
  last_count =
      c.last_count;
  dropping = c.dropping;
  dropped = c.dropped;
}

-- while it drops, at least one frame was dropped, since the control law divides by the count
abbrev pub CountIsPositive : Inside → Type 0
CountIsPositive c = IsTrue c.dropping → 1 ≤ c.count
