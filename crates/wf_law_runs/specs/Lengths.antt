-- Defines the lengths of frames that the laws about the limit, the deficits of queues and the sent frames
-- assume of a history.
use Rattle.std.specs.Prelude.{List}
use Rattle.wf_def_lists.specs.Lengths.{greatest_body}
use Rattle.wf_def_world.specs.Run.{Entry}
use Rattle.wf_law_runs.specs.Queues.{HaveLengths, AreAtMost}

-- Each frame has at least one octet, and at most the greatest body.
abbrev pub HasLengths : List Entry → Type 0
HasLengths history = HaveLengths history × AreAtMost greatest_body history
