-- The pairs so far were appended, with at most 27 octets for each.
use Rattle.std.proofs.Common.{◌≡◌, ◌+◌, ◌*◌, ◌≤◌, ◌++◌, length, take}
use Rattle.std.specs.Prelude.{map}
use Rattle.wf_io.specs.Words.{spaced}
use Rattle.wf_report.specs.Replies.{pair_text}
use Rattle.wf_report.proofs.reply.push_pairs.Given as goal

abbrev pub invariant-loop-i : goal.invariant-loop-i
invariant-loop-i l = (l.out ≡ l.fn.out ++ spaced (map pair_text (take l.i l.pairs))) ×
    (length l.out ≤ length l.fn.out + 27 * l.i)
