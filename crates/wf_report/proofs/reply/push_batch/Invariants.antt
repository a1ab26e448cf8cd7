-- The ids so far were appended, with at most 21 octets for each.
use Rattle.std.proofs.Common.{◌≡◌, ◌+◌, ◌*◌, ◌≤◌, ◌++◌, length, take}
use Rattle.std.specs.Prelude.{map, decimal}
use Rattle.wf_io.specs.Words.{spaced}
use Rattle.wf_report.proofs.reply.push_batch.Given as goal

abbrev pub invariant-loop-i : goal.invariant-loop-i
invariant-loop-i l = (l.out ≡ l.fn.out ++ spaced (map decimal (take l.i (map (λ p. p.0) l.pairs)))) ×
    (length l.out ≤ length l.fn.out + 21 * l.i)
