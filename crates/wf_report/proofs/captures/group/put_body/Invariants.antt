-- The octets so far were written.
use Rattle.std.proofs.Common.{◌≡◌, ◌+◌, ◌++◌, take}
use Rattle.wf_frame.specs.Frames.{sample_body}
use Rattle.wf_report.proofs.captures.group.put_body.Given as goal

abbrev pub invariant-loop-j : goal.invariant-loop-j
invariant-loop-j l = (l.end ≡ l.place + l.j) ×
    (take l.end l.octets ≡ take l.place l.fn.octets ++ sample_body 0 l.j)
