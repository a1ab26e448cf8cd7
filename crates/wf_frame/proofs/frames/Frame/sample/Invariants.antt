-- The invariant of the loop of `Frame::sample`: the octets so far equal the body's.
use Rattle.std.proofs.Common.{◌≡◌, ◌+◌, ◌%◌, take}
use Rattle.wf_frame.specs.Frames.{sample_body}
use Rattle.wf_frame.proofs.frames.Frame.sample.Given as goal

abbrev pub invariant-loop-octet : goal.invariant-loop-octet
invariant-loop-octet l = (l.next ≡ (l.flow + l.octet-index) % 256) ×
    (take l.octet-index l.octet-items ≡ sample_body l.flow l.octet-index)
