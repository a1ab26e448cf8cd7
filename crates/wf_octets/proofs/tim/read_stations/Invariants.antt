-- Each entry so far is its bit of the whole bitmap.
use Rattle.std.proofs.Common.{◌≡◌, ℕ, ◌<◌, ◌/◌, ◌%◌, false, get_or}
use Rattle.wf_octets.specs.Fields.{is_set}
use Rattle.wf_octets.specs.Tim.{whole_octet}
use Rattle.wf_octets.proofs.tim.read_stations.Given as goal

abbrev pub invariant-loop-aid : goal.invariant-loop-aid
invariant-loop-aid l = (n : ℕ) → n < l.aid → get_or l.present n false
    ≡ is_set (whole_octet l.octets (n / 8)) (n % 8)
