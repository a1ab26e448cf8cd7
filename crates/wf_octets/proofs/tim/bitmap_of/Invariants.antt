-- The bitmap, the first AID and the last AID belong to the entries so far.
use Rattle.std.proofs.Common.{◌≡◌, ℕ, ◌<◌, ◌≤◌, IfSome, length, get_or}
use Rattle.wf_octets.specs.Tim.{ends_of}
use Rattle.wf_def_tim.specs.Tim.{map_octet}
use Rattle.wf_octets.proofs.Maps.{below}
use Rattle.wf_octets.proofs.tim.bitmap_of.Given as goal

abbrev pub invariant-loop-aid : goal.invariant-loop-aid
invariant-loop-aid l = record {
  long : length l.bitmap ≡ 251;
  octets : (k : ℕ) → k < 251 → get_or l.bitmap k 0 ≡ map_octet (below l.present l.aid) k;
  ends : l.ends ≡ ends_of (below l.present l.aid);
  within : IfSome l.ends (λ e. (e.0 ≤ e.1) × (e.1 < l.aid));
}
