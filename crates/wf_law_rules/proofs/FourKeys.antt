-- Proves the worked example of specs/FourKeys by computing the loop and the pick.
use Rattle.std.proofs.Common.{refl}
use Rattle.wf_def_rotation.specs.Rotation.{pick}
use Rattle.wf_law_rules.specs.FourKeys.{LoopEnds, FourKeysGive}

pub loop_ends : LoopEnds
loop_ends = record { winner = refl; lists = refl; deficits = refl }

pub pick_gives : FourKeysGive
unfolding pick
pick_gives = record { winner = refl; lists = refl; deficits = refl }
