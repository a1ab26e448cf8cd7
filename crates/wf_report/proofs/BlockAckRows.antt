-- Worked BlockAcks: to the access point from station 0, of TID 0, with the start 100, octet by octet as IEEE
-- 802.11-2012, 8.3.1.9, and 802.11ax-2021, 9.3.1.8.2, define them. The least significant bit of a bitmap's
-- first octet belongs to the start, so the narrow one shows 100 and 163, and the wide one also 164 and 355.
use Rattle.std.specs.Prelude.{◌≡◌, ◌^◌, ◌+◌, [], ◌∷◌, true, false}
use Rattle.std.proofs.Common.{refl}
use Rattle.wf_report.specs.BlockAcks.{block_ack_frame}

narrow_row :
    block_ack_frame 0 0 100 ((2 ^ 63 + 1) ∷ []) false
    ≡ 148 ∷ 0 ∷ 0 ∷ 0 ∷ 2 ∷ 0 ∷ 0 ∷ 0 ∷ 0 ∷ 0 ∷ 2 ∷ 0 ∷ 0 ∷ 1 ∷ 0 ∷ 0 ∷ 4 ∷ 0 ∷ 64 ∷ 6
    ∷ 1 ∷ 0 ∷ 0 ∷ 0 ∷ 0 ∷ 0 ∷ 0 ∷ 128 ∷ []
narrow_row = refl

wide_row :
    block_ack_frame 0 0 100 ((2 ^ 63 + 1) ∷ 1 ∷ 0 ∷ 2 ^ 63 ∷ []) true
    ≡ 148 ∷ 0 ∷ 0 ∷ 0 ∷ 2 ∷ 0 ∷ 0 ∷ 0 ∷ 0 ∷ 0 ∷ 2 ∷ 0 ∷ 0 ∷ 1 ∷ 0 ∷ 0 ∷ 4 ∷ 0 ∷ 68 ∷ 6
    ∷ 1 ∷ 0 ∷ 0 ∷ 0 ∷ 0 ∷ 0 ∷ 0 ∷ 128 ∷ 1 ∷ 0 ∷ 0 ∷ 0 ∷ 0 ∷ 0 ∷ 0 ∷ 0
    ∷ 0 ∷ 0 ∷ 0 ∷ 0 ∷ 0 ∷ 0 ∷ 0 ∷ 0 ∷ 0 ∷ 0 ∷ 0 ∷ 0 ∷ 0 ∷ 0 ∷ 0 ∷ 128 ∷ []
wide_row = refl
