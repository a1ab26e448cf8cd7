-- Worked frames, octet by octet as IEEE 802.11-2012, 8.3.2.1, 8.3.3.2 and 8.4.2.7, define them. One is the
-- group frame with the number 4097, which is 1 on the air, with More Data and a body of 3 octets. The other
-- is the beacon with the number 5 at 258 microseconds, which announces group frames and no station, with
-- DTIM count 0 and period 3. `frames` lists both. A call about group frames names a BSS if there is one of
-- that number.
use Rattle.std.specs.Prelude.{◌≡◌, ◌++◌, [], ◌∷◌, true, Some, None}
use Rattle.std.proofs.Common.{refl}
use Rattle.wf_frame.specs.Calls.{in_bss}
use Rattle.wf_frame.specs.Settings.{standard}
use Rattle.wf_frame.specs.declared.notes.Ask.TheVariants.{Group as About, Reap}
use Rattle.wf_frame.specs.declared.notes.GroupAsk.TheVariants as ask
use Rattle.wf_frame.specs.declared.notes.Note.TheVariants.{Asked}
use Rattle.wf_def_tim.specs.Tim.{tim_element, with_group_bit}
use Rattle.wf_def_world.specs.World.{opening}
use Rattle.wf_report.specs.GroupFrames.{group_frame, beacon_head}
use Rattle.wf_report.specs.Frames.{frame_listed}
use Rattle.wf_report.specs.Packets.{bss_named}
use Rattle.wf_report.specs.declared.captures.listing.frame.Frame.TheVariants.{Beacon, Group}

group_row :
    group_frame 4097 true 3
    ≡ 8 ∷ 34 ∷ 0 ∷ 0 ∷ 255 ∷ 255 ∷ 255 ∷ 255 ∷ 255 ∷ 255 ∷ 2 ∷ 0 ∷ 0 ∷ 0 ∷ 0 ∷ 0 ∷ 2 ∷ 0 ∷ 0 ∷ 2 ∷ 0 ∷ 0
    ∷ 16 ∷ 0 ∷ 0 ∷ 1 ∷ 2 ∷ []
group_row = refl

group_listed : frame_listed (group_frame 4097 true 3) ≡ Group 1
group_listed = refl

beacon_row :
    beacon_head 5 258
    ≡ 128 ∷ 0 ∷ 0 ∷ 0 ∷ 255 ∷ 255 ∷ 255 ∷ 255 ∷ 255 ∷ 255 ∷ 2 ∷ 0 ∷ 0 ∷ 0 ∷ 0 ∷ 0 ∷ 2 ∷ 0 ∷ 0 ∷ 0 ∷ 0 ∷ 0
    ∷ 80 ∷ 0 ∷ 2 ∷ 1 ∷ 0 ∷ 0 ∷ 0 ∷ 0 ∷ 0 ∷ 0 ∷ 100 ∷ 0 ∷ 1 ∷ 0 ∷ 0 ∷ 0 ∷ 1 ∷ 8 ∷ 140 ∷ 18 ∷ 152 ∷ 36 ∷ 176
    ∷ 72 ∷ 96 ∷ 108 ∷ []
beacon_row = refl

beacon_listed :
    frame_listed (beacon_head 5 258 ++ with_group_bit true (tim_element 0 3 [])) ≡ Beacon 5 0 3 true
beacon_listed = refl

named : bss_named (opening (record standard { bsses = 2 })) (Asked (About (in_bss 1 ask.Pull))) ≡ Some 1
named = refl

named_alone : bss_named (opening standard) (Asked (About (in_bss 0 ask.Beacon))) ≡ Some 0
named_alone = refl

not_named : bss_named (opening (record standard { bsses = 2 })) (Asked (About (in_bss 2 ask.Pull))) ≡ None
not_named = refl

no_group_call : bss_named (opening standard) (Asked Reap) ≡ None
no_group_call = refl
