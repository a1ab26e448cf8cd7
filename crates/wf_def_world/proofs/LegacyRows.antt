-- Proves, by computing, what the machine replies to worked histories of stations at rates of OFDM and DSSS. A
-- body of 1500 octets is a frame of 1530 there.
use Rattle.std.proofs.Common.{◌≡◌, refl, true, false, List, [], ◌∷◌, drop, map, None}
use Rattle.wf_frame.specs.declared.classes.Class.TheVariants.{Be}
use Rattle.wf_frame.specs.declared.notes.Ask.TheVariants.{Join, Offload, Plain, Rate, Hold, Pull, Arrive, Done}
use Rattle.wf_frame.specs.declared.notes.AskedRate.TheVariants.{Ht, Ofdm, Dsss}
use Rattle.wf_frame.specs.declared.notes.Note.TheVariants.{Enqueue, Asked}
use Rattle.wf_frame.specs.declared.notes.Refusal.TheVariants.{BadRate, NoStation, Agreed, Legacy}
use Rattle.wf_frame.specs.declared.notes.ReplyNote.TheVariants.{Joined, Set, Accepted, Send, Released, Refused}
use Rattle.wf_frame.specs.declared.notes.ReplyNote.TheVariants as reply
use Rattle.wf_frame.specs.declared.notes.Part.TheVariants.{Batch}
use Rattle.wf_frame.specs.declared.notes.Part.TheVariants as part
use Rattle.wf_frame.specs.Settings.{standard}
use Rattle.wf_def_world.specs.World.{opening}
use Rattle.wf_def_world.specs.Run.{Entry, by, replies}
use Rattle.wf_def_world.specs.Computed.{the_machine}
use Rattle.wf_frame.specs.Calls.{no_limits}

-- one frame without an agreement at 6 and 54 Mbit/s of OFDM, and at 1 and 11 Mbit/s of DSSS
abbrev pub one_frame_at_each_rate_calls : List Entry
one_frame_at_each_rate_calls = map (by 0) (
    Asked (Plain 0 100 3 1) ∷
    Asked (Plain 1 100 3 1) ∷
    Asked (Plain 2 100 3 1) ∷
    Asked (Plain 3 100 3 1) ∷
    Asked (Rate 0 (Ofdm 6)) ∷
    Asked (Rate 1 (Ofdm 54)) ∷
    Asked (Rate 2 (Dsss 2)) ∷
    Asked (Rate 3 (Dsss 22)) ∷
    Enqueue 0 0 7 1500 ∷
    Asked (Pull Be no_limits) ∷
    Enqueue 1 0 7 1500 ∷
    Asked (Pull Be no_limits) ∷
    Enqueue 2 0 7 1500 ∷
    Asked (Pull Be no_limits) ∷
    Enqueue 3 0 7 1500 ∷
    Asked (Pull Be no_limits) ∷
    [])

-- the Ack goes at 24 Mbit/s of OFDM
pub one_frame_at_each_rate : drop 8 (replies (opening (record standard { legacy = 2; inflight = 4 }))
    one_frame_at_each_rate_calls) ≡
    Accepted 0 None ∷
    Send 0 0 0 2108 (part.Plain ((0, 100) ∷ [])) false false ∷
    Accepted 1 None ∷
    Send 1 1 0 292 (part.Plain ((1, 100) ∷ [])) false false ∷
    Accepted 2 None ∷
    Send 2 2 0 12476 (part.Plain ((2, 100) ∷ [])) false false ∷
    Accepted 3 None ∷
    Send 3 3 0 1349 (part.Plain ((3, 100) ∷ [])) false false ∷ []
unfolding the_machine
one_frame_at_each_rate = refl

-- the Ack goes at 6 and 24 Mbit/s of OFDM, and at 1 and 2 Mbit/s of DSSS
pub one_frame_with_answers : drop 8 (replies
    (opening (record standard { legacy = 2; inflight = 4; answers = 1 })) one_frame_at_each_rate_calls) ≡
    Accepted 0 None ∷
    Send 0 0 0 2124 (part.Plain ((0, 100) ∷ [])) false false ∷
    Accepted 1 None ∷
    Send 1 1 0 292 (part.Plain ((1, 100) ∷ [])) false false ∷
    Accepted 2 None ∷
    Send 2 2 0 12752 (part.Plain ((2, 100) ∷ [])) false false ∷
    Accepted 3 None ∷
    Send 3 3 0 1569 (part.Plain ((3, 100) ∷ [])) false false ∷ []
unfolding the_machine
one_frame_with_answers = refl

-- no rate of OFDM or DSSS is allowed with the setting 0, and none of DSSS with 1
abbrev pub rates_not_allowed_calls : List Entry
rates_not_allowed_calls = map (by 0) (
    Asked (Plain 0 100 3 1) ∷
    Asked (Rate 0 (Ofdm 6)) ∷
    Asked (Rate 0 (Ofdm 7)) ∷
    Asked (Rate 0 (Dsss 2)) ∷
    Asked (Rate 0 (Dsss 3)) ∷
    [])

pub rates_not_allowed : replies (opening standard) rates_not_allowed_calls ≡
    Joined ∷ Refused BadRate ∷ Refused BadRate ∷ Refused BadRate ∷ Refused BadRate ∷ []
unfolding the_machine
rates_not_allowed = refl

pub rates_allowed_with_one : replies (opening (record standard { legacy = 1 })) rates_not_allowed_calls ≡
    Joined ∷ Set ∷ Refused BadRate ∷ Refused BadRate ∷ Refused BadRate ∷ []
unfolding the_machine
rates_allowed_with_one = refl

pub rates_allowed_with_two : replies (opening (record standard { legacy = 2 })) rates_not_allowed_calls ≡
    Joined ∷ Set ∷ Refused BadRate ∷ Set ∷ Refused BadRate ∷ []
unfolding the_machine
rates_allowed_with_two = refl

-- a station with an agreement, or with a TID that is held, does not get these rates, and no TID of a station
-- with one of them is held
abbrev pub agreement_or_legacy_calls : List Entry
agreement_or_legacy_calls = map (by 0) (
    Asked (Rate 0 (Ofdm 6)) ∷
    Asked (Join 0 64 100 3 1) ∷
    Asked (Rate 0 (Ofdm 6)) ∷
    Asked (Plain 1 100 3 1) ∷
    Asked (Rate 1 (Ofdm 6)) ∷
    Asked (Hold 1 5) ∷
    Asked (Rate 1 (Ht 0 20 false)) ∷
    Asked (Hold 1 5) ∷
    Asked (Rate 1 (Ofdm 6)) ∷
    [])

pub agreement_or_legacy : replies (opening (record standard { legacy = 1 })) agreement_or_legacy_calls ≡
    Refused NoStation ∷
    Joined ∷
    Refused Agreed ∷
    Joined ∷
    Set ∷
    Refused Legacy ∷
    Set ∷
    reply.Held 100 ∷
    Refused Agreed ∷ []
unfolding the_machine
agreement_or_legacy = refl

-- a batch is one frame, without a delimiter, and an Ack answers it
abbrev pub batch_of_one_calls : List Entry
batch_of_one_calls = map (by 0) (
    Asked (Offload 0 3 1) ∷
    Asked (Rate 0 (Ofdm 54)) ∷
    Enqueue 0 0 7 1500 ∷
    Enqueue 0 0 7 1500 ∷
    Asked (Pull Be no_limits) ∷
    Asked (Arrive 0 0) ∷
    Asked (Done 0 true None) ∷
    Asked (Pull Be no_limits) ∷
    [])

pub batch_of_one : drop 4 (replies (opening (record standard { legacy = 1 })) batch_of_one_calls) ≡
    Send 0 0 0 292 (Batch (0 ∷ [])) false false ∷
    Released [] ∷
    reply.Done 1 0 0 ∷
    Send 1 0 0 292 (Batch (1 ∷ [])) false false ∷ []
unfolding the_machine
batch_of_one = refl
