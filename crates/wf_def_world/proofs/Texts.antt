-- Proves, by computing, the whole text that the program writes for each of these histories.
use Rattle.std.proofs.Common.{◌≡◌, refl, true, false, List, [], ◌∷◌, ◌++◌, None, map, codes}
use Rattle.std.specs.List.{concat}
use Rattle.std.specs.Fmt.{digits}
use Rattle.wf_frame.specs.declared.classes.Class.TheVariants.{Be}
use Rattle.wf_frame.specs.declared.notes.Ask.TheVariants.{Join, Rate, Pull, Arrive, Answer, Done, Sleep}
use Rattle.wf_frame.specs.declared.notes.AskedRate.TheVariants.{Ht}
use Rattle.wf_frame.specs.declared.notes.Note.TheVariants.{Enqueue, Asked}
use Rattle.wf_frame.specs.Settings.{standard}
use Rattle.wf_def_world.specs.Run.{Entry, by}
use Rattle.wf_def_world.specs.Text.{text_of}
use Rattle.wf_def_world.specs.Computed.{the_machine}
use Rattle.wf_def_world.proofs.Rehearsals.{times, served, each_line}
use Rattle.wf_frame.specs.Calls.{no_limits}

-- no calls
abbrev pub empty_history_calls : List Entry
empty_history_calls = map (by 0) (
    [])

pub empty_history : text_of standard empty_history_calls ≡ concat (
    codes "calls 0\n" ∷
    codes "now 0\n" ∷
    codes "frames 0 acked 0 overlimit 0 codel 0 retries 0 left 0 held 0\n" ∷
    codes "exchanges 0 open 0\n" ∷
    codes "tim 050400010000\n" ∷
    [])
unfolding the_machine digits
empty_history = refl

-- one frame, acknowledged at once
abbrev pub one_frame_acknowledged_calls : List Entry
one_frame_acknowledged_calls = map (by 0) (
    Asked (Join 0 64 100 3 1) ∷
    Enqueue 0 0 7 1500 ∷
    served Be 0 1 ++
    [])

pub one_frame_acknowledged : text_of standard one_frame_acknowledged_calls ≡ concat (
    codes "joined\n" ∷
    codes "accepted 0\n" ∷
    codes "send 0 sta 0 tid 0 air 1976 data 0:100\n" ∷
    codes "released 0\n" ∷
    codes "ba 100 0000000000000001\n" ∷
    codes "done acked 1 waiting 0 failed 0\n" ∷
    codes "calls 6\n" ∷
    codes "now 0\n" ∷
    codes "frames 1 acked 1 overlimit 0 codel 0 retries 0 left 0 held 0\n" ∷
    codes "exchanges 1 open 0\n" ∷
    codes "sta 0 be charged 1976 rx 0 deficit -1676\n" ∷
    codes "tim 050400010000\n" ∷
    [])
unfolding the_machine digits
one_frame_acknowledged = refl

-- the last transmission of a frame fails, and a request moves the receiver past its number
abbrev pub failed_frame_then_request_calls : List Entry
failed_frame_then_request_calls = map (by 0) (
    Asked (Join 0 64 100 3 1) ∷
    Enqueue 0 0 7 1500 ∷
    Enqueue 0 0 7 1500 ∷
    Asked (Pull Be no_limits) ∷
    Asked (Arrive 0 1) ∷
    Asked (Answer 0) ∷
    Asked (Done 0 true None) ∷
    Asked (Pull Be no_limits) ∷
    served Be 1 1 ++
    [])

pub failed_frame_then_request : text_of (record standard { attempts = 1 }) failed_frame_then_request_calls
    ≡ concat (
    codes "joined\n" ∷
    codes "accepted 0\n" ∷
    codes "accepted 1\n" ∷
    codes "send 0 sta 0 tid 0 air 3868 data 0:100 1:101\n" ∷
    codes "released\n" ∷
    codes "ba 100 0000000000000002\n" ∷
    codes "done acked 1 waiting 0 failed 1\n" ∷
    codes "send 1 sta 0 tid 0 air 80 bar 102\n" ∷
    codes "refused idle\n" ∷
    codes "released 1\n" ∷
    codes "ba 102 0000000000000000\n" ∷
    codes "done acked 0 waiting 0 failed 0\n" ∷
    codes "calls 12\n" ∷
    codes "now 0\n" ∷
    codes "frames 2 acked 1 overlimit 0 codel 0 retries 1 left 0 held 0\n" ∷
    codes "exchanges 2 open 0\n" ∷
    codes "sta 0 be charged 3948 rx 0 deficit -48\n" ∷
    codes "tim 050400010000\n" ∷
    [])
unfolding the_machine digits
failed_frame_then_request = refl

-- a sleeping station with a queued frame is in the traffic map
abbrev pub sleeper_in_tim_calls : List Entry
sleeper_in_tim_calls = map (by 0) (
    Asked (Join 0 64 0 3 1) ∷
    Asked (Sleep 0) ∷
    Enqueue 0 0 7 100 ∷
    Enqueue 0 0 7 100 ∷
    [])

pub sleeper_in_tim : text_of standard sleeper_in_tim_calls ≡ concat (
    codes "joined\n" ∷
    codes "slept\n" ∷
    codes "accepted 0\n" ∷
    codes "accepted 1\n" ∷
    codes "calls 4\n" ∷
    codes "now 0\n" ∷
    codes "frames 2 acked 0 overlimit 0 codel 0 retries 0 left 0 held 2\n" ∷
    codes "exchanges 0 open 0\n" ∷
    codes "tim 050400010002\n" ∷
    [])
unfolding the_machine digits
sleeper_in_tim = refl

-- a slow and a fast station share the airtime
abbrev pub airtime_shared_small_calls : List Entry
airtime_shared_small_calls = map (by 0) (
    Asked (Join 0 64 0 3 1) ∷
    Asked (Join 1 1 0 3 1) ∷
    Asked (Rate 1 (Ht 7 20 false)) ∷
    times 8 (Enqueue 0 0 1 1500) ++
    times 20 (Enqueue 1 0 2 1500) ++
    served Be 0 2 ++
    served Be 1 1 ++
    served Be 2 1 ++
    served Be 3 1 ++
    served Be 4 1 ++
    served Be 5 1 ++
    served Be 6 1 ++
    served Be 7 1 ++
    served Be 8 1 ++
    served Be 9 1 ++
    served Be 10 1 ++
    served Be 11 1 ++
    served Be 12 1 ++
    served Be 13 1 ++
    served Be 14 1 ++
    served Be 15 2 ++
    [])

pub airtime_shared_small : text_of standard airtime_shared_small_calls ≡ concat (
    codes "joined\n" ∷
    codes "joined\n" ∷
    codes "set\n" ∷
    each_line (codes "accepted ") 28 ∷
    codes "send 0 sta 0 tid 0 air 3868 data 0:0 1:1\n" ∷
    codes "released 0\n" ∷
    codes "released 1\n" ∷
    codes "ba 0 0000000000000003\n" ∷
    codes "done acked 2 waiting 0 failed 0\n" ∷
    codes "send 1 sta 1 tid 0 air 276 data 8:0\n" ∷
    codes "released 8\n" ∷
    codes "ba 0 0000000000000001\n" ∷
    codes "done acked 1 waiting 0 failed 0\n" ∷
    codes "send 2 sta 1 tid 0 air 276 data 9:1\n" ∷
    codes "released 9\n" ∷
    codes "ba 1 0000000000000001\n" ∷
    codes "done acked 1 waiting 0 failed 0\n" ∷
    codes "send 3 sta 1 tid 0 air 276 data 10:2\n" ∷
    codes "released 10\n" ∷
    codes "ba 2 0000000000000001\n" ∷
    codes "done acked 1 waiting 0 failed 0\n" ∷
    codes "send 4 sta 1 tid 0 air 276 data 11:3\n" ∷
    codes "released 11\n" ∷
    codes "ba 3 0000000000000001\n" ∷
    codes "done acked 1 waiting 0 failed 0\n" ∷
    codes "send 5 sta 1 tid 0 air 276 data 12:4\n" ∷
    codes "released 12\n" ∷
    codes "ba 4 0000000000000001\n" ∷
    codes "done acked 1 waiting 0 failed 0\n" ∷
    codes "send 6 sta 1 tid 0 air 276 data 13:5\n" ∷
    codes "released 13\n" ∷
    codes "ba 5 0000000000000001\n" ∷
    codes "done acked 1 waiting 0 failed 0\n" ∷
    codes "send 7 sta 1 tid 0 air 276 data 14:6\n" ∷
    codes "released 14\n" ∷
    codes "ba 6 0000000000000001\n" ∷
    codes "done acked 1 waiting 0 failed 0\n" ∷
    codes "send 8 sta 1 tid 0 air 276 data 15:7\n" ∷
    codes "released 15\n" ∷
    codes "ba 7 0000000000000001\n" ∷
    codes "done acked 1 waiting 0 failed 0\n" ∷
    codes "send 9 sta 1 tid 0 air 276 data 16:8\n" ∷
    codes "released 16\n" ∷
    codes "ba 8 0000000000000001\n" ∷
    codes "done acked 1 waiting 0 failed 0\n" ∷
    codes "send 10 sta 1 tid 0 air 276 data 17:9\n" ∷
    codes "released 17\n" ∷
    codes "ba 9 0000000000000001\n" ∷
    codes "done acked 1 waiting 0 failed 0\n" ∷
    codes "send 11 sta 1 tid 0 air 276 data 18:10\n" ∷
    codes "released 18\n" ∷
    codes "ba 10 0000000000000001\n" ∷
    codes "done acked 1 waiting 0 failed 0\n" ∷
    codes "send 12 sta 1 tid 0 air 276 data 19:11\n" ∷
    codes "released 19\n" ∷
    codes "ba 11 0000000000000001\n" ∷
    codes "done acked 1 waiting 0 failed 0\n" ∷
    codes "send 13 sta 1 tid 0 air 276 data 20:12\n" ∷
    codes "released 20\n" ∷
    codes "ba 12 0000000000000001\n" ∷
    codes "done acked 1 waiting 0 failed 0\n" ∷
    codes "send 14 sta 1 tid 0 air 276 data 21:13\n" ∷
    codes "released 21\n" ∷
    codes "ba 13 0000000000000001\n" ∷
    codes "done acked 1 waiting 0 failed 0\n" ∷
    codes "send 15 sta 0 tid 0 air 3868 data 2:2 3:3\n" ∷
    codes "released 2\n" ∷
    codes "released 3\n" ∷
    codes "ba 0 000000000000000f\n" ∷
    codes "done acked 2 waiting 0 failed 0\n" ∷
    codes "calls 97\n" ∷
    codes "now 0\n" ∷
    codes "frames 28 acked 18 overlimit 0 codel 0 retries 0 left 0 held 10\n" ∷
    codes "exchanges 16 open 0\n" ∷
    codes "sta 0 be charged 7736 rx 0 deficit -3836\n" ∷
    codes "sta 1 be charged 3864 rx 0 deficit 36\n" ∷
    codes "tim 050400010000\n" ∷
    [])
unfolding the_machine digits
airtime_shared_small = refl

-- two stations with weights 1 and 3 share the airtime in that ratio
abbrev pub weight_three_against_one_calls : List Entry
weight_three_against_one_calls = map (by 0) (
    Asked (Join 0 64 0 3 1) ∷
    Asked (Join 1 64 0 3 3) ∷
    times 6 (Enqueue 0 0 1 100) ++
    times 12 (Enqueue 1 0 2 100) ++
    served Be 0 1 ++
    served Be 1 1 ++
    served Be 2 1 ++
    served Be 3 1 ++
    served Be 4 1 ++
    served Be 5 1 ++
    served Be 6 1 ++
    served Be 7 1 ++
    served Be 8 1 ++
    served Be 9 1 ++
    served Be 10 1 ++
    served Be 11 1 ++
    served Be 12 1 ++
    served Be 13 1 ++
    served Be 14 1 ++
    served Be 15 1 ++
    [])

pub weight_three_against_one : text_of (record standard { agg = 1 }) weight_three_against_one_calls ≡ concat (
    codes "joined\n" ∷
    codes "joined\n" ∷
    each_line (codes "accepted ") 18 ∷
    codes "send 0 sta 0 tid 0 air 256 data 0:0\n" ∷
    codes "released 0\n" ∷
    codes "ba 0 0000000000000001\n" ∷
    codes "done acked 1 waiting 0 failed 0\n" ∷
    codes "send 1 sta 0 tid 0 air 256 data 1:1\n" ∷
    codes "released 1\n" ∷
    codes "ba 0 0000000000000003\n" ∷
    codes "done acked 1 waiting 0 failed 0\n" ∷
    codes "send 2 sta 1 tid 0 air 256 data 6:0\n" ∷
    codes "released 6\n" ∷
    codes "ba 0 0000000000000001\n" ∷
    codes "done acked 1 waiting 0 failed 0\n" ∷
    codes "send 3 sta 1 tid 0 air 256 data 7:1\n" ∷
    codes "released 7\n" ∷
    codes "ba 0 0000000000000003\n" ∷
    codes "done acked 1 waiting 0 failed 0\n" ∷
    codes "send 4 sta 1 tid 0 air 256 data 8:2\n" ∷
    codes "released 8\n" ∷
    codes "ba 0 0000000000000007\n" ∷
    codes "done acked 1 waiting 0 failed 0\n" ∷
    codes "send 5 sta 1 tid 0 air 256 data 9:3\n" ∷
    codes "released 9\n" ∷
    codes "ba 0 000000000000000f\n" ∷
    codes "done acked 1 waiting 0 failed 0\n" ∷
    codes "send 6 sta 0 tid 0 air 256 data 2:2\n" ∷
    codes "released 2\n" ∷
    codes "ba 0 0000000000000007\n" ∷
    codes "done acked 1 waiting 0 failed 0\n" ∷
    codes "send 7 sta 1 tid 0 air 256 data 10:4\n" ∷
    codes "released 10\n" ∷
    codes "ba 0 000000000000001f\n" ∷
    codes "done acked 1 waiting 0 failed 0\n" ∷
    codes "send 8 sta 1 tid 0 air 256 data 11:5\n" ∷
    codes "released 11\n" ∷
    codes "ba 0 000000000000003f\n" ∷
    codes "done acked 1 waiting 0 failed 0\n" ∷
    codes "send 9 sta 1 tid 0 air 256 data 12:6\n" ∷
    codes "released 12\n" ∷
    codes "ba 0 000000000000007f\n" ∷
    codes "done acked 1 waiting 0 failed 0\n" ∷
    codes "send 10 sta 1 tid 0 air 256 data 13:7\n" ∷
    codes "released 13\n" ∷
    codes "ba 0 00000000000000ff\n" ∷
    codes "done acked 1 waiting 0 failed 0\n" ∷
    codes "send 11 sta 0 tid 0 air 256 data 3:3\n" ∷
    codes "released 3\n" ∷
    codes "ba 0 000000000000000f\n" ∷
    codes "done acked 1 waiting 0 failed 0\n" ∷
    codes "send 12 sta 1 tid 0 air 256 data 14:8\n" ∷
    codes "released 14\n" ∷
    codes "ba 0 00000000000001ff\n" ∷
    codes "done acked 1 waiting 0 failed 0\n" ∷
    codes "send 13 sta 1 tid 0 air 256 data 15:9\n" ∷
    codes "released 15\n" ∷
    codes "ba 0 00000000000003ff\n" ∷
    codes "done acked 1 waiting 0 failed 0\n" ∷
    codes "send 14 sta 1 tid 0 air 256 data 16:10\n" ∷
    codes "released 16\n" ∷
    codes "ba 0 00000000000007ff\n" ∷
    codes "done acked 1 waiting 0 failed 0\n" ∷
    codes "send 15 sta 0 tid 0 air 256 data 4:4\n" ∷
    codes "released 4\n" ∷
    codes "ba 0 000000000000001f\n" ∷
    codes "done acked 1 waiting 0 failed 0\n" ∷
    codes "calls 84\n" ∷
    codes "now 0\n" ∷
    codes "frames 18 acked 16 overlimit 0 codel 0 retries 0 left 0 held 2\n" ∷
    codes "exchanges 16 open 0\n" ∷
    codes "sta 0 be charged 1280 rx 0 deficit -80\n" ∷
    codes "sta 1 be charged 2816 rx 0 deficit 784\n" ∷
    codes "tim 050400010000\n" ∷
    [])
unfolding the_machine digits
weight_three_against_one = refl

-- one aggregate of seventy frames in a window of 256
abbrev pub wide_window_seventy_frames_calls : List Entry
wide_window_seventy_frames_calls = map (by 0) (
    Asked (Join 0 256 100 3 1) ∷
    Asked (Rate 0 (Ht 7 20 false)) ∷
    times 70 (Enqueue 0 0 7 64) ++
    served Be 0 70 ++
    [])

pub wide_window_seventy_frames : text_of (record standard { agg = 256 }) wide_window_seventy_frames_calls
    ≡ concat (
    codes "joined\n" ∷
    codes "set\n" ∷
    each_line (codes "accepted ") 70 ∷
    codes "send 0 sta 0 tid 0 air 956 data 0:100 1:101 2:102 3:103 4:104 5:105 6:106 7:107 8:108 9:109 10:110 11:111 12:112 13:113 14:114 15:115 16:116 17:117 18:118 19:119 20:120 21:121 22:122 23:123 24:124 25:125 26:126 27:127 28:128 29:129 30:130 31:131 32:132 33:133 34:134 35:135 36:136 37:137 38:138 39:139 40:140 41:141 42:142 43:143 44:144 45:145 46:146 47:147 48:148 49:149 50:150 51:151 52:152 53:153 54:154 55:155 56:156 57:157 58:158 59:159 60:160 61:161 62:162 63:163 64:164 65:165 66:166 67:167 68:168 69:169\n" ∷
    each_line (codes "released ") 70 ∷
    codes "ba 100 00000000000000000000000000000000000000000000003fffffffffffffffff\n" ∷
    codes "done acked 70 waiting 0 failed 0\n" ∷
    codes "calls 145\n" ∷
    codes "now 0\n" ∷
    codes "frames 70 acked 70 overlimit 0 codel 0 retries 0 left 0 held 0\n" ∷
    codes "exchanges 1 open 0\n" ∷
    codes "sta 0 be charged 956 rx 0 deficit -656\n" ∷
    codes "tim 050400010000\n" ∷
    [])
unfolding the_machine digits
wide_window_seventy_frames = refl
