-- Defines the text that is written of a run: its answer lines, and its summary with the TIM element
-- (IEEE 802.11-2012, 8.4.2.7).
use Rattle.std.specs.Prelude.{ℕ, ℤ, zero, suc, ◌+◌, ◌/◌, ◌%◌, ◌==◌, nat_lt, Bool, true, false, ◌&&◌, List, [], ◌∷◌, ◌++◌, Option, Some, None, if◌then◌else◌, length, map, filter, count_by, codes, decimal}
use Rattle.std.specs.Fmt.{signed_decimal}
use Rattle.std.specs.List.{concat}
use Rattle.wf_frame.specs.declared.classes.Class.{Class}
use Rattle.wf_frame.specs.declared.classes.Cause.{Cause}
use Rattle.wf_frame.specs.declared.classes.Cause.TheVariants.{Overlimit, Codel, Retries, Left, Flushed, Ended}
use Rattle.wf_frame.specs.declared.classes.Fate.{Fate}
use Rattle.wf_frame.specs.declared.classes.Fate.TheVariants.{Held, Acked, Dropped}
use Rattle.wf_frame.specs.declared.notes.Part.{Part}
use Rattle.wf_frame.specs.declared.notes.Part.TheVariants.{Mpdus, Batch, Plain, Request}
use Rattle.wf_frame.specs.declared.notes.GroupReply.{GroupReply}
use Rattle.wf_frame.specs.declared.notes.GroupReply.TheVariants as group
use Rattle.wf_frame.specs.declared.notes.ServiceReply.{ServiceReply}
use Rattle.wf_frame.specs.declared.notes.ServiceReply.TheVariants as service
use Rattle.wf_frame.specs.declared.notes.Refusal.{Refusal}
use Rattle.wf_frame.specs.declared.notes.ReplyNote.{ReplyNote}
use Rattle.wf_frame.specs.declared.notes.ReplyNote.TheVariants.{Joined, Set, Now, Accepted, Send, Released, Ba, Done, Slept, Woken, Polled, Charged, Reaped, Stopped, Started, Marked, Ack, Begun, Freed, Ceased, Refused}
use Rattle.wf_frame.specs.declared.notes.ReplyNote.TheVariants as reply
use Rattle.wf_frame.specs.declared.settings.Config.{Config}
use Rattle.wf_def_tim.specs.Tim.{tim_element, with_group_bit}
use Rattle.wf_def_lists.specs.Table.{upto}
use Rattle.wf_def_world.specs.Group.{GroupState, bss_count, dtim_period, held_count}
use Rattle.wf_def_world.specs.World.{World, Share, share, station, live_stations, accepted_count, group_of, opening}
use Rattle.wf_frame.specs.Classes.{all_classes, class_word, fate_word}
use Rattle.wf_frame.specs.Refusals.{refusal_word, number_told}
use Rattle.wf_frame.specs.Words.{line}
use Rattle.wf_def_world.specs.Exchanges.{has_more}
use Rattle.wf_def_world.specs.Run.{Entry, world_after, replies}

-- the code of a hexadecimal digit, lower-case: 0 to 9 are 48 to 57, a to f are 97 to 102
abbrev pub hex_digit : ℕ → ℕ
hex_digit d = if nat_lt d 10 then 48 + d else 87 + d

-- the last n hexadecimal digits of a number
abbrev pub hex : ℕ → ℕ → List ℕ
hex zero x = []
hex (suc n) x = hex n (x / 16) ++ hex_digit (x % 16) ∷ []

-- the number of a refusal as a word, if it has one
abbrev pub told_words : Option ℤ → List (List ℕ)
told_words None = []
told_words (Some number) = signed_decimal number ∷ []

-- the words of a refusal: its own, and its number if it has one
abbrev pub refusal_words : Refusal → List (List ℕ)
refusal_words refusal = refusal_word refusal ∷ told_words (number_told refusal)

-- the words for what an exchange sends: each frame with its sequence number, or the start of a request
abbrev pub part_words : Part → List (List ℕ)
part_words (Mpdus pairs) = codes "data" ∷ map (λ p. decimal p.0 ++ codes ":" ++ decimal p.1) pairs
part_words (Plain pairs) = codes "plain" ∷ map (λ p. decimal p.0 ++ codes ":" ++ decimal p.1) pairs
part_words (Batch ids) = codes "batch" ∷ map decimal ids
part_words (Request start) = codes "bar" ∷ decimal start ∷ []

-- the words for the frame that was dropped for the limit, if any
abbrev pub dropped_words : Option ℕ → List (List ℕ)
dropped_words None = []
dropped_words (Some id) = codes "dropped" ∷ decimal id ∷ []

-- the bits of a BlockAck in hexadecimal, the greatest offset first: 255 if it is wide, otherwise 63
abbrev pub score_digits : ℕ → ℕ → ℕ → ℕ → Bool → List ℕ
score_digits b0 b1 b2 b3 wide = if wide then hex 16 b3 ++ hex 16 b2 ++ hex 16 b1 ++ hex 16 b0 else hex 16 b0

-- the word for a bit
abbrev pub bit_word : Bool → List ℕ
bit_word bit = if bit then codes "1" else codes "0"

-- the word for the More Data bit, if it is set
abbrev pub more_words : Bool → List (List ℕ)
more_words more = if more then codes "more" ∷ [] else []

-- the word for the EOSP bit, if it is set
abbrev pub eosp_words : Bool → List (List ℕ)
eosp_words eosp = if eosp then codes "eosp" ∷ [] else []

-- the words of the answer to a call about service periods
abbrev pub service_words : ServiceReply → List (List ℕ)
service_words service.Set = codes "set" ∷ []
service_words (service.Triggered class) = codes "triggered" ∷ class_word class ∷ []
service_words service.Ended = codes "ended" ∷ []

-- the words of the answer to a call about group frames
abbrev pub group_words : GroupReply → List (List ℕ)
group_words (group.Queued id) = codes "queued" ∷ decimal id ∷ []
group_words (group.Beacon count follows) = codes "beacon" ∷ decimal count ∷ bit_word follows ∷ []
group_words (group.Send id number air more) =
    codes "gsend" ∷ decimal id ∷ decimal number ∷ codes "air" ∷ decimal air ∷ [] ++ more_words more
group_words (group.Done id) = codes "gdone" ∷ decimal id ∷ []

-- the words of a reply
abbrev pub reply_words : ReplyNote → List (List ℕ)
reply_words Joined = codes "joined" ∷ []
reply_words (reply.Left dropped) = codes "left" ∷ decimal dropped ∷ []
reply_words Set = codes "set" ∷ []
reply_words (Now now) = codes "now" ∷ decimal now ∷ []
reply_words (Accepted id dropped) = codes "accepted" ∷ decimal id ∷ dropped_words dropped
reply_words (Send e s t air part more eosp) =
    codes "send" ∷ decimal e ∷ codes "sta" ∷ decimal s ∷ codes "tid" ∷ decimal t ∷ codes "air"
    ∷ decimal air ∷ []
    ++ part_words part ++ more_words more ++ eosp_words eosp
reply_words (Released ids) = codes "released" ∷ map decimal ids
reply_words (Ba start b0 b1 b2 b3 wide) = codes "ba" ∷ decimal start ∷ score_digits b0 b1 b2 b3 wide ∷ []
reply_words (Done acked waiting failed) =
    codes "done" ∷ codes "acked" ∷ decimal acked ∷ codes "waiting" ∷ decimal waiting ∷ codes "failed"
    ∷ decimal failed ∷ []
reply_words Slept = codes "slept" ∷ []
reply_words Woken = codes "woken" ∷ []
reply_words (Polled class) = codes "polled" ∷ class_word class ∷ []
reply_words (Charged deficit) = codes "charged" ∷ signed_decimal deficit ∷ []
reply_words (Reaped id fate) = codes "reaped" ∷ decimal id ∷ fate_word fate ∷ []
reply_words Stopped = codes "stopped" ∷ []
reply_words Started = codes "started" ∷ []
reply_words Marked = codes "marked" ∷ []
reply_words (reply.Flushed dropped) = codes "flushed" ∷ decimal dropped ∷ []
reply_words Ack = codes "ack" ∷ []
reply_words (reply.Held start) = codes "held" ∷ decimal start ∷ []
reply_words Begun = codes "begun" ∷ []
reply_words Freed = codes "freed" ∷ []
reply_words (Ceased dropped ids) = codes "ceased" ∷ decimal dropped ∷ map decimal ids
reply_words (reply.Group answer) = group_words answer
reply_words (reply.Service answer) = service_words answer
reply_words (Refused refusal) = codes "refused" ∷ refusal_words refusal

-- the answer line of a reply
abbrev pub answer_line : ReplyNote → List ℕ
answer_line r = line (reply_words r)

-- ---- the summary

-- whether two causes are equal
abbrev pub same_cause : Cause → Cause → Bool
same_cause Overlimit Overlimit = true
same_cause Codel Codel = true
same_cause Retries Retries = true
same_cause Left Left = true
same_cause Flushed Flushed = true
same_cause Ended Ended = true
same_cause _ _ = false

-- whether two fates are equal
abbrev pub same_fate : Fate → Fate → Bool
same_fate Held Held = true
same_fate Acked Acked = true
same_fate (Dropped a) (Dropped b) = same_cause a b
same_fate _ _ = false

-- the number of accepted frames with this fate
abbrev pub tally : World → Fate → ℕ
tally w fate = count_by (λ f. same_fate f.fate fate) w.frames

-- the words for a fate that only calls beyond the first ones give: none if no frame has it
abbrev pub tally_if_any : World → Fate → List (List ℕ)
tally_if_any w fate = if tally w fate == 0 then [] else fate_word fate ∷ decimal (tally w fate) ∷ []

-- line 3: the number of accepted frames, and how many have each fate
abbrev pub tally_words : World → List (List ℕ)
tally_words w =
    codes "frames" ∷ decimal (accepted_count w) ∷ codes "acked" ∷ decimal (tally w Acked)
    ∷ codes "overlimit" ∷ decimal (tally w (Dropped Overlimit)) ∷
    codes "codel" ∷ decimal (tally w (Dropped Codel)) ∷ codes "retries"
    ∷ decimal (tally w (Dropped Retries)) ∷
    codes "left" ∷ decimal (tally w (Dropped Left)) ∷ codes "held" ∷ decimal (tally w Held) ∷ []
    ++ tally_if_any w (Dropped Flushed) ++ tally_if_any w (Dropped Ended)

-- line 5, one for each station and class: its airtime in microseconds; empty if it had none
abbrev pub share_line : ℕ → Class → Share → List ℕ
share_line s c x =
    if x.charged + x.received == 0 then []
    else line (codes "sta" ∷ decimal s ∷ class_word c ∷ codes "charged" ∷ decimal x.charged ∷
    codes "rx" ∷ decimal x.received ∷ codes "deficit" ∷ signed_decimal x.deficit ∷ [])

-- the lines of a station, class by class
abbrev pub share_lines : World → ℕ → List ℕ
share_lines w s = concat (map (λ c. share_line s c (share w s c)) all_classes)

-- the last words of a line about BSS b, if there are several
abbrev pub bss_words : World → ℕ → List (List ℕ)
bss_words w b = if nat_lt 1 w.config.bsses then codes "bss" ∷ decimal b ∷ [] else []

-- line 6, if the setting `buffered` allows group frames: how many of BSS b were accepted, sent and are held,
-- and the airtime of those that were sent, in microseconds
abbrev pub group_line : World → ℕ → List ℕ
group_line w b =
    let g : GroupState = group_of w b in
    if w.config.buffered == 0 then []
    else line (codes "group" ∷ decimal g.accepted ∷ codes "sent" ∷ decimal g.sent ∷
    codes "held" ∷ decimal (held_count g) ∷ codes "air" ∷ decimal g.air ∷ [] ++ bss_words w b)

-- the TIM element with these AIDs and what the latest beacon of BSS b said: its DTIM count and period, and
-- whether it announced group frames
abbrev pub beacon_map : World → ℕ → List ℕ → List ℕ
beacon_map w b aids =
    let g : GroupState = group_of w b in
    with_group_bit g.announced (tim_element g.count (dtim_period w.config.period) aids)

-- whether a station of BSS b sleeps and has traffic
abbrev pub is_awaited : World → ℕ → ℕ → Bool
is_awaited w b s = (station w s).asleep && (((station w s).bss == b) && has_more w s)

-- the AIDs of the live stations of BSS b that sleep and have traffic, rising: station s has AID s + 1
abbrev pub with_traffic : World → ℕ → List ℕ
with_traffic w b = map (λ s. s + 1) (filter (is_awaited w b) (live_stations w))

-- line 7: the octets of the TIM element of BSS b
abbrev pub tim_line : World → ℕ → List ℕ
tim_line w b =
    line (codes "tim" ∷ concat (map (hex 2) (beacon_map w b (with_traffic w b))) ∷ [] ++ bss_words w b)

-- the lines of BSS b
abbrev pub bss_lines : World → ℕ → List ℕ
bss_lines w b = group_line w b ++ tim_line w b

-- the summary of a world after this number of calls
abbrev pub summary : World → ℕ → List ℕ
summary w calls =
    line (codes "calls" ∷ decimal calls ∷ []) ++ line (codes "now" ∷ decimal w.clock ∷ [])
    ++ line (tally_words w)
    ++ line (codes "exchanges" ∷ decimal w.exchanges ∷ codes "open" ∷ decimal (length w.opened) ∷ [])
    ++ concat (map (share_lines w) (live_stations w))
    ++ concat (map (bss_lines w) (upto (bss_count w.config.bsses)))

-- the answer lines of a history's replies, in order
abbrev pub answer_lines : Config → List Entry → List ℕ
answer_lines config history = concat (map answer_line (replies (opening config) history))

-- the summary of the world after a history
abbrev pub history_summary : Config → List Entry → List ℕ
history_summary config history = summary (world_after (opening config) history) (length history)

-- the text of a whole history: its answer lines and its summary
abbrev pub text_of : Config → List Entry → List ℕ
text_of config history = answer_lines config history ++ history_summary config history
