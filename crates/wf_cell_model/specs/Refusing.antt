-- Defines why an Arrive, an Unsent, an Answer or a Done is refused, by the mark of the exchange, if it is
-- open.
use Rattle.std.specs.Prelude.{ℕ, nat_le, ◌==◌, not, ◌&&◌, ◌||◌, Bool, List, find, length, Option, Some, None, is_some, is_none, if◌then◌else◌}
use Rattle.std.specs.Option.{option_or}
use Rattle.wf_frame.specs.declared.notes.Refusal.{Refusal}
use Rattle.wf_frame.specs.declared.notes.Refusal.TheVariants.{NoExchange, NoAnswer, BadAir, BadIndex, Answered, Arrived, Marked, Nothing}
use Rattle.wf_def_lists.specs.Table.{has}
use Rattle.wf_recv_marks.specs.declared.marks.Mark.{Mark}
use Rattle.wf_frame.specs.declared.settings.Config.{Config}
use Rattle.wf_frame.specs.Settings.{is_bad_air}

-- the mark of the open exchange with this number
abbrev pub mark_in : List Mark → ℕ → Option Mark
mark_in marks e = find (λ m. m.number == e) marks

-- why an Arrive or an Unsent of index i is refused, if the exchange has `count` transmissions, before the
-- marks of the device are looked at
abbrev pub told_refusal : Option Mark → ℕ → ℕ → Option Refusal
told_refusal None count i = Some NoExchange
told_refusal (Some m) count i =
    if nat_le count i then Some BadIndex
    else (if is_some m.answer then Some Answered else (if has m.arrived i then Some Arrived else None))

-- why an Arrive is refused: `unsent` is whether the transmission never went on the air
abbrev pub arrive_refusal : Option Mark → ℕ → ℕ → Bool → Option Refusal
arrive_refusal m count i unsent = option_or (told_refusal m count i) (if unsent then Some Marked else None)

-- why an Answer is refused; a batch has no answer
abbrev pub answer_refusal : Option Mark → Bool → Option Refusal
answer_refusal None batch = Some NoExchange
answer_refusal (Some m) batch = if is_some m.answer then Some Answered
    else (if batch || (length m.arrived == 0) then Some Nothing else None)

-- why a Done is refused, heard or not, with this airtime or none; that of a batch needs no answer
abbrev pub done_refusal : Config → Option Mark → Bool → Bool → Option ℕ → Option Refusal
done_refusal config None batch heard air = Some NoExchange
done_refusal config (Some m) batch heard air =
    if heard && (not batch && is_none m.answer) then Some NoAnswer
    else (if is_bad_air config air then Some BadAir else None)
