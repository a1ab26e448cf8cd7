-- Defines the ends of numbers, and the answer of `settle`.
use Rattle.std.specs.Prelude.{ℕ, ◌+◌, nat_le, if◌then◌else◌, Option, Some, None}
use Rattle.wf_frame.specs.declared.classes.Fate.{Fate}
use Rattle.wf_frame.specs.declared.classes.Fate.TheVariants.{Acked as Is_acked, Dropped}
use Rattle.wf_frame.specs.declared.classes.Cause.TheVariants.{Retries}
use Rattle.wf_frame.specs.Frames.{FrameValue}
use Rattle.wf_send_parts.specs.declared.window.ending.End.{End as CodeEnd}
use Rattle.wf_send_parts.specs.declared.window.ending.End.TheVariants.{Acknowledged, Missed, GivenUp, Unsent}
use Rattle.wf_send_parts.specs.declared.window.place.Place.{Place}
use Rattle.wf_send_parts.specs.declared.window.place.Place.TheVariants.{Waiting as Waits, Failed as Fails}
use Rattle.wf_send_parts.specs.declared.window.window.Settled.{Settled}
use Rattle.wf_send_parts.specs.declared.window.window.Settled.TheVariants.{Acked, Waiting, Failed}
use Rattle.wf_def_agreement.specs.Session.{Slot, End}

-- the end of the definition that an end of the code is
abbrev pub as_end : CodeEnd → End
as_end Acknowledged = End.Acknowledged
as_end Missed = End.Missed
as_end GivenUp = End.GivenUp
as_end Unsent = End.Unsent

abbrev pub with_fate : Fate → FrameValue → FrameValue
with_fate fate f = record f { fate = fate }

-- the place of a number that flew, after its exchange ended so for it; `attempts` were in vain before
abbrev pub place_ended : End → ℕ → FrameValue → ℕ → Option Place
place_ended End.Acknowledged limit parcel attempts = None
place_ended End.Missed limit parcel attempts =
    if nat_le limit (attempts + 1) then Some Fails else Some (Waits parcel (attempts + 1))
place_ended End.GivenUp limit parcel attempts = Some Fails
place_ended End.Unsent limit parcel attempts = Some (Waits parcel attempts)

-- the answer for this number
abbrev pub answer_ended : End → ℕ → FrameValue → ℕ → Settled
answer_ended End.Acknowledged limit parcel attempts = Acked (with_fate Is_acked parcel)
answer_ended End.Missed limit parcel attempts =
    if nat_le limit (attempts + 1) then Failed (with_fate (Dropped Retries) parcel) else Waiting
answer_ended End.GivenUp limit parcel attempts = Failed (with_fate (Dropped Retries) parcel)
answer_ended End.Unsent limit parcel attempts = Waiting

-- the answer for a number with this slot
abbrev pub settling_answer : End → ℕ → (ℕ → FrameValue) → Slot → Settled
settling_answer end limit bodies x = answer_ended end limit (bodies x.id) x.attempts
