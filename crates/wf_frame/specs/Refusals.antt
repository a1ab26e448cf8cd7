-- Defines the table of refusals: the number of each, its word, and the number that follows the word of some
-- of them.
use Rattle.std.specs.Prelude.{ℕ, ℤ, pos, ◌==◌, Option, Some, None, List, [], ◌∷◌, codes, find}
use Rattle.wf_frame.specs.declared.notes.Refusal.{Refusal}
use Rattle.wf_frame.specs.declared.notes.Refusal.TheVariants.{BadStation, BadWindow, BadStart, BadExponent, BadRate, BadTick, BadTid, BadAir, BadIndex, Live, NoStation, NoExchange, NoAnswer, Open, Room, Sleeping, Full, Idle, Answered, Arrived, Nothing, Asleep, Awake, Polled, Debt, HistoryFull, BadWeight, Ahead, BadAmpdu, Stopped, Started, Marked, Offloaded, Agreed, Held, NotHeld, NotAgreed, Waits, Legacy, Buffered, Flying, BadClasses, BadBss}

-- begin rows: tools/tables writes these lines

-- a row of the table: the number of a refusal in C, and its word in texts
abbrev pub refusal_row : Refusal → ℕ × List ℕ
refusal_row BadStation = (1, codes "bad-station")
refusal_row BadWindow = (2, codes "bad-window")
refusal_row BadStart = (3, codes "bad-start")
refusal_row BadExponent = (4, codes "bad-exponent")
refusal_row BadRate = (5, codes "bad-rate")
refusal_row BadTick = (6, codes "bad-tick")
refusal_row BadTid = (7, codes "bad-tid")
refusal_row BadAir = (8, codes "bad-air")
refusal_row BadIndex = (9, codes "bad-index")
refusal_row Live = (10, codes "live")
refusal_row NoStation = (11, codes "no-station")
refusal_row NoExchange = (12, codes "no-exchange")
refusal_row NoAnswer = (13, codes "no-answer")
refusal_row (Open count) = (14, codes "open")
refusal_row (Room inside) = (15, codes "room")
refusal_row (Sleeping queued) = (16, codes "sleeping")
refusal_row (Full count) = (17, codes "full")
refusal_row Idle = (18, codes "idle")
refusal_row Answered = (19, codes "answered")
refusal_row Arrived = (20, codes "arrived")
refusal_row Nothing = (21, codes "nothing")
refusal_row Asleep = (22, codes "asleep")
refusal_row Awake = (23, codes "awake")
refusal_row Polled = (24, codes "polled")
refusal_row (Debt deficit) = (25, codes "debt")
refusal_row HistoryFull = (26, codes "history-full")
refusal_row BadWeight = (27, codes "bad-weight")
refusal_row (Ahead owed) = (28, codes "ahead")
refusal_row BadAmpdu = (29, codes "bad-ampdu")
refusal_row Stopped = (30, codes "stopped")
refusal_row Started = (31, codes "started")
refusal_row Marked = (32, codes "marked")
refusal_row Offloaded = (33, codes "offloaded")
refusal_row Agreed = (34, codes "agreed")
refusal_row Held = (35, codes "held")
refusal_row NotHeld = (36, codes "not-held")
refusal_row NotAgreed = (37, codes "not-agreed")
refusal_row (Waits count) = (38, codes "waits")
refusal_row Legacy = (39, codes "legacy")
refusal_row (Buffered queued) = (40, codes "buffered")
refusal_row Flying = (41, codes "flying")
refusal_row BadClasses = (42, codes "bad-classes")
refusal_row BadBss = (43, codes "bad-bss")

-- end rows

-- the number of a refusal
abbrev pub refusal_number : Refusal → ℕ
refusal_number refusal = (refusal_row refusal).0

-- the word of a refusal
abbrev pub refusal_word : Refusal → List ℕ
refusal_word refusal = (refusal_row refusal).1

-- begin numbers: tools/tables writes these lines

-- the number that follows the word of a refusal: the number of open exchanges, of frames inside or of
-- frames queued, or the deficit or the airtime in flight in microseconds
abbrev pub number_told : Refusal → Option ℤ
number_told (Open count) = Some (pos count)
number_told (Room inside) = Some (pos inside)
number_told (Sleeping queued) = Some (pos queued)
number_told (Full count) = Some (pos count)
number_told (Debt deficit) = Some deficit
number_told (Ahead owed) = Some (pos owed)
number_told (Waits count) = Some (pos count)
number_told (Buffered queued) = Some (pos queued)
number_told _ = None

-- the refusals by their numbers; a number that follows the word is 0
abbrev pub refusal_list : List Refusal
refusal_list =
    BadStation ∷ BadWindow ∷ BadStart ∷ BadExponent ∷ BadRate ∷ BadTick ∷ BadTid ∷ BadAir ∷ BadIndex ∷ Live
    ∷ NoStation ∷ NoExchange ∷ NoAnswer ∷ Open 0 ∷ Room 0 ∷ Sleeping 0 ∷ Full 0 ∷ Idle ∷ Answered ∷ Arrived
    ∷ Nothing ∷ Asleep ∷ Awake ∷ Polled ∷ Debt (pos 0) ∷ HistoryFull ∷ BadWeight ∷ Ahead 0 ∷ BadAmpdu
    ∷ Stopped ∷ Started ∷ Marked ∷ Offloaded ∷ Agreed ∷ Held ∷ NotHeld ∷ NotAgreed ∷ Waits 0 ∷ Legacy
    ∷ Buffered 0 ∷ Flying ∷ BadClasses ∷ BadBss ∷ []

-- end numbers

-- the refusal with this number; a number that follows its word is 0
abbrev pub refusal_numbered : ℕ → Option Refusal
refusal_numbered number = find (λ refusal. refusal_number refusal == number) refusal_list
