-- Defines CoDel (RFC 8289, section 5) in closed form, on a queue that is a list of frames. Times are in
-- microseconds and lengths in octets. One dequeue looks at frames from the head on. Looks are numbered from
-- 0: look i sees the queue without its first i frames. CodelLoop defines the same dequeue frame by frame,
-- as in the RFC. A law of wf_law_rules states that the two are equal.
use Rattle.std.specs.Prelude.{length, take, drop, slice_get, ℕ, zero, suc, ◌+◌, ◌*◌, ◌-◌, ◌/◌, ◌≤◌, ◌<◌, ◌==◌, min, nat_lt, nat_le, Bool, true, false, ◌&&◌, ◌||◌, not, List, [], ◌∷◌, Option, if◌then◌else◌, sum_by}
use Rattle.wf_def_lists.specs.Lengths.{greatest_body}

-- The value of MAXPACKET (5.3): the greatest body of a frame. If at most this many octets follow a frame in
-- its queue, CoDel does not drop the frame, however long it waited.
abbrev pub max_packet : ℕ
max_packet = greatest_body

-- The greatest number of drops, 2^32 - 1. `count` and `dropped` stay at this value once they are there.
abbrev pub greatest_count : ℕ
greatest_count = 4294967295

-- If dropping begins again within this many intervals after drop_next, it continues at the last rate of
-- drops (5.5). Later, the rate starts again.
abbrev pub recent_intervals : ℕ
recent_intervals = 16

-- The number of binary digits that `root` computes for a step of the control law. An interval is below
-- 2^32, so its square is below 4^64.
abbrev pub root_digits : ℕ
root_digits = 64

-- A queued frame: its id, the clock in microseconds when it was accepted, and the length of its body in
-- octets.
pub record Item : Type 0 where
  pub id : ℕ
  pub stamp : ℕ
  pub len : ℕ

-- CoDel's parameters in microseconds (5.3). `target` (TARGET) is how long a frame may wait. `interval`
-- (INTERVAL) is for how long frames have to wait longer than that before one is dropped.
pub record Params : Type 0 where
  pub target : ℕ
  pub interval : ℕ

-- The state of a queue between dequeues (5.2). Each comment begins with the RFC's name of the field. The RFC
-- has no `dropped`, and no other field depends on it.
pub record Codel : Type 0 where
  pub first_above : ℕ  -- first_above_time: when frames will have waited too long for an interval; 0: never
  pub drop_next : ℕ  -- drop_next: when the next drop is due
  pub count : ℕ  -- count: the number of drops that the control law uses; each drop raises it by 1
  pub last_count : ℕ  -- lastcount: the count with which dropping began
  pub dropping : Bool  -- dropping: frames are dropped at the times of the control law
  pub dropped : ℕ  -- the number of frames that CoDel dropped from the queue since the start

-- The state of a queue before its first dequeue.
abbrev pub new_codel : Codel
new_codel = record {
  first_above = 0;
  drop_next = 0;
  count = 0;
  last_count = 0;
  dropping = false;
  dropped = 0;
}

-- The state of a queue after its station left: a new one, except that `dropped` stays.
abbrev pub renewed : Codel → Codel
renewed c = record new_codel { dropped = c.dropped }

-- Returns the octets in a queue: the sum of the lengths of its frames.
abbrev pub octets : List Item → ℕ
octets items = sum_by (λ x. x.len) items

-- d is the integer square root of n: the greatest number whose square is at most n.
pub record IsRoot (d n : ℕ) : Type 0 where
  pub below : d * d ≤ n
  pub above : n < (d + 1) * (d + 1)

-- Returns the integer square root of a number below 4 ^ digits, computed one binary digit at a time.
abbrev pub root : ℕ → ℕ → ℕ
root zero n = 0
root (suc digits) n =
    let r : ℕ = 2 * root digits (n / 4) in
    if nat_le ((r + 1) * (r + 1)) n then r + 1 else r

-- Returns how long after a drop the next one is due, in microseconds: the interval divided by the square
-- root of the count, rounded down. This is the greatest d with d * d * count ≤ interval * interval.
unfoldable pub step_of : ℕ → ℕ → ℕ
step_of interval count = root root_digits (interval * interval / count)

-- d is the greatest number with d * d * count ≤ interval * interval.
pub record IsGreatestStep (interval count d : ℕ) : Type 0 where
  pub fits : d * d * count ≤ interval * interval
  pub greatest : (e : ℕ) → e * e * count ≤ interval * interval → e ≤ d

-- Returns when the next drop is due after a drop at time t, with count c (control_law, 5.6).
abbrev pub control_law : Params → ℕ → ℕ → ℕ
control_law p t c = t + step_of p.interval c

-- Returns a number of drops after one more drop.
abbrev pub rise : ℕ → ℕ
rise count = min (count + 1) greatest_count

-- The result of a look (dodequeue_result, 5.1): first_above after it, and whether its frame may be dropped
-- (ok_to_drop).
pub record Look : Type 0 where
  pub first_above : ℕ
  pub ok : Bool

-- Looks at the head of a queue at time `now` (dodequeue, 5.6). `above` is first_above before the look.
abbrev pub look_at : Params → ℕ → ℕ → List Item → Look
look_at p now above [] = record { first_above = 0; ok = false }
look_at p now above (x ∷ rest) =
    if nat_lt (now - x.stamp) p.target || nat_le (octets rest) max_packet
    then record { first_above = 0; ok = false }
    else (if above == 0 then record { first_above = now + p.interval; ok = false }
    else record { first_above = above; ok = nat_le above now })

-- Returns the count with which dropping begins. If dropping begins again soon enough, this is the number of
-- drops of the last time (delta), because their rate was good. Otherwise it is 1.
abbrev pub first_count : Params → ℕ → Codel → ℕ
first_count p now c =
    if nat_lt 1 (c.count - c.last_count) && nat_lt (now - c.drop_next) (recent_intervals * p.interval)
    then c.count - c.last_count else 1

-- Returns the state when dropping begins: one frame was dropped, and `second` is the look after that drop.
abbrev pub begin_dropping : Params → ℕ → Codel → Look → Codel
begin_dropping p now c second =
    record {
      first_above = second.first_above;
      drop_next = control_law p now (first_count p now c);
      count = first_count p now c;
      last_count = first_count p now c;
      dropping = true;
      dropped = rise c.dropped;
    }

-- Look i of a dequeue at time `now`. `above` is first_above before look 0.
abbrev pub look : Params → ℕ → ℕ → List Item → ℕ → Look
look p now above items zero = look_at p now above items
look p now above items (suc i) = look_at p now (look p now above items i).first_above (drop (suc i) items)

-- Returns a number of drops after i more drops, limited to the greatest.
abbrev pub raised_count : ℕ → ℕ → ℕ
raised_count count zero = count
raised_count count (suc i) = min (count + suc i) greatest_count

-- Returns when drop i is due, counting from 0. `due` is the time of drop 0.
abbrev pub next_due : Params → ℕ → ℕ → ℕ → ℕ
next_due p count due zero = due
next_due p count due (suc i) = control_law p (next_due p count due i) (raised_count count (suc i))

-- Returns the least number below n that passes the test, or n if none does.
abbrev pub least : (ℕ → Bool) → ℕ → ℕ
least test zero = 0
least test (suc n) = if test 0 then 0 else suc (least (λ i. test (suc i)) n)

-- Returns whether look i ends the drops of a dequeue while dropping: the look is not ok, or drop i is not
-- due yet.
abbrev pub ends_drops : Params → ℕ → Codel → ℕ → List Item → ℕ → Bool
ends_drops p now c due items i = not (look p now c.first_above items i).ok
    || nat_lt now (next_due p c.count due i)

-- Returns how many frames a dequeue drops while dropping.
unfoldable pub drops_dropping : Params → ℕ → Codel → ℕ → List Item → ℕ
drops_dropping p now c due items = least (ends_drops p now c due items) (length items)

-- Returns drop_next after i drops if look i is not ok: the time at which the last drop was due, or the old
-- value if i is 0.
abbrev pub last_due : Params → Codel → ℕ → ℕ → ℕ
last_due p c due zero = c.drop_next
last_due p c due (suc i) = next_due p c.count due i

-- Returns the state after i drops of a dequeue while dropping.
unfoldable pub state_dropping : Params → ℕ → Codel → ℕ → List Item → ℕ → Codel
state_dropping p now c due items i = record c {
  first_above = (look p now c.first_above items i).first_above;
  drop_next = if (look p now c.first_above items i).ok then next_due p c.count due i else last_due p c due i;
  count = raised_count c.count i;
  dropping = (look p now c.first_above items i).ok;
  dropped = raised_count c.dropped i;
}

-- Returns how many frames a dequeue drops while not dropping: 1 if look 0 is ok, else 0.
unfoldable pub drops_plain : Params → ℕ → Codel → List Item → ℕ
drops_plain p now c items = if (look p now c.first_above items 0).ok then 1 else 0

-- Returns the state after a dequeue while not dropping.
unfoldable pub state_plain : Params → ℕ → Codel → List Item → Codel
state_plain p now c items =
    if (look p now c.first_above items 0).ok then begin_dropping p now c (look p now c.first_above items 1)
    else record c { first_above = (look p now c.first_above items 0).first_above }

-- Returns how many frames a dequeue drops.
unfoldable pub drops : Params → ℕ → Codel → List Item → ℕ
drops p now c items = if c.dropping then drops_dropping p now c c.drop_next items
    else drops_plain p now c items

-- Returns the state after a dequeue.
unfoldable pub state_after : Params → ℕ → Codel → List Item → Codel
state_after p now c items =
    if c.dropping then state_dropping p now c c.drop_next items (drops p now c items)
    else state_plain p now c items

-- The result of a dequeue: the frame that it returns (`given`), the frames that it drops, the frames that
-- remain in the queue, and the state.
pub record Dequeued : Type 0 where
  pub given : Option Item
  pub dropped : List Item
  pub rest : List Item
  pub state : Codel

-- Returns the result of a dequeue that drops n frames: it returns the frame of the last look, if there is
-- one.
abbrev pub dequeued_after : List Item → ℕ → Codel → Dequeued
dequeued_after items n state = record {
  given = slice_get items n;
  dropped = take n items;
  rest =
      drop (suc n) items;
  state = state;
}

-- One dequeue at time `now`.
unfoldable pub dequeue : Params → ℕ → Codel → List Item → Dequeued
dequeue p now c items = dequeued_after items (drops p now c items) (state_after p now c items)
