-- Defines two laws of CoDel (RFC 8289) over several dequeues of one queue: frames are dropped only while all
-- frames wait too long (standing), and a limited number in a given time (rate). Times are in microseconds,
-- lengths in octets.
use Rattle.std.specs.Prelude.{◌≡◌, ℕ, zero, suc, ◌+◌, ◌-◌, ◌*◌, ◌/◌, ◌^◌, ◌<◌, ◌≤◌, true, false, List, [], ◌∷◌, ◌++◌, drop}
use Rattle.wf_def_codel.specs.Codel.{Item, Params, Codel, max_packet, octets, step_of, first_count, drops, dequeue}

-- A dequeue of a queue: CoDel's parameters, the clock, and the frames of the queue.
pub record Dequeue : Type 0 where
  pub times : Params
  pub now : ℕ
  pub items : List Item

-- Returns the state after a dequeue.
abbrev pub codel_after : Codel → Dequeue → Codel
codel_after c v = (dequeue v.times v.now c v.items).state

-- Returns how many frames a dequeue drops.
abbrev pub drops_by : Codel → Dequeue → ℕ
drops_by c v = drops v.times v.now c v.items

-- Returns the state after dequeues.
abbrev pub codel_after_all : Codel → List Dequeue → Codel
codel_after_all c [] = c
codel_after_all c (v ∷ vs) = codel_after_all (codel_after c v) vs

-- Returns how many frames dequeues drop.
abbrev pub drops_in : Codel → List Dequeue → ℕ
drops_in c [] = 0
drops_in c (v ∷ vs) = drops_by c v + drops_in (codel_after c v) vs

-- ---- standing queues

-- Returns what look i of a dequeue sees: the queue without its first i frames.
abbrev pub looked_at : Dequeue → ℕ → Dequeue
looked_at v i = record v { items = drop i v.items }

-- Returns what the first n looks of a dequeue see.
abbrev pub first_looks : Dequeue → ℕ → List Dequeue
first_looks v zero = []
first_looks v (suc n) = first_looks v n ++ looked_at v n ∷ []

-- Returns what all looks of dequeues see. A dequeue looks at each frame that it drops, and again.
abbrev pub looks_in : Codel → List Dequeue → List Dequeue
looks_in c [] = []
looks_in c (v ∷ vs) = first_looks v (suc (drops_by c v)) ++ looks_in (codel_after c v) vs

-- The first frame has waited at least for the target, and more than `max_packet` octets are after it.
abbrev pub IsStanding : Dequeue → List Item → Type 0
IsStanding v [] = ⊥
IsStanding v (x ∷ rest) = (v.times.target ≤ v.now - x.stamp) × (max_packet < octets rest)

-- Each of these looks sees a standing queue.
abbrev pub EachStanding : List Dequeue → Type 0
EachStanding [] = Unit {0}
EachStanding (v ∷ vs) = IsStanding v v.items × EachStanding vs

-- By the time `now`, an interval has passed since one of these looks, and this look and all after it see a
-- standing queue.
pub record HasStood (now : ℕ) (looks : List Dequeue) : Type 0 where
  pub before : List Dequeue
  pub since : Dequeue
  pub after : List Dequeue
  pub split : looks ≡ before ++ since ∷ after
  pub standing : EachStanding (since ∷ after)
  pub interval : since.now + since.times.interval ≤ now

-- The law: if a dequeue drops its frame i, each look of at least an interval, up to the look at this frame,
-- saw a standing queue. c is a state in which no look saw a standing queue, as a new one.
abbrev pub StandingLaw : Type 0
StandingLaw = (c : Codel) (visits : List Dequeue) (v : Dequeue) (i : ℕ) → c.first_above ≡ 0 →
    i < drops_by (codel_after_all c visits) v → HasStood v.now (looks_in c visits ++ first_looks v (suc i))

-- ---- the rate of drops

-- Dropping begins with this dequeue, and with the count 1.
pub record Begins (c : Codel) (v : Dequeue) : Type 0 where
  pub plain : c.dropping ≡ false
  pub drop : drops_by c v ≡ 1
  pub first : first_count v.times v.now c ≡ 1

-- CoDel is dropping before each of these dequeues. They have the same interval, and each is at most T after
-- the time b.
abbrev pub StaysDropping : ℕ → ℕ → ℕ → Codel → List Dequeue → Type 0
StaysDropping interval b T c [] = Unit {0}
StaysDropping interval b T c (v ∷ vs) = (c.dropping ≡ true) × (v.times.interval ≡ interval) ×
    (v.now ≤ b + T) × StaysDropping interval b T (codel_after c v) vs

-- Returns the least time from the drop with which dropping begins to the n-th drop after it: the sum of the
-- steps of the control law for the counts 1 to n.
abbrev pub least_time : ℕ → ℕ → ℕ
least_time interval zero = 0
least_time interval (suc n) = least_time interval n + step_of interval (suc n)

-- Dropping begins with a dequeue, and goes on for at most T microseconds in the dequeues after it.
pub record IsDroppingTime (interval T : ℕ) (c : Codel) (v : Dequeue) (visits : List Dequeue) : Type 0 where
  pub small : interval < 2 ^ 32
  pub begins : Begins c v
  pub same : v.times.interval ≡ interval
  pub stays : StaysDropping interval v.now T (codel_after c v) visits

-- How many frames are dropped in this time.
pub record HasRate (interval T : ℕ) (c : Codel) (visits : List Dequeue) : Type 0 where
  -- The n-th drop after the first needs the sum of n steps of the control law.
  pub times : (n : ℕ) → n < drops_in c visits → least_time interval n ≤ T
  -- In less than interval * interval microseconds, at most (T / interval + 1)^2 frames are dropped.
  pub most : T < interval * interval → drops_in c visits ≤ (T / interval + 1) * (T / interval + 1)
  -- With n + 1 drops, 2 * interval * root (n + 1) is at most T + 2 * interval + n. So for as long as n is far
  -- below T, at most about (T / (2 * interval) + 1)^2 frames are dropped.
  pub root : (n : ℕ) → n < drops_in c visits →
      4 * (interval * interval) * (n + 1) ≤ (T + 2 * interval + n) * (T + 2 * interval + n)

-- The law of the rate, for each interval and time.
abbrev pub RateLaw : Type 0
RateLaw = (interval T : ℕ) (c : Codel) (v : Dequeue) (visits : List Dequeue) →
    IsDroppingTime interval T c v visits → HasRate interval T c (v ∷ visits)
