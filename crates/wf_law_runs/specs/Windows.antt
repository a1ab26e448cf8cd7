-- Defines the window law: the relation between both sides of each TID's agreement (IEEE 802.11-2012,
-- 9.21.7), after every entry of every run.
--
-- For a session y and its receiver r: `start_of y` is the least number that is not settled (WinStartO), and
-- `next_number y` is the number that the next frame gets. `y.heard` is the greatest start of a request that
-- ended as heard, or the first number. `release_start r` is the least number that has not arrived and is
-- not below the first number or a start that arrived (WinStartB). `score_start r` is the start of the
-- scoreboard (WinStartR), and `y.size` is the window.
use Rattle.std.specs.Prelude.{◌≡◌, ℕ, suc, ◌==◌, not, ◌&&◌, Bool, map, count_by, ◌+◌, ◌*◌, ◌<◌, ◌≤◌, true, false, ◌⊎◌, ◌↔◌, List, [], ◌∷◌, Option, IfSome}
use Rattle.wf_frame.specs.declared.settings.Config.{Config}
use Rattle.wf_frame.specs.declared.notes.Ask.TheVariants.{Pull, Done}
use Rattle.wf_frame.specs.declared.notes.Note.TheVariants.{Asked}
use Rattle.wf_frame.specs.declared.notes.Limits.{Limits}
use Rattle.wf_frame.specs.declared.classes.Class.{Class}
use Rattle.wf_def_lists.specs.Table.{has}
use Rattle.wf_def_agreement.specs.Session.{Session, State, slot, start_of, next_number, request_due}
use Rattle.wf_def_agreement.specs.Receiver.{Receiver, release_start, score_start, shows}
use Rattle.wf_def_world.specs.World.{World, Exchange, Content, Frames, Request, Mpdu, session, receiver, exchange}
use Rattle.wf_def_world.specs.CanSend.{is_request}
use Rattle.wf_def_world.specs.Exchanges.{mpdus_of, numbers_unsent}
use Rattle.wf_def_world.specs.Step.{step}
use Rattle.wf_def_world.specs.Run.{Entry}
use Rattle.wf_def_world.specs.Stretches.{world_at}
use Rattle.wf_frame.specs.Settings.{is_bad_air}

-- The numbers of both sides are within a window of each other, or within two windows for the start of the
-- scoreboard.
pub record AreNear (y : Session) (r : Receiver) : Type 0 where
  pub start_next : start_of y ≤ next_number y
  pub next_start : next_number y ≤ start_of y + y.size
  pub next_release : next_number y ≤ release_start r + y.size
  pub release_next : release_start r ≤ next_number y
  pub release_score : release_start r ≤ score_start r + y.size
  pub next_score : next_number y ≤ score_start r + 2 * y.size
  pub score_start : score_start r ≤ start_of y

-- The starts of requests. No start that arrived is above the session's start, and `heard` is a start that
-- arrived or the first number.
pub record ReceiverWasTold (y : Session) (r : Receiver) : Type 0 where
  pub starts : (f : ℕ) → has r.starts f ≡ true → f ≤ start_of y
  pub heard : (y.heard ≡ y.first) ⊎ (has r.starts y.heard ≡ true)
  pub heard_release : y.heard ≤ release_start r
  -- If no request is due, the receiver's release start is at least the session's start.
  pub caught_up : request_due y ≡ false → start_of y ≤ release_start r

-- An acknowledged number has arrived, and a number on the air is near the receiver's two starts.
pub record AreKnown (y : Session) (r : Receiver) : Type 0 where
  pub acked : (n : ℕ) → y.first ≤ n → n < next_number y → (slot y n).state ≡ State.Acked →
      has r.arrived n ≡ true
  pub flying : (n e : ℕ) → y.first ≤ n → (slot y n).state ≡ State.Flying e → (release_start r ≤ n + y.size) ×
      (n < release_start r + y.size) × (score_start r ≤ n) × (n < score_start r + 2 * y.size)

-- Holds while a request with start f is open: a request is due, f is at most the session's start, and the
-- next number is at most a window above f.
pub record IsPending (f : ℕ) (y : Session) : Type 0 where
  pub due : request_due y ≡ true
  pub start : f ≤ start_of y
  pub start_next : start_of y ≤ next_number y
  pub next : next_number y ≤ f + y.size

-- P holds for the start of a request.
abbrev pub IfAsks : Content → (ℕ → Type 0) → Type 0
IfAsks (Frames mpdus) P = Unit {0}
IfAsks (Request start) P = P start

-- P holds for each frame of a list.
abbrev pub EachMpdu : (Mpdu → Type 0) → List Mpdu → Type 0
EachMpdu P [] = Unit {0}
EachMpdu P (m ∷ ms) = P m × EachMpdu P ms

-- P holds for each exchange of a list.
abbrev pub EachOpen : (Exchange → Type 0) → List Exchange → Type 0
EachOpen P [] = Unit {0}
EachOpen P (x ∷ xs) = P x × EachOpen P xs

-- At most one of the exchanges passes the test.
abbrev pub AtMostOne : (Exchange → Bool) → List Exchange → Type 0
AtMostOne p xs = count_by p xs ≤ 1

-- P holds for at least one of the exchanges.
abbrev pub SomeOpen : (Exchange → Type 0) → List Exchange → Type 0
SomeOpen P [] = ⊥
SomeOpen P (x ∷ xs) = P x ⊎ SomeOpen P xs

-- The exchange has the number e, is for this TID, and sends the number n.
pub record IsSending (s t e n : ℕ) (x : Exchange) : Type 0 where
  pub number : x.number ≡ e
  pub station : x.station ≡ s
  pub tid : x.tid ≡ t
  pub among : has (map (λ m. m.number) (mpdus_of x.content)) n ≡ true

-- The exchanges are in strictly increasing order of their numbers, which are at least lo and below hi.
abbrev pub OpenRises : ℕ → ℕ → List Exchange → Type 0
OpenRises lo hi [] = Unit {0}
OpenRises lo hi (x ∷ xs) = (lo ≤ x.number) × (x.number < hi) × OpenRises (suc x.number) hi xs

-- An open exchange of a session and its receiver. Its numbers are on the air in it. If it is a request, a
-- request is due, and its start is near the receiver's two starts. If it has an answer, the answer shows
-- exactly those of its numbers that arrived, and they are at least the answer's start and less than two
-- windows above it.
pub record IsOpenRight (y : Session) (r : Receiver) (x : Exchange) : Type 0 where
  pub flies : EachMpdu (λ m. (slot y m.number).state ≡ State.Flying x.number) (mpdus_of x.content)
  pub pending : IfAsks x.content (λ f. IsPending f y)
  pub start : IfAsks x.content (λ f. (release_start r ≤ f + y.size) × (f ≤ release_start r + y.size) ×
      (score_start r ≤ f + y.size) × (f ≤ score_start r + 2 * y.size))
  pub answer : IfSome x.answer (λ b. EachMpdu (λ m. (shows b m.number ≡ has r.arrived m.number) ×
      (b.start ≤ m.number) × (m.number < b.start + 2 * y.size)) (mpdus_of x.content))

-- A Done that was heard, without a bad airtime, acknowledges exactly those numbers of an exchange with an
-- answer that arrived and that are not among the numbers that never went on the air.
abbrev pub Settles : World → ℕ → Exchange → Type 0
Settles w e x =
    (air : Option ℕ) → is_bad_air w.config air ≡ false → IfSome x.answer (λ _. EachMpdu (λ m.
    ((slot (session (step w (Asked (Done e true air))).world x.station x.tid) m.number).state ≡ State.Acked)
    ↔ (has (receiver w x.station x.tid).arrived m.number && not (has (numbers_unsent x) m.number) ≡ true))
    (mpdus_of x.content))

-- The window law in one world.
pub record KeepsWindows (w : World) : Type 0 where
  pub near : (s t : ℕ) → AreNear (session w s t) (receiver w s t)
  pub told : (s t : ℕ) → ReceiverWasTold (session w s t) (receiver w s t)
  pub known : (s t : ℕ) → AreKnown (session w s t) (receiver w s t)
  pub opened : EachOpen (λ x. IsOpenRight (session w x.station x.tid) (receiver w x.station x.tid) x) w.opened
  -- Open exchanges have different numbers, and each number on the air is sent by an open exchange.
  pub rising : OpenRises 0 w.exchanges w.opened
  pub flown : (s t n e : ℕ) → (session w s t).first ≤ n → (slot (session w s t) n).state ≡ State.Flying e →
      SomeOpen (IsSending s t e n) w.opened
  -- A TID has at most one open request.
  pub sole : (s t : ℕ) → AtMostOne (λ x. (x.station == s) && ((x.tid == t) && is_request x.content)) w.opened
  pub settles : (e : ℕ) → IfSome (exchange w e) (Settles w e)
  -- No number is assigned while a request is due.
  pub waits : (c : Class) (l : Limits) (s t : ℕ) → request_due (session w s t) ≡ true →
      next_number (session (step w (Asked (Pull c l))).world s t) ≡ next_number (session w s t)

-- The law: `KeepsWindows` holds after each entry of a history.
abbrev pub WindowLaw : Config → List Entry → Type 0
WindowLaw config history = (m : ℕ) → KeepsWindows (world_at config history m)
