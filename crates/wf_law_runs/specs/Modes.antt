-- Defines the laws of TIDs without an agreement: what they send, when a TID's mode changes, and how a
-- receiver knows a repeated frame (IEEE 802.11-2012, 9.3.2.10).
use Rattle.std.specs.Prelude.{◌≡◌, ℕ, suc, ◌≤◌, ◌%◌, ◌==◌, nat_lt, Bool, true, false, ◌&&◌, List, [], ◌∷◌, length}
use Rattle.wf_frame.specs.declared.settings.Config.{Config}
use Rattle.wf_frame.specs.declared.notes.Ask.TheVariants.{Hold, Begin, Free, Cease}
use Rattle.wf_frame.specs.declared.notes.Note.{Note}
use Rattle.wf_frame.specs.declared.notes.Note.TheVariants.{Asked}
use Rattle.wf_def_lists.specs.Table.{has}
use Rattle.wf_def_agreement.specs.Session.{Session, slot, start_of, next_number, request_due}
use Rattle.wf_def_world.specs.World.{World, Exchange, tid_of, session, receiver, is_live, is_agreed, is_plain}
use Rattle.wf_def_world.specs.CanSend.{is_request}
use Rattle.wf_def_world.specs.Exchanges.{mpdus_of}
use Rattle.wf_def_world.specs.Step.{step}
use Rattle.wf_def_world.specs.Run.{Entry}
use Rattle.wf_def_world.specs.Stretches.{world_at}
use Rattle.wf_law_runs.specs.Windows.{EachMpdu, EachOpen}

-- ---- what a TID without an agreement sends

-- An open exchange is plain exactly if its TID has no agreement and its station is not offloaded. Then it is
-- no request, and it sends at most one frame. By the law of sent frames (specs/Sent) it sends one, if no
-- frame is longer than the greatest body.
pub record IsPlainRight (w : World) (x : Exchange) : Type 0 where
  pub plain : x.plain ≡ is_plain w x.station x.tid
  pub frames : x.plain ≡ true → is_request x.content ≡ false
  pub one : x.plain ≡ true → length (mpdus_of x.content) ≤ 1

-- Each open exchange is right for its TID. Without an agreement no request is due, and a TID whose station is
-- not offloaded has at most one number that is not settled.
pub record KeepsModes (w : World) : Type 0 where
  pub opened : EachOpen (IsPlainRight w) w.opened
  pub none_due : (s t : ℕ) → is_agreed w s t ≡ false → request_due (session w s t) ≡ false
  pub one : (s t : ℕ) → is_plain w s t ≡ true → next_number (session w s t) ≤ suc (start_of (session w s t))

-- Returns whether a call asks that the mode of TID t of station s changes.
abbrev pub is_mode_of : ℕ → ℕ → Note → Bool
is_mode_of s t (Asked (Hold i j)) = (i == s) && (j == t)
is_mode_of s t (Asked (Begin i j window)) = (i == s) && (j == t)
is_mode_of s t (Asked (Free i j)) = (i == s) && (j == t)
is_mode_of s t (Asked (Cease i j)) = (i == s) && (j == t)
is_mode_of s t note = false

-- A call that does not ask so keeps the mode of a TID as long as its station stays.
abbrev pub KeepsMode : World → Note → Type 0
KeepsMode w note =
    (s t : ℕ) → is_live w s ≡ true → is_live (step w note).world s ≡ true → is_mode_of s t note ≡ false →
    (tid_of (step w note).world s t).mode ≡ (tid_of w s t).mode

-- The law: `KeepsModes` holds after each entry of a history, and `KeepsMode` for each call that could come
-- then.
pub record ModeLaw (config : Config) (history : List Entry) : Type 0 where
  pub worlds : (m : ℕ) → KeepsModes (world_at config history m)
  pub calls : (m : ℕ) (note : Note) → KeepsMode (world_at config history m) note

-- ---- how a receiver knows a repeated frame

-- How many numbers twelve bits tell apart.
abbrev pub twelve_bits : ℕ
twelve_bits = 4096

-- Returns the last member of a list, or n if it has none.
abbrev pub last_or : ℕ → List ℕ → ℕ
last_or n [] = n
last_or n (x ∷ xs) = last_or x xs

-- Returns whether a receiver takes the frame with number n for a repeated one, as 9.3.2.10 says: the frame
-- has the Retry bit, and its twelve bits equal those of the frame that the receiver passed up last.
abbrev pub is_taken_for_repeat : List ℕ → Bool → ℕ → Bool
is_taken_for_repeat [] retry n = false
is_taken_for_repeat (x ∷ xs) retry n = retry && (last_or x xs % twelve_bits == n % twelve_bits)

-- Returns whether a number was sent before, so that its frame has the Retry bit (8.2.4.1.6).
abbrev pub was_sent : Session → ℕ → Bool
was_sent y n = nat_lt 0 (slot y n).attempts

-- A receiver takes the frame of a plain exchange, of which nothing has arrived, for a repeated one exactly if
-- its number has arrived before.
abbrev pub KnowsRepeats : World → Exchange → Type 0
KnowsRepeats w x =
    x.plain ≡ true → x.arrived ≡ [] →
    EachMpdu (λ m. is_taken_for_repeat (receiver w x.station x.tid).arrived
    (was_sent (session w x.station x.tid) m.number) m.number
    ≡ has (receiver w x.station x.tid).arrived m.number) (mpdus_of x.content)

-- The law: this holds after each entry of a history, for each open exchange.
abbrev pub RepeatLaw : Config → List Entry → Type 0
RepeatLaw config history =
    (m : ℕ) → EachOpen (KnowsRepeats (world_at config history m)) (world_at config history m).opened
