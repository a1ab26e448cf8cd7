-- Defines the law of sent frames: what an open exchange sends (IEEE 802.11-2012, 9.21.7.7).
use Rattle.std.specs.Prelude.{◌≡◌, ℕ, suc, ◌≤◌, false, List, [], ◌∷◌, length}
use Rattle.wf_frame.specs.declared.settings.Config.{Config}
use Rattle.wf_frame.specs.Settings.{IsInRange}
use Rattle.wf_def_lists.specs.Bounds.{greatest_window}
use Rattle.wf_def_lists.specs.Lengths.{greatest_body}
use Rattle.wf_def_agreement.specs.Session.{slot}
use Rattle.wf_def_world.specs.World.{World, Exchange, Mpdu, len_of, session, frame}
use Rattle.wf_def_world.specs.CanSend.{is_request}
use Rattle.wf_def_world.specs.Exchanges.{mpdus_of}
use Rattle.wf_def_world.specs.Run.{Entry}
use Rattle.wf_def_world.specs.Stretches.{world_at}
use Rattle.wf_law_runs.specs.Queues.{AreAtMost}
use Rattle.wf_law_runs.specs.Windows.{EachMpdu, EachOpen}

-- The numbers increase strictly, and the first is at least lo.
abbrev pub NumbersRise : ℕ → List Mpdu → Type 0
NumbersRise lo [] = Unit {0}
NumbersRise lo (m ∷ ms) = (lo ≤ m.number) × NumbersRise (suc m.number) ms

-- An open exchange. The conditions are empty for a request.
pub record IsSent (w : World) (x : Exchange) : Type 0 where
  pub most : length (mpdus_of x.content) ≤ greatest_window
  pub rising : NumbersRise (session w x.station x.tid).first (mpdus_of x.content)
  -- Each transmission has the id of the frame that its number carries.
  pub ids : EachMpdu (λ m. (slot (session w x.station x.tid) m.number).id ≡ m.id) (mpdus_of x.content)
  -- Each transmission has the length that the frame's Enqueue gave.
  pub lens : EachMpdu (λ m. len_of (frame w m.id).note ≡ m.len) (mpdus_of x.content)

-- An exchange of data has at least one transmission.
abbrev pub HasSome : Exchange → Type 0
HasSome x = is_request x.content ≡ false → 1 ≤ length (mpdus_of x.content)

-- The open exchanges of a world of a history.
pub record KeepsSent (config : Config) (history : List Entry) (w : World) : Type 0 where
  pub opened : EachOpen (IsSent w) w.opened
  -- This holds if the settings are in their ranges and no frame is longer than the greatest body, because
  -- then each frame fits alone: a station takes at least the longest, and at every rate it takes at most
  -- 3000 microseconds, which a single frame may take.
  pub some : IsInRange config → AreAtMost greatest_body history → EachOpen HasSome w.opened

-- The law: `KeepsSent` holds after each entry of a history.
abbrev pub SentLaw : Config → List Entry → Type 0
SentLaw config history = (m : ℕ) → KeepsSent config history (world_at config history m)
