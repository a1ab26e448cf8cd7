-- Defines the windows of all TIDs, as a list by `tid_number`.
use Rattle.std.specs.Prelude.{◌≡◌, ℕ, ◌<◌, List, [], None, length, slice_index_or, slice_set}
use Rattle.wf_def_lists.specs.Bounds.{greatest_window}
use Rattle.wf_send_parts.specs.Window.{WindowValue, fresh_window}
use Rattle.wf_frame.specs.Classes.{tid_number}

-- a new window: it has no numbers, begins at 0, and has the greatest size
abbrev pub new_window : WindowValue
new_window = fresh_window greatest_window greatest_window 0

-- The window for an index past the last one. No call uses it, because each names a TID that has a window.
abbrev pub no_window : WindowValue
no_window = record { capacity = 0; size = 0; start = 0; places = []; due = None; unacked = 0 }

-- the window of TID t of station s
abbrev pub window_of : List WindowValue → ℕ → ℕ → WindowValue
window_of windows s t = slice_index_or windows (tid_number s t) no_window

-- the windows with w at TID t of station s
abbrev pub with_window : List WindowValue → ℕ → ℕ → WindowValue → List WindowValue
with_window windows s t w = slice_set windows (tid_number s t) w

-- each window has the greatest capacity
pub record WindowsHaveRoom (windows : List WindowValue) : Type 0 where
  pub each : (i : ℕ) → i < length windows → (slice_index_or windows i no_window).capacity ≡ greatest_window
