-- Defines how frames count their attempts.
use Rattle.std.specs.Prelude.{ℕ, ◌==◌, if◌then◌else◌, List, [], ◌∷◌}
use Rattle.wf_frame.specs.Frames.{FrameValue, sent_again, sent_once_less}

-- the frames by id, with f of the frame of `id`
abbrev pub with_frame_changed : (FrameValue → FrameValue) → ℕ → (ℕ → FrameValue) → ℕ → FrameValue
with_frame_changed f id bodies k = if k == id then f (bodies k) else bodies k

-- the frames by id, with one more attempt counted in the frame of `id`
abbrev pub with_one_sent : ℕ → (ℕ → FrameValue) → ℕ → FrameValue
with_one_sent = with_frame_changed sent_again

-- the frames by id, with one attempt taken back in the frame of `id`
abbrev pub with_one_unsent : ℕ → (ℕ → FrameValue) → ℕ → FrameValue
with_one_unsent = with_frame_changed sent_once_less

-- the same as `with_one_sent` for each id that an exchange sends; an id comes before its number
abbrev pub with_all_sent : List (ℕ × ℕ) → (ℕ → FrameValue) → ℕ → FrameValue
with_all_sent [] bodies = bodies
with_all_sent (pair ∷ pairs) bodies = with_all_sent pairs (with_one_sent pair.0 bodies)
