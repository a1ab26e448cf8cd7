-- Proves what the calls on the modes of TIDs make of the worlds of a run, from what each does to the parts of
-- the half.
use Rattle.std.proofs.Common.{◌≡◌, ap, sym, ◌∙◌, subst, ℕ, ◌%◌, ◌<◌, true, List, [], None, max}
use Rattle.wf_frame.specs.declared.classes.Cause.TheVariants.{Ended}
use Rattle.wf_frame.specs.declared.notes.Ask.TheVariants.{Hold, Begin, Free, Cease}
use Rattle.wf_frame.specs.declared.notes.Note.TheVariants.{Asked}
use Rattle.wf_frame.specs.declared.notes.ReplyNote.TheVariants.{Begun, Freed, Ceased}
use Rattle.wf_frame.specs.declared.notes.ReplyNote.TheVariants as reply
use Rattle.wf_frame.specs.Frames.{FrameValue}
use Rattle.wf_def_agreement.specs.Session.{Session, start_of, next_number, after_flush as session_flushed}
use Rattle.wf_def_world.specs.World.{World, is_live, session}
use Rattle.wf_def_world.specs.Refusals.{refusal}
use Rattle.wf_def_world.specs.Step.{plain_window, after_numbers_ended}
use Rattle.wf_law_runs.proofs.Windows.Sides.{Side, ended_side, ended_live}
use Rattle.wf_send_parts.specs.declared.stations.modes.Mode.TheVariants.{OnHold, Agreed}
use Rattle.wf_send_parts.specs.declared.stations.modes.Mode.{Mode}
use Rattle.wf_send_parts.specs.Window.{WindowValue, WindowStandsFor}
use Rattle.wf_send_parts.specs.Windows.{WindowsHaveRoom, window_of, with_window}
use Rattle.wf_send_half_model.specs.Half.{TransmitValue}
use Rattle.wf_send_half_model.specs.Changes.{after_listing, after_mode}
use Rattle.wf_send_half_model.specs.Flushing.{HasNumbersFlushed, with_waiting_failed, released_at_cease}
use Rattle.wf_send_half_model.specs.Standing.{StandsFor, Meets}
use Rattle.wf_send_half_model.proofs.Modes.{hold_meets, free_meets, begin_empty, begin_meets, cease_empty, cease_meets}
use Rattle.wf_send_half.proofs.Worlds.{met_by}

-- ---- the mode alone changes

pub hold_done : (v u : TransmitValue) (s t : ℕ) → u ≡ after_listing (after_mode v s t OnHold) s →
    (z : WindowValue) → z ≡ window_of u.windows s t → (n : ℕ) →
    ((y : Session) (bodies : ℕ → FrameValue) → WindowStandsFor z y bodies → n ≡ next_number y % 4096) →
    (w : World) (bodies : ℕ → FrameValue) → StandsFor v w bodies → is_live w s ≡ true → t < 8 →
    refusal w (Asked (Hold s t)) ≡ None → Meets w bodies (Asked (Hold s t)) u (reply.Held n)
hold_done v u s t is z at n read w bodies h live low fine =
    let z_is : z ≡ window_of v.windows s t = at ∙ ap (λ (x : TransmitValue). window_of x.windows s t) is in
    let stands : WindowStandsFor z (session w s t) bodies =
    subst (λ (x : WindowValue). WindowStandsFor x (session w s t) bodies) (sym z_is)
    (h.parts.windows.all.stands s t live low) in
    subst (λ (k : ℕ). Meets w bodies (Asked (Hold s t)) u (reply.Held k))
    (sym (read (session w s t) bodies stands))
    (met_by (after_listing (after_mode v s t OnHold) s) u w bodies (Asked (Hold s t))
    (reply.Held (next_number (session w s t) % 4096)) is (hold_meets v w bodies h s t fine))

pub free_done : (v u : TransmitValue) (s t : ℕ) → u ≡ after_listing (after_mode v s t Mode.Plain) s →
    (w : World) (bodies : ℕ → FrameValue) → StandsFor v w bodies → refusal w (Asked (Free s t)) ≡ None →
    Meets w bodies (Asked (Free s t)) u Freed
free_done v u s t is w bodies h fine =
    met_by (after_listing (after_mode v s t Mode.Plain) s) u w bodies (Asked (Free s t)) Freed is
    (free_meets v w bodies h s t fine)

-- ---- the window gets another size

-- what the drop of the waiting numbers makes of a session
session_ended : (w : World) (s t : ℕ) → is_live w s ≡ true →
    session (with_waiting_failed Ended w s t) s t ≡ session_flushed w.config.attempts (session w s t)
unfolding after_numbers_ended
session_ended w s t live = ap (λ (a : Side). a.session) (ended_side w s t live)

live_ended : (w : World) (s t : ℕ) → is_live (with_waiting_failed Ended w s t) s ≡ is_live w s
unfolding after_numbers_ended
live_ended w s t = ended_live w s t

-- the windows are those of x, but that of TID t of station s has another size
abbrev pub ResizedTo : ℕ → List WindowValue → List WindowValue → ℕ → ℕ → Type 0
ResizedTo size before after s t = (y : Session) (bodies : ℕ → FrameValue) →
    WindowStandsFor (window_of before s t) y bodies →
    WindowStandsFor (window_of after s t) (record y { heard = max y.heard (start_of y); size = size }) bodies

-- x is the value of the fields of the half v, u is the half after the call
module _ (v x u : TransmitValue) (same : x ≡ v) (s t : ℕ) (windows : List WindowValue)
    (room : WindowsHaveRoom windows) (others : windows ≡ with_window x.windows s t (window_of windows s t))
  where
    room_here : WindowsHaveRoom (with_window x.windows s t (window_of windows s t))
    room_here = subst WindowsHaveRoom others room

    changed : (mode : Mode) → u ≡ after_listing (after_mode (record x { windows = windows }) s t mode) s →
        u ≡ after_listing (after_mode (record x { windows = with_window x.windows s t (window_of windows s t) })
        s t mode) s
    changed mode is = is ∙ ap (λ (l : List WindowValue).
        after_listing (after_mode (record x { windows = l }) s t mode) s) others

    pub begin_done : (size : ℕ) → u ≡ after_listing (after_mode (record x { windows = windows }) s t Agreed) s →
        ResizedTo size x.windows windows s t → (w : World) (bodies : ℕ → FrameValue) → StandsFor v w bodies →
        is_live w s ≡ true → t < 8 → refusal w (Asked (Begin s t size)) ≡ None →
        Meets w bodies (Asked (Begin s t size)) u Begun
    begin_done size is resized w bodies h live low fine =
        let here : StandsFor x w bodies = subst (λ (z : TransmitValue). StandsFor z w bodies) (sym same) h in
        met_by _ u w bodies (Asked (Begin s t size)) Begun (changed Agreed is)
        (begin_meets x w bodies here s t size fine (window_of windows s t) room_here
        (resized (session w s t) bodies (here.parts.windows.all.stands s t live low)))

    pub cease_done : (before : TransmitValue) (dropped : ℕ) →
        u ≡ after_listing (after_mode (record x { windows = windows }) s t OnHold) s →
        ResizedTo plain_window x.windows windows s t → (w : World) (bodies : ℕ → FrameValue) →
        HasNumbersFlushed Ended before w bodies s t v dropped → refusal w (Asked (Cease s t)) ≡ None →
        Meets w bodies (Asked (Cease s t)) u (Ceased dropped (released_at_cease w s t))
    cease_done before dropped is resized w bodies left fine =
        let here : HasNumbersFlushed Ended before w bodies s t x dropped =
        subst (λ (z : TransmitValue). HasNumbersFlushed Ended before w bodies s t z dropped) (sym same) left in
        met_by _ u w bodies (Asked (Cease s t)) (Ceased dropped (released_at_cease w s t)) (changed OnHold is)
        (cease_meets before x w bodies s t dropped fine here (window_of windows s t) room_here
        (resized (session_flushed w.config.attempts (session w s t)) bodies
        (subst (λ (y : Session). WindowStandsFor (window_of x.windows s t) y bodies)
        (session_ended w s t left.may.live)
        (here.parts.windows.all.stands s t (live_ended w s t ∙ left.may.live) left.may.tid))))

-- ---- all numbers of the window are settled

pub settled_to_begin : (v x : TransmitValue) → x ≡ v → (w : World) (bodies : ℕ → FrameValue) →
    StandsFor v w bodies → (s t size : ℕ) → refusal w (Asked (Begin s t size)) ≡ None →
    (window_of x.windows s t).places ≡ []
settled_to_begin v x same w bodies h s t size fine =
    ap (λ (z : TransmitValue). (window_of z.windows s t).places) same
    ∙ begin_empty v w bodies h s t size fine

pub settled_to_cease : (before v x : TransmitValue) → x ≡ v → (w : World) (bodies : ℕ → FrameValue)
    (s t dropped : ℕ) → refusal w (Asked (Cease s t)) ≡ None →
    HasNumbersFlushed Ended before w bodies s t v dropped → (window_of x.windows s t).places ≡ []
settled_to_cease before v x same w bodies s t dropped fine left =
    ap (λ (z : TransmitValue). (window_of z.windows s t).places) same
    ∙ cease_empty before v w bodies s t dropped fine left
