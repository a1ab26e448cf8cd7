-- Defines what an enqueue and a reap leave of a path and of the caller's structs.
use Rattle.std.specs.Prelude.{◌≡◌, ◌<◌, ◌≤◌, ◌⊎◌, ◌&&◌, nat_eq, nat_lt, ℕ, ℤ, pos, Bool, true, false, List, [], ◌∷◌, if◌then◌else◌, Option, Some, None, length, take, drop}
use Rattle.std.specs.Cmp.Lexicographic.{pointwise}
use Rattle.wf_frame.specs.Answers.{reply_of}
use Rattle.wf_frame.specs.Frames.{FrameValue, made_up_source, new_frame, bare_frame}
use Rattle.wf_frame.specs.declared.notes.Ask.TheVariants.{Reap}
use Rattle.wf_def_lists.specs.Lengths.{greatest_body}
use Rattle.wf_def_world.specs.World.{World}
use Rattle.wf_send_half.specs.Enqueues.{enqueue_of}
use Rattle.wf_send_half_model.specs.Standing.{StandsFor, Meets}
use Rattle.wf_path.specs.Jobs.{bodies_after, changes_nothing, frame_given_back}
use Rattle.wf_path.specs.Paths.{IsPath}
use Rattle.wf_path.specs.declared.job.Job.TheVariants.{Call, Give}
use Rattle.wf_c.specs.Calls.{IsCalled}
use Rattle.wf_frame.specs.Classes.{fate_number}
use Rattle.wf_c.specs.Numbers.{flag_of, numbers_of}
use Rattle.wf_c.specs.declared.bare.Bare.{Bare}
use Rattle.wf_c.specs.declared.frames.NoFrame.{NoFrame}
use Rattle.wf_c.specs.declared.frames.NoFrame.TheVariants.{NoMemory, BadLength}
use Rattle.wf_c.specs.declared.frames.Packet.{Packet}
use Rattle.wf_c.specs.declared.frames.Taken.{Taken}
use Rattle.wf_c.specs.declared.held.Held.{Held}
use Rattle.wf_c.specs.declared.reply.Reply.{Reply}

-- ---- enqueues

-- a body of n octets fits in a frame: it is not empty, and is at most as long as the longest MSDU (IEEE
-- 802.11-2012, 8.2.3)
abbrev pub IsBodyLength : ℕ → Type 0
IsBodyLength n = (0 < n) × (n ≤ greatest_body)

-- a body of n octets does not fit in a frame
abbrev pub IsBadLength : ℕ → Type 0
IsBadLength n = (n ≡ 0) ⊎ (greatest_body < n)

-- why a body of n octets has no frame: memory can only be missing for a body that fits in a frame
abbrev pub FitsCause : NoFrame → ℕ → Type 0
FitsCause NoMemory n = IsBodyLength n
FitsCause BadLength n = IsBadLength n

-- the source of a packet that means the placeholder: six zeros
abbrev pub no_source : List ℕ
no_source = 0x00 ∷ 0x00 ∷ 0x00 ∷ 0x00 ∷ 0x00 ∷ 0x00 ∷ []

-- the source of the frame of a packet with this source
abbrev pub source_named : List ℕ → List ℕ
source_named octets = if pointwise nat_eq octets no_source then made_up_source else octets

-- the frame of the caller's packet for a station, before it is accepted
abbrev pub frame_shown : ℕ → Packet → FrameValue
frame_shown station p = record
    (new_frame station p.tid p.flow p.body.now) { source = source_named p.source; tag = p.tag }

-- the frame of a packet whose octets stay with its owner, before it is accepted
abbrev pub bare_shown : ℕ → Bare → FrameValue
bare_shown station p = record
    (bare_frame station p.tid p.flow p.length) { source = source_named p.source; tag = p.tag }

-- the code of a body that does not fit in a frame
abbrev pub bad_length : ℕ
bad_length = 61

-- Nothing has changed, neither what the handle holds nor the caller's reply, and the code says why.
pub record IsUntouched {X : Type 0} (old new : X) (before shown : Reply) (code : ℤ)
    (why : ℕ) : Type 0 where
  pub handle : new ≡ old
  pub reply : shown ≡ before
  pub code_is : code ≡ pos why

-- The effect of an enqueue of frame f: h before, k after, and the caller's struct.
pub record IsGivenToC (h : Held) (f : FrameValue) (k : Held) (shown : Reply) : Type 0 where
  pub meets : (w : World) (bodies : ℕ → FrameValue) → StandsFor h.path.half w bodies →
      Meets w (bodies_after h.path.half w (Give f) (reply_of k.answer) bodies) (enqueue_of f) k.path.half
      (reply_of k.answer)
  pub refused : changes_nothing (reply_of k.answer) ≡ true → k.path ≡ h.path
  pub addresses : k.path.addresses ≡ h.path.addresses
  pub path : IsPath k.path.half
  pub shows : shown ≡ numbers_of k.answer.brief

-- ---- reaps

-- the code of a buffer that has no room for the longest body
abbrev pub small_buffer : ℕ
small_buffer = 62

-- whether a buffer of n octets is too small: it has some room, but not for the longest body; a buffer of no
-- octets gets no body
abbrev pub is_small_buffer : ℕ → Bool
is_small_buffer n = nat_lt 0 n && nat_lt n greatest_body

-- the caller's struct shows frame f without its body
pub record IsAbout (f : FrameValue) (taken : Taken) : Type 0 where
  pub id : taken.id ≡ f.id
  pub stamp : taken.stamp ≡ f.stamp
  pub tag : taken.tag ≡ f.tag
  pub station : taken.station ≡ f.station
  pub tid : taken.tid ≡ f.tid
  pub flow : taken.flow ≡ f.flow
  pub size : taken.length ≡ length f.body
  pub source : taken.source ≡ f.source
  pub fate : taken.fate ≡ fate_number f.fate
  pub attempts : taken.attempts ≡ f.attempts
  pub bare : taken.bare ≡ flag_of f.bare

-- The caller's struct shows frame f, and the front of a buffer with room shows its body; the rest of the
-- buffer is unchanged, and all of it if f is bare.
pub record ShowsFrame (f : FrameValue) (taken : Taken) (before buffer : List ℕ) : Type 0 where
  pub about : IsAbout f taken
  pub body : f.bare ≡ false → greatest_body ≤ length before → take (length f.body) buffer ≡ f.body
  pub rest : drop (length f.body) buffer ≡ drop (length f.body) before
  pub bare : f.bare ≡ true → buffer ≡ before

-- the caller's struct and buffer show the frame that was reaped, if any, and are otherwise unchanged
abbrev pub ShowsBack : Option FrameValue → Taken → List ℕ → Taken → List ℕ → Type 0
ShowsBack None was before taken buffer = (taken ≡ was) × (buffer ≡ before)
ShowsBack (Some f) was before taken buffer = ShowsFrame f taken before buffer

-- The effect of a reap: h before, k after, and the caller's struct and buffer, which then show the frame that
-- was accepted with the id that was reaped. If none is reaped, both are unchanged (`was` and `before`).
pub record IsReapedFromC (h k : Held) (shown : Reply) (was : Taken) (before : List ℕ)
    (taken : Taken) (buffer : List ℕ) : Type 0 where
  pub called : IsCalled h Reap k shown
  pub back : (w : World) (bodies : ℕ → FrameValue) → StandsFor h.path.half w bodies →
      ShowsBack (frame_given_back bodies (Call Reap) (reply_of k.answer)) was before taken buffer
