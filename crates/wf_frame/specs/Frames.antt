-- Defines what contracts see of a frame.
use Rattle.std.specs.Prelude.{ℕ, zero, suc, ◌+◌, ◌-◌, ◌%◌, nat_lt, Bool, true, false, if◌then◌else◌, List, [], ◌∷◌, ◌++◌, replicate}
use Rattle.wf_frame.specs.declared.classes.Fate.{Fate}
use Rattle.wf_frame.specs.declared.classes.Fate.TheVariants.{Held}
use Rattle.wf_frame.specs.declared.frames.Body.{Body}
use Rattle.wf_frame.specs.declared.frames.Body.TheVariants.{Octets, Length}

pub record FrameValue : Type 0 where
  pub body : List ℕ
  pub id : ℕ
  pub stamp : ℕ
  pub station : ℕ
  pub tid : ℕ
  pub flow : ℕ
  pub source : List ℕ
  pub tag : ℕ
  pub attempts : ℕ  -- how often it was sent
  pub fate : Fate
  pub bare : Bool  -- whether only its owner has its octets; its body is then zeros

-- the octets of a body: those of the frame, or zeros if the frame has only their number
abbrev pub octets_of : Body → List ℕ
octets_of (Octets v) = v.items
octets_of (Length len) = replicate len 0

-- whether a frame has only the number of its octets
abbrev pub is_bare : Body → Bool
is_bare (Octets v) = false
is_bare (Length len) = true

-- the octets of a source
abbrev pub source_octets : ℕ
source_octets = 6

-- the source of a new frame: a placeholder
abbrev pub made_up_source : List ℕ
made_up_source = 0x02 ∷ 0x00 ∷ 0x00 ∷ 0x02 ∷ 0x00 ∷ 0x00 ∷ []

-- a frame that is not accepted yet
abbrev pub new_frame : ℕ → ℕ → ℕ → List ℕ → FrameValue
new_frame station tid flow body = record {
  body = body;
  id = 0;
  stamp = 0;
  station = station;
  tid = tid;
  flow = flow;
  source = made_up_source;
  tag = 0;
  attempts = 0;
  fate = Held;
  bare = false;
}

-- a frame that is not accepted yet, and of whose body only the length is known
abbrev pub bare_frame : ℕ → ℕ → ℕ → ℕ → FrameValue
bare_frame station tid flow len = record (new_frame station tid flow (replicate len 0)) { bare = true }

-- The greatest number of attempts that a frame counts. A frame is sent at most as often as the setting
-- `attempts` allows, which is at most 64.
abbrev pub most_attempts : ℕ
most_attempts = 255

-- the frame after one more transmission
abbrev pub sent_again : FrameValue → FrameValue
sent_again f = record f { attempts = if nat_lt f.attempts most_attempts then f.attempts + 1 else f.attempts }

-- the frame after one transmission of those that it counts turned out never to have been on the air
abbrev pub sent_once_less : FrameValue → FrameValue
sent_once_less f = record f { attempts = f.attempts - 1 }

-- the body of a frame of a trace: octet j is (flow + j) mod 256
abbrev pub sample_body : ℕ → ℕ → List ℕ
sample_body flow zero = []
sample_body flow (suc j) = sample_body flow j ++ ((flow + j) % 256) ∷ []
