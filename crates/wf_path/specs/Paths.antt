-- Defines the value of a path, and the conditions and effects of its calls.
use Rattle.std.specs.Prelude.{◌≡◌, ℕ, ◌+◌, ◌<◌, ◌^◌, true, List, IfSome}
use Rattle.wf_frame.specs.declared.classes.Class.{Class}
use Rattle.wf_frame.specs.Answers.{reply_with}
use Rattle.wf_frame.specs.Frames.{FrameValue}
use Rattle.wf_frame.specs.declared.answers.Brief.{Brief}
use Rattle.wf_frame.specs.declared.notes.Ask.{Ask}
use Rattle.wf_frame.specs.declared.notes.Note.TheVariants.{Asked}
use Rattle.wf_def_lists.specs.Bounds.{greatest_tick}
use Rattle.wf_def_world.specs.World.{World}
use Rattle.wf_send_parts.specs.Group.{HasGroupBelow}
use Rattle.wf_send_parts.specs.Members.{member, charged_in, received_in}
use Rattle.wf_send_half_model.specs.Half.{TransmitValue, group_in}
use Rattle.wf_send_half_model.specs.Standing.{StandsFor, Meets}
use Rattle.wf_send_half.specs.Half.{HasUnheardWorld}
use Rattle.wf_path.specs.Addresses.{Addresses}
use Rattle.wf_path.specs.Group.{FliesAsSaid}
use Rattle.wf_path.specs.Jobs.{MayCall, bss_asked, bodies_after, changes_nothing, is_refused, with_released}
use Rattle.wf_path.specs.declared.job.Job.TheVariants.{Call}

-- a path: its transmit half, and the addresses of its frames
pub record PathValue : Type 0 where
  pub half : TransmitValue
  pub addresses : Addresses

-- A path represents the transmit half of some world of a run, in which no receiver has a frame that its
-- sender does not know to have arrived.
abbrev pub IsPath : TransmitValue → Type 0
IsPath = HasUnheardWorld

-- The counts of a path are below n: the clock, the exchanges that were opened, the frames that were accepted,
-- what each live station was charged and used in each class, and the counts of group frames of each BSS.
pub record HasCountsBelow (n : ℕ) (v : TransmitValue) : Type 0 where
  pub clock : v.clock < n
  pub exchanges : v.exchanges < n
  pub accepted : v.tally.accepted < n
  pub charged : (s : ℕ) (c : Class) → IfSome (member v.members s) (λ m. charged_in m c < n)
  pub received : (s : ℕ) (c : Class) → IfSome (member v.members s) (λ m. received_in m c < n)
  pub group : (b : ℕ) → HasGroupBelow n (group_in v b)

-- the counts are below 2^62, so that one more call overflows none
abbrev pub IsSmall : TransmitValue → Type 0
IsSmall v = HasCountsBelow (2 ^ 62) v

-- if all counts of v are below a number, those of u are below this number plus 10,000,000. This is the
-- longest tick, in microseconds; no call adds more to another count.
abbrev pub RiseLittle : TransmitValue → TransmitValue → Type 0
RiseLittle v u = (n : ℕ) → HasCountsBelow n v → HasCountsBelow (n + greatest_tick) u

-- A call without a frame makes q of the path p and answers with a brief, for every world that p represents.
-- The answer's list of pairs is given; its list of ids may be any. The reply has the ids that a receiver
-- releases.
pub record IsAnswered (p : PathValue) (ask : Ask) (q : PathValue) (brief : Brief)
    (pairs : List (ℕ × ℕ)) : Type 0 where
  pub meets : (w : World) (bodies : ℕ → FrameValue) (ids : List ℕ) → StandsFor p.half w bodies →
      MayCall w (Call ask) →
      Meets w (bodies_after p.half w (Call ask) (reply_with brief pairs ids) bodies) (Asked ask) q.half
      (with_released w (Call ask) (reply_with brief pairs ids))
  pub refused : (ids : List ℕ) → changes_nothing (reply_with brief pairs ids) ≡ true → q ≡ p
  pub pending : (ids : List ℕ) → p.half.config.pending ≡ 1 → is_refused (reply_with brief pairs ids) ≡ true →
      q ≡ p
  pub flight : (ids : List ℕ) →
      FliesAsSaid (group_in q.half (bss_asked (Asked ask))) (reply_with brief pairs ids)
  pub addresses : q.addresses ≡ p.addresses
  pub path : IsPath q.half
  pub rises : RiseLittle p.half q.half

-- the same for an answer without lists: it holds with any list of pairs
abbrev pub IsAnsweredBriefly : PathValue → Ask → PathValue → Brief → Type 0
IsAnsweredBriefly p ask q brief = (pairs : List (ℕ × ℕ)) → IsAnswered p ask q brief pairs
