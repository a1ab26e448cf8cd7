-- Defines the law of twelve-bit numbers. Numbers are on the air modulo 4096 (IEEE 802.11-2012, 8.2.4.4).
-- Two numbers that are at most 2047 apart can be distinguished and ordered by these twelve bits.
use Rattle.std.specs.Prelude.{◌≡◌, ℕ, ◌+◌, ◌≤◌, List, IfSome}
use Rattle.wf_frame.specs.declared.settings.Config.{Config}
use Rattle.wf_def_agreement.specs.Session.{State, slot, start_of, next_number}
use Rattle.wf_def_agreement.specs.Receiver.{release_start, score_start}
use Rattle.wf_def_world.specs.World.{World, session, receiver}
use Rattle.wf_def_world.specs.Run.{Entry}
use Rattle.wf_def_world.specs.Stretches.{world_at}
use Rattle.wf_law_runs.specs.Windows.{EachOpen, IfAsks}

-- The numbers of a TID that are in use: from 256 before the scoreboard's start to the next number.
abbrev pub IsInUse : World → ℕ → ℕ → ℕ → Type 0
IsInUse w s t n = (score_start (receiver w s t) ≤ n + 256) × (n ≤ next_number (session w s t))

-- Each number that is compared is in use: both starts of the receiver, both ends of the transmit window,
-- each number on the air, the start of an open request, and the start of an open exchange's answer.
pub record ComparisonsAreRight (w : World) (s t : ℕ) : Type 0 where
  pub size : (session w s t).size ≤ 256
  pub start : IsInUse w s t (start_of (session w s t))
  pub next : IsInUse w s t (next_number (session w s t))
  pub release : IsInUse w s t (release_start (receiver w s t))
  pub score : IsInUse w s t (score_start (receiver w s t))
  pub flying : (n e : ℕ) → (session w s t).first ≤ n → (slot (session w s t) n).state ≡ State.Flying e →
      IsInUse w s t n
  pub asked : EachOpen (λ x. x.station ≡ s → x.tid ≡ t → IfAsks x.content (IsInUse w s t)) w.opened
  pub answered : EachOpen (λ x. x.station ≡ s → x.tid ≡ t → IfSome x.answer (λ b. IsInUse w s t b.start))
      w.opened
  -- Any two numbers in use are close.
  pub close : (m n : ℕ) → IsInUse w s t m → IsInUse w s t n → m ≤ n + 2047

-- The law: `ComparisonsAreRight` holds after each entry of a history, for each TID.
abbrev pub TwelveBitLaw : Config → List Entry → Type 0
TwelveBitLaw config history = (m s t : ℕ) → ComparisonsAreRight (world_at config history m) s t
