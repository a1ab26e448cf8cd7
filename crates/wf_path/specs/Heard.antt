-- Defines the BlockAck by which a path ends an exchange of which a device reported each transmission.
use Rattle.std.specs.Prelude.{◌≡◌, ◌<◌, ◌==◌, ℕ, suc, length, List, [], ◌∷◌, All, Option, Some, None, if◌then◌else◌}
use Rattle.wf_frame.specs.Frames.{FrameValue}
use Rattle.wf_def_lists.specs.Table.{has, with_member}
use Rattle.wf_def_world.specs.Run.{world_after}
use Rattle.wf_def_world.specs.World.{World, Exchange, exchange}
use Rattle.wf_law_driver.specs.Inferred.{AreAnswered}
use Rattle.wf_law_driver.specs.Unheard.{IsUnheard}
use Rattle.wf_octets.specs.Distance.{distance}
use Rattle.wf_send_parts.specs.declared.exchanges.opened.Open.{Open}
use Rattle.wf_send_parts.specs.declared.exchanges.opened.Sending.{Sending}
use Rattle.wf_send_parts.specs.declared.exchanges.opened.Sending.TheVariants.{Data, Request}
use Rattle.wf_send_half_model.specs.Half.{TransmitValue}
use Rattle.wf_send_half_model.specs.Standing.{StandsFor}
use Rattle.wf_path.specs.Each.{is_outcome_acked, some_acked, marks, bodies_each}
use Rattle.wf_path.specs.declared.each.Outcome.{Outcome}

-- ---- the BlockAck

-- these offsets, and the distances from `first` of those of these numbers whose transmissions were
-- acknowledged
abbrev pub offsets_acked : ℕ → List ℕ → List ℕ → List Outcome → List ℕ
offsets_acked first offsets [] outcomes = offsets
offsets_acked first offsets (n ∷ numbers) [] = offsets
offsets_acked first offsets (n ∷ numbers) (outcome ∷ outcomes) =
    offsets_acked first (if is_outcome_acked outcome then with_member (distance n first) offsets else
    offsets) numbers
    outcomes

-- a BlockAck that shows exactly the numbers whose transmissions were acknowledged: it starts at the first
-- number, or at the start of a request
abbrev pub score_of : Sending → List Outcome → ℕ × List ℕ
score_of (Data []) outcomes = (0, [])
score_of (Data (first ∷ numbers)) outcomes = (first, offsets_acked first [] (first ∷ numbers) outcomes)
score_of (Request start) outcomes = (start, [])

-- the BlockAck that was heard, if any transmission was acknowledged
abbrev pub heard_of : Sending → List Outcome → Option (ℕ × List ℕ)
heard_of sending outcomes = if some_acked outcomes then Some (score_of sending outcomes) else None

-- each of these numbers, modulo 4096, is at most 255 past `first`
abbrev pub AreNumbersNear : ℕ → List ℕ → Type 0
AreNumbersNear first numbers = All (λ n. distance n first < 256) numbers

-- the numbers of an aggregate are near the first one
abbrev pub IsNarrow : Sending → Type 0
IsNarrow (Data []) = Unit {0}
IsNarrow (Data (first ∷ numbers)) = AreNumbersNear first (first ∷ numbers)
IsNarrow (Request start) = Unit {0}

-- ---- a batch

-- these offsets, and the distances from `first` of those of these numbers whose indices are given; i is the
-- index of the first number
abbrev pub offsets_at : ℕ → List ℕ → ℕ → List ℕ → List ℕ → List ℕ
offsets_at first offsets i [] indices = offsets
offsets_at first offsets i (n ∷ numbers) indices = offsets_at first
    (if has indices i then with_member (distance n first) offsets else offsets) (suc i) numbers indices

-- the BlockAck that shows exactly the numbers with these indices; none for a request
abbrev pub score_at : Sending → List ℕ → Option (ℕ × List ℕ)
score_at (Data []) indices = None
score_at (Data (first ∷ numbers)) indices = Some (first, offsets_at first [] 0 (first ∷ numbers) indices)
score_at (Request start) indices = None

-- the same for an exchange, if it is open and there are any indices
abbrev pub shown_at : Option Open → List ℕ → Option (ℕ × List ℕ)
shown_at None indices = None
shown_at (Some x) indices = if length indices == 0 then None else score_at x.sending indices

-- ---- the marks

-- u is v after the marks of these outcomes of exchange e, if the machine takes each of them; i is the index
-- of the first outcome
abbrev pub IsMarked : TransmitValue → TransmitValue → ℕ → ℕ → List Outcome → Type 0
IsMarked v u e i outcomes = (w : World) (bodies : ℕ → FrameValue) (caller : ℕ) (x : Exchange) →
    StandsFor v w bodies → IsUnheard w → exchange w e ≡ Some x → AreAnswered w (marks caller e i outcomes) →
    StandsFor u (world_after w (marks caller e i outcomes)) (bodies_each x i outcomes bodies)
