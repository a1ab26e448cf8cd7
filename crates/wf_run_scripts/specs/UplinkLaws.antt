-- Defines the laws of the uplink for a script.
use Rattle.std.specs.Prelude.{◌≡◌, ℕ, ◌<◌, List, [], ◌∷◌, ◌++◌, None, flat_map}
use Rattle.wf_recv_peer.specs.Board.{Board}
use Rattle.wf_uplink.specs.World.{Call, Open, OpenPlain, Receive, Request, Delivery, Opened, Received, Requested, tids_of_station, first_due, after_calls, answer}
use Rattle.wf_uplink.specs.Laws.{TidLaw, TotalsLaw, PlainLaw, IsCharged, IsRequestCharged}
use Rattle.wf_trace.specs.Scripts.{Script}
use Rattle.wf_trace.specs.ScriptTexts.{answers}
use Rattle.wf_run_scripts.specs.declared.uplink.event.Event.{Event}
use Rattle.wf_run_scripts.specs.declared.uplink.event.Event.TheVariants as event
use Rattle.wf_run_scripts.specs.UplinkAnswers.{stations, first, manner, calls_of, calls_text}

-- The calls of a script, in order.
abbrev pub calls_in : Script Event → List Call
calls_in s = flat_map calls_of s.events

pub record HasUplinkLaws (s : Script Event) : Type 0 where
  -- The answers are the text that is written for these calls.
  pub told : answers manner first s.events ≡ calls_text first (calls_in s)
  -- For each TID of a station that was opened, after each later call: the items are written in the order of
  -- their numbers, the numbers of the frames that were passed up rise strictly, and each number from the
  -- first to below B was passed up exactly once or is in exactly one gap.
  pub tids_in_order : (before later rest : List Call) (station window start tid : ℕ) →
      calls_in s ≡ before ++ Open station window start ∷ (later ++ rest) → tid < tids_of_station →
      answer (Open station window start) (after_calls first before) ≡ Opened →
      TidLaw (after_calls first (before ++ Open station window start ∷ [])) station tid start later
  -- For each TID of a station that was opened without agreements, after each later call: the frames were
  -- passed up in the order of their arrival, no number was given up, and a frame is returned exactly if it
  -- has the Retry bit and the number of the frame that was passed up last.
  pub plain_tids : (before later rest : List Call) (station tid : ℕ) →
      calls_in s ≡ before ++ OpenPlain station ∷ (later ++ rest) → tid < tids_of_station →
      answer (OpenPlain station) (after_calls first before) ≡ Opened →
      PlainLaw (after_calls first (before ++ OpenPlain station ∷ [])) station tid later
  -- After each call: each accepted frame was passed up, was returned or is stored, and the totals count the
  -- items that were written.
  pub totals : (before rest : List Call) → calls_in s ≡ before ++ rest → TotalsLaw stations before
  -- Each accepted frame is charged its airtime at its station's rate, and that of its answer.
  pub charges : (before rest : List Call) (octets : List ℕ) (d : Delivery) →
      calls_in s ≡ before ++ Receive octets ∷ rest →
      answer (Receive octets) (after_calls first before) ≡ Received d →
      IsCharged (after_calls first before) octets d
  -- Each accepted BlockAckReq is charged its airtime and that of its BlockAck.
  pub request_charges : (before rest : List Call) (octets : List ℕ) (d : Delivery) (board : Board) →
      calls_in s ≡ before ++ Request octets ∷ rest →
      answer (Request octets) (after_calls first before) ≡ Requested d board →
      IsRequestCharged (after_calls first before) d board
  -- After each step of the clock, and the timeouts that follow it, nothing is due.
  pub quiet : (before rest : List Call) (by : ℕ) → calls_in s ≡ before ++ (calls_of (event.Tick by) ++ rest) →
      first_due (after_calls first (before ++ calls_of (event.Tick by))) ≡ None
