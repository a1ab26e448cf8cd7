-- Proves the laws of the uplink for a script, from the laws of its calls.
use Rattle.std.proofs.Common.{◌≡◌, ℕ, List, [], ◌∷◌, ◌++◌, true, sym, ◌∙◌, ap}
use Rattle.std.specs.Prelude.{flat_map}
use Rattle.wf_uplink.specs.World.{World, after_calls}
use Rattle.wf_uplink.proofs.Calls.{tids_told, totals, charges, request_charges}
use Rattle.wf_uplink.proofs.PlainCalls.{plain_told}
use Rattle.wf_trace.specs.Scripts.{Script}
use Rattle.wf_trace.specs.ScriptTexts.{answers}
use Rattle.wf_run_scripts.specs.declared.uplink.event.Event.{Event}
use Rattle.wf_run_scripts.specs.UplinkAnswers.{manner, stations, first, calls_of, calls_text}
use Rattle.wf_run_scripts.specs.UplinkLines.{reading}
use Rattle.wf_run_scripts.specs.UplinkLaws.{HasUplinkLaws}
use Rattle.wf_run_scripts.specs.UplinkOutcome.{UplinkLaw}
use Rattle.wf_run_scripts.proofs.UplinkCalls.{text_none, text-append}
use Rattle.wf_run_scripts.proofs.UplinkQuiet.{quiet}

told_by : (w : World) (events : List Event) →
    answers manner w events ≡ calls_text w (flat_map calls_of events)
told_by w [] = sym (text_none w)
told_by w (event ∷ events) =
    ap (λ l. calls_text w (calls_of event) ++ l) (told_by (after_calls w (calls_of event)) events)
    ∙ sym (text-append w (calls_of event) (flat_map calls_of events))

pub laws : (s : Script Event) → HasUplinkLaws s
laws s = record {
  told = told_by first s.events;
  tids_in_order = λ before later rest station window start tid is known opened.
      tids_told stations before later station window start tid known opened;
  plain_tids = λ before later rest station tid is known opened.
      plain_told stations before later station tid known opened;
  totals = λ before rest is. totals stations before;
  charges = λ before rest octets d is taken. charges stations before octets d taken;
  request_charges = λ before rest octets d board is taken.
      request_charges stations before octets d board taken;
  quiet = λ before rest by is. quiet before by;
}

pub uplink_law : (input : List ℕ) → UplinkLaw input
uplink_law input = laws (reading true input)
