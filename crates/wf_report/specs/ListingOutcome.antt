-- Defines what the status of `frames` means.
use Rattle.std.specs.Prelude.{◌≡◌, ◌⊎◌, ℕ, List, ◌++◌, Option, Some, None}
use Rattle.wf_io.specs.declared.status.Status.{Status}
use Rattle.wf_io.specs.declared.status.Status.TheVariants.{Done, Usage, BadTrace, ReadFault, WriteFault, NoMemory}
use Rattle.wf_io.specs.Fronts.{IsFrontOf}
use Rattle.wf_report.specs.declared.captures.listing.fault.Fault.{Fault}
use Rattle.wf_report.specs.ListedPackets.{Listing, listing}
use Rattle.wf_report.specs.ListingLines.{packet_lines, listing_text}

-- From these octets no fault follows: there is no fault that every input which begins with them has.
abbrev pub TellsNoFault : (List ℕ → Listing) → List ℕ → Type 0
TellsNoFault list octets = (fault : Fault) → ((more : List ℕ) → (list (octets ++ more)).fault ≡ Some fault) →
    ⊥

-- How a run ends, by the list of an input, and by the octets of the input, those of them that were read, and
-- those that were written.
abbrev pub OutcomeOf : (List ℕ → Listing) → Status → List ℕ → List ℕ → List ℕ → Type 0
-- The capture has no fault, all of the input was read, and the text was written.
OutcomeOf list Done input taken written = ((list input).fault ≡ None) × (taken ≡ input) ×
    (written ≡ listing_text (list input))
-- The capture has a fault, and the text was written.
OutcomeOf list BadTrace input taken written = (fault : Fault) × ((list input).fault ≡ Some fault) ×
    (written ≡ listing_text (list input))
-- Exactly the lines of the packets that were read completely were written, and no fault follows from the
-- octets that were read.
OutcomeOf list ReadFault input taken written =
    (written ≡ packet_lines (list taken).packets) × TellsNoFault list taken ×
    IsFrontOf written (listing_text (list input))
-- A prefix of the text was written.
OutcomeOf list WriteFault input taken written = IsFrontOf written (listing_text (list input))
OutcomeOf list NoMemory input taken written = IsFrontOf written (listing_text (list input))
-- No run has this status.
OutcomeOf list Usage input taken written = ⊥

abbrev pub FramesOutcome : Status → List ℕ → List ℕ → List ℕ → Type 0
FramesOutcome status input taken written = OutcomeOf listing status input taken written

-- How a run ends if its source and its sink do not fail, by the fault of the capture.
abbrev pub AnsweredBy : Option Fault → Status → Type 0
AnsweredBy None status = (status ≡ Done) ⊎ (status ≡ NoMemory)
AnsweredBy (Some fault) status = (status ≡ BadTrace) ⊎ (status ≡ NoMemory)

abbrev pub AnsweredOf : (List ℕ → Listing) → List ℕ → Status → Type 0
AnsweredOf list input status = AnsweredBy (list input).fault status

abbrev pub FramesAnswered : List ℕ → Status → Type 0
FramesAnswered input status = AnsweredOf listing input status
