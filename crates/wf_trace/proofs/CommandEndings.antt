-- Proves what a command's contract says of its end, for each way in which a command can end.
use Rattle.std.proofs.Common.{◌≡◌, ℕ, List, refl, subst}
use Rattle.std.specs.Prelude.{◌≢◌, Option, Some}
use Rattle.std.specs.Io.KnownBytes.{prepend_known, append_known}
use Rattle.wf_io.specs.declared.status.Status.{Status}
use Rattle.wf_io.specs.declared.status.Status.TheVariants.{Done, Usage, BadTrace, ReadFault, WriteFault, NoMemory}
use Rattle.wf_io.specs.Faults.{HasRisen}
use Rattle.wf_trace.specs.CommandEnds.{TellsFault, CommandEnds, CommandWrites}

-- ---- what a status says of a fault
pub fault_told : (fault : Status) (before after : ℕ) → HasRisen before after →
    TellsFault fault before after fault
fault_told fault before after risen = record { risen = λ is. risen; quiet = λ other. absurd (other refl) }

pub no_fault : (fault status : Status) (before after : ℕ) → status ≢ fault → after ≡ before →
    TellsFault fault before after status
no_fault fault status before after other same = record { risen = λ is. absurd (other is); quiet = λ is. same }

-- ---- a command that reads an input and writes a text
-- octets were read and written, and the status says which if the input of the source is known
abbrev pub Passed : (List ℕ → List ℕ → List ℕ → Type 0) → Option (List ℕ) → Option (List ℕ) →
    Option (List ℕ) → Option (List ℕ) → Type 0
Passed says left left_new held held_new = (taken written : List ℕ) × (left ≡ prepend_known taken left_new) ×
    (held_new ≡ append_known held written) ×
    ((input : List ℕ) → left ≡ Some input → says input taken written)

-- a status without a fault of source and sink says how the input is answered
abbrev pub Judges : (Status → List ℕ → List ℕ → List ℕ → Type 0) → (List ℕ → Status → Type 0) → Type 0
Judges outcome answered = (status : Status) (input taken written : List ℕ) →
    outcome status input taken written → status ≢ ReadFault → status ≢ WriteFault → status ≢ Usage →
    answered input status

-- the statuses that report no fault of source or sink
abbrev pub IsFaultless : Status → Type 0
IsFaultless Done = Unit {0}
IsFaultless BadTrace = Unit {0}
IsFaultless NoMemory = Unit {0}
IsFaultless Usage = ⊥
IsFaultless ReadFault = ⊥
IsFaultless WriteFault = ⊥

no_read : (status : Status) → IsFaultless status → status ≢ ReadFault
no_read ReadFault faultless is = faultless
no_read Done faultless is = cc
no_read BadTrace faultless is = cc
no_read NoMemory faultless is = cc
no_read Usage faultless is = faultless
no_read WriteFault faultless is = faultless

no_write : (status : Status) → IsFaultless status → status ≢ WriteFault
no_write WriteFault faultless is = faultless
no_write Done faultless is = cc
no_write BadTrace faultless is = cc
no_write NoMemory faultless is = cc
no_write Usage faultless is = faultless
no_write ReadFault faultless is = faultless

no_usage : (status : Status) → IsFaultless status → status ≢ Usage
no_usage Usage faultless is = faultless
no_usage Done faultless is = cc
no_usage BadTrace faultless is = cc
no_usage NoMemory faultless is = cc
no_usage ReadFault faultless is = faultless
no_usage WriteFault faultless is = faultless

ends : {S K : Type 0} (left : S → Option (List ℕ)) (read_faults : S → ℕ)
    (held : K → Option (List ℕ)) (write_faults : K → ℕ)
    (outcome : Status → List ℕ → List ℕ → List ℕ → Type 0) (answered : List ℕ → Status → Type 0)
    (source source_new : S) (sink sink_new : K) (status : Status) → Judges outcome answered →
    Passed (outcome status) (left source) (left source_new) (held sink) (held sink_new) →
    TellsFault ReadFault (read_faults source) (read_faults source_new) status →
    TellsFault WriteFault (write_faults sink) (write_faults sink_new) status → status ≢ Usage →
    CommandEnds left read_faults held write_faults outcome answered source source_new sink sink_new status
ends left read_faults held write_faults outcome answered source source_new sink sink_new status judges passed
    read write command = record {
      text = passed;
      read = read;
      write = write;
      command = command;
      complete = λ unread unwritten input is. judges status input passed.0 passed.1 (passed.4 input is)
          (λ e. unread (read.risen e)) (λ e. unwritten (write.risen e)) command;
    }

-- neither failed
pub ends_quiet : {S K : Type 0} (left : S → Option (List ℕ)) (read_faults : S → ℕ)
    (held : K → Option (List ℕ)) (write_faults : K → ℕ)
    (outcome : Status → List ℕ → List ℕ → List ℕ → Type 0) (answered : List ℕ → Status → Type 0)
    (source source_new : S) (sink sink_new : K) (status : Status) → IsFaultless status →
    Judges outcome answered →
    Passed (outcome status) (left source) (left source_new) (held sink) (held sink_new) →
    read_faults source_new ≡ read_faults source → write_faults sink_new ≡ write_faults sink →
    CommandEnds left read_faults held write_faults outcome answered source source_new sink sink_new status
ends_quiet left read_faults held write_faults outcome answered source source_new sink sink_new status
    faultless judges passed unread unwritten =
    ends left read_faults held write_faults outcome answered source source_new sink sink_new status judges
    passed
    (no_fault ReadFault status (read_faults source) (read_faults source_new) (no_read status faultless)
    unread)
    (no_fault WriteFault status (write_faults sink) (write_faults sink_new) (no_write status faultless)
    unwritten)
    (no_usage status faultless)

-- the source failed
pub ends_unread : {S K : Type 0} (left : S → Option (List ℕ)) (read_faults : S → ℕ)
    (held : K → Option (List ℕ)) (write_faults : K → ℕ)
    (outcome : Status → List ℕ → List ℕ → List ℕ → Type 0) (answered : List ℕ → Status → Type 0)
    (source source_new : S) (sink sink_new : K) (before : ℕ) → Judges outcome answered →
    Passed (outcome ReadFault) (left source) (left source_new) (held sink) (held sink_new) →
    before ≡ read_faults source → HasRisen before (read_faults source_new) →
    write_faults sink_new ≡ write_faults sink →
    CommandEnds left read_faults held write_faults outcome answered source source_new sink sink_new ReadFault
ends_unread left read_faults held write_faults outcome answered source source_new sink sink_new before judges
    passed same risen unwritten =
    ends left read_faults held write_faults outcome answered source source_new sink sink_new ReadFault judges
    passed
    (fault_told ReadFault (read_faults source) (read_faults source_new)
    (subst (λ n. HasRisen n (read_faults source_new)) same risen))
    (no_fault WriteFault ReadFault (write_faults sink) (write_faults sink_new) (λ e. cc) unwritten)
    (λ e. cc)

-- the sink failed
pub ends_unwritten : {S K : Type 0} (left : S → Option (List ℕ)) (read_faults : S → ℕ)
    (held : K → Option (List ℕ)) (write_faults : K → ℕ)
    (outcome : Status → List ℕ → List ℕ → List ℕ → Type 0) (answered : List ℕ → Status → Type 0)
    (source source_new : S) (sink sink_new : K) (before : ℕ) → Judges outcome answered →
    Passed (outcome WriteFault) (left source) (left source_new) (held sink) (held sink_new) →
    read_faults source_new ≡ read_faults source → before ≡ write_faults sink →
    HasRisen before (write_faults sink_new) →
    CommandEnds left read_faults held write_faults outcome answered source source_new sink sink_new WriteFault
ends_unwritten left read_faults held write_faults outcome answered source source_new sink sink_new before
    judges passed unread same risen =
    ends left read_faults held write_faults outcome answered source source_new sink sink_new WriteFault judges
    passed
    (no_fault ReadFault WriteFault (read_faults source) (read_faults source_new) (λ e. cc) unread)
    (fault_told WriteFault (write_faults sink) (write_faults sink_new)
    (subst (λ n. HasRisen n (write_faults sink_new)) same risen))
    (λ e. cc)

-- if each status of one outcome implies that of another, so does an end
pub ends_as : {S K : Type 0} (left : S → Option (List ℕ)) (read_faults : S → ℕ)
    (held : K → Option (List ℕ)) (write_faults : K → ℕ)
    (outcome other : Status → List ℕ → List ℕ → List ℕ → Type 0) (answered : List ℕ → Status → Type 0)
    (source source_new : S) (sink sink_new : K) (status : Status) →
    ((input taken written : List ℕ) → outcome status input taken written →
    other status input taken written) →
    CommandEnds left read_faults held write_faults outcome answered source source_new sink sink_new status →
    CommandEnds left read_faults held write_faults other answered source source_new sink sink_new status
ends_as left read_faults held write_faults outcome other answered source source_new sink sink_new status says
    end = record {
      text = (
        end.text.0,
        end.text.1,
        end.text.2,
        end.text.3,
        λ input is. says input end.text.0 end.text.1 (end.text.4 input is),
      );
      read = end.read;
      write = end.write;
      command = end.command;
      complete = end.complete;
    }

-- ---- a command that only writes a text
pub writes_quiet : {K : Type 0} (held : K → Option (List ℕ)) (write_faults : K → ℕ)
    (outcome : Status → List ℕ → Type 0) (sink sink_new : K) (status : Status) → IsFaultless status →
    (written : List ℕ) → held sink_new ≡ append_known (held sink) written → outcome status written →
    write_faults sink_new ≡ write_faults sink →
    CommandWrites held write_faults outcome sink sink_new status
writes_quiet held write_faults outcome sink sink_new status faultless written holds says unwritten = record {
  text = (written, holds, says);
  write = no_fault WriteFault status (write_faults sink) (write_faults sink_new) (no_write status faultless)
      unwritten;
}

pub writes_failed : {K : Type 0} (held : K → Option (List ℕ)) (write_faults : K → ℕ)
    (outcome : Status → List ℕ → Type 0) (sink sink_new : K) (written : List ℕ) →
    held sink_new ≡ append_known (held sink) written → outcome WriteFault written →
    HasRisen (write_faults sink) (write_faults sink_new) →
    CommandWrites held write_faults outcome sink sink_new WriteFault
writes_failed held write_faults outcome sink sink_new written holds says risen = record {
  text = (written, holds, says);
  write = fault_told WriteFault (write_faults sink) (write_faults sink_new) risen;
}
