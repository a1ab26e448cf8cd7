-- Defines how a command ends: what its status says of the octets that it read and wrote, and of faults.
use Rattle.std.specs.Prelude.{◌≡◌, ◌≢◌, ℕ, List, Option, Some}
use Rattle.std.specs.Io.KnownBytes.{prepend_known, append_known}
use Rattle.wf_io.specs.declared.status.Status.{Status}
use Rattle.wf_io.specs.declared.status.Status.TheVariants.{Usage, ReadFault, WriteFault}
use Rattle.wf_io.specs.Faults.{HasRisen}

-- A status reports a fault: given how often a source or a sink failed before and after, it is this fault
-- only if the count rose, and if it is another status the count is unchanged.
pub record TellsFault (fault : Status) (before after : ℕ) (status : Status) : Type 0 where
  pub risen : status ≡ fault → HasRisen before after
  pub quiet : status ≢ fault → after ≡ before

-- How a command ends that reads an input and writes a text. The parameters are what is known of its source
-- (the octets still to come, and how often it failed), of its sink (the octets taken so far, and how often
-- it failed), what the status says of the octets of the input, those that were read and those that were
-- written, and how an input is answered without faults.
pub record CommandEnds {S K : Type 0} (left : S → Option (List ℕ)) (read_faults : S → ℕ)
    (held : K → Option (List ℕ)) (write_faults : K → ℕ)
    (outcome : Status → List ℕ → List ℕ → List ℕ → Type 0) (answered : List ℕ → Status → Type 0)
    (source source_new : S) (sink sink_new : K) (status : Status) : Type 0 where
  -- octets were read and written; they are those that the status says, if the input of the source is known
  pub text : (taken written : List ℕ) × (left source ≡ prepend_known taken (left source_new)) ×
      (held sink_new ≡ append_known (held sink) written) ×
      ((input : List ℕ) → left source ≡ Some input → outcome status input taken written)
  -- the source failed only if the status says so
  pub read : TellsFault ReadFault (read_faults source) (read_faults source_new) status
  -- the sink failed only if the status says so
  pub write : TellsFault WriteFault (write_faults sink) (write_faults sink_new) status
  -- the words were a command
  pub command : status ≢ Usage
  -- if neither failed, the command ended as its input says
  pub complete : (HasRisen (read_faults source) (read_faults source_new) → ⊥) →
      (HasRisen (write_faults sink) (write_faults sink_new) → ⊥) →
      (input : List ℕ) → left source ≡ Some input → answered input status

-- How a command ends that only writes a text: its status says which octets were written.
pub record CommandWrites {K : Type 0} (held : K → Option (List ℕ)) (write_faults : K → ℕ)
    (outcome : Status → List ℕ → Type 0) (sink sink_new : K) (status : Status) : Type 0 where
  pub text : (written : List ℕ) × (held sink_new ≡ append_known (held sink) written) × outcome status written
  pub write : TellsFault WriteFault (write_faults sink) (write_faults sink_new) status
