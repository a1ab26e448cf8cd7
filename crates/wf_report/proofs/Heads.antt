-- Proves that the fields of a header do not depend on the octets after it.
use Rattle.std.proofs.Common.{◌≡◌, ℕ, ◌+◌, ◌<◌, ◌≤◌, Bool, true, false, List, ◌++◌, length, drop, get_or, refl, sym, ◌∙◌, arith, length-append}
use Rattle.std.specs.Prelude.{Option, Some, None, nat_lt}
use Rattle.std.proofs.lemmas.List.{get_or_append_left, get_or-drop}
use Rattle.wf_io.specs.declared.pcap.reading.Form.{Form}
use Rattle.wf_io.specs.Capture.{number_in_order, packet_in}
use Rattle.wf_io.specs.CaptureFaults.{form_of, fault_past_magic, head_fault, packet_fault}
use Rattle.wf_report.specs.ListedPackets.{captured_in}

octet_front : (front more : List ℕ) (place k : ℕ) → place + k < length front →
    get_or (drop place (front ++ more)) k 0 ≡ get_or (drop place front) k 0
octet_front front more place k fits =
    get_or-drop place (front ++ more) k 0 ∙ get_or_append_left front more 0 (place + k) fits
    ∙ sym (get_or-drop place front k 0)

-- A number that is completely in the front.
four_front : (big : Bool) (front more : List ℕ) (place : ℕ) → place + 4 ≤ length front →
    number_in_order big 4 (front ++ more) place ≡ number_in_order big 4 front place
four_front true front more place fits =
    rw (
      octet_front front more place 0 (omega arith),
      octet_front front more place 1 (omega arith),
      octet_front front more place 2 (omega arith),
      octet_front front more place 3 (omega arith),
    ) refl
four_front false front more place fits =
    rw (
      octet_front front more place 0 (omega arith),
      octet_front front more place 1 (omega arith),
      octet_front front more place 2 (omega arith),
      octet_front front more place 3 (omega arith),
    ) refl

two_front : (big : Bool) (front more : List ℕ) (place : ℕ) → place + 2 ≤ length front →
    number_in_order big 2 (front ++ more) place ≡ number_in_order big 2 front place
two_front true front more place fits = rw (
  octet_front front more place 0 (omega arith),
  octet_front front more place 1 (omega arith),
) refl
two_front false front more place fits = rw (
  octet_front front more place 0 (omega arith),
  octet_front front more place 1 (omega arith),
) refl

-- A packet header.
pub captured_front : (form : Form) (front more : List ℕ) → 16 ≤ length front →
    captured_in form (front ++ more) ≡ captured_in form front
captured_front form front more fits = four_front form.big front more 8 (omega arith)

pub packet_front : (form : Form) (front more : List ℕ) → 16 ≤ length front →
    packet_in form (front ++ more) ≡ packet_in form front
packet_front form front more fits =
    let a = four_front form.big front more 0 (omega arith) in
    let b = four_front form.big front more 4 (omega arith) in
    let c = four_front form.big front more 8 (omega arith) in
    let d = four_front form.big front more 12 (omega arith) in
    rw (a, b, c, d) refl

-- Comparisons of lengths.
pub not_below : (k n : ℕ) → k ≤ n → nat_lt n k ≡ false
not_below k n long = grind arith

pub packet_fault_front : (form : Form) (front more : List ℕ) → 16 ≤ length front →
    packet_fault form (front ++ more) ≡ packet_fault form front
packet_fault_front form front more fits =
    rw (
      not_below 16 (length (front ++ more)) (omega (arith, length-append front more)),
      not_below 16 (length front) fits,
      captured_front form front more fits,
    ) refl

-- A file header.
pub form_front : (front more : List ℕ) → 24 ≤ length front → form_of (front ++ more) ≡ form_of front
form_front front more fits = rw (
  four_front false front more 0 (omega arith),
  four_front true front more 0 (omega arith),
) refl

past_front : (front more : List ℕ) (form : Option Form) → 24 ≤ length front →
    fault_past_magic (front ++ more) form ≡ fault_past_magic front form
past_front front more None fits = refl
past_front front more (Some form) fits =
    rw (
      two_front form.big front more 4 (omega arith),
      two_front form.big front more 6 (omega arith),
      four_front form.big front more 20 (omega arith),
    ) refl

pub head_fault_front : (front more : List ℕ) → 24 ≤ length front →
    head_fault (front ++ more) ≡ head_fault front
head_fault_front front more fits =
    rw (
      not_below 24 (length (front ++ more)) (omega (arith, length-append front more)),
      not_below 24 (length front) fits,
      form_front front more fits,
    )
    (past_front front more (form_of front) fits)
