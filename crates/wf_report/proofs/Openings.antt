-- Proves the list of a capture, by cases of its file header.
use Rattle.std.proofs.Common.{◌≡◌, ℕ, ◌<◌, ◌≤◌, Bool, true, false, List, [], ◌++◌, length, take, drop, refl, sym, ◌∙◌, ap, arith, append_assoc, append-nil}
use Rattle.std.specs.Prelude.{Option, Some, None, nat_lt}
use Rattle.std.specs.Io.KnownBytes.{prepend_known, append_known, IsAtEnd}
use Rattle.std.proofs.lemmas.List.{drop_at, take-append-drop}
use Rattle.std.proofs.lemmas.Bool.Decides.{nat_tests}
use Rattle.wf_io.specs.declared.pcap.reading.Form.{Form}
use Rattle.wf_io.specs.declared.pcap.reading.PcapFault.{PcapFault}
use Rattle.wf_io.specs.CaptureFaults.{form_of, head_fault}
use Rattle.wf_io.specs.declared.status.Status.{Status}
use Rattle.wf_io.specs.declared.status.Status.TheVariants.{Done, Usage, BadTrace, ReadFault, WriteFault, NoMemory}
use Rattle.wf_report.specs.declared.captures.listing.fault.Fault.{Fault}
use Rattle.wf_report.specs.declared.captures.listing.fault.FaultKind.{FaultKind}
use Rattle.wf_report.specs.ListedPackets.{Listing, listing, listed, behind_head, stopped, kind_of}
use Rattle.wf_report.specs.ListingLines.{packet_lines, capture_fault_line, listing_text}
use Rattle.wf_report.specs.ListingOutcome.{OutcomeOf, FramesOutcome}
use Rattle.wf_report.proofs.TakenOctets.{taken_none, taken_more, written_none, rest_of, ended}
use Rattle.wf_report.proofs.Heads.{form_front, head_fault_front}
use Rattle.wf_report.proofs.PacketParts.{head_part, head_untold}
use Rattle.wf_report.proofs.Listings.{Ends}

-- The file header passes its checks.
opened : (form : Form) (head more : List ℕ) → length head ≡ 24 → None ≡ head_fault head →
    form_of head ≡ Some form → listing (head ++ more) ≡ behind_head form more
opened form head more size sound is =
    let input = head ++ more in
    ap (λ (f : Option PcapFault). listed input f (form_of input))
    (head_fault_front head more (omega (arith, size)) ∙ sym sound)
    ∙ ap (λ (f : Option Form). listed input None f) (form_front head more (omega (arith, size)) ∙ is)
    ∙ ap (behind_head form) (drop_at head more 24 size)

-- The file header is refused. If it is short, the input ends.
fault_on : (head more : List ℕ) (fault : PcapFault) → length head ≤ 24 → (length head < 24 → more ≡ []) →
    Some fault ≡ head_fault head → head_fault (head ++ more) ≡ Some fault
fault_on head more fault size over is = by_test (nat_lt (length head) 24) refl
  where
    by_test : (b : Bool) → nat_lt (length head) 24 ≡ b → head_fault (head ++ more) ≡ Some fault
    by_test true short = ap head_fault (ap (λ m. head ++ m) (over (grind (arith, nat_tests)))
        ∙ append-nil head) ∙ sym is
    by_test false long = head_fault_front head more (grind (arith, nat_tests)) ∙ sym is

refused : (head more : List ℕ) (fault : PcapFault) → length head ≤ 24 → (length head < 24 → more ≡ []) →
    Some fault ≡ head_fault head → listing (head ++ more) ≡ stopped 0 (kind_of fault)
refused head more fault size over is =
    let input = head ++ more in ap (λ (f : Option PcapFault). listed input f (form_of input))
    (fault_on head more fault size over is)

-- ---- the ends of a run, for the complete capture
abbrev pub EndsAll : Status → Option (List ℕ) → Option (List ℕ) → Option (List ℕ) → Option (List ℕ) → Type 0
EndsAll status left left_new held held_new = (taken written : List ℕ) ×
    (left ≡ prepend_known taken left_new) × (held_new ≡ append_known held written)
    × ((input : List ℕ) → left ≡ Some input → FramesOutcome status input taken written)

pub ends_memory : (left held : Option (List ℕ)) → EndsAll NoMemory left left held held
ends_memory left held = (
  [],
  [],
  taken_none left,
  written_none held,
  λ input told. (listing_text (listing input), refl),
)

pub ends_unread : (left left_new held : Option (List ℕ)) (taken : List ℕ) →
    left ≡ prepend_known taken left_new → length taken < 24 → EndsAll ReadFault left left_new held held
ends_unread left left_new held taken took short = (
  taken,
  [],
  took,
  written_none held,
  λ input told. (
    sym (ap (λ (l : Listing). packet_lines l.packets) (head_part taken short)),
    head_untold taken short,
    (listing_text (listing input), refl),
  ),
)

behind : (status : Status) (list all : List ℕ → Listing) (head more input taken written : List ℕ) →
    ((octets : List ℕ) → all (head ++ octets) ≡ list octets) → input ≡ head ++ more →
    OutcomeOf list status more taken written → OutcomeOf all status input (head ++ taken) written
behind Done list all head more input taken written same is o = (
  ap (λ t. let l : Listing = all t in l.fault) is ∙ ap (λ (l : Listing). l.fault) (same more) ∙ o.0,
  ap (λ t. head ++ t) o.1 ∙ sym is,
  o.2 ∙ sym
      (ap (λ t. listing_text (all t)) is ∙ ap listing_text (same more)),
)
behind BadTrace list all head more input taken written same is o = (
  o.0,
  ap (λ t. let l : Listing = all t in l.fault) is ∙ ap (λ (l : Listing). l.fault) (same more) ∙ o.1,
  o.2 ∙ sym (ap (λ t. listing_text (all t)) is ∙ ap listing_text (same more)),
)
behind ReadFault list all head more input taken written same is o = (
  o.0 ∙ sym (ap (λ (l : Listing). packet_lines l.packets) (same taken)),
  λ fault each. o.1 fault
      (λ rest. sym (ap (λ (l : Listing). l.fault) (same (taken ++ rest)))
      ∙ ap (λ t. let l : Listing = all t in l.fault) (sym (append_assoc head taken rest)) ∙ each rest),
  (o.2.0, ap (λ t. listing_text (all t)) is ∙ ap listing_text (same more) ∙ o.2.1),
)
behind WriteFault list all head more input taken written same is o =
    (o.0, ap (λ t. listing_text (all t)) is ∙ ap listing_text (same more) ∙ o.1)
behind NoMemory list all head more input taken written same is o =
    (o.0, ap (λ t. listing_text (all t)) is ∙ ap listing_text (same more) ∙ o.1)
behind Usage list all head more input taken written same is o = absurd o

pub ends_behind : (status : Status) (form : Form) (left left_now left_new held held_new : Option (List ℕ))
    (head : List ℕ) → left ≡ prepend_known head left_now → length head ≡ 24 → None ≡ head_fault head →
    form_of head ≡ Some form → Ends form status left_now left_new held held_new →
    EndsAll status left left_new held held_new
ends_behind status form left left_now left_new held held_new head took size sound is e = (
  head ++ e.0,
  e.1,
  taken_more head e.0 left left_now left_new took e.2,
  e.3,
  λ input told. let rest = rest_of head left left_now input told took in
      behind status (behind_head form) listing head rest.0 input e.0 e.1
      (λ octets. opened form head octets size sound is) rest.2 (e.4 rest.0 rest.1),
)

-- The list if the file header is refused.
all_refused : (left left_now : Option (List ℕ)) (head : List ℕ) (fault : PcapFault) →
    left ≡ prepend_known head left_now → length head ≤ 24 → (length head < 24 → IsAtEnd left_now) →
    Some fault ≡ head_fault head →
    (input : List ℕ) → left ≡ Some input → listing input ≡ stopped 0 (kind_of fault)
all_refused left left_now head fault took size over is input told =
    let rest = rest_of head left left_now input told took in
    ap listing rest.2 ∙ refused head rest.0 fault size (λ short. ended left_now rest.0 (over short) rest.1) is

pub ends_refused : (left left_now held held_new : Option (List ℕ)) (head : List ℕ) (fault : PcapFault)
    (kind : FaultKind) → left ≡ prepend_known head left_now → length head ≤ 24 →
    (length head < 24 → IsAtEnd left_now) → Some fault ≡ head_fault head → kind ≡ kind_of fault →
    held_new ≡ append_known held (capture_fault_line (record { packet = 0; kind = kind })) →
    EndsAll BadTrace left left_now held held_new
ends_refused left left_now held held_new head fault kind took size over is same wrote =
    let told_fault : Fault = record { packet = 0; kind = kind } in (
      head,
      capture_fault_line told_fault,
      took,
      wrote,
      λ input told. let all = all_refused left left_now head fault took size over is input told
          ∙ ap (stopped 0) (sym same) in
          (told_fault, ap (λ (l : Listing). l.fault) all, sym (ap listing_text all)),
    )

pub ends_refused_unwritten : (left left_now held held_new : Option (List ℕ)) (head : List ℕ)
    (fault : PcapFault) (kind : FaultKind) → left ≡ prepend_known head left_now → length head ≤ 24 →
    (length head < 24 → IsAtEnd left_now) → Some fault ≡ head_fault head → kind ≡ kind_of fault →
    (n : ℕ) × (n ≤ length (capture_fault_line (record { packet = 0; kind = kind }))) ×
    (held_new ≡ append_known held (take n (capture_fault_line (record { packet = 0; kind = kind })))) →
    EndsAll WriteFault left left_now held held_new
ends_refused_unwritten left left_now held held_new head fault kind took size over is same some =
    let told_fault : Fault = record { packet = 0; kind = kind } in
    let line = capture_fault_line told_fault in (
      head,
      take some.0 line,
      took,
      some.2,
      λ input told. let all = all_refused left left_now head fault took size over is input told
          ∙ ap (stopped 0) (sym same) in
          (drop some.0 line, ap listing_text all ∙ sym (take-append-drop some.0 line)),
    )
