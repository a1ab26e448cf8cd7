-- Proves the invariant of a list in progress, and each way in which it ends.
use Rattle.std.proofs.Common.{◌≡◌, ℕ, ◌+◌, ◌≤◌, List, [], ◌∷◌, ◌++◌, length, take, drop, refl, sym, ◌∙◌, ap, arith, append_assoc, append-nil, length-append}
use Rattle.std.specs.Prelude.{Option, Some, None, Ok}
use Rattle.std.specs.Io.KnownBytes.{prepend_known, append_known}
use Rattle.std.proofs.lemmas.List.{flat_map_more, take-append-drop}
use Rattle.wf_io.specs.declared.pcap.reading.Form.{Form}
use Rattle.wf_io.specs.declared.pcap.reading.Packet.{Packet}
use Rattle.wf_io.specs.Capture.{packet_in}
use Rattle.wf_io.specs.declared.status.Status.{Status}
use Rattle.wf_io.specs.declared.status.Status.TheVariants.{Done, BadTrace, ReadFault, WriteFault}
use Rattle.wf_io.specs.Fronts.{IsFrontOf}
use Rattle.wf_report.specs.declared.captures.listing.fault.Fault.{Fault}
use Rattle.wf_report.specs.declared.captures.listing.fault.FaultKind.{FaultKind}
use Rattle.wf_report.specs.declared.captures.listing.reader.Next.{Next}
use Rattle.wf_report.specs.declared.captures.listing.reader.Next.TheVariants as next
use Rattle.wf_report.specs.ListedPackets.{Captured, Listing, behind_head, packets_from, from_each, with_packet}
use Rattle.wf_report.specs.ListingLines.{packet_line, packet_lines, capture_fault_line, count_line, last_line, listing_text}
use Rattle.wf_report.specs.ListingReading.{SaysPacket, IsPart}
use Rattle.wf_report.specs.ListingOutcome.{OutcomeOf}
use Rattle.wf_report.proofs.TakenOctets.{taken_none, taken_more, written_none, written_more, rest_of, ended}
use Rattle.wf_report.proofs.NextPackets.{packet_of, packet_first, stops}
use Rattle.wf_report.proofs.PacketParts.{part_listed, part_told}

-- ---- packets in front
abbrev pub with_packets : List Captured → Listing → Listing
with_packets packets l = record { packets = packets ++ l.packets; fault = l.fault }

packets_more : (packets : List Captured) (p : Captured) (l : Listing) →
    with_packets packets (with_packet p l) ≡ with_packets (packets ++ p ∷ []) l
packets_more packets p l = ap (λ (ps : List Captured). let r : Listing =
    record { packets = ps; fault = l.fault } in r) (sym (append_assoc packets (p ∷ []) l.packets))

lines-append : (xs ys : List Captured) → packet_lines (xs ++ ys) ≡ packet_lines xs ++ packet_lines ys
lines-append [] ys = refl
lines-append (x ∷ xs) ys = ap (λ l. packet_line x ++ l) (lines-append xs ys)
    ∙ sym (append_assoc (packet_line x) (packet_lines xs) (packet_lines ys))

lines-one : (packets : List Captured) (p : Captured) →
    packet_lines (packets ++ p ∷ []) ≡ packet_lines packets ++ packet_line p
lines-one packets p = sym (flat_map_more packet_line [] packets p)

-- The text begins with their lines.
text_with : (packets : List Captured) (l : Listing) →
    IsFrontOf (packet_lines packets) (listing_text (with_packets packets l))
text_with packets l = (
  packet_lines l.packets ++ last_line (length (packets ++ l.packets)) l.fault,
  ap (λ t. t ++ last_line (length (packets ++ l.packets)) l.fault) (lines-append packets l.packets)
      ∙ append_assoc (packet_lines packets) (packet_lines l.packets)
      (last_line (length (packets ++ l.packets)) l.fault),
)

-- ---- `count` packets were read, and their lines were written
pub record Begun (form : Form) (place count : ℕ)
    (left left_now held held_now : Option (List ℕ)) : Type 0 where
  pub taken : List ℕ
  pub packets : List Captured
  pub took : left ≡ prepend_known taken left_now
  pub many : length packets ≡ count
  pub same : (more : List ℕ) → behind_head form (taken ++ more)
      ≡ with_packets packets (packets_from form (place + length more) (count + 1) (from_each form 0 more))
  pub wrote : held_now ≡ append_known held (packet_lines packets)

pub begun_none : (form : Form) (left held : Option (List ℕ)) → Begun form 24 0 left left held held
begun_none form left held = record {
  taken = [];
  packets = [];
  took = taken_none left;
  many = refl;
  same =
      λ more. refl;
  wrote = written_none held;
}

-- The list of the complete input after more octets were read.
listed_on : (form : Form) (place count : ℕ) (left left_now left_new held held_now : Option (List ℕ))
    (b : Begun form place count left left_now held held_now) (octets more : List ℕ) →
    behind_head form (b.taken ++ octets ++ more) ≡ with_packets b.packets
    (packets_from form (place + length (octets ++ more)) (count + 1) (from_each form 0 (octets ++ more)))
listed_on form place count left left_now left_new held held_now b octets more =
    ap (behind_head form) (append_assoc b.taken octets more) ∙ b.same (octets ++ more)

-- A packet, from its header and the buffer.
abbrev pub packet_as : Packet → List ℕ → Captured
packet_as p body = record { header = p; octets = take p.captured body }

as_read : (form : Form) (p : Packet) (body octets : List ℕ) → p ≡ packet_in form octets →
    take p.captured body ≡ drop 16 octets → packet_of form octets ≡ packet_as p body
as_read form p body octets header same =
    ap (λ (h : Packet). let r : Captured = record { header = h; octets = drop 16 octets } in r) (sym header)
    ∙ ap (λ (l : List ℕ). let r : Captured = record { header = p; octets = l } in r) (sym same)

-- After one more packet.
pub begun_more : (form : Form) (place count : ℕ)
    (left left_now left_new held held_now held_new : Option (List ℕ)) (p : Packet) (body octets : List ℕ) →
    Begun form place count left left_now held held_now → left_now ≡ prepend_known octets left_new →
    SaysPacket form place (Ok (next.Packet p)) body left_new octets →
    held_new ≡ append_known held_now (packet_line (packet_as p body)) → (later : ℕ) →
    later ≡ place + length octets → Begun form later (count + 1) left left_new held held_new
begun_more form place count left left_now left_new held held_now held_new p body octets b took says wrote
    later is =
    let one = as_read form p body octets says.1 says.3 in
    record {
      taken = b.taken ++ octets;
      packets = b.packets ++ packet_of form octets ∷ [];
      took = taken_more b.taken octets left left_now left_new b.took took;
      many = omega (arith, length-append b.packets (packet_of form octets ∷ []), b.many);
      same = λ more. listed_on form place count left left_now left_new held held_now b octets more
          ∙ ap (with_packets b.packets) (packet_first form place (count + 1) octets more says.0 says.2)
          ∙ packets_more b.packets (packet_of form octets)
          (packets_from form (place + length (octets ++ more)) (count + 1 + 1) (from_each form 0 more))
          ∙ ap (λ total. with_packets (b.packets ++ packet_of form octets ∷ [])
          (packets_from form total (count + 1 + 1) (from_each form 0 more)))
          (omega (arith, length-append octets more, is));
      wrote = written_more (packet_lines b.packets)
          (packet_line (packet_as p body)) held held_now held_new b.wrote wrote
          ∙ ap (append_known held) (ap (λ (q : Captured). packet_lines b.packets ++ packet_line q) (sym one)
          ∙ sym (lines-one b.packets (packet_of form octets)));
    }

-- ---- the ends of a run
-- Octets were read and octets were written, and this is the outcome for them.
abbrev pub Ends : Form → Status → Option (List ℕ) → Option (List ℕ) → Option (List ℕ) → Option (List ℕ) →
    Type 0
Ends form status left left_new held held_new = (taken written : List ℕ) ×
    (left ≡ prepend_known taken left_new) × (held_new ≡ append_known held written)
    × ((input : List ℕ) → left ≡ Some input → OutcomeOf (behind_head form) status input taken written)

-- The list of the input.
all_listed : (form : Form) (place count : ℕ) (left left_now left_new held held_now : Option (List ℕ))
    (b : Begun form place count left left_now held held_now) (octets : List ℕ) →
    left_now ≡ prepend_known octets left_new → (input : List ℕ) → left ≡ Some input →
    (more : List ℕ) × (left_new ≡ Some more) × (input ≡ b.taken ++ octets ++ more)
    × (behind_head form input ≡ with_packets b.packets
    (packets_from form (place + length (octets ++ more)) (count + 1) (from_each form 0 (octets ++ more))))
all_listed form place count left left_now left_new held held_now b octets took input told =
    let rest = rest_of (b.taken ++ octets) left left_new input told
    (taken_more b.taken octets left left_now left_new b.took took) in (
      rest.0,
      rest.1,
      rest.2,
      ap (behind_head form) rest.2
          ∙ listed_on form place count left left_now left_new held held_now b octets rest.0,
    )

pub ends_read : (form : Form) (place count : ℕ) (left left_now left_new held held_now : Option (List ℕ))
    (octets : List ℕ) →
    Begun form place count left left_now held held_now → left_now ≡ prepend_known octets left_new →
    IsPart form place octets → Ends form ReadFault left left_new held held_now
ends_read form place count left left_now left_new held held_now octets b took part = (
  b.taken ++ octets,
  packet_lines b.packets,
  taken_more b.taken octets left left_now left_new b.took took,
  b.wrote,
  λ input told. let all = all_listed form place count left left_now left_new held held_now b octets took input
      told in
      let l = packets_from form (place + length (octets ++ all.0)) (count + 1)
      (from_each form 0 (octets ++ all.0)) in
      let front = text_with b.packets l in (
        sym (ap (λ (r : Listing). packet_lines r.packets) (b.same octets)
            ∙ ap packet_lines (ap (λ (ps : List Captured). b.packets ++ ps)
            (part_listed form place (count + 1) octets part) ∙ append-nil b.packets)),
        λ fault each. part_told form place (count + 1) octets part fault
            (sym (ap (λ (r : Listing). r.fault) (b.same octets))
            ∙ ap (λ t. let r : Listing = behind_head form t in r.fault)
            (sym (append-nil (b.taken ++ octets))) ∙ each [])
            (sym (ap (λ (r : Listing). r.fault) (listed_on form place count left left_now left_new held
            held_now b octets part.more)) ∙ each part.more),
        (front.0, ap listing_text all.3 ∙ front.1),
      ),
)

-- The line of the item that was found.
abbrev pub line_at : ℕ → List ℕ → Next → List ℕ
line_at count body (next.Packet p) = packet_line (packet_as p body)
line_at count body (next.Bad kind) = capture_fault_line (record { packet = count + 1; kind = kind })
line_at count body next.Over = count_line count

-- The end of the list, if the capture ends.
abbrev pub Final : Next → ℕ → Option Fault → Type 0
Final (next.Packet p) count fault = ⊥
Final (next.Bad kind) count fault = fault ≡ Some (record { packet = count + 1; kind = kind })
Final next.Over count fault = fault ≡ None

pub final : (form : Form) (place count : ℕ) (left left_now left_new held held_now : Option (List ℕ))
    (found : Next) (fault : Option Fault) (body octets : List ℕ)
    (b : Begun form place count left left_now held held_now) → left_now ≡ prepend_known octets left_new →
    SaysPacket form place (Ok found) body left_new octets → Final found count fault →
    (input : List ℕ) → left ≡ Some input → behind_head form input
    ≡ record { packets = b.packets; fault = fault }
final form place count left left_now left_new held held_now
    (next.Packet p) fault body octets b took says is input told = absurd is
final form place count left left_now left_new held held_now
    (next.Bad kind) fault body octets b took says is input told =
    let all = all_listed form place count left left_now left_new held held_now b octets took input told in
    all.3 ∙ ap (with_packets b.packets) (stops form place (count + 1) kind left_new octets all.0 says all.1)
    ∙ ap (λ (ps : List Captured). let r : Listing =
    record { packets = ps; fault = Some (record { packet = count + 1; kind = kind }) } in r)
    (append-nil b.packets)
    ∙ ap (λ (f : Option Fault). let r : Listing = record { packets = b.packets; fault = f } in r) (sym is)
final form place count left left_now left_new held held_now next.Over fault body octets b took says is input
    told =
    let all = all_listed form place count left left_now left_new held held_now b octets took input told in
    let none : octets ++ all.0 ≡ [] = ap (λ l. l ++ all.0) says.0 ∙ ended left_new all.0 says.1 all.1 in
    all.3 ∙ ap (λ l. with_packets b.packets (packets_from form (place + length l) (count + 1)
    (from_each form 0 l))) none
    ∙ ap (λ (ps : List Captured). let r : Listing = record { packets = ps; fault = None } in r)
    (append-nil b.packets)
    ∙ ap (λ (f : Option Fault). let r : Listing = record { packets = b.packets; fault = f } in r) (sym is)

final_text : (packets : List Captured) (count : ℕ) (fault : Option Fault) (found : Next) (body : List ℕ) →
    length packets ≡ count → Final found count fault →
    listing_text (record { packets = packets; fault = fault }) ≡ packet_lines packets
    ++ line_at count body found
final_text packets count fault (next.Packet p) body many is = absurd is
final_text packets count fault (next.Bad kind) body many is =
    ap (λ (f : Option Fault). packet_lines packets ++ last_line (length packets) f) is
final_text packets count fault next.Over body many is =
    ap (λ (f : Option Fault). packet_lines packets ++ last_line (length packets) f) is
    ∙ ap (λ n. packet_lines packets ++ count_line n) many

-- The text goes on with the line of the item that was found.
text_on : (form : Form) (place count : ℕ) (left left_now left_new held held_now : Option (List ℕ))
    (found : Next) (body octets : List ℕ)
    (b : Begun form place count left left_now held held_now) → left_now ≡ prepend_known octets left_new →
    SaysPacket form place (Ok found) body left_new octets →
    (input : List ℕ) → left ≡ Some input → IsFrontOf (packet_lines b.packets ++ line_at count body found)
    (listing_text (behind_head form input))
text_on form place count left left_now left_new held held_now
    (next.Packet p) body octets b took says input told =
    let all = all_listed form place count left left_now left_new held held_now b octets took input told in
    let others = packets_from form (place + length (octets ++ all.0)) (count + 1 + 1)
    (from_each form 0 all.0) in
    let is : behind_head form input ≡ with_packets (b.packets ++ packet_of form octets ∷ []) others
    = all.3 ∙ ap (with_packets b.packets) (packet_first form place (count + 1) octets all.0 says.0 says.2)
    ∙ packets_more b.packets (packet_of form octets) others in
    let front = text_with (b.packets ++ packet_of form octets ∷ []) others in
    let line : packet_lines (b.packets ++ packet_of form octets ∷ []) ≡ packet_lines b.packets
    ++ packet_line (packet_as p body)
    = lines-one b.packets (packet_of form octets)
    ∙ ap (λ (q : Captured). packet_lines b.packets ++ packet_line q)
    (as_read form p body octets says.1 says.3) in
    (front.0, ap listing_text is ∙ front.1 ∙ ap (λ l. l ++ front.0) line)
text_on form place count left left_now left_new held held_now
    (next.Bad kind) body octets b took says input told =
    let fault : Option Fault = Some (record { packet = count + 1; kind = kind }) in
    let is = final form place count left left_now left_new held held_now
    (next.Bad kind) fault body octets b took says refl input told in (
      [],
      ap listing_text is ∙ final_text b.packets count fault (next.Bad kind) body b.many refl
          ∙ sym (append-nil (packet_lines b.packets ++ line_at count body (next.Bad kind))),
    )
text_on form place count left left_now left_new held held_now next.Over body octets b took says input told =
    let is = final form place count left left_now left_new held held_now next.Over None body octets b took
    says refl input told in (
      [],
      ap listing_text is ∙ final_text b.packets count None next.Over body b.many refl
          ∙ sym (append-nil (packet_lines b.packets ++ line_at count body next.Over)),
    )

-- The sink failed within that line.
pub ends_write : (form : Form) (place count : ℕ)
    (left left_now left_new held held_now held_new : Option (List ℕ)) (found : Next) (body octets : List ℕ) →
    Begun form place count left left_now held held_now → left_now ≡ prepend_known octets left_new →
    SaysPacket form place (Ok found) body left_new octets →
    (n : ℕ) × (n ≤ length (line_at count body found)) ×
    (held_new ≡ append_known held_now (take n (line_at count body found))) →
    Ends form WriteFault left left_new held held_new
ends_write form place count left left_now left_new held held_now held_new found body octets b took says some =
    let line = line_at count body found in (
      b.taken ++ octets,
      packet_lines b.packets ++ take some.0 line,
      taken_more b.taken octets left left_now left_new b.took took,
      written_more (packet_lines b.packets) (take some.0 line) held held_now held_new b.wrote some.2,
      λ input told. let front = text_on form place count left left_now left_new held held_now found body
          octets b took says input told in (
            drop some.0 line ++ front.0,
            front.1 ∙ ap (λ l. packet_lines b.packets ++ l ++ front.0) (sym (take-append-drop some.0 line))
                ∙ ap (λ l. l ++ front.0) (sym (append_assoc (packet_lines b.packets) (take some.0 line)
                (drop some.0 line)))
                ∙ append_assoc (packet_lines b.packets ++ take some.0 line) (drop some.0 line) front.0,
          ),
    )

-- The last line was written.
pub ends_done : (form : Form) (place count : ℕ)
    (left left_now left_new held held_now held_new : Option (List ℕ)) (body octets : List ℕ) →
    Begun form place count left left_now held held_now → left_now ≡ prepend_known octets left_new →
    SaysPacket form place (Ok next.Over) body left_new octets →
    held_new ≡ append_known held_now (count_line count) → Ends form Done left left_new held held_new
ends_done form place count left left_now left_new held held_now held_new body octets b took says wrote = (
  b.taken ++ octets,
  packet_lines b.packets ++ count_line count,
  taken_more b.taken octets left left_now left_new b.took took,
  written_more (packet_lines b.packets) (count_line count) held held_now held_new b.wrote wrote,
  λ input told. let all = all_listed form place count left left_now left_new held held_now b octets took input
      told in
      let is = final form place count left left_now left_new held held_now next.Over None body octets b took
      says refl input told in (
        ap (λ (l : Listing). l.fault) is,
        sym (all.2 ∙ ap (λ l. b.taken ++ octets ++ l) (ended left_new all.0 says.1 all.1)
            ∙ append-nil (b.taken ++ octets)),
        sym (ap listing_text is ∙ final_text b.packets count None next.Over body b.many refl),
      ),
)

pub ends_bad : (form : Form) (place count : ℕ)
    (left left_now left_new held held_now held_new : Option (List ℕ)) (kind : FaultKind)
    (body octets : List ℕ) →
    Begun form place count left left_now held held_now → left_now ≡ prepend_known octets left_new →
    SaysPacket form place (Ok (next.Bad kind)) body left_new octets →
    held_new ≡ append_known held_now (capture_fault_line (record { packet = count + 1; kind = kind })) →
    Ends form BadTrace left left_new held held_new
ends_bad form place count left left_now left_new held held_now held_new kind body octets b took says wrote =
    let fault : Fault = record { packet = count + 1; kind = kind } in (
      b.taken ++ octets,
      packet_lines b.packets ++ capture_fault_line fault,
      taken_more b.taken octets left left_now left_new b.took took,
      written_more (packet_lines b.packets) (capture_fault_line fault) held held_now held_new b.wrote wrote,
      λ input told. let is = final form place count left left_now left_new held held_now (next.Bad kind)
          (Some fault) body octets b took says refl input told in (
            fault,
            ap (λ (l : Listing). l.fault) is,
            sym (ap listing_text is ∙ final_text b.packets count (Some fault)
                (next.Bad kind) body b.many refl),
          ),
    )
