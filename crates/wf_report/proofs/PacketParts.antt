-- Proves that no fault follows from octets that end inside a packet or inside the file header.
use Rattle.std.proofs.Common.{◌≡◌, ℕ, ◌+◌, ◌-◌, ◌<◌, ◌≤◌, Bool, true, false, cond, List, [], ◌∷◌, ◌++◌, length, refl, sym, ◌∙◌, ap, arith, length-append}
use Rattle.std.specs.Prelude.{Option, Some, None, not, ◌==◌, ◌&&◌, ◌%◌, replicate}
use Rattle.std.proofs.lemmas.List.{drop_all, length-replicate}
use Rattle.wf_io.specs.declared.pcap.reading.Form.{Form}
use Rattle.wf_io.specs.declared.pcap.reading.PcapFault.TheVariants as pcap
use Rattle.wf_io.specs.Capture.{number_in_order, link_of_frames}
use Rattle.wf_io.specs.CaptureFaults.{form_of, fault_past_magic}
use Rattle.wf_report.specs.declared.captures.listing.fault.Fault.{Fault}
use Rattle.wf_report.specs.declared.captures.listing.fault.FaultKind.{FaultKind}
use Rattle.wf_report.specs.declared.captures.listing.fault.FaultKind.TheVariants.{Short, Magic, Version, Link}
use Rattle.wf_report.specs.ListedPackets.{Listing, listing, listed, behind_head, captured_in, from_each, packet_at, packet_flaw, packets_from, stopped, judged}
use Rattle.wf_report.specs.ListingOutcome.{TellsNoFault}
use Rattle.wf_report.specs.ListingReading.{IsPart}
use Rattle.wf_report.proofs.Heads.{not_below}
use Rattle.wf_report.proofs.Flaws.{below}

abbrev short_header : Fault
short_header = record { packet = 0; kind = Short }

-- ---- an incomplete packet

-- It adds nothing to the list.
pub part_listed : (form : Form) (place number : ℕ) (octets : List ℕ) → IsPart form place octets →
    let l : Listing = packets_from form (place + length octets) number (from_each form 0 octets) in
    l.packets ≡ []
part_listed form place number [] part = refl
part_listed form place number (octet ∷ octets) part =
    let total = place + length (octet ∷ octets) in
    let after = from_each form (15 + captured_in form (octet ∷ octets)) octets in
    ap (λ (f : Option FaultKind). let l : Listing =
    judged f number (packet_at form (octet ∷ octets)) (packets_from form total (number + 1) after) in
    l.packets) part.now

-- A fault belongs to a packet from the number on.
later_fault : (form : Form) (total number : ℕ) (each : List (List ℕ)) (fault : Fault) →
    (let l : Listing = packets_from form total number each in l.fault ≡ Some fault) → number ≤ fault.packet
later_fault form total number [] fault is = absurd (cc)
later_fault form total number (octets ∷ others) fault is =
    by_flaw (packet_flaw form total octets) (later_fault form total (number + 1) others fault) is
  where
    by_flaw : (flaw : Option FaultKind) → ((let l : Listing = packets_from form total (number + 1) others in
        l.fault ≡ Some fault) → number + 1 ≤ fault.packet) →
        (let l : Listing = judged flaw number (packet_at form octets)
        (packets_from form total (number + 1) others) in l.fault ≡ Some fault) → number ≤ fault.packet
    by_flaw None later same = omega (arith, later same)
    by_flaw (Some kind) later same =
        let here : Fault = record { packet = number; kind = kind } in
        let e : here ≡ fault = cc in omega (arith, ap (λ (f : Fault). f.packet) e)

-- Its fault at the end of the input is not a fault with more octets.
pub part_told : (form : Form) (place number : ℕ) (octets : List ℕ) (part : IsPart form place octets)
    (fault : Fault) →
    (let l : Listing = packets_from form (place + length octets) number (from_each form 0 octets) in
    l.fault ≡ Some fault) →
    (let l : Listing = packets_from form (place + length (octets ++ part.more)) number
    (from_each form 0 (octets ++ part.more)) in l.fault ≡ Some fault) → ⊥
part_told form place number [] part fault now later = absurd (cc)
part_told form place number (octet ∷ octets) part fault now later =
    by_flaw (packet_flaw form total (octet ∷ (octets ++ part.more))) refl later
  where
    total : ℕ
    total = place + length (octet ∷ octets ++ part.more)

    here : Fault
    here = record { packet = number; kind = part.kind }

    first : here ≡ fault
    first =
        let others = packets_from form (place + length (octet ∷ octets)) (number + 1)
        (from_each form (15 + captured_in form (octet ∷ octets)) octets) in
        let e : Some here ≡ Some fault = sym (ap (λ (f : Option FaultKind). let l : Listing =
        judged f number (packet_at form (octet ∷ octets)) others in l.fault) part.now) ∙ now in
        let same : here ≡ fault = cc in same

    others_then : List (List ℕ)
    others_then = from_each form (15 + captured_in form (octet ∷ (octets ++ part.more))) (octets ++ part.more)

    by_flaw : (flaw : Option FaultKind) → packet_flaw form total (octet ∷ (octets ++ part.more)) ≡ flaw →
        (let l : Listing = judged flaw number (packet_at form (octet ∷ (octets ++ part.more)))
        (packets_from form total (number + 1) others_then) in l.fault ≡ Some fault) → ⊥
    by_flaw None is same = absurd (omega (
      arith,
      later_fault form total (number + 1) others_then fault same,
      ap (λ (f : Fault). f.packet) first,
    ))
    by_flaw (Some kind) is same =
        let there : Fault = record { packet = number; kind = kind } in
        let e : there ≡ fault = cc in
        part.later (is ∙ ap Some (ap (λ (f : Fault). f.kind) (e ∙ sym first)))

-- ---- an incomplete file header

-- It is short, and nothing is listed.
pub head_part : (octets : List ℕ) → length octets < 24 → listing octets ≡ stopped 0 Short
head_part octets less =
    ap (λ (b : Bool). listed octets (cond b (Some (pcap.Short 24 (length octets)))
    (fault_past_magic octets (form_of octets))) (form_of octets)) (below (length octets) 24 less)

-- A complete one is not short.
kind_told : (kind : FaultKind) → (let l : Listing = stopped 0 kind in l.fault ≡ Some short_header) →
    kind ≡ Short
kind_told kind is =
    let here : Fault = record { packet = 0; kind = kind } in
    let e : Some here ≡ Some short_header = is in
    let same : here ≡ short_header = cc in ap (λ (f : Fault). f.kind) same

magic_not_short : Magic ≡ Short → ⊥
magic_not_short is = absurd (cc)

link_not_short : Link ≡ Short → ⊥
link_not_short is = absurd (cc)

version_not_short : Version ≡ Short → ⊥
version_not_short is = absurd (cc)

past_not_short : (octets : List ℕ) (form : Option Form) → length octets ≡ 24 →
    (let l : Listing = listed octets (fault_past_magic octets form) form in l.fault ≡ Some short_header) → ⊥
past_not_short octets None size is = magic_not_short (kind_told Magic is)
past_not_short octets (Some form) size is =
    by_version (not (number_in_order form.big 2 octets 4 == 2 && number_in_order form.big 2 octets 6 == 4)) is
  where
    by_link : (b : Bool) →
        (let l : Listing = listed octets (cond b (Some (pcap.Link (number_in_order form.big 4 octets 20)))
        None) (Some form) in l.fault ≡ Some short_header) → ⊥
    by_link true same = link_not_short (kind_told Link same)
    by_link false same =
        let none : None ≡ Some short_header = sym (ap (λ t. let l : Listing = behind_head form t in l.fault)
        (drop_all 24 octets (omega (arith, size)))) ∙ same in
        absurd (cc)

    by_version : (b : Bool) →
        (let l : Listing = listed octets (cond b (Some
        (pcap.Version (number_in_order form.big 2 octets 4) (number_in_order form.big 2 octets 6)))
        (cond (not (number_in_order form.big 4 octets 20 % 65536 == link_of_frames))
        (Some (pcap.Link (number_in_order form.big 4 octets 20))) None)) (Some form) in
        l.fault ≡ Some short_header) → ⊥
    by_version true same = version_not_short (kind_told Version same)
    by_version false same = by_link (not (number_in_order form.big 4 octets 20 % 65536 == link_of_frames))
        same

whole_not_short : (octets : List ℕ) → length octets ≡ 24 →
    (let l : Listing = listing octets in l.fault ≡ Some short_header) → ⊥
whole_not_short octets size is =
    past_not_short octets (form_of octets) size
    (sym (ap (λ (b : Bool). let l : Listing = listed octets
    (cond b (Some (pcap.Short 24 (length octets))) (fault_past_magic octets (form_of octets)))
    (form_of octets) in l.fault) (not_below 24 (length octets) (omega (arith, size)))) ∙ is)

-- So no fault follows from it.
pub head_untold : (octets : List ℕ) → length octets < 24 → TellsNoFault listing octets
head_untold octets less = λ fault each.
    let zero_octet : ℕ = 0 in
    let more : List ℕ = replicate (24 - length octets) zero_octet in
    let e : Some short_header ≡ Some fault =
    sym (ap (λ (l : Listing). l.fault) (head_part (octets ++ [])
    (omega (arith, length-append octets [], less)))) ∙ each [] in
    let same : short_header ≡ fault = cc in
    whole_not_short (octets ++ more) (omega (
      arith,
      length-append octets more,
      length-replicate (24 - length octets) zero_octet,
      less,
    )) (each more ∙ ap Some (sym same))
