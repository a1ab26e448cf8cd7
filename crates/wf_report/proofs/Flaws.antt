-- Proves which fault a packet has, if any, by the places at which the packet and the input end.
use Rattle.std.proofs.Common.{◌≡◌, inl, inr, ℕ, ◌+◌, ◌-◌, ◌<◌, ◌≤◌, ◌&&◌, Bool, true, false, cond, List, [], ◌++◌, length, refl, sym, ◌∙◌, ap, subst, arith, append-nil, length-append}
use Rattle.std.proofs.lemmas.List.{length-replicate}
use Rattle.std.specs.Prelude.{Option, Some, None, Result, Ok, Err, IsErr, MatchResult, nat_lt, replicate}
use Rattle.std.specs.Io.KnownBytes.{IsAtEnd}
use Rattle.std.proofs.lemmas.Bool.Decides.{nat_tests}
use Rattle.wf_io.specs.declared.source.Failed.{Failed}
use Rattle.wf_io.specs.declared.pcap.reading.Form.{Form}
use Rattle.wf_io.specs.declared.pcap.reading.PcapFault.{PcapFault}
use Rattle.wf_io.specs.declared.pcap.reading.PcapFault.TheVariants as pcap
use Rattle.wf_io.specs.CaptureFaults.{packet_fault}
use Rattle.wf_report.specs.declared.captures.listing.fault.FaultKind.{FaultKind}
use Rattle.wf_report.specs.declared.captures.listing.fault.FaultKind.TheVariants.{Short, TooBig}
use Rattle.wf_report.specs.declared.captures.listing.reader.Next.{Next}
use Rattle.wf_report.specs.ListedPackets.{captured_in, packet_size, small_flaw, packet_flaw, kind_of, most_octets_read}
use Rattle.wf_report.specs.ListingReading.{IsPart, IsFlawed, SaysPacket, GoesPast, captured_of}
use Rattle.wf_report.proofs.TakenOctets.{ended}
use Rattle.wf_report.proofs.Heads.{not_below, captured_front, packet_fault_front}

pub below : (n k : ℕ) → n < k → nat_lt n k ≡ true
below n k less = grind arith

pick_both : {A : Type 0} (b c : Bool) (x y : A) → b ≡ true → c ≡ true → cond (b && c) x y ≡ x
pick_both b c x y p q = rw (p, q) refl

pick_not_first : {A : Type 0} (b c : Bool) (x y : A) → b ≡ false → cond (b && c) x y ≡ y
pick_not_first b c x y p = rw (p) refl

pick_not_second : {A : Type 0} (b c : Bool) (x y : A) → c ≡ false → cond (b && c) x y ≡ y
pick_not_second true c x y p = rw (p) refl
pick_not_second false c x y p = refl

-- ---- by the ends of the packet and the input
pub flaw_big : (form : Form) (place : ℕ) (octets : List ℕ) → most_octets_read < place + length octets →
    most_octets_read < place + packet_size form octets →
    packet_flaw form (place + length octets) octets ≡ Some TooBig
flaw_big form place octets input packet =
    pick_both (nat_lt most_octets_read (place + length octets))
    (nat_lt most_octets_read (place + length octets - length octets + packet_size form octets))
    (Some TooBig) (small_flaw form octets (packet_fault form octets))
    (below most_octets_read (place + length octets) input)
    (below most_octets_read (place + length octets - length octets + packet_size form octets)
    (omega arith))

pub flaw_ends : (form : Form) (place : ℕ) (octets : List ℕ) → place + length octets ≤ most_octets_read →
    packet_flaw form (place + length octets) octets ≡ small_flaw form octets (packet_fault form octets)
flaw_ends form place octets input =
    pick_not_first (nat_lt most_octets_read (place + length octets))
    (nat_lt most_octets_read (place + length octets - length octets + packet_size form octets))
    (Some TooBig) (small_flaw form octets (packet_fault form octets))
    (not_below (place + length octets) most_octets_read input)

pub flaw_fits : (form : Form) (place : ℕ) (octets : List ℕ) →
    place + packet_size form octets ≤ most_octets_read →
    packet_flaw form (place + length octets) octets ≡ small_flaw form octets (packet_fault form octets)
flaw_fits form place octets packet =
    pick_not_second (nat_lt most_octets_read (place + length octets))
    (nat_lt most_octets_read (place + length octets - length octets + packet_size form octets))
    (Some TooBig) (small_flaw form octets (packet_fault form octets))
    (not_below (place + length octets - length octets + packet_size form octets) most_octets_read
    (omega arith))

-- ---- after a complete header
pub size_behind : (form : Form) (head more : List ℕ) → 16 ≤ length head →
    packet_size form (head ++ more) ≡ 16 + captured_in form head
size_behind form head more fits =
    ap (λ (b : Bool). cond b 16 (16 + captured_in form (head ++ more)))
    (not_below 16 (length (head ++ more)) (omega (arith, length-append head more)))
    ∙ ap (λ n. 16 + n) (captured_front form head more fits)

-- A header is refused only for its captured length.
pub long_only : (form : Form) (head : List ℕ) (fault : PcapFault) → 16 ≤ length head →
    Some fault ≡ packet_fault form head → captured_of fault ≡ captured_in form head
long_only form head fault fits is =
    by_test (nat_lt 262144 (captured_in form head))
    (is ∙ ap (λ (b : Bool). cond b (Some (pcap.Short 16 (length head)))
    (cond (nat_lt 262144 (captured_in form head)) (Some (pcap.Long (captured_in form head))) None))
    (not_below 16 (length head) fits))
  where
    by_test : (b : Bool) → Some fault ≡ cond b (Some (pcap.Long (captured_in form head))) None →
        captured_of fault ≡ captured_in form head
    by_test true same = ap captured_of (let e : fault ≡ pcap.Long (captured_in form head) = cc in e)
    by_test false same = absurd (cc)

-- The input ends inside the captured octets.
pub small_short : (form : Form) (head octets : List ℕ) → 16 ≤ length head → None ≡ packet_fault form head →
    length (head ++ octets) < 16 + captured_in form head →
    small_flaw form (head ++ octets) (packet_fault form (head ++ octets)) ≡ Some Short
small_short form head octets fits sound ends =
    ap (small_flaw form (head ++ octets)) (packet_fault_front form head octets fits ∙ sym sound)
    ∙ ap (λ (b : Bool). let f : Option FaultKind = cond b (Some Short) None in f)
    (below (length (head ++ octets)) (packet_size form (head ++ octets))
    (omega (arith, size_behind form head octets fits, ends)))

pub small_fault : (form : Form) (head octets : List ℕ) (fault : PcapFault) → 16 ≤ length head →
    Some fault ≡ packet_fault form head →
    small_flaw form (head ++ octets) (packet_fault form (head ++ octets)) ≡ Some (kind_of fault)
small_fault form head octets fault fits is = ap (small_flaw form (head ++ octets))
    (packet_fault_front form head octets fits ∙ sym is)

small_none : (form : Form) (head octets : List ℕ) → 16 ≤ length head → None ≡ packet_fault form head →
    16 + captured_in form head ≤ length (head ++ octets) →
    small_flaw form (head ++ octets) (packet_fault form (head ++ octets)) ≡ None
small_none form head octets fits sound ends =
    ap (small_flaw form (head ++ octets)) (packet_fault_front form head octets fits ∙ sym sound)
    ∙ ap (λ (b : Bool). let f : Option FaultKind = cond b (Some Short) None in f)
    (not_below (packet_size form (head ++ octets)) (length (head ++ octets))
    (omega (arith, size_behind form head octets fits, ends)))

-- A complete packet that fits has no fault, whatever follows it.
pub sound_flaw : (form : Form) (place : ℕ) (octets more : List ℕ) → 16 ≤ length octets →
    None ≡ packet_fault form octets → 16 + captured_in form octets ≤ length octets →
    place + 16 + captured_in form octets ≤ most_octets_read →
    packet_flaw form (place + length (octets ++ more)) (octets ++ more) ≡ None
sound_flaw form place octets more fits sound whole few =
    flaw_fits form place (octets ++ more) (omega (arith, size_behind form octets more fits, few))
    ∙ small_none form octets more fits sound (omega (arith, length-append octets more, whole))

-- ---- an incomplete packet

-- n octets.
unfoldable padding : ℕ → List ℕ
padding n = replicate n 0

padding_length : (n : ℕ) → length (padding n) ≡ n
unfolding padding
padding_length n = length-replicate n 0

-- A packet with enough octets is not short.
long_not_short : (form : Form) (octets : List ℕ) → 16 ≤ length octets →
    packet_size form octets ≤ length octets → small_flaw form octets (packet_fault form octets) ≡ Some Short →
    ⊥
long_not_short form octets fits whole is =
    by_test (nat_lt 262144 (captured_in form octets))
    (sym (ap (λ (b : Bool). small_flaw form octets
    (cond b (Some (pcap.Short 16 (length octets)))
    (cond (nat_lt 262144 (captured_in form octets)) (Some (pcap.Long (captured_in form octets))) None)))
    (not_below 16 (length octets) fits)) ∙ is)
  where
    by_test : (b : Bool) → small_flaw form octets (cond b (Some (pcap.Long (captured_in form octets))) None)
        ≡ Some Short → ⊥
    by_test true same = absurd (cc)
    by_test false same =
        let none : None ≡ Some Short = sym (ap (λ (b : Bool). let f : Option FaultKind =
        cond b (Some Short) None in f) (not_below (packet_size form octets) (length octets) whole))
        ∙ same in
        absurd (cc)

pub big_not_short : (form : Form) (place : ℕ) (octets : List ℕ) → most_octets_read < length octets →
    packet_flaw form (place + length octets) octets ≡ Some Short → ⊥
big_not_short form place octets many is = by_size
    (nat_lt most_octets_read (place + packet_size form octets)) refl
  where
    by_size : (b : Bool) → nat_lt most_octets_read (place + packet_size form octets) ≡ b → ⊥
    by_size true big = let e : Some TooBig ≡ Some Short =
        sym (flaw_big form place octets (omega (arith, many)) (grind (arith, nat_tests))) ∙ is in absurd (cc)
    by_size false fits =
        let small : place + packet_size form octets ≤ most_octets_read = grind (arith, nat_tests) in
        long_not_short form octets (omega (arith, many)) (omega (arith, many, small))
        (sym (flaw_fits form place octets small) ∙ is)

-- A packet that is short so far may have another fault with more octets.
part_short : (form : Form) (place : ℕ) (octets : List ℕ) → place + length octets ≤ most_octets_read →
    small_flaw form octets (packet_fault form octets) ≡ Some Short → IsPart form place octets
part_short form place octets few small = record {
  kind = Short;
  now = flaw_ends form place octets few ∙ small;
  more = padding (most_octets_read + 1);
  later = λ is. big_not_short form place (octets ++ padding (most_octets_read + 1))
      (omega (
        arith,
        length-append octets (padding (most_octets_read + 1)),
        padding_length (most_octets_read + 1),
      )) is;
}

short_head : (form : Form) (octets : List ℕ) → length octets < 16 →
    small_flaw form octets (packet_fault form octets) ≡ Some Short
short_head form octets less =
    ap (λ (b : Bool). small_flaw form octets (cond b (Some (pcap.Short 16 (length octets)))
    (cond (nat_lt 262144 (captured_in form octets)) (Some (pcap.Long (captured_in form octets))) None)))
    (below (length octets) 16 less)

-- The source failed inside a header.
pub part_head : (form : Form) (place : ℕ) (octets : List ℕ) → length octets < 16 →
    place + length octets ≤ most_octets_read → IsPart form place octets
part_head form place octets less few = part_short form place octets few (short_head form octets less)

-- The source failed inside the captured octets.
pub part_body : (form : Form) (place : ℕ) (head octets : List ℕ) → 16 ≤ length head →
    None ≡ packet_fault form head → place + length (head ++ octets) ≤ most_octets_read →
    length (head ++ octets) < 16 + captured_in form head → IsPart form place (head ++ octets)
part_body form place head octets fits sound few ends =
    part_short form place (head ++ octets) few (small_short form head octets fits sound ends)

-- The source failed before the end of the octets that are read, and the packet goes beyond them.
pub part_past : (form : Form) (place : ℕ) (kind : FaultKind) (head octets : List ℕ) → 16 ≡ length head →
    most_octets_read < place + 16 + captured_in form head →
    (place + length (head ++ octets) ≤ most_octets_read →
    small_flaw form (head ++ octets) (packet_fault form (head ++ octets)) ≡ Some kind) →
    (kind ≡ TooBig → ⊥) → place + 16 + length octets ≤ most_octets_read → IsPart form place (head ++ octets)
part_past form place kind head octets fits packet small other few =
    let size : length (head ++ octets) ≡ 16 + length octets = omega (arith, length-append head octets) in
    let ends : place + length (head ++ octets) ≤ most_octets_read = omega (arith, size, few) in
    let more = padding (most_octets_read + 1) in record {
      kind = kind;
      now = flaw_ends form place (head ++ octets) ends ∙ small ends;
      more = more;
      later = λ is. other
          (let e : Some kind ≡ Some TooBig =
          sym is ∙ flaw_big form place (head ++ octets ++ more)
          (omega (arith, length-append (head ++ octets) more, padding_length (most_octets_read + 1)))
          (omega (
            arith,
            packet,
            size_behind form (head ++ octets) more
                (omega (arith, length-append head octets)),
            captured_front form head octets (omega arith),
          )) in
          let same : kind ≡ TooBig = cc in same);
    }

-- A call that fails has read such an incomplete packet.
pub fails_inside : (form : Form) (place : ℕ) (result : Result Next Failed) (body octets : List ℕ)
    (left : Option (List ℕ)) → IsErr result → IsPart form place octets →
    SaysPacket form place result body left octets
fails_inside form place (Ok found) body octets left fails part = absurd (cc)
fails_inside form place (Err failed) body octets left fails part = part

-- No check of a header has the fault `TooBig`.
pub kind_not_big : (fault : PcapFault) → kind_of fault ≡ TooBig → ⊥
kind_not_big (pcap.Short need have) is = absurd (cc)
kind_not_big pcap.Magic is = absurd (cc)
kind_not_big (pcap.Version major minor) is = absurd (cc)
kind_not_big (pcap.Link kind) is = absurd (cc)
kind_not_big (pcap.Long captured) is = absurd (cc)

pub short_not_big : Short ≡ TooBig → ⊥
short_not_big is = absurd (cc)

-- ---- the result of a call that found a fault
-- At the end of the input.
at_end : (form : Form) (place : ℕ) (kind : FaultKind) (left : Option (List ℕ)) (octets : List ℕ) →
    0 < length octets → IsAtEnd left → packet_flaw form (place + length octets) octets ≡ Some kind →
    IsFlawed form place kind left octets
at_end form place kind left octets some over is = (
  some,
  λ more told. subst (λ l. packet_flaw form (place + length l) l ≡ Some kind)
      (sym (ap (λ m. octets ++ m) (ended left more over told) ∙ append-nil octets)) is,
)

-- The input and the packet go beyond the octets that are read.
pub flawed_big : (form : Form) (place : ℕ) (left : Option (List ℕ)) (head octets : List ℕ) →
    16 ≤ length head → most_octets_read < place + 16 + captured_in form head →
    most_octets_read < place + length (head ++ octets) → IsFlawed form place TooBig left (head ++ octets)
flawed_big form place left head octets fits packet input = (
  omega (arith, length-append head octets),
  λ more told. flaw_big form place (head ++ octets ++ more)
      (omega (arith, length-append (head ++ octets) more))
      (omega (
        arith,
        packet,
        size_behind form (head ++ octets) more
            (omega (arith, length-append head octets)),
        captured_front form head octets fits,
      )),
)

-- The input ends before.
pub flawed_end : (form : Form) (place : ℕ) (kind : FaultKind) (left : Option (List ℕ))
    (head octets : List ℕ) → 16 ≤ length head → IsAtEnd left →
    place + length (head ++ octets) ≤ most_octets_read →
    small_flaw form (head ++ octets) (packet_fault form (head ++ octets)) ≡ Some kind →
    IsFlawed form place kind left (head ++ octets)
flawed_end form place kind left head octets fits over few small =
    at_end form place kind left (head ++ octets) (omega (arith, length-append head octets)) over
    (flaw_ends form place (head ++ octets) few ∙ small)

-- The header is refused, and the packet fits.
pub flawed_head : (form : Form) (place : ℕ) (left : Option (List ℕ)) (head : List ℕ) (fault : PcapFault) →
    16 ≤ length head → Some fault ≡ packet_fault form head →
    place + 16 + captured_in form head ≤ most_octets_read →
    IsFlawed form place (kind_of fault) left (head ++ [])
flawed_head form place left head fault fits is few = (
  omega (arith, length-append head []),
  λ more told. subst (λ l. packet_flaw form (place + length (l ++ more)) (l ++ more) ≡ Some (kind_of fault))
      (sym (append-nil head))
      (flaw_fits form place (head ++ more) (omega (arith, size_behind form head more fits, few))
      ∙ small_fault form head more fault fits is),
)

-- The packet goes beyond the octets that are read.
pub past : (form : Form) (place : ℕ) (kind : FaultKind) (head octets body : List ℕ) (left : Option (List ℕ))
    (result : Result Next Failed) → 16 ≡ length head → most_octets_read < place + 16 + captured_in form head →
    (place + length (head ++ octets) ≤ most_octets_read →
    small_flaw form (head ++ octets) (packet_fault form (head ++ octets)) ≡ Some kind) →
    (kind ≡ TooBig → ⊥) → MatchResult result (λ n. GoesPast (place + 16) kind n left octets)
    (λ failed. place + 16 + length octets ≤ most_octets_read) →
    SaysPacket form place result body left (head ++ octets)
past form place kind head octets body left (Err failed) fits packet small other goes =
    part_past form place kind head octets fits packet small other goes
past form place kind head octets body left (Ok found) fits packet small other goes =
    let size : length (head ++ octets) ≡ 16 + length octets = omega (arith, length-append head octets) in
    elim goes [
      | inl big ↦ subst (λ (n : Next). SaysPacket form place (Ok n) body left (head ++ octets)) (sym big.0)
          (flawed_big form place left head octets (omega arith) packet (omega (arith, size, big.1)))
      | inr end ↦ subst (λ (n : Next). SaysPacket form place (Ok n) body left (head ++ octets)) (sym end.0)
          (flawed_end form place kind left head octets (omega arith) end.2 (omega (arith, size, end.1))
          (small (omega (arith, size, end.1))))
    ]

-- A header that is not refused.
pub captured_most : (form : Form) (head : List ℕ) → 16 ≤ length head → None ≡ packet_fault form head →
    captured_in form head ≤ 262144
captured_most form head fits sound =
    by_test (nat_lt 262144 (captured_in form head)) refl
    (sound ∙ ap (λ (b : Bool). cond b (Some (pcap.Short 16 (length head)))
    (cond (nat_lt 262144 (captured_in form head)) (Some (pcap.Long (captured_in form head))) None))
    (not_below 16 (length head) fits))
  where
    by_test : (b : Bool) → nat_lt 262144 (captured_in form head) ≡ b →
        None ≡ cond b (Some (pcap.Long (captured_in form head))) None → captured_in form head ≤ 262144
    by_test true is same = absurd (cc)
    by_test false is same = grind (arith, nat_tests)
