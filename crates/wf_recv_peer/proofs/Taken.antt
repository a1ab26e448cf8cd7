-- Proves that each frame for the station passes all checks, one check after the other.
use Rattle.std.proofs.Common.{◌≡◌, refl, sym, ℕ, ◌*◌, ◌/◌, ◌%◌, ◌<◌, ◌≤◌, ◌==◌, nat_lt, ◌&&◌, ◌||◌, not, Bool, true, false, List, [], ◌∷◌, length, Option, Some, None, ap, ap₂, subst, ◌∙◌, if◌then◌else◌, MatchBool, arith}
use Rattle.std.specs.Prelude.{slice_index}
use Rattle.std.specs.Str.{bytes_eq}
use Rattle.std.specs.Option.{option_map, option_or}
use Rattle.std.proofs.lemmas.Bool.{lt-ltb, le-ltb}
use Rattle.std.proofs.lemmas.Slice.Eq.{bytes_eq-Decides}
use Rattle.wf_octets.specs.Fields.{is_set, number_at, part}
use Rattle.wf_octets.specs.HeaderLayout.{flags_at, address_1_at, address_2_at, sequence_at, qos_at, address_octets, first_octet, size_of, is_qos, BeginsWithHeader, HasQosFields, HasShortFields}
use Rattle.wf_octets.specs.HeaderFaults.{is_malformed, first_header_fault as first_header_fault}
use Rattle.wf_octets.specs.declared.header.header.Kind.TheVariants.{QosData, BlockAckReq}
use Rattle.wf_octets.specs.declared.header.decoding.HeaderFault.TheVariants.{Short, Form}
use Rattle.wf_octets.specs.BlockLayout.{request, IsBar}
use Rattle.wf_octets.specs.BlockFaults.{first_block_fault as first_block_fault}
use Rattle.wf_octets.specs.declared.header.header.Kind.{Kind as KindOf}
use Rattle.wf_octets.specs.declared.header.header.Header.{Header as HeaderOf}
use Rattle.wf_octets.specs.declared.block.frames.Bar.{Bar}
use Rattle.wf_recv_peer.specs.declared.fault.PeerFault.{PeerFault}
use Rattle.wf_recv_peer.specs.declared.fault.PeerFault.TheVariants.{Header, Kind, Block, NotMine, Tid}
use Rattle.wf_recv_peer.specs.declared.reading.Reading.TheVariants.{Data, Request}
use Rattle.wf_recv_peer.specs.Frames.{IsDataFor, IsRequestFor}
use Rattle.wf_recv_peer.specs.Receiving.{tid_read, peer_header_fault, peer_kind_fault, block_fault, peer_address_fault, peer_tid_fault, first_peer_fault}
use Rattle.wf_recv_peer.specs.Plain.{PlainPeerValue, is_repeat, last_passed, repeats_last, data_tid, data_number, retry_of, data_kind_fault, data_tid_fault, first_data_fault}

-- a check that passes leads to the next one
passes : {X : Type 0} (b : Bool) (fault : X) (rest : Option X) → b ≡ false → rest ≡ None →
    (if b then Some fault else rest) ≡ None
passes true fault rest e none = absurd (cc)
passes false fault rest e none = none

-- equal addresses compare as equal
equal : (xs ys : List ℕ) → xs ≡ ys → bytes_eq xs ys ≡ true
equal xs ys same = (bytes_eq-Decides xs ys).1 same

-- the addresses of a frame from the access point to the station
addresses_pass : (own base octets : List ℕ) → part octets address_1_at address_octets ≡ own →
    part octets address_2_at address_octets ≡ base → peer_address_fault own base octets ≡ None
addresses_pass own base octets to from =
    ap (λ b. if b && bytes_eq (part octets address_2_at address_octets) base then None else Some NotMine)
    (equal (part octets address_1_at address_octets) own to)
    ∙ ap (λ b. if b then None else Some NotMine) (equal (part octets address_2_at address_octets) base from)

-- no check fails
none_fails : (own base octets : List ℕ) → peer_header_fault octets ≡ None → peer_kind_fault octets ≡ None →
    block_fault octets ≡ None → peer_address_fault own base octets ≡ None → peer_tid_fault octets ≡ None →
    first_peer_fault own base octets ≡ None
none_fails own base octets header kind block address tid =
    ap (λ f. option_or f (option_or (peer_kind_fault octets) (option_or (block_fault octets)
    (option_or (peer_address_fault own base octets) (peer_tid_fault octets))))) header
    ∙ (ap (λ f. option_or f (option_or (block_fault octets)
    (option_or (peer_address_fault own base octets) (peer_tid_fault octets)))) kind
    ∙ (ap (λ f. option_or f (option_or (peer_address_fault own base octets) (peer_tid_fault octets))) block
    ∙ (ap (λ f. option_or f (peer_tid_fault octets)) address ∙ tid)))

-- ---- data

-- the fields of a data frame, and its first octet
qos_fields : (octets : List ℕ) (h : HeaderOf) → BeginsWithHeader octets h → h.kind ≡ QosData →
    HasQosFields octets h
qos_fields octets h layout kind = subst (λ (k : KindOf). MatchBool (is_qos k) (HasQosFields octets h)
    (HasShortFields octets h)) kind layout.others

data_kind : (octets : List ℕ) → slice_index octets 0 ≡ first_octet QosData → peer_kind_fault octets ≡ None
data_kind octets first =
    ap (λ n. if (n == first_octet QosData) || (n == first_octet BlockAckReq) then None
    else Some (Kind n)) first

data_block : (octets : List ℕ) → slice_index octets 0 ≡ first_octet QosData → block_fault octets ≡ None
data_block octets first =
    ap (λ n. if n == first_octet BlockAckReq then option_map Block (first_block_fault 20 request false octets)
    else None) first

-- the fault of a TID
abbrev tid_of : ℕ → Option PeerFault
tid_of tid = if nat_lt tid 8 then None else Some (Tid tid)

tid_fine : (tid : ℕ) → tid < 8 → tid_of tid ≡ None
tid_fine tid low = ap (λ b. if b then None else Some (Tid tid)) (lt-ltb tid 8 low)

data_tid_fine : (octets : List ℕ) (h : HeaderOf) → slice_index octets 0 ≡ first_octet QosData →
    slice_index octets qos_at % 16 ≡ h.tid → h.tid < 8 → peer_tid_fault octets ≡ None
data_tid_fine octets h first tid low =
    ap (λ n. tid_of (tid_read (if n == first_octet QosData
    then Data (slice_index octets qos_at % 16) (number_at octets sequence_at / 16)
    else Request (slice_index octets 17 / 16) (number_at octets 18 / 16)))) first
    ∙ (ap tid_of tid ∙ tid_fine h.tid low)

-- the first octet of a data frame, and enough octets
header_of_data : (os : List ℕ) → 25 ≤ length os → is_malformed (0x88 ∷ os) ≡ false →
    first_header_fault (0x88 ∷ os) ≡ None
header_of_data os long fine =
    let L : ℕ = length (0x88 ∷ os) in
    passes (nat_lt L 2) (Short 2 L) _ (le-ltb L 2 (omega (arith, long)))
    (passes (nat_lt L 26) (Short 26 L) _ (le-ltb L 26 (omega (arith, long)))
    (passes (is_malformed (0x88 ∷ os)) Form None fine refl))

data_header : (octets : List ℕ) → slice_index octets 0 ≡ first_octet QosData → 26 ≤ length octets →
    is_malformed octets ≡ false → first_header_fault octets ≡ None
data_header [] first long fine = absurd (omega arith)
data_header (o ∷ os) first long fine =
    subst (λ n. first_header_fault (n ∷ os) ≡ None) (sym first)
    (header_of_data os (omega (arith, long)) (subst (λ n. is_malformed (n ∷ os) ≡ false) first fine))

neither : (a b : Bool) → a ≡ false → b ≡ false → (a || b) ≡ false
neither true b e f = absurd (cc)
neither false b e f = f

-- a number whose last four bits are 0
no_fragment : (n k : ℕ) → n ≡ 16 * k → not (n % 16 == 0) ≡ false
no_fragment n k is =
    let none : n % 16 ≡ 0 = omega (arith, is) in
    ap (λ r. not (r == 0)) none

data_well_formed : (octets : List ℕ) (h : HeaderOf) → HasQosFields octets h → is_malformed octets ≡ false
data_well_formed octets h qos =
    let f : ℕ = slice_index octets flags_at in
    let not_both : (is_set f 0 && is_set f 1) ≡ false =
    ap (λ b. b && is_set f 1) qos.to_ds ∙ (ap (λ b. h.to_ds && b) qos.from_ds ∙ qos.not_both) in
    neither _ _ (neither _ _ (neither _ _ (neither _ _ (neither _ _ not_both qos.more_fragments)
    qos.protected) qos.order) (no_fragment (number_at octets sequence_at) h.seq qos.sequence)) qos.a_msdu

pub data_passes : (own base octets : List ℕ) (h : HeaderOf) → IsDataFor own base octets h →
    first_peer_fault own base octets ≡ None
data_passes own base octets h is =
    let qos : HasQosFields octets h = qos_fields octets h is.layout is.kind in
    let first : slice_index octets 0 ≡ first_octet QosData = is.layout.first ∙ ap first_octet is.kind in
    let long : 26 ≤ length octets = subst (λ k. size_of k ≤ length octets) is.kind is.layout.long in
    none_fails own base octets
    (ap (option_map Header) (data_header octets first long (data_well_formed octets h qos)))
    (data_kind octets first) (data_block octets first)
    (addresses_pass own base octets (is.layout.address_1 ∙ is.recipient) (qos.address_2 ∙ is.transmitter))
    (data_tid_fine octets h first qos.tid is.tid)

-- ---- data for a TID without an agreement

-- no check fails, and the octets have the header's fields
pub record IsDataRead (own base octets : List ℕ) (h : HeaderOf) : Type 0 where
  pub none : first_data_fault own base octets ≡ None
  pub tid : data_tid octets ≡ h.tid
  pub number : data_number octets ≡ h.seq
  pub retry : retry_of octets ≡ h.retry

single_kind : (octets : List ℕ) → slice_index octets 0 ≡ first_octet QosData → data_kind_fault octets ≡ None
single_kind octets first = ap (λ n. if n == first_octet QosData then None else Some (Kind n)) first

-- the repeat that the octets and the header define
pub same_repeat : (octets : List ℕ) (h : HeaderOf) (p : PlainPeerValue) → data_tid octets ≡ h.tid →
    data_number octets ≡ h.seq → retry_of octets ≡ h.retry →
    repeats_last octets p ≡ is_repeat (last_passed p h.tid) h.retry h.seq
same_repeat octets h p tid number retry =
    ap₂ (λ t b. is_repeat (last_passed p t) b (data_number octets)) tid retry
    ∙ ap (is_repeat (last_passed p h.tid) h.retry) number

number_of : (n k : ℕ) → n ≡ 16 * k → n / 16 ≡ k
number_of n k is = omega (arith, is)

pub data_read : (own base octets : List ℕ) (h : HeaderOf) → IsDataFor own base octets h →
    IsDataRead own base octets h
data_read own base octets h is =
    let qos : HasQosFields octets h = qos_fields octets h is.layout is.kind in
    let first : slice_index octets 0 ≡ first_octet QosData = is.layout.first ∙ ap first_octet is.kind in
    let long : 26 ≤ length octets = subst (λ k. size_of k ≤ length octets) is.kind is.layout.long in
    record {
      none = ap (λ f. option_or f (option_or (data_kind_fault octets)
          (option_or (peer_address_fault own base octets) (data_tid_fault octets))))
          (ap (option_map Header) (data_header octets first long (data_well_formed octets h qos)))
          ∙ (ap (λ f. option_or f (option_or (peer_address_fault own base octets) (data_tid_fault octets)))
          (single_kind octets first)
          ∙ (ap (λ f. option_or f (data_tid_fault octets))
          (addresses_pass own base octets (is.layout.address_1 ∙ is.recipient)
          (qos.address_2 ∙ is.transmitter))
          ∙ (ap tid_of qos.tid ∙ tid_fine h.tid is.tid)));
      tid = qos.tid;
      number = number_of (number_at octets sequence_at) h.seq qos.sequence;
      retry = qos.retry;
    }

-- ---- a request

header_of_request : (os : List ℕ) → 15 ≤ length os → first_header_fault (0x84 ∷ os) ≡ None
header_of_request os long =
    let L : ℕ = length (0x84 ∷ os) in
    passes (nat_lt L 2) (Short 2 L) _ (le-ltb L 2 (omega (arith, long)))
    (passes (nat_lt L 16) (Short 16 L) _ (le-ltb L 16 (omega (arith, long))) refl)

request_header : (octets : List ℕ) → slice_index octets 0 ≡ request → length octets ≡ 20 →
    first_header_fault octets ≡ None
request_header [] first long = absurd (omega (arith, long))
request_header (o ∷ os) first long =
    subst (λ n. first_header_fault (n ∷ os) ≡ None) (sym first) (header_of_request os (omega (arith, long)))

request_kind : (octets : List ℕ) → slice_index octets 0 ≡ request → peer_kind_fault octets ≡ None
request_kind octets first =
    ap (λ n. if (n == first_octet QosData) || (n == first_octet BlockAckReq) then None
    else Some (Kind n)) first

bar_passes : (octets : List ℕ) (b : Bar) → IsBar octets b → first_block_fault 20 request false octets ≡ None
bar_passes octets b is =
    passes _ _ _ (ap (λ n. not (n == 20)) is.size)
    (passes _ _ _ (ap (λ n. not (n == request)) is.head.kind)
    (passes _ _ _ (ap not is.head.compressed)
    (passes _ _ _ is.head.one_tid
    (passes _ _ _ (no_fragment (number_at octets 18) b.start (omega (arith, is.head.start))) refl))))

request_block : (octets : List ℕ) (b : Bar) → IsBar octets b → block_fault octets ≡ None
request_block octets b is =
    ap (λ n. if n == first_octet BlockAckReq then option_map Block (first_block_fault 20 request false octets)
    else None) is.head.kind
    ∙ ap (option_map Block) (bar_passes octets b is)

request_tid : (octets : List ℕ) (b : Bar) → IsBar octets b → b.tid < 8 → peer_tid_fault octets ≡ None
request_tid octets b is low =
    ap (λ n. tid_of (tid_read (if n == first_octet QosData
    then Data (slice_index octets qos_at % 16) (number_at octets sequence_at / 16)
    else Request (slice_index octets 17 / 16) (number_at octets 18 / 16)))) is.head.kind
    ∙ (ap tid_of is.head.tid ∙ tid_fine b.tid low)

pub request_passes : (own base octets : List ℕ) (b : Bar) → IsRequestFor own base octets b →
    first_peer_fault own base octets ≡ None
request_passes own base octets b is =
    let bar : IsBar octets b = is.layout in
    none_fails own base octets
    (ap (option_map Header) (request_header octets bar.head.kind bar.size))
    (request_kind octets bar.head.kind) (request_block octets b bar)
    (addresses_pass own base octets (bar.head.recipient ∙ is.recipient)
    (bar.head.transmitter ∙ is.transmitter)) (request_tid octets b bar is.tid)
