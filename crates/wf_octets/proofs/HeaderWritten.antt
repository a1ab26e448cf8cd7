-- Proves that the octets of a plain header, with free bits 0, begin with that header.
use Rattle.std.proofs.Common.{◌≡◌, ℕ, ◌+◌, ◌*◌, ◌%◌, ◌<◌, ◌≤◌, ◌==◌, Bool, true, false, List, [], ◌∷◌, ◌++◌, length, take, get_or, refl, sym, ◌∙◌, ap, subst, arith, MatchBool, length-take, if◌then◌else◌}
use Rattle.wf_octets.proofs.Places.{front_octet, front_number, front_part, six}
use Rattle.std.proofs.lemmas.Bool.{both_ways}
use Rattle.std.specs.Int.{bit_at}
use Rattle.wf_octets.specs.Fields.{is_set, number_at, part, two_octets}
use Rattle.wf_octets.specs.declared.header.header.Kind.{Kind}
use Rattle.wf_octets.specs.declared.header.header.Kind.TheVariants.{QosData, QosNull, PsPoll, Ack, BlockAckReq, BlockAck}
use Rattle.wf_octets.specs.declared.header.header.Header.{Header}
use Rattle.wf_octets.specs.HeaderLayout.{first_octet, size_of, is_qos, has_address_2, no_address, HasQosFields, HasShortFields, BeginsWithHeader, IsPlainQos, IsPlainShort, IsPlain, bit_of, flags_octet, qos_octet}

-- ---- the three layouts
abbrev pub ack : ℕ → ℕ → ℕ → List ℕ → List ℕ
ack o f d a1 = (o ∷ f ∷ []) ++ two_octets d ++ a1

abbrev pub short : ℕ → ℕ → ℕ → List ℕ → List ℕ → List ℕ
short o f d a1 a2 = (o ∷ f ∷ []) ++ two_octets d ++ a1 ++ a2

abbrev pub qos : ℕ → ℕ → ℕ → List ℕ → List ℕ → List ℕ → ℕ → ℕ → List ℕ
qos o f d a1 a2 a3 s t = (o ∷ f ∷ []) ++ two_octets d ++ a1 ++ a2 ++ a3 ++ two_octets s ++ (t ∷ 0 ∷ [])

-- the size of the QoS layout
pub qos_long : (o f d : ℕ) (a1 a2 a3 : List ℕ) (s t : ℕ) → length a1 ≡ 6 → length a2 ≡ 6 → length a3 ≡ 6 →
    length (qos o f d a1 a2 a3 s t) ≡ 26
qos_long o f d a1 a2 a3 s t l1 l2 l3 = six (λ a1. length (qos o f d a1 a2 a3 s t) ≡ 26)
    (λ a b c x y z. let b1 : List ℕ = a ∷ b ∷ c ∷ x ∷ y ∷ z ∷ [] in
    six (λ a2. length (qos o f d b1 a2 a3 s t) ≡ 26)
    (λ a' b' c' x' y' z'. let b2 : List ℕ = a' ∷ b' ∷ c' ∷ x' ∷ y' ∷ z' ∷ [] in
    six (λ a3. length (qos o f d b1 b2 a3 s t) ≡ 26) (λ a'' b'' c'' x'' y'' z''. refl) a3 l3) a2 l2) a1 l1

record IsRead (xs : List ℕ) (n o f d : ℕ) (a1 : List ℕ) : Type 0 where
  long : length xs ≡ n
  first : get_or xs 0 0 ≡ o
  second : get_or xs 1 0 ≡ f
  duration : number_at xs 2 ≡ d
  address_1 : part xs 4 6 ≡ a1

ack_read : (o f d : ℕ) (a1 : List ℕ) → number_at (two_octets d) 0 ≡ d → length a1 ≡ 6 →
    IsRead (ack o f d a1) 10 o f d a1
ack_read o f d a1 small = six (λ a1. IsRead (ack o f d a1) 10 o f d a1)
    (λ a b c x y z. record { long = refl; first = refl; second = refl; duration = small; address_1 = refl })
    a1

short_read : (o f d : ℕ) (a1 a2 : List ℕ) → number_at (two_octets d) 0 ≡ d → length a1 ≡ 6 → length a2 ≡ 6 →
    IsRead (short o f d a1 a2) 16 o f d a1 × (part (short o f d a1 a2) 10 6 ≡ a2)
short_read o f d a1 a2 small l1 l2 = six (λ a1. IsRead (short o f d a1 a2) 16 o f d a1 ×
    (part (short o f d a1 a2) 10 6 ≡ a2))
    (λ a b c x y z. six (λ a2. IsRead (short o f d (a ∷ b ∷ c ∷ x ∷ y ∷ z ∷ []) a2) 16 o f d
    (a ∷ b ∷ c ∷ x ∷ y ∷ z ∷ []) × (part (short o f d (a ∷ b ∷ c ∷ x ∷ y ∷ z ∷ []) a2) 10 6 ≡ a2))
    (λ a' b' c' x' y' z'. (
      record {
        long = refl;
        first = refl;
        second = refl;
        duration = small;
        address_1 =
            refl;
      },
      refl,
    )) a2 l2) a1 l1

qos_read : (o f d : ℕ) (a1 a2 a3 : List ℕ) (s t : ℕ) → number_at (two_octets d) 0 ≡ d →
    number_at (two_octets s) 0 ≡ s → length a1 ≡ 6 → length a2 ≡ 6 → length a3 ≡ 6
    → IsRead (qos o f d a1 a2 a3 s t) 26 o f d a1 × (part (qos o f d a1 a2 a3 s t) 10 6 ≡ a2) ×
    (part (qos o f d a1 a2 a3 s t) 16 6 ≡ a3) × (number_at (qos o f d a1 a2 a3 s t) 22 ≡ s) ×
    (get_or (qos o f d a1 a2 a3 s t) 24 0 ≡ t)
qos_read o f d a1 a2 a3 s t small seq_small l1 l2 l3 =
    six (λ a1. IsRead (qos o f d a1 a2 a3 s t) 26 o f d a1 × (part (qos o f d a1 a2 a3 s t) 10 6 ≡ a2) ×
    (part (qos o f d a1 a2 a3 s t) 16 6 ≡ a3) × (number_at (qos o f d a1 a2 a3 s t) 22 ≡ s) ×
    (get_or (qos o f d a1 a2 a3 s t) 24 0 ≡ t))
    (λ a b c x y z. let b1 : List ℕ = a ∷ b ∷ c ∷ x ∷ y ∷ z ∷ [] in
    six (λ a2. IsRead (qos o f d b1 a2 a3 s t) 26 o f d b1 × (part (qos o f d b1 a2 a3 s t) 10 6 ≡ a2) ×
    (part (qos o f d b1 a2 a3 s t) 16 6 ≡ a3) × (number_at (qos o f d b1 a2 a3 s t) 22 ≡ s) ×
    (get_or (qos o f d b1 a2 a3 s t) 24 0 ≡ t))
    (λ a' b' c' x' y' z'. let b2 : List ℕ = a' ∷ b' ∷ c' ∷ x' ∷ y' ∷ z' ∷ [] in
    six (λ a3. IsRead (qos o f d b1 b2 a3 s t) 26 o f d b1 × (part (qos o f d b1 b2 a3 s t) 10 6 ≡ b2) ×
    (part (qos o f d b1 b2 a3 s t) 16 6 ≡ a3) × (number_at (qos o f d b1 b2 a3 s t) 22 ≡ s) ×
    (get_or (qos o f d b1 b2 a3 s t) 24 0 ≡ t))
    (λ a'' b'' c'' x'' y'' z''. (
      record {
        long = refl;
        first = refl;
        second = refl;
        duration = small;
        address_1 = refl;
      },
      refl,
      refl,
      seq_small,
      refl,
    ))
    a3 l3) a2 l2) a1 l1

-- ---- the flags
set_from : (x k : ℕ) (b : Bool) → bit_at x k ≡ bit_of b → is_set x k ≡ b
set_from x k true e = ap (λ n. n == 1) e
set_from x k false e = ap (λ n. n == 1) e

bit_small : (b : Bool) → bit_of b ≤ 1
bit_small true = omega arith
bit_small false = omega arith

record Flags (f : ℕ) (to from retry power more : Bool) : Type 0 where
  to_ds : is_set f 0 ≡ to
  from_ds : is_set f 1 ≡ from
  more_fragments : is_set f 2 ≡ false
  retry_is : is_set f 3 ≡ retry
  power_is : is_set f 4 ≡ power
  more_is : is_set f 5 ≡ more
  protected : is_set f 6 ≡ false
  order : is_set f 7 ≡ false

flags_read : (f : ℕ) (to from retry power more : Bool) →
    f ≡ bit_of to + 2 * bit_of from + 8 * bit_of retry + 16 * bit_of power + 32 * bit_of more →
    Flags f to from retry power more
flags_read f to from retry power more is =
    let s0 = bit_small to in let s1 = bit_small from in let s3 = bit_small retry in
    let s4 = bit_small power in let s5 = bit_small more in
    record {
      to_ds = set_from f 0 to (omega (arith, s0, s1, s3, s4, s5));
      from_ds = set_from f 1 from (omega (arith, s0, s1, s3, s4, s5));
      more_fragments = set_from f 2 false (omega (arith, s0, s1, s3, s4, s5));
      retry_is = set_from f 3 retry (omega (arith, s0, s1, s3, s4, s5));
      power_is = set_from f 4 power (omega (arith, s0, s1, s3, s4, s5));
      more_is = set_from f 5 more (omega (arith, s0, s1, s3, s4, s5));
      protected = set_from f 6 false (omega (arith, s0, s1, s3, s4, s5));
      order = set_from f 7 false (omega (arith, s0, s1, s3, s4, s5));
    }

-- ---- the first octet of QoS Control
record Control (q t : ℕ) (eosp : Bool) : Type 0 where
  tid : q % 16 ≡ t
  eosp_is : is_set q 4 ≡ eosp
  a_msdu : is_set q 7 ≡ false

control_read : (q t : ℕ) (eosp : Bool) → q ≡ t + 16 * bit_of eosp → t < 16 → Control q t eosp
control_read q t eosp is small =
    let s = bit_small eosp in
    record {
      tid = omega (arith, is, small);
      eosp_is = set_from q 4 eosp (omega (arith, s));
      a_msdu = set_from q 7 false (omega (arith, s));
    }

-- ---- the sizes
pub size_of-qos : (k : Kind) → is_qos k ≡ true → size_of k ≡ 26
size_of-qos QosData e = refl
size_of-qos QosNull e = refl
size_of-qos PsPoll e = absurd (both_ways false refl e)
size_of-qos Ack e = absurd (both_ways false refl e)
size_of-qos BlockAckReq e = absurd (both_ways false refl e)
size_of-qos BlockAck e = absurd (both_ways false refl e)

pub size_of-short : (k : Kind) → is_qos k ≡ false → has_address_2 k ≡ true → size_of k ≡ 16
size_of-short QosData e f = absurd (both_ways true e refl)
size_of-short QosNull e f = absurd (both_ways true e refl)
size_of-short PsPoll e f = refl
size_of-short Ack e f = absurd (both_ways false refl f)
size_of-short BlockAckReq e f = refl
size_of-short BlockAck e f = refl

pub ack_alone : (k : Kind) → has_address_2 k ≡ false → (is_qos k ≡ false) × (size_of k ≡ 10)
ack_alone QosData e = absurd (both_ways true e refl)
ack_alone QosNull e = absurd (both_ways true e refl)
ack_alone PsPoll e = absurd (both_ways true e refl)
ack_alone Ack e = (refl, refl)
ack_alone BlockAckReq e = absurd (both_ways true e refl)
ack_alone BlockAck e = absurd (both_ways true e refl)

-- ---- the octets begin with the header
record IsBegun (xs : List ℕ) (h : Header) : Type 0 where
  long : size_of h.kind ≤ length xs
  first : get_or xs 0 0 ≡ first_octet h.kind
  duration : number_at xs 2 ≡ h.duration
  address_1 : part xs 4 6 ≡ h.a1

begun : (xs ys : List ℕ) (h : Header) (n m f : ℕ) → size_of h.kind ≡ n → n ≡ 10 + m → take n xs ≡ ys →
    IsRead ys n (first_octet h.kind) f h.duration h.a1 → IsBegun xs h
begun xs ys h n m f size is same r = record {
  long = omega (arith, length-take n xs, ap length same, r.long);
  first = front_octet xs ys n 0 same (omega arith) ∙ r.first;
  duration = front_number xs ys n 2 same (omega arith) ∙ r.duration;
  address_1 = front_part xs ys n 4 6 m same (omega arith) ∙ r.address_1;
}

whole : (xs : List ℕ) (h : Header) → IsBegun xs h →
    MatchBool (is_qos h.kind) (HasQosFields xs h) (HasShortFields xs h) → BeginsWithHeader xs h
whole xs h b others = record {
  long = b.long;
  first = b.first;
  duration = b.duration;
  address_1 = b.address_1;
  others = others;
}

pub qos_begins : (xs : List ℕ) (h : Header) → is_qos h.kind ≡ true → size_of h.kind ≡ 26 → IsPlain h →
    number_at (two_octets h.duration) 0 ≡ h.duration → number_at (two_octets (16 * h.seq)) 0 ≡ 16 * h.seq →
    length h.a1 ≡ 6 → length h.a2 ≡ 6 → length h.a3 ≡ 6
    → take 26 xs
    ≡ qos (first_octet h.kind) (flags_octet h) h.duration h.a1 h.a2 h.a3 (16 * h.seq) (qos_octet h) →
    BeginsWithHeader xs h
qos_begins xs h is_data size plain d s l1 l2 l3 same =
    whole xs h (begun xs ys h 26 16 (flags_octet h) size refl same r.0)
    (subst (λ b. MatchBool b (HasQosFields xs h) (HasShortFields xs h)) (sym is_data) fields)
  where
    ys : List ℕ
    ys = qos (first_octet h.kind) (flags_octet h) h.duration h.a1 h.a2 h.a3 (16 * h.seq) (qos_octet h)

    r : IsRead ys 26 (first_octet h.kind) (flags_octet h) h.duration h.a1 × (part ys 10 6 ≡ h.a2) ×
        (part ys 16 6 ≡ h.a3) × (number_at ys 22 ≡ 16 * h.seq) × (get_or ys 24 0 ≡ qos_octet h)
    r = qos_read (first_octet h.kind) (flags_octet h) h.duration h.a1 h.a2 h.a3
        (16 * h.seq) (qos_octet h) d s l1 l2 l3

    kept : IsPlainQos h
    kept = subst (λ b. MatchBool b (IsPlainQos h) (IsPlainShort h)) is_data plain

    flags : Flags (get_or xs 1 0) h.to_ds h.from_ds h.retry h.power h.more
    flags = flags_read (get_or xs 1 0) h.to_ds h.from_ds h.retry h.power h.more
        (front_octet xs ys 26 1 same (omega arith) ∙ r.0.second)

    control : Control (get_or xs 24 0) h.tid h.eosp
    control = control_read (get_or xs 24 0) h.tid h.eosp
        (front_octet xs ys 26 24 same (omega arith) ∙ r.4) kept.tid

    fields : HasQosFields xs h
    fields = record {
      to_ds = flags.to_ds;
      from_ds = flags.from_ds;
      more_fragments = flags.more_fragments;
      retry = flags.retry_is;
      power = flags.power_is;
      more = flags.more_is;
      protected = flags.protected;
      order = flags.order;
      not_both = kept.not_both;
      address_2 = front_part xs ys 26 10 6 10 same refl ∙ r.1;
      address_3 = front_part xs ys 26 16 6 4 same refl ∙ r.2;
      sequence = front_number xs ys 26 22 same (omega arith) ∙ r.3;
      tid = control.tid;
      eosp = control.eosp_is;
      a_msdu = control.a_msdu;
    }

pub short_begins : (xs : List ℕ) (h : Header) → is_qos h.kind ≡ false → has_address_2 h.kind ≡ true →
    size_of h.kind ≡ 16 → IsPlain h → number_at (two_octets h.duration) 0 ≡ h.duration → length h.a1 ≡ 6 →
    length h.a2 ≡ 6
    → take 16 xs ≡ short (first_octet h.kind) (flags_octet h) h.duration h.a1 h.a2 → BeginsWithHeader xs h
short_begins xs h is_short has size plain d l1 l2 same =
    whole xs h (begun xs ys h 16 6 (flags_octet h) size refl same r.0)
    (subst (λ b. MatchBool b (HasQosFields xs h) (HasShortFields xs h)) (sym is_short) fields)
  where
    ys : List ℕ
    ys = short (first_octet h.kind) (flags_octet h) h.duration h.a1 h.a2

    r : IsRead ys 16 (first_octet h.kind) (flags_octet h) h.duration h.a1 × (part ys 10 6 ≡ h.a2)
    r = short_read (first_octet h.kind) (flags_octet h) h.duration h.a1 h.a2 d l1 l2

    kept : IsPlainShort h
    kept = subst (λ b. MatchBool b (IsPlainQos h) (IsPlainShort h)) is_short plain

    fields : HasShortFields xs h
    fields = record {
      flags = kept.flags;
      address_2 = sym (front_part xs ys 16 10 6 0 same refl ∙ r.1)
          ∙ ap (λ b. if b then part xs 10 6 else no_address) (sym has);
      address_3 = kept.address_3;
      sequence = kept.sequence;
      tid = kept.tid;
    }

pub ack_begins : (xs : List ℕ) (h : Header) → is_qos h.kind ≡ false → has_address_2 h.kind ≡ false →
    size_of h.kind ≡ 10 → IsPlain h → number_at (two_octets h.duration) 0 ≡ h.duration → length h.a1 ≡ 6
    → take 10 xs ≡ ack (first_octet h.kind) (flags_octet h) h.duration h.a1 → BeginsWithHeader xs h
ack_begins xs h is_short has size plain d l1 same =
    whole xs h (begun xs ys h 10 0 (flags_octet h) size refl same
    (ack_read (first_octet h.kind) (flags_octet h) h.duration h.a1 d l1))
    (subst (λ b. MatchBool b (HasQosFields xs h) (HasShortFields xs h)) (sym is_short) fields)
  where
    ys : List ℕ
    ys = ack (first_octet h.kind) (flags_octet h) h.duration h.a1

    kept : IsPlainShort h
    kept = subst (λ b. MatchBool b (IsPlainQos h) (IsPlainShort h)) is_short plain

    fields : HasShortFields xs h
    fields = record {
      flags = kept.flags;
      address_2 = subst (λ b. MatchBool b (Unit {0}) (h.a2 ≡ no_address)) has kept.address_2
          ∙ ap (λ b. if b then part xs 10 6 else no_address) (sym has);
      address_3 = kept.address_3;
      sequence = kept.sequence;
      tid = kept.tid;
    }
