-- Proves what follows if all checks of a block frame pass, and that its octets can be read in only one way.
use Rattle.std.proofs.Common.{◌≡◌, ℕ, ◌+◌, ◌/◌, ◌%◌, ◌<◌, ◌≤◌, ◌==◌, ◌&&◌, not, Bool, true, false, List, length, take, drop, get_or, Option, Some, None, refl, sym, ◌∙◌, ap, arith, if◌then◌else◌, ◌++◌, take_all, length-take}
use Rattle.std.proofs.lemmas.Bool.{not-false, eqb-true}
use Rattle.std.proofs.Math.Seq.{drop-append_seam, take-append_seam}
use Rattle.wf_octets.specs.Fields.{is_set, number_at}
use Rattle.wf_octets.proofs.Places.{front_octet, front_number, front_part}
use Rattle.wf_octets.specs.declared.block.decoding.BlockFault.{BlockFault}
use Rattle.wf_octets.specs.declared.block.decoding.BlockFault.TheVariants.{Length, Kind, NotCompressed, MultiTid, Fragment, NotWide}
use Rattle.wf_octets.specs.declared.block.frames.Bar.{Bar}
use Rattle.wf_octets.specs.declared.block.frames.Ba.{Ba}
use Rattle.wf_octets.specs.declared.block.frames.WideBa.{WideBa}
use Rattle.wf_octets.specs.BlockLayout.{HasHead, narrow_fragment, fragment_of, head_of_ba, head_of_wide, head_in}
use Rattle.wf_octets.specs.BlockFaults.{first_block_fault}

-- ---- the checks
pub record IsChecked (need first : ℕ) (wide : Bool) (octets : List ℕ) : Type 0 where
  pub size : length octets ≡ need
  pub kind : get_or octets 0 0 ≡ first
  pub compressed : is_set (get_or octets 16 0) 2 ≡ true
  pub one_tid : is_set (get_or octets 16 0) 1 ≡ false
  pub fragment : number_at octets 18 % 16 ≡ fragment_of wide

passes : (b : Bool) (fault : BlockFault) (rest : Option BlockFault) →
    (if b then Some fault else rest) ≡ None → (b ≡ false) × (rest ≡ None)
passes true fault rest e = absurd (cc)
passes false fault rest e = (refl, e)

equal : (a b : ℕ) → not (a == b) ≡ false → a ≡ b
equal a b e = eqb-true a b (not-false (a == b) e)

pub checked : (need first : ℕ) (wide : Bool) (octets : List ℕ) →
    first_block_fault need first wide octets ≡ None → IsChecked need first wide octets
checked need first wide octets e =
    let p1 = passes (not (length octets == need)) (Length need (length octets)) _ e in
    let p2 = passes (not (get_or octets 0 0 == first)) (Kind (get_or octets 0 0)) _ p1.1 in
    let p3 = passes (not (is_set (get_or octets 16 0) 2)) NotCompressed _ p2.1 in
    let p4 = passes (is_set (get_or octets 16 0) 1) MultiTid _ p3.1 in
    let p5 = passes (wide && (number_at octets 18 % 16 == narrow_fragment)) NotWide _ p4.1 in
    let p6 = passes (not (number_at octets 18 % 16 == fragment_of wide)) (Fragment (number_at octets 18 % 16))
    None p5.1 in
    record {
      size = equal (length octets) need p1.0;
      kind = equal (get_or octets 0 0) first p2.0;
      compressed = not-false (is_set (get_or octets 16 0) 2) p3.0;
      one_tid = p4.0;
      fragment = equal (number_at octets 18 % 16) (fragment_of wide) p6.0;
    }

number_small : (octets : List ℕ) (i : ℕ) → ((i : ℕ) → get_or octets i 0 < 256) → number_at octets i < 65536
number_small octets i small = let a = small i in let b = small (i + 1) in omega arith

pub head_read : (need first : ℕ) (wide : Bool) (octets : List ℕ) → ((i : ℕ) → get_or octets i 0 < 256) →
    IsChecked need first wide octets → HasHead octets first (fragment_of wide) (head_in octets)
head_read need first wide octets small c = record {
  kind = c.kind;
  duration = refl;
  recipient = refl;
  transmitter = refl;
  compressed = c.compressed;
  one_tid = c.one_tid;
  tid = refl;
  start = omega (arith, c.fragment, number_small octets 18 small);
}

-- ---- only one reading
fragment_low : (wide : Bool) → fragment_of wide < 16
fragment_low true = omega arith
fragment_low false = omega arith

bar_same : (a b : Bar) → a.ra ≡ b.ra → a.ta ≡ b.ta → a.duration ≡ b.duration → a.tid ≡ b.tid →
    a.start ≡ b.start → a ≡ b
bar_same a b p q r s t i = record { ra = p i; ta = q i; duration = r i; tid = s i; start = t i }

pub one_head : (first : ℕ) (wide : Bool) (octets : List ℕ) (h : Bar) → ((i : ℕ) → get_or octets i 0 < 256) →
    HasHead octets first (fragment_of wide) h → head_in octets ≡ h
one_head first wide octets h small r = bar_same (head_in octets) h r.recipient r.transmitter r.duration r.tid
    (omega (arith, fragment_low wide, r.start, number_small octets 18 small))

pub ba_same : (b : Ba) (h : Bar) (bits : List ℕ) → h ≡ head_of_ba b → bits ≡ b.bits →
    record { ra = h.ra; ta = h.ta; duration = h.duration; tid = h.tid; start = h.start; bits = bits } ≡ b
ba_same b h bits p q i = record {
  ra = (p i).ra;
  ta = (p i).ta;
  duration = (p i).duration;
  tid = (p i).tid;
  start = (p i).start;
  bits = q i;
}

pub wide_same : (b : WideBa) (h : Bar) (bits : List ℕ) → h ≡ head_of_wide b → bits ≡ b.bits →
    record { ra = h.ra; ta = h.ta; duration = h.duration; tid = h.tid; start = h.start; bits = bits } ≡ b
wide_same b h bits p q i = record {
  ra = (p i).ra;
  ta = (p i).ta;
  duration = (p i).duration;
  tid = (p i).tid;
  start = (p i).start;
  bits = q i;
}

-- ---- a bitmap written after the head
pub head_kept : (xs ys : List ℕ) (first fragment : ℕ) (h : Bar) → take 20 ys ≡ take 20 xs →
    HasHead xs first fragment h → HasHead ys first fragment h
head_kept xs ys first fragment h same r = record {
  kind = octet 0 (omega arith) ∙ r.kind;
  duration = number 2 (omega arith) ∙ r.duration;
  recipient = front_part ys (take 20 xs) 20 4 6 10 same refl
      ∙ sym (front_part xs (take 20 xs) 20 4 6 10 refl refl) ∙ r.recipient;
  transmitter = front_part ys (take 20 xs) 20 10 6 4 same refl
      ∙ sym (front_part xs (take 20 xs) 20 10 6 4 refl refl) ∙ r.transmitter;
  compressed = ap (λ o. is_set o 2) (octet 16 (omega arith)) ∙ r.compressed;
  one_tid = ap (λ o. is_set o 1) (octet 16 (omega arith)) ∙ r.one_tid;
  tid = ap (λ o. o / 16) (octet 17 (omega arith)) ∙ r.tid;
  start = number 18 (omega arith) ∙ r.start;
}
  where
    octet : (i : ℕ) → i < 20 → get_or ys i 0 ≡ get_or xs i 0
    octet i below = front_octet ys (take 20 xs) 20 i same below
        ∙ sym (front_octet xs (take 20 xs) 20 i refl below)

    number : (i : ℕ) → i + 1 < 20 → number_at ys i ≡ number_at xs i
    number i below = front_number ys (take 20 xs) 20 i same below
        ∙ sym (front_number xs (take 20 xs) 20 i refl below)

pub after_head : (old new field : List ℕ) (n : ℕ) → n ≡ 20 + length field →
    take n new ≡ take 20 old ++ field → length new ≤ n → 20 ≤ length old → (take 20 new ≡ take 20 old) ×
    (drop 20 new ≡ field)
after_head old new field n is same short long =
    let whole : new ≡ take 20 old ++ field = sym (take_all n new short) ∙ same in
    let front : length (take 20 old) ≡ 20 = omega (arith, length-take 20 old) in (
      ap (take 20) whole ∙ ap (λ k. take k (take 20 old ++ field)) (sym front)
          ∙ take-append_seam (take 20 old) field,
      ap (drop 20) whole ∙ ap (λ k. drop k (take 20 old ++ field)) (sym front)
          ∙ drop-append_seam (take 20 old) field,
    )
