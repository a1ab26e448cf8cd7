-- Defines the layout of the TIM element (IEEE 802.11-2012, 8.4.2.7), which says for which association
-- identifiers (AID) traffic is buffered. AID n is bit n mod 8 of octet n / 8 of the whole bitmap of 251
-- octets; the element contains a part of it.
use Rattle.std.specs.Prelude.{◌≡◌, ℕ, ◌+◌, ◌-◌, ◌*◌, ◌/◌, ◌%◌, ◌<◌, ◌≤◌, nat_le, Bool, false, List, [], ◌∷◌, length, Option, Some, None, slice_index, slice_index_or, if◌then◌else◌, filter}
use Rattle.std.specs.List.{range_with_len}
use Rattle.wf_def_tim.specs.Tim.{tim_id, last_of}
use Rattle.wf_octets.specs.Fields.{is_set}
use Rattle.wf_octets.specs.declared.tim.Tim.{Tim}

-- the first octet of the whole bitmap that the element contains: bits 1 to 7 of the bitmap control are half
-- its number
abbrev pub first_octet_of_bitmap : List ℕ → ℕ
first_octet_of_bitmap octets = 2 * (slice_index octets 4 / 2)

-- octet k of the whole bitmap; octets that the element does not contain are 0
abbrev pub whole_octet : List ℕ → ℕ → ℕ
whole_octet octets k = if nat_le (first_octet_of_bitmap octets) k
    then slice_index octets (5 + (k - first_octet_of_bitmap octets)) else 0

-- the octets are a TIM element: its number, its length, the DTIM count and period, the bitmap control, whose
-- bit 0 is group traffic, and a part of the bitmap that ends at or before octet 250
pub record IsTim (octets : List ℕ) (tim : Tim) (present : List Bool) : Type 0 where
  pub long : 6 ≤ length octets
  pub id : slice_index octets 0 ≡ tim_id
  pub size : slice_index octets 1 + 2 ≡ length octets
  pub ends : first_octet_of_bitmap octets + (length octets - 5) ≤ 251
  pub count : slice_index octets 2 ≡ tim.count
  pub period : slice_index octets 3 ≡ tim.period
  pub group : is_set (slice_index octets 4) 0 ≡ tim.group
  pub stations : (n : ℕ) → n < 2008 → is_set (whole_octet octets (n / 8)) (n % 8)
      ≡ slice_index_or present n false

-- the AIDs that are present, in rising order
abbrev pub aids_of : List Bool → List ℕ
aids_of present = filter (λ n. slice_index_or present n false) (range_with_len 0 (length present))

-- the first and the last element of a list
abbrev pub ends_of : List ℕ → Option (ℕ × ℕ)
ends_of [] = None
ends_of (a ∷ aids) = Some (a, last_of a aids)

-- the first and the last octet of the whole bitmap that the shortest element contains, given the least and
-- the greatest AID
abbrev pub octets_between : Option (ℕ × ℕ) → ℕ × ℕ
octets_between None = (0, 0)
octets_between (Some e) = (2 * (e.0 / 16), e.1 / 8)
