-- Defines the TIM element (IEEE 802.11-2012, 8.4.2.7), which announces the association identifiers (AIDs)
-- with traffic. AID n is bit n mod 8 of octet n / 8 of the traffic-indication virtual bitmap. The element
-- contains a part of this bitmap.
use Rattle.std.specs.Prelude.{ℕ, ◌+◌, ◌-◌, ◌*◌, ◌/◌, ◌%◌, ◌^◌, ◌==◌, Bool, true, List, [], ◌∷◌, if◌then◌else◌, map, sum_by}
use Rattle.wf_def_lists.specs.Table.{count_from}

-- The element ID (8.4.2.1, table 8-54).
abbrev pub tim_id : ℕ
tim_id = 5

-- The number of octets between the element's length octet and the part of the bitmap: DTIM count, DTIM
-- period and bitmap control.
abbrev pub tim_fields : ℕ
tim_fields = 3

-- Returns octet k of the whole bitmap of these AIDs.
abbrev pub map_octet : List ℕ → ℕ → ℕ
map_octet aids k = sum_by (λ a. if a / 8 == k then 2 ^ (a % 8) else 0) aids

-- Returns the last number of the list d ∷ xs.
abbrev pub last_of : ℕ → List ℕ → ℕ
last_of d [] = d
last_of d (x ∷ xs) = last_of x xs

-- Returns the octets of the shortest element for an increasing list of AIDs, with this DTIM count and
-- period. Its part of the bitmap begins at the greatest even octet before which all octets are 0, and ends
-- with the last octet that is not 0. If no AID has traffic, the part is one octet of 0.
abbrev pub tim_element : ℕ → ℕ → List ℕ → List ℕ
tim_element count period [] = tim_id ∷ (tim_fields + 1) ∷ count ∷ period ∷ 0 ∷ 0 ∷ []
tim_element count period (a ∷ aids) =
    let n1 : ℕ = 2 * (a / 16) in
    let n2 : ℕ = last_of a aids / 8 in
    tim_id ∷ (n2 - n1 + (tim_fields + 1)) ∷ count ∷ period ∷ n1
    ∷ map (map_octet (a ∷ aids)) (count_from n1 (n2 - n1 + 1))

-- Returns the octets of an element with bit 0 of its bitmap control set, if the beacon announces group
-- frames. The other bits of this octet are the even number n1, so the octet is one more. Octets that are no
-- element stay as they are.
abbrev pub with_group_bit : Bool → List ℕ → List ℕ
with_group_bit true (id ∷ length ∷ count ∷ period ∷ control ∷ part) =
    id ∷ length ∷ count ∷ period ∷ (control + 1) ∷ part
with_group_bit announced octets = octets
