-- Defines which words differ from a known word by one typing error.
use Rattle.std.specs.Prelude.{ℕ, List, [], ◌∷◌, length, Bool, false, ◌==◌, ◌&&◌, ◌||◌, nat_le, if◌then◌else◌}
use Rattle.std.specs.Str.{bytes_eq}

-- The first two octets of the word are swapped, and the rest equals the known word.
abbrev pub is_swap_of : List ℕ → List ℕ → Bool
is_swap_of [] known = false
is_swap_of (one ∷ []) known = false
is_swap_of (one ∷ two ∷ rest) [] = false
is_swap_of (one ∷ two ∷ rest) (first ∷ []) = false
is_swap_of (one ∷ two ∷ rest) (first ∷ second ∷ others) =
    one == second && two == first && bytes_eq rest others

-- The words are equal, or the first has one extra octet, one missing, one wrong, or two swapped neighbours.
abbrev pub is_slip_of : List ℕ → List ℕ → Bool
is_slip_of [] known = nat_le (length known) 1
is_slip_of (one ∷ rest) [] = length rest == 0
is_slip_of (one ∷ rest) (first ∷ others) =
    if one == first then is_slip_of rest others
    else (bytes_eq rest (first ∷ others) || bytes_eq (one ∷ rest) others || bytes_eq rest others
    || is_swap_of (one ∷ rest) (first ∷ others))
