-- Proves how fields at their places are read from a list and from its prefixes.
use Rattle.std.proofs.Common.{◌≡◌, ℕ, ◌+◌, ◌*◌, ◌/◌, ◌%◌, ◌<◌, List, [], ◌∷◌, ◌++◌, length, take, drop, get_or, sym, ◌∙◌, ap, arith}
use Rattle.std.proofs.lemmas.List.{get_or-take, drop-take, take-take}
use Rattle.wf_octets.specs.Fields.{number_at, part}

-- ---- reading from a prefix
pub front_octet : (xs ys : List ℕ) (n i : ℕ) → take n xs ≡ ys → i < n → get_or xs i 0 ≡ get_or ys i 0
front_octet xs ys n i same below = sym (get_or-take n xs i 0 below) ∙ ap (λ zs. get_or zs i 0) same

pub front_number : (xs ys : List ℕ) (n i : ℕ) → take n xs ≡ ys → i + 1 < n → number_at xs i ≡ number_at ys i
front_number xs ys n i same below =
    ap (λ a. a + 256 * get_or xs (i + 1) 0) (front_octet xs ys n i same (omega arith))
    ∙ ap (λ b. get_or ys i 0 + 256 * b) (front_octet xs ys n (i + 1) same below)

pub front_part : (xs ys : List ℕ) (n i k m : ℕ) → take n xs ≡ ys → n ≡ i + (k + m) → part xs i k ≡ part ys i k
front_part xs ys n i k m same is =
    sym (take-take k (k + m) (drop i xs) (omega arith)) ∙ ap (take k) (sym (drop-take i (k + m) xs))
    ∙ ap (λ l. take k (drop i (take l xs))) (sym is) ∙ ap (λ zs. part zs i k) same

-- ---- a number of two octets
pub number_of_two : (n : ℕ) → n < 65536 → n % 256 + 256 * (n / 256 % 256) ≡ n
number_of_two n small = omega arith

-- ---- a statement about lists of six octets, such as addresses, follows from six given octets
pub six : (P : List ℕ → Type 0) → ((a b c d e f : ℕ) → P (a ∷ b ∷ c ∷ d ∷ e ∷ f ∷ [])) → (xs : List ℕ) →
    length xs ≡ 6 → P xs
six P each [] long = absurd (omega arith)
six P each (a ∷ []) long = absurd (omega arith)
six P each (a ∷ b ∷ []) long = absurd (omega arith)
six P each (a ∷ b ∷ c ∷ []) long = absurd (omega arith)
six P each (a ∷ b ∷ c ∷ d ∷ []) long = absurd (omega arith)
six P each (a ∷ b ∷ c ∷ d ∷ e ∷ []) long = absurd (omega arith)
six P each (a ∷ b ∷ c ∷ d ∷ e ∷ f ∷ []) long = each a b c d e f
six P each (a ∷ b ∷ c ∷ d ∷ e ∷ f ∷ g ∷ xs) long = absurd (omega arith)

-- ---- fields written one after another
pub then_put : {before after front written field : List ℕ} → after ≡ before ++ written → before ≡ front →
    written ≡ field → after ≡ front ++ field
then_put {front = front} {written = written} step same is =
    step ∙ ap (λ xs. xs ++ written) same ∙ ap (λ ys. front ++ ys) is
