-- Laws of lines that are looked at octet by octet: what each octet in the buffer finds, and what it keeps.
use Rattle.std.proofs.Common.{◌≡◌, ◌≢◌, ℕ, suc, ◌+◌, ◌-◌, ◌<◌, ◌≤◌, List, [], ◌∷◌, ◌++◌, length, take, drop, get_or, Bool, true, false, cond, nat_eq, refl, sym, ap, ◌∙◌, arith, length-append, append_assoc}
use Rattle.std.specs.Prelude.{Option, Some, None, nat_lt, slice_index, slice_range, ◌||◌}
use Rattle.std.specs.List.{list_all}
use Rattle.std.proofs.lemmas.Bool.{eq-eqb}
use Rattle.std.proofs.lemmas.Bool.Decides.{nat_tests}
use Rattle.std.proofs.lemmas.List.{drop_more, drop-drop, length-take, length-drop, drop-take, get_or-take, get_or-drop}
use Rattle.std.proofs.lemmas.List.Folds.{list_any-append, list_any_at}
use Rattle.std.proofs.Math.Seq.{take-add}
use Rattle.wf_trace.specs.declared.fault.FaultKind.{FaultKind}
use Rattle.wf_trace.specs.declared.fault.FaultKind.TheVariants.{TooBig, LongLine}
use Rattle.wf_trace.specs.declared.fault.End.TheVariants.{Flaw}
use Rattle.wf_trace.specs.declared.cut.Found.{Found}
use Rattle.wf_trace.specs.declared.cut.Found.TheVariants as found
use Rattle.wf_trace.specs.Lines.{Texts, longest_trace, longest_line, is_printable, flaw, before_texts, texts_of}
use Rattle.wf_trace.specs.Scanning.{Scanning, Finds, Keeps, LineEndsAt, lines_behind, has_end, begins_word}

-- the first octet of a part of a list
pub waiting_first : (xs : List ℕ) (i j octet : ℕ) → i ≤ j → j ≤ length xs → 0 < length (slice_range xs i j) →
    octet ≡ get_or xs i octet →
    slice_range xs i j ≡ octet ∷ slice_range xs (i + 1) j
waiting_first xs i j octet le fits some is =
    let some' : i < j = omega (arith, some, length-take (j - i) (drop i xs)) in
    let one : j - i ≡ suc (j - (i + 1)) = omega arith in
    let inside : i < length xs = omega arith in
    rw (one, drop_more xs i octet inside, ← is) refl

-- the first octet that waits
pub first_seen : (xs : List ℕ) (from to octet : ℕ) → from < to → to ≤ length xs →
    octet ≡ get_or xs from octet → slice_range xs from to ≡ octet ∷ slice_range xs (from + 1) to
first_seen xs from to octet some within is =
    waiting_first xs from to octet (omega arith) within
    (omega (arith, some, within, length-take (to - from) (drop from xs), length-drop from xs)) is

-- what contracts see of a scanner with these fields
abbrev pub seen : ℕ → List ℕ → List ℕ → ℕ → ℕ → Scanning
seen looked line buffer from to =
    record { looked = looked; line = line; waiting = slice_range buffer from to }

-- a line without a fault
pub flaw_none : (end : ℕ) (octets : List ℕ) → end ≤ longest_trace → length octets ≤ longest_line →
    list_all is_printable octets ≡ true → flaw end octets ≡ None
flaw_none end octets within short plain =
    let first : nat_lt longest_trace end ≡ false = grind (arith, nat_tests) in
    let second : nat_lt longest_line (length octets) ≡ false = grind (arith, nat_tests) in
    rw (first, second, plain) refl

-- a fault ends the texts: the line is over the end of the longest trace, or is too long
abbrev pub stops : FaultKind → Texts
stops kind = record { texts = []; ending = Some (Flaw kind) }

before_big : (end : ℕ) (octets : List ℕ) (others : Texts) → longest_trace < end →
    before_texts (flaw end octets) octets others ≡ stops TooBig
before_big end octets others big =
    let test : nat_lt longest_trace end ≡ true = grind (arith, nat_tests) in
    rw test refl

before_long : (end : ℕ) (one two : List ℕ) (others : Texts) → longest_line < length one →
    longest_line < length two →
    before_texts (flaw end one) one others ≡ before_texts (flaw end two) two others
before_long end one two others long_one long_two =
    let first : nat_lt longest_line (length one) ≡ true = grind (arith, nat_tests) in
    let second : nat_lt longest_line (length two) ≡ true = grind (arith, nat_tests) in
    rw (first, second) (elim (nat_lt longest_trace end) as
    (λ b. before_texts (cond b (Some TooBig) (Some LongLine)) one others
    ≡ before_texts (cond b (Some TooBig) (Some LongLine)) two others) [ true ↦ refl | false ↦ refl ])

length_more : (octets : List ℕ) (octet : ℕ) → length (octets ++ octet ∷ []) ≡ length octets + 1
length_more octets octet = length-append octets (octet ∷ [])

-- in a line that is too long, only that matters
pub long : (closed : Bool) (at : ℕ) (one two octets : List ℕ) → longest_line < length one →
    longest_line < length two →
    texts_of closed (lines_behind closed at one octets) ≡ texts_of closed (lines_behind closed at two octets)
long false at one two [] long_one long_two = refl
long true at [] two [] long_one long_two = absurd (omega arith)
long true at (x ∷ one) [] [] long_one long_two = absurd (omega arith)
long true at (x ∷ one) (y ∷ two) [] long_one long_two =
    before_long at (x ∷ one) (y ∷ two) (texts_of true []) long_one long_two
long closed at one two (octet ∷ octets) long_one long_two =
    let more_one : longest_line < length (one ++ octet ∷ []) = omega (arith, length_more one octet) in
    let more_two : longest_line < length (two ++ octet ∷ []) = omega (arith, length_more two octet) in
    let next = long closed (at + 1) (one ++ octet ∷ []) (two ++ octet ∷ []) octets more_one more_two in
    elim (nat_eq octet 10) as (λ b. texts_of closed
    (cond b (record { octets = one; end = at + 1 } ∷ lines_behind closed (at + 1) [] octets)
    (lines_behind closed (at + 1) (one ++ octet ∷ []) octets))
    ≡ texts_of closed (cond b (record { octets = two; end = at + 1 } ∷ lines_behind closed (at + 1) [] octets)
    (lines_behind closed (at + 1) (two ++ octet ∷ []) octets))) [
      | true ↦ before_long (at + 1) one two (texts_of closed (lines_behind closed (at + 1) [] octets)) long_one
          long_two
      | false ↦ next
    ]

-- a line that is over the end of the longest trace
pub big : (at : ℕ) (begun octets : List ℕ) → longest_trace < at → 0 < length begun →
    texts_of true (lines_behind true at begun octets) ≡ stops TooBig
big at [] [] past some = absurd (omega arith)
big at (x ∷ begun) [] past some = before_big at (x ∷ begun) (texts_of true []) past
big at begun (octet ∷ octets) past some =
    let next = big (at + 1) (begun ++ octet ∷ []) octets (omega arith)
    (omega (arith, length_more begun octet)) in
    let further : longest_trace < at + 1 = omega arith in
    elim (nat_eq octet 10) as (λ b. texts_of true
    (cond b (record { octets = begun; end = at + 1 } ∷ lines_behind true (at + 1) [] octets)
    (lines_behind true (at + 1) (begun ++ octet ∷ []) octets)) ≡ stops TooBig) [
      | true ↦ before_big (at + 1) begun (texts_of true (lines_behind true (at + 1) [] octets)) further
      | false ↦ next
    ]

-- The four cases of the first octet that waits.
pub finds_big : (s : Scanning) (octet : ℕ) (rest : List ℕ) (new : Scanning) → s.waiting ≡ octet ∷ rest →
    s.looked ≡ longest_trace → Finds s (Some found.TooBig) new
finds_big s octet rest new waits at_end more =
    let next = big (longest_trace + 1) (s.line ++ octet ∷ []) (rest ++ more) (omega arith)
    (omega (arith, length_more s.line octet)) in
    let further : longest_trace < longest_trace + 1 = omega arith in
    rw (waits, at_end)
    (elim (nat_eq octet 10) as (λ b. texts_of true
    (cond b (record { octets = s.line; end = longest_trace + 1 }
    ∷ lines_behind true (longest_trace + 1) [] (rest ++ more))
    (lines_behind true (longest_trace + 1) (s.line ++ octet ∷ []) (rest ++ more))) ≡ stops TooBig) [
      | true ↦ before_big (longest_trace + 1) s.line
          (texts_of true (lines_behind true (longest_trace + 1) [] (rest ++ more))) further
      | false ↦ next
    ])

pub finds_line : (s : Scanning) (octet : ℕ) (rest : List ℕ) → s.waiting ≡ octet ∷ rest → octet ≡ 10 →
    Finds s (Some found.Line) (record { looked = s.looked + 1; line = s.line; waiting = rest })
finds_line s octet rest waits ends closed more =
    rw (waits, eq-eqb octet 10 ends) refl

pub finds_more : (s : Scanning) (octet : ℕ) (rest : List ℕ) → s.waiting ≡ octet ∷ rest → octet ≢ 10 →
    Finds s None (record { looked = s.looked + 1; line = s.line ++ octet ∷ []; waiting = rest })
finds_more s octet rest waits other closed more =
    let test : nat_eq octet 10 ≡ false = grind (arith, nat_tests) in
    rw (waits, test) refl

pub finds_long : (s : Scanning) (octet : ℕ) (rest : List ℕ) → s.waiting ≡ octet ∷ rest → octet ≢ 10 →
    longest_line < length s.line →
    Finds s None (record { looked = s.looked + 1; line = s.line; waiting = rest })
finds_long s octet rest waits other past closed more =
    let test : nat_eq octet 10 ≡ false = grind (arith, nat_tests) in
    rw (waits, test) (long closed (s.looked + 1) (s.line ++ octet ∷ []) s.line (rest ++ more)
    (omega (arith, length_more s.line octet)) past)

-- a line that ends after octets without an end of a line
pub finds_on : (a b c : Scanning) (f : Option Found) → Finds a None b → Finds b f c → Finds a f c
finds_on a b c None first second = λ closed more. first closed more ∙ second closed more
finds_on a b c (Some found.Line) first second = λ closed more. first closed more ∙ second closed more
finds_on a b c (Some found.TooBig) first second = λ more. first true more ∙ second more

-- The same four cases, and what each keeps.
pub keeps_line : (s : Scanning) (octet : ℕ) (rest : List ℕ) → s.waiting ≡ octet ∷ rest → octet ≡ 10 →
    Keeps s (Some found.Line) (record { looked = s.looked + 1; line = s.line; waiting = rest })
keeps_line s octet rest waits ends begins = begun s.line (rw waits at begins)
  where
    begun : (line : List ℕ) → begins_word (line ++ octet ∷ rest) ≡ true → begins_word line ≡ true
    begun [] is = absurd (let never = rw (eq-eqb octet 10 ends) at is in cc)
    begun (x ∷ line) is = is

pub keeps_more : (s : Scanning) (octet : ℕ) (rest : List ℕ) → s.waiting ≡ octet ∷ rest → octet ≢ 10 →
    Keeps s None (record { looked = s.looked + 1; line = s.line ++ octet ∷ []; waiting = rest })
keeps_more s octet rest waits other =
    let test : nat_eq octet 10 ≡ false = grind (arith, nat_tests) in
    (rw (waits, test) refl, rw waits (ap begins_word (append_assoc s.line (octet ∷ []) rest)))

pub keeps_long : (s : Scanning) (octet : ℕ) (rest : List ℕ) → s.waiting ≡ octet ∷ rest → octet ≢ 10 →
    longest_line < length s.line →
    Keeps s None (record { looked = s.looked + 1; line = s.line; waiting = rest })
keeps_long s octet rest waits other past =
    let test : nat_eq octet 10 ≡ false = grind (arith, nat_tests) in
    (rw (waits, test) refl, rw waits (begun s.line past))
  where
    begun : (line : List ℕ) → longest_line < length line →
        begins_word (line ++ rest) ≡ begins_word (line ++ octet ∷ rest)
    begun [] past = absurd (omega arith)
    begun (x ∷ line) past = refl

pub keeps_on : (a b c : Scanning) (f : Option Found) → Keeps a None b → Keeps b f c → Keeps a f c
keeps_on a b c None first second = (second.0 ∙ first.0, second.1 ∙ first.1)
keeps_on a b c (Some found.Line) first second = λ begins. second (first.1 ∙ begins)
keeps_on a b c (Some found.TooBig) first second = tt

-- The place of the last end of a line says whether a whole line waits.
or-false : (a b : Bool) → (a || b) ≡ false → b ≡ false
or-false true b is = absurd (cc)
or-false false b is = is

slice_parts : (xs : List ℕ) (i j k : ℕ) → i ≤ j → j ≤ k →
    slice_range xs i k ≡ slice_range xs i j ++ slice_range xs j k
slice_parts xs i j k low high =
    let whole : k - i ≡ (j - i) + (k - j) = omega arith in
    let place : i + (j - i) ≡ j = omega arith in
    rw whole (take-add (j - i) (k - j) (drop i xs)
    ∙ ap (λ l. take (j - i) (drop i xs) ++ take (k - j) l)
    (drop-drop (j - i) i xs ∙ ap (λ n. drop n xs) place))

pub no_end_waits : (xs : List ℕ) (ends from to : ℕ) → LineEndsAt xs ends to → ends ≤ from → from ≤ to →
    has_end (slice_range xs from to) ≡ false
no_end_waits xs ends from to at past within =
    or-false (has_end (slice_range xs ends from)) (has_end (slice_range xs from to))
    (sym (list_any-append (λ octet. nat_eq octet 10) (slice_range xs ends from) (slice_range xs from to))
    ∙ ap has_end (sym (slice_parts xs ends from to past within)) ∙ at.1)

pub end_waits : (xs : List ℕ) (ends from to : ℕ) → LineEndsAt xs ends to → from < ends → to ≤ length xs →
    has_end (slice_range xs from to) ≡ true
end_waits xs ends from to at before within =
    let some : 0 < ends = omega arith in
    let k : ℕ = (ends - 1) - from in
    let below : k < to - from = omega (arith, at.0) in
    let place : from + k ≡ ends - 1 = omega arith in
    let inside : k < length (slice_range xs from to) =
    omega (arith, below, length-take (to - from) (drop from xs), length-drop from xs, at.0) in
    let is : get_or (slice_range xs from to) k 0 ≡ 10 =
    get_or-take (to - from) (drop from xs) k 0 below ∙ get_or-drop from xs k 0
    ∙ ap (λ n. get_or xs n 0) place ∙ at.2 some in
    list_any_at (λ octet. nat_eq octet 10) (slice_range xs from to) k 0 inside
    (eq-eqb (get_or (slice_range xs from to) k 0) 10 is)

-- the first octet that waits, if it is before the last end of a line
pub first_of_line : (xs : List ℕ) (ends from to octet : ℕ) → LineEndsAt xs ends to → from < ends →
    to ≤ length xs → octet ≡ get_or xs from octet →
    slice_range xs from to ≡ octet ∷ slice_range xs (from + 1) to
first_of_line xs ends from to octet at before within is =
    let some : 0 < length (slice_range xs from to) =
    omega (arith, at.0, length-take (to - from) (drop from xs), length-drop from xs) in
    waiting_first xs from to octet (omega (arith, at.0)) within some is

-- the place of the last end of a line, for octets that were read
pub ends_at : (xs : List ℕ) (ends to : ℕ) → to ≤ length xs → ends ≤ length (take to xs) →
    has_end (drop ends (take to xs)) ≡ false →
    (0 < ends → slice_index (take to xs) (ends - 1) ≡ 10) → LineEndsAt xs ends to
ends_at xs ends to within low none last =
    let most : ends ≤ to = omega (arith, low, length-take to xs) in
    let whole : to ≡ ends + (to - ends) = omega arith in
    let rest : drop ends (take to xs) ≡ slice_range xs ends to =
    ap (λ n. drop ends (take n xs)) whole ∙ drop-take ends (to - ends) xs in (
      most,
      ap has_end (sym rest) ∙ none,
      (λ some. let below : ends - 1 < to = omega arith in
          sym (get_or-take to xs (ends - 1) 0 below) ∙ last some),
    )
