-- Proves what a call of the cutter of lines returns, from the scans and reads that it makes: octets that
-- were read and end no line keep the texts that are still to come.
use Rattle.std.proofs.Common.{◌≡◌, ◌≢◌, ◌==◌, ◌&&◌, ◌||◌, not, nat_eq, arith, ℕ, ◌+◌, ◌-◌, ◌≤◌, length, List, [], ◌∷◌, ◌++◌, Bool, true, false, refl, sym, ◌∙◌, ap, subst, append_assoc}
use Rattle.std.specs.Prelude.{Option, Some, None, Ok, Err, MatchOption, IsSome, is_some}
use Rattle.std.specs.Io.KnownBytes.{prepend_known, IsAtEnd}
use Rattle.std.proofs.lemmas.Bool.Decides.{nat_tests}
use Rattle.wf_trace.specs.declared.fault.FaultKind.{FaultKind}
use Rattle.wf_trace.specs.declared.fault.FaultKind.TheVariants.{TooBig}
use Rattle.wf_trace.specs.declared.fault.End.{End}
use Rattle.wf_trace.specs.declared.fault.End.TheVariants.{Flaw}
use Rattle.wf_trace.specs.declared.cut.Found.TheVariants as found
use Rattle.wf_trace.specs.Lines.{longest_trace, before_texts, flaw, texts_of}
use Rattle.wf_trace.specs.Scanning.{Scanning, Finds, Keeps, lines_behind, texts_from, texts_behind, has_end, begins_word, holds_text}
use Rattle.wf_trace.specs.Cutting.{Cutting, TakesPieces, Fits, Follows, to_come, room_of, will_read_of}

-- Octets were read, and the texts that are still to come are unchanged.
pub record Took (first now : Scanning) (left left_now : Option (List ℕ)) : Type 0 where
  pub octets : List ℕ
  pub taken : left ≡ prepend_known octets left_now
  pub same : (closed : Bool) (more : List ℕ) → texts_from first closed (octets ++ more)
      ≡ texts_from now closed more

pub prepend_known-nil : (left : Option (List ℕ)) → left ≡ prepend_known [] left
prepend_known-nil None = refl
prepend_known-nil (Some xs) = refl

pub prepend_known-append : (one two : List ℕ) (left : Option (List ℕ)) →
    prepend_known one (prepend_known two left) ≡ prepend_known (one ++ two) left
prepend_known-append one two None = refl
prepend_known-append one two (Some xs) = ap Some (sym (append_assoc one two xs))

pub took_none : (s : Scanning) (left : Option (List ℕ)) → Took s s left left
took_none s left = record { octets = []; taken = prepend_known-nil left; same = λ closed more. refl }

pub took_scan : (first s t : Scanning) (left left_now : Option (List ℕ)) → Took first s left left_now →
    Finds s None t → Took first t left left_now
took_scan first s t left left_now took finds = record {
  octets = took.octets;
  taken = took.taken;
  same = λ closed more. took.same closed more ∙ finds closed more;
}

pub took_refill : (first s t : Scanning) (left left_now left_new : Option (List ℕ)) →
    Took first s left left_now →
    s.waiting ≡ [] → left_now ≡ prepend_known t.waiting left_new → t ≡ record s { waiting = t.waiting } →
    Took first t left left_new
took_refill first s t left left_now left_new took dry refilled same = record {
  octets = took.octets ++ t.waiting;
  taken = took.taken ∙ ap (λ l. prepend_known took.octets l) refilled
      ∙ prepend_known-append took.octets t.waiting left_new;
  same = λ closed more.
      ap (λ l. texts_from first closed l) (append_assoc took.octets t.waiting more)
      ∙ took.same closed (t.waiting ++ more)
      ∙ ap (λ w. texts_of closed (lines_behind closed s.looked s.line (w ++ (t.waiting ++ more)))) dry
      ∙ ap (λ (u : Scanning). texts_of closed (lines_behind closed u.looked u.line (t.waiting ++ more)))
      (sym same);
}

-- a cutter that goes on
abbrev pub going : Scanning → Cutting
going s = record { scanner = s; given = false; ended = None }

abbrev pub Judged : Option FaultKind → Option End → Scanning → Cutting → Type 0
Judged f end s new = MatchOption f ((end ≡ None) × (new ≡ record { scanner = s; given = true; ended = None }))
    (λ kind. (end ≡ Some (Flaw kind)) × (new ≡ record {
      scanner = s;
      given = false;
      ended =
          Some (Flaw kind);
    }))

judged : (f : Option FaultKind) (first s t : Scanning) (left left_now : Option (List ℕ)) (end : Option End)
    (new : Cutting) → (took : Took first s left left_now) →
    ((closed : Bool) (more : List ℕ) → texts_from s closed more
    ≡ before_texts f t.line (texts_behind t closed more)) →
    Judged f end t new → TakesPieces (going first) left (Ok end) new left_now took.octets
judged None first s t left left_now end new took finds is = record {
  taken = took.taken;
  gives = rw (is.0, is.1) (λ closed more fits. took.same closed more ∙ finds closed more);
}
judged (Some kind) first s t left left_now end new took finds is = record {
  taken = took.taken;
  gives = rw (is.0, is.1) (λ closed more fits. (refl, took.same closed more ∙ finds closed more));
}

-- a line ended
pub takes_line : (first s t : Scanning) (left left_now : Option (List ℕ)) (end : Option End) (new : Cutting) →
    Took first s left left_now →
    Finds s (Some found.Line) t → Judged (flaw t.looked t.line) end t new → (octets : List ℕ) ×
    TakesPieces (going first) left (Ok end) new left_now octets
takes_line first s t left left_now end new took finds is =
    (took.octets, judged (flaw t.looked t.line) first s t left left_now end new took finds is)

-- a line is over the end of the longest trace
pub takes_big : (first s t : Scanning) (left left_now : Option (List ℕ)) → Took first s left left_now →
    Finds s (Some found.TooBig) t →
    (octets : List ℕ) × TakesPieces (going first) left (Ok (Some (Flaw TooBig)))
    (record { scanner = t; given = false; ended = Some (Flaw TooBig) }) left_now octets
takes_big first s t left left_now took finds = (
  took.octets,
  record {
    taken = took.taken;
    gives = λ closed more fits. (refl, rw (fits.0) (took.same true more ∙ finds more));
  },
)

-- the source failed
pub takes_none : (first s : Scanning) (left left_now : Option (List ℕ)) → Took first s left left_now →
    (octets : List ℕ) × TakesPieces (going first) left (Err (record {})) (going s) left_now octets
takes_none first s left left_now took = (
  took.octets,
  record { taken = took.taken; gives = λ closed more fits. took.same closed more },
)

-- the source is at its end
nothing_left : (e : Option End) (now new : Option (List ℕ)) (closed : Bool) (more : List ℕ) → IsSome e →
    IsAtEnd now → now ≡ prepend_known [] new → Fits e new closed more → (closed ≡ true) × (more ≡ [])
nothing_left None now new closed more some at_end is fits = absurd (cc)
nothing_left (Some e) now new closed more some at_end is fits = (
  fits.0,
  let told : now ≡ Some more = is ∙ rw (fits.1) refl in
      subst (λ (l : Option (List ℕ)). IsAtEnd l) told at_end,
)

pub takes_end : (first s : Scanning) (left left_now left_new : Option (List ℕ)) (end : Option End)
    (new : Cutting) → Took first s left left_new →
    IsAtEnd left_now → left_now ≡ prepend_known [] left_new → IsSome new.ended →
    Follows (Ok end) new (to_come (going s) true []) (to_come new true []) → (octets : List ℕ) ×
    TakesPieces (going first) left (Ok end) new left_new octets
takes_end first s left left_now left_new end new took at_end is ended follows = (
  took.octets,
  record {
    taken = took.taken;
    gives = λ closed more fits. let nothing = nothing_left new.ended left_now left_new closed more ended
        at_end is fits in
        rw (nothing.0, nothing.1, took.same true []) follows;
  },
)

-- A call first looks at the octets that wait. If one of them ends a line, the call does not read, and its
-- line begins with the octets that waited.
abbrev pub Still : {S : Type 0} → Cutting → Cutting → S → S → Type 0
Still first now source source_now = has_end first.scanner.waiting ≡ true → (now ≡ first) ×
    (source_now ≡ source)

pub still_ends : {S : Type 0} (first now : Cutting) (s t : Scanning) (source source_now : S) →
    Still first now source source_now → s ≡ now.scanner →
    Keeps s None t → t.waiting ≡ [] → has_end first.scanner.waiting ≡ true → ⊥
still_ends first now s t source source_now still is keeps dry ends =
    let here : has_end now.scanner.waiting ≡ true =
    ap (λ (c : Cutting). has_end c.scanner.waiting) (still ends).0 ∙ ends in
    let none : has_end s.waiting ≡ false = sym keeps.0 ∙ ap has_end dry in
    absurd (let there : has_end s.waiting ≡ true = ap (λ (u : Scanning). has_end u.waiting) is ∙ here in cc)

pub still_begins : {S : Type 0} (first now : Cutting) (s t : Scanning) (source source_now : S) →
    Still first now source source_now → s ≡ now.scanner →
    Keeps s (Some found.Line) t → has_end first.scanner.waiting ≡ true →
    begins_word (first.scanner.line ++ first.scanner.waiting) ≡ true → begins_word t.line ≡ true
still_begins first now s t source source_now still is keeps ends begins =
    keeps (ap (λ (u : Scanning). begins_word (u.line ++ u.waiting)) is
    ∙ ap (λ (c : Cutting). begins_word (c.scanner.line ++ c.scanner.waiting)) (still ends).0 ∙ begins)

-- whether a call reads, if the end is not known and a line was returned
pub reads_given : (e : Option End) (given : Bool) (waiting : List ℕ) → false ≡ is_some e → given ≡ true →
    will_read_of e given waiting ≡ not (holds_text waiting)
reads_given None given waiting none is = rw is refl
reads_given (Some end) given waiting none is = absurd (cc)

pub not_equal : (a b : ℕ) → a ≢ b → nat_eq a b ≡ false
not_equal a b other = grind (arith, nat_tests)

-- the same, by the first octet of a whole line that waits
pub reads_first : (e : Option End) (given : Bool) (waiting : List ℕ) (octet : ℕ) (rest : List ℕ) →
    false ≡ is_some e → given ≡ true → has_end waiting ≡ true → waiting ≡ octet ∷ rest →
    will_read_of e given waiting ≡ (octet == 10 || (octet == 32 || octet == 35))
reads_first e given waiting octet rest none is ends begins =
    let first : has_end (octet ∷ rest) ≡ true = ap has_end (sym begins) ∙ ends in
    rw (reads_given e given waiting none is, begins, first) (parts (octet == 10) (octet == 32) (octet == 35))
  where
    parts : (a b c : Bool) → not (not a && not b && not c) ≡ (a || (b || c))
    parts true b c = refl
    parts false true c = refl
    parts false false true = refl
    parts false false false = refl

-- the rest of the input is a line with a fault
pub wrong_rest : (f : Option FaultKind) (end : Option End) (old new : Cutting) →
    flaw old.scanner.looked old.scanner.line ≡ f → MatchOption f ((end ≡ None)
    × (new ≡ record old { given = true })) (λ kind. (end ≡ Some (Flaw kind))
    × (new ≡ record old { ended = Some (Flaw kind) })) → is_some end ≡ true → old.ended ≡ None →
    old.given ≡ false → old.scanner.waiting ≡ [] → false ≡ (length old.scanner.line == 0) →
    (new.scanner.looked ≡ old.scanner.looked)
    × Follows (Ok end) new (to_come old true []) (to_come new true [])
wrong_rest None end old new is said some open_ fresh dry begun =
    absurd (let none = rw (said.0) at some in cc)
wrong_rest (Some kind) end old new is said some open_ fresh dry begun =
    rw (said.0, said.1) (refl, (refl, rw (open_, fresh, dry) (rest old.scanner.line is begun)))
  where
    rest : (line : List ℕ) → flaw old.scanner.looked line ≡ Some kind → false ≡ (length line == 0) →
        texts_of true (lines_behind true old.scanner.looked line [])
        ≡ record { texts = []; ending = Some (Flaw kind) }
    rest [] is begun = absurd (cc)
    rest (octet ∷ line) is begun = rw is refl

-- after one more octet, or the end, no more octets may be looked at than before
pub room_less : (looked : ℕ) (end : Option End) → room_of (looked + 1) end ≤ room_of looked end
room_less looked None = omega arith
room_less looked (Some end) = omega arith

pub room_ends : (looked : ℕ) (end : Option End) → longest_trace - looked ≤ room_of looked end
room_ends looked None = omega arith
room_ends looked (Some end) = omega arith
