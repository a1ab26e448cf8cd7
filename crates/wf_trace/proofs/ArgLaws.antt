-- Laws of the arguments of a line: how faults combine, and that each value that was read may be given for
-- its argument. By cases of the argument's kind.
use Rattle.std.proofs.Common.{◌≡◌, ℕ, ◌<◌, ◌≤◌, ◌^◌, List, [], ◌∷◌, ◌++◌, Bool, true, false, refl, sym, subst, ap, append_assoc, arith}
use Rattle.std.specs.Prelude.{Option, Some, None, Result, Ok, Err, option_map, if◌then◌else◌}
use Rattle.std.specs.Str.{bytes_eq}
use Rattle.std.proofs.lemmas.Bool.Decides.{nat_tests}
use Rattle.wf_trace.specs.declared.fault.FaultKind.{FaultKind}
use Rattle.wf_frame.specs.declared.calls.Arg.{Arg}
use Rattle.wf_frame.specs.declared.calls.Arg.TheVariants as kind
use Rattle.wf_frame.specs.declared.calls.Value.{Value}
use Rattle.wf_frame.specs.declared.calls.Value.TheVariants as value
use Rattle.wf_frame.specs.Calls.{format_named, IsOfKind, AreOfKinds}
use Rattle.wf_frame.specs.Classes.{class_named}
use Rattle.wf_def_lists.specs.Lengths.{greatest_body}
use Rattle.wf_trace.specs.Faults.{earlier_fault, first_fault}
use Rattle.wf_trace.specs.Words.{number_of, in_range}
use Rattle.wf_trace.specs.Grammar.{air_word, frames_word, among, absent_arg, behind, both, read_arg, result_seen, read_args}
use Rattle.wf_trace.specs.Notes.{long_in}

pub earlier_assoc : (a b c : FaultKind) → earlier_fault a (earlier_fault b c)
    ≡ earlier_fault (earlier_fault a b) c
earlier_assoc a b c = grind (arith, nat_tests)

pub behind_value : (fault : Option FaultKind) (front : List Value) (value : Value)
    (read : Result (List Value) FaultKind) →
    behind fault front (both (Ok value) read) ≡ behind fault (front ++ value ∷ []) read
behind_value None front value (Ok values) = ap Ok (sym (append_assoc front (value ∷ []) values))
behind_value None front value (Err fault) = refl
behind_value (Some fault) front value (Ok values) = refl
behind_value (Some fault) front value (Err other) = refl

pub behind_fault : (fault : FaultKind) (front : List Value) (read : Result (List Value) FaultKind) →
    behind None front (both (Err fault) read) ≡ behind (Some fault) front read
behind_fault fault front (Ok values) = refl
behind_fault fault front (Err other) = refl

pub behind_faults : (one two : FaultKind) (front : List Value) (read : Result (List Value) FaultKind) →
    behind (Some one) front (both (Err two) read) ≡ behind (Some (earlier_fault one two)) front read
behind_faults one two front (Ok values) = refl
behind_faults one two front (Err other) = ap Err (earlier_assoc one two other)

pub behind_other : (fault : Option FaultKind) (other : FaultKind) (front : List Value)
    (read : Result (List Value) FaultKind) →
    behind fault front (both (Err other) read) ≡ behind (Some (first_fault fault other)) front read
behind_other None other front read = behind_fault other front read
behind_other (Some fault) other front read = behind_faults fault other front read

-- a number that was read is in its range
pub in_range_ok : (low high : ℕ) (read : Option ℕ) (value : ℕ) → in_range low high read ≡ Ok value →
    (low ≤ value) × (value ≤ high)
in_range_ok low high None value is = absurd (cc)
in_range_ok low high (Some n) value is = grind (arith, nat_tests)

-- values that were read, one by one
pub both_ok : (one : Result Value FaultKind) (others : Result (List Value) FaultKind) (values : List Value) →
    both one others ≡ Ok values →
    (value : Value) × (more : List Value) × (one ≡ Ok value) × (others ≡ Ok more) × (values ≡ value ∷ more)
both_ok (Ok value) (Ok more) values is = (value, more, refl, refl, cc)
both_ok (Ok value) (Err fault) values is = absurd (cc)
both_ok (Err fault) (Ok more) values is = absurd (cc)
both_ok (Err one) (Err two) values is = absurd (cc)

-- a number that was read for an argument is in its range
pub number_ok : (low high : ℕ) (read : Option ℕ) (v : Value) →
    result_seen value.Long (in_range low high read) ≡ Ok v →
    (low ≤ long_in (Some v)) × (long_in (Some v) ≤ high)
number_ok low high read v is = by_read (in_range low high read) refl is
  where
    by_read : (r : Result ℕ FaultKind) → in_range low high read ≡ r → result_seen value.Long r ≡ Ok v →
        (low ≤ long_in (Some v)) × (long_in (Some v) ≤ high)
    by_read (Ok n) was is =
        let same : v ≡ value.Long n = cc in
        rw same (in_range_ok low high read n was)
    by_read (Err fault) was is = absurd (cc)

-- ---- values that were read may be given for their arguments

number_kind : (low high : ℕ) (make : ℕ → Value) (Is : Value → Type 0) (read : Option ℕ) (v : Value) →
    ((n : ℕ) → low ≤ n → n ≤ high → Is (make n)) → result_seen make (in_range low high read) ≡ Ok v → Is v
number_kind low high make Is read v keeps is = by_read (in_range low high read) refl is
  where
    by_read : (r : Result ℕ FaultKind) → in_range low high read ≡ r → result_seen make r ≡ Ok v → Is v
    by_read (Ok n) was is =
        let same : make n ≡ v = cc in
        let within = in_range_ok low high read n was in
        subst Is same (keeps n within.0 within.1)
    by_read (Err fault) was is = absurd (cc)

word_kind : {X : Type 0} (make : X → Value) (Is : Value → Type 0) (read : Option X) (v : Value) →
    ((x : X) → Is (make x)) → among (option_map make read) ≡ Ok v → Is v
word_kind make Is (Some x) v keeps is = let same : make x ≡ v = cc in subst Is same (keeps x)
word_kind make Is None v keeps is = absurd (cc)

air_kind : (b : Bool) (v : Value) → among (if b then Some value.Air else None) ≡ Ok v → IsOfKind kind.Air v
air_kind true v is = let same : value.Air ≡ v = cc in subst (IsOfKind kind.Air) same tt
air_kind false v is = absurd (cc)

frames_kind : (b : Bool) (v : Value) → among (if b then Some value.Frames else None) ≡ Ok v →
    IsOfKind kind.Frames v
frames_kind true v is = let same : value.Frames ≡ v = cc in subst (IsOfKind kind.Frames) same tt
frames_kind false v is = absurd (cc)

pub kind_read : (arg : Arg) (word : List ℕ) (v : Value) → read_arg arg word ≡ Ok v → IsOfKind arg v
kind_read kind.Short word v is =
    number_kind 0 65535 value.Short (IsOfKind kind.Short) (number_of word) v (λ n low high. omega arith) is
kind_read kind.Octet word v is =
    number_kind 0 255 value.Octet (IsOfKind kind.Octet) (number_of word) v (λ n low high. omega arith) is
kind_read kind.Long word v is =
    number_kind 0 4294967295 value.Long (IsOfKind kind.Long) (number_of word) v (λ n low high. omega arith) is
kind_read kind.Exchange word v is =
    number_kind 0 4294967295 value.Exchange (IsOfKind kind.Exchange) (number_of word) v
    (λ n low high. omega arith) is
kind_read kind.Length word v is =
    number_kind 1 greatest_body value.Short (IsOfKind kind.Length) (number_of word) v
    (λ n low high. (low, high)) is
kind_read kind.Weight word v is =
    number_kind 0 255 value.Octet (IsOfKind kind.Weight) (number_of word) v (λ n low high. omega arith) is
kind_read kind.Bss word v is =
    number_kind 0 255 value.Octet (IsOfKind kind.Bss) (number_of word) v (λ n low high. omega arith) is
kind_read (kind.Number low high) word v is =
    number_kind low high value.Long (IsOfKind (kind.Number low high)) (number_of word) v
    (λ n below above. (below, above)) is
kind_read kind.Class word v is = word_kind value.Class (IsOfKind kind.Class) (class_named word) v (λ x. tt) is
kind_read kind.Format word v is = word_kind value.Format (IsOfKind kind.Format) (format_named word)
    v (λ x. tt) is
kind_read kind.Guard word v is = word_kind value.Guard (IsOfKind kind.Guard) _ v (λ x. tt) is
kind_read kind.Heard word v is = word_kind value.Heard (IsOfKind kind.Heard) _ v (λ x. tt) is
kind_read kind.End word v is = word_kind value.End (IsOfKind kind.End) _ v (λ x. tt) is
kind_read kind.Air word v is = air_kind (bytes_eq air_word word) v is
kind_read kind.Frames word v is = frames_kind (bytes_eq frames_word word) v is

-- only a weight and a BSS may be left out
kind_absent : (arg : Arg) (v : Value) → absent_arg arg ≡ Ok v → IsOfKind arg v
kind_absent kind.Weight v is =
    let same : value.Octet 1 ≡ v = cc in
    let small : 1 < 2 ^ 8 = omega arith in subst (IsOfKind kind.Weight) same small
kind_absent kind.Bss v is =
    let same : value.Octet 0 ≡ v = cc in
    let small : 0 < 2 ^ 8 = omega arith in subst (IsOfKind kind.Bss) same small
kind_absent arg v is = absurd (cc)

-- the values that were read of a line may be given for its arguments
pub kinds_read : (args : List Arg) (words : List (List ℕ)) (values : List Value) →
    read_args args words ≡ Ok values → AreOfKinds args values
kinds_read [] [] values is = let same : [] ≡ values = cc in subst (AreOfKinds []) same tt
kinds_read [] (word ∷ words) values is = absurd (cc)
kinds_read (arg ∷ args) [] values is =
    let a = both_ok (absent_arg arg) (read_args args []) values is in
    rw a.4 (kind_absent arg a.0 a.2, kinds_read args [] a.1 a.3)
kinds_read (arg ∷ args) (word ∷ words) values is =
    let a = both_ok (read_arg arg word) (read_args args words) values is in
    rw a.4 (kind_read arg word a.0 a.2, kinds_read args words a.1 a.3)
