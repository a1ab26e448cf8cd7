-- Proves that the canonical line of an entry is read as that entry, is printable, and is short enough. By
-- cases of the call's form and of the kinds of its arguments.
use Rattle.std.proofs.Common.{◌≡◌, ℕ, zero, suc, ◌+◌, ◌*◌, ◌^◌, ◌<◌, ◌≤◌, List, [], ◌∷◌, ◌++◌, length, length-append, drop, get_or, Bool, true, false, not, nat_eq, nat_le, ◌&&◌, ◌||◌, refl, sym, ◌∙◌, ap, append_assoc, arith, rules}
use Rattle.std.specs.Prelude.{Option, Some, None, is_none, Ok, filter, map, if◌then◌else◌}
use Rattle.std.proofs.lemmas.List.{drop_more}
use Rattle.std.specs.List.{list_all, join_with_byte}
use Rattle.std.specs.Fmt.{decimal}
use Rattle.std.proofs.lemmas.Bool.Decides.{nat_tests}
use Rattle.std.proofs.lemmas.Str.Parse.{IsNumeralModel, numerals_by_fold}
use Rattle.std.proofs.lemmas.Fmt.{digits_decimal, digits_value-decimal, decimal_nonempty, length-decimal-le, first_decimal, decimal_digit}
use Rattle.wf_frame.specs.declared.classes.Class.{Class}
use Rattle.wf_frame.specs.declared.classes.Class.TheVariants.{Bk, Be, Vi, Vo}
use Rattle.wf_frame.specs.declared.notes.Note.{Note}
use Rattle.wf_frame.specs.declared.notes.Note.TheVariants.{Asked}
use Rattle.wf_frame.specs.declared.notes.Ask.TheVariants.{Rate, Pull, Done, Group, Service}
use Rattle.wf_frame.specs.declared.notes.GroupAsk.{GroupAsk}
use Rattle.wf_frame.specs.declared.notes.GroupAsk.TheVariants as group
use Rattle.wf_frame.specs.declared.notes.ServiceAsk.{ServiceAsk}
use Rattle.wf_frame.specs.declared.notes.ServiceAsk.TheVariants as service
use Rattle.wf_frame.specs.declared.notes.AskedRate.TheVariants.{Ht}
use Rattle.wf_frame.specs.Classes.{class_word}
use Rattle.wf_def_lists.specs.Lengths.{greatest_body}
use Rattle.wf_io.specs.Digits.{is_digit, value_from}
use Rattle.wf_io.specs.Words.{spaced}
use Rattle.wf_io.proofs.Spaces.{spaced-append}
use Rattle.wf_frame.specs.declared.calls.CallForm.{CallForm}
use Rattle.wf_frame.specs.declared.calls.CallForm.TheVariants as call
use Rattle.wf_frame.specs.declared.calls.RateFormat.{RateFormat}
use Rattle.wf_frame.specs.declared.calls.RateFormat.TheVariants as format
use Rattle.wf_frame.specs.declared.calls.Arg.{Arg}
use Rattle.wf_frame.specs.declared.calls.Arg.TheVariants as arg
use Rattle.wf_frame.specs.declared.calls.Value.{Value}
use Rattle.wf_frame.specs.declared.calls.Value.TheVariants.{Short, Octet, Long, Exchange, Class as TheClass, Format, Guard, Heard, Air, Frames, End}
use Rattle.wf_trace.specs.declared.meaning.Place.{Place}
use Rattle.wf_trace.specs.declared.meaning.Meaning.TheVariants.{Entry}
use Rattle.wf_trace.specs.Lines.{is_printable}
use Rattle.wf_trace.specs.Words.{words, parts, in_front, is_word, is_number, number_of, in_range}
use Rattle.wf_frame.specs.declared.calls.Argument.{Argument}
use Rattle.wf_frame.specs.declared.calls.Argument.TheVariants as argument
use Rattle.wf_frame.specs.Calls.{arguments_of, args_of, call_word, default_of, format_word, format_named, note_form, form_of_limits, limits, form_of_group, in_bss, form_of_service, argument_kind, note_values, values_of_group, values_of_service, IsOfKind, AreOfKinds}
use Rattle.wf_frame.proofs.TableLaws.{made_again}
use Rattle.wf_trace.specs.Grammar.{read_arg, read_args, guard_word, heard_word, long_most}
use Rattle.wf_trace.specs.Notes.{in_form, read_call}
use Rattle.wf_trace.specs.Meanings.{meant, entry_of}
use Rattle.wf_trace.specs.Printing.{is_left_out, value_word, words_of_value, words_of_values, note_words, caller_words, note_text, NumbersAreInRange}

own : IsNumeralModel (λ ds. list_all is_digit ds ≡ true) (value_from 0)
own = numerals_by_fold _ (search rules) value_from (search rules)

first_digit : (n : ℕ) → n < 2 ^ 64 → (nat_eq (length (decimal n)) 1
    || not (nat_eq (get_or (decimal n) 0 0) 48)) ≡ true
first_digit zero small = let one = decimal_digit 0 (omega arith) in rw one refl
first_digit (suc n) small =
    let above = first_decimal (suc n) (omega arith) small in
    let other : nat_eq (get_or (decimal (suc n)) 0 0) 48 ≡ false = grind (arith, nat_tests) in
    rw other (elim (nat_eq (length (decimal (suc n))) 1) as
    (λ b. (b || true) ≡ true) [ true ↦ refl | false ↦ refl ])

-- the decimal digits of a number are read as the number
number_of-decimal : (n : ℕ) → n < 2 ^ 32 → number_of (decimal n) ≡ Some n
number_of-decimal n small =
    let fits : n < 2 ^ 64 = omega arith in
    let some = decimal_nonempty n fits in
    let few = length-decimal-le 10 n (omega arith) (omega arith) fits in
    let low : nat_le 1 (length (decimal n)) ≡ true = grind (arith, nat_tests) in
    let high : nat_le (length (decimal n)) 10 ≡ true = grind (arith, nat_tests) in
    let digits = digits_decimal own n fits in
    let is : is_number (decimal n) ≡ true = rw (high, low, digits, first_digit n fits) refl in
    rw is (ap Some (digits_value-decimal own n fits))

-- the word of each kind of argument is read as its value
number_read : (low high value : ℕ) → low ≤ value → value ≤ high → value < 2 ^ 32 →
    in_range low high (number_of (decimal value)) ≡ Ok value
number_read low high value above below small =
    let one : nat_le low value ≡ true = grind (arith, nat_tests) in
    let two : nat_le value high ≡ true = grind (arith, nat_tests) in
    rw (number_of-decimal value small, one, two) refl

short_read : (n : ℕ) → n < 2 ^ 16 → read_arg arg.Short (decimal n) ≡ Ok (Short n)
short_read n small = rw (number_read 0 65535 n (omega arith) (omega arith) (omega arith)) refl

octet_read : (n : ℕ) → n < 2 ^ 8 → read_arg arg.Octet (decimal n) ≡ Ok (Octet n)
octet_read n small = rw (number_read 0 255 n (omega arith) (omega arith) (omega arith)) refl

long_read : (n : ℕ) → n < 2 ^ 32 → read_arg arg.Long (decimal n) ≡ Ok (Long n)
long_read n small = rw (number_read 0 4294967295 n (omega arith) (omega arith) small) refl

exchange_read : (n : ℕ) → n < 2 ^ 32 → read_arg arg.Exchange (decimal n) ≡ Ok (Exchange n)
exchange_read n small = rw (number_read 0 4294967295 n (omega arith) (omega arith) small) refl

class_read : (c : Class) → read_arg arg.Class (class_word c) ≡ Ok (TheClass c)
class_read Bk = refl
class_read Be = refl
class_read Vi = refl
class_read Vo = refl

format_read : (f : RateFormat) → read_arg arg.Format (format_word f) ≡ Ok (Format f)
format_read format.Vht = refl
format_read format.He = refl
format_read format.Ofdm = refl
format_read format.Dsss = refl

guard_read : (short : Bool) → read_arg arg.Guard (guard_word short) ≡ Ok (Guard short)
guard_read true = refl
guard_read false = refl

heard_read : (heard : Bool) → read_arg arg.Heard (heard_word heard) ≡ Ok (Heard heard)
heard_read true = refl
heard_read false = refl

-- the word of a number is no format
digits_format : (digits : List ℕ) → list_all is_digit digits ≡ true → format_named digits ≡ None
digits_format [] all = refl
digits_format (octet ∷ digits) all =
    let vht : nat_eq 118 octet ≡ false = grind (arith, nat_tests) in
    let he : nat_eq 104 octet ≡ false = grind (arith, nat_tests) in
    let ofdm : nat_eq 111 octet ≡ false = grind (arith, nat_tests) in
    let dsss : nat_eq 100 octet ≡ false = grind (arith, nat_tests) in
    rw (vht, he, ofdm, dsss) refl

number_format : (n : ℕ) → n < 2 ^ 8 → format_named (decimal n) ≡ None
number_format n small = digits_format (decimal n) (digits_decimal own n (omega arith))

len_read : (len : ℕ) → 1 ≤ len → len ≤ greatest_body → read_arg arg.Length (decimal len) ≡ Ok (Short len)
len_read len some most = rw (number_read 1 greatest_body len some most (omega arith)) refl

-- a plain word is not empty, and its octets are printable and not spaces
abbrev is_mark : ℕ → Bool
is_mark octet = nat_le 33 octet && nat_le octet 126

abbrev IsPlain : List ℕ → Type 0
IsPlain word = (is_word word ≡ true) × (list_all is_mark word ≡ true)

abbrev ArePlain : List (List ℕ) → Type 0
ArePlain [] = Unit {0}
ArePlain (word ∷ words) = IsPlain word × ArePlain words

split_and : (a b : Bool) → (a && b) ≡ true → (a ≡ true) × (b ≡ true)
split_and true b is = (refl, is)
split_and false b is = absurd (cc)

join_and : (a b : Bool) → a ≡ true → b ≡ true → (a && b) ≡ true
join_and a b one two = rw (one, two) refl

all_weaker : (p q : ℕ → Bool) → ((octet : ℕ) → p octet ≡ true → q octet ≡ true) → (octets : List ℕ) →
    list_all p octets ≡ true → list_all q octets ≡ true
all_weaker p q weaker [] all = refl
all_weaker p q weaker (octet ∷ octets) all =
    let both = split_and (p octet) (list_all p octets) all in
    join_and (q octet) (list_all q octets) (weaker octet both.0) (all_weaker p q weaker octets both.1)

digit_mark : (octet : ℕ) → is_digit octet ≡ true → is_mark octet ≡ true
digit_mark octet is =
    let both = split_and (nat_le 48 octet) (nat_le octet 57) is in
    let low : 48 ≤ octet = grind (arith, nat_tests) in
    let high : octet ≤ 57 = grind (arith, nat_tests) in
    join_and (nat_le 33 octet) (nat_le octet 126) (grind (arith, nat_tests)) (grind (arith, nat_tests))

mark_printable : (octet : ℕ) → is_mark octet ≡ true → is_printable octet ≡ true
mark_printable octet is =
    let both = split_and (nat_le 33 octet) (nat_le octet 126) is in
    let low : 33 ≤ octet = grind (arith, nat_tests) in
    join_and (nat_le 32 octet) (nat_le octet 126) (grind (arith, nat_tests)) both.1

mark_other : (octet : ℕ) → is_mark octet ≡ true → nat_eq octet 32 ≡ false
mark_other octet is =
    let both = split_and (nat_le 33 octet) (nat_le octet 126) is in
    let low : 33 ≤ octet = grind (arith, nat_tests) in
    grind (arith, nat_tests)

some_word : (word : List ℕ) → 0 < length word → is_word word ≡ true
some_word [] some = absurd (omega arith)
some_word (octet ∷ word) some = refl

number_plain : (n : ℕ) → n < 2 ^ 32 → IsPlain (decimal n)
number_plain n small =
    let fits : n < 2 ^ 64 = omega arith in (
      some_word (decimal n) (decimal_nonempty n fits),
      all_weaker is_digit is_mark digit_mark (decimal n) (digits_decimal own n fits),
    )

-- the word of each call is plain; the last line covers all other forms
name_plain : (form : CallForm) → IsPlain (call_word form)
name_plain call.Join = (refl, refl)
name_plain form = (refl, refl)

-- ---- each value of a call is read from its word

-- the argument reads the value from its word, which is plain and short
pub record IsTold (a : Arg) (v : Value) : Type 0 where
  pub read : read_arg a (value_word v) ≡ Ok v
  pub plain : IsPlain (value_word v)
  pub short : length (value_word v) ≤ 10

-- the same for each argument
abbrev pub AreTold : List Arg → List Value → Type 0
AreTold [] [] = Unit {0}
AreTold (a ∷ args) (v ∷ values) = IsTold a v × AreTold args values
AreTold _ _ = ⊥

number_short : (n : ℕ) → n < 2 ^ 32 → length (decimal n) ≤ 10
number_short n small = length-decimal-le 10 n (omega arith) (omega arith) (omega arith)

short_told : (n : ℕ) → n < 2 ^ 16 → IsTold arg.Short (Short n)
short_told n small = let fits : n < 2 ^ 32 = omega arith in
    record { read = short_read n small; plain = number_plain n fits; short = number_short n fits }

octet_told : (n : ℕ) → n < 2 ^ 8 → IsTold arg.Octet (Octet n)
octet_told n small = let fits : n < 2 ^ 32 = omega arith in
    record { read = octet_read n small; plain = number_plain n fits; short = number_short n fits }

bss_told : (n : ℕ) → n < 2 ^ 8 → IsTold arg.Bss (Octet n)
bss_told n small = let fits : n < 2 ^ 32 = omega arith in
    record { read = octet_read n small; plain = number_plain n fits; short = number_short n fits }

weight_told : (n : ℕ) → n < 2 ^ 8 → IsTold arg.Weight (Octet n)
weight_told n small = let fits : n < 2 ^ 32 = omega arith in
    record { read = octet_read n small; plain = number_plain n fits; short = number_short n fits }

long_told : (n : ℕ) → n < 2 ^ 32 → IsTold arg.Long (Long n)
long_told n small =
    record { read = long_read n small; plain = number_plain n small; short = number_short n small }

exchange_told : (n : ℕ) → n < 2 ^ 32 → IsTold arg.Exchange (Exchange n)
exchange_told n small =
    record { read = exchange_read n small; plain = number_plain n small; short = number_short n small }

length_told : (n : ℕ) → (1 ≤ n) × (n ≤ greatest_body) → IsTold arg.Length (Short n)
length_told n within =
    let most : n ≤ greatest_body = within.1 in
    let fits : n < 2 ^ 32 = omega arith in
    record { read = len_read n within.0 within.1; plain = number_plain n fits; short = number_short n fits }

class_told : (c : Class) → IsTold arg.Class (TheClass c)
class_told Bk = record { read = refl; plain = (refl, refl); short = omega arith }
class_told Be = record { read = refl; plain = (refl, refl); short = omega arith }
class_told Vi = record { read = refl; plain = (refl, refl); short = omega arith }
class_told Vo = record { read = refl; plain = (refl, refl); short = omega arith }

format_told : (f : RateFormat) → IsTold arg.Format (Format f)
format_told format.Vht = record { read = refl; plain = (refl, refl); short = omega arith }
format_told format.He = record { read = refl; plain = (refl, refl); short = omega arith }
format_told format.Ofdm = record { read = refl; plain = (refl, refl); short = omega arith }
format_told format.Dsss = record { read = refl; plain = (refl, refl); short = omega arith }

guard_told : (b : Bool) → IsTold arg.Guard (Guard b)
guard_told true = record { read = refl; plain = (refl, refl); short = omega arith }
guard_told false = record { read = refl; plain = (refl, refl); short = omega arith }

heard_told : (b : Bool) → IsTold arg.Heard (Heard b)
heard_told true = record { read = refl; plain = (refl, refl); short = omega arith }
heard_told false = record { read = refl; plain = (refl, refl); short = omega arith }

air_told : IsTold arg.Air Air
air_told = record { read = refl; plain = (refl, refl); short = omega arith }

frames_told : IsTold arg.Frames Frames
frames_told = record { read = refl; plain = (refl, refl); short = omega arith }

end_told : (b : Bool) → IsTold arg.End (End b)
end_told true = record { read = refl; plain = (refl, refl); short = omega arith }
end_told false = record { read = refl; plain = (refl, refl); short = omega arith }

number_told : (low high n : ℕ) → (low ≤ n) × (n ≤ high) → n < 2 ^ 32 → IsTold (arg.Number low high) (Long n)
number_told low high n within small = record {
  read = rw (number_read low high n within.0 within.1 small) refl;
  plain = number_plain n small;
  short = number_short n small;
}

-- whether the numbers of a kind have at most 32 bits
abbrev is_small : Arg → Bool
is_small (arg.Number low high) = nat_le high long_most
is_small _ = true

-- this holds for each value that may be given for an argument
kind_told : (a : Arg) (v : Value) → is_small a ≡ true → IsOfKind a v → IsTold a v
kind_told arg.Short (Short n) small is = short_told n is
kind_told arg.Octet (Octet n) small is = octet_told n is
kind_told arg.Long (Long n) small is = long_told n is
kind_told arg.Exchange (Exchange n) small is = exchange_told n is
kind_told arg.Length (Short n) small is = length_told n is
kind_told arg.Weight (Octet n) small is = weight_told n is
kind_told arg.Bss (Octet n) small is = bss_told n is
kind_told arg.Class (TheClass c) small is = class_told c
kind_told arg.Format (Format f) small is = format_told f
kind_told arg.Guard (Guard b) small is = guard_told b
kind_told arg.Heard (Heard b) small is = heard_told b
kind_told arg.Air Air small is = air_told
kind_told arg.Frames Frames small is = frames_told
kind_told arg.End (End b) small is = end_told b
kind_told (arg.Number low high) (Long n) small is =
    let most : high ≤ 4294967295 = grind (arith, nat_tests) in
    let below : n ≤ high = is.1 in number_told low high n is (omega arith)
kind_told a v small is = absurd is

-- it holds for the arguments of calls; the last line covers all other arguments
argument_small : (a : Argument) → is_small (argument_kind a) ≡ true
argument_small argument.Station = refl
argument_small a = refl

values_told : (arguments : List Argument) (values : List Value) →
    AreOfKinds (map argument_kind arguments) values → AreTold (map argument_kind arguments) values
values_told [] [] are = tt
values_told [] (v ∷ values) are = absurd are
values_told (a ∷ arguments) [] are = absurd are
values_told (a ∷ arguments) (v ∷ values) are =
    (kind_told (argument_kind a) v (argument_small a) are.0, values_told arguments values are.1)

-- it holds for each value of a call
pub note_told : (note : Note) → NumbersAreInRange note → AreTold (args_of (note_form note)) (note_values note)
note_told note r = values_told (arguments_of (note_form note)) (note_values note) r

-- ---- the values of all arguments are read from their words

read_cons : (a : Arg) (args : List Arg) (word : List ℕ) (texts : List (List ℕ)) (v : Value) (values
    : List Value) →
    read_arg a word ≡ Ok v → read_args args texts ≡ Ok values →
    read_args (a ∷ args) (word ∷ texts) ≡ Ok (v ∷ values)
read_cons a args word texts v values one others = rw (one, others) refl

-- an argument without a default, before others
told_plainly : (a : Arg) (args : List Arg) (texts : List (List ℕ)) (v : Value) (values : List Value) →
    default_of a ≡ None → IsTold a v → read_args args texts ≡ Ok values →
    read_args (a ∷ args) (words_of_value a v ++ texts) ≡ Ok (v ∷ values)
told_plainly a args texts v values none told others = rw none (read_cons a args (value_word v)
    texts v values told.read others)

-- a value whose word is left out is the default of its argument
left_out : (usual : Option Value) (v : Value) → is_left_out usual v ≡ true → usual ≡ Some v
left_out (Some (Octet usual)) (Octet n) out = let same : n ≡ usual = grind (arith, nat_tests) in rw same refl
left_out usual v out = absurd (cc)

-- the last argument, which may be left out
told_last : (a : Arg) (v : Value) (out : Bool) → is_left_out (default_of a) v ≡ out → IsTold a v →
    read_args (a ∷ []) ((if out then [] else value_word v ∷ []) ++ []) ≡ Ok (v ∷ [])
told_last a v true out told = rw (left_out (default_of a) v out) refl
told_last a v false out told = read_cons a [] (value_word v) [] v [] told.read refl

-- whether no argument except the last has a default
abbrev is_default_last : List Arg → Bool
is_default_last (a ∷ b ∷ args) = is_none (default_of a) && is_default_last (b ∷ args)
is_default_last _ = true

-- this is true of the arguments of each call; the last line covers all other forms
default_last : (form : CallForm) → is_default_last (args_of form) ≡ true
default_last call.Join = refl
default_last form = refl

no_default : (usual : Option Value) → is_none usual ≡ true → usual ≡ None
no_default None is = refl
no_default (Some v) is = absurd (cc)

-- the words of such values are plain, and at most as many as the arguments
plain_or_out : (b : Bool) (word : List ℕ) (texts : List (List ℕ)) → IsPlain word → ArePlain texts →
    ArePlain ((if b then [] else word ∷ []) ++ texts)
plain_or_out true word texts plain others = others
plain_or_out false word texts plain others = (plain, others)

values_plain : (args : List Arg) (values : List Value) → AreTold args values →
    ArePlain (words_of_values args values)
values_plain [] [] told = tt
values_plain [] (v ∷ values) told = absurd told
values_plain (a ∷ args) [] told = absurd told
values_plain (a ∷ args) (v ∷ values) told =
    plain_or_out (is_left_out (default_of a) v) (value_word v) (words_of_values args values) told.0.plain
    (values_plain args values told.1)

note_plain : (note : Note) → NumbersAreInRange note → ArePlain (note_words note)
note_plain note r = (
  name_plain (note_form note),
  values_plain (args_of (note_form note)) (note_values note) (note_told note r),
)

-- ---- the words of a call are read as the call

texts_read : (args : List Arg) (values : List Value) → is_default_last args ≡ true → AreTold args values →
    read_args args (words_of_values args values) ≡ Ok values
texts_read [] [] last told = refl
texts_read [] (v ∷ values) last told = absurd told
texts_read (a ∷ args) [] last told = absurd told
texts_read (a ∷ []) (v ∷ []) last told = told_last a v (is_left_out (default_of a) v) refl told.0
texts_read (a ∷ []) (v ∷ w ∷ values) last told = absurd told.1
texts_read (a ∷ b ∷ args) (v ∷ values) last told =
    let both = split_and (is_none (default_of a)) (is_default_last (b ∷ args)) last in
    told_plainly a (b ∷ args) (words_of_values (b ∷ args) values) v values
    (no_default (default_of a) both.0) told.0 (texts_read (b ∷ args) values both.1 told.1)

-- a pull has the words of its limits
pull_read : (c : Class) (frames air : Option ℕ) → read_call (note_words (Asked (Pull c (limits frames air))))
    ≡ in_form (form_of_limits frames air) (words_of_values (args_of (form_of_limits frames air))
    (note_values (Asked (Pull c (limits frames air)))))
pull_read c None None = refl
pull_read c (Some n) None = refl
pull_read c None (Some air) = refl
pull_read c (Some n) (Some air) = refl

-- a call about group frames has a form of its own
group_read : (bss : ℕ) (ask : GroupAsk) → read_call (note_words (Asked (Group (in_bss bss ask))))
    ≡ in_form (form_of_group ask)
    (words_of_values (args_of (form_of_group ask)) (values_of_group ask ++ Octet bss ∷ []))
group_read bss (group.Accept len) = refl
group_read bss group.Beacon = refl
group_read bss group.Pull = refl
group_read bss group.Done = refl

-- so has a call about service periods
service_read : (ask : ServiceAsk) → read_call (note_words (Asked (Service ask)))
    ≡ in_form (form_of_service ask) (words_of_values (args_of (form_of_service ask)) (values_of_service ask))
service_read (service.Set station classes most) = refl
service_read (service.Trigger station) = refl
service_read (service.End station) = refl

-- a rate without a format has a number in its place; the last line covers all other calls
form_read : (note : Note) → NumbersAreInRange note → read_call (note_words note)
    ≡ in_form (note_form note) (words_of_values (args_of (note_form note)) (note_values note))
form_read (Asked (Rate station (Ht mcs mhz short))) r = rw (number_format mcs r.1.0) refl
form_read (Asked (Pull c l)) r = pull_read c l.frames l.air
form_read (Asked (Done exchange heard None)) r = refl
form_read (Asked (Group call)) r = group_read call.bss call.ask
form_read (Asked (Service ask)) r = service_read ask
form_read note r = refl

note_read : (note : Note) → NumbersAreInRange note → read_call (note_words note) ≡ Ok note
note_read note r =
    let read = texts_read (args_of (note_form note)) (note_values note) (default_last (note_form note))
    (note_told note r) in
    form_read note r ∙ rw (read, made_again note) refl

not_zero : (n : ℕ) → nat_eq (suc n) 0 ≡ false
not_zero n = grind (arith, nat_tests)

caller_plain : (caller : ℕ) (others : List (List ℕ)) → caller < 2 ^ 16 → ArePlain others →
    ArePlain (caller_words caller ++ others)
caller_plain zero others small are = are
caller_plain (suc n) others small are = let digits = number_plain (suc n) (omega arith) in
    rw (not_zero n) ((refl, digits.1), are)

-- words separated by one space are read as these words
parts_word : (word rest : List ℕ) → list_all is_mark word ≡ true →
    parts (word ++ 32 ∷ rest) ≡ word ∷ parts rest
parts_word [] rest marks = refl
parts_word (octet ∷ word) rest marks =
    let both = split_and (is_mark octet) (list_all is_mark word) marks in
    rw (mark_other octet both.0) (ap (in_front octet) (parts_word word rest both.1))

parts_last : (word : List ℕ) → list_all is_mark word ≡ true → parts word ≡ word ∷ []
parts_last [] marks = refl
parts_last (octet ∷ word) marks =
    let both = split_and (is_mark octet) (list_all is_mark word) marks in
    rw (mark_other octet both.0) (ap (in_front octet) (parts_last word both.1))

kept : (word : List ℕ) (others : List (List ℕ)) → is_word word ≡ true →
    filter is_word (word ∷ others) ≡ word ∷ filter is_word others
kept word others some = rw some refl

words-joined : (ws : List (List ℕ)) → ArePlain ws → words (join_with_byte 32 ws) ≡ ws
words-joined [] are = refl
words-joined (word ∷ []) are = rw (parts_last word are.0.1) (kept word [] are.0.0)
words-joined (word ∷ next ∷ others) are =
    rw (parts_word word (join_with_byte 32 (next ∷ others)) are.0.1)
    (kept word (parts (join_with_byte 32 (next ∷ others))) are.0.0
    ∙ ap (λ l. word ∷ l) (words-joined (next ∷ others) are.1))

-- and their octets are printable
all_append : (p : ℕ → Bool) (xs ys : List ℕ) → list_all p xs ≡ true → list_all p ys ≡ true →
    list_all p (xs ++ ys) ≡ true
all_append p [] ys one two = two
all_append p (x ∷ xs) ys one two =
    let both = split_and (p x) (list_all p xs) one in
    join_and (p x) (list_all p (xs ++ ys)) both.0 (all_append p xs ys both.1 two)

printable-joined : (ws : List (List ℕ)) → ArePlain ws → list_all is_printable (join_with_byte 32 ws) ≡ true
printable-joined [] are = refl
printable-joined (word ∷ []) are = all_weaker is_mark is_printable mark_printable word are.0.1
printable-joined (word ∷ next ∷ others) are =
    all_append is_printable word (32 ∷ join_with_byte 32 (next ∷ others))
    (all_weaker is_mark is_printable mark_printable word are.0.1) (printable-joined (next ∷ others) are.1)

-- after a head, a line that begins with the word of a call is an entry; the last line covers all other
-- forms
form_line : (form : CallForm) (texts : List (List ℕ)) (place : Place) →
    meant (Some place) (call_word form ∷ texts)
    ≡ entry_of 0 (Some place) (call_word form ∷ texts)
form_line call.Join texts place = refl
form_line form texts place = refl

entry_read : (caller : ℕ) (note : Note) (place : Place) → NumbersAreInRange note → place.count < place.limit →
    entry_of caller (Some place) (note_words note) ≡ Ok (Entry caller note)
entry_read caller note place r room =
    let more : nat_le place.limit place.count ≡ false = grind (arith, nat_tests) in
    rw (note_read note r, more) refl

with_caller : (caller : ℕ) (note : Note) (place : Place) → caller < 2 ^ 16 → NumbersAreInRange note →
    place.count < place.limit →
    meant (Some place) (caller_words caller ++ note_words note) ≡ Ok (Entry caller note)
with_caller zero note place small r room =
    form_line (note_form note) (words_of_values (args_of (note_form note)) (note_values note)) place
    ∙ entry_read 0 note place r room
with_caller (suc n) note place small r room =
    rw (not_zero n, number_read 0 65535 (suc n) (omega arith) (omega arith) (omega arith))
    (entry_read (suc n) note place r room)

pub text_read : (caller : ℕ) (note : Note) (place : Place) → caller < 2 ^ 16 → NumbersAreInRange note →
    place.count < place.limit →
    meant (Some place) (words (note_text caller note)) ≡ Ok (Entry caller note)
text_read caller note place small r room =
    rw (words-joined (caller_words caller ++ note_words note)
    (caller_plain caller (note_words note) small (note_plain note r)))
    (with_caller caller note place small r room)

pub text_printable : (caller : ℕ) (note : Note) → caller < 2 ^ 16 → NumbersAreInRange note →
    list_all is_printable (note_text caller note) ≡ true
text_printable caller note small r = printable-joined (caller_words caller ++ note_words note)
    (caller_plain caller (note_words note) small (note_plain note r))

-- one more value at the end of a line
pub more_values : (out : List ℕ) (args : List Argument) (values : List Value) (i : ℕ) (a :
    Argument) (v : Value) →
    i < length args → i < length values →
    out ++ spaced (words_of_values (map argument_kind (drop i args)) (drop i values))
    ≡ (out ++ spaced (words_of_value (argument_kind (get_or args i a)) (get_or values i v)))
    ++ spaced (words_of_values (map argument_kind (drop (i + 1) args)) (drop (i + 1) values))
more_values out args values i a v inside within =
    let more = words_of_values (map argument_kind (drop (i + 1) args)) (drop (i + 1) values) in
    let one = words_of_value (argument_kind (get_or args i a)) (get_or values i v) in
    rw (drop_more args i a inside, drop_more values i v within, spaced-append one more)
    (sym (append_assoc out (spaced one) (spaced more)))

-- ---- the length of a line

abbrev AreShort : List (List ℕ) → Type 0
AreShort [] = Unit {0}
AreShort (word ∷ texts) = (length word ≤ 10) × AreShort texts

short-joined : (ws : List (List ℕ)) → AreShort ws → length (join_with_byte 32 ws) ≤ 11 * length ws
short-joined [] are = omega arith
short-joined (word ∷ []) are = let one = are.0 in omega arith
short-joined (word ∷ next ∷ others) are =
    let one = are.0 in
    let more = short-joined (next ∷ others) are.1 in
    let all = length-append word (32 ∷ join_with_byte 32 (next ∷ others)) in omega arith

short_or_out : (b : Bool) (word : List ℕ) (texts : List (List ℕ)) (n : ℕ) → length word ≤ 10 →
    AreShort texts × (length texts ≤ n) →
    AreShort ((if b then [] else word ∷ []) ++ texts) × (length ((if b then [] else word ∷ []) ++
    texts) ≤ n + 1)
short_or_out true word texts n short others = let few = others.1 in (others.0, omega arith)
short_or_out false word texts n short others = let few = others.1 in ((short, others.0), omega arith)

values_short : (args : List Arg) (values : List Value) → AreTold args values →
    AreShort (words_of_values args values) × (length (words_of_values args values) ≤ length args)
values_short [] [] told = (tt, omega arith)
values_short [] (v ∷ values) told = absurd told
values_short (a ∷ args) [] told = absurd told
values_short (a ∷ args) (v ∷ values) told =
    let both = short_or_out (is_left_out (default_of a) v) (value_word v) (words_of_values args values)
    (length args) told.0.short (values_short args values told.1) in
    let few = both.1 in (both.0, omega arith)

-- the last line covers all other forms
short_name : (form : CallForm) → (length (call_word form) ≤ 10) × (length (args_of form) ≤ 6)
short_name call.Join = (omega arith, omega arith)
short_name form = (omega arith, omega arith)

short_caller : (caller : ℕ) (others : List (List ℕ)) → caller < 2 ^ 16 → AreShort others → length others ≤ 7 →
    AreShort (caller_words caller ++ others) × (length (caller_words caller ++ others) ≤ 8)
short_caller zero others small are few = (are, omega arith)
short_caller (suc n) others small are few =
    let digits : length (decimal (suc n)) ≤ 5 = length-decimal-le 5 (suc n) (omega arith) (omega arith)
    (omega arith) in
    rw (not_zero n) ((omega arith, are), omega arith)

-- the canonical line of an entry has at most 88 octets
pub short_text : (caller : ℕ) (note : Note) → caller < 2 ^ 16 → NumbersAreInRange note →
    length (note_text caller note) ≤ 88
short_text caller note small r =
    let name = short_name (note_form note) in
    let values = values_short (args_of (note_form note)) (note_values note) (note_told note r) in
    let few : length (note_words note) ≤ 7 = let most = values.1 in let least = name.1 in omega arith in
    let both = short_caller caller (note_words note) small (name.0, values.0) few in
    let all = short-joined (caller_words caller ++ note_words note) both.0 in
    let words = both.1 in omega arith
