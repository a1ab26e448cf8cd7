-- Proves that reading lines with a place carried along gives what `reading` defines, in which each line is
-- judged by the lines before it. By induction over the lines.
use Rattle.std.proofs.Common.{◌≡◌, ℕ, ◌+◌, List, [], ◌∷◌, ◌++◌, Bool, true, false, cond, nat_eq, refl, sym, ◌∙◌, ap, subst, arith}
use Rattle.std.specs.Prelude.{Option, Some, None, IsSome, Result, Ok, Err, codes, count_by, nat_le}
use Rattle.std.specs.Str.{bytes_eq}
use Rattle.std.proofs.lemmas.Bool.Decides.{nat_tests}
use Rattle.std.proofs.lemmas.List.Sums.{sum_by-append}
use Rattle.wf_frame.specs.declared.settings.Config.{Config}
use Rattle.wf_frame.specs.declared.notes.Note.{Note}
use Rattle.wf_trace.specs.declared.cut.Piece.{Piece}
use Rattle.wf_trace.specs.declared.fault.FaultKind.{FaultKind}
use Rattle.wf_trace.specs.declared.fault.FaultKind.TheVariants.{TooLong}
use Rattle.wf_trace.specs.declared.reader.Item.TheVariants as item
use Rattle.wf_trace.specs.declared.meaning.Meaning.{Meaning}
use Rattle.wf_trace.specs.declared.meaning.Meaning.TheVariants.{Head, Entry, Finish}
use Rattle.wf_trace.specs.declared.meaning.Place.{Place}
use Rattle.wf_trace.specs.Pieces.{Numbered, pieces}
use Rattle.wf_trace.specs.Words.{words}
use Rattle.wf_trace.specs.Notes.{read_call}
use Rattle.wf_trace.specs.Meanings.{is_head, settings_of, settings_if, read_head, allowed, entry_of, against, caller_of, caller_first, headed, finished, named, meant}
use Rattle.wf_trace.specs.Reading.{Reading, with_item, head_of, first_some, head_among, is_call, place_behind, line_told, read_behind, reading}
use Rattle.wf_trace.specs.Reader.{next_place, said, read_lines}

-- a line with this meaning is a head without a place before it, or a call after a head
abbrev pub Sorted : Result Meaning FaultKind → Option Place → List (List ℕ) → Type 0
Sorted (Ok (Head config)) place ws = (place ≡ None) × (is_head ws ≡ true) × (settings_of ws ≡ Some config)
Sorted (Ok (Entry caller note)) place ws = IsSome place × (is_head ws ≡ false)
Sorted (Ok Finish) place ws = Unit {0}
Sorted (Err kind) place ws = Unit {0}

sorted_call : (caller : ℕ) (place : Option Place) (read : Result Note FaultKind) (ws : List (List ℕ)) →
    is_head ws ≡ false → Sorted (allowed caller place read) place ws
sorted_call caller place (Err fault) ws other = tt
sorted_call caller None (Ok note) ws other = tt
sorted_call caller (Some place) (Ok note) ws other =
    elim (nat_le place.limit place.count) as (λ b.
    Sorted (cond b (Err TooLong) (Ok (Entry caller note))) (Some place) ws) [
      | true ↦ tt
      | false ↦
          (refl, other)
    ]

sorted_against : (fault : FaultKind) (m : Result Meaning FaultKind) (place : Option Place)
    (ws : List (List ℕ)) → Sorted (against fault m) place ws
sorted_against fault (Ok meaning) place ws = tt
sorted_against fault (Err other) place ws = tt

sorted_caller : (caller : Result ℕ FaultKind) (place : Option Place) (words ws : List (List ℕ)) →
    is_head ws ≡ false → Sorted (caller_first caller place words) place ws
sorted_caller (Ok caller) place words ws other = sorted_call caller place (read_call words) ws other
sorted_caller (Err fault) place words ws other = sorted_against fault (entry_of 0 place words) place ws

sorted_head : (place : Option Place) (read : Result Config FaultKind) (ws : List (List ℕ)) →
    is_head ws ≡ true → settings_of ws ≡ settings_if read → Sorted (headed place read) place ws
sorted_head (Some place) read ws is settings = tt
sorted_head None (Ok config) ws is settings = (refl, is, settings)
sorted_head None (Err fault) ws is settings = tt

sorted_end : (place : Option Place) (words ws : List (List ℕ)) → Sorted (finished place words) place ws
sorted_end place (word ∷ words) ws = tt
sorted_end None [] ws = tt
sorted_end (Some place) [] ws = tt

sorted_named : (place : Option Place) (word : List ℕ) (words : List (List ℕ)) →
    Sorted (named place word words) place (word ∷ words)
sorted_named place word words = by_cell (bytes_eq word (codes "cell")) refl
  where
    by_end : (b : Bool) → bytes_eq word (codes "cell") ≡ false → Sorted (cond b (finished place words) (entry_of 0 place (word ∷ words))) place (word ∷ words)
    by_end true other = sorted_end place words (word ∷ words)
    by_end false other = sorted_call 0 place (read_call (word ∷ words)) (word ∷ words) other

    by_cell : (b : Bool) → bytes_eq word (codes "cell") ≡ b →
        Sorted (cond b (headed place (read_head words)) (cond (bytes_eq word (codes "end")) (finished place words) (entry_of 0 place (word ∷ words)))) place (word ∷ words)
    by_cell true is = sorted_head place (read_head words) (word ∷ words) is refl
    by_cell false is = by_end (bytes_eq word (codes "end")) is

no_head : (octet : ℕ) (octets : List ℕ) (words : List (List ℕ)) → nat_eq octet 99 ≡ false →
    is_head ((octet ∷ octets) ∷ words) ≡ false
no_head octet octets words other = rw other refl

pub sorted : (place : Option Place) (ws : List (List ℕ)) → Sorted (meant place ws) place ws
sorted place [] = tt
sorted place ([] ∷ words) = tt
sorted place ((octet ∷ octets) ∷ words) = by_at (nat_eq octet 64) refl
  where
    by_at : (b : Bool) → nat_eq octet 64 ≡ b → Sorted
        (cond b (caller_first (caller_of octets) place words) (named place (octet ∷ octets) words)) place
        ((octet ∷ octets) ∷ words)
    by_at true is =
        let other : nat_eq octet 99 ≡ false = grind (arith, nat_tests) in
        sorted_caller (caller_of octets) place words ((octet ∷ octets) ∷ words)
        (no_head octet octets words other)
    by_at false is = sorted_named place (octet ∷ octets) words

-- the head and the number of calls after one more line
first_some-assoc : (a b c : Option Config) → first_some a (first_some b c) ≡ first_some (first_some a b) c
first_some-assoc None b c = refl
first_some-assoc (Some config) b c = refl

first_some-none : (a : Option Config) → first_some a None ≡ a
first_some-none None = refl
first_some-none (Some config) = refl

head_among-more : (front : List Numbered) (line : Numbered) →
    head_among (front ++ line ∷ []) ≡ first_some (head_among front) (head_of (words line.octets))
head_among-more [] line = first_some-none (head_of (words line.octets))
head_among-more (other ∷ front) line =
    ap (first_some (head_of (words other.octets))) (head_among-more front line)
    ∙ first_some-assoc (head_of (words other.octets)) (head_among front) (head_of (words line.octets))

calls-more : (front : List Numbered) (line : Numbered) →
    count_by is_call (front ++ line ∷ []) ≡ count_by is_call front + cond (is_call line) 1 0
calls-more front line = sum_by-append (λ (l : Numbered). cond (is_call l) 1 0) front (line ∷ [])
    ∙ ap (λ n. count_by is_call front + n) (omega arith)

-- the place after these lines, before the next one
abbrev pub IsBehind : List Numbered → Option Place → Type 0
IsBehind front None = (head_among front ≡ None) × (count_by is_call front ≡ 0)
IsBehind front (Some place) = (config : Config) × (head_among front ≡ Some config) ×
    (place ≡ record { limit = config.calls; count = count_by is_call front })

behind_place : (front : List Numbered) (place : Option Place) → IsBehind front place →
    place_behind front ≡ place
behind_place front None is = rw (is.0) refl
behind_place front (Some place) is = rw (is.1) (ap Some (sym is.2))

no_settings : (ws : List (List ℕ)) → is_head ws ≡ false → head_of ws ≡ None
no_settings ws other = rw other refl

same_head : (front : List Numbered) (line : Numbered) → is_head (words line.octets) ≡ false →
    head_among (front ++ line ∷ []) ≡ head_among front
same_head front line other = head_among-more front line
    ∙ ap (first_some (head_among front)) (no_settings (words line.octets) other)
    ∙ first_some-none (head_among front)

same_calls : (front : List Numbered) (line : Numbered) → is_call line ≡ false →
    count_by is_call (front ++ line ∷ []) ≡ count_by is_call front
same_calls front line others = calls-more front line ∙ rw others (omega arith)

behind_head : (front : List Numbered) (line : Numbered) (config : Config) → IsBehind front None →
    is_head (words line.octets) ≡ true → settings_of (words line.octets) ≡ Some config →
    IsBehind (front ++ line ∷ []) (Some (record { limit = config.calls; count = 0 }))
behind_head front line config is head settings =
    let found : head_of (words line.octets) ≡ Some config = rw head settings in
    let none : is_call line ≡ false = rw head refl in
    (config, head_among-more front line ∙ rw (is.0) found, rw (same_calls front line none, is.1) refl)

behind_call : (front : List Numbered) (line : Numbered) (place : Option Place) → IsBehind front place →
    IsSome place → is_head (words line.octets) ≡ false →
    IsBehind (front ++ line ∷ []) (next_place place)
behind_call front line None is some other = absurd (cc)
behind_call front line (Some place) is some other =
    let yes : is_call line ≡ true = rw other refl in
    let one : count_by is_call (front ++ line ∷ []) ≡ count_by is_call front + 1 =
    calls-more front line ∙ rw yes refl in (
      is.0,
      same_head front line other ∙ is.1,
      rw one
          (ap (λ (p : Place). let q : Place = record { limit = p.limit; count = p.count + 1 } in q) is.2),
    )

-- the meaning of a line in its place
said_told : (m : Result Meaning FaultKind) (front : List Numbered) (line : Numbered) (place : Option Place)
    (others : Option Place → Reading) (after : Reading) → Sorted m place (words line.octets) →
    IsBehind front place → ((next : Option Place) → IsBehind (front ++ line ∷ []) next →
    others next ≡ after) → said m place line.line others ≡ line_told line.line m after
said_told (Ok (Head config)) front line place others after sort behind next =
    let none : IsBehind front None = subst (IsBehind front) sort.0 behind in
    ap (with_item (item.Head config)) (next _ (behind_head front line config none sort.1 sort.2))
said_told (Ok (Entry caller note)) front line place others after sort behind next =
    ap (with_item (item.Entry caller note)) (next _ (behind_call front line place behind sort.0 sort.1))
said_told (Ok Finish) front line place others after sort behind next = refl
said_told (Err kind) front line place others after sort behind next = refl

pub read_placed : (lines front : List Numbered) (end : Option Piece) (place : Option Place) →
    IsBehind front place →
    read_lines lines end place ≡ read_behind front lines end
read_placed [] front end place behind = rw (behind_place front place behind) refl
read_placed (line ∷ lines) front end place behind =
    rw (behind_place front place behind)
    (said_told (meant place (words line.octets)) front line place (λ p. read_lines lines end p)
    (read_behind (front ++ line ∷ []) lines end)
    (sorted place (words line.octets)) behind (λ p is. read_placed lines (front ++ line ∷ []) end p is))

-- the same from the first line on
pub reading_placed : (closed : Bool) (octets : List ℕ) →
    read_lines (pieces closed octets).lines (pieces closed octets).ending None ≡ reading closed octets
reading_placed closed octets = read_placed (pieces closed octets).lines [] (pieces closed octets).ending None
    (refl, refl)
