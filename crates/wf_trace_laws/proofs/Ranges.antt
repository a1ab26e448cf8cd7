-- Proves that the settings of a trace's head and the lengths of its frames are in their ranges, by
-- induction over words and lines, so that the laws hold for its run.
use Rattle.std.proofs.Common.{◌≡◌, ℕ, ◌≤◌, nat_le, Bool, true, false, ◌&&◌, ◌==◌, List, [], ◌∷◌, ◌++◌, Option, Some, None, Result, Ok, Err, refl, subst, arith, codes, replicate, if◌then◌else◌, slice_set}
use Rattle.std.specs.Str.{bytes_eq}
use Rattle.wf_frame.specs.declared.settings.Config.{Config}
use Rattle.wf_frame.specs.declared.settings.Field.{Field}
use Rattle.wf_frame.specs.Settings.{standard, lowest_of, greatest_of, with_value, IsInRange}
use Rattle.wf_def_lists.specs.Lengths.{greatest_body}
use Rattle.wf_frame.proofs.Ranges.{in_range as standard_in_range, set_in_range}
use Rattle.wf_frame.specs.declared.calls.Value.{Value}
use Rattle.wf_trace.specs.declared.cut.Piece.{Piece}
use Rattle.wf_trace.specs.declared.cut.Piece.TheVariants as piece
use Rattle.wf_trace.specs.declared.fault.FaultKind.{FaultKind}
use Rattle.wf_trace.specs.declared.fault.FaultKind.TheVariants as kind
use Rattle.wf_trace.specs.declared.meaning.Meaning.{Meaning}
use Rattle.wf_trace.specs.declared.meaning.Meaning.TheVariants as meaning
use Rattle.wf_trace.specs.declared.meaning.Place.{Place}
use Rattle.wf_trace.specs.declared.reader.Item.{Item}
use Rattle.wf_trace.specs.declared.reader.Item.TheVariants as item
use Rattle.wf_frame.specs.declared.calls.CallForm.{CallForm}
use Rattle.wf_frame.specs.declared.notes.Note.TheVariants.{Enqueue, Asked}
use Rattle.wf_frame.specs.Calls.{args_of, call_named, note_made}
use Rattle.wf_frame.proofs.TableLaws.{IsSized as HasSize, made_sized as note_sized}
use Rattle.wf_trace.specs.Grammar.{call_form, read_args}
use Rattle.wf_trace.specs.Notes.{made, noted, called, read_call}
use Rattle.wf_trace.proofs.ArgLaws.{kinds_read}
use Rattle.wf_trace.specs.Pieces.{Numbered, pieces}
use Rattle.wf_trace.specs.Words.{words, number_of, in_range}
use Rattle.wf_trace.specs.Settings.{worse, placed, set_one, read_words, value_read, was_seen, named_field, split_once, place_of}
use Rattle.wf_trace.specs.Meanings.{read_head, allowed, entry_of, against, caller_of, caller_first, headed, finished, named, meant}
use Rattle.wf_trace.specs.Reader.{IsLine}
use Rattle.wf_trace.specs.Reading.{Reading, line_told, stopped, read_behind, place_behind, reading}
use Rattle.wf_trace_laws.specs.Histories.{settings_among, history_among}
use Rattle.wf_law_runs.specs.Lengths.{HasLengths}
use Rattle.wf_trace_laws.specs.Laws.{HasLaws}
use Rattle.wf_law_runs.specs.Queues.{HasLength, IsAtMost}
use Rattle.wf_law_runs.proofs.AllLaws.{laws}
use Rattle.wf_frame.specs.declared.notes.Note.{Note}

-- ---- one setting

between : (low high value v : ℕ) (b : Bool) → (nat_le low v && nat_le v high) ≡ b →
    (if b then Ok v else Err kind.Range) ≡ Ok value → (low ≤ value) × (value ≤ high)
between low high value v true is e = let same : v ≡ value = cc in
    subst (λ x. (low ≤ x) × (x ≤ high)) same (grind arith, grind arith)
between low high value v false is e = absurd (cc)

read_between : (low high value : ℕ) (read : Option ℕ) → in_range low high read ≡ Ok value → (low ≤ value) ×
    (value ≤ high)
read_between low high value None e = absurd (cc)
read_between low high value (Some v) e = between low high value v (nat_le low v && nat_le v high) refl e

-- ---- the head

never_worse : (fault : FaultKind) (read : Result Config FaultKind) (c : Config) → worse fault read ≡ Ok c →
    IsInRange c
never_worse fault (Ok config) c e = absurd (cc)
never_worse fault (Err other) c e = absurd (cc)

-- the words after a setting keep settings in range
abbrev Keeps : (Config → Result Config FaultKind) → Type 0
Keeps others = (config c : Config) → IsInRange config → others config ≡ Ok c → IsInRange c

placed_in : (field : Field) (config c : Config) (others : Config → Result Config FaultKind)
    (value : Result ℕ FaultKind) (text : List ℕ)
    → value_read field text ≡ value → Keeps others → IsInRange config →
    placed value field config others ≡ Ok c → IsInRange c
placed_in field config c others (Ok value) text is keeps r e =
    keeps (with_value config field value) c (set_in_range config field value r
    (read_between (lowest_of field) (greatest_of field) value (number_of text) is)) e
placed_in field config c others (Err fault) text is keeps r e = never_worse fault (others config) c e

unseen_in : (field : Field) (text : List ℕ) (seen : List Bool) (config c : Config)
    (others : List Bool → Config → Result Config FaultKind) (b : Bool)
    → ((s : List Bool) → Keeps (others s)) → IsInRange config
    → (if b then worse kind.Word (others seen config)
    else placed (value_read field text) field config (others (slice_set seen (place_of field) true)))
    ≡ Ok c → IsInRange c
unseen_in field text seen config c others true keeps r e = never_worse kind.Word (others seen config) c e
unseen_in field text seen config c others false keeps r e =
    placed_in field config c (others (slice_set seen (place_of field) true))
    (value_read field text) text refl (keeps (slice_set seen (place_of field) true)) r e

one_in : (setting : Option (Field × List ℕ)) (seen : List Bool) (config c : Config)
    (others : List Bool → Config → Result Config FaultKind)
    → ((s : List Bool) → Keeps (others s)) → IsInRange config → set_one setting seen config others ≡ Ok c →
    IsInRange c
one_in None seen config c others keeps r e = never_worse kind.Word (others seen config) c e
one_in (Some p) seen config c others keeps r e =
    unseen_in p.0 p.1 seen config c others (was_seen seen p.0) keeps r e

words_in : (ws : List (List ℕ)) (seen : List Bool) → Keeps (read_words ws seen)
words_in [] seen config c r e = let same : config ≡ c = cc in subst IsInRange same r
words_in (word ∷ ws) seen config c r e = one_in (named_field (split_once word)) seen config c (read_words ws)
    (words_in ws) r e

pub standard_in : IsInRange standard
standard_in = standard_in_range standard refl

head_in : (ws : List (List ℕ)) (c : Config) → read_head ws ≡ Ok c → IsInRange c
head_in ws c e = words_in ws (replicate 28 false) standard c standard_in e

-- ---- a call

-- a frame has at least one octet, and at most those of the greatest body
abbrev IsSized : Note → Type 0
IsSized note = HasLength note × IsAtMost greatest_body note

abbrev IsSizedCall : Result Note FaultKind → Type 0
IsSizedCall (Ok note) = IsSized note
IsSizedCall (Err fault) = Unit {0}

made_sized : (note : Option Note) → HasSize note → IsSizedCall (made note)
made_sized None is = tt
made_sized (Some (Enqueue station tid flow len)) is = is
made_sized (Some (Asked ask)) is = (tt, tt)

noted_sized : (c : CallForm) (ws : List (List ℕ)) (read : Result (List Value) FaultKind) →
    read_args (args_of c) ws ≡ read → IsSizedCall (noted c read)
noted_sized c ws (Ok values) is = made_sized (note_made c values) (note_sized c values (kinds_read
    (args_of c) ws values is))
noted_sized c ws (Err fault) is = tt

called_sized : (c : Option CallForm) (ws : List (List ℕ)) → IsSizedCall (called c ws)
called_sized None ws = tt
called_sized (Some c) ws = noted_sized (call_form c ws) ws (read_args (args_of (call_form c ws)) ws) refl

call_sized : (ws : List (List ℕ)) → IsSizedCall (read_call ws)
call_sized [] = tt
call_sized (name ∷ ws) = called_sized (call_named name) ws

-- ---- a line

-- the settings of a head are in range, and the frame of a call has a length in range
abbrev HeadIn : Result Meaning FaultKind → Type 0
HeadIn (Ok (meaning.Head config)) = IsInRange config
HeadIn (Ok (meaning.Entry caller note)) = IsSized note
HeadIn (Ok meaning.Finish) = Unit {0}
HeadIn (Err fault) = Unit {0}

headed_in : (place : Option Place) (ws : List (List ℕ)) (read : Result Config FaultKind) →
    read_head ws ≡ read → HeadIn (headed place read)
headed_in (Some place) ws read is = tt
headed_in None ws (Ok config) is = head_in ws config is
headed_in None ws (Err fault) is = tt

may_in : (caller : ℕ) (note : Note) (b : Bool) → IsSized note →
    HeadIn (if b then Err kind.TooLong else Ok (meaning.Entry caller note))
may_in caller note true sized = tt
may_in caller note false sized = sized

allowed_in : (caller : ℕ) (place : Option Place) (read : Result Note FaultKind) → IsSizedCall read →
    HeadIn (allowed caller place read)
allowed_in caller place (Err fault) sized = tt
allowed_in caller None (Ok note) sized = tt
allowed_in caller (Some place) (Ok note) sized = may_in caller note (nat_le place.limit place.count) sized

against_in : (fault : FaultKind) (line : Result Meaning FaultKind) → HeadIn (against fault line)
against_in fault (Ok said) = tt
against_in fault (Err other) = tt

caller_in : (caller : Result ℕ FaultKind) (place : Option Place) (ws : List (List ℕ)) →
    HeadIn (caller_first caller place ws)
caller_in (Ok caller) place ws = allowed_in caller place (read_call ws) (call_sized ws)
caller_in (Err fault) place ws = against_in fault (entry_of 0 place ws)

finished_in : (place : Option Place) (ws : List (List ℕ)) → HeadIn (finished place ws)
finished_in place (word ∷ ws) = tt
finished_in None [] = tt
finished_in (Some place) [] = tt

named_in : (place : Option Place) (word : List ℕ) (ws : List (List ℕ)) (cell end : Bool)
    → HeadIn (if cell then headed place (read_head ws) else if end then finished place ws
    else entry_of 0 place (word ∷ ws))
named_in place word ws true end = headed_in place ws (read_head ws) refl
named_in place word ws false true = finished_in place ws
named_in place word ws false false = allowed_in 0 place (read_call (word ∷ ws)) (call_sized (word ∷ ws))

first_in : (place : Option Place) (octet : ℕ) (octets : List ℕ) (ws : List (List ℕ)) (caller : Bool)
    → HeadIn (if caller then caller_first (caller_of octets) place ws else named place (octet ∷ octets) ws)
first_in place octet octets ws true = caller_in (caller_of octets) place ws
first_in place octet octets ws false = named_in place (octet ∷ octets) ws (bytes_eq (octet ∷ octets) (codes "cell")) (bytes_eq (octet ∷ octets) (codes "end"))

meant_in : (place : Option Place) (ws : List (List ℕ)) → HeadIn (meant place ws)
meant_in place [] = tt
meant_in place ([] ∷ ws) = tt
meant_in place ((octet ∷ octets) ∷ ws) = first_in place octet octets ws (octet == 64)

-- the meaning of a line in its place
pub line_config : (place : Option Place) (config : Config) → IsLine place (meaning.Head config) →
    IsInRange config
line_config place config line = subst HeadIn line.1 (meant_in place line.0)

pub line_sized : (place : Option Place) (caller : ℕ) (note : Note) →
    IsLine place (meaning.Entry caller note) → HasLength note × IsAtMost greatest_body note
line_sized place caller note line = subst HeadIn line.1 (meant_in place line.0)

-- ---- a trace

-- each head among items has settings in range, and each call a frame of a length in range
abbrev HeadsIn : List Item → Type 0
HeadsIn [] = Unit {0}
HeadsIn (item.Head config ∷ items) = IsInRange config × HeadsIn items
HeadsIn (item.Entry caller note ∷ items) = IsSized note × HeadsIn items
HeadsIn (item.Finish ∷ items) = HeadsIn items
HeadsIn (item.Bad fault ∷ items) = HeadsIn items

told_in : (n : ℕ) (line : Result Meaning FaultKind) (others : Reading) → HeadIn line → HeadsIn others.items →
    HeadsIn (line_told n line others).items
told_in n (Ok (meaning.Head config)) others head rest = (head, rest)
told_in n (Ok (meaning.Entry caller note)) others head rest = (head, rest)
told_in n (Ok meaning.Finish) others head rest = tt
told_in n (Err fault) others head rest = tt

stopped_in : (place : Option Place) (end : Option Piece) → HeadsIn (stopped place end).items
stopped_in place None = tt
stopped_in place (Some (piece.Text line)) = tt
stopped_in place (Some (piece.Ended line)) = tt
stopped_in place (Some (piece.Bad fault)) = tt

behind_in : (lines front : List Numbered) (end : Option Piece) → HeadsIn (read_behind front lines end).items
behind_in [] front end = stopped_in (place_behind front) end
behind_in (line ∷ lines) front end =
    told_in line.line (meant (place_behind front) (words line.octets))
    (read_behind (front ++ line ∷ []) lines end)
    (meant_in (place_behind front) (words line.octets)) (behind_in lines (front ++ line ∷ []) end)

among_in : (items : List Item) (c : Config) → HeadsIn items → settings_among items ≡ Some c → IsInRange c
among_in [] c heads e = absurd (cc)
among_in (item.Head config ∷ items) c heads e = let same : config ≡ c = cc in subst IsInRange same heads.0
among_in (item.Entry caller note ∷ items) c heads e = among_in items c heads.1 e
among_in (item.Finish ∷ items) c heads e = among_in items c heads e
among_in (item.Bad fault ∷ items) c heads e = among_in items c heads e

lengths_among : (items : List Item) → HeadsIn items → HasLengths (history_among items)
lengths_among [] heads = (tt, tt)
lengths_among (item.Head config ∷ items) heads = lengths_among items heads.1
lengths_among (item.Entry caller note ∷ items) heads =
    let rest : HasLengths (history_among items) = lengths_among items heads.1 in
    ((heads.0.0, rest.0), (heads.0.1, rest.1))
lengths_among (item.Finish ∷ items) heads = lengths_among items heads
lengths_among (item.Bad fault ∷ items) heads = lengths_among items heads

heads_in : (closed : Bool) (octets : List ℕ) → HeadsIn (reading closed octets).items
heads_in closed octets = behind_in (pieces closed octets).lines [] (pieces closed octets).ending

pub reading_in : (closed : Bool) (octets : List ℕ) (c : Config) →
    settings_among (reading closed octets).items ≡ Some c → IsInRange c
reading_in closed octets c e = among_in (reading closed octets).items c (heads_in closed octets) e

-- ---- the laws hold for the run of a trace

pub trace_laws : (closed : Bool) (octets : List ℕ) → HasLaws (reading closed octets)
trace_laws closed octets config is = (
  laws config (history_among (reading closed octets).items) (reading_in closed octets config is),
  lengths_among (reading closed octets).items (heads_in closed octets),
)
