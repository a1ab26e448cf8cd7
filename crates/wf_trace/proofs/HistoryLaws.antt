-- Proves that the trace of a history is read as this history, by induction over its entries.
use Rattle.std.proofs.Common.{◌≡◌, ℕ, zero, suc, ◌+◌, ◌*◌, ◌^◌, ◌<◌, ◌≤◌, List, [], ◌∷◌, ◌++◌, length, Bool, true, false, nat_eq, nat_le, refl, sym, ◌∙◌, ap, append_assoc, arith}
use Rattle.std.specs.Prelude.{Option, Some, None, codes, ◌&&◌, nat_lt}
use Rattle.std.specs.List.{list_all, join_with_byte}
use Rattle.std.specs.Fmt.{decimal}
use Rattle.std.proofs.lemmas.Bool.Decides.{nat_tests}
use Rattle.wf_frame.specs.declared.calls.CallForm.{CallForm}
use Rattle.wf_frame.specs.declared.calls.CallForm.TheVariants as call
use Rattle.wf_frame.specs.declared.notes.Note.{Note}
use Rattle.wf_frame.specs.Calls.{args_of, call_word, note_form, note_values}
use Rattle.wf_io.specs.Words.{spaced}
use Rattle.wf_io.proofs.Spaces.{join-spaced}
use Rattle.wf_frame.specs.Settings.{standard}
use Rattle.wf_trace.specs.declared.meaning.Place.{Place}
use Rattle.wf_trace.specs.declared.reader.Item.TheVariants as item
use Rattle.wf_trace.specs.Lines.{Line, Texts, lines, onto, texts_of, flaw, is_printable, longest_line, longest_trace}
use Rattle.wf_trace.specs.Pieces.{Pieces, pieces_from}
use Rattle.wf_trace.specs.Words.{words, skipped}
use Rattle.wf_trace.specs.Scanning.{begins_word}
use Rattle.wf_trace.specs.Meanings.{meant}
use Rattle.wf_trace.specs.Printing.{words_of_values, note_words, note_text, NumbersAreInRange}
use Rattle.wf_trace.specs.Reading.{Reading, reading, with_item}
use Rattle.wf_trace.specs.Reader.{said, read_lines}
use Rattle.wf_trace.proofs.PlaceLaws.{reading_placed}
use Rattle.wf_trace.proofs.PrintLaws.{text_read, text_printable, short_text}
use Rattle.wf_trace.proofs.WordLaws.{says_something}
use Rattle.wf_def_world.specs.Run.{Entry}
use Rattle.wf_trace.specs.Traces.{end_line, entry_lines, trace_of, entry_items, trace_items, CanBeNamed}

-- ---- a line before others

put_on : (closed : Bool) (octet at : ℕ) (first : Line) (others : List Line) →
    onto closed octet at (first ∷ others) ≡ record { octets = octet ∷ first.octets; end = first.end } ∷ others
put_on true octet at first others = refl
put_on false octet at first others = refl

split_and : (a b : Bool) → (a && b) ≡ true → (a ≡ true) × (b ≡ true)
split_and true b is = (refl, is)
split_and false b is = absurd (cc)

no_end : (octet : ℕ) → is_printable octet ≡ true → nat_eq octet 10 ≡ false
no_end octet is =
    let both = split_and (nat_le 32 octet) (nat_le octet 126) is in
    let low : 32 ≤ octet = grind (arith, nat_tests) in
    grind (arith, nat_tests)

abbrev line_to : List ℕ → ℕ → Line
line_to text end = record { octets = text; end = end }

first_line : (closed : Bool) (at end : ℕ) (text behind : List ℕ) → list_all is_printable text ≡ true →
    end ≡ at + (length text + 1) →
    lines closed at (text ++ 10 ∷ behind) ≡ line_to text end ∷ lines closed end behind
first_line closed at end [] behind plain is =
    let same : end ≡ at + 1 = omega arith in rw same refl
first_line closed at end (octet ∷ text) behind plain is =
    let both = split_and (is_printable octet) (list_all is_printable text) plain in
    let less : end ≡ (at + 1) + (length text + 1) = omega arith in
    let other = no_end octet both.0 in
    rw other (ap (onto closed octet (at + 1)) (first_line closed (at + 1) end text behind both.1 less)
    ∙ put_on closed octet (at + 1) (line_to text end) (lines closed end behind))

flawless : (end : ℕ) (text : List ℕ) → end ≤ longest_trace → length text ≤ longest_line →
    list_all is_printable text ≡ true → flaw end text ≡ None
flawless end text inside short plain =
    let one : nat_lt longest_trace end ≡ false = grind (arith, nat_tests) in
    let two : nat_lt longest_line (length text) ≡ false = grind (arith, nat_tests) in
    rw (one, two, plain) refl

-- what octets say from a place on
abbrev read_from : Bool → ℕ → ℕ → Option Place → List ℕ → Reading
read_from closed at line place octets =
    let t : Texts = texts_of closed (lines closed at octets) in
    let p : Pieces = pieces_from line t.texts t.ending in read_lines p.lines p.ending place

read_line : (closed : Bool) (at end line : ℕ) (place : Option Place) (text behind : List ℕ) →
    list_all is_printable text ≡ true → length text ≤ longest_line →
    end ≡ at + (length text + 1) → end ≤ longest_trace → skipped (words text) ≡ false →
    read_from closed at line place (text ++ 10 ∷ behind)
    ≡ said (meant place (words text)) place line (λ next. read_from closed end (line + 1) next behind)
read_line closed at end line place text behind plain short is inside kept =
    rw (first_line closed at end text behind plain is, flawless end text inside short plain, kept) refl

-- ---- the line of an entry

not_zero : (n : ℕ) → nat_eq (suc n) 0 ≡ false
not_zero n = grind (arith, nat_tests)

-- its first octet is no space and no #; the last line covers all other forms
begins_form : (form : CallForm) (others : List ℕ) → begins_word (call_word form ++ others) ≡ true
begins_form call.Join others = refl
begins_form form others = refl

begins_note : (note : Note) → begins_word (join_with_byte 32 (note_words note)) ≡ true
begins_note note =
    let texts = words_of_values (args_of (note_form note)) (note_values note) in
    rw (join-spaced (call_word (note_form note)) texts) (begins_form (note_form note) (spaced texts))

begins_at : (digits : List ℕ) (others : List (List ℕ)) →
    begins_word (join_with_byte 32 ((64 ∷ digits) ∷ others)) ≡ true
begins_at digits [] = refl
begins_at digits (word ∷ others) = refl

begins_text : (caller : ℕ) (note : Note) → begins_word (note_text caller note) ≡ true
begins_text zero note = begins_note note
begins_text (suc n) note = rw (not_zero n) (begins_at (decimal (suc n)) (note_words note))

-- ---- the lines of a history

abbrev the_place : ℕ → Option Place
the_place count = Some (record { limit = 1048576; count = count })

-- the most octets of the line of an entry: all lines are within the longest trace
most_octets : ℕ
most_octets = 89

read_end : (closed : Bool) (at line count : ℕ) (behind : List ℕ) → at + 4 ≤ longest_trace →
    read_from closed at line (the_place count) (end_line ++ behind)
    ≡ record { items = []; ending = Some item.Finish }
read_end closed at line count behind inside = read_line closed at (at + 4) line (the_place count)
    (codes "end") behind
    refl (omega arith) (omega arith) inside refl

parted : (text others behind : List ℕ) → ((text ++ 10 ∷ []) ++ others) ++ behind ≡ text ++ 10
    ∷ (others ++ behind)
parted text others behind = append_assoc (text ++ 10 ∷ []) others behind
    ∙ append_assoc text (10 ∷ []) (others ++ behind)

read_entry : (closed : Bool) (at line count : ℕ) (e : Entry) (behind : List ℕ) → (e.0 ≤ 65535) ×
    NumbersAreInRange e.1 → at + 89 ≤ longest_trace → count < 1048576 →
    read_from closed at line (the_place count) (note_text e.0 e.1 ++ 10 ∷ behind)
    ≡ with_item (item.Entry e.0 e.1) (read_from closed (at + (length (note_text e.0 e.1) + 1)) (line + 1)
    (the_place (count + 1)) behind)
read_entry closed at line count e behind r inside room =
    let small : e.0 < 2 ^ 16 = let most = r.0 in omega arith in
    let short = short_text e.0 e.1 small r.1 in
    let text = note_text e.0 e.1 in
    let end = at + (length text + 1) in
    let place : Place = record { limit = 1048576; count = count } in
    read_line closed at end line (the_place count) text behind (text_printable e.0 e.1 small r.1)
    (omega arith) refl (omega arith) (says_something text (begins_text e.0 e.1))
    ∙ rw (text_read e.0 e.1 place small r.1 room) refl

read_entries : (closed : Bool) (at line count : ℕ) (history : List Entry) (behind : List ℕ) →
    CanBeNamed history → at + 89 * length history + 4 ≤ longest_trace → count + length history ≤ 1048576 →
    read_from closed at line (the_place count) (entry_lines history ++ (end_line ++ behind))
    ≡ record { items = entry_items history; ending = Some item.Finish }
read_entries closed at line count [] behind are inside room =
    read_end closed at line count behind (omega arith)
read_entries closed at line count (e ∷ es) behind are inside room =
    let text = note_text e.0 e.1 in
    let small : e.0 < 2 ^ 16 = let most = are.0.0 in omega arith in
    let short = short_text e.0 e.1 small are.0.1 in
    ap (read_from closed at line (the_place count)) (parted text (entry_lines es) (end_line ++ behind))
    ∙ read_entry closed at line count e (entry_lines es ++ (end_line ++ behind)) are.0 (omega arith)
    (omega arith)
    ∙ ap (with_item (item.Entry e.0 e.1)) (read_entries closed (at + (length text + 1)) (line + 1)
    (count + 1) es behind are.1 (omega arith) (omega arith))

abbrev head_then : List Entry → List ℕ → List ℕ
head_then history behind = codes "cell" ++ 10 ∷ (entry_lines history ++ (end_line ++ behind))

whole : (history : List Entry) (behind : List ℕ) → trace_of history ++ behind ≡ head_then history behind
whole history behind = ap (λ (l : List ℕ). codes "cell" ++ 10 ∷ l) (append_assoc (entry_lines history) end_line behind)

pub trace_read : (history : List Entry) (closed : Bool) (behind : List ℕ) → CanBeNamed history →
    length history ≤ standard.calls →
    reading closed (trace_of history ++ behind) ≡ trace_items history
trace_read history closed behind are room =
    ap (reading closed) (whole history behind)
    ∙ sym (reading_placed closed (head_then history behind))
    ∙ read_line closed 0 5 1 None (codes "cell") (entry_lines history ++ (end_line ++ behind)) refl
    (omega arith) refl
    (omega arith) refl
    ∙ ap (with_item (item.Head standard)) (read_entries closed 5 2 0 history behind are (omega arith)
    (omega arith))
