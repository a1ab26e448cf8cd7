-- Proves that the line of a TID's items is written piece by piece: the text so far is the octets written plus
-- the line in the buffer.
use Rattle.std.proofs.Common.{◌≡◌, ℕ, ◌+◌, ◌≤◌, List, [], ◌∷◌, ◌++◌, length, take, drop, Bool, refl, sym, ◌∙◌, ap, subst, append_assoc, append-nil}
use Rattle.std.specs.Prelude.{Option, Some, Result, Ok, Err, OnOk, OnErr, slice_get, codes, decimal, flat_map}
use Rattle.std.specs.List.{join_with_byte}
use Rattle.std.specs.Io.KnownBytes.{append_known}
use Rattle.std.proofs.lemmas.List.{take_all, take_more, take-append-drop}
use Rattle.std.proofs.lemmas.List.Concat.{flat_map-append}
use Rattle.std.proofs.lemmas.Option.{slice_get_within, get_or_from_slice_get}
use Rattle.wf_io.specs.Words.{spaced}
use Rattle.wf_io.proofs.Spaces.{join-spaced, spaced-append}
use Rattle.wf_io.specs.Fronts.{HoldsFront}
use Rattle.wf_io.proofs.FrontLaws.{append_known-nil, append_known-append, front_first, front_next}
use Rattle.wf_uplink.specs.declared.items.UpItem.{UpItem}
use Rattle.wf_uplink.specs.declared.up.Up.{Up}
use Rattle.wf_run_scripts.specs.UplinkAnswers.{item_words, air_words, last_words, told_line}
use Rattle.wf_run_scripts.specs.declared.uplink.told.Ending.{Ending}
use Rattle.wf_run_scripts.specs.UplinkPieces.{IsBegun, head_text}

-- The line up to its first i items.
abbrev pub text_to : Bool → Up → ℕ → List ℕ
text_to is_frame u i = head_text is_frame u ++ spaced (flat_map item_words (take i u.items))

abbrev pub end_text : Ending → List ℕ
end_text end = spaced (last_words end) ++ 10 ∷ []

pub no_item : (is_frame : Bool) (u : Up) → head_text is_frame u ≡ text_to is_frame u 0
no_item is_frame u = sym (append-nil (head_text is_frame u))

-- One more item.
take_got : (items : List UpItem) (i : ℕ) (item : UpItem) → slice_get items i ≡ Some item →
    take (i + 1) items ≡ take i items ++ item ∷ []
take_got items i item at =
    take_more items i item (slice_get_within items i item at)
    ∙ ap (λ (x : UpItem). take i items ++ x ∷ []) (get_or_from_slice_get items i item item at)

pub item_more : (is_frame : Bool) (u : Up) (i : ℕ) (item : UpItem) → slice_get u.items i ≡ Some item →
    text_to is_frame u i ++ spaced (item_words item) ≡ text_to is_frame u (i + 1)
item_more is_frame u i item at =
    rw (
      take_got u.items i item at,
      flat_map-append item_words (take i u.items) (item ∷ []),
      append-nil (item_words item),
      spaced-append (flat_map item_words (take i u.items)) (item_words item),
    )
    (append_assoc (head_text is_frame u) (spaced (flat_map item_words (take i u.items)))
    (spaced (item_words item)))

-- The line ends after its last item.
line_parts : (word : List ℕ) (head items old : List (List ℕ)) →
    (join_with_byte 32 (word ∷ head) ++ spaced items) ++ (spaced old ++ 10 ∷ [])
    ≡ join_with_byte 32 (word ∷ (head ++ (items ++ old))) ++ 10 ∷ []
line_parts word head items old =
    rw (
      join-spaced word head,
      join-spaced word (head ++ (items ++ old)),
      spaced-append head (items ++ old),
      spaced-append items old,
    ) (simp append_assoc)

told_line_is : (is_frame : Bool) (u : Up) (e : Ending) →
    (head_text is_frame u ++ spaced (flat_map item_words u.items)) ++ end_text e ≡ told_line is_frame u e
told_line_is is_frame u e =
    line_parts (codes "up")
    (codes "sta" ∷ decimal u.station ∷ codes "tid" ∷ decimal u.tid ∷ air_words is_frame u.air)
    (flat_map item_words u.items) (last_words e)

whole_line : (is_frame : Bool) (u : Up) (e : Ending) (i : ℕ) → length u.items ≤ i →
    text_to is_frame u i ++ end_text e ≡ told_line is_frame u e
whole_line is_frame u e i all =
    ap (λ (items : List UpItem). (head_text is_frame u ++ spaced (flat_map item_words items)) ++ end_text e)
    (take_all i u.items all) ∙ told_line_is is_frame u e

-- The rest of the line after the first i items.
abbrev rest_text : Up → Ending → ℕ → List ℕ
rest_text u e i = spaced (flat_map item_words (drop i u.items)) ++ end_text e

parts_line : (head end : List ℕ) (xs ys : List UpItem) →
    (head ++ spaced (flat_map item_words (xs ++ ys))) ++ end ≡ (head ++ spaced (flat_map item_words xs))
    ++ (spaced (flat_map item_words ys) ++ end)
parts_line head end xs ys = rw (
  flat_map-append item_words xs ys,
  spaced-append (flat_map item_words xs) (flat_map item_words ys),
) (simp append_assoc)

line_from : (is_frame : Bool) (u : Up) (e : Ending) (i : ℕ) →
    told_line is_frame u e ≡ text_to is_frame u i ++ rest_text u e i
line_from is_frame u e i =
    sym (told_line_is is_frame u e)
    ∙ ap (λ (items : List UpItem). (head_text is_frame u ++ spaced (flat_map item_words items)) ++ end_text e)
    (sym (take-append-drop i u.items))
    ∙ parts_line (head_text is_frame u) (end_text e) (take i u.items) (drop i u.items)

-- ---- the octets written and the line left

pub begun_none : (old : Option (List ℕ)) (line : List ℕ) → IsBegun old old line line
begun_none old line = record { written = []; is = refl; holds = sym (append_known-nil old) }

-- Octets are appended to the line.
pub begun_more : (old now : Option (List ℕ)) (line more text : List ℕ) → IsBegun old now line text →
    IsBegun old now (line ++ more) (text ++ more)
begun_more old now line more text begun = record {
  written = begun.written;
  is =
      ap (λ l. l ++ more) begun.is ∙ append_assoc begun.written line more;
  holds = begun.holds;
}

-- The line is written completely.
pub begun_written : (old now new : Option (List ℕ)) (line text : List ℕ) → IsBegun old now line text →
    new ≡ append_known now line → new ≡ append_known old text
begun_written old now new line text begun wrote =
    wrote ∙ ap (λ h. append_known h line) begun.holds ∙ append_known-append old begun.written line
    ∙ ap (append_known old) (sym begun.is)

pub begun_emptied : (old now new : Option (List ℕ)) (line text : List ℕ) → IsBegun old now line text →
    new ≡ append_known now line → IsBegun old new [] text
begun_emptied old now new line text begun wrote =
    record {
      written = text;
      is = sym (append-nil text);
      holds =
          begun_written old now new line text begun wrote;
    }

-- A prefix of the line is written, and the text goes on.
pub begun_front : (old now new : Option (List ℕ)) (line text more : List ℕ) → IsBegun old now line text →
    HoldsFront now new line → HoldsFront old new (text ++ more)
begun_front old now new line text more begun front =
    rw (begun.is) (front_first old new (begun.written ++ line) more
    (front_next old now new begun.written line begun.holds front))

-- The first part of the line is written.
pub begun_next : (old now new : Option (List ℕ)) (line more text : List ℕ) →
    IsBegun old now (line ++ more) text → new ≡ append_known now line → IsBegun old new more text
begun_next old now new line more text begun wrote = record {
  written = begun.written ++ line;
  is = begun.is ∙ sym (append_assoc begun.written line more);
  holds = wrote ∙ ap (λ h. append_known h line) begun.holds ∙ append_known-append old begun.written line;
}

-- A prefix of the first part is written.
pub begun_next_front : (old now new : Option (List ℕ)) (line more text : List ℕ) →
    IsBegun old now (line ++ more) text → HoldsFront now new line → HoldsFront old new text
begun_next_front old now new line more text begun front =
    rw (begun.is) (front_next old now new begun.written (line ++ more) begun.holds
    (front_first now new line more front))

-- Nothing more is written.
pub begun_over : (old now : Option (List ℕ)) (line text : List ℕ) → IsBegun old now line text →
    HoldsFront old now text
begun_over old now line text begun = record {
  written = begun.written;
  rest = line;
  is = begun.is;
  holds =
      begun.holds;
}

-- ---- the line of a TID's items

pub item_begun : (is_frame : Bool) (u : Up) (i : ℕ) (item : UpItem) (old now : Option (List ℕ))
    (line : List ℕ) → slice_get u.items i ≡ Some item →
    IsBegun old now line (text_to is_frame u i) →
    IsBegun old now (line ++ spaced (item_words item)) (text_to is_frame u (i + 1))
item_begun is_frame u i item old now line at begun =
    subst (λ l. IsBegun old now (line ++ spaced (item_words item)) l) (item_more is_frame u i item at)
    (begun_more old now line (spaced (item_words item)) (text_to is_frame u i) begun)

pub item_front : (is_frame : Bool) (u : Up) (e : Ending) (i : ℕ) (item : UpItem)
    (old now new : Option (List ℕ)) (line : List ℕ) → slice_get u.items i ≡ Some item →
    IsBegun old now line (text_to is_frame u i) → HoldsFront now new (line ++ spaced (item_words item)) →
    HoldsFront old new (told_line is_frame u e)
item_front is_frame u e i item old now new line at begun front =
    subst (HoldsFront old new) (sym (line_from is_frame u e (i + 1)))
    (begun_front old now new (line ++ spaced (item_words item)) (text_to is_frame u (i + 1))
    (rest_text u e (i + 1)) (item_begun is_frame u i item old now line at begun) front)

end_begun : (is_frame : Bool) (u : Up) (e : Ending) (i : ℕ) (old now : Option (List ℕ)) (line : List ℕ) →
    length u.items ≤ i → IsBegun old now line (text_to is_frame u i) →
    IsBegun old now (line ++ end_text e) (told_line is_frame u e)
end_begun is_frame u e i old now line all begun =
    subst (λ l. IsBegun old now (line ++ end_text e) l) (whole_line is_frame u e i all)
    (begun_more old now line (end_text e) (text_to is_frame u i) begun)

pub end_written : (is_frame : Bool) (u : Up) (e : Ending) (i : ℕ) (old now new : Option (List ℕ))
    (line : List ℕ) → length u.items ≤ i → IsBegun old now line (text_to is_frame u i) →
    new ≡ append_known now (line ++ end_text e) → new ≡ append_known old (told_line is_frame u e)
end_written is_frame u e i old now new line all begun wrote =
    begun_written old now new (line ++ end_text e) (told_line is_frame u e)
    (end_begun is_frame u e i old now line all begun) wrote

pub end_front : (is_frame : Bool) (u : Up) (e : Ending) (i : ℕ) (old now new : Option (List ℕ))
    (line : List ℕ) → length u.items ≤ i → IsBegun old now line (text_to is_frame u i) →
    HoldsFront now new (line ++ end_text e) → HoldsFront old new (told_line is_frame u e)
end_front is_frame u e i old now new line all begun front =
    subst (HoldsFront old new) (append-nil (told_line is_frame u e))
    (begun_front old now new (line ++ end_text e) (told_line is_frame u e) []
    (end_begun is_frame u e i old now line all begun) front)

-- ---- facts of a result

pub on_ok : {T E : Type 0} (r : Result T E) (P Q : Type 0) → (P → Q) → OnOk r P → OnOk r Q
on_ok (Ok value) P Q then p = then p
on_ok (Err fault) P Q then p = tt

pub on_err : {T E : Type 0} (r : Result T E) (Q : Type 0) → Q → OnErr r Q
on_err (Ok value) Q q = tt
on_err (Err fault) Q q = q

pub on_err_by : {T E : Type 0} (r : Result T E) (P Q : Type 0) → (P → Q) → OnErr r P → OnErr r Q
on_err_by (Ok value) P Q then p = tt
on_err_by (Err fault) P Q then p = then p

-- ---- a text that was written by a call of either kind

pub wrote_as : {T E : Type 0} (r s : Result T E) (old now new : Option (List ℕ)) (text wanted : List ℕ) →
    r ≡ s → now ≡ new → text ≡ wanted → OnOk s (new ≡ append_known old text) →
    OnOk r (now ≡ append_known old wanted)
wrote_as r s old now new text wanted same held is done =
    subst (λ q. OnOk q (now ≡ append_known old wanted)) (sym same)
    (on_ok s (new ≡ append_known old text) (now ≡ append_known old wanted)
    (λ wrote. held ∙ wrote ∙ ap (append_known old) is) done)

pub front_as : {T E : Type 0} (r s : Result T E) (old now new : Option (List ℕ)) (text wanted : List ℕ) →
    r ≡ s → now ≡ new → text ≡ wanted → OnErr s (HoldsFront old new text) →
    OnErr r (HoldsFront old now wanted)
front_as r s old now new text wanted same held is done =
    subst (λ q. OnErr q (HoldsFront old now wanted)) (sym same)
    (on_err_by s (HoldsFront old new text) (HoldsFront old now wanted)
    (λ front. subst (λ h. HoldsFront old h wanted) (sym held) (subst (HoldsFront old new) is front)) done)
