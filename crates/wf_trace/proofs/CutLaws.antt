-- Proves what a call of `Cut::next` returns, from the calls of the cutter of lines that it makes: octets
-- that were read and not returned keep the pieces that are still to come.
use Rattle.std.proofs.Common.{◌≡◌, ℕ, ◌+◌, List, [], ◌++◌, Bool, true, false, refl, sym, ◌∙◌, ap, subst, append_assoc}
use Rattle.std.specs.Prelude.{Option, Some, None, Ok, Err, IsSome, is_some}
use Rattle.std.specs.Io.KnownBytes.{prepend_known}
use Rattle.wf_io.specs.declared.source.Failed.{Failed}
use Rattle.wf_trace.specs.declared.fault.End.{End}
use Rattle.wf_trace.specs.declared.fault.End.TheVariants.{Over, Flaw}
use Rattle.wf_trace.specs.declared.cut.Piece.{Piece}
use Rattle.wf_trace.specs.declared.cut.Piece.TheVariants.{Text, Ended, Bad}
use Rattle.wf_trace.specs.Lines.{texts_of}
use Rattle.wf_trace.specs.Scanning.{lines_behind, begins_word}
use Rattle.wf_trace.specs.Words.{words, skipped}
use Rattle.wf_trace.specs.Cutting.{Cutting, TakesPieces, Fits, will_read as will_cut}
use Rattle.wf_trace.specs.Pieces.{Pieces, ending_piece, pieces_from, pieces}
use Rattle.wf_trace.specs.Numbering.{Numbering, Cuts, GivesPiece, pieces_left, pieces_left_of, will_read_of, IsLastPiece}
use Rattle.wf_trace.proofs.Parted.{lines_parted}
use Rattle.wf_trace.proofs.WordLaws.{says_something}
use Rattle.wf_trace.proofs.Taking.{prepend_known-nil, prepend_known-append}

-- Octets were read, and the pieces that are still to come are unchanged.
pub record Kept (first now : Numbering) (left left_now : Option (List ℕ)) : Type 0 where
  pub octets : List ℕ
  pub taken : left ≡ prepend_known octets left_now
  pub same : (closed : Bool) (more : List ℕ) → Fits now.cutter.ended left_now closed more →
      pieces_left first closed (octets ++ more) ≡ pieces_left now closed more

pub kept_none : (c : Numbering) (left : Option (List ℕ)) → Kept c c left left
kept_none c left = record { octets = []; taken = prepend_known-nil left; same = λ closed more fits. refl }

-- a cutter that goes on
abbrev pub at : Cutting → ℕ → Numbering
at cutter line = record { cutter = cutter; line = line; ended = None }

-- whether a call reads, if the end is not known
pub reads_open : (p : Option Piece) (cutter : Cutting) → false ≡ is_some p →
    will_read_of p cutter ≡ will_cut cutter
reads_open None cutter none = refl
reads_open (Some piece) cutter none = absurd (cc)

-- the cutter of lines changed, and nothing else
pub at_now : (now new : Numbering) → now.ended ≡ None → new ≡ record now { cutter = new.cutter } →
    new ≡ at new.cutter now.line
at_now now new open_ stays = stays ∙ ap (λ (e : Option Piece). let n : Numbering =
    record { cutter = new.cutter; line = now.line; ended = e } in n) open_

-- then the line was counted
pub counted : (now new seen : Numbering) → now.ended ≡ None → new ≡ record now { cutter = new.cutter } →
    seen ≡ new → record seen { line = seen.line + 1 } ≡ at new.cutter (now.line + 1)
counted now new seen open_ stays is = ap (λ (k : Numbering). let n : Numbering =
    record { cutter = k.cutter; line = k.line + 1; ended = k.ended } in n) (is ∙ at_now now new open_ stays)

-- then the piece that ends the input was kept
pub told : (now new after : Numbering) (piece : Piece) → new ≡ record now { cutter = new.cutter } →
    after ≡ record new { ended = Some piece } →
    after ≡ record { cutter = new.cutter; line = now.line; ended = Some piece }
told now new after piece stays is = is ∙ ap (λ (k : Numbering). let n : Numbering =
    record { cutter = k.cutter; line = k.line; ended = Some piece } in n) stays

-- the same for a cutter that goes on
pub kept_open : (first now : Numbering) (left left_now : Option (List ℕ)) → now.ended ≡ None →
    Kept first now left left_now → Kept first (at now.cutter now.line) left left_now
kept_open first now left left_now open_ kept = subst (λ (e : Option Piece). let n : Numbering =
    record { cutter = now.cutter; line = now.line; ended = e } in Kept first n left left_now) open_ kept

-- what may follow after a call, with the octets that it read in front, may follow before it
pub fits_back : (old new : Option End) (left_now left_new : Option (List ℕ)) (octets : List ℕ) (closed : Bool)
    (more : List ℕ) →
    (IsSome old → IsSome new) → left_now ≡ prepend_known octets left_new →
    Fits new left_new closed more → Fits old left_now closed (octets ++ more)
fits_back None new left_now left_new octets closed more sticky taken fits = tt
fits_back (Some end) None left_now left_new octets closed more sticky taken fits =
    absurd (let bad = sticky (refl) in cc)
fits_back (Some end) (Some other) left_now left_new octets closed more sticky taken fits =
    (fits.0, taken ∙ rw (fits.1) refl)

-- the pieces at first, given the octets that a call of the cutter read
grown : (first : Numbering) (cutter new : Cutting) (line : ℕ) (left left_now left_new : Option (List ℕ))
    (octets : List ℕ) (closed : Bool) (more : List ℕ) →
    (kept : Kept first (at cutter line) left left_now) → (IsSome cutter.ended → IsSome new.ended) →
    left_now ≡ prepend_known octets left_new → Fits new.ended left_new closed more →
    pieces_left first closed ((kept.octets ++ octets) ++ more)
    ≡ pieces_left (at cutter line) closed (octets ++ more)
grown first cutter new line left left_now left_new octets closed more kept sticky taken fits =
    ap (λ l. pieces_left first closed l) (append_assoc kept.octets octets more)
    ∙ kept.same closed (octets ++ more) (fits_back cutter.ended new.ended left_now left_new octets closed more
    sticky taken fits)

-- a line that is skipped
pub kept_skip : (first : Numbering) (cutter new : Cutting) (line : ℕ)
    (left left_now left_new : Option (List ℕ)) (octets : List ℕ) →
    Kept first (at cutter line) left left_now → (IsSome cutter.ended → IsSome new.ended) →
    TakesPieces cutter left_now (Ok None) new left_new octets →
    skipped (words new.scanner.line) ≡ true → Kept first (at new (line + 1)) left left_new
kept_skip first cutter new line left left_now left_new octets kept sticky takes skips = record {
  octets = kept.octets ++ octets;
  taken = kept.taken ∙ ap (prepend_known kept.octets) takes.taken
      ∙ prepend_known-append kept.octets octets left_new;
  same = λ closed more fits.
      grown first cutter new line left left_now left_new octets closed more kept sticky takes.taken fits
      ∙ ap (λ t. pieces_left_of None line t) (takes.gives closed more fits)
      ∙ rw skips refl;
}

-- a line that is not skipped
pub cuts_line : (first : Numbering) (cutter new : Cutting) (line : ℕ)
    (left left_now left_new : Option (List ℕ)) (octets : List ℕ) →
    Kept first (at cutter line) left left_now → (IsSome cutter.ended → IsSome new.ended) →
    TakesPieces cutter left_now (Ok None) new left_new octets →
    skipped (words new.scanner.line) ≡ false → (taken : List ℕ) ×
    Cuts first left (Ok (Text line)) (at new (line + 1)) left_new taken
cuts_line first cutter new line left left_now left_new octets kept sticky takes says = (
  kept.octets ++ octets,
  record {
    taken = kept.taken ∙ ap (prepend_known kept.octets) takes.taken
        ∙ prepend_known-append kept.octets octets left_new;
    gives = λ closed more fits.
        grown first cutter new line left left_now left_new octets closed more kept sticky takes.taken fits
        ∙ ap (λ t. pieces_left_of None line t) (takes.gives closed more fits)
        ∙ rw says refl;
  },
)

-- no further line
pub cuts_end : (first : Numbering) (cutter new : Cutting) (line : ℕ)
    (left left_now left_new : Option (List ℕ)) (octets : List ℕ) (end : End) (piece : Piece)
    (after : Numbering) →
    Kept first (at cutter line) left left_now → (IsSome cutter.ended → IsSome new.ended) →
    TakesPieces cutter left_now (Ok (Some end)) new left_new octets →
    Some piece ≡ ending_piece line (Some end) → after
    ≡ record { cutter = new; line = line; ended = Some piece } →
    (taken : List ℕ) × Cuts first left (Ok piece) after left_new taken
cuts_end first cutter new line left left_now left_new octets end piece after kept sticky takes stops is = (
  kept.octets ++ octets,
  record {
    taken = kept.taken ∙ ap (prepend_known kept.octets) takes.taken
        ∙ prepend_known-append kept.octets octets left_new;
    gives = rw is (λ closed more fits.
        let whole : pieces_left first closed ((kept.octets ++ octets) ++ more)
        ≡ record { lines = []; ending = Some piece }
        = grown first cutter new line left left_now left_new octets closed more kept sticky takes.taken fits
        ∙ ap (λ t. pieces_left_of None line t) ((takes.gives closed more fits).1)
        ∙ rw ((takes.gives closed more fits).0) (ap (λ (e : Option Piece). let p : Pieces =
        record { lines = []; ending = e } in p) (sym stops)) in
        last end piece stops whole);
  },
)
  where
    last : (end : End) (piece : Piece) → Some piece ≡ ending_piece line (Some end) → {before : Pieces} →
        before ≡ record { lines = []; ending = Some piece } →
        GivesPiece (Ok piece) (record { cutter = new; line = line; ended = Some piece }) before
        (record { lines = []; ending = Some piece })
    last Over (Text other) stops whole = absurd (cc)
    last (Flaw kind) (Text other) stops whole = absurd (cc)
    last end (Ended other) stops whole = (refl, whole)
    last end (Bad fault) stops whole = (refl, whole)

-- the source failed
pub cuts_none : (first : Numbering) (cutter new : Cutting) (line : ℕ)
    (left left_now left_new : Option (List ℕ)) (octets : List ℕ) (failed : Failed) →
    Kept first (at cutter line) left left_now → (IsSome cutter.ended → IsSome new.ended) →
    TakesPieces cutter left_now (Err failed) new left_new octets →
    (taken : List ℕ) × Cuts first left (Err failed) (at new line) left_new taken
cuts_none first cutter new line left left_now left_new octets failed kept sticky takes = (
  kept.octets ++ octets,
  record {
    taken = kept.taken ∙ ap (prepend_known kept.octets) takes.taken
        ∙ prepend_known-append kept.octets octets left_new;
    gives = λ closed more fits.
        grown first cutter new line left left_now left_new octets closed more kept sticky takes.taken fits
        ∙ ap (λ t. pieces_left_of None line t) (takes.gives closed more fits);
  },
)

-- the last piece again
pub cuts_again : (c : Numbering) (left : Option (List ℕ)) (piece : Piece) → c.ended ≡ Some piece →
    IsLastPiece c.ended → (taken : List ℕ) × Cuts c left (Ok piece) c left taken
cuts_again c left piece is ending = (
  [],
  record {
    taken = prepend_known-nil left;
    gives =
        λ closed more fits. again piece is (subst IsLastPiece is ending) closed more;
  },
)
  where
    again : (piece : Piece) → c.ended ≡ Some piece → IsLastPiece (Some piece) →
        (closed : Bool) (more : List ℕ) → GivesPiece (Ok piece) c (pieces_left c closed more)
        (pieces_left c closed more)
    again (Text line) is ending closed more = absurd ending
    again (Ended line) is ending closed more = (is, refl)
    again (Bad fault) is ending closed more = (is, refl)

-- for a new cutter the whole input is still to come
pub pieces_whole : (closed : Bool) (octets : List ℕ) →
    pieces_from 1 (texts_of closed (lines_behind closed 0 [] octets)).texts
    (texts_of closed (lines_behind closed 0 [] octets)).ending ≡ pieces closed octets
pieces_whole closed octets = rw (lines_parted closed octets) refl

-- If the first call of the cutter does not read, there is no other: the cutter and the source are still as
-- at first.
abbrev pub Still : {S : Type 0} → Numbering → Numbering → S → S → Type 0
Still first now source source_now = will_cut first.cutter ≡ false → (now ≡ first) × (source_now ≡ source)

still_cut : {S : Type 0} (first now : Numbering) (cutter : Cutting) (source source_now : S) →
    Still first now source source_now → cutter ≡ now.cutter →
    will_cut first.cutter ≡ false → will_cut cutter ≡ false
still_cut first now cutter source source_now still is quiet =
    ap will_cut is ∙ ap (λ (c : Numbering). will_cut c.cutter) (still quiet).0 ∙ quiet

pub still_quiet : {S P : Type 0} (first now : Numbering) (cutter : Cutting)
    (source source_now source_new : S) → Still first now source source_now → cutter ≡ now.cutter →
    (will_cut cutter ≡ false → (source_new ≡ source_now) × P) → will_cut first.cutter ≡ false →
    (source_new ≡ source) × P
still_quiet first now cutter source source_now source_new still is called quiet =
    let call = called (still_cut first now cutter source source_now still is quiet) in
    (call.0 ∙ (still quiet).1, call.1)

pub still_says : {S : Type 0} (first now : Numbering) (cutter : Cutting) (line : List ℕ)
    (source source_now : S) → Still first now source source_now → cutter ≡ now.cutter →
    (will_cut cutter ≡ false → begins_word line ≡ true) → skipped (words line) ≡ true →
    will_cut first.cutter ≡ false → ⊥
still_says first now cutter line source source_now still is called skips quiet =
    let says = says_something line (called (still_cut first now cutter source source_now still is quiet)) in
    absurd (cc)
