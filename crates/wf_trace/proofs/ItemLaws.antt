-- Proves how a call of the cutter changes the items of a trace that are still to come, by cases of its
-- result.
use Rattle.std.proofs.Common.{◌≡◌, ℕ, List, [], ◌++◌, Bool, refl, sym, ◌∙◌, ap, subst, rules}
use Rattle.std.specs.Prelude.{Option, Some, None, Result, Ok, Err, IsSomeAnd, ◌<◌}
use Rattle.wf_io.specs.declared.source.Failed.{Failed}
use Rattle.wf_frame.specs.declared.notes.Note.{Note}
use Rattle.wf_trace.specs.declared.cut.Piece.TheVariants as piece
use Rattle.wf_trace.specs.declared.meaning.Place.{Place}
use Rattle.wf_trace.specs.declared.meaning.Meaning.TheVariants as meaning
use Rattle.wf_trace.specs.declared.fault.Fault.{Fault}
use Rattle.wf_trace.specs.declared.reader.Item.{Item}
use Rattle.wf_trace.specs.declared.reader.Item.TheVariants.{Head, Entry, Finish, Bad}
use Rattle.wf_trace.specs.Words.{words}
use Rattle.wf_trace.specs.Meanings.{meant, HasRoomForLine}
use Rattle.wf_trace.specs.Pieces.{Pieces}
use Rattle.wf_trace.specs.Numbering.{Numbering, Cuts, line_of, pieces_left}
use Rattle.wf_trace.specs.Cutting.{Fits}
use Rattle.wf_trace.specs.Reading.{Reading, missing}
use Rattle.wf_trace.specs.Reader.{Reader, Reads, GivesItem, rest, rest_of, said, read_lines}
use Rattle.wf_trace.specs.Endings.{IsEndOfTrace}
use Rattle.wf_trace.proofs.Taking.{prepend_known-nil}

-- a reader that goes on, and one that has ended
abbrev pub at : Numbering → Option Place → Reader
at cut place = record { cut = cut; place = place; ended = None }

abbrev pub over : Numbering → Option Place → Item → Reader
over cut place item = record { cut = cut; place = place; ended = Some item }

replaced : (result : Result Item Failed) (new : Reader) (before other after : Reading) → before ≡ other →
    GivesItem result new other after → GivesItem result new before after
replaced result new before other after is gives =
    subst (λ (r : Reading). GivesItem result new r after) (sym is) gives

-- a line with a meaning
pub reads_line : (cut new : Numbering) (place : Option Place) (line : ℕ) (left left_new : Option (List ℕ))
    (octets : List ℕ) (item : Item) (after : Reader) →
    Cuts cut left (Ok (piece.Text line)) new left_new octets → after.cut ≡ new →
    ((p : Pieces) → GivesItem (Ok item) after (said (meant place (words (line_of new))) place line
    (λ next. read_lines p.lines p.ending next)) (rest_of after.ended after.place p)) →
    (taken : List ℕ) × Reads (at cut place) left (Ok item) after left_new taken
reads_line cut new place line left left_new octets item after cuts stays gives = (
  octets,
  record {
    taken = cuts.taken;
    gives = λ closed more fits.
        let fits' = subst (λ (c : Numbering). Fits c.cutter.ended left_new closed more) stays fits in
        let before : rest (at cut place) closed (octets ++ more)
        ≡ said (meant place (words (line_of new))) place line
        (λ next. read_lines (pieces_left new closed more).lines (pieces_left new closed more).ending next)
        = ap (rest_of None place) (cuts.gives closed more fits') in
        replaced (Ok item) after (rest (at cut place) closed (octets ++ more)) _
        (rest after closed more) before
        (subst (λ (c : Numbering). GivesItem (Ok item) after
        (said (meant place (words (line_of new))) place line
        (λ next. read_lines (pieces_left new closed more).lines
        (pieces_left new closed more).ending next))
        (rest_of after.ended after.place (pieces_left c closed more)))
        (sym stays) (gives (pieces_left new closed more)));
  },
)

-- the input ended
pub reads_end : (cut new : Numbering) (place : Option Place) (line : ℕ) (left left_new : Option (List ℕ))
    (octets : List ℕ) (fault : Fault) →
    Cuts cut left (Ok (piece.Ended line)) new left_new octets →
    fault ≡ record { line = line; kind = missing place } →
    (taken : List ℕ) × Reads (at cut place) left (Ok (Bad fault)) (over new place (Bad fault)) left_new taken
reads_end cut new place line left left_new octets fault cuts is = (
  octets,
  record {
    taken = cuts.taken;
    gives = λ closed more fits.
        let last = cuts.gives closed more fits in
        let ended : pieces_left new closed more ≡ record { lines = []; ending = Some (piece.Ended line) } =
        rw (last.0) refl in (
          refl,
          ap (rest_of None place) (last.1 ∙ ended)
              ∙ ap (λ (f : Fault). let r : Reading = record { items = []; ending = Some (Bad f) } in r)
              (sym is),
        );
  },
)

-- a line has a fault in its octets
pub reads_bad : (cut new : Numbering) (place : Option Place) (left left_new : Option (List ℕ))
    (octets : List ℕ) (fault : Fault) →
    Cuts cut left (Ok (piece.Bad fault)) new left_new octets →
    (taken : List ℕ) × Reads (at cut place) left (Ok (Bad fault)) (over new place (Bad fault)) left_new taken
reads_bad cut new place left left_new octets fault cuts = (
  octets,
  record {
    taken = cuts.taken;
    gives = λ closed more fits.
        let last = cuts.gives closed more fits in
        let ended : pieces_left new closed more ≡ record { lines = []; ending = Some (piece.Bad fault) } =
        rw (last.0) refl in
        (refl, ap (rest_of None place) (last.1 ∙ ended));
  },
)

-- the source failed
pub reads_none : (cut new : Numbering) (place : Option Place) (left left_new : Option (List ℕ))
    (octets : List ℕ) (failed : Failed) →
    Cuts cut left (Err failed) new left_new octets → (taken : List ℕ) ×
    Reads (at cut place) left (Err failed) (at new place) left_new taken
reads_none cut new place left left_new octets failed cuts = (
  octets,
  record {
    taken = cuts.taken;
    gives =
        λ closed more fits. ap (rest_of None place) (cuts.gives closed more fits);
  },
)

-- the ending again
pub reads_again : (r : Reader) (left : Option (List ℕ)) (item : Item) → r.ended ≡ Some item →
    IsEndOfTrace r.ended → (taken : List ℕ) × Reads r left (Ok item) r left taken
reads_again r left item is ending = (
  [],
  record {
    taken = prepend_known-nil left;
    gives =
        λ closed more fits. again item is (subst IsEndOfTrace is ending) closed more;
  },
)
  where
    again : (item : Item) → r.ended ≡ Some item → IsEndOfTrace (Some item) → (closed : Bool) (more : List ℕ) →
        GivesItem (Ok item) r (rest r closed more) (rest r closed more)
    again (Head config) is ending closed more = absurd ending
    again (Entry caller note) is ending closed more = absurd ending
    again Finish is ending closed more = (is, refl)
    again (Bad fault) is ending closed more = (is, refl)

pub room_for : (caller : ℕ) (note : Note) (place : Option Place) →
    HasRoomForLine (Ok (meaning.Entry caller note)) place → IsSomeAnd place (λ p. p.count < p.limit)
room_for caller note None room = absurd room
room_for caller note (Some place) room = search rules
