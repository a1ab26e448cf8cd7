-- Proves what each result of a cutter says of its whole input, of which a part was cut so far.
use Rattle.std.proofs.Common.{◌≡◌, ℕ, List, [], ◌∷◌, ◌++◌, Bool, true, false, refl, sym, ◌∙◌, ap, subst, append_assoc, append-nil, inl, inr}
use Rattle.std.specs.Prelude.{◌⊎◌, Option, Some, None, Ok, Err, IsSome}
use Rattle.std.specs.Io.KnownBytes.{prepend_known, IsAtEnd}
use Rattle.wf_io.specs.declared.source.Failed.{Failed}
use Rattle.wf_trace.specs.declared.fault.End.{End}
use Rattle.wf_trace.specs.declared.fault.Fault.{Fault}
use Rattle.wf_trace.specs.declared.cut.Piece.{Piece}
use Rattle.wf_trace.specs.declared.cut.Piece.TheVariants.{Text, Ended, Bad}
use Rattle.wf_trace.specs.Cutting.{Fits}
use Rattle.wf_trace.specs.Pieces.{Numbered, Pieces, pieces}
use Rattle.wf_trace.specs.Numbering.{Numbering, Cuts, HasNoLine, line_of, pieces_left}
use Rattle.wf_trace.proofs.Taking.{prepend_known-nil, prepend_known-append}
use Rattle.wf_trace.proofs.CutLaws.{fits_back}

-- lines before others
abbrev pub with_lines : List Numbered → Pieces → Pieces
with_lines front others = record { lines = front ++ others.lines; ending = others.ending }

-- Octets were read, and these lines were returned.
pub record CutSoFar (c : Numbering) (left left_now : Option (List ℕ)) (front : List Numbered) : Type 0 where
  pub taken : List ℕ
  pub took : left ≡ prepend_known taken left_now
  pub same : (closed : Bool) (more : List ℕ) → Fits c.cutter.ended left_now closed more →
      pieces closed (taken ++ more) ≡ with_lines front (pieces_left c closed more)

-- a new cutter
pub cut_none : (c : Numbering) (left : Option (List ℕ)) →
    ((closed : Bool) (octets : List ℕ) → pieces_left c closed octets ≡ pieces closed octets) →
    CutSoFar c left left []
cut_none c left is = record {
  taken = [];
  took = prepend_known-nil left;
  same =
      λ closed more fits. sym (is closed more);
}

-- the pieces of the whole input, given the octets that a call read
grown : (old new : Numbering) (left left_now left_new : Option (List ℕ)) (front : List Numbered)
    (octets : List ℕ) →
    (so_far : CutSoFar old left left_now front) → (IsSome old.cutter.ended → IsSome new.cutter.ended) →
    left_now ≡ prepend_known octets left_new →
    (closed : Bool) (more : List ℕ) → Fits new.cutter.ended left_new closed more →
    pieces closed ((so_far.taken ++ octets) ++ more)
    ≡ with_lines front (pieces_left old closed (octets ++ more))
grown old new left left_now left_new front octets so_far sticky taken closed more fits =
    ap (pieces closed) (append_assoc so_far.taken octets more)
    ∙ so_far.same closed (octets ++ more) (fits_back old.cutter.ended new.cutter.ended left_now left_new
    octets closed more sticky taken fits)

took_more : (old new : Numbering) (left left_now left_new : Option (List ℕ)) (front : List Numbered)
    (octets : List ℕ) →
    (so_far : CutSoFar old left left_now front) → left_now ≡ prepend_known octets left_new →
    left ≡ prepend_known (so_far.taken ++ octets) left_new
took_more old new left left_now left_new front octets so_far taken =
    so_far.took ∙ ap (prepend_known so_far.taken) taken ∙ prepend_known-append so_far.taken octets left_new

-- a line was returned
pub cut_line : (old new : Numbering) (left left_now left_new : Option (List ℕ)) (front : List Numbered)
    (octets : List ℕ) (line : ℕ) →
    CutSoFar old left left_now front → (IsSome old.cutter.ended → IsSome new.cutter.ended) →
    Cuts old left_now (Ok (Text line)) new left_new octets →
    CutSoFar new left left_new (front ++ record { line = line; octets = line_of new } ∷ [])
cut_line old new left left_now left_new front octets line so_far sticky cuts = record {
  taken = so_far.taken ++ octets;
  took = took_more old new left left_now left_new front octets so_far cuts.taken;
  same = λ closed more fits.
      grown old new left left_now left_new front octets so_far sticky cuts.taken closed more fits
      ∙ ap (with_lines front) (cuts.gives closed more fits)
      ∙ ap (λ (l : List Numbered). let p : Pieces =
      record { lines = l; ending = (pieces_left new closed more).ending } in p)
      (sym (append_assoc front (record { line = line; octets = line_of new } ∷ [])
      (pieces_left new closed more).lines));
}

told : (taken : List ℕ) (left_now : Option (List ℕ)) (input : List ℕ) →
    Some input ≡ prepend_known taken left_now → (left : List ℕ) × (left_now ≡ Some left) ×
    (input ≡ taken ++ left)
told taken None input is = absurd (cc)
told taken (Some left) input is = (left, refl, cc)

fits_rest : (end : Option End) (left : List ℕ) → Fits end (Some left) true left
fits_rest None left = tt
fits_rest (Some end) left = (refl, refl)

-- the lines so far are a prefix of those of the whole input
pub cut_front : (c : Numbering) (left left_now : Option (List ℕ)) (front : List Numbered) →
    (so_far : CutSoFar c left left_now front) →
    (input : List ℕ) → left ≡ Some input →
    (rest : List ℕ) × (input ≡ so_far.taken ++ rest) × (left_now ≡ Some rest) ×
    (pieces true input ≡ with_lines front (pieces_left c true rest))
cut_front c left left_now front so_far input told_is =
    let known = told so_far.taken left_now input (sym told_is ∙ so_far.took) in
    let fits : Fits c.cutter.ended left_now true known.0 =
    subst (λ (l : Option (List ℕ)). Fits c.cutter.ended l true known.0) (sym known.1)
    (fits_rest c.cutter.ended known.0) in
    (known.0, known.2, known.1, ap (pieces true) known.2 ∙ so_far.same true known.0 fits)

-- the lines so far are all lines of the octets read, or these octets are the whole input
pub cut_reaches : (c : Numbering) (left left_now : Option (List ℕ)) (front : List Numbered) →
    (so_far : CutSoFar c left left_now front) →
    (IsSome c.cutter.ended → IsAtEnd left_now) → (input : List ℕ) → left ≡ Some input →
    ((others : Pieces) × (pieces false so_far.taken ≡ with_lines front others)) ⊎ (input ≡ so_far.taken)
cut_reaches c left left_now front so_far over input told_is = by_end c.cutter.ended refl
  where
    by_end : (end : Option End) → c.cutter.ended ≡ end →
        ((others : Pieces) × (pieces false so_far.taken ≡ with_lines front others)) ⊎ (input ≡ so_far.taken)
    by_end None going =
        let fits : Fits c.cutter.ended left_now false [] =
        subst (λ (e : Option End). Fits e left_now false []) (sym going) tt in
        inl (
          pieces_left c false [],
          ap (pieces false) (sym (append-nil so_far.taken))
              ∙ so_far.same false [] fits,
        )
    by_end (Some end) ended =
        let known = told so_far.taken left_now input (sym told_is ∙ so_far.took) in
        let nothing : known.0 ≡ [] = subst (λ (l : Option (List ℕ)). IsAtEnd l) known.1
        (over (subst (λ (e : Option End). IsSome e) (sym ended) refl)) in
        inr (known.2 ∙ ap (λ l. so_far.taken ++ l) nothing ∙ append-nil so_far.taken)

-- the pieces of a whole input: these lines, and the piece that ends them
abbrev pub whole : List Numbered → Piece → Pieces
whole front piece = record { lines = front; ending = Some piece }

left_ended : (new : Numbering) (piece : Piece) (closed : Bool) (more : List ℕ) → new.ended ≡ Some piece →
    pieces_left new closed more ≡ whole [] piece
left_ended new piece closed more is = rw is refl

-- The input was cut to its end: the octets read, and all its pieces.
pub record CutWhole (left left_new : Option (List ℕ)) (front : List Numbered) (piece : Piece) : Type 0 where
  pub taken : List ℕ
  pub took : left ≡ prepend_known taken left_new
  pub is : (input : List ℕ) → left ≡ Some input → pieces true input ≡ whole front piece

cut_last : (old new : Numbering) (left left_now left_new : Option (List ℕ)) (front : List Numbered)
    (octets : List ℕ) (piece : Piece) →
    CutSoFar old left left_now front → (IsSome old.cutter.ended → IsSome new.cutter.ended) →
    left_now ≡ prepend_known octets left_new →
    ((closed : Bool) (more : List ℕ) → Fits new.cutter.ended left_new closed more →
    (new.ended ≡ Some piece) × (pieces_left old closed (octets ++ more) ≡ pieces_left new closed more)) →
    CutWhole left left_new front piece
cut_last old new left left_now left_new front octets piece so_far sticky taken gives = record {
  taken = so_far.taken ++ octets;
  took = took_more old new left left_now left_new front octets so_far taken;
  is = λ input told_is.
      let known = told (so_far.taken ++ octets) left_new input
      (sym told_is ∙ took_more old new left left_now left_new front octets so_far taken) in
      let fits : Fits new.cutter.ended left_new true known.0 =
      subst (λ (l : Option (List ℕ)). Fits new.cutter.ended l true known.0) (sym known.1)
      (fits_rest new.cutter.ended known.0) in
      let last = gives true known.0 fits in
      ap (pieces true) known.2
      ∙ grown old new left left_now left_new front octets so_far sticky taken true known.0 fits
      ∙ ap (with_lines front) (last.1 ∙ left_ended new piece true known.0 last.0)
      ∙ ap (λ (l : List Numbered). whole l piece) (append-nil front);
}

-- the input ended
pub cut_ended : (old new : Numbering) (left left_now left_new : Option (List ℕ)) (front : List Numbered)
    (octets : List ℕ) (line : ℕ) →
    CutSoFar old left left_now front → (IsSome old.cutter.ended → IsSome new.cutter.ended) →
    Cuts old left_now (Ok (Ended line)) new left_new octets →
    CutWhole left left_new front (Ended line)
cut_ended old new left left_now left_new front octets line so_far sticky cuts =
    cut_last old new left left_now left_new front octets (Ended line) so_far sticky cuts.taken cuts.gives

-- a line has a fault
pub cut_bad : (old new : Numbering) (left left_now left_new : Option (List ℕ)) (front : List Numbered)
    (octets : List ℕ) (fault : Fault) →
    CutSoFar old left left_now front → (IsSome old.cutter.ended → IsSome new.cutter.ended) →
    Cuts old left_now (Ok (Bad fault)) new left_new octets →
    CutWhole left left_new front (Bad fault)
cut_bad old new left left_now left_new front octets fault so_far sticky cuts =
    cut_last old new left left_now left_new front octets (Bad fault) so_far sticky cuts.taken cuts.gives

nothing_left : (c : Numbering) → HasNoLine c → pieces_left c false [] ≡ record { lines = []; ending = None }
nothing_left c none = rw (none.open_, none.going, none.given, none.waiting) refl

-- the source failed: the lines so far are all lines of the octets read
pub cut_failed : (old new : Numbering) (left left_now left_new : Option (List ℕ)) (front : List Numbered)
    (octets : List ℕ) (failed : Failed) →
    CutSoFar old left left_now front → (IsSome old.cutter.ended → IsSome new.cutter.ended) →
    Cuts old left_now (Err failed) new left_new octets → HasNoLine new →
    (so_far : CutSoFar new left left_new front) ×
    (pieces false so_far.taken ≡ record { lines = front; ending = None })
cut_failed old new left left_now left_new front octets failed so_far sticky cuts none =
    let more : CutSoFar new left left_new front = record {
      taken = so_far.taken ++ octets;
      took = took_more old new left left_now left_new front octets so_far cuts.taken;
      same = λ closed more fits.
          grown old new left left_now left_new front octets so_far sticky cuts.taken closed more fits
          ∙ ap (with_lines front) (cuts.gives closed more fits);
    } in
    let fits : Fits new.cutter.ended left_new false [] =
    subst (λ (e : Option End). Fits e left_new false []) (sym none.going) tt in (
      more,
      ap (pieces false) (sym (append-nil more.taken)) ∙ more.same false [] fits
          ∙ ap (with_lines front) (nothing_left new none)
          ∙ ap (λ (l : List Numbered). let p : Pieces = record { lines = l; ending = None } in p)
          (append-nil front),
    )
