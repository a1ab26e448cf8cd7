-- Proves the lines of the stations, which are written station by station, and those of the BSSs, which are
-- written BSS by BSS.
use Rattle.std.proofs.Common.{◌≡◌, ℕ, zero, suc, ◌+◌, ◌-◌, ◌≤◌, ◌<◌, List, [], ◌∷◌, ◌++◌, Bool, true, false, cond, refl, sym, ◌∙◌, ap, append_assoc, append-nil, arith}
use Rattle.std.specs.Prelude.{Option, map, filter}
use Rattle.std.specs.List.{concat}
use Rattle.std.specs.Io.KnownBytes.{append_known}
use Rattle.std.proofs.lemmas.List.{map-append}
use Rattle.wf_def_lists.specs.Table.{upto}
use Rattle.wf_def_world.specs.World.{World, is_live}
use Rattle.wf_def_world.specs.Group.{bss_count}
use Rattle.wf_def_world.specs.Text.{share_lines, bss_lines}
use Rattle.wf_io.specs.Fronts.{HoldsFront}
use Rattle.wf_io.proofs.FrontLaws.{front_first, front_next}
use Rattle.wf_report.specs.Parts.{lines_of, shares_of, lines_of_bsses}
use Rattle.wf_report.proofs.Rows.{upto-more, kept-more, kept-same, concat-append, concat-more, filter-append}

-- The lines of the stations below a number.
abbrev pub shares_below : World → ℕ → List ℕ
shares_below w n = concat (map (share_lines w) (filter (is_live w) (upto n)))

pub shares-more : (w : World) (n : ℕ) → shares_below w n ++ lines_of w n ≡ shares_below w (n + 1)
shares-more w n = by_live (is_live w n) refl
  where
    by_live : (b : Bool) → is_live w n ≡ b → shares_below w n ++ cond b (share_lines w n) []
        ≡ shares_below w (n + 1)
    by_live true is =
        rw (
          kept-more (is_live w) n is,
          map-append (share_lines w) (filter (is_live w) (upto n)) (n ∷ []),
          concat-append (map (share_lines w) (filter (is_live w) (upto n))) (share_lines w n ∷ []),
          append-nil (share_lines w n),
        ) refl
    by_live false is = rw (kept-same (is_live w) n is) (append-nil (shares_below w n))

upto-rest : (n k : ℕ) → (more : List ℕ) × (upto (n + k) ≡ upto n ++ more)
upto-rest n zero = ([], let same : n + 0 ≡ n = omega arith in ap upto same ∙ sym (append-nil (upto n)))
upto-rest n (suc k) =
    let rest = upto-rest n k in
    let next : n + suc k ≡ (n + k) + 1 = omega arith in (
      rest.0 ++ (n + k) ∷ [],
      ap upto next ∙ upto-more (n + k) ∙ ap (λ l. l ++ (n + k) ∷ []) rest.1
          ∙ append_assoc (upto n) rest.0 ((n + k) ∷ []),
    )

pub shares-rest : (w : World) (n : ℕ) → n ≤ w.config.stations → (more : List ℕ) ×
    (shares_of w ≡ shares_below w n ++ more)
shares-rest w n below =
    let rest = upto-rest n (w.config.stations - n) in
    let all : n + (w.config.stations - n) ≡ w.config.stations = omega arith in
    let whole : upto w.config.stations ≡ upto n ++ rest.0 = ap upto (sym all) ∙ rest.1 in (
      concat (map (share_lines w) (filter (is_live w) rest.0)),
      ap (λ l. concat (map (share_lines w) (filter (is_live w) l))) whole
          ∙ ap (λ l. concat (map (share_lines w) l)) (filter-append (is_live w) (upto n) rest.0)
          ∙ ap concat (map-append (share_lines w) (filter (is_live w) (upto n)) (filter (is_live w) rest.0))
          ∙ concat-append (map (share_lines w) (filter (is_live w) (upto n)))
          (map (share_lines w) (filter (is_live w) rest.0)),
    )

-- A prefix of a station's lines was written.
pub front_share : (w : World) (n : ℕ) (old now new : Option (List ℕ)) → n < w.config.stations →
    now ≡ append_known old (shares_below w n) → HoldsFront now new (lines_of w n) →
    HoldsFront old new (shares_of w)
front_share w n old now new below wrote front =
    let rest = shares-rest w (n + 1) (omega arith) in
    let whole : shares_of w ≡ (shares_below w n ++ lines_of w n) ++ rest.0 =
    rest.1 ∙ ap (λ l. l ++ rest.0) (sym (shares-more w n)) in
    rw whole (front_first old new (shares_below w n ++ lines_of w n) rest.0
    (front_next old now new (shares_below w n) (lines_of w n) wrote front))

-- ---- BSSs

-- The lines of the BSSs below a number.
abbrev pub bsses_below : World → ℕ → List ℕ
bsses_below w n = concat (map (bss_lines w) (upto n))

pub bsses-more : (w : World) (n : ℕ) → bsses_below w n ++ bss_lines w n ≡ bsses_below w (n + 1)
bsses-more w n =
    concat-more (bss_lines w) (upto n) n [] ∙ ap (λ l. concat (map (bss_lines w) l)) (sym (upto-more n))

bsses-rest : (w : World) (n : ℕ) → n ≤ bss_count w.config.bsses → (more : List ℕ) ×
    (lines_of_bsses w ≡ bsses_below w n ++ more)
bsses-rest w n below =
    let count : ℕ = bss_count w.config.bsses in
    let rest = upto-rest n (count - n) in
    let all : n + (count - n) ≡ count = omega arith in
    let whole : upto count ≡ upto n ++ rest.0 = ap upto (sym all) ∙ rest.1 in (
      concat (map (bss_lines w) rest.0),
      ap (λ l. concat (map (bss_lines w) l)) whole
          ∙ ap concat (map-append (bss_lines w) (upto n) rest.0)
          ∙ concat-append (map (bss_lines w) (upto n)) (map (bss_lines w) rest.0),
    )

-- A prefix of a BSS's lines was written.
pub front_bss : (w : World) (n : ℕ) (old now new : Option (List ℕ)) → n < bss_count w.config.bsses →
    now ≡ append_known old (bsses_below w n) → HoldsFront now new (bss_lines w n) →
    HoldsFront old new (lines_of_bsses w)
front_bss w n old now new below wrote front =
    let rest = bsses-rest w (n + 1) (omega arith) in
    let whole : lines_of_bsses w ≡ (bsses_below w n ++ bss_lines w n) ++ rest.0 =
    rest.1 ∙ ap (λ l. l ++ rest.0) (sym (bsses-more w n)) in
    rw whole (front_first old new (bsses_below w n ++ bss_lines w n) rest.0
    (front_next old now new (bsses_below w n) (bss_lines w n) wrote front))
