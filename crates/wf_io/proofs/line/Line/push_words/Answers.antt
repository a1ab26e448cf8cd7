-- Each iteration appends a space and one more word, for which there is room.
use Rattle.std.proofs.Common.{◌≡◌, ◌<◌, ◌≤◌, ◌+◌, ◌++◌, ◌∷◌, [], ℕ, List, get_or, take, length, ap, sym, ◌∙◌, arith, length-append, ℤ, w64, to_z, of_z}
use Rattle.std.specs.Prelude.{map, sum_by}
use Rattle.std.specs.Fmt.{signed_decimal}
use Rattle.std.proofs.Math.Facts.{to_z-of_z}
use Rattle.wf_io.specs.Words.{words_text, width_of, spaced}
use Rattle.wf_io.specs.declared.line.Word.{Word}
use Rattle.wf_io.specs.declared.line.Word.TheVariants.{Text, Number, Signed}
use Rattle.wf_io.proofs.Spaces.{more_words, widths-more, widths-rest}
use Rattle.wf_io.proofs.line.Line.push_words.Goals as goal
use Rattle.wf_io.proofs.line.Line.push_words.Goals.{in-Text, in-Number, in-Signed}

-- what a read past the words would return
abbrev none : Word
none = Text (record { ref_ptr = (0, 0); now = [] })

-- the words so far, and how long they are
abbrev Wrote : List ℕ → List Word → ℕ → List ℕ → Type 0
Wrote front words i out = (out ≡ front ++ spaced (map words_text (take i words)))
    × (length out ≤ length front + sum_by (λ w. width_of w + 1) (take i words))

one_more : (words : List Word) (i : ℕ) (front before pushed after : List ℕ) (word : Word) →
    i < length words → get_or words i none ≡ word → Wrote front words i before →
    pushed ≡ before ++ 32 ∷ [] → after ≡ pushed ++ words_text word →
    length after ≤ length pushed + width_of word → Wrote front words (i + 1) after
one_more words i front before pushed after word inside is wrote pushed_is after_is after_fits =
    let last : after ≡ pushed ++ words_text (get_or words i none) =
    after_is ∙ ap (λ (w : Word). pushed ++ words_text w) (sym is) in
    let wide : width_of (get_or words i none) ≡ width_of word = ap width_of is in (
      last ∙ ap (λ (xs : List ℕ). xs ++ words_text (get_or words i none))
          (pushed_is ∙ ap (λ (xs : List ℕ). xs ++ 32 ∷ []) wrote.0)
          ∙ more_words words i none front inside,
      omega (
        arith,
        widths-more words i none inside,
        wide,
        wrote.1,
        after_fits,
        ap length pushed_is,
        length-append before (32 ∷ []),
      ),
    )

pub push-requires : goal.push-requires
push-requires c = omega (
  arith,
  widths-rest c.args.words.now c.loop-word.word-index none c.loop-word-test.true,
  c.loop-word.invariant.1,
  c.requires,
)

pub push_all-requires : goal.push_all-requires
push_all-requires c =
    let wide : width_of (get_or c.args.words.now c.loop-word.word-index none) ≡ length c.in-Text.text.now =
    ap width_of c.in-Text.is in
    omega (
      arith,
      wide,
      widths-rest c.args.words.now c.loop-word.word-index none c.loop-word-test.true,
      c.loop-word.invariant.1,
      c.requires,
      ap length c.push.ensures,
      length-append c.loop-word.self (32 ∷ []),
    )

pub push_number-requires : goal.push_number-requires
push_number-requires c =
    let wide : width_of (get_or c.args.words.now c.loop-word.word-index none) ≡ 20 =
    ap width_of c.in-Number.is in
    omega (
      arith,
      wide,
      widths-rest c.args.words.now c.loop-word.word-index none c.loop-word-test.true,
      c.loop-word.invariant.1,
      c.requires,
      ap length c.push.ensures,
      length-append c.loop-word.self (32 ∷ []),
    )

pub push_signed-requires : goal.push_signed-requires
push_signed-requires c =
    let wide : width_of (get_or c.args.words.now c.loop-word.word-index none) ≡ 21 =
    ap width_of c.in-Signed.is in
    omega (
      arith,
      wide,
      widths-rest c.args.words.now c.loop-word.word-index none c.loop-word-test.true,
      c.loop-word.invariant.1,
      c.requires,
      ap length c.push.ensures,
      length-append c.loop-word.self (32 ∷ []),
    )

pub loop-word-preserved : goal.loop-word-preserved
loop-word-preserved c = elim c.match-word.branch [
  | in-Text w ↦ one_more c.args.words.now c.loop-word.word-index c.args.self.now c.loop-word.self
      c.push.new.self c.match-word.self (Text w.in-Text.text) c.loop-word-test.true w.in-Text.is
      c.loop-word.invariant c.push.ensures (w.self-is ∙ w.push_all.ensures.octets)
      (omega (arith, ap length w.self-is, w.push_all.ensures.len))
  | in-Number w ↦ one_more c.args.words.now c.loop-word.word-index c.args.self.now c.loop-word.self
      c.push.new.self c.match-word.self (Number w.in-Number.number) c.loop-word-test.true w.in-Number.is
      c.loop-word.invariant c.push.ensures (w.self-is ∙ w.push_number.ensures.digits)
      (omega (arith, ap length w.self-is, w.push_number.ensures.len))
  | in-Signed w ↦
      let same : to_z w64 (of_z w64 w.in-Signed.number) ≡ w.in-Signed.number = search (to_z-of_z) in
      one_more c.args.words.now c.loop-word.word-index c.args.self.now c.loop-word.self
      c.push.new.self c.match-word.self (Signed w.in-Signed.number) c.loop-word-test.true w.in-Signed.is
      c.loop-word.invariant c.push.ensures (w.self-is ∙ w.push_signed.ensures.digits
      ∙ ap (λ (z : ℤ). c.push.new.self ++ signed_decimal z) same)
      (omega (arith, ap length w.self-is, w.push_signed.ensures.len))
]
