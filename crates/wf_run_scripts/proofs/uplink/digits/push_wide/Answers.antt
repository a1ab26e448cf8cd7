-- Proves that the four words follow one another.
use Rattle.std.proofs.Common.{◌≡◌, ℕ, List, ◌++◌, ◌∙◌, ap, ap₂, append_assoc}
use Rattle.wf_def_lists.specs.Table.{bits_word}
use Rattle.wf_def_world.specs.Text.{hex}
use Rattle.wf_run_scripts.proofs.uplink.digits.push_wide.Goals as goal

four_parts : (o a b c d : List ℕ) → (((o ++ a) ++ b) ++ c) ++ d ≡ o ++ (((a ++ b) ++ c) ++ d)
four_parts o a b c d =
    ap (λ l. (l ++ c) ++ d) (append_assoc o a b) ∙ ap (λ l. l ++ d) (append_assoc o (a ++ b) c)
    ∙ append_assoc o ((a ++ b) ++ c) d

pub returns-clause-text : goal.returns-clause-text
returns-clause-text c =
    let out : List ℕ = c.args.out.now in
    let b = c.args.bits in
    let one : c.push_digits.new.out ≡ out ++ hex 16 (bits_word 3 b) =
    c.push_digits.ensures.digits ∙ ap (λ n. out ++ hex 16 n) c.word.ensures.word in
    let two : c.push_digits-2.new.out ≡ (out ++ hex 16 (bits_word 3 b)) ++ hex 16 (bits_word 2 b) =
    c.push_digits-2.ensures.digits ∙ ap₂ (λ l n. l ++ hex 16 n) one c.word-2.ensures.word in
    let three : c.push_digits-3.new.out
    ≡ ((out ++ hex 16 (bits_word 3 b)) ++ hex 16 (bits_word 2 b)) ++ hex 16 (bits_word 1 b) =
    c.push_digits-3.ensures.digits ∙ ap₂ (λ l n. l ++ hex 16 n) two c.word-3.ensures.word in
    c.push_digits-4.ensures.digits ∙ ap₂ (λ l n. l ++ hex 16 n) three c.word-4.ensures.word
    ∙ four_parts out (hex 16 (bits_word 3 b)) (hex 16 (bits_word 2 b)) (hex 16 (bits_word 1 b))
    (hex 16 (bits_word 0 b))
