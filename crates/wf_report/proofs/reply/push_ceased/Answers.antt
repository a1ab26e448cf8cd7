-- Proves that the line is the word, the number and the ids, joined by spaces.
use Rattle.std.proofs.Common.{◌≡◌, ◌∷◌, [], ◌++◌, ◌∙◌, List, ℕ, append_assoc, arith}
use Rattle.std.specs.Prelude.{codes, decimal, map}
use Rattle.wf_io.specs.Words.{spaced}
use Rattle.wf_report.proofs.Rows.{line_of_two}
use Rattle.wf_report.proofs.reply.push_ceased.Goals as goal

pub returns : goal.returns
returns c =
    let ids : List (List ℕ) = map decimal c.args.ids.now in
    let number : List (List ℕ) = decimal c.args.dropped ∷ [] in
    let same : c.from.result ≡ c.args.dropped = omega arith in
    rw (
      c.push.ensures,
      c.push_ids.ensures.text,
      c.push_words.ensures.text,
      c.push_all.ensures.octets,
      c.requires,
      same,
    )
    (append_assoc (codes "ceased" ++ spaced number) (spaced ids) (10 ∷ [])
    ∙ line_of_two [] (codes "ceased") number ids)
