-- The word, the spaced words and the line's end make up the line.
use Rattle.std.specs.Prelude.{map}
use Rattle.wf_io.specs.Words.{words_text}
use Rattle.wf_io.proofs.Spaces.{line_behind}
use Rattle.wf_io.proofs.line.Line.push_line.Goals as goal

pub returns-clause-text : goal.returns-clause-text
returns-clause-text c =
    rw (c.push.ensures, c.push_words.ensures.text, c.push_all.ensures.octets)
    (line_behind c.args.self.now c.args.word.now (map words_text c.args.words.now))
