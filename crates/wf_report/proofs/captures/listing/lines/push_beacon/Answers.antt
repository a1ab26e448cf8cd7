-- Proves that the words and the numbers describe a beacon.
use Rattle.std.proofs.Common.{refl}
use Rattle.wf_report.proofs.captures.listing.lines.push_beacon.Goals as goal

pub returns-clause-text : goal.returns-clause-text
returns-clause-text c = rw (
  c.push_words.ensures.text,
  c.from.ensures,
  c.from-2.ensures,
  c.from-3.ensures,
  c.bit_word.ensures.word,
) refl
