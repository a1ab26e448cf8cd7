-- Proves the line of each answer that has several parts.
use Rattle.std.proofs.Common.{◌∷◌, [], refl}
use Rattle.std.specs.Prelude.{codes, decimal}
use Rattle.wf_frame.specs.Answers.{part_sent}
use Rattle.wf_def_world.specs.Text.{part_words, more_words, eosp_words}
use Rattle.wf_report.proofs.Rows.{line_of_four}
use Rattle.wf_report.proofs.reply.print_reply.Goals as goal

pub returns-in-Send : goal.returns-in-Send
returns-in-Send c =
    rw (c.in-Send.is, c.push_header_bits.ensures, c.push_part.ensures.text, c.push_exchange.ensures.text)
    (line_of_four (codes "send")
    (decimal c.in-Send.exchange ∷ codes "sta" ∷ decimal c.in-Send.station
    ∷ codes "tid" ∷ decimal c.in-Send.tid ∷ codes "air" ∷ decimal c.in-Send.air ∷ [])
    (part_words (part_sent c.in-Send.request c.in-Send.kind c.args.answer.now.pairs))
    (more_words c.in-Send.more) (eosp_words c.in-Send.eosp))

pub returns-in-Ba : goal.returns-in-Ba
returns-in-Ba c = rw (c.in-Ba.is, c.push_answer.ensures) refl

pub returns-in-Done : goal.returns-in-Done
returns-in-Done c = rw (c.in-Done.is, c.push_ended.ensures) refl
