-- Proves that the words of both bits follow one another, by cases of the second.
use Rattle.std.specs.Prelude.{true, false}
use Rattle.wf_def_world.specs.Text.{more_words, eosp_words}
use Rattle.wf_report.proofs.Rows.{end_of_two}
use Rattle.wf_report.proofs.reply.push_header_bits.Goals as goal

pub returns-then-eosp : goal.returns-then-eosp
returns-then-eosp c =
    rw (c.push_all.ensures.octets, c.push_more.ensures.text, c.if-eosp.true)
    (end_of_two c.args.out.now (more_words c.args.more) (eosp_words true))

pub returns-else-eosp : goal.returns-else-eosp
returns-else-eosp c =
    rw (c.push.ensures, c.push_more.ensures.text, c.if-eosp.false)
    (end_of_two c.args.out.now (more_words c.args.more) (eosp_words false))
