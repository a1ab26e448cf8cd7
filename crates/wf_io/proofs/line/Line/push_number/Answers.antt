-- A number below 10 is one digit.
use Rattle.std.proofs.Common.{◌++◌, ap, sym, ◌∙◌}
use Rattle.std.proofs.lemmas.Fmt.{decimal_digit}
use Rattle.wf_io.proofs.line.Line.push_number.Goals as goal

pub returns-then-number-lt10-clause-digits : goal.returns-then-number-lt10-clause-digits
returns-then-number-lt10-clause-digits c =
    c.push.ensures ∙ ap (λ l. c.args.self.now ++ l) (sym (decimal_digit c.args.number c.if-number-lt10.true))
