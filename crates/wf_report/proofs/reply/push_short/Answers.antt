-- Proves that a number of 16 bits has at most five digits.
use Rattle.std.proofs.Common.{◌≤◌, length, ap, arith, length-append}
use Rattle.std.specs.Fmt.{decimal}
use Rattle.std.proofs.lemmas.Fmt.{length-decimal-le}
use Rattle.wf_report.proofs.reply.push_short.Goals as goal

pub returns-clause-len : goal.returns-clause-len
returns-clause-len c =
    let few : length (decimal c.from.result) ≤ 5 =
    length-decimal-le 5 c.from.result (omega arith) (omega (arith, c.ranges.number.fits))
    (omega (arith, c.ranges.number.fits)) in
    omega (
      arith,
      ap length c.push_number.ensures.digits,
      length-append c.args.out.now (decimal c.from.result),
      few,
    )
