-- Proves that the loop appends two digits for each octet.
use Rattle.std.proofs.Common.{◌≡◌, take, get_or, arith}
use Rattle.std.proofs.lemmas.List.{take_more}
use Rattle.wf_def_world.specs.Text.{hex}
use Rattle.wf_report.proofs.Rows.{concat-more}
use Rattle.wf_report.proofs.report.push_octets.Goals as goal

pub loop-octet-preserved : goal.loop-octet-preserved
loop-octet-preserved c =
    let same : c.from.result ≡ get_or c.args.octets.now c.loop-octet.octet-index 0 = omega arith in (
      rw (
        c.push_hex.ensures.digits,
        same,
        c.loop-octet.invariant.0,
        take_more c.args.octets.now c.loop-octet.octet-index 0 c.loop-octet-test.true,
      )
          (concat-more (hex 2) (take c.loop-octet.octet-index c.args.octets.now)
          (get_or c.args.octets.now c.loop-octet.octet-index 0) c.args.out.now),
      omega (arith, c.push_hex.ensures.len, c.loop-octet.invariant.1),
    )
