-- Proves that the loop appends the ids, one per step, and that the line has room for them.
use Rattle.std.proofs.Common.{◌≡◌, ◌∙◌, ℕ, ◌∷◌, [], length, ap, arith, length-append, slice_get, Some}
use Rattle.std.specs.Prelude.{decimal, map, option_map}
use Rattle.std.proofs.lemmas.Option.{slice_get-map}
use Rattle.wf_report.proofs.Rows.{more_spaced}
use Rattle.wf_report.proofs.reply.push_batch.Goals as goal

-- the id of a frame
abbrev id_of : ℕ × ℕ → ℕ
id_of p = p.0

pub loop-i-preserved : goal.loop-i-preserved
loop-i-preserved c =
    let id_is : slice_get (map id_of c.args.pairs.now) c.loop-i.i ≡ Some c.at.result.0 =
    slice_get-map id_of c.args.pairs.now c.loop-i.i ∙ ap (option_map id_of) c.at.ensures in (
      rw (c.push_number.ensures.digits, c.push.ensures, c.loop-i.invariant.0)
          (more_spaced decimal (map id_of c.args.pairs.now) c.loop-i.i c.at.result.0 c.args.out.now id_is),
      omega (
        arith,
        c.push_number.ensures.len,
        ap length c.push.ensures,
        length-append c.loop-i.out (32 ∷ []),
        c.loop-i.invariant.1,
      ),
    )
