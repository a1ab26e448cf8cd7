-- Proves that the loop writes the octets of the body, one per step.
use Rattle.std.proofs.Common.{◌≡◌, ℕ, suc, ◌+◌, ◌%◌, ◌∷◌, [], ◌++◌, ap, ◌∙◌, take, arith, append_assoc}
use Rattle.wf_frame.specs.Frames.{sample_body}
use Rattle.wf_report.proofs.captures.group.put_body.Goals as goal

pub loop-j-preserved : goal.loop-j-preserved
loop-j-preserved c =
    let j : ℕ = c.loop-j.j in
    let same : j ≡ 0 + j = omega arith in
    let next : suc j ≡ j + 1 = omega arith in (
      omega (arith, c.put-end.ensures.place, c.loop-j.invariant.0),
      c.put-end.ensures.up_to_it ∙ ap (λ l. l ++ j % 256 ∷ []) c.loop-j.invariant.1
          ∙ append_assoc (take c.args.place c.args.octets.now) (sample_body 0 j) (j % 256 ∷ [])
          ∙ ap (λ n. take c.args.place c.args.octets.now ++ (sample_body 0 j ++ n % 256 ∷ [])) same
          ∙ ap (λ n. take c.args.place c.args.octets.now ++ sample_body 0 n) next,
    )
