-- Proves what `is_same` promises: all pairs of octets are equal exactly if the two addresses are.
use Rattle.std.proofs.Common.{rules, tests}
use Rattle.std.specs.Bool.{one_answer}
use Rattle.std.specs.Str.{bytes_eq}
use Rattle.std.proofs.lemmas.Iterator.{YieldsList-from_slice, YieldsList-from_zip, same_from_all}
use Rattle.std.proofs.lemmas.Slice.Eq.{bytes_eq-Decides}
use Rattle.wf_path.proofs.answers.is_same.Goals as goal

pub returns : goal.returns
returns c = one_answer c.all.result (bytes_eq c.args.one.now c.args.other.now)
    (same_from_all c.all.new.self _ _ _ _ c.all.ensures.ran
    (YieldsList-from_zip (YieldsList-from_slice c.args.one.now cc)
    (YieldsList-from_slice c.args.other.now cc)) (search rules) (λ x q k. search (rules, tests))
    (λ x q k. search (rules, tests))) (bytes_eq-Decides c.args.one.now c.args.other.now)
