-- Proves that the loop shows each frame, one entry at a time.
use Rattle.std.proofs.Common.{◌≡◌, ◌∙◌, ◌<◌, ap, sym, slice_get, Some, arith}
use Rattle.std.specs.Prelude.{option_map}
use Rattle.std.proofs.lemmas.List.{length-map}
use Rattle.std.proofs.lemmas.Option.{slice_get-map, slice_get_within}
use Rattle.wf_c.specs.Pulled.{ShowsPair, pair_shown, pairs_shown}
use Rattle.wf_c.proofs.Pairs.{one_more}
use Rattle.wf_c.proofs.pulled.Frames.show_pairs.Goals as goal

pub loop-i-preserved : goal.loop-i-preserved
loop-i-preserved c =
    let shown : slice_get (pairs_shown c.args.batch c.args.pairs.now) c.loop-i.i ≡ Some c.pair_shown.result =
    slice_get-map (pair_shown c.args.batch) c.args.pairs.now c.loop-i.i
    ∙ ap (option_map (pair_shown c.args.batch)) c.at.ensures ∙ ap Some (sym c.pair_shown.ensures) in
    one_more c.loop-i.self c.show_pair.new.self (pairs_shown c.args.batch c.args.pairs.now) c.loop-i.i
    c.pair_shown.result c.loop-i.invariant shown c.show_pair.ensures.put c.show_pair.ensures.others

pub returns : goal.returns
returns c =
    let many = length-map c.args.pairs.now (pair_shown c.args.batch) in record {
      count = c.len-count.ensures.count ∙ sym many;
      each = λ k pair is.
          let low : k < c.loop-i.i = omega (
            arith,
            c.loop-i-test.false,
            slice_get_within (pairs_shown c.args.batch c.args.pairs.now) k pair is,
            many,
            c.len-count.ensures.count,
          ) in
          let shown : ShowsPair c.loop-i.self k pair = c.loop-i.invariant k pair low is in
          record { id = shown.id; number = shown.number };
    }
