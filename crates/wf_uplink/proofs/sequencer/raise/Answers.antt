-- Each iteration appends the frame of the next id, with the next number.
use Rattle.std.proofs.Common.{◌≡◌, ◌+◌, ◌%◌, ◌++◌, ◌∷◌, [], ◌∙◌, map, take, length, ap, ap₂, sym, add-one, arith, append_assoc, length-append}
use Rattle.std.proofs.lemmas.List.{length-map, length-take-le, take_all}
use Rattle.wf_uplink.specs.declared.items.UpItem.TheVariants.{Frame}
use Rattle.wf_uplink.specs.Shown.{item_of}
use Rattle.wf_uplink.specs.Standing.{frames_from}
use Rattle.wf_uplink.proofs.Standing.{frames_length, frame_more}
use Rattle.wf_uplink.proofs.sequencer.raise.Goals as goal

pub push-requires : goal.push-requires
push-requires c =
    let so_far = ap length c.loop-i.invariant.items
    ∙ length-append c.args.items.now (map item_of
    (frames_from c.args.start (take c.loop-i.i c.args.ids.now))) in
    let frames = length-map (frames_from c.args.start (take c.loop-i.i c.args.ids.now)) item_of
    ∙ frames_length c.args.start (take c.loop-i.i c.args.ids.now)
    ∙ length-take-le c.loop-i.i c.args.ids.now
    (omega (arith, c.loop-i-test.true, c.len-i-end.ensures.count)) in
    omega (arith, so_far, frames, c.requires.room, c.loop-i-test.true, c.len-i-end.ensures.count)

pub loop-i-preserved : goal.loop-i-preserved
loop-i-preserved c =
    let e = c.loop-i.invariant.number in
    let seq : c.raw-seq.result ≡ (c.args.start + c.loop-i.i) % 4096 =
    c.raw-seq.ensures.number ∙ c.of.ensures ∙ ap (λ n. n % 4096) e in
    record {
      number = omega (arith, e);
      items = c.push.ensures
          ∙ ap₂ (λ us n. us ++ Frame c.at.result n ∷ []) c.loop-i.invariant.items seq
          ∙ append_assoc c.args.items.now (map item_of (frames_from c.args.start
          (take c.loop-i.i c.args.ids.now))) (Frame c.at.result ((c.args.start + c.loop-i.i) % 4096) ∷ [])
          ∙ ap (λ ys. c.args.items.now ++ ys)
          (sym (ap (λ n. map item_of (frames_from c.args.start (take n c.args.ids.now))) (add-one c.loop-i.i)
          ∙ frame_more c.args.start c.loop-i.i c.at.result c.args.ids.now c.at.ensures));
    }

pub returns : goal.returns
returns c =
    let all : c.loop-i.i ≡ length c.args.ids.now =
    omega (arith, c.loop-i.auto.i-end, c.loop-i-test.false, c.len-i-end.ensures.count) in
    record {
      next = c.loop-i.invariant.number ∙ ap (λ n. c.args.start + n) all;
      items = c.loop-i.invariant.items ∙ ap (λ ids. c.args.items.now
          ++ map item_of (frames_from c.args.start ids))
          (take_all c.loop-i.i c.args.ids.now (omega (arith, all)));
    }
