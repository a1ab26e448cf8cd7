-- Proves the clauses of `Frame::sample`: the loop writes one octet of the body after the other.
use Rattle.std.proofs.Common.{◌≡◌, ◌∙◌, ap, sym, refl, ℕ, arith}
use Rattle.std.proofs.lemmas.List.{take_all, with_items_is}
use Rattle.std.specs.Vec.{with_items}
use Rattle.wf_frame.specs.Frames.{new_frame, sample_body}
use Rattle.wf_frame.proofs.Sampling.{next_octet, one_more}
use Rattle.wf_frame.proofs.frames.Frame.sample.Goals as goal

pub loop-octet-init : goal.loop-octet-init
loop-octet-init c = (omega arith, refl)

pub loop-octet-preserved : goal.loop-octet-preserved
loop-octet-preserved c = (
  next_octet c.args.flow c.loop-octet.octet-index c.loop-octet.next c.loop-octet.invariant.0,
  one_more c.args.flow c.loop-octet.octet-index c.loop-octet.next c.loop-octet.octet-items
      (omega (arith, c.loop-octet-test.true, c.loop-octet.auto.octet-items)) c.loop-octet.invariant.0
      c.loop-octet.invariant.1,
)

pub returns : goal.returns
returns c =
    let ended : c.loop-octet.octet-index ≡ c.args.len =
    omega (
      arith,
      c.loop-octet-test.false,
      c.loop-octet.auto.octet-index-end,
      c.deref_mut-octet-items.ensures.len,
      c.in_ok-body.ensures.len,
    ) in
    let filled : (with_items c.in_ok-body.body c.loop-octet.octet-items).items
    ≡ sample_body c.args.flow c.args.len =
    with_items_is c.in_ok-body.body c.loop-octet.octet-items
    (c.loop-octet.auto.octet-items ∙ c.deref_mut-octet-items.ensures.len)
    ∙ sym (take_all c.loop-octet.octet-index c.loop-octet.octet-items
    (omega (arith, c.loop-octet-test.false, c.loop-octet.auto.octet-items)))
    ∙ c.loop-octet.invariant.1
    ∙ ap (λ (k : ℕ). sample_body c.args.flow k) ended in
    c.with_body.ensures ∙ ap (new_frame c.args.station c.args.tid c.args.flow) filled
