-- An entry that is true adds its bit to the bitmap and is the last AID so far.
use Rattle.std.proofs.Common.{ℕ, ◌/◌, length, length-set, ◌≡◌, ◌≤◌, ◌<◌, ◌∙◌, ◌+◌, Some, None, ap, sym, refl, subst, arith, get_or, IfSome}
use Rattle.std.proofs.lemmas.List.{get_or-replicate, length-replicate}
use Rattle.wf_octets.proofs.Maps.{below}
use Rattle.wf_octets.proofs.Elements.{bit_added, bit_not_added, bit_fits, ends_added, ends_not_added, ends_first, ends_next, within_more}
use Rattle.wf_octets.proofs.tim.bitmap_of.Goals as goal
use Rattle.wf_octets.proofs.tim.bitmap_of.Goals.{then-here+in-Some, then-here+in-None, else-here}

pub loop-aid-init : goal.loop-aid-init
loop-aid-init c = record {
  long = length-replicate {A = ℕ} 251 0;
  octets =
      λ k within. get_or-replicate 251 k 0 0 within;
  ends = refl;
  within = tt;
}

pub overflow_add-bitmap : goal.overflow_add-bitmap
overflow_add-bitmap c = omega (
  arith,
  bit_fits c.args.present.now c.loop-aid.bitmap c.loop-aid.aid
      (omega arith) c.loop-aid.invariant.octets,
)

pub loop-aid-preserved : goal.loop-aid-preserved
loop-aid-preserved c = elim c.if-here.branch [
  | then-here+in-Some w ↦
      let before : Some (w.in-Some.lowest, w.in-Some.field-0-1) ≡ c.loop-aid.ends = cc (w.in-Some.is) in
      let known = subst (λ o. IfSome o (λ e. (e.0 ≤ e.1) × (e.1 < c.loop-aid.aid)))
      (sym before) c.loop-aid.invariant.within in
      let low : w.in-Some.lowest ≤ c.loop-aid.aid = omega (arith, known.0, known.1) in
      record {
        long = ap length w.bitmap-is ∙ length-set c.loop-aid.bitmap (c.loop-aid.aid / 8) _
            ∙ c.loop-aid.invariant.long;
        octets = λ k within. ap (λ b. get_or b k 0) w.bitmap-is
            ∙ bit_added c.args.present.now c.loop-aid.bitmap c.loop-aid.aid c.loop-aid.invariant.long
            (omega arith) w.if-here.true c.loop-aid.invariant.octets k within;
        ends = w.ends-is ∙ ends_next (below c.args.present.now c.loop-aid.aid) w.in-Some.lowest
            w.in-Some.field-0-1 c.loop-aid.aid (before ∙ c.loop-aid.invariant.ends)
            ∙ ends_added c.args.present.now c.loop-aid.aid w.if-here.true;
        within = subst (λ o. IfSome o (λ e. (e.0 ≤ e.1) × (e.1 < c.loop-aid.aid + 1))) (sym w.ends-is)
            (low, omega arith);
      }
  | then-here+in-None w ↦
      let before : None ≡ c.loop-aid.ends = cc (w.in-None.is) in
      record {
        long = ap length w.bitmap-is ∙ length-set c.loop-aid.bitmap (c.loop-aid.aid / 8) _
            ∙ c.loop-aid.invariant.long;
        octets = λ k within. ap (λ b. get_or b k 0) w.bitmap-is
            ∙ bit_added c.args.present.now c.loop-aid.bitmap c.loop-aid.aid c.loop-aid.invariant.long
            (omega arith) w.if-here.true c.loop-aid.invariant.octets k within;
        ends = w.ends-is ∙ ends_first (below c.args.present.now c.loop-aid.aid) c.loop-aid.aid
            (before ∙ c.loop-aid.invariant.ends) ∙ ends_added c.args.present.now c.loop-aid.aid
            w.if-here.true;
        within = subst (λ o. IfSome o (λ e. (e.0 ≤ e.1) × (e.1 < c.loop-aid.aid + 1))) (sym w.ends-is)
            (omega arith, omega arith);
      }
  | else-here w ↦ record {
    long = ap length w.bitmap-is ∙ c.loop-aid.invariant.long;
    octets = λ k within. ap (λ b. get_or b k 0) w.bitmap-is ∙ c.loop-aid.invariant.octets k within
        ∙ bit_not_added c.args.present.now c.loop-aid.aid k w.if-here.false;
    ends = w.ends-is ∙ c.loop-aid.invariant.ends ∙ ends_not_added c.args.present.now c.loop-aid.aid
        w.if-here.false;
    within = subst (λ o. IfSome o (λ e. (e.0 ≤ e.1) × (e.1 < c.loop-aid.aid + 1))) (sym w.ends-is)
        (within_more c.loop-aid.ends c.loop-aid.aid c.loop-aid.invariant.within);
  }
]
