-- Proves what `mark_present` promises: each step sets the entry of one more station, by the lemmas of
-- Identifiers.
use Rattle.std.proofs.Common.{sym, ◌∙◌, subst, ℕ, ◌+◌, ◌==◌, Bool, List, eq-eqb}
use Rattle.std.proofs.lemmas.Bool.{and_from, and_left, and_right, ne_eqb}
use Rattle.wf_path.specs.Addresses.{IsAid}
use Rattle.wf_path.specs.Traffic.{has_traffic_of, bss_of, is_awaited_of, ArePresent}
use Rattle.wf_path.proofs.Identifiers.{none_present, one_more, one_less}
use Rattle.wf_path.proofs.traffic.mark_present.Goals as goal
use Rattle.wf_path.proofs.traffic.mark_present.Goals.{then-has_traffic+then-bss, else-has_traffic, else-has_traffic-via-then-has_traffic+else-bss, else-has_traffic-via-else-has_traffic}

pub loop-number-init : goal.loop-number-init
loop-number-init c =
    let shown : ℕ → Bool = is_awaited_of c.args.half.now c.args.bss in
    subst (λ (p : List Bool). ArePresent p c.args.addresses.now shown 0) (sym c.requires.none)
    (none_present c.args.addresses.now shown)

pub loop-number-preserved : goal.loop-number-preserved
loop-number-preserved c =
    let shown : ℕ → Bool = is_awaited_of c.args.half.now c.args.bss in
    let i : ℕ = c.loop-number.number in
    let own : Bool = bss_of c.args.half.now i == c.args.bss in
    elim c.if-has_traffic.branch [
      | then-has_traffic+then-bss w ↦
          subst (λ (p : List Bool). ArePresent p c.args.addresses.now shown (i + 1)) (sym w.present-is)
          (one_more c.loop-number.present c.args.addresses.now shown i w.from.result
          (w.from.ensures ∙ w.aid.ensures.value) (subst IsAid (sym w.from.ensures) w.aid.ensures.range)
          (and_from (has_traffic_of c.args.half.now i) own
          (sym c.has_traffic.ensures ∙ w.if-has_traffic.true)
          (eq-eqb (bss_of c.args.half.now i) c.args.bss (sym w.bss.ensures.value ∙ w.if-bss.true)))
          c.loop-number.invariant)
      | else-has_traffic w ↦
          subst (λ (p : List Bool). ArePresent p c.args.addresses.now shown (i + 1)) (sym w.present-is)
          (one_less c.loop-number.present c.args.addresses.now shown i
          (elim w.else-has_traffic.branch [
            | else-has_traffic-via-then-has_traffic+else-bss x ↦
                and_right (has_traffic_of c.args.half.now i) own
                (ne_eqb (bss_of c.args.half.now i) c.args.bss (λ e. x.if-bss.false (x.bss.ensures.value ∙ e)))
            | else-has_traffic-via-else-has_traffic x ↦
                and_left (has_traffic_of c.args.half.now i) own
                (sym c.has_traffic.ensures ∙ x.if-has_traffic.false)
          ]) c.loop-number.invariant)
    ]
