-- Each split gives the first of the remaining numbers to a new seat.
use Rattle.std.proofs.Common.{rules, arith, ◌≡◌, ◌<◌, ◌-◌, ◌+◌, ℕ, sym, ap, ◌∙◌, subst, ⊎_elim, [], length, drop, get_or}
use mathlib.Core.Option.{some}
use lib.ListN.{get_elem?}
use Rattle.std.proofs.lemmas.List.{drop_all, length_push}
use Rattle.wf_gate.specs.Turns.{opening_of, new_view, tail, numbers_from}
use Rattle.wf_gate.specs.Seats.{gate_of, new_seat}
use Rattle.wf_gate.proofs.Counts.{at_snoc_at, length-count_from, length_tail}
use Rattle.wf_gate.proofs.Steps.{split_deal, dealt_left, dealt_right}
use Rattle.wf_gate.proofs.Calls.{new_at_gate, new_is}
use Rattle.wf_gate.proofs.dealing.deal.Goals as goal

pub split_seat-pass-requires : goal.split_seat-pass-requires
split_seat-pass-requires g c = let i = c.loop-i.invariant in
    let o = opening_of c.args.shared.now.key in
    let same : length o.quotas ≡ length c.args.quotas.now = ap length c.requires.quotas in (
      i.0 ∙ c.requires.own.0,
      search rules,
      split_deal _ _ _ o _ c.loop-i.i _ _ (tail o.quotas)
          (ap (λ m. m.0) i.1) (omega (arith, length_tail o.quotas)),
    )

pub invariant_of-push_reserved : goal.invariant_of-push_reserved
invariant_of-push_reserved g c = let i = c.loop-i.invariant in let s = c.split_seat-pass.ensures in
    let o = opening_of c.args.shared.now.key in
    let same : length o.quotas ≡ length c.args.quotas.now = ap length c.requires.quotas in
    let new = s.4 ∙ ap (λ z. (z, [])) (dealt_right o c.loop-i.i _ _ (tail o.quotas) (ap (λ m. m.0) i.1)
    (omega (arith, length_tail o.quotas))) in
    new_at_gate o c.loop-i.i _ c.split_seat-pass.result new
    (ap (λ l. get_or l c.loop-i.i 0) (sym c.requires.quotas))

pub loop-i-preserved : goal.loop-i-preserved
loop-i-preserved g c = let i = c.loop-i.invariant in let s = c.split_seat-pass.ensures in
    let p = c.push_reserved.ensures in
    let gate = gate_of c.args.shared.now.table_id c.args.shared.now.key in
    let o = gate.opening in
    let same : length o.quotas ≡ length c.args.quotas.now = ap length c.requires.quotas in
    let less : c.loop-i.i < length (tail o.quotas) = omega (arith, length_tail o.quotas) in
    let left = s.2 ∙ (λ k. (
      dealt_left o c.loop-i.i _ _ (tail o.quotas) (ap (λ m. m.0) i.1) less k,
      (i.1 k).1,
    )) in
    let new = s.4 ∙ ap (λ z. (z, [])) (dealt_right o c.loop-i.i _ _ (tail o.quotas) (ap (λ m. m.0) i.1) less)
    in
    let seat = new_is gate c.loop-i.i _ c.split_seat-pass.result (s.3 ∙ (i.0 ∙ c.requires.own.0)) new
    (ap (λ l. get_or l c.loop-i.i 0) (sym c.requires.quotas)) in (
      s.0 ∙ i.0,
      left,
      ap length p.items ∙ (length_push c.loop-i.seats.items _ ∙ ap (λ (n : ℕ). n + 1) i.2),
      search rules,
      λ k x e. ⊎_elim (λ t. i.4 k x t) (λ t. sym t.1 ∙ (seat ∙ ap (new_seat gate) (sym (t.0 ∙ i.2))))
          (at_snoc_at c.loop-i.seats.items _ x k (subst (λ l. get_elem? l k ≡ some x) p.items e)),
    )

pub returns-clause-seats : goal.returns-clause-seats
returns-clause-seats g c = let i = c.loop-i.invariant in let p = c.push_reserved-2.ensures in
    let gate = gate_of c.args.shared.now.table_id c.args.shared.now.key in
    let o = gate.opening in
    let same : length o.quotas ≡ length c.args.quotas.now = ap length c.requires.quotas in
    let last : ℕ = length c.args.quotas.now - 1 in
    let end : c.loop-i.i ≡ last = omega arith in
    let number : length (tail o.quotas) ≡ last = omega (arith, length_tail o.quotas) in
    let none : drop c.loop-i.i (numbers_from 0 (tail o.quotas)) ≡ [] =
    drop_all c.loop-i.i (numbers_from 0 (tail o.quotas))
    (omega (arith, length-count_from 0 (tail o.quotas))) in
    let me = i.1 ∙ (λ k. (new_view o (number k) (none k), [])) in
    let seat = new_is gate last _ c.loop-i.first (i.0 ∙ c.requires.own.0) me
    (ap (λ l. get_or l last 0) (sym c.requires.quotas)) in
    λ k x e. ⊎_elim (λ t. i.4 k x t) (λ t. sym t.1 ∙ (seat ∙ ap (new_seat gate) (sym (t.0 ∙ (i.2 ∙ end)))))
    (at_snoc_at c.loop-i.seats.items _ x k (subst (λ l. get_elem? l k ≡ some x) p.items e))
