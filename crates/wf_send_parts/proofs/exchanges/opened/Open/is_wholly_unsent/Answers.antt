-- The transmissions from each index on are the one at the index, and those from the next index on.
use Rattle.std.proofs.Common.{◌≡◌, ◌∙◌, sym, ap, ℕ, suc, ◌+◌, ◌-◌, ◌<◌, Bool, true, ◌&&◌, arith}
use Rattle.std.specs.List.{list_all}
use Rattle.wf_def_lists.specs.Table.{has, count_from}
use Rattle.wf_send_parts.specs.Exchanges.{transmissions_of}
use Rattle.wf_send_parts.proofs.exchanges.opened.Open.is_wholly_unsent.Goals as goal

one_more : (p : ℕ → Bool) (i n : ℕ) → i < n → p i ≡ true →
    list_all p (count_from (i + 1) (n - (i + 1))) ≡ list_all p (count_from i (n - i))
one_more p i n low holds =
    let e : n - i ≡ suc (n - (i + 1)) = omega arith in
    let next : suc i ≡ i + 1 = omega arith in
    sym (ap (λ (k : ℕ). list_all p (count_from i k)) e
    ∙ ap (λ (b : Bool). b && list_all p (count_from (suc i) (n - (i + 1)))) holds
    ∙ ap (λ (k : ℕ). list_all p (count_from k (n - (i + 1)))) next)

pub loop-index-preserved : goal.loop-index-preserved
loop-index-preserved c =
    one_more (λ i. has c.args.self.now.unsent i) c.loop-index.index (transmissions_of c.args.self.now.sending)
    (omega (arith, c.loop-index-test.true, c.count-index-end.ensures.count)) (sym c.if-not-has.ensures)
    ∙ c.loop-index.invariant
