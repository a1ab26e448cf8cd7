-- Proves `dropped_law` (lib.rt): by whether CoDel is dropping before the dequeue and, if not, by the first
-- look.
use Rattle.std.proofs.Common.{◌≡◌, ℕ, ◌∙◌, refl, sym, ap, true, false, List, if◌then◌else◌}
use Rattle.wf_def_codel.specs.Codel.{Item, Params, Codel, look, raised_count, begin_dropping, dequeue, drops, drops_plain, state_after, state_dropping, state_plain}
use Rattle.wf_law_rules.proofs.Lemmas.Numbers.{on_if}
use Rattle.wf_law_rules.proofs.Lemmas.Stepped.{drops-off}
use Rattle.wf_law_rules.proofs.dropped_law.Goals as goal

plain : (p : Params) (now : ℕ) (c : Codel) (items : List Item) →
    (state_plain p now c items).dropped ≡ raised_count c.dropped (drops_plain p now c items)
unfolding state_plain drops_plain
plain p now c items = elim (look p now c.first_above items 0).ok as (λ b.
    (if b then begin_dropping p now c (look p now c.first_above items 1)
    else record c { first_above = (look p now c.first_above items 0).first_above }).dropped
    ≡ raised_count c.dropped (if b then 1 else 0)) [ true ↦ refl | false ↦ refl ]

after : (p : Params) (now : ℕ) (c : Codel) (items : List Item) →
    (state_after p now c items).dropped ≡ raised_count c.dropped (drops p now c items)
unfolding state_after state_dropping
after p now c items = on_if (λ (z : Codel). z.dropped ≡ raised_count c.dropped (drops p now c items))
    c.dropping _ _ (λ on. refl) (λ off. plain p now c items
    ∙ ap (raised_count c.dropped) (sym (drops-off p now c items off)))

pub returns : goal.returns
unfolding dequeue
returns c = after
