-- Proves that CoDel's counts stay in their ranges.
use Rattle.std.proofs.Common.{◌≡◌, arith, ℕ, zero, suc, ◌-◌, ◌*◌, ◌==◌, ◌≤◌, ◌&&◌, nat_lt, Bool, true, false, if◌then◌else◌, List}
use Rattle.wf_frame.specs.declared.settings.Config.{Config}
use Rattle.wf_def_codel.specs.Codel.{Item, Params, Codel, Look, new_codel, renewed, look, raised_count, first_count, begin_dropping, state_dropping, state_plain, drops, state_after, dequeue}
use Rattle.wf_def_world.specs.World.{Queue}
use Rattle.wf_def_world.specs.FlowQueues.{calmed, when_listed}
use Rattle.wf_law_runs.specs.Ranges.{CountsRight}
use Rattle.wf_law_rules.proofs.Lemmas.Numbers.{on_if, lt_yes, both}

pub counts_new : CountsRight new_codel
counts_new = record {
  some = λ e. absurd (cc e);
  count = omega arith;
  last = omega arith;
  dropped = omega arith;
}

pub counts_renewed : (c : Codel) → CountsRight c → CountsRight (renewed c)
counts_renewed c h = record {
  some = λ e. absurd (cc e);
  count = omega arith;
  last = omega arith;
  dropped = h.dropped;
}

pub counts_listed : (config : Config) (y : Queue) → CountsRight y.codel →
    CountsRight (when_listed config y).codel
counts_listed config y h = go (config.codel_reset == 1)
  where
    go : (b : Bool) → CountsRight (if b then calmed y.codel else y.codel)
    go true = record { some = λ e. absurd (cc e); count = h.count; last = h.last; dropped = h.dropped }
    go false = h

raised_some : (i count : ℕ) → 1 ≤ count → 1 ≤ raised_count count i
raised_some zero count h = h
raised_some (suc i) count h = omega (arith, h)

raised_most : (i count : ℕ) → count ≤ 4294967295 → raised_count count i ≤ 4294967295
raised_most zero count h = h
raised_most (suc i) count h = omega arith

counts_dropping : (p : Params) (now : ℕ) (c : Codel) (due : ℕ) (items : List Item) (i : ℕ) →
    c.dropping ≡ true → CountsRight c → CountsRight (state_dropping p now c due items i)
unfolding state_dropping
counts_dropping p now c due items i e h = record {
  some = λ _. raised_some i c.count (h.some e);
  count =
      raised_most i c.count h.count;
  last = h.last;
  dropped = raised_most i c.dropped h.dropped;
}

record IsFirst (n : ℕ) : Type 0 where
  some : 1 ≤ n
  most : n ≤ 4294967295

first_right : (p : Params) (now : ℕ) (c : Codel) → CountsRight c → IsFirst (first_count p now c)
first_right p now c h = on_if IsFirst (nat_lt 1 (c.count - c.last_count)
    && nat_lt (now - c.drop_next) (16 * p.interval)) (c.count - c.last_count) 1
    (λ e. record {
      some = omega (arith, lt_yes 1 (c.count - c.last_count) (both _ _ e).0);
      most =
          omega (arith, h.count);
    })
    (λ e. record { some = omega arith; most = omega arith })

counts_begin : (p : Params) (now : ℕ) (c : Codel) (second : Look) → CountsRight c →
    CountsRight (begin_dropping p now c second)
counts_begin p now c second h = let f : IsFirst (first_count p now c) = first_right p now c h in
    record { some = λ _. f.some; count = f.most; last = f.most; dropped = omega arith }

counts_plain : (p : Params) (now : ℕ) (c : Codel) (items : List Item) → CountsRight c →
    CountsRight (state_plain p now c items)
unfolding state_plain
counts_plain p now c items h = on_if CountsRight (look p now c.first_above items 0).ok _ _
    (λ _. counts_begin p now c (look p now c.first_above items 1) h)
    (λ _. record { some = h.some; count = h.count; last = h.last; dropped = h.dropped })

counts_after : (p : Params) (now : ℕ) (c : Codel) (items : List Item) → CountsRight c →
    CountsRight (state_after p now c items)
unfolding state_after
counts_after p now c items h = on_if CountsRight c.dropping _ _
    (λ e. counts_dropping p now c c.drop_next items (drops p now c items) e h)
    (λ _. counts_plain p now c items h)

pub counts_dequeue : (p : Params) (now : ℕ) (c : Codel) (items : List Item) → CountsRight c →
    CountsRight (dequeue p now c items).state
unfolding dequeue
counts_dequeue p now c items h = counts_after p now c items h
