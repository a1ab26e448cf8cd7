-- Proves which ids the group frames of a BSS that wait and the one on the air have, and how many there are,
-- after each entry of a history. By induction on the number of entries.
use Rattle.std.proofs.Common.{◌≡◌, refl, sym, ◌∙◌, subst, arith, ℕ, zero, suc, ◌+◌, ◌<◌, ◌≤◌, nat_lt, Bool, true, false, not, ◌||◌, inl, inr, List, [], ◌∷◌, ◌++◌, length, Option, Some, None, IfSome, is_some, if◌then◌else◌}
use Rattle.wf_frame.specs.declared.settings.Config.{Config}
use Rattle.wf_frame.specs.declared.notes.GroupAsk.{GroupAsk}
use Rattle.wf_frame.specs.declared.notes.GroupAsk.TheVariants as group
use Rattle.wf_def_world.specs.Group.{GroupFrame, GroupState, dtim_period, next_count, is_first_free, may_go, first_queued, after_first, group_after}
use Rattle.wf_def_world.specs.World.{World, group_of}
use Rattle.wf_def_world.specs.Run.{Entry, world_after}
use Rattle.wf_def_world.specs.Stretches.{world_at}
use Rattle.wf_law_rules.proofs.Lemmas.Numbers.{lt_yes}
use Rattle.wf_law_runs.specs.Groups.{GroupAddsUp, GroupCountLaw}
use Rattle.wf_law_runs.proofs.Groups.Steps.{IsAllowed}
use Rattle.wf_law_runs.proofs.Groups.Moments.{state_at, sleeps_at, config_at, moment}

-- ---- consecutive ids

-- The ids of these frames are n, n + 1 .., and the next one is `end`.
abbrev pub RunsFrom : ℕ → ℕ → List GroupFrame → Type 0
RunsFrom n end [] = n ≡ end
RunsFrom n end (x ∷ xs) = (x.id ≡ n) × RunsFrom (suc n) end xs

runs_on : (xs : List GroupFrame) (n end : ℕ) (x : GroupFrame) → x.id ≡ end → RunsFrom n end xs →
    RunsFrom n (end + 1) (xs ++ x ∷ [])
runs_on [] n end x e h = (e ∙ sym h, omega (arith, h))
runs_on (y ∷ xs) n end x e h = (h.0, runs_on xs (suc n) end x e h.1)

pub runs_length : (xs : List GroupFrame) (n end : ℕ) → RunsFrom n end xs → n + length xs ≡ end
runs_length [] n end h = omega (arith, h)
runs_length (x ∷ xs) n end h = omega (arith, runs_length xs (suc n) end h.1)

-- ---- the first frame

-- The first of these frames may go.
pub record HasFirst (sleeps : Bool) (below : ℕ) (xs : List GroupFrame) : Type 0 where
  pub first : GroupFrame
  pub rest : List GroupFrame
  pub split : xs ≡ first ∷ rest
  pub served : sleeps ≡ true → first.id < below

pub first_of_free : (xs : List GroupFrame) (sleeps : Bool) (below : ℕ) →
    is_first_free sleeps below xs ≡ true → HasFirst sleeps below xs
first_of_free [] sleeps below h = absurd (cc h)
first_of_free (x ∷ xs) sleeps below h = record {
  first = x;
  rest = xs;
  split = refl;
  served = λ e. lt_yes x.id below (subst (λ (b : Bool). (not b || nat_lt x.id below) ≡ true) e h);
}

-- ---- the invariant

-- The id of the next frame to be sent.
abbrev pub next_id : GroupState → ℕ
next_id g = g.sent + (if is_some g.flying then 1 else 0)

pub record IsSound (config : Config) (g : GroupState) : Type 0 where
  pub flying : IfSome g.flying (λ x. x.id ≡ g.sent)
  pub queued : RunsFrom (next_id g) g.accepted g.queued
  pub room : length g.queued ≤ config.buffered
  pub count : g.count < dtim_period config.period

pub next_more : (config : Config) (g : GroupState) → IsSound config g →
    next_id g + length g.queued ≡ g.accepted
next_more config g i = runs_length g.queued (next_id g) g.accepted i.queued

length_one : (xs : List GroupFrame) (x : GroupFrame) → length (xs ++ x ∷ []) ≡ length xs + 1
length_one [] x = refl
length_one (y ∷ xs) x = omega (arith, length_one xs x)

count_below : (n period : ℕ) → n < dtim_period period → next_count (dtim_period period) n < dtim_period period
count_below zero period h = omega arith
count_below (suc n) period h = omega (arith, h)

pub none_flying : (o : Option GroupFrame) (n : ℕ) → is_some o ≡ false → n + (if is_some o then 1 else 0) ≡ n
none_flying None n h = omega arith
none_flying (Some x) n h = absurd (cc h)

pub one_flying : (o : Option GroupFrame) (n : ℕ) → is_some o ≡ true → n + (if is_some o then 1 else 0) ≡ n + 1
one_flying None n h = absurd (cc h)
one_flying (Some x) n h = refl

-- After a pull from these frames, the first one is on the air, and the others are queued.
record IsPulled (sent end most : ℕ) (xs : List GroupFrame) : Type 0 where
  flying : IfSome (first_queued xs) (λ x. x.id ≡ sent)
  queued : RunsFrom (sent + (if is_some (first_queued xs) then 1 else 0)) end (after_first xs)
  room : length (after_first xs) ≤ most

pulled : (sent end most : ℕ) (x : GroupFrame) (xs : List GroupFrame) → RunsFrom sent end (x ∷ xs) →
    length (x ∷ xs) ≤ most → IsPulled sent end most (x ∷ xs)
pulled sent end most x xs h room =
    let next : suc sent ≡ sent + 1 = omega arith in
    record {
      flying = h.0;
      queued = subst (λ (n : ℕ). RunsFrom n end xs) next h.1;
      room = omega (arith, room);
    }

sound_pulled : (config : Config) (sleeps : Bool) (g : GroupState) → is_some g.flying ≡ false →
    may_go sleeps g ≡ true → IsSound config g → IsSound config (group_after config group.Pull g)
sound_pulled config sleeps g none go i =
    let f : HasFirst sleeps g.served_below g.queued = first_of_free g.queued sleeps g.served_below go in
    let runs : RunsFrom g.sent g.accepted (f.first ∷ f.rest) =
    subst (λ (xs : List GroupFrame). RunsFrom g.sent g.accepted xs) f.split
    (subst (λ (n : ℕ). RunsFrom n g.accepted g.queued) (none_flying g.flying g.sent none) i.queued) in
    let p : IsPulled g.sent g.accepted config.buffered g.queued =
    subst (IsPulled g.sent g.accepted config.buffered) (sym f.split)
    (pulled g.sent g.accepted config.buffered f.first f.rest runs
    (subst (λ (xs : List GroupFrame). length xs ≤ config.buffered) f.split i.room)) in
    record { flying = p.flying; queued = p.queued; room = p.room; count = i.count }

sound_after : (ask : GroupAsk) (config : Config) (sleeps : Bool) (g : GroupState) →
    IsAllowed config sleeps ask g → IsSound config g → IsSound config (group_after config ask g)
sound_after (group.Accept len) config sleeps g h i = record {
  flying = i.flying;
  queued = runs_on g.queued (next_id g) g.accepted _ refl i.queued;
  room = omega (arith, length_one g.queued (record { id = g.accepted; len = len }), h);
  count = i.count;
}
sound_after group.Beacon config sleeps g h i = record {
  flying = i.flying;
  queued = i.queued;
  room = i.room;
  count = count_below g.count config.period i.count;
}
sound_after group.Pull config sleeps g h i = sound_pulled config sleeps g h.0 h.1 i
sound_after group.Done config sleeps g h i =
    let next : next_id g ≡ g.sent + 1 + 0 = one_flying g.flying g.sent h ∙ omega arith in
    record {
      flying = tt;
      queued = subst (λ (n : ℕ). RunsFrom n g.accepted g.queued) next i.queued;
      room = i.room;
      count = i.count;
    }

-- ---- the run

module _ (config : Config) (h : List Entry) (b : ℕ) where
  pub sound_at : (m : ℕ) → IsSound config (state_at config h b m)
  unfolding world_after
  sound_at zero = record {
    flying = tt;
    queued = refl;
    room = omega arith;
    count = omega arith;
  }
  sound_at (suc m) = elim (moment config h b m) [
    | inl stays ↦ subst (IsSound config) (sym stays.same) (sound_at m)
    | inr moves ↦ subst (IsSound config) (sym moves.1.after)
        (sound_after moves.0 config (sleeps_at config h b m) (state_at config h b m) moves.1.allowed
        (sound_at m))
  ]

adds_up : (config : Config) (w : World) (b : ℕ) → w.config ≡ config → IsSound config (group_of w b) →
    GroupAddsUp w b
adds_up config w b e i = record {
  sum = omega (arith, next_more config (group_of w b) i);
  room = subst (λ (k : Config). length (group_of w b).queued ≤ k.buffered) (sym e) i.room;
  count = subst (λ (k : Config). (group_of w b).count < dtim_period k.period) (sym e) i.count;
}

pub count_law : (config : Config) (h : List Entry) → GroupCountLaw config h
count_law config h b m =
    adds_up config (world_at config h m) b (config_at config h b m) (sound_at config h b m)
