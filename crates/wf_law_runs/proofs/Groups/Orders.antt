-- Proves in which order the group frames of a BSS are accepted, sent and ended, and which sequence numbers
-- they get. By induction on the number of entries.
use Rattle.std.proofs.Common.{◌≡◌, refl, ap, sym, ◌∙◌, subst, arith, ℕ, zero, suc, ◌+◌, ◌%◌, Bool, true, false, inl, inr, List, [], ◌∷◌, ◌++◌, append_assoc, append-nil, length, take, Option, Some, None, IfSome, is_some}
use Rattle.std.proofs.Math.Seq.{take-length}
use Rattle.wf_frame.specs.declared.settings.Config.{Config}
use Rattle.wf_frame.specs.declared.notes.GroupAsk.{GroupAsk}
use Rattle.wf_frame.specs.declared.notes.GroupAsk.TheVariants as group
use Rattle.wf_frame.specs.declared.notes.GroupReply.{GroupReply}
use Rattle.wf_frame.specs.declared.notes.GroupReply.TheVariants as answer
use Rattle.wf_def_lists.specs.Table.{at, count_from, upto}
use Rattle.wf_def_world.specs.Group.{GroupFrame, GroupState, id_of, may_go, first_queued, group_after, group_answer}
use Rattle.wf_def_world.specs.World.{World, opening}
use Rattle.wf_def_world.specs.Step.{step}
use Rattle.wf_def_world.specs.Run.{Entry, replies, world_after}
use Rattle.wf_law_runs.specs.Groups.{answers_about, group_answers, group_accepts, group_sends, group_ends, numbers_taken, GroupsInOrder, GroupOrderLaw}
use Rattle.wf_law_runs.proofs.Groups.Steps.{IsAllowed}
use Rattle.wf_law_runs.proofs.Groups.Moments.{state_at, sleeps_at, told_at, StaysAt, MovesAt, moment, SendsAt, sends_at}
use Rattle.wf_law_runs.proofs.Groups.Counts.{RunsFrom, HasFirst, first_of_free, IsSound, next_id, none_flying, one_flying, sound_at}

-- ---- the ids of one answer

abbrev accepts_of : Option GroupReply → List ℕ
accepts_of (Some (answer.Queued id)) = id ∷ []
accepts_of r = []

abbrev sends_of : Option GroupReply → List ℕ
sends_of (Some (answer.Send id number air more)) = id ∷ []
sends_of r = []

abbrev ends_of : Option GroupReply → List ℕ
ends_of (Some (answer.Done id)) = id ∷ []
ends_of r = []

abbrev taken_of : Option GroupReply → ℕ
taken_of (Some (answer.Send id number air more)) = 1
taken_of (Some (answer.Beacon count follows)) = 1
taken_of r = 0

accepts_cons : (r : Option GroupReply) (rs : List (Option GroupReply)) →
    group_accepts (r ∷ rs) ≡ accepts_of r ++ group_accepts rs
accepts_cons (Some (answer.Queued id)) rs = refl
accepts_cons _ rs = refl

sends_cons : (r : Option GroupReply) (rs : List (Option GroupReply)) →
    group_sends (r ∷ rs) ≡ sends_of r ++ group_sends rs
sends_cons (Some (answer.Send id number air more)) rs = refl
sends_cons _ rs = refl

ends_cons : (r : Option GroupReply) (rs : List (Option GroupReply)) →
    group_ends (r ∷ rs) ≡ ends_of r ++ group_ends rs
ends_cons (Some (answer.Done id)) rs = refl
ends_cons _ rs = refl

taken_cons : (r : Option GroupReply) (rs : List (Option GroupReply)) →
    numbers_taken (r ∷ rs) ≡ taken_of r + numbers_taken rs
taken_cons (Some (answer.Send id number air more)) rs = refl
taken_cons (Some (answer.Beacon count follows)) rs = refl
taken_cons _ rs = omega arith

-- ---- the ids of the first answers

-- `ids` collects the ids that `of` gives for each answer.
module _ (ids : List (Option GroupReply) → List ℕ) (of : Option GroupReply → List ℕ) (empty : ids [] ≡ [])
    (none : of None ≡ [])
    (cons : (r : Option GroupReply) (rs : List (Option GroupReply)) → ids (r ∷ rs) ≡ of r ++ ids rs) where
  ids_past : ids [] ≡ ids [] ++ of None
  ids_past = sym (append-nil (ids [])) ∙ ap (λ (xs : List ℕ). ids [] ++ xs) (sym none)

  ids_at : (rs : List (Option GroupReply)) (m : ℕ) →
      ids (take (suc m) rs) ≡ ids (take m rs) ++ of (at None rs m)
  ids_at [] zero = ids_past
  ids_at [] (suc m) = ids_past
  ids_at (x ∷ rs) zero = cons x []
      ∙ (ap (λ (xs : List ℕ). of x ++ xs) empty
      ∙ (append-nil (of x) ∙ ap (λ (xs : List ℕ). xs ++ of x) (sym empty)))
  ids_at (x ∷ rs) (suc m) = cons x (take (suc m) rs)
      ∙ (ap (λ (xs : List ℕ). of x ++ xs) (ids_at rs m)
      ∙ (sym (append_assoc (of x) (ids (take m rs)) (of (at None rs m)))
      ∙ ap (λ (xs : List ℕ). xs ++ of (at None rs m)) (sym (cons x (take m rs)))))

taken_at : (rs : List (Option GroupReply)) (m : ℕ) →
    numbers_taken (take (suc m) rs) ≡ numbers_taken (take m rs) + taken_of (at None rs m)
taken_at [] zero = refl
taken_at [] (suc m) = refl
taken_at (x ∷ rs) zero = taken_cons x [] ∙ omega arith
taken_at (x ∷ rs) (suc m) =
    omega (arith, taken_cons x (take (suc m) rs), taken_at rs m, taken_cons x (take m rs))

-- ---- one call

upto_more : (n : ℕ) → upto n ++ n ∷ [] ≡ upto (n + 1)
upto_more n =
    let last : n ≡ 0 + n = omega arith in
    let next : suc n ≡ n + 1 = omega arith in
    ap (λ (k : ℕ). upto n ++ k ∷ []) last ∙ (go 0 n ∙ ap (count_from 0) next)
  where
    go : (from n : ℕ) → count_from from n ++ (from + n) ∷ [] ≡ count_from from (suc n)
    go from zero = let same : from + 0 ≡ from = omega arith in ap (λ (k : ℕ). k ∷ []) same
    go from (suc n) =
        let same : from + suc n ≡ suc from + n = omega arith in
        ap (λ (xs : List ℕ). from ∷ xs)
        (ap (λ (k : ℕ). count_from (suc from) n ++ k ∷ []) same ∙ go (suc from) n)

length_upto : (n : ℕ) → length (upto n) ≡ n
length_upto n = go 0 n
  where
    go : (from n : ℕ) → length (count_from from n) ≡ n
    go from zero = refl
    go from (suc n) = ap suc (go (suc from) n)

accepts_step : (ask : GroupAsk) (config : Config) (sleeps : Bool) (g : GroupState) →
    upto g.accepted ++ accepts_of (Some (group_answer config sleeps ask g))
    ≡ upto (group_after config ask g).accepted
accepts_step (group.Accept len) config sleeps g = upto_more g.accepted
accepts_step group.Beacon config sleeps g = append-nil (upto g.accepted)
accepts_step group.Pull config sleeps g = append-nil (upto g.accepted)
accepts_step group.Done config sleeps g = append-nil (upto g.accepted)

-- The first queued frame is the next one to be sent.
pub first_is_next : (config : Config) (sleeps : Bool) (g : GroupState) → is_some g.flying ≡ false →
    may_go sleeps g ≡ true → IsSound config g → id_of (first_queued g.queued) ≡ next_id g
first_is_next config sleeps g none go i =
    let f : HasFirst sleeps g.served_below g.queued = first_of_free g.queued sleeps g.served_below go in
    let runs : RunsFrom (next_id g) g.accepted (f.first ∷ f.rest) =
    subst (λ (xs : List GroupFrame). RunsFrom (next_id g) g.accepted xs) f.split i.queued in
    ap (λ (xs : List GroupFrame). id_of (first_queued xs)) f.split ∙ runs.0

-- A frame is on the air after a pull.
flies : (config : Config) (sleeps : Bool) (g : GroupState) → may_go sleeps g ≡ true →
    is_some (first_queued g.queued) ≡ true
flies config sleeps g go =
    let f : HasFirst sleeps g.served_below g.queued = first_of_free g.queued sleeps g.served_below go in
    ap (λ (xs : List GroupFrame). is_some (first_queued xs)) f.split

sends_step : (ask : GroupAsk) (config : Config) (sleeps : Bool) (g : GroupState) →
    IsAllowed config sleeps ask g → IsSound config g →
    upto (next_id g) ++ sends_of (Some (group_answer config sleeps ask g))
    ≡ upto (next_id (group_after config ask g))
sends_step (group.Accept len) config sleeps g h i = append-nil (upto (next_id g))
sends_step group.Beacon config sleeps g h i = append-nil (upto (next_id g))
sends_step group.Pull config sleeps g h i =
    let id : id_of (first_queued g.queued) ≡ next_id g = first_is_next config sleeps g h.0 h.1 i in
    let one : next_id (group_after config group.Pull g) ≡ g.sent + 1 =
    one_flying (first_queued g.queued) g.sent (flies config sleeps g h.1) in
    let none : next_id g ≡ g.sent = none_flying g.flying g.sent h.0 in
    let next : next_id g + 1 ≡ next_id (group_after config group.Pull g) = omega (arith, one, none) in
    ap (λ (k : ℕ). upto (next_id g) ++ k ∷ []) id ∙ (upto_more (next_id g) ∙ ap upto next)
sends_step group.Done config sleeps g h i =
    let next : next_id g ≡ g.sent + 1 + 0 = one_flying g.flying g.sent h ∙ omega arith in
    append-nil (upto (next_id g)) ∙ ap upto next

flying_id : (o : Option GroupFrame) (n : ℕ) → is_some o ≡ true → IfSome o (λ x. x.id ≡ n) → id_of o ≡ n
flying_id None n h e = absurd (cc h)
flying_id (Some x) n h e = e

ends_step : (ask : GroupAsk) (config : Config) (sleeps : Bool) (g : GroupState) →
    IsAllowed config sleeps ask g → IsSound config g →
    upto g.sent ++ ends_of (Some (group_answer config sleeps ask g)) ≡ upto (group_after config ask g).sent
ends_step (group.Accept len) config sleeps g h i = append-nil (upto g.sent)
ends_step group.Beacon config sleeps g h i = append-nil (upto g.sent)
ends_step group.Pull config sleeps g h i = append-nil (upto g.sent)
ends_step group.Done config sleeps g h i =
    ap (λ (k : ℕ). upto g.sent ++ k ∷ []) (flying_id g.flying g.sent h i.flying) ∙ upto_more g.sent

taken_step : (ask : GroupAsk) (config : Config) (sleeps : Bool) (g : GroupState) →
    g.number + taken_of (Some (group_answer config sleeps ask g)) ≡ (group_after config ask g).number
taken_step (group.Accept len) config sleeps g = omega arith
taken_step group.Beacon config sleeps g = refl
taken_step group.Pull config sleeps g = refl
taken_step group.Done config sleeps g = omega arith

-- ---- the run

-- The ids and the sequence numbers in the answers about BSS b to the first m entries.
record IsOrdered (config : Config) (h : List Entry) (b m : ℕ) : Type 0 where
  accepts : group_accepts (take m (group_answers config h b)) ≡ upto (state_at config h b m).accepted
  sends : group_sends (take m (group_answers config h b)) ≡ upto (next_id (state_at config h b m))
  ends : group_ends (take m (group_answers config h b)) ≡ upto (state_at config h b m).sent
  numbers : numbers_taken (take m (group_answers config h b)) ≡ (state_at config h b m).number

module _ (config : Config) (h : List Entry) (b : ℕ) where
  abbrev answers : List (Option GroupReply)
  answers = group_answers config h b

  ordered_still : (m : ℕ) → StaysAt config h b m → IsOrdered config h b m → IsOrdered config h b (suc m)
  ordered_still m s i = record {
    accepts = ids_at group_accepts accepts_of refl refl accepts_cons answers m
        ∙ (ap (λ (o : Option GroupReply). group_accepts (take m answers) ++ accepts_of o) s.silent
        ∙ (append-nil (group_accepts (take m answers))
        ∙ (i.accepts ∙ ap (λ (g : GroupState). upto g.accepted) (sym s.same))));
    sends = ids_at group_sends sends_of refl refl sends_cons answers m
        ∙ (ap (λ (o : Option GroupReply). group_sends (take m answers) ++ sends_of o) s.silent
        ∙ (append-nil (group_sends (take m answers))
        ∙ (i.sends ∙ ap (λ (g : GroupState). upto (next_id g)) (sym s.same))));
    ends = ids_at group_ends ends_of refl refl ends_cons answers m
        ∙ (ap (λ (o : Option GroupReply). group_ends (take m answers) ++ ends_of o) s.silent
        ∙ (append-nil (group_ends (take m answers))
        ∙ (i.ends ∙ ap (λ (g : GroupState). upto g.sent) (sym s.same))));
    numbers =
        let none : taken_of (told_at config h b m) ≡ 0 = ap taken_of s.silent in
        let same : (state_at config h b (suc m)).number ≡ (state_at config h b m).number =
        ap (λ (g : GroupState). g.number) s.same in
        omega (arith, taken_at answers m, none, same, i.numbers);
  }

  ordered_moved : (m : ℕ) (ask : GroupAsk) → MovesAt config h b m ask → IsOrdered config h b m →
      IsOrdered config h b (suc m)
  ordered_moved m ask s i =
      let g : GroupState = state_at config h b m in
      let answer : GroupReply = group_answer config (sleeps_at config h b m) ask g in
      let is : told_at config h b m ≡ Some answer = s.reply in
      let sound : IsSound config g = sound_at config h b m in
      record {
        accepts = ids_at group_accepts accepts_of refl refl accepts_cons answers m
            ∙ (ap (λ (o : Option GroupReply). group_accepts (take m answers) ++ accepts_of o) is
            ∙ (ap (λ (xs : List ℕ). xs ++ accepts_of (Some answer)) i.accepts
            ∙ (accepts_step ask config (sleeps_at config h b m) g
            ∙ ap (λ (z : GroupState). upto z.accepted) (sym s.after))));
        sends = ids_at group_sends sends_of refl refl sends_cons answers m
            ∙ (ap (λ (o : Option GroupReply). group_sends (take m answers) ++ sends_of o) is
            ∙ (ap (λ (xs : List ℕ). xs ++ sends_of (Some answer)) i.sends
            ∙ (sends_step ask config (sleeps_at config h b m) g s.allowed sound
            ∙ ap (λ (z : GroupState). upto (next_id z)) (sym s.after))));
        ends = ids_at group_ends ends_of refl refl ends_cons answers m
            ∙ (ap (λ (o : Option GroupReply). group_ends (take m answers) ++ ends_of o) is
            ∙ (ap (λ (xs : List ℕ). xs ++ ends_of (Some answer)) i.ends
            ∙ (ends_step ask config (sleeps_at config h b m) g s.allowed sound
            ∙ ap (λ (z : GroupState). upto z.sent) (sym s.after))));
        numbers = taken_at answers m
            ∙ (ap (λ (o : Option GroupReply). numbers_taken (take m answers) + taken_of o) is
            ∙ (ap (λ (n : ℕ). n + taken_of (Some answer)) i.numbers
            ∙ (taken_step ask config (sleeps_at config h b m) g
            ∙ ap (λ (z : GroupState). z.number) (sym s.after))));
      }

  ordered_at : (m : ℕ) → IsOrdered config h b m
  unfolding world_after
  ordered_at zero = record { accepts = refl; sends = refl; ends = refl; numbers = refl }
  ordered_at (suc m) = elim (moment config h b m) [
    | inl stays ↦ ordered_still m stays (ordered_at m)
    | inr moves ↦ ordered_moved m moves.0 moves.1 (ordered_at m)
  ]

answers_length : (b : ℕ) (h : List Entry) (w : World) → length (answers_about b h (replies w h)) ≡ length h
unfolding replies
answers_length b [] w = refl
answers_length b (e ∷ es) w = ap suc (answers_length b es (step w e.1).world)

in_order_at : (config : Config) (h : List Entry) (b : ℕ) → GroupsInOrder config h b
in_order_at config h b =
    let rs : List (Option GroupReply) = group_answers config h b in
    let i : IsOrdered config h b (length h) = ordered_at config h b (length h) in
    let all : take (length h) rs ≡ rs = ap (λ (n : ℕ). take n rs) (sym (answers_length b h (opening config)))
    ∙ take-length rs in
    let sends : group_sends rs ≡ upto (next_id (state_at config h b (length h))) =
    ap group_sends (sym all) ∙ i.sends in
    let count : length (group_sends rs) ≡ next_id (state_at config h b (length h)) =
    ap length sends ∙ length_upto _ in
    record {
      accepts = ap group_accepts (sym all) ∙ i.accepts;
      sends = sends ∙ ap upto (sym count);
      counted = count;
      ends = ap group_ends (sym all) ∙ i.ends;
      numbers = λ m id number air more e.
          let s : SendsAt config h b m id number air more = sends_at config h b m id number air more e in
          let is : number ≡ (state_at config h b m).number % 4096 = cc s.answer in
          is ∙ ap (λ (n : ℕ). n % 4096) (sym (ordered_at config h b m).numbers);
    }

pub order_law : (config : Config) (h : List Entry) → GroupOrderLaw config h
order_law config h b = in_order_at config h b
