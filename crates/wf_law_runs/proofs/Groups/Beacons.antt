-- Proves which beacon announced a group frame that is sent while a station sleeps, when a beacon announces
-- group frames, and which group frames have the More Data bit. By induction on the number of entries.
use Rattle.std.proofs.Common.{◌≡◌, refl, ap, sym, ◌∙◌, subst, arith, ℕ, zero, suc, ◌+◌, ◌<◌, ◌≤◌, ◌==◌, nat_lt, Bool, true, false, ◌&&◌, if◌then◌else◌, inl, inr, List, [], ◌∷◌, length, Some, is_some}
use Rattle.wf_frame.specs.declared.settings.Config.{Config}
use Rattle.wf_frame.specs.declared.notes.GroupAsk.{GroupAsk}
use Rattle.wf_frame.specs.declared.notes.GroupAsk.TheVariants as group
use Rattle.wf_frame.specs.declared.notes.GroupReply.TheVariants as answer
use Rattle.wf_def_world.specs.Group.{GroupFrame, GroupState, dtim_period, next_count, id_of, may_go, is_first_free, first_queued, after_beacon, after_group_pull, group_after}
use Rattle.wf_def_world.specs.Run.{Entry, world_after}
use Rattle.wf_law_rules.proofs.Lemmas.Numbers.{on_bool, eq_yes, eq_no, yes_lt, lt_no}
use Rattle.wf_law_runs.specs.Groups.{group_answer_at, is_beacon, IsAnnounced, DtimLaw, AnnouncedLaw, GroupMoreLaw}
use Rattle.wf_law_runs.proofs.Groups.Moments.{state_at, sleeps_at, MovesAt, moment, SendsAt, sends_at, BeaconAt, beacon_at}
use Rattle.wf_law_runs.proofs.Groups.Counts.{RunsFrom, HasFirst, first_of_free, IsSound, next_id, next_more, none_flying, one_flying, sound_at}
use Rattle.wf_law_runs.proofs.Groups.Orders.{first_is_next}

-- ---- a beacon

-- Each queued frame is below the next id, so after a DTIM beacon the first one may go.
first_served : (xs : List GroupFrame) (n end : ℕ) → RunsFrom n end xs → n + length xs ≡ end →
    nat_lt 0 (length xs) ≡ is_first_free true end xs
first_served [] n end h e = refl
first_served (x ∷ xs) n end h e =
    yes_lt 0 (length (x ∷ xs)) (omega arith) ∙ sym (yes_lt x.id end (omega (arith, h.0, e)))

not_below_zero : (n : ℕ) → nat_lt n 0 ≡ false
not_below_zero n = grind arith

none_served : (xs : List GroupFrame) → false ≡ is_first_free true 0 xs
none_served [] = refl
none_served (x ∷ xs) = sym (not_below_zero x.id)

announced_if : (b : Bool) (g : GroupState) (config : Config) → IsSound config g →
    b && nat_lt 0 (length g.queued) ≡ is_first_free true (if b then g.accepted else 0) g.queued
announced_if true g config i =
    first_served g.queued (next_id g) g.accepted i.queued (next_more config g i)
announced_if false g config i = none_served g.queued

pub announced_law : (config : Config) (h : List Entry) → AnnouncedLaw config h
announced_law config h b m count follows e =
    let sent : BeaconAt config h b m count follows = beacon_at config h b m count follows e in
    let g : GroupState = state_at config h b m in
    let is : follows ≡ (after_beacon (dtim_period config.period) g).announced = cc sent.answer in
    is ∙ (announced_if (next_count (dtim_period config.period) g.count == 0) g config (sound_at config h b m)
    ∙ ap (λ (z : GroupState). may_go true z) (sym sent.moves.after))

-- ---- the More Data bit

awake_or : (b : Bool) (g : GroupState) → b && may_go b g ≡ b && may_go true g
awake_or true g = refl
awake_or false g = refl

pub more_law : (config : Config) (h : List Entry) → GroupMoreLaw config h
more_law config h b m id number air more e =
    let s : SendsAt config h b m id number air more = sends_at config h b m id number air more e in
    let sleeps : Bool = sleeps_at config h b m in
    let is : more ≡ sleeps && may_go sleeps (after_group_pull (state_at config h b m)) = cc s.answer in
    is ∙ (awake_or sleeps (after_group_pull (state_at config h b m))
    ∙ ap (λ (z : GroupState). sleeps && may_go true z) (sym s.moves.after))

-- ---- the latest beacon

module _ (config : Config) (h : List Entry) (b : ℕ) where
  -- An entry before m accepted this group frame.
  record WasAccepted (m id : ℕ) : Type 0 where
    by : ℕ
    reply : group_answer_at config h b by ≡ Some (answer.Queued id)
    before : by < m

  -- The latest beacon before m is a DTIM beacon. The frames that it serves were accepted before it, and if it
  -- announces none, they were all sent before it.
  record IsServed (m : ℕ) : Type 0 where
    beacon_by : ℕ
    follows : Bool
    beacon : group_answer_at config h b beacon_by ≡ Some (answer.Beacon 0 follows)
    before : beacon_by < m
    latest : (k : ℕ) → beacon_by < k → k < m → is_beacon (group_answer_at config h b k) ≡ false
    accepted : (id : ℕ) → id < (state_at config h b m).served_below → WasAccepted beacon_by id
    empty : follows ≡ false → (state_at config h b m).served_below ≤ next_id (state_at config h b m)

  later : (m id : ℕ) → WasAccepted m id → WasAccepted (suc m) id
  later m id a = record { by = a.by; reply = a.reply; before = omega (arith, a.before) }

  accepted_by : (ask : GroupAsk) (m id : ℕ) → MovesAt config h b m ask →
      id < (group_after config ask (state_at config h b m)).accepted →
      (id < (state_at config h b m).accepted → WasAccepted m id) → WasAccepted (suc m) id
  accepted_by (group.Accept len) m id s below old = on_bool (id == (state_at config h b m).accepted)
      (λ e.
      let same : id ≡ (state_at config h b m).accepted = eq_yes _ _ e in
      record {
        by = m;
        reply = s.reply ∙ ap (λ (n : ℕ). Some (answer.Queued n)) (sym same);
        before = omega arith;
      })
      (λ e. later m id (old (omega (arith, below, eq_no _ _ e))))
  accepted_by group.Beacon m id s below old = later m id (old below)
  accepted_by group.Pull m id s below old = later m id (old below)
  accepted_by group.Done m id s below old = later m id (old below)

  accepted_at : (m id : ℕ) → id < (state_at config h b m).accepted → WasAccepted m id
  unfolding world_after
  accepted_at zero id below = absurd (omega (arith, below))
  accepted_at (suc m) id below = elim (moment config h b m) [
    | inl stays ↦
        let same : (state_at config h b (suc m)).accepted ≡ (state_at config h b m).accepted =
        ap (λ (g : GroupState). g.accepted) stays.same in
        later m id (accepted_at m id (omega (arith, below, same)))
    | inr moves ↦
        let same : (state_at config h b (suc m)).accepted
        ≡ (group_after config moves.0 (state_at config h b m)).accepted =
        ap (λ (g : GroupState). g.accepted) moves.1.after in
        accepted_by moves.0 m id moves.1 (omega (arith, below, same)) (accepted_at m id)
  ]

  -- Entry m is no beacon, and the same frames are served after it.
  served_on : (m : ℕ) → is_beacon (group_answer_at config h b m) ≡ false →
      (state_at config h b (suc m)).served_below ≡ (state_at config h b m).served_below →
      next_id (state_at config h b m) ≤ next_id (state_at config h b (suc m)) → IsServed m → IsServed (suc m)
  served_on m none same next i = record {
    beacon_by = i.beacon_by;
    follows = i.follows;
    beacon = i.beacon;
    before = omega (arith, i.before);
    latest = λ k after below. on_bool (k == m)
        (λ e. subst (λ (j : ℕ). is_beacon (group_answer_at config h b j) ≡ false) (sym (eq_yes k m e)) none)
        (λ e. i.latest k after (omega (arith, below, eq_no k m e)));
    accepted = λ id below. i.accepted id (omega (arith, below, same));
    empty = λ e. omega (arith, i.empty e, same, next);
  }

  -- The frames that a DTIM beacon serves are those that were accepted before it.
  served_by_beacon : (m : ℕ) → MovesAt config h b m group.Beacon →
      0 < (state_at config h b (suc m)).served_below → IsServed (suc m)
  served_by_beacon m s some =
      let g : GroupState = state_at config h b m in
      let after : GroupState = after_beacon (dtim_period config.period) g in
      let below : (state_at config h b (suc m)).served_below ≡ after.served_below =
      ap (λ (z : GroupState). z.served_below) s.after in
      let next : next_id (state_at config h b (suc m)) ≡ next_id g = ap next_id s.after in
      on_bool (after.count == 0)
      (λ e.
      let first : after.count ≡ 0 = eq_yes after.count 0 e in
      let all : after.served_below ≡ g.accepted = ap (λ (b : Bool). if b then g.accepted else 0) e in
      let follows : after.announced ≡ nat_lt 0 (length g.queued) =
      ap (λ (b : Bool). b && nat_lt 0 (length g.queued)) e in
      record {
        beacon_by = m;
        follows = after.announced;
        beacon = s.reply ∙ ap (λ (n : ℕ). Some (answer.Beacon n after.announced)) first;
        before = omega arith;
        latest = λ k above within. absurd (omega (arith, above, within));
        accepted = λ id within. accepted_at m id (omega (arith, within, below, all));
        empty = λ none.
            let few : length g.queued ≤ 0 = lt_no 0 (length g.queued) (sym follows ∙ none) in
            omega (arith, few, below, all, next, next_more config g (sound_at config h b m));
      })
      (λ e.
      let none : after.served_below ≡ 0 = ap (λ (b : Bool). if b then g.accepted else 0) e in
      absurd (omega (arith, some, below, none)))

  served_by : (ask : GroupAsk) (m : ℕ) → MovesAt config h b m ask →
      0 < (state_at config h b (suc m)).served_below →
      (0 < (state_at config h b m).served_below → IsServed m) → IsServed (suc m)
  served_by (group.Accept len) m s some old =
      let below : (state_at config h b (suc m)).served_below ≡ (state_at config h b m).served_below =
      ap (λ (z : GroupState). z.served_below) s.after in
      let next : next_id (state_at config h b (suc m)) ≡ next_id (state_at config h b m) =
      ap next_id s.after in
      served_on m (ap is_beacon s.reply) below (omega (arith, next)) (old (omega (arith, some, below)))
  served_by group.Beacon m s some old = served_by_beacon m s some
  served_by group.Pull m s some old =
      let g : GroupState = state_at config h b m in
      let below : (state_at config h b (suc m)).served_below ≡ g.served_below =
      ap (λ (z : GroupState). z.served_below) s.after in
      let next : next_id (state_at config h b (suc m))
      ≡ g.sent + (if is_some (first_queued g.queued) then 1 else 0) = ap next_id s.after in
      let none : next_id g ≡ g.sent = none_flying g.flying g.sent s.allowed.0 in
      served_on m (ap is_beacon s.reply) below (omega (arith, next, none)) (old (omega (arith, some, below)))
  served_by group.Done m s some old =
      let g : GroupState = state_at config h b m in
      let below : (state_at config h b (suc m)).served_below ≡ g.served_below =
      ap (λ (z : GroupState). z.served_below) s.after in
      let next : next_id (state_at config h b (suc m)) ≡ g.sent + 1 + 0 = ap next_id s.after in
      let one : next_id g ≡ g.sent + 1 = one_flying g.flying g.sent s.allowed in
      served_on m (ap is_beacon s.reply) below (omega (arith, next, one)) (old (omega (arith, some, below)))

  served_at : (m : ℕ) → 0 < (state_at config h b m).served_below → IsServed m
  unfolding world_after
  served_at zero some = absurd (omega (arith, some))
  served_at (suc m) some = elim (moment config h b m) [
    | inl stays ↦
        let below : (state_at config h b (suc m)).served_below ≡ (state_at config h b m).served_below =
        ap (λ (g : GroupState). g.served_below) stays.same in
        let next : next_id (state_at config h b (suc m)) ≡ next_id (state_at config h b m) =
        ap next_id stays.same in
        served_on m (ap is_beacon stays.silent) below (omega (arith, next))
        (served_at m (omega (arith, some, below)))
    | inr moves ↦ served_by moves.0 m moves.1 some (served_at m)
  ]

  -- Entry m sends a frame that the latest beacon serves, so this beacon announced frames.
  announced_by : (m id : ℕ) → id < (state_at config h b m).served_below →
      id ≡ next_id (state_at config h b m) → IsAnnounced config h b m id
  announced_by m id below next =
      let i : IsServed m = served_at m (omega (arith, below)) in
      let a : WasAccepted i.beacon_by id = i.accepted id below in
      let announces : i.follows ≡ true = on_bool i.follows (λ e. e)
      (λ e. absurd (omega (arith, i.empty e, below, next))) in
      record {
        accepted_by = a.by;
        beacon_by = i.beacon_by;
        accepted = a.reply;
        beacon = i.beacon ∙ ap (λ (b : Bool). Some (answer.Beacon 0 b)) announces;
        before = a.before;
        after = i.before;
        latest = i.latest;
      }

pub dtim_law : (config : Config) (h : List Entry) → DtimLaw config h
dtim_law config h b m id number air more e asleep =
    let s : SendsAt config h b m id number air more = sends_at config h b m id number air more e in
    let g : GroupState = state_at config h b m in
    let sleeps : Bool = sleeps_at config h b m in
    let f : HasFirst sleeps g.served_below g.queued =
    first_of_free g.queued sleeps g.served_below s.moves.allowed.1 in
    let is : id ≡ id_of (first_queued g.queued) = cc s.answer in
    let first : id_of (first_queued g.queued) ≡ f.first.id =
    ap (λ (xs : List GroupFrame). id_of (first_queued xs)) f.split in
    let next : id_of (first_queued g.queued) ≡ next_id g =
    first_is_next config sleeps g s.moves.allowed.0 s.moves.allowed.1 (sound_at config h b m) in
    announced_by config h b m id (omega (arith, is, first, f.served asleep)) (is ∙ next)
