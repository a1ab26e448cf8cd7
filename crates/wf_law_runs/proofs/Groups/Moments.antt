-- Proves the effect of each entry of a history on the group frames of a BSS: its answer, and the worlds
-- before and after it. By induction on the history.
use Rattle.std.proofs.Common.{◌≡◌, refl, ap, ap₂, ◌∙◌, subst, ℕ, zero, suc, Bool, ◌⊎◌, inl, inr, List, [], ◌∷◌, take, Option, Some, None, slice_get}
use Rattle.wf_frame.specs.declared.settings.Config.{Config}
use Rattle.wf_frame.specs.declared.notes.GroupAsk.{GroupAsk}
use Rattle.wf_frame.specs.declared.notes.GroupAsk.TheVariants as group
use Rattle.wf_frame.specs.declared.notes.GroupReply.{GroupReply}
use Rattle.wf_frame.specs.declared.notes.GroupReply.TheVariants as answer
use Rattle.wf_frame.specs.declared.notes.Note.{Note}
use Rattle.wf_frame.specs.declared.notes.ReplyNote.{ReplyNote}
use Rattle.wf_def_lists.specs.Table.{at}
use Rattle.wf_def_world.specs.Group.{GroupState, group_after, group_answer}
use Rattle.wf_def_world.specs.World.{World, opening, group_of, is_any_asleep}
use Rattle.wf_law_runs.proofs.Common.Moments.{entry}
use Rattle.wf_def_world.specs.Step.{Outcome, step}
use Rattle.wf_def_world.specs.Run.{Entry, replies}
use Rattle.wf_def_world.specs.Stretches.{world_at}
use Rattle.wf_law_runs.specs.Groups.{answer_about, answers_about, group_answer_at}
use Rattle.wf_law_runs.specs.Services.{note_at_entry}
use Rattle.wf_law_runs.proofs.Deficits.Configs.{config_run}
use Rattle.wf_law_runs.proofs.Groups.Steps.{IsAllowed, IsQuiet, IsCalled, group_step}

-- ---- the answers about a BSS

-- Past the end there is none.
answer_past : (b : ℕ) (es : List Entry) (rs : List ReplyNote) (m : ℕ) → slice_get rs m ≡ None →
    at None (answers_about b es rs) m ≡ None
answer_past b [] rs m e = refl
answer_past b (n ∷ es) [] m e = refl
answer_past b (n ∷ es) (r ∷ rs) zero e = absurd (cc e)
answer_past b (n ∷ es) (r ∷ rs) (suc m) e = answer_past b es rs m e

-- That of entry m, by its call and its reply.
answer_of : (b : ℕ) (es : List Entry) (rs : List ReplyNote) (m : ℕ) (note : Note) (r : ReplyNote) →
    note_at_entry es m ≡ Some note → slice_get rs m ≡ Some r →
    at None (answers_about b es rs) m ≡ answer_about b note r
answer_of b [] rs m note r call reply = absurd (cc call)
answer_of b (n ∷ es) [] m note r call reply = absurd (cc reply)
answer_of b (n ∷ es) (q ∷ rs) zero note r call reply =
    let same : n.1 ≡ note = cc call in
    let told : q ≡ r = cc reply in
    ap₂ (answer_about b) same told
answer_of b (n ∷ es) (q ∷ rs) (suc m) note r call reply = answer_of b es rs m note r call reply

-- ---- the group frames of BSS b at an entry

module _ (config : Config) (h : List Entry) (b : ℕ) where
  -- Their state before entry m, whether a station of the BSS sleeps then, and the answer to entry m if it is
  -- about the BSS.
  abbrev pub state_at : ℕ → GroupState
  state_at m = group_of (world_at config h m) b

  abbrev pub sleeps_at : ℕ → Bool
  sleeps_at m = is_any_asleep (world_at config h m) b

  abbrev pub told_at : ℕ → Option GroupReply
  told_at m = group_answer_at config h b m

  -- Entry m does nothing with them, or there is none.
  pub record StaysAt (m : ℕ) : Type 0 where
    pub same : state_at (suc m) ≡ state_at m
    pub silent : told_at m ≡ None

  -- Entry m is this call about them, and is not refused.
  pub record MovesAt (m : ℕ) (ask : GroupAsk) : Type 0 where
    pub allowed : IsAllowed config (sleeps_at m) ask (state_at m)
    pub after : state_at (suc m) ≡ group_after config ask (state_at m)
    pub reply : told_at m ≡ Some (group_answer config (sleeps_at m) ask (state_at m))

  pub config_at : (m : ℕ) → (world_at config h m).config ≡ config
  config_at m = config_run (take m h) (opening config)

  quiet_at : (m : ℕ) (note : Note) (o : Outcome) → told_at m ≡ answer_about b note o.reply →
      world_at config h (suc m) ≡ o.world → IsQuiet (world_at config h m) note o b → StaysAt m
  quiet_at m note o r e q =
      record { same = ap (λ (w : World). group_of w b) e ∙ q.same; silent = r ∙ q.silent }

  called_at : (m : ℕ) (note : Note) (o : Outcome) (ask : GroupAsk) → told_at m ≡ answer_about b note o.reply →
      world_at config h (suc m) ≡ o.world → IsCalled (world_at config h m) note o b ask → MovesAt m ask
  called_at m note o ask r e c = record {
    allowed = subst (λ (k : Config). IsAllowed k (sleeps_at m) ask (state_at m)) (config_at m) c.allowed;
    after = ap (λ (w : World). group_of w b) e ∙ (c.after
        ∙ ap (λ (k : Config). group_after k ask (state_at m)) (config_at m));
    reply = r ∙ (c.reply
        ∙ ap (λ (k : Config). Some (group_answer k (sleeps_at m) ask (state_at m))) (config_at m));
  }

  pub moment : (m : ℕ) → StaysAt m ⊎ ((ask : GroupAsk) × MovesAt m ask)
  moment m = elim (entry h (opening config) m) [
    | inl past ↦ inl (record {
      same = ap (λ (w : World). group_of w b) past.world;
      silent = answer_past b h (replies (opening config) h) m past.reply;
    })
    | inr found ↦
        let o : Outcome = step (world_at config h m) found.0 in
        let told : told_at m ≡ answer_about b found.0 o.reply =
        answer_of b h (replies (opening config) h) m found.0 o.reply found.1.call found.1.reply in
        elim (group_step found.0 (world_at config h m) b) [
          | inl quiet ↦ inl (quiet_at m found.0 o told found.1.world quiet)
          | inr called ↦ inr (called.0, called_at m found.0 o called.0 told found.1.world called.1)
        ]
  ]

  -- ---- entries with a given reply

  -- Entry m sends this group frame.
  pub record SendsAt (m id number air : ℕ) (more : Bool) : Type 0 where
    pub moves : MovesAt m group.Pull
    pub answer : group_answer config (sleeps_at m) group.Pull (state_at m) ≡ answer.Send id number air more

  sends_by : (ask : GroupAsk) (m id number air : ℕ) (more : Bool) → MovesAt m ask →
      group_answer config (sleeps_at m) ask (state_at m) ≡ answer.Send id number air more →
      SendsAt m id number air more
  sends_by (group.Accept len) m id number air more h e = absurd (cc e)
  sends_by group.Beacon m id number air more h e = absurd (cc e)
  sends_by group.Pull m id number air more h e = record { moves = h; answer = e }
  sends_by group.Done m id number air more h e = absurd (cc e)

  pub sends_at : (m id number air : ℕ) (more : Bool) →
      told_at m ≡ Some (answer.Send id number air more) → SendsAt m id number air more
  sends_at m id number air more e = elim (moment m) [
    | inl stays ↦ absurd (cc (e, stays.silent))
    | inr moves ↦ let same : group_answer config (sleeps_at m) moves.0 (state_at m)
        ≡ answer.Send id number air more = cc (e, moves.1.reply) in
        sends_by moves.0 m id number air more moves.1 same
  ]

  -- Entry m is a beacon.
  pub record BeaconAt (m count : ℕ) (follows : Bool) : Type 0 where
    pub moves : MovesAt m group.Beacon
    pub answer : group_answer config (sleeps_at m) group.Beacon (state_at m) ≡ answer.Beacon count follows

  beacon_by : (ask : GroupAsk) (m count : ℕ) (follows : Bool) → MovesAt m ask →
      group_answer config (sleeps_at m) ask (state_at m) ≡ answer.Beacon count follows →
      BeaconAt m count follows
  beacon_by (group.Accept len) m count follows h e = absurd (cc e)
  beacon_by group.Beacon m count follows h e = record { moves = h; answer = e }
  beacon_by group.Pull m count follows h e = absurd (cc e)
  beacon_by group.Done m count follows h e = absurd (cc e)

  pub beacon_at : (m count : ℕ) (follows : Bool) →
      told_at m ≡ Some (answer.Beacon count follows) → BeaconAt m count follows
  beacon_at m count follows e = elim (moment m) [
    | inl stays ↦ absurd (cc (e, stays.silent))
    | inr moves ↦ let same : group_answer config (sleeps_at m) moves.0 (state_at m)
        ≡ answer.Beacon count follows = cc (e, moves.1.reply) in
        beacon_by moves.0 m count follows moves.1 same
  ]
