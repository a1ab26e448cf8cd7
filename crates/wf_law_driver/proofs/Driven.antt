-- Proves that the history of a driver leaves the machine in an unheard world, by induction over its deeds.
use Rattle.std.proofs.Common.{◌≡◌, refl, ap, not, ◌&&◌, sym, ◌∙◌, subst, ℕ, Bool, true, List, [], ◌∷◌, ◌++◌, Option, Some, None, false, if◌then◌else◌}
use Rattle.wf_frame.specs.declared.settings.Config.{Config}
use Rattle.wf_frame.specs.declared.notes.Ask.TheVariants.{Done}
use Rattle.wf_frame.specs.declared.notes.Note.TheVariants.{Asked}
use Rattle.wf_frame.specs.declared.notes.Refusal.TheVariants.{NoAnswer}
use Rattle.wf_def_world.specs.World.{World, Exchange, Mpdu, exchange, opening}
use Rattle.wf_def_world.specs.Exchanges.{numbers_unsent, mpdus_of}
use Rattle.wf_def_world.specs.Step.{Outcome, step}
use Rattle.wf_def_lists.specs.Table.{has}
use Rattle.wf_law_runs.specs.Windows.{EachMpdu}
use Rattle.wf_frame.specs.Settings.{is_bad_air}
use Rattle.wf_def_world.specs.Run.{Entry, by, world_after}
use Rattle.wf_law_runs.proofs.Frames.Fates.{world_after-append}
use Rattle.wf_law_driver.specs.Driven.{Deed, Call, Heard, ending, entries_of, history_of, AreSilent, IsSilentDeed, DrivenLaw}
use Rattle.wf_law_driver.specs.Inferred.{ShowsSent, shown_of_sent, is_wholly_unsent, inferred, done_inferred}
use Rattle.wf_law_driver.specs.Unheard.{IsUnmarked, IsUnheard}
use Rattle.wf_law_driver.proofs.Opened.{one_entry, found_each}
use Rattle.wf_law_driver.proofs.Ended.{unanswered, refused_step}
use Rattle.wf_law_driver.proofs.Silent.{silent_law, opening_unheard}
use Rattle.wf_law_driver.proofs.Inferred.{inferred_law}

and_false : (a b : Bool) → (a && not b) ≡ true → b ≡ false
and_false true true h = absurd (cc h)
and_false false true h = absurd (cc h)
and_false a false h = refl

not_first : (a b : Bool) → (not a && b) ≡ true → a ≡ false
not_first true b h = absurd (cc h)
not_first false b h = refl

not_second : (a b : Bool) → (not a && b) ≡ false → a ≡ false → b ≡ false
not_second true b h k = absurd (cc k)
not_second false b h k = h

-- each number that is believed to be shown went on the air
shows_sent : (x : Exchange) (shown : ℕ → Bool) → (x.batch ≡ false → is_wholly_unsent x ≡ false) →
    ShowsSent (shown_of_sent x shown) x
shows_sent x shown some = record { numbers = each (mpdus_of x.content); some = some }
  where
    each : (ms : List Mpdu) → EachMpdu (λ m. shown_of_sent x shown m.number ≡ true →
        has (numbers_unsent x) m.number ≡ false) ms
    each [] = tt
    each (m ∷ ms) = (and_false (shown m.number) (has (numbers_unsent x) m.number), each ms)

module _ (config : Config) where
  -- the world after a history
  abbrev after : List Entry → World
  after h = world_after (opening config) h

  -- a Done that is not heard
  lost : (h : List Entry) (caller e : ℕ) (air : Option ℕ) → IsUnheard (after h) →
      IsUnheard (world_after (after h) (by caller (Asked (Done e false air)) ∷ []))
  lost h caller e air un =
      subst IsUnheard (sym (one_entry (after h) (by caller (Asked (Done e false air)))))
      (silent_law config h (Asked (Done e false air)) tt un)

  -- a Done of an exchange of which nothing was answered
  refused : (h : List Entry) (caller e : ℕ) (air : Option ℕ) (x : Exchange) → exchange (after h) e ≡ Some x →
      x.batch ≡ false → IsUnheard (after h) →
      IsUnheard (world_after (after h) (by caller (Asked (Done e true air)) ∷ []))
  refused h caller e air x at_e unbatched un =
      let w : World = after h in
      let none : x.answer ≡ None = (found_each IsUnmarked w e x at_e un.marks).answer in
      let same : (step w (Asked (Done e true air))).world ≡ w = ap (λ (o : Outcome). o.world)
      (refused_step w e true air NoAnswer (unanswered w e x air at_e unbatched none)) in
      subst IsUnheard (sym (one_entry w (by caller (Asked (Done e true air))) ∙ same)) un

  ended : (o : Option Exchange) (h : List Entry) (caller e : ℕ) (shown : ℕ → Bool) (air : Option ℕ) →
      exchange (after h) e ≡ o → IsUnheard (after h) →
      IsUnheard (world_after (after h) (ending (after h) caller e shown air o))
  ended None h caller e shown air at_e un = lost h caller e air un
  ended (Some x) h caller e shown air at_e un = on_air (not x.batch && is_wholly_unsent x) refl
    where
      sent : ℕ → Bool
      sent = shown_of_sent x shown

      es : List Entry
      es = inferred caller e sent x.batch x.content

      last : Entry
      last = by caller (done_inferred e sent air x.content)

      either : (bad : Bool) → is_bad_air (after h).config air ≡ bad →
          (x.batch ≡ false → is_wholly_unsent x ≡ false) →
          IsUnheard (world_after (after h)
          (if bad then by caller (Asked (Done e false air)) ∷ [] else es ++ last ∷ []))
      either true is some = lost h caller e air un
      either false is some = subst IsUnheard (sym (world_after-append es (after h) (last ∷ [])
          ∙ one_entry (world_after (after h) es) last))
          (inferred_law config h caller e sent air x un at_e (shows_sent x shown some) is).unheard

      on_air : (none : Bool) → (not x.batch && is_wholly_unsent x) ≡ none →
          IsUnheard (world_after (after h) (if none then by caller (Asked (Done e true air)) ∷ []
          else if is_bad_air (after h).config air then by caller (Asked (Done e false air)) ∷ []
          else es ++ last ∷ []))
      on_air true is = refused h caller e air x at_e (not_first x.batch (is_wholly_unsent x) is) un
      on_air false is = either (is_bad_air (after h).config air) refl
          (not_second x.batch (is_wholly_unsent x) is)

  one_deed : (d : Deed) (h : List Entry) (caller : ℕ) → IsSilentDeed d → IsUnheard (after h) →
      IsUnheard (world_after (after h) (entries_of (after h) caller d))
  one_deed (Call note) h caller k un = subst IsUnheard (sym (one_entry (after h) (by caller note)))
      (silent_law config h note k un)
  one_deed (Heard e shown air) h caller k un = ended (exchange (after h) e) h caller e shown air refl un

  all_deeds : (ds : List (ℕ × Deed)) (h : List Entry) → AreSilent ds → IsUnheard (after h) →
      IsUnheard (world_after (after h) (history_of (after h) ds))
  unfolding world_after
  all_deeds [] h k un = un
  all_deeds (d ∷ ds) h k un =
      let w : World = after h in
      let es : List Entry = entries_of w d.0 d.1 in
      let later : after (h ++ es) ≡ world_after w es = world_after-append h (opening config) es in
      let first : IsUnheard (world_after w es) = one_deed d.1 h d.0 k.0 un in
      subst IsUnheard (sym (world_after-append es w (history_of (world_after w es) ds)))
      (subst (λ (v : World). IsUnheard (world_after v (history_of v ds))) later
      (all_deeds ds (h ++ es) k.1 (subst IsUnheard (sym later) first)))

pub driven_law : (config : Config) (ds : List (ℕ × Deed)) → DrivenLaw config ds
unfolding world_after
driven_law config ds k = all_deeds config ds [] k (opening_unheard config)
