-- Proves that exactly those arrived numbers of a session are released so far that are below the release
-- start. By induction on the run.
use Rattle.std.proofs.Common.{take, ◌≡◌, ap, sym, ◌∙◌, ℕ, ◌<◌, ◌≤◌, nat_lt, Bool, true, ◌==◌, inl, inr, List, [], ◌∷◌, ◌++◌, filter, false}
use Rattle.wf_def_world.specs.World.{is_live, is_offloaded, receiver, World, session, opening}
use Rattle.wf_frame.specs.declared.settings.Config.{Config}
use Rattle.wf_def_lists.specs.Table.{has}
use Rattle.wf_def_agreement.specs.Receiver.{Receiver, release_start}
use Rattle.wf_def_agreement.specs.Session.{Session, slot, next_number}
use Rattle.wf_frame.specs.declared.notes.Note.{Note}
use Rattle.wf_def_world.specs.Step.{step}
use Rattle.wf_def_world.specs.Run.{Entry, world_after}
use Rattle.wf_law_rules.proofs.Lemmas.Numbers.{on_if, eq_yes, yes_lt, yes_eq, either, or_left, or_right}
use Rattle.wf_frame.specs.declared.notes.ReplyNote.{ReplyNote}
use Rattle.wf_frame.specs.declared.notes.ReplyNote.TheVariants.{Joined, Released, Ceased}
use Rattle.wf_def_world.specs.Exchanges.{ids_of}
use Rattle.wf_law_runs.proofs.Windows.Agreed.{lawful}
use Rattle.wf_law_runs.proofs.Releases.Released.{passed_all, rising_passed}
use Rattle.wf_law_rules.proofs.Lemmas.Joined.{has_append}
use Rattle.wf_law_runs.proofs.Releases.Placed.{Placing, has_ids, IsIdOf}
use Rattle.wf_law_runs.proofs.Releases.Once.{placed}
use Rattle.wf_frame.specs.Settings.{IsInRange}
use Rattle.wf_law_runs.proofs.Frames.Owners.{IsOwned}
use Rattle.wf_law_runs.proofs.Frames.Places.{standing}
use Rattle.wf_law_runs.specs.Releases.{PassesInOrder, is_join_of, is_arrival_for, is_cease_of, passed_by, passed_from, passed, named_by, named_from, numbers_passed, ReleaseLaw}

-- Every number of l is in m.
record Within (l m : List ℕ) : Type 0 where
  each : (k : ℕ) → has l k ≡ true → has m k ≡ true

within_front : (l m n : List ℕ) → Within l m → Within l (m ++ n)
within_front l m n h = record { each = λ k e. has_append m n k ∙ or_left (has m k) (has n k) (h.each k e) }

within_nothing : (m : List ℕ) → Within [] m
within_nothing m = record { each = λ k e. absurd (cc e) }

within_both : (l m n : List ℕ) → Within l m → Within (l ++ n) (m ++ n)
within_both l m n h = record {
  each = λ k e. has_append m n k
      ∙ elim (either (has l k) (has n k) (sym (has_append l n k) ∙ e)) [
        | inl d ↦
            or_left (has m k) (has n k) (h.each k d)
        | inr d ↦ or_right (has m k) (has n k) d
      ];
}

-- The releases of a session are among the releases of the run.
passed_named : (r : ReplyNote) (w : World) (s t : ℕ) (note : Note) (l m : List ℕ) → Within l m →
    Within (passed_by w s t note l r) (m ++ named_by r)
passed_named Joined w s t note l m h = on_if (λ (k : List ℕ). Within k (m ++ [])) (is_join_of s note) [] l
    (λ _. within_nothing _) (λ _. within_front l m [] h)
passed_named (Released ids) w s t note l m h =
    on_if (λ (k : List ℕ). Within k (m ++ ids)) (is_arrival_for w s t note) (l ++ ids) l
    (λ _. within_both l m ids h) (λ _. within_front l m ids h)
passed_named (Ceased dropped ids) w s t note l m h =
    on_if (λ (k : List ℕ). Within k (m ++ ids)) (is_cease_of s t note) (l ++ ids) l
    (λ _. within_both l m ids h) (λ _. within_front l m ids h)
passed_named _ w s t note l m h = within_front l m [] h

all_named : (h : List Entry) (w : World) (s t : ℕ) (l m : List ℕ) → Within l m →
    Within (passed_from w l h s t) (named_from w m h)
unfolding passed_from named_from
all_named [] w s t l m k = k
all_named (e ∷ es) w s t l m k = all_named es (step w e.1).world s t _ _
    (passed_named (step w e.1).reply w s t e.1 l m k)

has_id : (ns : List ℕ) (y : Session) (n : ℕ) → has ns n ≡ true → has (ids_of y ns) (slot y n).id ≡ true
has_id [] y n h = absurd (cc h)
has_id (m ∷ ns) y n h = elim (either (m == n) (has ns n) h) [
  | inl e ↦ or_left ((slot y m).id == (slot y n).id) _
      (yes_eq _ _ (ap (λ (k : ℕ). (slot y k).id) (eq_yes m n e)))
  | inr e ↦ or_right ((slot y m).id == (slot y n).id) _ (has_id ns y n e)
]

filter_keeps : (p : ℕ → Bool) (xs : List ℕ) (n : ℕ) → has xs n ≡ true → p n ≡ true →
    has (filter p xs) n ≡ true
filter_keeps p [] n h e = h
filter_keeps p (x ∷ xs) n h e = elim (either (x == n) (has xs n) h) [
  | inl d ↦ on_if (λ (ys : List ℕ). has ys n ≡ true) (p x) (x ∷ filter p xs) (filter p xs)
      (λ _. or_left (x == n) _ d) (λ f. absurd (cc (f, ap p (eq_yes x n d), e)))
  | inr d ↦ on_if (λ (ys : List ℕ). has ys n ≡ true) (p x) (x ∷ filter p xs) (filter p xs)
      (λ _. or_right (x == n) _ (filter_keeps p xs n d e)) (λ _. filter_keeps p xs n d e)
]

filtered_has : (p : ℕ → Bool) (xs : List ℕ) (n : ℕ) → has (filter p xs) n ≡ true → has xs n ≡ true
filtered_has p [] n h = h
filtered_has p (x ∷ xs) n h = on_if (λ (ys : List ℕ). has ys n ≡ true → has (x ∷ xs) n ≡ true) (p x)
    (x ∷ filter p xs) (filter p xs)
    (λ _ d. elim (either (x == n) (has (filter p xs) n) d) [
      | inl e ↦ or_left (x == n) (has xs n) e
      | inr e ↦
          or_right (x == n) (has xs n) (filtered_has p xs n e)
    ])
    (λ _ d. or_right (x == n) (has xs n) (filtered_has p xs n d)) h

in_order : (config : Config) (h : List Entry) (s t : ℕ) → IsOwned (world_after (opening config) h) →
    is_live (world_after (opening config) h) s ≡ true →
    is_offloaded (world_after (opening config) h) s ≡ false →
    PassesInOrder config h (world_after (opening config) h) s t
in_order config h s t owned live off =
    let w : World = world_after (opening config) h in
    let y : Session = session w s t in
    let r : Receiver = receiver w s t in
    let l : List ℕ = named_from (opening config) [] h in
    let p : Placing l w = placed config h in
    let all : passed config h s t ≡ ids_of y (numbers_passed r) = passed_all config h s t live off in
    let inside : Within (passed config h s t) l =
    all_named h (opening config) s t [] [] (record { each = λ k e. e }) in
    record {
      rising = rising_passed config h s t;
      passed = all;
      exactly = λ n e.
          let range : (y.first ≤ n) × (n < next_number y) = ((lawful config h).agreed s t).arrived n e in (
            (λ d. (p.numbered s t n range.0 range.1).passed d),
            (λ d. inside.each (slot y n).id (ap (λ (k : List ℕ). has k (slot y n).id) all
                ∙ has_id (numbers_passed r) y n (filter_keeps (λ n. nat_lt n (release_start r)) r.arrived n e
                (yes_lt n (release_start r) d)))),
          );
      own = λ id e.
          let o : IsIdOf y (numbers_passed r) id = has_ids (numbers_passed r) y id
          (ap (λ (k : List ℕ). has k id) (sym all) ∙ e) in
          let range : (y.first ≤ o.number) × (o.number < next_number y) =
          ((lawful config h).agreed s t).arrived o.number
          (filtered_has (λ n. nat_lt n (release_start r)) r.arrived o.number o.among) in
          (owned.mine s t id o.number (record { from = range.0; below = range.1; id = o.id })).0;
    }

pub release_law : (config : Config) (h : List Entry) → IsInRange config → ReleaseLaw config h
release_law config h range m s t live off = in_order config (take m h) s t
    (standing config (take m h) range).stood.owned live off
