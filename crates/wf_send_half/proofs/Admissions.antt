-- Proves that the flags are right after an enqueue that sets two of them: the flag of the frame's station,
-- and that of the station which loses a frame to the limit, if one does.
use Rattle.std.proofs.Common.{◌≡◌, refl, ap, ap₂, sym, ◌∙◌, subst, arith, ℕ, ◌<◌, ◌≤◌, Bool, true, false, ◌||◌, length, Option, Some, None, ◌⊎◌, inl, inr}
use Rattle.std.specs.Prelude.{nat_lt}
use Rattle.std.proofs.lemmas.Bool.Decides.{nat_tests}
use Rattle.wf_frame.specs.Classes.{class_of, lower_tid, upper_tid}
use Rattle.wf_frame.specs.Frames.{FrameValue}
use Rattle.wf_frame.specs.declared.classes.Class.{Class}
use Rattle.wf_frame.specs.declared.notes.Note.TheVariants.{Enqueue}
use Rattle.wf_frame.specs.declared.notes.Refusal.{Refusal}
use Rattle.wf_frame.specs.declared.notes.ReplyNote.{ReplyNote}
use Rattle.wf_frame.specs.declared.notes.ReplyNote.TheVariants.{Refused}
use Rattle.wf_frame.specs.declared.settings.Config.{Config}
use Rattle.wf_def_lists.specs.Lengths.{greatest_body}
use Rattle.wf_def_world.specs.World.{World}
use Rattle.wf_def_lists.specs.Bounds.{greatest_tid}
use Rattle.wf_def_world.specs.Refusals.{refusal, refusals}
use Rattle.wf_law_runs.proofs.Deficits.KeptStep.{NoRow, no_row}
use Rattle.wf_queue_flows.specs.Flows.{SettingsValue, loses_next}
use Rattle.wf_queue_flows_refines.specs.Frames.{loses_next_in}
use Rattle.wf_queue_flows_refines.proofs.Heads.{same_loses}
use Rattle.wf_send_half_model.specs.Half.{TransmitValue, is_ready_of}
use Rattle.wf_send_half_model.specs.Readiness.{loses_in}
use Rattle.wf_send_half_model.specs.Standing.{StandsFor, Meets}
use Rattle.wf_send_half_model.proofs.OwnClass.{ready_enqueued, lower_class, upper_class}
use Rattle.wf_send_half_model.proofs.Readers.{lower_low, upper_low}
use Rattle.wf_send_half.specs.Flags.{Flags, flags_in, with_flag, AreFlags, IsTracked}
use Rattle.wf_send_half.specs.Half.{HasUnheardWorld}
use Rattle.wf_send_half.proofs.FlagSteps.{AreNearly, Less, set_sized, set_one, all_set}
use Rattle.wf_send_half.proofs.Kept.{Leaves, kept_unheard, nearly, same_config, answered, within_range}

not_false : (b : Bool) → (b ≡ true → ⊥) → b ≡ false
not_false true other = absurd (other refl)
not_false false other = refl

either : (a b : Bool) → (a || b) ≡ true → (a ≡ true) ⊎ (b ≡ true)
either true b e = inl refl
either false b e = inr e

-- the flags that an enqueue may change: its station's in the class of its TID, and the flag of the station
-- and class that lose a frame
abbrev pub Turned : World → FrameValue → ℕ → Class → Type 0
Turned w f i d = ((i ≡ f.station) × (class_of f.tid ≡ d)) ⊎
    (loses_in w (Enqueue f.station f.tid f.flow (length f.body)) i d ≡ true)

module _ (v y : TransmitValue) (r : Flags) (flags : AreFlags v r) (w : World) (bodies after : ℕ → FrameValue)
    (f : FrameValue) (reply : ReplyNote)
    (h : StandsFor v w bodies) (m : Meets w after (Enqueue f.station f.tid f.flow (length f.body)) y reply)
  where
    nearly_enqueued : 1 ≤ length f.body → length f.body ≤ greatest_body → AreNearly y r (Turned w f)
    nearly_enqueued some most =
        nearly v y r flags w bodies after (Enqueue f.station f.tid f.flow (length f.body)) reply h m
        (Turned w f)
        (λ i d out. ready_enqueued w f.station f.tid f.flow (length f.body) h.reached some most i d
        (λ e k. out (inl (e, k))) (not_false _ (λ e. out (inr e))))

    same_stations : v.flows.stations ≡ y.config.stations
    same_stations =
        ap (λ (x : SettingsValue). x.stations) h.parts.others.flows.settings
        ∙ ap (λ (x : Config). x.stations) (sym h.parts.others.config
        ∙ same_config v y w bodies after _ reply h m)

    -- the station and TID that lose a frame are those that `loses_next` gives
    loser_is : (loser : Option (ℕ × ℕ)) → ((s t : ℕ) → t < 8 → loses_next v.flows s t ≡ true →
        loser ≡ Some (s, t)) → (i : ℕ) (d : Class) → i < y.config.stations →
        loses_in w (Enqueue f.station f.tid f.flow (length f.body)) i d ≡ true →
        (loser ≡ Some (i, lower_tid d)) ⊎ (loser ≡ Some (i, upper_tid d))
    loser_is loser only i d low is =
        let small : i < v.flows.stations = omega (arith, low, same_stations) in
        elim (either (loses_next_in w i (lower_tid d)) (loses_next_in w i (upper_tid d)) is) [
          | inl e ↦ inl (only i (lower_tid d) (lower_low d)
              (same_loses v.flows w i (lower_tid d) h.parts.others.flows small (lower_low d) ∙ e))
          | inr e ↦ inr (only i (upper_tid d) (upper_low d)
              (same_loses v.flows w i (upper_tid d) h.parts.others.flows small (upper_low d) ∙ e))
        ]

    -- the class of the frame's TID
    module _ (c : Class) (is : c ≡ class_of f.tid) (low : f.station < y.config.stations)
        (some : 1 ≤ length f.body) (most : length f.body ≤ greatest_body) where
      own_set : AreNearly y (with_flag r c f.station (is_ready_of y c f.station))
          (Less (Turned w f) f.station c)
      own_set = set_one y r (Turned w f) f.station c (nearly_enqueued some most) low

      -- no station loses a frame
      pub enqueued_alone : (loser : Option (ℕ × ℕ)) →
          ((s t : ℕ) → t < 8 → loses_next v.flows s t ≡ true → loser ≡ Some (s, t)) → loser ≡ None →
          AreFlags y (with_flag r c f.station (is_ready_of y c f.station))
      enqueued_alone loser only none = all_set y (with_flag r c f.station (is_ready_of y c f.station)) _
          own_set
          left
        where
          turned : (i : ℕ) (d : Class) → i < y.config.stations → (i ≡ f.station → d ≡ c → ⊥) → Turned w f i
              d →
              ⊥
          turned i d small other (inl own) = other own.0 (sym own.1 ∙ sym is)
          turned i d small other (inr loses) = elim (loser_is loser only i d small loses) [
            | inl e ↦ let k = sym none ∙ e in cc k
            | inr e ↦ let k = sym none ∙ e in cc k
          ]

          left : (i : ℕ) (d : Class) → i < y.config.stations → Less (Turned w f) f.station c i d → ⊥
          left i d small q = turned i d small q.1 q.0

      -- TID t of station s loses a frame
      pub enqueued_both : (loser : Option (ℕ × ℕ)) →
          ((s t : ℕ) → t < 8 → loses_next v.flows s t ≡ true → loser ≡ Some (s, t)) → (s t : ℕ) →
          loser ≡ Some (s, t) → (b : Class) → b ≡ class_of t → s < y.config.stations →
          AreFlags y (with_flag (with_flag r c f.station (is_ready_of y c f.station)) b s (is_ready_of y b s))
      enqueued_both loser only s t lost b same small =
          all_set y _ _ (set_one y _ _ s b own_set small) left
        where
          at_loser : (i k : ℕ) (d : Class) → class_of k ≡ d → loser ≡ Some (i, k) → (i ≡ s → d ≡ b → ⊥) → ⊥
          at_loser i k d of e other =
              let both : ◌≡◌ {A = Option (ℕ × ℕ)} (Some (i, k)) (Some (s, t)) = sym e ∙ lost in
              let pair : ◌≡◌ {A = ℕ × ℕ} (i, k) (s, t) = cc both in
              let station : i ≡ s = ap (λ (p : ℕ × ℕ). p.0) pair in
              let tid : k ≡ t = ap (λ (p : ℕ × ℕ). p.1) pair in
              other station (sym of ∙ ap class_of tid ∙ sym same)

          turned : (i : ℕ) (d : Class) → i < y.config.stations → (i ≡ f.station → d ≡ c → ⊥) →
              (i ≡ s → d ≡ b → ⊥) → Turned w f i d → ⊥
          turned i d within other another (inl own) = other own.0 (sym own.1 ∙ sym is)
          turned i d within other another (inr loses) = elim (loser_is loser only i d within loses) [
            | inl e ↦ at_loser i (lower_tid d) d (lower_class d) e another
            | inr e ↦ at_loser i (upper_tid d) d (upper_class d) e another
          ]

          left : (i : ℕ) (d : Class) → i < y.config.stations → Less (Less (Turned w f) f.station c) s b i d
              → ⊥
          left i d within q = turned i d within q.0.1 q.1 q.0.0

-- ---- a whole enqueue

-- the octets that were counted are the frame's
pub some_octets : (g f : FrameValue) (n : ℕ) → g ≡ f → n ≡ length g.body → 0 < n → 1 ≤ length f.body
some_octets g f n same count some = omega (arith, ap (λ (x : FrameValue). length x.body) same, count, some)

pub few_octets : (g f : FrameValue) (n : ℕ) → g ≡ f → n ≡ length g.body → n ≤ greatest_body →
    length f.body ≤ greatest_body
few_octets g f n same count most = omega (arith, ap (λ (x : FrameValue). length x.body) same, count, most)

tid_of_none : (t : ℕ) → nat_lt greatest_tid t ≡ false → t < 8
tid_of_none t e = grind (arith, nat_tests, e)

-- the flag of its station is set as the half u has it
pub flag_told : (u : TransmitValue) (r z : Flags) (f : FrameValue) (c : Class) (t s : ℕ) → c ≡ class_of t →
    t ≡ f.tid → s ≡ f.station → (b : Bool) → b ≡ is_ready_of u (class_of f.tid) f.station →
    z ≡ with_flag r c s b → z ≡ with_flag r c s (is_ready_of u c s)
flag_told u r z f c t s of tid station b told set = set
    ∙ ap (with_flag r c s) (told ∙ sym (ap₂ (is_ready_of u) (of ∙ ap class_of tid) station))

-- x is the half before the enqueue of f, with the flags r, and u is the half after it
module _ (x : TransmitValue) (r : Flags) (h : IsTracked x r) (f : FrameValue) (reply : ReplyNote)
    (grow : (ℕ → FrameValue) → ℕ → FrameValue) (u : TransmitValue)
    (meets : Leaves x u grow (Enqueue f.station f.tid f.flow (length f.body)) reply)
    (fine : (why : Refusal) → reply ≡ Refused why → ⊥) where
  met : Meets h.some.world (grow h.some.bodies) (Enqueue f.station f.tid f.flow (length f.body)) u reply
  met = meets h.some.world h.some.bodies h.some.stands

  passes : refusal h.some.world (Enqueue f.station f.tid f.flow (length f.body)) ≡ None
  passes = answered h.some.world (Enqueue f.station f.tid f.flow (length f.body)) reply met.reply fine

  pub accepted_tid : f.tid < 8
  accepted_tid =
      let rows : NoRow (refusals h.some.world (Enqueue f.station f.tid f.flow (length f.body))) =
      no_row (refusals h.some.world (Enqueue f.station f.tid f.flow (length f.body))) passes in
      tid_of_none f.tid rows.1.0

  low_before : f.station < x.config.stations
  low_before = within_range x h.some.world h.some.bodies
      (Enqueue f.station f.tid f.flow (length f.body)) f.station _ h.some.stands refl passes

  config : x.config ≡ u.config
  config = same_config x u h.some.world h.some.bodies (grow h.some.bodies) _ reply h.some.stands met

  low_after : f.station < u.config.stations
  low_after = subst (λ (z : Config). f.station < z.stations) config low_before

  pub accepted_within : (s : ℕ) → s ≡ f.station → s < u.config.stations
  accepted_within s is = omega (arith, is, low_after)

  pub accepted_room : (s : ℕ) (c : Class) → s ≡ f.station → s < length (flags_in r c)
  accepted_room s c is = omega (arith, is, low_before, (h.flags c).stations)

  pub accepted_unheard : HasUnheardWorld u
  accepted_unheard = kept_unheard x u grow (Enqueue f.station f.tid f.flow (length f.body)) reply meets tt
      h.some

  pub loser_within : (s : ℕ) → s < x.flows.stations → s < u.config.stations
  loser_within s low = omega (
    arith,
    low,
    same_stations x u r h.flags h.some.world h.some.bodies
        (grow h.some.bodies) f reply h.some.stands met,
  )

  pub loser_room : (z : Flags) (c : Class) (i : ℕ) (b : Bool) → z ≡ with_flag r c i b → (d : Class) (s : ℕ) →
      s < x.flows.stations → s < length (flags_in z d)
  loser_room z c i b is d s low =
      let size : length (flags_in z d) ≡ length (flags_in r d) =
      ap (λ (y : Flags). length (flags_in y d)) is ∙ set_sized r c i b d in
      omega (arith, size, (h.flags d).stations, ap (λ (y : Config). y.stations) config, loser_within s low)

  module _ (c : Class) (t s : ℕ) (of : c ≡ class_of t) (tid : t ≡ f.tid) (station : s ≡ f.station)
      (some : 1 ≤ length f.body) (most : length f.body ≤ greatest_body)
      (loser : Option (ℕ × ℕ)) (only : (i k : ℕ) → k < 8 → loses_next x.flows i k ≡ true →
      loser ≡ Some (i, k)) where
    pub tracked_alone : loser ≡ None → (z : Flags) → z ≡ with_flag r c s (is_ready_of u c s) → IsTracked u z
    tracked_alone none z set = subst (IsTracked u)
        (sym (set ∙ ap (λ (n : ℕ). with_flag r c n (is_ready_of u c n)) station)) (record {
          some = accepted_unheard;
          flags = enqueued_alone x u r h.flags h.some.world h.some.bodies
              (grow h.some.bodies) f reply h.some.stands met c
              (of ∙ ap class_of tid) low_after some most loser only none;
        })

    pub tracked_both : (i k : ℕ) → loser ≡ Some (i, k) → i < x.flows.stations → (b : Class) → b ≡ class_of k →
        (y z : Flags) → y ≡ with_flag r c s (is_ready_of u c s) → z ≡ with_flag y b i (is_ready_of u b i) →
        IsTracked u z
    tracked_both i k lost low b is y z first set =
        subst (IsTracked u) (sym (set ∙ ap (λ (q : Flags). with_flag q b i (is_ready_of u b i))
        (first ∙ ap (λ (n : ℕ). with_flag r c n (is_ready_of u c n)) station))) (record {
          some = accepted_unheard;
          flags = enqueued_both x u r h.flags h.some.world h.some.bodies
              (grow h.some.bodies) f reply h.some.stands met c
              (of ∙ ap class_of tid) low_after some most loser only i k lost b is (loser_within i low);
        })
