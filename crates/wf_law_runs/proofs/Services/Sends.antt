-- Proves what a pull sends to a station, and what it spends of a service period.
use Rattle.std.proofs.Common.{◌≡◌, refl, sym, ◌∙◌, ap, ap₂, subst, arith, ℕ, zero, suc, ◌≤◌, Bool, true, false, not, ◌&&◌, ◌||◌, Option, Some, None, if◌then◌else◌, length}
use Rattle.wf_frame.specs.declared.classes.Class.{Class}
use Rattle.wf_frame.specs.declared.notes.Ask.TheVariants.{Pull}
use Rattle.wf_frame.specs.declared.notes.Limits.{Limits}
use Rattle.wf_frame.specs.declared.notes.Note.{Note}
use Rattle.wf_frame.specs.declared.notes.Note.TheVariants.{Asked}
use Rattle.wf_frame.specs.declared.notes.ReplyNote.{ReplyNote}
use Rattle.wf_frame.specs.declared.notes.ReplyNote.TheVariants.{Send}
use Rattle.wf_frame.specs.Classes.{class_of}
use Rattle.wf_def_world.specs.World.{World, Bounds, Station, Exchange, station, is_live, rotation}
use Rattle.wf_def_world.specs.Service.{is_served, is_delivered, is_polled, is_told, limit_left, service_limit, is_reached}
use Rattle.wf_def_world.specs.CanSend.{is_request, is_ready}
use Rattle.wf_def_world.specs.Exchanges.{Prepared, picked_station, station_need, sending_tid, after_tid_turn, takes_one, limited, frames_allowed, most_frames, prepared_exchange, exchange_of, mpdus_of, part_of, has_more_in, service_spent, spent, with_exchange_opened, with_spent}
use Rattle.wf_def_world.specs.Step.{Outcome, send_outcome}
use Rattle.wf_law_rules.proofs.Lemmas.Numbers.{on_if, both, not_eq}
use Rattle.wf_law_rules.proofs.Lemmas.Rotations.{IsWinner, pick_winner}
use Rattle.wf_law_runs.specs.Waiting.{is_sent_to}
use Rattle.wf_law_runs.proofs.Common.Limits.{bounds_after_turn}
use Rattle.wf_law_runs.proofs.Common.Picked.{picked_world}
use Rattle.wf_law_runs.proofs.Common.Traits.{Trait, set_station, kept_share, kept_after_pick, kept_prepared}
use Rattle.wf_law_runs.proofs.Unsettled.Fills.{IsFilled, prepared_filled}
use Rattle.wf_law_runs.proofs.Unsettled.Pulls.{sending_class}
use Rattle.wf_law_runs.proofs.Windows.Agreed.{IsLawful, lawful_same}
use Rattle.wf_law_runs.proofs.Windows.Sides.{Same, same_after_turn, same_picked}
use Rattle.wf_law_runs.proofs.Services.Naps.{nap_at, Naps, is_napped, naps, nap_on}

-- ---- the frames that are left

-- An exchange of a service period sends at most the frames that are left of it.
allowed_left : (x : Station) (b : Bounds) (left : ℕ) → is_served x b.class ≡ true → x.service ≡ Some left →
    1 ≤ left → frames_allowed x b ≤ left
allowed_left x b left served is some = on_if (λ (n : ℕ). n ≤ left) (takes_one x b.class) 1
    (limited (service_limit x b.class) b.frames) (λ _. some)
    (λ _. subst (λ (o : Option ℕ). limited o b.frames ≤ left) (sym limit) (go left some))
  where
    limit : service_limit x b.class ≡ limit_left (Some left)
    limit = ap (λ (t : Bool). if t then limit_left x.service else None) served ∙ ap limit_left is

    go : (left : ℕ) → 1 ≤ left → limited (limit_left (Some left)) b.frames ≤ left
    go zero some = absurd (omega (arith, some))
    go (suc left) some = omega arith

-- ---- the exchange

-- A call sends exchange x to station s. `waits`: whether something waits then in its delivery-enabled
-- classes.
pub record IsSent (w : World) (note : Note) (r : ReplyNote) (s : ℕ) (x : Exchange) : Type 0 where
  pub limits : Limits
  pub waits : Bool
  pub call : note ≡ Asked (Pull x.class limits)
  pub reply : r ≡ Send x.number s x.tid x.charge (part_of x.batch x.plain x.content) x.more x.eosp
  pub its_class : class_of x.tid ≡ x.class
  pub ready : is_ready w x.class s ≡ true
  pub few : (left : ℕ) → is_served (nap_at w s) x.class ≡ true → (nap_at w s).service ≡ Some left → 1 ≤ left →
      length (mpdus_of x.content) ≤ left
  pub last : x.eosp ≡ (is_served (nap_at w s) x.class && (not (is_request x.content)
      && (is_reached (limit_left (nap_at w s).service) (length (mpdus_of x.content)) || not waits)))
  pub more : is_served (nap_at w s) x.class ≡ true → is_request x.content ≡ false → x.more ≡ waits

-- The part of a station after exchange x is sent to it.
abbrev pub after_sent : Exchange → Station → Station
after_sent x z = record z { service = service_spent x z }

pub nap_picked : (w : World) (c : Class) (l : Limits) (s : ℕ) → nap_at (picked_world w c l) s ≡ nap_at w s
nap_picked w c l s = is_napped (picked_world w c l) s (nap_at w s)
    (kept_after_pick (Naps s (nap_at w s)) w c (naps w s (nap_at w s) refl))

-- Station i wins the pick of a pull with these limits.
module _ (w : World) (c : Class) (l : Limits) (i : ℕ) where
  abbrev tid : ℕ
  tid = sending_tid (picked_world w c l) i c

  abbrev turned : World
  turned = after_tid_turn (picked_world w c l) i c tid

  abbrev pub prepared : Prepared
  prepared = prepared_exchange turned i tid

  abbrev pub sent : Exchange
  sent = exchange_of i tid c prepared

  abbrev pub outcome : Outcome
  outcome = send_outcome i tid c prepared

  nap_turned : (s : ℕ) → nap_at turned s ≡ nap_at w s
  unfolding after_tid_turn
  nap_turned s =
      let P : ℕ → Option Trait → Type 0 = Naps s (nap_at w s) in
      is_napped turned s (nap_at w s)
      (kept_share P (picked_world w c l) i c _ (kept_after_pick P w c (naps w s (nap_at w s) refl)))

  nap_prepared : (s : ℕ) → nap_at prepared.world s ≡ nap_at w s
  nap_prepared s = is_napped prepared.world s (nap_at w s)
      (kept_prepared (Naps s (nap_at w s)) turned i tid (naps turned s (nap_at w s) (nap_turned s)))

  -- It spends frames of its service period.
  pub own_sent : nap_at outcome.world i ≡ after_sent sent (nap_at w i)
  unfolding send_outcome with_spent with_exchange_opened
  own_sent = nap_on (with_exchange_opened prepared.world sent) i (spent sent) (after_sent sent) (λ x. refl)
      (λ _. refl) ∙ ap (after_sent sent) (nap_prepared i)

  -- Another station gets nothing.
  pub other_sent : (s : ℕ) → (i ≡ s → ⊥) → nap_at outcome.world s ≡ nap_at w s
  unfolding send_outcome with_spent with_exchange_opened
  other_sent s other = is_napped outcome.world s (nap_at w s)
      (set_station (Naps s (nap_at w s)) (with_exchange_opened prepared.world sent) i (spent sent)
      (λ x e k is. absurd (other is)) (naps prepared.world s (nap_at w s) (nap_prepared s)))

  pub silent_sent : (s : ℕ) → (i ≡ s → ⊥) → is_sent_to s outcome.reply ≡ false
  unfolding send_outcome
  silent_sent s other = not_eq i s other

  few_sent : IsLawful w → is_live w i ≡ true → (left : ℕ) → is_served (nap_at w i) c ≡ true →
      (nap_at w i).service ≡ Some left → 1 ≤ left → length (mpdus_of prepared.content) ≤ left
  few_sent lawful live left served is some =
      let k : Same (picked_world w c l) turned = same_after_turn (picked_world w c l) i c tid in
      let j : Same w (picked_world w c l) = same_picked w c l in
      let r : IsFilled i tid (most_frames turned i) turned (mpdus_of prepared.content) prepared.world =
      prepared_filled turned i tid (lawful_same _ _ k (lawful_same _ _ j lawful))
      (k.live i ∙ (j.live i ∙ live)) in
      let its : turned.bounds.class ≡ c =
      ap (λ (b : Bounds). b.class) (bounds_after_turn (picked_world w c l) i c tid) in
      let most : most_frames turned i ≤ left = allowed_left (station turned i) turned.bounds left
      (ap₂ (λ (z : Station) (d : Class). is_served z d) (nap_turned i) its ∙ served)
      (ap (λ (z : Station). z.service) (nap_turned i) ∙ is) some in
      omega (arith, r.few, most)

  -- The More Data bit of frames of a service period.
  more_sent : is_served (nap_at w i) c ≡ true → is_request prepared.content ≡ false →
      sent.more ≡ has_more_in prepared.world i (is_delivered (station prepared.world i))
  more_sent served frames =
      let y : Station = station prepared.world i in
      let own : is_served y c ≡ true = ap (λ (z : Station). is_served z c) (nap_prepared i) ∙ served in
      let sleeps : y.asleep ≡ true = (both _ _ (both _ _ own).1).1 in
      ap (λ (b : Bool). b && (not (is_request prepared.content)
      && has_more_in prepared.world i (is_told y c))) sleeps
      ∙ ap (λ (b : Bool). not b && has_more_in prepared.world i (is_told y c)) frames
      ∙ ap (λ (b : Bool). has_more_in prepared.world i (if b then is_delivered y else is_polled y)) own

  pub is_sent : IsLawful w → (picked_station w c).winner ≡ Some i →
      IsSent w (Asked (Pull c l)) outcome.reply i sent
  unfolding send_outcome
  is_sent lawful won =
      let winner : IsWinner (station_need w c) (is_ready w c) (rotation w c) (picked_station w c) i =
      pick_winner (station_need w c) (is_ready w c) (rotation w c) i won in
      let waits : Bool = has_more_in prepared.world i (is_delivered (station prepared.world i)) in
      let n : ℕ = length (mpdus_of prepared.content) in
      record {
        limits = l;
        waits = waits;
        call = refl;
        reply = refl;
        its_class = sending_class (picked_world w c l) i c;
        ready = winner.is_ready;
        few = few_sent lawful (both (is_live w i) _ winner.is_ready).0;
        last = ap (λ (z : Station). is_served z c && (not (is_request prepared.content)
            && (is_reached (limit_left z.service) n || not waits))) (nap_prepared i);
        more = more_sent;
      }
