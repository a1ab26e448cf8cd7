-- Proves that the octets in the queues of a half are those of each world that it represents. The half sums up
-- the queues of a TID in the order of their numbers, the world in the order of its rotation.
use Rattle.std.proofs.Common.{◌≡◌, refl, ap, sym, ◌∙◌, subst, arith, ℕ, ◌+◌, ◌*◌, ◌<◌, ◌≤◌, ◌==◌, Bool, false, ◌||◌, List, [], ◌∷◌, length, map, nat_lt, inl, inr}
use Rattle.std.specs.Prelude.{sum_by}
use Rattle.std.proofs.Math.Path.{fun_ext}
use Rattle.std.proofs.lemmas.Bool.{cases_Bool, or_left}
use Rattle.std.proofs.lemmas.List.Sums.{sum_by-cons}
use Rattle.wf_frame.specs.Classes.{tid_number}
use Rattle.wf_frame.specs.Frames.{FrameValue}
use Rattle.wf_frame.specs.declared.settings.Config.{Config}
use Rattle.wf_def_lists.specs.Lists.{on}
use Rattle.wf_def_lists.specs.Table.{has, with_member}
use Rattle.wf_def_codel.specs.Codel.{octets}
use Rattle.wf_def_rotation.specs.Rotation.{Rotation, in_order}
use Rattle.wf_def_world.specs.World.{World, tid_of, queue}
use Rattle.wf_def_world.specs.Step.{in_rising_order}
use Rattle.wf_law_rules.proofs.Lemmas.Counts.{on-cons, on-cons_same, on-hasnot}
use Rattle.wf_law_rules.proofs.Lemmas.Numbers.{has_with}
use Rattle.wf_queue_flows.specs.Backlog.{frames_at, queue_octets, item_of}
use Rattle.wf_queue_flows.specs.Flows.{FlowsValue, SettingsValue, queues, queues_of, octets_of_tid}
use Rattle.wf_queue_flows_refines.specs.Standing.{FlowsStandFor}
use Rattle.wf_queue_flows_refines.proofs.Purges.{listed_same}
use Rattle.wf_send_half_model.specs.Half.{TransmitValue}
use Rattle.wf_send_half_model.specs.Standing.{StandsFor}
use Rattle.wf_send_half.specs.Queued.{queue_count, octets_queued}

-- ---- a list that is put in order has the same sum

-- a number that a set does not have yet
sum_member : (f : ℕ → ℕ) (x : ℕ) (ys : List ℕ) → has ys x ≡ false →
    sum_by f (with_member x ys) ≡ f x + sum_by f ys
sum_member f x [] h = sum_by-cons f x []
sum_member f x (y ∷ ys) h = elim (cases_Bool (nat_lt x y)) [
  | inl low ↦ rw low (sum_by-cons f x (y ∷ ys))
  | inr high ↦ elim (cases_Bool (y == x)) [
    | inl same ↦ absurd (cc (or_left (y == x) (has ys x) same, h))
    | inr differs ↦
        let rest : has ys x ≡ false = ap (λ (b : Bool). b || has ys x) (sym differs) ∙ h in
        rw (high, differs) (omega (
          arith,
          sum_by-cons f y (with_member x ys),
          sum_by-cons f y ys,
          sum_member f x ys rest,
        ))
  ]
]

has_rising : (xs : List ℕ) (q : ℕ) → has (in_rising_order xs) q ≡ has xs q
has_rising [] q = refl
has_rising (x ∷ xs) q = has_with (in_rising_order xs) x q ∙ ap (λ (b : Bool). (x == q) || b) (has_rising xs q)

sum_rising : (f : ℕ → ℕ) (xs : List ℕ) → ((q : ℕ) → on xs q ≤ 1) →
    sum_by f (in_rising_order xs) ≡ sum_by f xs
sum_rising f [] once = refl
sum_rising f (x ∷ xs) once =
    let none : on xs x ≡ 0 = omega (arith, on-cons_same x xs, once x) in
    let fresh : has (in_rising_order xs) x ≡ false = has_rising xs x ∙ on-hasnot xs x none in
    let rest : sum_by f (in_rising_order xs) ≡ sum_by f xs =
    sum_rising f xs (λ q. omega (arith, on-cons x q xs, once q)) in
    sum_member f x (in_rising_order xs) fresh ∙ ap (λ (n : ℕ). f x + n) rest ∙ sym (sum_by-cons f x xs)

-- ---- the flow queues and the world

octets_of_items : (frames : List FrameValue) → octets (map item_of frames) ≡ queue_octets frames
octets_of_items [] = refl
octets_of_items (f ∷ fs) = sum_by-cons (λ x. x.len) (item_of f) (map item_of fs)
    ∙ ap (λ (n : ℕ). length f.body + n) (octets_of_items fs)
    ∙ sym (sum_by-cons (λ (g : FrameValue). length g.body) f fs)

-- a queue of a half and of a world that it represents
module _ (v : FlowsValue) (w : World) (st : FlowsStandFor v w) where
  same_octets : (q : ℕ) → queue_octets (frames_at v.backlog q) ≡ octets (queue w q).items
  same_octets q = sym (octets_of_items (frames_at v.backlog q)) ∙ ap octets (sym (st.items q))

  same_weight : (s t : ℕ) → s < v.stations → t < 8 → octets_of_tid v (tid_number s t) ≡ octets_queued w s t
  same_weight s t low_s low_t =
      let r : Rotation = (tid_of w s t).queues in
      let once : (q : ℕ) → on (in_order r) q ≤ 1 = λ q.
      subst (λ (x : Rotation). on (in_order x) q ≤ 1) (sym (st.lists s t low_s low_t))
      (st.once (tid_number s t) q) in
      ap (λ (f : ℕ → ℕ). sum_by f (queues_of v (tid_number s t))) (fun_ext same_octets)
      ∙ ap (sum_by (λ q. octets (queue w q).items)) (sym (listed_same v w s t st low_s low_t))
      ∙ sum_rising (λ q. octets (queue w q).items) (in_order r) once

module _ (v : TransmitValue) (w : World) (bodies : ℕ → FrameValue) (h : StandsFor v w bodies) where
  st : FlowsStandFor v.flows w
  st = h.parts.others.flows

  pub octets_of_same : (q : ℕ) → queue_octets (frames_at v.flows.backlog q) ≡ octets (queue w q).items
  unfolding st
  octets_of_same = same_octets v.flows w st

  pub queues_same : queues v.flows ≡ queue_count w
  unfolding st
  queues_same = ap (λ (x : SettingsValue). x.flows + 8 * x.stations) st.settings

  pub octets_same : (s t : ℕ) → s < v.config.stations → t < 8 →
      octets_of_tid v.flows (tid_number s t) ≡ octets_queued w s t
  unfolding st
  octets_same s t low_s low_t =
      let low : s < v.flows.stations = omega (
        arith,
        low_s,
        ap (λ (x : SettingsValue). x.stations) st.settings,
        ap (λ (k : Config). k.stations) h.parts.others.config,
      ) in
      same_weight v.flows w st s t low low_t
