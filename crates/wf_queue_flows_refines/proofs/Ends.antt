-- Proves that flow queues and world still agree after frames are finished or reaped.
use Rattle.std.proofs.Common.{◌≡◌, refl, ap, ap₂, sym, ◌∙◌, subst, arith, ℕ, ◌+◌, ◌<◌, ◌≤◌, List, [], ◌∷◌, ◌++◌, map, append_assoc, inl, inr}
use Rattle.std.proofs.lemmas.List.{map-append, append-nil}
use Rattle.std.proofs.lemmas.Bool.{cases_eq}
use Rattle.wf_frame.specs.declared.classes.Fate.{Fate}
use Rattle.wf_frame.specs.Frames.{FrameValue}
use Rattle.wf_def_lists.specs.Lists.{on}
use Rattle.wf_law_rules.proofs.Lemmas.Counts.{on-nil, on-first, on-cons_same, on-cons_other, on-append}
use Rattle.wf_frame.specs.declared.notes.ReplyNote.TheVariants.{Reaped}
use Rattle.wf_def_world.specs.World.{World, accepted_count, with_frame_finished, with_frames_finished}
use Rattle.wf_def_world.specs.Step.{reap_outcome}
use Rattle.wf_queue_flows.specs.Backlog.{BacklogValue, frame_with_fate}
use Rattle.wf_queue_flows.specs.Flows.{FlowsValue}
use Rattle.wf_law_runs.proofs.Deficits.Books.{upd, upd_same, upd_other}
use Rattle.wf_queue_flows_refines.specs.Standing.{Part, flows_part, ids, times_held, with_finished, AreFlowsSized, Stands, FlowsStandFor}
use Rattle.wf_queue_flows_refines.proofs.Parts.{finished_part, all_finished, part_finish}

pub on_ids-append : (xs ys : List FrameValue) (id : ℕ) →
    on (ids (xs ++ ys)) id ≡ on (ids xs) id + on (ids ys) id
on_ids-append xs ys id = ap (λ (l : List ℕ). on l id) (map-append (λ (f : FrameValue). f.id) xs ys)
    ∙ on-append (ids xs) (ids ys) id

-- a new fate does not affect frames with other ids
pub other_fates : (frames : List FrameValue) (fates : ℕ → Fate) (id : ℕ) (fate : Fate) →
    on (ids frames) id ≡ 0 → map (λ (f : FrameValue). upd fates id fate f.id) frames
    ≡ map (λ (f : FrameValue). fates f.id) frames
other_fates [] fates id fate none = refl
other_fates (f ∷ fs) fates id fate none = elim (cases_eq f.id id) [
  | inl e ↦ absurd (omega (arith, none, ap (λ (n : ℕ). on (n ∷ ids fs) id) e, on-cons_same id (ids fs)))
  | inr other ↦ ap₂ (λ (x : Fate) (xs : List Fate). x ∷ xs) (upd_other fates id f.id fate other)
      (other_fates fs fates id fate (omega (arith, none, on-first f.id id (ids fs))))
]

pub times_finished : (b : BacklogValue) (frames : List FrameValue) (id : ℕ) →
    times_held (record b { finished = b.finished ++ frames }) id ≡ times_held b id + on (ids frames) id
times_finished b frames id = omega (arith, on_ids-append b.finished frames id)

same_sizes : (v : FlowsValue) (frames : List FrameValue) → AreFlowsSized v →
    AreFlowsSized (with_finished v frames)
same_sizes v frames z = record {
  lists = z.lists;
  deficits = z.deficits;
  queues = z.queues;
  codels = z.codels;
  some_flows = z.some_flows;
  quanta = z.quanta;
}

-- a frame that is neither queued nor finished goes last on the finished list
pub stands_finish : (v : FlowsValue) (p : Part) (f : FrameValue) → Stands v p → f.id < p.accepted →
    times_held v.backlog f.id ≡ 0 → Stands (with_finished v (v.backlog.finished ++ f ∷ []))
    (finished_part p f.fate f.id)
stands_finish v p f st low none = record {
  sized = same_sizes v _ st.sized;
  settings = st.settings;
  items = st.items;
  codels = st.codels;
  lists = st.lists;
  once = st.once;
  below = st.below;
  deficits = st.deficits;
  finished = ap (λ (l : List ℕ). l ++ f.id ∷ []) st.finished
      ∙ sym (map-append (λ (g : FrameValue). g.id) v.backlog.finished (f ∷ []));
  fates = map-append (λ (g : FrameValue). upd p.fates f.id f.fate g.id) v.backlog.finished (f ∷ [])
      ∙ ap₂ (λ (x y : List Fate). x ++ y) (other_fates v.backlog.finished p.fates f.id f.fate
      (omega (arith, none)) ∙ st.fates) (ap (λ (x : Fate). x ∷ []) (upd_same p.fates f.id f.fate))
      ∙ sym (map-append (λ (g : FrameValue). g.fate) v.backlog.finished (f ∷ []));
  accepted = λ id h. elim (cases_eq id f.id) [
    | inl e ↦ subst (λ (n : ℕ). n < p.accepted) (sym e) low
    | inr other ↦ st.accepted id (omega (arith, h, times_finished v.backlog (f ∷ []) id, one_other id other))
  ];
  flows = st.flows;
  held_once = λ id. elim (cases_eq id f.id) [
    | inl e ↦ subst (λ (n : ℕ). times_held (record v.backlog { finished = v.backlog.finished ++ f ∷ [] }) n
        ≤ 1) (sym e) (omega (
          arith,
          none,
          times_finished v.backlog (f ∷ []) f.id,
          on-cons_same f.id [],
          on-nil f.id,
        ))
    | inr other ↦ omega (arith, st.held_once id, times_finished v.backlog (f ∷ []) id, one_other id other)
  ];
}
  where
    one_other : (id : ℕ) → (id ≡ f.id → ⊥) → on (f.id ∷ []) id ≡ 0
    one_other id other = omega (arith, on-cons_other f.id id [] (λ e. other (sym e)), on-nil id)

-- frames that are neither queued nor finished go last on the finished list, one after another
pub stands_finish_all : (frames : List FrameValue) (v : FlowsValue) (p : Part) (fate : Fate) → Stands v p →
    ((id : ℕ) → 0 < on (ids frames) id → id < p.accepted) →
    ((id : ℕ) → times_held v.backlog id + on (ids frames) id ≤ 1)
    → Stands (with_finished v (v.backlog.finished ++ map (frame_with_fate fate) frames))
    (all_finished p fate (ids frames))
unfolding all_finished
stands_finish_all [] v p fate st low once = subst (λ (l : List FrameValue). Stands (with_finished v l) p)
    (sym (append-nil v.backlog.finished)) st
stands_finish_all (f ∷ fs) v p fate st low once =
    let w : FlowsValue = with_finished v (v.backlog.finished ++ frame_with_fate fate f ∷ []) in
    let here : on (ids (f ∷ fs)) f.id ≡ 1 + on (ids fs) f.id = on-cons_same f.id (ids fs) in
    let one : Stands w (finished_part p fate f.id) =
    stands_finish v p (frame_with_fate fate f) st (low f.id (omega (arith, here)))
    (omega (arith, once f.id, here)) in
    subst (λ (l : List FrameValue). Stands (with_finished v l)
    (all_finished (finished_part p fate f.id) fate (ids fs)))
    (append_assoc v.backlog.finished (frame_with_fate fate f ∷ []) (map (frame_with_fate fate) fs))
    (stands_finish_all fs w (finished_part p fate f.id) fate one
    (λ id h. low id (omega (arith, h, on-first f.id id (ids fs))))
    (λ id. omega (
      arith,
      once id,
      times_finished v.backlog (frame_with_fate fate f ∷ []) id,
      on-first f.id id (ids fs),
    )))

-- the first finished frame is reaped
pub stands_reap : (v : FlowsValue) (p : Part) (f : FrameValue) (rest : List FrameValue) → Stands v p →
    v.backlog.finished ≡ f ∷ rest → Stands (with_finished v rest) (record p { finished = ids rest })
stands_reap v p f rest st e =
    let all : map (λ (g : FrameValue). p.fates g.id) (f ∷ rest)
    ≡ map (λ (g : FrameValue). g.fate) (f ∷ rest) =
    subst (λ (l : List FrameValue). map (λ (g : FrameValue). p.fates g.id) l
    ≡ map (λ (g : FrameValue). g.fate) l) e st.fates in
    let fewer : (id : ℕ) → times_held (record v.backlog { finished = rest }) id ≤ times_held v.backlog id =
    λ id. omega (arith, ap (λ (l : List FrameValue). on (ids l) id) e, on-first f.id id (ids rest)) in
    record {
      sized = same_sizes v _ st.sized;
      settings = st.settings;
      items = st.items;
      codels = st.codels;
      lists = st.lists;
      once = st.once;
      below = st.below;
      deficits = st.deficits;
      finished = refl;
      fates = cc all;
      accepted = λ id h. st.accepted id (omega (arith, h, fewer id));
      held_once = λ id. omega (arith, st.held_once id, fewer id);
      flows = st.flows;
    }

-- ---- the same for a world

pub stands_finished : (v : FlowsValue) (w : World) (f : FrameValue) → FlowsStandFor v w →
    f.id < accepted_count w → times_held v.backlog f.id ≡ 0 →
    FlowsStandFor (with_finished v (v.backlog.finished ++ f ∷ [])) (with_frame_finished w f.fate f.id)
stands_finished v w f st low none = subst (Stands (with_finished v (v.backlog.finished ++ f ∷ [])))
    (sym (part_finish w f.fate f.id low)) (stands_finish v (flows_part w) f st low none)

first_reaped : (v : FlowsValue) (w : World) (f : FrameValue) (rest : List FrameValue) → FlowsStandFor v w →
    v.backlog.finished ≡ f ∷ rest → w.finished ≡ f.id ∷ ids rest
first_reaped v w f rest st e = st.finished ∙ ap ids e

pub stands_reaped : (v : FlowsValue) (w : World) (f : FrameValue) (rest : List FrameValue) →
    FlowsStandFor v w → v.backlog.finished ≡ f ∷ rest →
    FlowsStandFor (with_finished v rest) (reap_outcome w w.finished).world
unfolding reap_outcome
stands_reaped v w f rest st e = subst (λ (l : List ℕ).
    FlowsStandFor (with_finished v rest) (reap_outcome w l).world) (sym (first_reaped v w f rest st e))
    (stands_reap v (flows_part w) f rest st e)

pub reply_reaped : (v : FlowsValue) (w : World) (f : FrameValue) (rest : List FrameValue) →
    FlowsStandFor v w → v.backlog.finished ≡ f ∷ rest → (reap_outcome w w.finished).reply ≡ Reaped f.id f.fate
unfolding reap_outcome
reply_reaped v w f rest st e =
    let all : map (λ (g : FrameValue). (flows_part w).fates g.id) (f ∷ rest)
    ≡ map (λ (g : FrameValue). g.fate) (f ∷ rest) =
    subst (λ (l : List FrameValue). map (λ (g : FrameValue). (flows_part w).fates g.id) l
    ≡ map (λ (g : FrameValue). g.fate) l) e st.fates in
    let same : (flows_part w).fates f.id ≡ f.fate = cc all in
    ap (λ (l : List ℕ). (reap_outcome w l).reply) (first_reaped v w f rest st e) ∙ ap (Reaped f.id) same

pub none_reaped : (v : FlowsValue) (w : World) → FlowsStandFor v w → v.backlog.finished ≡ [] → w.finished ≡ []
none_reaped v w st e = st.finished ∙ ap ids e

pub accepted_finish : (w : World) (fate : Fate) (id : ℕ) → id < accepted_count w →
    accepted_count (with_frame_finished w fate id) ≡ accepted_count w
accepted_finish w fate id low = ap (λ (p : Part). p.accepted) (part_finish w fate id low)

pub finish_all-append : (ids : List ℕ) (w : World) (fate : Fate) (id : ℕ) →
    with_frames_finished w fate (ids ++ id ∷ [])
    ≡ with_frame_finished (with_frames_finished w fate ids) fate id
unfolding with_frames_finished
finish_all-append [] w fate id = refl
finish_all-append (x ∷ ids) w fate id = finish_all-append ids (with_frame_finished w fate x) fate id
