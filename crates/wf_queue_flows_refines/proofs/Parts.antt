-- Computes how each change of a world changes the part that the flow queues represent.
use Rattle.std.proofs.Common.{◌≡◌, refl, ap, ap₂, sym, ◌∙◌, arith, ℕ, zero, suc, ◌+◌, ◌*◌, ◌<◌, pos, ◌+ℤ◌, true, List, [], ◌∷◌, ◌++◌, length, Option, Some, None, is_some, unwrap_or, option_map, inl, inr}
use Rattle.std.proofs.Math.Path.{fun_ext}
use Rattle.std.proofs.lemmas.List.{length-append}
use Rattle.std.proofs.lemmas.Bool.{cases_eq}
use Rattle.wf_frame.specs.declared.classes.Fate.{Fate}
use Rattle.wf_frame.specs.declared.classes.Fate.TheVariants.{Held}
use Rattle.wf_frame.specs.declared.notes.Note.{Note}
use Rattle.wf_def_lists.specs.Table.{at, put, change}
use Rattle.wf_def_rotation.specs.Rotation.{Rotation}
use Rattle.wf_def_world.specs.World.{World, Station, Tid, Queue, Frame, no_frame, no_tid, no_station, new_queue, flow_of, queue, is_live, accepted_count, with_station, on_station, on_tid, with_queues, on_queue, with_fate, with_frame_finished, with_frames_finished}
use Rattle.wf_def_world.specs.FlowQueues.{with_queues_paid}
use Rattle.wf_def_world.specs.Step.{with_frame}
use Rattle.wf_law_rules.proofs.Lemmas.Sums.{length_put}
use Rattle.wf_law_runs.proofs.Deficits.Books.{upd, upd_same, upd_other, upd_idle, put_upd}
use Rattle.wf_def_lists.specs.Lists.{on}
use Rattle.wf_law_runs.proofs.Queues.Shelves.{Shelves, paid_queue, shelves_pay_queues}
use Rattle.wf_law_rules.proofs.Lemmas.Counts.{on-cons_same, on-first}
use Rattle.wf_queue_flows_refines.specs.Standing.{Part, flows_part}

-- ---- stations

-- the queues that the TIDs of a station list
abbrev pub lists_in : Option Station → ℕ → Rotation
lists_in o t = (at no_tid (unwrap_or o no_station).tids t).queues

pub part_with_station : (w : World) (s : ℕ) (o : Option Station) →
    flows_part (with_station w s o) ≡ record (flows_part w) {
      lists =
          upd (flows_part w).lists s (lists_in o);
    }
unfolding with_station
part_with_station w s o = ap (λ (f : ℕ → ℕ → Rotation). record (flows_part w) { lists = f })
    (put_upd {Y = ℕ → Rotation} lists_in None w.stations s o)

-- a station whose lists stay the same
pub part_same_lists : (w : World) (s : ℕ) (o : Option Station) →
    lists_in o ≡ lists_in (at None w.stations s) → flows_part (with_station w s o) ≡ flows_part w
part_same_lists w s o same = part_with_station w s o
    ∙ ap (λ (f : ℕ → ℕ → Rotation). record (flows_part w) { lists = f })
    (upd_idle (flows_part w).lists s (lists_in o) same)

mapped_lists : (f : Station → Station) → ((x : Station) → lists_in (Some (f x)) ≡ lists_in (Some x)) →
    (o : Option Station) → lists_in (option_map f o) ≡ lists_in o
mapped_lists f h None = refl
mapped_lists f h (Some x) = h x

-- a change of a station that does not change its lists
pub part_on_station : (w : World) (s : ℕ) (f : Station → Station) →
    ((x : Station) → lists_in (Some (f x)) ≡ lists_in (Some x)) → flows_part (on_station w s f) ≡ flows_part w
unfolding on_station
part_on_station w s f h = part_same_lists w s _ (mapped_lists f h (at None w.stations s))

tid_put : (x : Station) (t : ℕ) (y : Tid) → lists_in (Some (record x { tids = put no_tid x.tids t y }))
    ≡ upd (lists_in (Some x)) t y.queues
tid_put x t y = put_upd {Y = Rotation} (λ (z : Tid). z.queues) no_tid x.tids t y

pub part_on_tid : (w : World) (s t : ℕ) (f : Tid → Tid) → ((y : Tid) → (f y).queues ≡ y.queues) →
    flows_part (on_tid w s t f) ≡ flows_part w
unfolding on_tid
part_on_tid w s t f h = part_on_station w s _
    (λ x. tid_put x t (f (at no_tid x.tids t)) ∙ upd_idle (lists_in (Some x)) t _ (h (at no_tid x.tids t)))

-- a TID of a live station gets other lists
pub part_with_queues : (w : World) (s t : ℕ) (r : Rotation) → is_live w s ≡ true →
    flows_part (with_queues w s t r) ≡ record
    (flows_part w) { lists = upd (flows_part w).lists s (upd ((flows_part w).lists s) t r) }
unfolding with_queues on_tid on_station
part_with_queues w s t r live = part_with_station w s _
    ∙ ap (λ (f : ℕ → Rotation). record (flows_part w) { lists = upd (flows_part w).lists s f })
    (go (at None w.stations s) live)
  where
    go : (o : Option Station) → is_some o ≡ true →
        lists_in (option_map (λ (x : Station). record
        x { tids = change no_tid x.tids t (λ y. record y { queues = r }) }) o) ≡ upd (lists_in o) t r
    go None e = absurd (cc e)
    go (Some x) e = tid_put x t (record (at no_tid x.tids t) { queues = r })

-- ---- queues and frames

pub part_on_queue : (w : World) (q : ℕ) (f : Queue → Queue) →
    flows_part (on_queue w q f) ≡ record (flows_part w) {
      queues =
          upd (flows_part w).queues q (f (queue w q));
    }
unfolding on_queue
part_on_queue w q f = ap (λ (g : ℕ → Queue). record (flows_part w) { queues = g })
    (put_upd (λ (y : Queue). y) new_queue w.queues q (f (queue w q)))

-- an accepted frame is finished
abbrev pub finished_part : Part → Fate → ℕ → Part
finished_part p fate id = record p { fates = upd p.fates id fate; finished = p.finished ++ id ∷ [] }

pub part_finish : (w : World) (fate : Fate) (id : ℕ) → id < accepted_count w →
    flows_part (with_frame_finished w fate id) ≡ finished_part (flows_part w) fate id
unfolding with_frame_finished with_fate
part_finish w fate id low =
    ap (λ (n : ℕ). record (flows_part w) {
      fates =
          λ k. (at no_frame (put no_frame w.frames id (record (at no_frame w.frames id) { fate = fate }))
          k).fate;
      flows =
          λ k. flow_of (at no_frame (put no_frame w.frames id (record (at no_frame w.frames id)
          { fate = fate })) k).note;
      accepted = n;
      finished = w.finished ++ id ∷ [];
    }) (length_put no_frame w.frames id _ low)
    ∙ ap₂ (λ (f : ℕ → Fate) (g : ℕ → ℕ).
    record (flows_part w) { fates = f; flows = g; finished = w.finished ++ id ∷ [] })
    (put_upd (λ (x : Frame). x.fate) no_frame w.frames id _)
    (put_upd (λ (x : Frame). flow_of x.note) no_frame w.frames id _
    ∙ upd_idle (flows_part w).flows id (flow_of (at no_frame w.frames id).note) refl)

-- ---- an accepted frame

pub end_is : (fs : List Frame) (x : Frame) → at no_frame (fs ++ x ∷ []) (length fs) ≡ x
end_is [] x = refl
end_is (y ∷ fs) x = end_is fs x

pub end_other : (fs : List Frame) (x : Frame) (k : ℕ) → (k ≡ length fs → ⊥) →
    at no_frame (fs ++ x ∷ []) k ≡ at no_frame fs k
end_other [] x zero h = absurd (h refl)
end_other [] x (suc k) h = refl
end_other (y ∷ fs) x zero h = refl
end_other (y ∷ fs) x (suc k) h = end_other fs x k (λ e. h (ap suc e))

at_end : {Y : Type 0} (read : Frame → Y) (fs : List Frame) (x : Frame) (k : ℕ) →
    read (at no_frame (fs ++ x ∷ []) k) ≡ upd (λ i. read (at no_frame fs i)) (length fs) (read x) k
at_end read fs x k = elim (cases_eq k (length fs)) [
  | inl e ↦ ap (λ (n : ℕ). read (at no_frame (fs ++ x ∷ []) n)) e ∙ ap read (end_is fs x)
      ∙ sym (upd_same (λ i. read (at no_frame fs i)) (length fs) (read x))
      ∙ ap (upd (λ i. read (at no_frame fs i)) (length fs) (read x)) (sym e)
  | inr other ↦ ap read (end_other fs x k other)
      ∙ sym (upd_other (λ i. read (at no_frame fs i)) (length fs) k (read x) other)
]

-- one more frame is accepted, with this flow number
abbrev pub accepted_part : Part → ℕ → Part
accepted_part p flow = record p {
  fates = upd p.fates p.accepted Held;
  flows = upd p.flows p.accepted flow;
  accepted = p.accepted + 1;
}

pub part_with_frame : (w : World) (note : Note) →
    flows_part (with_frame w note) ≡ accepted_part (flows_part w) (flow_of note)
unfolding with_frame
part_with_frame w note =
    let x : Frame = record { note = note; fate = Held } in
    ap (λ (n : ℕ). record (flows_part w) {
      fates = λ k. (at no_frame (w.frames ++ x ∷ []) k).fate;
      flows = λ k. flow_of (at no_frame (w.frames ++ x ∷ []) k).note;
      accepted =
          n;
    }) (length-append w.frames (x ∷ []))
    ∙ ap₂ (λ (f : ℕ → Fate) (g : ℕ → ℕ).
    record (flows_part w) { fates = f; flows = g; accepted = accepted_count w + 1 })
    (fun_ext (at_end (λ z. z.fate) w.frames x)) (fun_ext (at_end (λ z. flow_of z.note) w.frames x))

-- these frames are finished, one after another
unfoldable pub all_finished : Part → Fate → List ℕ → Part
all_finished p fate [] = p
all_finished p fate (id ∷ ids) = all_finished (finished_part p fate id) fate ids

pub part_finish_all : (ids : List ℕ) (w : World) (fate : Fate) →
    ((id : ℕ) → 0 < on ids id → id < accepted_count w) →
    flows_part (with_frames_finished w fate ids) ≡ all_finished (flows_part w) fate ids
unfolding with_frames_finished all_finished
part_finish_all [] w fate low = refl
part_finish_all (id ∷ ids) w fate low =
    let one : flows_part (with_frame_finished w fate id) ≡ finished_part (flows_part w) fate id =
    part_finish w fate id (low id (omega (arith, on-cons_same id ids))) in
    let as_many : accepted_count (with_frame_finished w fate id) ≡ accepted_count w =
    ap (λ (p : Part). p.accepted) one in
    part_finish_all ids (with_frame_finished w fate id) fate
    (λ k h. omega (arith, as_many, low k (omega (arith, h, on-first id k ids))))
    ∙ ap (λ (p : Part). all_finished p fate ids) one

pub accepted_all : (ids : List ℕ) (p : Part) (fate : Fate) → (all_finished p fate ids).accepted ≡ p.accepted
unfolding all_finished
accepted_all [] p fate = refl
accepted_all (id ∷ ids) p fate = accepted_all ids (finished_part p fate id) fate

-- ---- paying queues

paid_elsewhere : (qs : List ℕ) (w : World) (quanta : ℕ → ℕ) (g : ℕ → Queue) →
    record (flows_part (with_queues_paid w quanta qs)) { queues = g } ≡ record (flows_part w) { queues = g }
unfolding with_queues_paid on_queue
paid_elsewhere [] w quanta g = refl
paid_elsewhere (q ∷ qs) w quanta g = paid_elsewhere qs
    (on_queue w q (λ y. record y { deficit = y.deficit +ℤ pos (quanta q * w.config.flow_quantum) })) quanta g

-- each queue gets its quanta as often as it occurs among these
pub part_pay_queues : (qs : List ℕ) (w : World) (quanta : ℕ → ℕ) →
    flows_part (with_queues_paid w quanta qs)
    ≡ record (flows_part w) {
      queues = λ q. paid_queue w.config.flow_quantum (on qs q * quanta q)
          (queue w q);
    }
part_pay_queues qs w quanta =
    ap (λ (g : ℕ → Queue). record (flows_part (with_queues_paid w quanta qs)) { queues = g })
    (ap (λ (b : Shelves). b.queues) (shelves_pay_queues qs w quanta))
    ∙ paid_elsewhere qs w quanta _
