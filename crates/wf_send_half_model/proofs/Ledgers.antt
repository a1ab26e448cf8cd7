-- Proves how the ledger of a world changes as frames are accepted and finished: one count changes by one.
use Rattle.std.proofs.Common.{◌≡◌, length, suc, ◌≢◌, refl, ap, ap₂, sym, ◌∙◌, arith, ℕ, ◌+◌, ◌<◌, ◌==◌, Bool, true, false, cond, if◌then◌else◌, List, [], ◌∷◌, map, Option, None, eq-eqb, length-append, add-zero}
use Rattle.std.specs.Prelude.{count_by}
use Rattle.std.proofs.lemmas.Bool.{or_left, or_right}
use Rattle.wf_frame.specs.declared.classes.Cause.TheVariants.{Overlimit, Codel, Retries, Left, Flushed, Ended}
use Rattle.wf_frame.specs.declared.classes.Fate.{Fate}
use Rattle.wf_frame.specs.declared.classes.Fate.TheVariants.{Held, Acked, Dropped}
use Rattle.wf_frame.specs.declared.notes.Note.{Note}
use Rattle.wf_def_codel.specs.Codel.{Item}
use Rattle.wf_def_lists.specs.Table.{put, has}
use Rattle.wf_def_world.specs.World.{World, Frame, no_frame, queue, frame, accepted_count, inside, is_held, on_queue, with_fate, with_frame_finished, with_frames_finished}
use Rattle.wf_def_world.specs.FlowQueues.{without_head, after_limit, head_id, is_at_limit, longest_queue, dropped_for_limit}
use Rattle.wf_def_world.specs.Text.{same_fate, tally}
use Rattle.wf_law_rules.proofs.Lemmas.Sums.{sum_put_within, length_put}
use Rattle.wf_law_runs.specs.Places.{Queued, KeepsPlaces}
use Rattle.wf_def_lists.specs.Lists.{IsOnce}
use Rattle.wf_law_runs.proofs.Deficits.Books.{upd_other}
use Rattle.wf_queue_flows_refines.specs.Standing.{Part, flows_part}
use Rattle.wf_queue_flows_refines.proofs.Parts.{finished_part, part_finish}
use Rattle.wf_queue_flows_refines.proofs.Notes.{notes_finish}
use Rattle.wf_send_parts.specs.Tally.{Counts, settled_as, many_settled_as}
use Rattle.wf_send_half_model.specs.Standing.{counts_in}
use Rattle.wf_send_half_model.specs.Counting.{with_overlimit}
use Rattle.wf_send_half_model.specs.Views.{Ledger, ledger}

-- ---- one frame is finished

as_one : Bool → ℕ
as_one b = cond b 1 0

pub counts_by : (c d : Counts) → c.accepted ≡ d.accepted → c.acked ≡ d.acked → c.overlimit ≡ d.overlimit →
    c.codel ≡ d.codel → c.retries ≡ d.retries → c.left ≡ d.left → c.flushed ≡ d.flushed →
    c.ended ≡ d.ended → c ≡ d
counts_by c d accepted acked overlimit codel retries left flushed ended =
    ap₂ (λ (i j : ℕ). record c { accepted = i; acked = j }) accepted acked
    ∙ ap₂ (λ (i j : ℕ). record c { accepted = d.accepted; acked = d.acked; overlimit = i; codel = j })
    overlimit codel
    ∙ ap₂ (λ (i j : ℕ). record d { retries = i; left = j; flushed = c.flushed; ended = c.ended }) retries left
    ∙ ap₂ (λ (i j : ℕ). record d { flushed = i; ended = j }) flushed ended

module _ (w : World) (fate : Fate) (id : ℕ) (low : id < accepted_count w)
    (held : (frame w id).fate ≡ Held) where
  abbrev pub settled_frame : Frame
  settled_frame = record (frame w id) { fate = fate }

  -- how many frames have a property of their fates, before and after one held frame gets another fate
  counted : (p : Fate → Bool) → count_by (λ f. p f.fate) (put no_frame w.frames id settled_frame) + as_one
      (p Held) ≡ count_by (λ f. p f.fate) w.frames + as_one (p fate)
  unfolding as_one
  counted p =
      ap (λ (z : Fate). count_by (λ (f : Frame). p f.fate) (put no_frame w.frames id settled_frame) + cond
      (p z) 1 0) (sym held)
      ∙ sum_put_within (λ (f : Frame). cond (p f.fate) 1 0) no_frame w.frames id settled_frame low

  settled_count : (f : Fate) → same_fate Held f ≡ false →
      tally (with_frame_finished w fate id) f ≡ tally w f + as_one (same_fate fate f)
  unfolding with_frame_finished with_fate as_one
  settled_count f other = let e = counted (λ z. same_fate z f) in
      let none : as_one (same_fate Held f) ≡ as_one false = ap as_one other in omega (arith, e, none)

  settled_inside : is_held fate ≡ false → inside (with_frame_finished w fate id) ≡ inside w
  unfolding with_frame_finished with_fate as_one
  settled_inside other =
      let e = counted is_held in
      let none : as_one (is_held fate) ≡ as_one false = ap as_one other in
      omega (arith, e, none, length-append w.finished (id ∷ []))

  settled_accepted : accepted_count (with_frame_finished w fate id) ≡ accepted_count w
  unfolding with_frame_finished with_fate
  settled_accepted = length_put no_frame w.frames id settled_frame low

-- the counts with one more frame of this fate
abbrev added : Fate → Counts → Counts
added fate c = record c {
  acked = c.acked + cond (same_fate fate Acked) 1 0;
  overlimit = c.overlimit + cond (same_fate fate (Dropped Overlimit)) 1 0;
  codel = c.codel + cond (same_fate fate (Dropped Codel)) 1 0;
  retries = c.retries + cond (same_fate fate (Dropped Retries)) 1 0;
  left = c.left + cond (same_fate fate (Dropped Left)) 1 0;
  flushed = c.flushed + cond (same_fate fate (Dropped Flushed)) 1 0;
  ended = c.ended + cond (same_fate fate (Dropped Ended)) 1 0;
}

added_is : (fate : Fate) (c : Counts) → is_held fate ≡ false → added fate c ≡ settled_as fate c
added_is Held c other = absurd (cc other)
added_is Acked c other = simp add-zero
added_is (Dropped Overlimit) c other = simp add-zero
added_is (Dropped Codel) c other = simp add-zero
added_is (Dropped Retries) c other = simp add-zero
added_is (Dropped Left) c other = simp add-zero
added_is (Dropped Flushed) c other = simp add-zero
added_is (Dropped Ended) c other = simp add-zero

pub ledger_finish : (w : World) (fate : Fate) (id : ℕ) → id < accepted_count w → (frame w id).fate ≡ Held →
    is_held fate ≡ false → ledger (with_frame_finished w fate id)
    ≡ record (ledger w) { counts = settled_as fate (counts_in w) }
unfolding as_one
ledger_finish w fate id low held other =
    let u : World = with_frame_finished w fate id in
    let counts : counts_in u ≡ settled_as fate (counts_in w) =
    counts_by (counts_in u) (added fate (counts_in w)) (settled_accepted w fate id low held)
    (settled_count w fate id low held Acked refl) (settled_count w fate id low held (Dropped Overlimit) refl)
    (settled_count w fate id low held (Dropped Codel) refl)
    (settled_count w fate id low held (Dropped Retries) refl)
    (settled_count w fate id low held (Dropped Left) refl)
    (settled_count w fate id low held (Dropped Flushed) refl)
    (settled_count w fate id low held (Dropped Ended) refl) ∙ added_is fate (counts_in w) other in
    ap₂ (λ (n m : ℕ). record (ledger u) { inside = n; accepted = m })
    (settled_inside w fate id low held other) (settled_accepted w fate id low held)
    ∙ ap₂ (λ (c : Counts) (f : ℕ → Note). record (ledger w) { counts = c; notes = f }) counts
    (notes_finish w fate id)

-- ---- the frame that is dropped for the limit

head_stands : (w : World) (q : ℕ) (x : Item) (rest : List Item) → (queue w q).items ≡ x ∷ rest →
    has (map (λ y. y.id) (queue w q).items) x.id ≡ true
head_stands w q x rest e = ap (λ (l : List Item). has (map (λ (y : Item). y.id) l) x.id) e
    ∙ or_left (x.id == x.id) (has (map (λ (y : Item). y.id) rest) x.id) (eq-eqb x.id x.id refl)

ledger_head : (w : World) (q : ℕ) (items : List Item) → KeepsPlaces w → (queue w q).items ≡ items →
    ledger (without_head w q items) ≡ record (ledger w) {
      counts =
          with_overlimit (head_id items) (counts_in w);
    }
unfolding without_head on_queue
ledger_head w q [] places e = refl
ledger_head w q (x ∷ rest) places e =
    let it = places.only_held x.id (Queued q) (head_stands w q x rest e) in
    ledger_finish (on_queue w q (λ y. record y { items = rest })) (Dropped Overlimit) x.id it.0 it.1 refl

ledger_if : (b : Bool) (w u : World) (o : Option ℕ) →
    ledger u ≡ record (ledger w) { counts = with_overlimit o (counts_in w) } →
    ledger (if b then u else w) ≡ record (ledger w) {
      counts =
          with_overlimit (if b then o else None) (counts_in w);
    }
ledger_if true w u o e = e
ledger_if false w u o e = refl

pub ledger_limit : (w : World) → KeepsPlaces w →
    ledger (after_limit w) ≡ record (ledger w) { counts = with_overlimit (dropped_for_limit w) (counts_in w) }
unfolding after_limit
ledger_limit w places = ledger_if (is_at_limit w) w _ (head_id (queue w (longest_queue w)).items)
    (ledger_head w (longest_queue w) (queue w (longest_queue w)).items places refl)

-- ---- many frames are finished

one_more : (fate : Fate) (n : ℕ) (c : Counts) →
    many_settled_as fate n (settled_as fate c) ≡ many_settled_as fate (suc n) c
one_more Held n c = refl
one_more Acked n c = let e : (c.acked + 1) + n ≡ c.acked + suc n = omega arith in
    ap (λ (k : ℕ). record c { acked = k }) e
one_more (Dropped Overlimit) n c = let e : (c.overlimit + 1) + n ≡ c.overlimit + suc n = omega arith in
    ap (λ (k : ℕ). record c { overlimit = k }) e
one_more (Dropped Codel) n c = let e : (c.codel + 1) + n ≡ c.codel + suc n = omega arith in
    ap (λ (k : ℕ). record c { codel = k }) e
one_more (Dropped Retries) n c = let e : (c.retries + 1) + n ≡ c.retries + suc n = omega arith in
    ap (λ (k : ℕ). record c { retries = k }) e
one_more (Dropped Left) n c = let e : (c.left + 1) + n ≡ c.left + suc n = omega arith in
    ap (λ (k : ℕ). record c { left = k }) e
one_more (Dropped Flushed) n c = let e : (c.flushed + 1) + n ≡ c.flushed + suc n = omega arith in
    ap (λ (k : ℕ). record c { flushed = k }) e
one_more (Dropped Ended) n c = let e : (c.ended + 1) + n ≡ c.ended + suc n = omega arith in
    ap (λ (k : ℕ). record c { ended = k }) e

pub none_more : (fate : Fate) (c : Counts) → c ≡ many_settled_as fate 0 c
none_more Held c = refl
none_more Acked c = simp add-zero
none_more (Dropped Overlimit) c = simp add-zero
none_more (Dropped Codel) c = simp add-zero
none_more (Dropped Retries) c = simp add-zero
none_more (Dropped Left) c = simp add-zero
none_more (Dropped Flushed) c = simp add-zero
none_more (Dropped Ended) c = simp add-zero

pub ledger_finish_all : (ids : List ℕ) (w : World) (fate : Fate) → IsOnce ids →
    ((id : ℕ) → has ids id ≡ true → (id < accepted_count w) × ((frame w id).fate ≡ Held)) →
    is_held fate ≡ false →
    ledger (with_frames_finished w fate ids) ≡ record
    (ledger w) { counts = many_settled_as fate (length ids) (counts_in w) }
unfolding with_frames_finished
ledger_finish_all [] w fate once held other =
    ap (λ (c : Counts). record (ledger w) { counts = c }) (none_more fate (counts_in w))
ledger_finish_all (id ∷ ids) w fate once held other =
    let u : World = with_frame_finished w fate id in
    let here = held id (or_left (id == id) (has ids id) (eq-eqb id id refl)) in
    let p : flows_part u ≡ finished_part (flows_part w) fate id = part_finish w fate id here.0 in
    let one : ledger u ≡ record (ledger w) { counts = settled_as fate (counts_in w) } =
    ledger_finish w fate id here.0 here.1 other in
    let later : (k : ℕ) → has ids k ≡ true → (k < accepted_count u) × ((frame u k).fate ≡ Held) = λ k among.
    let apart : k ≢ id = λ e. absurd (let m : has ids id ≡ true = ap (has ids) (sym e) ∙ among in
    cc (m, once.0)) in
    let was = held k (or_right (id == k) (has ids k) among) in (
      omega (arith, was.0, ap (λ (z : Part). z.accepted) p),
      ap (λ (z : Part). z.fates k) p ∙ upd_other (flows_part w).fates id k fate apart ∙ was.1,
    ) in
    ledger_finish_all ids u fate once.1 later other
    ∙ ap (λ (l : Ledger). record l { counts = many_settled_as fate (length ids) l.counts }) one
    ∙ ap (λ (c : Counts). record (ledger w) { counts = c }) (one_more fate (length ids) (counts_in w))
