-- Proves that each pull that sends a frame adds 1 to its count of transmissions, by induction over the
-- frames.
use Rattle.std.proofs.Common.{◌≡◌, ap, sym, ◌∙◌, arith, ℕ, ◌+◌, ◌<◌, ◌≤◌, ◌==◌, Bool, cond, if◌then◌else◌, List, [], ◌∷◌, map, refl, eq-eqb, inl, inr}
use Rattle.std.proofs.lemmas.Bool.{cases_eq, ne_eqb}
use Rattle.std.proofs.lemmas.Bool.Decides.{nat_tests}
use Rattle.std.proofs.lemmas.List.Sums.{sum_by-cons}
use Rattle.std.specs.Prelude.{nat_lt, true, count_by}
use Rattle.wf_frame.specs.Frames.{FrameValue, most_attempts, sent_again}
use Rattle.wf_frame.specs.declared.notes.Part.TheVariants.{Mpdus, Batch, Plain}
use Rattle.wf_frame.specs.declared.notes.ReplyNote.{ReplyNote}
use Rattle.wf_frame.specs.declared.notes.ReplyNote.TheVariants.{Send}
use Rattle.wf_send_parts.specs.Sent.{with_one_sent, with_all_sent}
use Rattle.wf_send_parts.proofs.Sending.{sent_own, sent_other}
use Rattle.wf_send_half.specs.Replies.{bodies_sent}
use Rattle.wf_path.specs.Jobs.{times_in, times_sent}

is_low : (a b : ℕ) → a < b → nat_lt a b ≡ true
is_low a b h = grind (arith, nat_tests)

one_more : (f : FrameValue) → f.attempts < most_attempts → (sent_again f).attempts ≡ f.attempts + 1
one_more f low = ap (λ (b : Bool). if b then f.attempts + 1 else f.attempts)
    (is_low f.attempts most_attempts low)

counted : (pairs : List (ℕ × ℕ)) (bodies : ℕ → FrameValue) (id : ℕ) →
    (bodies id).attempts + times_in pairs id ≤ most_attempts →
    (with_all_sent pairs bodies id).attempts ≡ (bodies id).attempts + times_in pairs id
counted [] bodies id fits = omega arith
counted (p ∷ pairs) bodies id fits = elim (cases_eq id p.0) [
  | inl same ↦
      let times : times_in (p ∷ pairs) id ≡ 1 + times_in pairs id =
      ap (λ (b : Bool). (if b then 1 else 0) + times_in pairs id) (eq-eqb id p.0 same) in
      let own : (with_one_sent p.0 bodies id).attempts ≡ (bodies id).attempts + 1 =
      ap (λ (k : ℕ). (with_one_sent k bodies id).attempts) (sym same)
      ∙ ap (λ (f : FrameValue). f.attempts) (sent_own bodies id)
      ∙ one_more (bodies id) (omega (arith, times, fits)) in
      omega (arith, counted pairs (with_one_sent p.0 bodies) id (omega (arith, own, times, fits)), own, times)
  | inr other ↦
      let times : times_in (p ∷ pairs) id ≡ 0 + times_in pairs id =
      ap (λ (b : Bool). (if b then 1 else 0) + times_in pairs id) (ne_eqb id p.0 other) in
      let own : (with_one_sent p.0 bodies id).attempts ≡ (bodies id).attempts =
      ap (λ (f : FrameValue). f.attempts) (sent_other bodies p.0 id other) in
      omega (arith, counted pairs (with_one_sent p.0 bodies) id (omega (arith, own, times, fits)), own, times)
]

same_turned : (a b : ℕ) → (a == b) ≡ (b == a)
same_turned a b = elim (cases_eq a b) [
  | inl same ↦ eq-eqb a b same ∙ sym (eq-eqb b a (sym same))
  | inr other ↦ ne_eqb a b other ∙ sym (ne_eqb b a (λ e. other (sym e)))
]

-- how often an id is in a batch
times_in_batch : (ids : List ℕ) (id : ℕ) → times_in (map (λ i. (i, 0)) ids) id ≡ count_by (λ i. i == id) ids
times_in_batch [] id = refl
times_in_batch (i ∷ ids) id =
    ap (λ (b : Bool). (if b then 1 else 0) + times_in (map (λ j. (j, 0)) ids) id) (same_turned id i)
    ∙ ap (λ (n : ℕ). (if i == id then 1 else 0) + n) (times_in_batch ids id)
    ∙ sym (sum_by-cons (λ n. cond (n == id) 1 0) i ids)

pub pull_counts : (reply : ReplyNote) (bodies : ℕ → FrameValue) (id : ℕ) →
    (bodies id).attempts + times_sent reply id ≤ most_attempts →
    (bodies_sent reply bodies id).attempts ≡ (bodies id).attempts + times_sent reply id
pull_counts (Send exchange station tid air (Mpdus pairs) more eosp) bodies id fits =
    counted pairs bodies id fits
pull_counts (Send exchange station tid air (Plain pairs) more eosp) bodies id fits =
    counted pairs bodies id fits
pull_counts (Send exchange station tid air (Batch ids) more eosp) bodies id fits =
    let times : times_in (map (λ i. (i, 0)) ids) id ≡ count_by (λ i. i == id) ids = times_in_batch ids id in
    omega (arith, counted (map (λ i. (i, 0)) ids) bodies id (omega (arith, times, fits)), times)
pull_counts _ bodies id fits = omega arith
