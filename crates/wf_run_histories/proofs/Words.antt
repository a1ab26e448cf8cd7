-- Proves how the words, the transmissions and the frames that are left change when one word is drawn.
use Rattle.std.proofs.Common.{◌≡◌, ℕ, zero, suc, ◌+◌, ◌-◌, ◌<◌, ◌≤◌, List, [], ◌∷◌, ◌++◌, Bool, true, false, ◌||◌, not, cond, length, length-append, refl, sym, ◌∙◌, ap, append_assoc, append-nil, arith}
use Rattle.std.specs.Prelude.{◌==◌, ◌%◌, ◌/◌, ◌*◌}
use Rattle.rand_pcg.specs.Lcg.{Lcg}
use Rattle.wf_frame.specs.Frames.{FrameValue, new_frame, sample_body}
use Rattle.wf_frame.specs.declared.notes.Note.TheVariants.{Enqueue}
use Rattle.wf_frame.specs.declared.notes.Note.{Note}
use Rattle.wf_run_histories.specs.Workloads.{word_in, words_after, words_behind, frame_from, frames_from, arrivals, calls_left, last_calls}
use Rattle.wf_run_histories.specs.Drivers.{arrive_if}

pub behind_none : (words : Lcg) → words_behind 0 words ≡ words
unfolding words_behind
behind_none words = refl

pub behind_one : (n : ℕ) (words : Lcg) → words_behind (suc n) words ≡ words_behind n (words_after words)
unfolding words_behind
behind_one n words = refl

-- The same, with a counter up to a number of words.
pub behind_next : (i n : ℕ) (words : Lcg) → i < n →
    words_behind (n - (i + 1)) (words_after words) ≡ words_behind (n - i) words
behind_next i n words below =
    let rest : n - i ≡ suc (n - (i + 1)) = omega arith in
    sym (behind_one (n - (i + 1)) words) ∙ ap (λ m. words_behind m words) (sym rest)

pub arrivals_none : (i : ℕ) (words : Lcg) → arrivals i 0 words ≡ []
unfolding arrivals
arrivals_none i words = refl

-- The first transmission, by whether its word lets it arrive.
pub left_one : (e i n : ℕ) (some : Bool) (words : Lcg) →
    calls_left e some (arrivals i (suc n) words)
    ≡ arrive_if (not (word_in words % 10 == 0)) e i
    (calls_left e (some || not (word_in words % 10 == 0)) (arrivals (suc i) n (words_after words)))
unfolding arrivals
left_one e i n some words = by_word (word_in words % 10 == 0)
  where
    by_some : (b : Bool) → (b || true) ≡ true
    by_some true = refl
    by_some false = refl

    or_false : (b : Bool) → (b || false) ≡ b
    or_false true = refl
    or_false false = refl

    others : List ℕ
    others = arrivals (suc i) n (words_after words)

    by_word : (b : Bool) → calls_left e some (cond b others (i ∷ others))
        ≡ arrive_if (not b) e i (calls_left e (some || not b) others)
    by_word true = rw (or_false some) refl
    by_word false = rw (by_some some) refl

-- The same, with a counter up to a number of transmissions.
pub left_next : (e i n : ℕ) (some : Bool) (words : Lcg) → i < n →
    calls_left e some (arrivals i (n - i) words)
    ≡ arrive_if (not (word_in words % 10 == 0)) e i
    (calls_left e (some || not (word_in words % 10 == 0))
    (arrivals (i + 1) (n - (i + 1)) (words_after words)))
left_next e i n some words below =
    let rest : n - i ≡ suc (n - (i + 1)) = omega arith in
    let next : suc i ≡ i + 1 = omega arith in
    ap (λ m. calls_left e some (arrivals i m words)) rest ∙ left_one e i (n - (i + 1)) some words
    ∙ ap (λ j. arrive_if (not (word_in words % 10 == 0)) e i
    (calls_left e (some || not (word_in words % 10 == 0)) (arrivals j (n - (i + 1)) (words_after words))))
    next

pub left_none : (e i : ℕ) (some : Bool) (words : Lcg) →
    calls_left e some (arrivals i 0 words) ≡ last_calls e some
unfolding arrivals
left_none e i true words = refl
left_none e i false words = refl

pub sample-length : (flow n : ℕ) → length (sample_body flow n) ≡ n
sample-length flow zero = refl
sample-length flow (suc n) = let before = sample-length flow n in
    let all = length-append (sample_body flow n) (((flow + n) % 256) ∷ []) in omega arith

pub frames_none : (s : ℕ) (words : Lcg) → frames_from s 0 words ≡ []
unfolding frames_from
frames_none s words = refl

pub frames_one : (s n : ℕ) (words : Lcg) → frames_from s (suc n) words ≡ frame_from s (word_in words)
    ∷ frames_from s n (words_after words)
unfolding frames_from
frames_one s n words = refl

-- The same, with a counter up to a number of frames.
pub frames_next : (s i n : ℕ) (words : Lcg) → i < n →
    frames_from s (n - i) words ≡ frame_from s (word_in words)
    ∷ frames_from s (n - (i + 1)) (words_after words)
frames_next s i n words below =
    let rest : n - i ≡ suc (n - (i + 1)) = omega arith in
    ap (λ m. frames_from s m words) rest ∙ frames_one s (n - (i + 1)) words

-- A sender has made one more frame.
pub sent_more : (s i n : ℕ) (before all : List Note) (words now : Lcg) (word : ℕ) → i < n →
    before ++ frames_from s (n - i) words ≡ all → word ≡ word_in words → now ≡ words_after words →
    (before ++ frame_from s word ∷ []) ++ frames_from s (n - (i + 1)) now ≡ all
sent_more s i n before all words now word below is first rest =
    append_assoc before (frame_from s word ∷ []) (frames_from s (n - (i + 1)) now)
    ∙ ap (λ w. before ++ (frame_from s w ∷ frames_from s (n - (i + 1)) now)) first
    ∙ ap (λ (l : Lcg). before ++ (frame_from s (word_in words) ∷ frames_from s (n - (i + 1)) l)) rest
    ∙ ap (λ l. before ++ l) (sym (frames_next s i n words below)) ∙ is

-- The note of the frame that a word makes.
pub note_same : (s word flow : ℕ) (f : FrameValue) →
    f ≡ new_frame s ((word / 16) % 8) (256 * s + (word / 128) % 16)
    (sample_body flow (64 + (word / 32768) % 1437)) →
    Enqueue f.station f.tid f.flow (length f.body) ≡ frame_from s word
note_same s word flow f is =
    ap (λ (x : FrameValue). Enqueue x.station x.tid x.flow (length x.body)) is
    ∙ ap (λ n. Enqueue s ((word / 16) % 8) (256 * s + (word / 128) % 16) n)
    (sample-length flow (64 + (word / 32768) % 1437))

pub sent_all : (s i n : ℕ) (before all : List Note) (words first : Lcg) → n ≤ i →
    before ++ frames_from s (n - i) words ≡ all → before ≡ all
sent_all s i n before all words first over is =
    let none : n - i ≡ 0 = omega arith in
    sym (append-nil before) ∙ ap (λ l. before ++ l) (sym (frames_none s words))
    ∙ ap (λ m. before ++ frames_from s m words) (sym none) ∙ is
