-- Proves how the places of a window change as they turn, with a window as the list of its numbers' stored
-- ids.
use Rattle.std.proofs.Common.{◌≡◌, ℕ, zero, suc, ◌+◌, ◌-◌, ◌<◌, ◌≤◌, min, nat_lt, nat_le, Bool, true, false, cond, ◌&&◌, List, ◌∷◌, ◌++◌, length, take, drop, replicate, map, filter, get_or, set, Option, None, Some, refl, sym, ◌∙◌, ap, ap₂, arith}
use Rattle.wf_def_lists.specs.Table.{has, count_from}
use Rattle.wf_octets.specs.Offsets.{RisesBetween}
use Rattle.wf_recv_peer.specs.Buffer.{items_of, run_of}
use Rattle.wf_recv_peer_refines.specs.Half.{stored_of}
use Rattle.wf_recv_peer_refines.proofs.Rising.{stretch_of}

-- ---- the values of a function for n numbers from b on

-- m numbers, and n more
pub window_joined : (p : ℕ → Option ℕ) (b m n k : ℕ) → m + n ≡ k →
    map p (count_from b m) ++ map p (count_from (b + m) n) ≡ map p (count_from b k)
window_joined p b zero n k e = ap₂ (λ (i j : ℕ). map p (count_from i j)) (omega arith) (omega arith)
window_joined p b (suc m) n zero e = absurd (omega (arith, e))
window_joined p b (suc m) n (suc k) e =
    ap (λ (xs : List (Option ℕ)). p b ∷ xs)
    (ap (λ (i : ℕ). map p (count_from (suc b) m) ++ map p (count_from i n)) (omega arith)
    ∙ window_joined p (suc b) m n k (omega arith))

pub window_same : (p q : ℕ → Option ℕ) (b n : ℕ) → ((k : ℕ) → b ≤ k → k < b + n → p k ≡ q k) →
    map p (count_from b n) ≡ map q (count_from b n)
window_same p q b zero h = refl
window_same p q b (suc n) h =
    ap₂ (λ (x : Option ℕ) (xs : List (Option ℕ)). x ∷ xs) (h b (omega arith) (omega arith))
    (window_same p q (suc b) n (λ k l m. h k (omega arith) (omega arith)))

pub window_none : (p : ℕ → Option ℕ) (b n : ℕ) → ((k : ℕ) → b ≤ k → p k ≡ None) →
    replicate n None ≡ map p (count_from b n)
window_none p b zero h = refl
window_none p b (suc n) h = ap₂ (λ (x : Option ℕ) (xs : List (Option ℕ)). x ∷ xs) (sym (h b (omega arith)))
    (window_none p (suc b) n (λ k l. h k (omega arith)))

pub length-window : (p : ℕ → Option ℕ) (b n : ℕ) → length (map p (count_from b n)) ≡ n
length-window p b zero = refl
length-window p b (suc n) = ap suc (length-window p (suc b) n)

pub take-window : (p : ℕ → Option ℕ) (b m n : ℕ) → m ≤ n →
    take m (map p (count_from b n)) ≡ map p (count_from b m)
take-window p b zero n h = refl
take-window p b (suc m) zero h = absurd (omega (arith, h))
take-window p b (suc m) (suc n) h = ap (λ (xs : List (Option ℕ)). p b ∷ xs)
    (take-window p (suc b) m n (omega arith))

pub drop-window : (p : ℕ → Option ℕ) (b m n : ℕ) → m ≤ n →
    drop m (map p (count_from b n)) ≡ map p (count_from (b + m) (n - m))
drop-window p b zero n h = ap₂ (λ (i j : ℕ). map p (count_from i j)) (omega arith) (omega arith)
drop-window p b (suc m) zero h = absurd (omega (arith, h))
drop-window p b (suc m) (suc n) h = drop-window p (suc b) m n (omega arith)
    ∙ ap₂ (λ (i j : ℕ). map p (count_from i j)) (omega arith) (omega arith)

pub get-window : (p : ℕ → Option ℕ) (b n d k : ℕ) → d < n → b + d ≡ k →
    get_or (map p (count_from b n)) d None ≡ p k
get-window p b zero d k h e = absurd (omega (arith, h))
get-window p b (suc n) zero k h e = ap p (omega (arith, e))
get-window p b (suc n) (suc d) k h e = get-window p (suc b) n d k (omega arith) (omega arith)

pub set-window : (p q : ℕ → Option ℕ) (b n d k : ℕ) (v : Option ℕ) → d < n → b + d ≡ k → q k ≡ v →
    ((j : ℕ) → (k ≡ j → ⊥) → q j ≡ p j) →
    set (map p (count_from b n)) d v ≡ map q (count_from b n)
set-window p q b zero d k v h e f g = absurd (omega (arith, h))
set-window p q b (suc n) zero k v h e f g =
    ap₂ (λ (x : Option ℕ) (xs : List (Option ℕ)). x ∷ xs) (sym f ∙ ap q (omega (arith, e)))
    (window_same p q (suc b) n (λ j l m. sym (g j (λ s. omega arith))))
set-window p q b (suc n) (suc d) k v h e f g =
    ap₂ (λ (x : Option ℕ) (xs : List (Option ℕ)). x ∷ xs) (sym (g b (λ s. omega arith)))
    (set-window p q (suc b) n d k v (omega arith) (omega arith) f g)

-- turning the places drops the first m, and adds m numbers without an id
pub window_turned : (p : ℕ → Option ℕ) (b m w : ℕ) → m ≤ w → ((k : ℕ) → b + w ≤ k → p k ≡ None) →
    drop m (map p (count_from b w)) ++ replicate (min m w) None ≡ map p (count_from (b + m) w)
window_turned p b m w h none =
    ap₂ (λ (xs ys : List (Option ℕ)). xs ++ ys) (drop-window p b m w h)
    (ap (λ (n : ℕ). replicate {A = Option ℕ} n None) (omega arith)
    ∙ window_none p (b + m + (w - m)) m (λ k l. none k (omega arith)))
    ∙ window_joined p (b + m) (w - m) m w (omega arith)

-- ---- the stored ids of numbers that arrived

pub stored_there : (ids : ℕ → ℕ) (xs : List ℕ) (n : ℕ) → has xs n ≡ true → stored_of ids xs n ≡ Some (ids n)
stored_there ids xs n h = rw h

pub stored_not : (ids : ℕ → ℕ) (xs : List ℕ) (n : ℕ) → has xs n ≡ false → stored_of ids xs n ≡ None
stored_not ids xs n h = rw h

pub stored_same : (ids : ℕ → ℕ) (xs ys : List ℕ) (n : ℕ) → has xs n ≡ has ys n →
    stored_of ids xs n ≡ stored_of ids ys n
stored_same ids xs ys n h = ap (λ (b : Bool). cond b (Some (ids n)) None) h

items_step : (ids : ℕ → ℕ) (b : Bool) (n : ℕ) (ps : List (Option ℕ)) (ns : List ℕ) →
    items_of ps ≡ map ids ns →
    items_of (cond b (Some (ids n)) None ∷ ps) ≡ map ids (cond b (n ∷ ns) ns)
items_step ids true n ps ns h = ap (λ (is : List ℕ). ids n ∷ is) h
items_step ids false n ps ns h = h

items_stretch : (ids : ℕ → ℕ) (xs : List ℕ) (b n : ℕ) →
    items_of (map (stored_of ids xs) (count_from b n)) ≡ map ids (filter (has xs) (count_from b n))
items_stretch ids xs b zero = refl
items_stretch ids xs b (suc n) = items_step ids (has xs b) b (map (stored_of ids xs) (count_from (suc b) n))
    (filter (has xs) (count_from (suc b) n)) (items_stretch ids xs (suc b) n)

-- the items are the ids of the numbers that arrived, in order
pub items_between : (ids : ℕ → ℕ) (end b n m : ℕ) (xs : List ℕ) → RisesBetween 0 end xs → b + n ≡ m →
    items_of (map (stored_of ids xs) (count_from b n)) ≡ map ids (filter (λ k. nat_le b k && nat_lt k m) xs)
items_between ids end b n m xs r e =
    items_stretch ids xs b n ∙ ap (map ids) (stretch_of end b n xs r)
    ∙ ap (λ (i : ℕ). map ids (filter (λ k. nat_le b k && nat_lt k i) xs)) e

-- the first missing number ends the run
pub run_window : (ids : ℕ → ℕ) (xs : List ℕ) (b n c : ℕ) → c ≤ n →
    ((k : ℕ) → b ≤ k → k < b + c → has xs k ≡ true) → has xs (b + c) ≡ false →
    run_of (map (stored_of ids xs) (count_from b n)) ≡ c
run_window ids xs b zero c low below out = omega (arith, low)
run_window ids xs b (suc n) zero low below out =
    ap (λ (p : Option ℕ). run_of (p ∷ map (stored_of ids xs) (count_from (suc b) n)))
    (stored_not ids xs b (ap (has xs) (omega arith) ∙ out))
run_window ids xs b (suc n) (suc c) low below out =
    ap (λ (p : Option ℕ). run_of (p ∷ map (stored_of ids xs) (count_from (suc b) n)))
    (stored_there ids xs b (below b (omega arith) (omega arith)))
    ∙ ap suc (run_window ids xs (suc b) n c (omega (arith, low))
    (λ k l m. below k (omega arith) (omega arith)) (ap (has xs) (omega arith) ∙ out))
