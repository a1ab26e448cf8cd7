-- Defines deficit round robin over a new and an old list of keys, in closed form. Source: "Ending the
-- Anomaly" (USENIX ATC 2017). Algorithm 1 lists a key (enqueue), algorithm 2 picks a flow queue (dequeue),
-- and algorithm 3 picks a station. One definition covers both picks: a key is the number of a station,
-- whose deficit is in microseconds, or of a flow queue, whose deficit is in octets. Loop defines the
-- paper's loop turn by turn. A law of wf_law_rules states that the loop and the pick have the same result.
use Rattle.std.specs.Prelude.{ℕ, zero, suc, ◌+◌, ◌-◌, ◌/◌, ◌==◌, min, max, nat_le, ℤ, pos, negsuc, Bool, ◌&&◌, ◌||◌, not, List, [], ◌∷◌, ◌++◌, Option, Some, None, if◌then◌else◌, filter, find}
use Rattle.wf_def_lists.specs.Table.{has}

-- A rotation. `new` lists the keys that were listed and not visited since; `old` lists the keys that were
-- visited since they were listed. The head of a list is visited first.
pub record Rotation : Type 0 where
  pub new : List ℕ
  pub old : List ℕ

-- The empty rotation.
abbrev pub no_keys : Rotation
no_keys = record { new = []; old = [] }

-- Returns whether a key is listed.
abbrev pub has_key : Rotation → ℕ → Bool
has_key r key = has r.new key || has r.old key

-- Returns the listed keys, the old list before the new one.
abbrev pub in_order : Rotation → List ℕ
in_order r = r.old ++ r.new

-- Lists a key: appends it to the new list.
abbrev pub with_new_key : Rotation → ℕ → Rotation
with_new_key r key = record r { new = r.new ++ key ∷ [] }

-- Lists a key on the old list: appends it there.
abbrev pub with_old_key : Rotation → ℕ → Rotation
with_old_key r key = record r { old = r.old ++ key ∷ [] }

-- Lists a key: on the new list if it is ready, otherwise on the old list.
abbrev pub with_key_listed : Bool → Rotation → ℕ → Rotation
with_key_listed ready r key = if ready then with_new_key r key else with_old_key r key

-- Removes a key from both lists.
abbrev pub without_key : Rotation → ℕ → Rotation
without_key r key = record {
  new = filter (λ y. not (y == key)) r.new;
  old =
      filter (λ y. not (y == key)) r.old;
}

-- Returns the number of quanta that raise a deficit above 0: the least n with deficit + n * quantum > 0.
-- The quantum is at least 1.
abbrev pub need_of : ℕ → ℤ → ℕ
need_of quantum (pos zero) = 1
need_of quantum (pos (suc n)) = 0
need_of quantum (negsuc n) = (1 + n + quantum) / quantum

-- Returns the keys of a list before `key`.
abbrev pub keys_before : ℕ → List ℕ → List ℕ
keys_before key [] = []
keys_before key (y ∷ ys) = if y == key then [] else y ∷ keys_before key ys

-- Returns the keys of a list from `key` on.
abbrev pub keys_from : ℕ → List ℕ → List ℕ
keys_from key [] = []
keys_from key (y ∷ ys) = if y == key then y ∷ ys else keys_from key ys

-- Returns the first round in which the loop visits a key and finds its deficit above 0. Round 0 covers
-- the new list. Rounds 1, 2 .. cover the old list, which contains the keys of the new list after round 0.
-- `need` gives the quanta that each key needs.
abbrev pub round : (ℕ → ℕ) → Rotation → ℕ → ℕ
round need r y = if has r.new y then need y else 1 + need y

-- Returns y, or z if z has a smaller round than y. The list from which both come has y before z.
abbrev pub first_of_two : (ℕ → ℕ) → ℕ → Option ℕ → Option ℕ
first_of_two rounds y None = Some y
first_of_two rounds y (Some z) = if nat_le (rounds y) (rounds z) then Some y else Some z

-- Returns the first key of a list with the least round, or None if the list is empty.
abbrev pub first_least : (ℕ → ℕ) → List ℕ → Option ℕ
first_least rounds [] = None
first_least rounds (y ∷ ys) = first_of_two rounds y (first_least rounds ys)

-- The result of a pick: the winner, the lists afterwards, and how many quanta each key gets.
pub record Picked : Type 0 where
  pub winner : Option ℕ
  pub lists : Rotation
  pub quanta : ℕ → ℕ

-- The result if no listed key is ready: every listed key gets the quanta that it needs and then leaves the
-- rotation.
abbrev pub none_ready : (ℕ → ℕ) → Rotation → Picked
none_ready need r = record { winner = None; lists = no_keys; quanta = λ y. if has_key r y then need y else 0 }

-- The result if the winner wins in round 0: it becomes the head of the new list, and the keys before it
-- move to the end of the old list. Each of these gets one quantum if it needs any.
abbrev pub picked_now : (ℕ → ℕ) → Rotation → ℕ → Picked
picked_now need r winner = record {
  winner = Some winner;
  lists = record { new = keys_from winner r.new; old = r.old ++ keys_before winner r.new };
  quanta = λ y. if has (keys_before winner r.new) y then min 1 (need y) else 0;
}

-- Returns how often the loop visited key y on the old list, when the winner wins in round `round_won`,
-- which is at least 1.
abbrev pub old_visits : Rotation → ℕ → ℕ → ℕ → ℕ
old_visits r winner round_won y = if has (keys_before winner (in_order r)) y then round_won else round_won - 1

-- Returns how often the loop visited key y on either list.
abbrev pub all_visits : Rotation → ℕ → ℕ → ℕ → ℕ
all_visits r winner round_won y = old_visits r winner round_won y + (if has r.new y then 1 else 0)

-- Returns whether key y left the rotation: the loop visited it on the old list with a deficit above 0, and
-- it was not ready.
abbrev pub is_out : (ℕ → ℕ) → (ℕ → Bool) → Rotation → ℕ → ℕ → ℕ → Bool
is_out need ready r winner round_won y = not (ready y)
    && nat_le (max 1 (round need r y)) (old_visits r winner round_won y)

-- The result if the winner wins in a later round: the new list is empty, and the old list begins with the
-- winner and contains the keys that did not leave. A key gets one quantum for each visit, up to its need.
abbrev pub picked_later : (ℕ → ℕ) → (ℕ → Bool) → Rotation → ℕ → ℕ → Picked
picked_later need ready r winner round_won = record {
  winner = Some winner;
  lists = record {
    new = [];
    old = filter (λ y. not (is_out need ready r winner round_won y))
        (keys_from winner (in_order r) ++ keys_before winner (in_order r));
  };
  quanta = λ y. if y == winner then need y else
      (if has_key r y then min (all_visits r winner round_won y) (need y) else 0);
}

-- The result if no key wins in round 0: the first ready key with the least round wins, if any key is ready.
abbrev pub pick_later : (ℕ → ℕ) → (ℕ → Bool) → Rotation → Option ℕ → Picked
pick_later need ready r None = none_ready need r
pick_later need ready r (Some winner) = picked_later need ready r winner (round need r winner)

-- The result of a pick. The given key is the winner of round 0, if there is one.
abbrev pub pick_from : (ℕ → ℕ) → (ℕ → Bool) → Rotation → Option ℕ → Picked
pick_from need ready r None = pick_later need ready r (first_least (round need r) (filter ready (in_order r)))
pick_from need ready r (Some winner) = picked_now need r winner

-- The pick, from the quanta that each key needs and whether each key is ready. The first key of the new
-- list that is ready and needs no quantum wins in round 0.
unfoldable pub pick : (ℕ → ℕ) → (ℕ → Bool) → Rotation → Picked
pick need ready r = pick_from need ready r (find (λ y. ready y && (need y == 0)) r.new)
