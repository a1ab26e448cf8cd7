-- Defines one pass over a rotation, its old list first: the quanta that each key gets and the list that it
-- goes to. All visits of a key in the loop of "Ending the Anomaly" (USENIX ATC 2017), algorithm 3, are made
-- at once.
use Rattle.std.specs.Prelude.{◌≡◌, ◌<◌, ℕ, ◌+◌, ◌-◌, ◌*◌, min, max, Bool, true, false, ◌||◌, ◌&&◌, if◌then◌else◌, nat_lt, List, [], ◌∷◌, ◌++◌, length, take, drop, get_or, set, filter, ℤ, pos, ◌+ℤ◌, Option, Some, None, IfSome}
use Rattle.wf_def_rotation.specs.Rotation.{Rotation, Picked, need_of}
use Rattle.wf_def_lists.specs.Lists.{on}
use Rattle.wf_rotation.specs.Lists.{lists_at, with_keys, keys_at, keys_behind}
use Rattle.wf_rotation.specs.Rotas.{Rotas, deficit_at, quantum_at, need_at, is_ready, picked_at}
use Rattle.wf_rotation.specs.Scan.{first_round}
use Rattle.wf_rotation.specs.declared.side.Side.{Side}
use Rattle.wf_rotation.specs.declared.side.Side.TheVariants.{New, Old}
use Rattle.wf_rotation.specs.declared.pass.Course.{Course}
use Rattle.wf_rotation.specs.declared.pass.Course.TheVariants.{Nobody, AtOnce, Later}
use Rattle.wf_rotation.specs.declared.pass.Share.{Share}

-- a deficit after some visits: in each it gets one quantum, until it is above 0
abbrev pub raised : ℤ → ℕ → ℕ → ℤ
raised deficit quantum visits = deficit +ℤ pos (min visits (need_of quantum deficit) * quantum)

-- the list on which the pass finds the key at a place
abbrev pub side_at : ℕ → ℕ → Side
side_at olds i = if nat_lt i olds then Old else New

abbrev pub on_new : Side → ℕ
on_new side = 1 - first_round side

-- the visits on old of the key at a place, for a winner of this round and that place
abbrev pub passes : ℕ → ℕ → ℕ → ℕ
passes round place i = round - (if nat_lt i place then 0 else 1)

-- the share of the key at a place, by its list, its need and whether it is ready
abbrev pub share_of : Course → Side → ℕ → ℕ → Bool → Share
share_of Nobody side i need ready = record { visits = need; stays = false }
share_of AtOnce side i need ready = record { visits = 1; stays = true }
share_of (Later round place) side i need ready = record {
  visits = passes round place i + on_new side;
  stays = ready || nat_lt (passes round place i) (max 1 (need + first_round side));
}

-- the first key of a list is taken off, and put last on the old list if it stays
abbrev pub passed_first : List Rotation → ℕ → Side → ℕ → Bool → List Rotation
passed_first all list side key stays =
    let off : List Rotation = with_keys all list side (keys_behind (keys_at all list side)) in
    if stays then with_keys off list Old (keys_at off list Old ++ key ∷ []) else off

-- the old keys that do not move: if the winner is found at once, the pass covers new alone
abbrev pub left_alone : Course → List ℕ → List ℕ
left_alone Nobody olds = []
left_alone AtOnce olds = olds
left_alone (Later round place) olds = []

abbrev pub passed_olds : Course → List ℕ → List ℕ
passed_olds Nobody olds = olds
passed_olds AtOnce olds = []
passed_olds (Later round place) olds = olds

-- the keys that the pass goes over, as far as it goes
abbrev pub way : Course → Rotation → List ℕ
way course r = passed_olds course r.old ++ r.new

-- these are the visits of each key on the way, and these keys stay
abbrev pub SharesAre : Course → Rotas → List Bool → ℕ → (ℕ → ℕ) → (ℕ → Bool) → Type 0
SharesAre course v ready list visits stay = (i : ℕ) → i < length (way course (lists_at v.lists list)) →
    let key : ℕ = get_or (way course (lists_at v.lists list)) i 0 in
    share_of course (side_at (length (passed_olds course (lists_at v.lists list).old)) i) i (need_at v key)
    (is_ready ready key) ≡ record { visits = visits key; stays = stay key }

-- the lists of the rotation after some keys of the way
abbrev pub lists_after : Course → Rotation → (ℕ → Bool) → ℕ → Rotation
lists_after course r stay count = record {
  new = drop (count - length (passed_olds course r.old)) r.new;
  old = left_alone course r.old ++ (drop count (passed_olds course r.old)
      ++ filter stay (take count (way course r)));
}

-- the rotations after a pass over some keys
pub record HasPassed (course : Course) (start : Rotas) (list : ℕ) (visits : ℕ → ℕ) (stay : ℕ → Bool)
    (count : ℕ) (v : Rotas) : Type 0 where
  pub lists : v.lists ≡ set start.lists list (lists_after course (lists_at start.lists list) stay count)
  pub deficits : (key : ℕ) → deficit_at v.deficits key
      ≡ raised (deficit_at start.deficits key) (quantum_at start.quanta key)
      (on (take count (way course (lists_at start.lists list))) key * visits key)
  pub keys : length v.deficits ≡ length start.deficits
  pub quanta : v.quanta ≡ start.quanta

abbrev pub last_key : List ℕ → Option ℕ
last_key [] = None
last_key (x ∷ []) = Some x
last_key (x ∷ y ∷ ys) = last_key (y ∷ ys)

-- the place of the winner, or 0 if the course does not depend on it
abbrev pub place_in : Course → ℕ
place_in Nobody = 0
place_in AtOnce = 0
place_in (Later round place) = place

-- the last key that stays before the winner, of the first keys of the way
abbrev pub last_before : Course → Rotation → (ℕ → Bool) → ℕ → Option ℕ
last_before course r stay count = last_key (filter stay (take (min count (place_in course)) (way course r)))

-- the rotations after the first key of a list has got its share
abbrev pub passed_key : Rotas → Course → ℕ → Side → ℕ → Bool → ℕ → Rotas
passed_key v course list side i ready key =
    let share : Share = share_of course side i (need_at v key) ready in
    record {
      lists = passed_first v.lists list side key share.stays;
      deficits = set v.deficits key (raised (deficit_at v.deficits key)
          (quantum_at v.quanta key) share.visits);
      quanta = v.quanta;
    }

-- the last key that stays before the winner, after one more key
abbrev pub last_after : Course → Side → ℕ → ℕ → Bool → ℕ → Option ℕ → Option ℕ
last_after course side i need ready key last =
    if (share_of course side i need ready).stays && nat_lt i (place_in course) then Some key else last

-- one of the rotations was picked from
pub record WasPickedFrom (start : Rotas) (list : ℕ) (p : Picked) (v : Rotas) : Type 0 where
  pub lists : v.lists ≡ set start.lists list p.lists
  pub deficits : (key : ℕ) → deficit_at v.deficits key
      ≡ deficit_at start.deficits key +ℤ pos (p.quanta key * quantum_at start.quanta key)
  pub keys : length v.deficits ≡ length start.deficits
  pub quanta : v.quanta ≡ start.quanta

-- one of the rotations was picked from, with this winner
pub record HasPicked (start : Rotas) (ready : List Bool) (list : ℕ) (winner : Option ℕ)
    (v : Rotas) : Type 0 where
  pub winner_is : winner ≡ (picked_at start ready list).winner
  pub picked : WasPickedFrom start list (picked_at start ready list) v
  pub below : IfSome winner (λ key. key < length start.deficits)
