-- Defines a tournament tree as the list of its nodes: node 1 is the root, 2 * k and 2 * k + 1 are the
-- children of node k, and the last half of the nodes are the leaves. The representation is this crate's; no
-- document defines it.
use Rattle.std.specs.Prelude.{◌≡◌, ◌≢◌, ℕ, ◌+◌, ◌*◌, ◌<◌, ◌≤◌, ◌==◌, nat_lt, Bool, ◌&&◌, ◌||◌, if◌then◌else◌, List, length, map, drop, replicate, slice_index_or}
use Rattle.wf_queue_parts.specs.declared.peak.Candidate.{Candidate}

abbrev pub no_candidate : Candidate
no_candidate = record { value = 0; leaf = 0 }

abbrev pub node_at : List Candidate → ℕ → Candidate
node_at nodes k = slice_index_or nodes k no_candidate

-- the greater value wins, and on a tie the lesser leaf
abbrev pub is_ahead : Candidate → Candidate → Bool
is_ahead a b = nat_lt b.value a.value || ((b.value == a.value) && nat_lt a.leaf b.leaf)

abbrev pub winner_of : Candidate → Candidate → Candidate
winner_of a b = if is_ahead b a then b else a

abbrev pub values_of : List Candidate → ℕ → List ℕ
values_of nodes count = map (λ c. c.value) (drop count nodes)

-- each node but one holds the winner of its two children, and each leaf its own number
pub record IsPlayedBut (nodes : List Candidate) (count but : ℕ) : Type 0 where
  pub some : 0 < count
  pub size : length nodes ≡ 2 * count
  pub leaves : (leaf : ℕ) → leaf < count → (node_at nodes (count + leaf)).leaf ≡ leaf
  pub played : (k : ℕ) → 0 < k → k < count → k ≢ but →
      node_at nodes k ≡ winner_of (node_at nodes (2 * k)) (node_at nodes (2 * k + 1))

-- from this node on, the leaves have their numbers, and the nodes above them are played; all leaves are 0
pub record IsFilledFrom (nodes : List Candidate) (count from : ℕ) : Type 0 where
  pub size : length nodes ≡ 2 * count
  pub leaves : (leaf : ℕ) → leaf < count → from ≤ count + leaf → (node_at nodes (count + leaf)).leaf ≡ leaf
  pub played : (k : ℕ) → from ≤ k → k < count →
      node_at nodes k ≡ winner_of (node_at nodes (2 * k)) (node_at nodes (2 * k + 1))
  pub zero : values_of nodes count ≡ replicate count 0
