-- Defines how the nodes of a run are linked, and the memory that nodes own and lend. The representation is
-- this crate's; no document defines it.
use Rattle.std.specs.Prelude.{◌≡◌, List, [], ◌∷◌, ◌++◌, map}
use base.Fml.{Fml, Lft, ftrue, fsep}
use denote.RawPtr.{Ptr}
use denote.Sharing.{nothing}
use denote.Struct.Lending.{lent_at}
use Rattle.std_alloc.specs.Box.Ownership.{box_owns}
use Rattle.std_heap.specs.contracts.GlobalAllocator.TheImpl.{ghosts}
use Rattle.wf_frame.specs.Frames.{FrameValue}
use Rattle.wf_queue_parts.specs.declared.chain.node.Node.{Node}
use Rattle.wf_queue_parts.specs.contracts.chain.node.Node.{the_row}

-- a node and its place
abbrev pub Placed : Type 0
Placed = Ptr × Node

-- the frames of the nodes
abbrev pub frames_of : List Placed → List FrameValue
frames_of = map (λ n. n.1.frame)

-- h leads to the first node, and the `next` of each to the one after
abbrev pub LeadsTo : Ptr → List Placed → Type 0
LeadsTo h [] = Unit {0}
LeadsTo h (n ∷ ns) = (h ≡ n.0) × LeadsTo n.1.next ns

-- the nodes follow one at a, and t is the place of the last
abbrev pub EndsAfter : Ptr → List Placed → Ptr → Type 0
EndsAfter a [] t = t ≡ a
EndsAfter a (n ∷ ns) t = EndsAfter n.0 ns t

-- t is the place of the last node
abbrev pub ChainEndsAt : List Placed → Ptr → Type 0
ChainEndsAt [] t = Unit {0}
ChainEndsAt (n ∷ ns) t = EndsAfter n.0 ns t

abbrev pub IsLinked : Ptr → Ptr → List Placed → Type 0
IsLinked head tail ns = LeadsTo head ns × ChainEndsAt ns tail

-- ownership of a node, with the right to free its block
abbrev pub node_owns : Placed → Fml
node_owns n = box_owns (ghosts.dealloc_token n.1.alloc) the_row n.0 n.1

abbrev pub nodes_own : List Placed → Fml
nodes_own [] = ftrue
nodes_own (n ∷ ns) = fsep (node_owns n) (nodes_own ns)

-- a `&` to a run lends the first node
abbrev pub first_lent : List Placed → Lft → Fml
first_lent [] = nothing
first_lent (n ∷ ns) = lent_at the_row n.0 n.1

-- n is the first node
abbrev pub IsFirst : List Placed → Node → Type 0
IsFirst [] n = ⊥
IsFirst (m ∷ ms) n = n ≡ m.1

-- the first node has this `next`
abbrev pub LeadsOn : List Placed → Ptr → Type 0
LeadsOn [] next = ⊥
LeadsOn (m ∷ ms) next = next ≡ m.1.next

-- zs have the frames of xs and then those of ys
abbrev pub IsJoined : List Placed → List Placed → List Placed → Type 0
IsJoined xs ys zs = frames_of zs ≡ frames_of xs ++ frames_of ys
