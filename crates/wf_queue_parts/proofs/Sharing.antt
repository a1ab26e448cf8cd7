-- A `&` to the first node of a run is made from the borrow of what owns the nodes.
use Rattle.std.proofs.Common.{List, [], ◌∷◌}
use seplogic.Ra.Ura.{Ura}
use base.Fraction.{full_share}
use base.Fml.{Lft, ftrue}
use types.Logic.{Logic}
use denote.RawPtr.{lies_at}
use denote.Memory.{lone}
use denote.Sharing.{ShrLaws}
use denote.SharingLaws.{nothing_shr_laws}
use denote.Shares.{Shares-less}
use denote.Struct.Lending.{lent_at, lent_at_shr_laws, Lends, Lends-lies, Lends-first, Lends-nothing}
use mir.Raw.{raw as bare}
use Rattle.std_heap.specs.contracts.GlobalAllocator.TheImpl.{ghosts}
use Rattle.wf_queue_parts.specs.Links.{Placed, nodes_own, node_owns, first_lent}
use Rattle.wf_queue_parts.specs.contracts.chain.node.Node.{the_row as Node}
use Rattle.wf_queue_parts.proofs.chain.node.Node.TheLaws.{the_row_laws, the_within as node_within}

pub first_lent_laws : (ns : List Placed) → ShrLaws (first_lent ns)
first_lent_laws [] = nothing_shr_laws
first_lent_laws (n ∷ ns) = lent_at_shr_laws Node the_row_laws.shr_laws n.0 n.1

pub Lends-nodes : {M : Type 1} {𝓤 : Ura M} (𝓛 : Logic 𝓤) (l : Lft) (ns : List Placed) →
    Lends 𝓛 (nodes_own ns) (first_lent ns) l
Lends-nodes 𝓛 l [] = Lends-nothing 𝓛 ftrue l
Lends-nodes 𝓛 l (n ∷ ns) =
    Lends-first 𝓛 (node_owns n) (nodes_own ns) (lent_at Node n.0 n.1) l
    (Lends-first 𝓛 (lies_at Node full_share n.0 n.1)
    (ghosts.dealloc_token n.1.alloc (bare (lone Node.mir)) n.0) (lent_at Node n.0 n.1) l
    (Lends-lies 𝓛 Node l n.0 n.1 (Shares-less 𝓛 Node Node.lives l (node_within l)
    (the_row_laws.shares 𝓛) n.1)))
