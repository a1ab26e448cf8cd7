-- An owned node by its two words.
use Rattle.std.proofs.Common.{◌≡◌, [], ◌∷◌, List}
use seplogic.Ra.Ura.{Ura}
use mir.Syntax.{ty_ptr}
use mir.Val.{Val}
use types.Logic.{Logic}
use types.Kit.{Item, Goal, Seq, Step, ‵}
use denote.RattleType.{RattleType}
use denote.RawPtr.{Ptr, ptr_val}
use denote.Memory.{lone}
use denote.Struct.Struct.{as_fields}
use Rattle.core.proofs.alloc.Calls.{Al, Fits}
use Rattle.std_alloc.proofs.RcSteps.{Good, Ptr-Good}
use Rattle.std_alloc.specs.Box.Ownership.{box_owns}
use Rattle.std_heap.specs.contracts.Global.{the_row as Heap}
use Rattle.std_heap.proofs.Global.TheLaws.{the_row_laws as Heap-laws}
use Rattle.std_heap.specs.contracts.GlobalAllocator.TheImpl.{ghosts}
use Rattle.wf_queue_parts.specs.contracts.chain.node.Node.{the_row as Node-row}
use Rattle.wf_queue_parts.proofs.PointerSteps.{both}
use Rattle.wf_queue_parts.proofs.Values.{Bare, handle, bare_out, bare_in}

abbrev pub Owned : RattleType
Owned = Bare Node-row Heap Heap-laws ghosts

abbrev pub heap : Al
heap = handle Node-row Heap Heap-laws ghosts

pub owned_good : (p : Ptr) (hv : Val) → Fits heap hv → Good (lone Owned.mir) (both (ptr_val p) hv)
owned_good p hv fits = as_fields (ty_ptr ∷ lone Heap.mir ∷ []) (ptr_val p ∷ hv ∷ []) (Ptr-Good p, (fits, tt))

module _ {M : Type 1} {𝓤 : Ura M} {𝓛 : Logic 𝓤} {K : Type 0} {Γ : List (Item 𝓤)} {G : Goal 𝓤 𝓛.H} where
  pub owned_out : K → (d : Owned.Denot) (vs : List Val)
      → ((hv : Val) → vs ≡ both (ptr_val d.at) hv ∷ [] → Fits heap hv →
      Seq K 𝓛 (‵ (box_owns (ghosts.dealloc_token d.alloc) Node-row d.at d.value)
      ∷ ‵ (Heap.own_val d.alloc (hv ∷ [])) ∷ Γ) G)
      → Seq K 𝓛 (‵ (Owned.own_val d vs) ∷ Γ) G
  owned_out = bare_out Node-row Heap Heap-laws ghosts

  pub owned_in : K → (d : Owned.Denot) (hv : Val)
      → Step K 𝓛 (‵ (Owned.own_val d (both (ptr_val d.at) hv ∷ [])) ∷ Γ) G
      (‵ (box_owns (ghosts.dealloc_token d.alloc) Node-row d.at d.value)
      ∷ ‵ (Heap.own_val d.alloc (hv ∷ [])) ∷ Γ) G
  owned_in = bare_in Node-row Heap Heap-laws ghosts
