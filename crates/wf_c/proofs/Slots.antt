-- Proves how to take a handle and an unboxed block apart and to put them together: each is a value of two
-- words, a pointer and an allocator, and owns a block. A handle is empty exactly if its pointer is null.
use Rattle.std.proofs.Common.{◌≡◌, ◌∙◌, ℕ, List, [], ◌∷◌, ◌++◌, refl}
use seplogic.Ra.Ura.{Ura}
use base.Fml.{Fml, ftrue, fsep}
use base.Logic.{ent, guard, guard_i, never, never_e, via, fst∗, snd∗}
use contract.Monad.{fact_use}
use mir.Raw.{raw as bare}
use mir.Syntax.{ty_ptr}
use mir.Val.{Val, vstruct, of_list}
use types.Logic.{Logic, sem}
use types.Kit.{Item, Goal, Seq, Step, step, ‵, given, learn, ◌$◌, move, drop, fsplit, fjoin, fpick, fpack, use1}
use types.Kit.{feq_i, feq_l}
use denote.RattleType.{RattleType, Valss}
use denote.RawPtr.{Ptr, RawPtr, Testable, block_ptr, null_ptr, ptr_val}
use denote.Memory.{lone}
use denote.Steps.{nothing}
use denote.Struct.Struct.{Shape, Struct, as_fields, layout, within}
use Rattle.core.proofs.alloc.Calls.{Al, Fits, handle_tells}
use Rattle.core.specs.Ptr.{points_to}
use Rattle.std.specs.Prelude.{Option, Some, None}
use Rattle.std_alloc.proofs.RcSteps.{Good, Ptr-Good}
use Rattle.std_heap.proofs.GlobalToken.{dealloc_token-Testable}
use Rattle.std_heap.specs.declared.Global.{Global}
use Rattle.std_heap.specs.contracts.Global.{the_row as Heap}
use Rattle.std_heap.proofs.Global.TheLaws.{the_row_laws as Heap-laws}
use Rattle.std_heap.specs.contracts.GlobalAllocator.TheImpl.{ghosts}
use Rattle.wf_c.proofs.Words.{both}
use Rattle.wf_c.specs.Slots.{slot_owns}
use Rattle.wf_queue_parts.proofs.Values.{Bare, handle}

-- an unboxed T: a block with the right to free it
abbrev pub Owned : RattleType → RattleType
Owned T = Bare T Heap Heap-laws ghosts

abbrev pub heap : Al
heap = handle RawPtr Heap Heap-laws ghosts

-- the fields of either; what a struct owns does not depend on its name, so this one has none
abbrev two : Shape
two = record { name = []; args = []; types = []; fields = RawPtr ∷ Heap ∷ [] }

pub words_good : (p : Ptr) (hv : Val) → Fits heap hv → Good (layout two) (both (ptr_val p) hv)
words_good p hv fits = as_fields (ty_ptr ∷ lone Heap.mir ∷ []) (ptr_val p ∷ hv ∷ []) (Ptr-Good p, (fits, tt))

-- what a value of these two words owns, if it owns F besides its fields
abbrev pub words_own : Ptr → Global → Fml → List Val → Fml
words_own p alloc F vs = fsep ((Struct two).own_val (p, (alloc, tt)) vs) F

module _ {M : Type 1} {𝓤 : Ura M} {𝓛 : Logic 𝓤} {K : Type 0} {Γ : List (Item 𝓤)} {G : Goal 𝓤 𝓛.H} where
  pub words_out : K → (p : Ptr) (alloc : Global) (F : Fml) (vs : List Val)
      → ((hv : Val) → vs ≡ both (ptr_val p) hv ∷ [] → Fits heap hv →
      Seq K 𝓛 (‵ F ∷ ‵ (Heap.own_val alloc (hv ∷ [])) ∷ Γ) G)
      → Seq K 𝓛 (‵ (words_own p alloc F vs) ∷ Γ) G
  words_out t p alloc F vs k =
      fsplit t $ fpick t (λ vss. fsplit t $ feq_l t
      (λ all. fsplit t $ feq_l t (λ e₀. fsplit t $ handle_tells heap t alloc vss.1.0
      (λ hv e₁ fits. move t (1 ∷ []) $ drop t $ move t (1 ∷ []) $
      k hv (all ∙ (λ i. vstruct (of_list (e₀ i ++ (e₁ i ++ []))) ∷ [])) fits))))

  pub words_in : K → (p : Ptr) (alloc : Global) (F : Fml) (hv : Val)
      → Step K 𝓛 (‵ (words_own p alloc F (both (ptr_val p) hv ∷ [])) ∷ Γ) G
      (‵ F ∷ ‵ (Heap.own_val alloc (hv ∷ [])) ∷ Γ) G
  words_in t p alloc F hv = step (λ s.
      let v : Val = both (ptr_val p) hv in
      nothing t $ move t (2 ∷ 0 ∷ []) $ fjoin t $ feq_i t (List Val) (ptr_val p ∷ [])
      (ptr_val p ∷ []) refl $ fjoin t $ feq_i t (List Val) (v ∷ []) (v ∷ []) refl $ fjoin t $
      fpack t (Valss two.fields) (within two (p, (alloc, tt)) (v ∷ []))
      (ptr_val p ∷ [], (hv ∷ [], tt)) $ fjoin t $ s)

-- ---- whether a handle is empty

module _ (T : RattleType) (alloc : Global) {M : Type 1} {𝓤 : Ura M} (𝓛 : Logic 𝓤) where
  -- the pointer of a handle with content may be compared with null
  tested : (p : Ptr) (x : T.Denot) → ent 𝓤 (sem 𝓛 (slot_owns T alloc p (Some x)))
      (guard 𝓤 (Testable p) (sem 𝓛 (slot_owns T alloc p (Some x))))
  tested p x =
      let Frees : Fml = ghosts.dealloc_token alloc (bare (lone T.mir)) p in
      fact_use 𝓤 (Testable p) (via 𝓤 (sem 𝓛 Frees) (snd∗ 𝓤 (sem 𝓛 (points_to T p x)) (sem 𝓛 Frees))
      (dealloc_token-Testable 𝓛 alloc (bare (lone T.mir)) p))
      (guard_i 𝓤 (Testable p) (sem 𝓛 (slot_owns T alloc p (Some x))))

module _ (T : RattleType) (alloc : Global) {M : Type 1} {𝓤 : Ura M} {𝓛 : Logic 𝓤} {K : Type 0}
    {Γ : List (Item 𝓤)} {G : Goal 𝓤 𝓛.H} where
  -- the pointer of a handle is null if the handle is empty; otherwise it leads to the content
  pub null_or_full : K → (p : Ptr) (o : Option T.Denot) → (p ≡ null_ptr → o ≡ None → Seq K 𝓛 Γ G)
      → ((b k : ℕ) (x : T.Denot) → p ≡ block_ptr b k → o ≡ Some x → Testable (block_ptr b k) →
      Seq K 𝓛 (‵ (slot_owns T alloc (block_ptr b k) (Some x)) ∷ Γ) G)
      → Seq K 𝓛 (‵ (slot_owns T alloc p o) ∷ Γ) G
  null_or_full t p None empty full = feq_l t (λ e. empty e refl)
  null_or_full t null_ptr (Some x) empty full =
      use1 𝓛 (given ⊥ (‵ ftrue)) (via 𝓤 (never 𝓤) (fst∗ 𝓤 (never 𝓤)
      (sem 𝓛 (ghosts.dealloc_token alloc (bare (lone T.mir)) null_ptr))) (never_e 𝓤 _)) $
      learn t (λ wrong. absurd wrong)
  null_or_full t (block_ptr b k) (Some x) empty full =
      use1 𝓛 (given (Testable (block_ptr b k)) (‵ (slot_owns T alloc (block_ptr b k) (Some x))))
      (tested T alloc 𝓛 (block_ptr b k) x) $ learn t (λ may. full b k x refl refl may)
