-- An unboxed value by its two words: the pointer and the allocator's handle.
use Rattle.std.proofs.Common.{◌≡◌, ◌∙◌, List, [], ◌∷◌, ◌++◌, refl}
use seplogic.Ra.Ura.{Ura}
use mir.Syntax.{impl, tnil, dnil}
use mir.Val.{Val, vstruct, of_list}
use types.Logic.{Logic}
use types.Kit.{Item, Goal, Seq, Step, step, ‵, ◌$◌, move, drop, fsplit, fjoin, fpick, fpack, feq_i, feq_l}
use denote.RattleType.{RattleType, Valss}
use denote.RawPtr.{ptr_val}
use denote.Param.Laws.{Laws}
use denote.Steps.{nothing}
use denote.Struct.Struct.{within}
use denote.Struct.Owning.{shape}
use Rattle.core.proofs.alloc.Calls.{Al, Fits, handle_tells}
use Rattle.core.specs.declared.alloc.Allocator.{Ghosts}
use Rattle.std_alloc.specs.Box.Ownership.{box_owns}
use Rattle.wf_queue_parts.specs.contracts.chain.unboxed.Unboxed as U
use Rattle.wf_queue_parts.proofs.PointerSteps.{both}

module _ (R Z : RattleType) (L : Laws Z) (g : Ghosts Z.Denot) where
  abbrev pub Bare : RattleType
  Bare = U.the_row R Z g

  abbrev pub handle : Al
  handle = record { row = Z; laws = L; g = g; d = impl [] tnil dnil; drops = impl [] tnil dnil }

  module _ {M : Type 1} {𝓤 : Ura M} {𝓛 : Logic 𝓤} {K : Type 0} {Γ : List (Item 𝓤)} {G : Goal 𝓤 𝓛.H} where
    pub bare_out : K → (d : Bare.Denot) (vs : List Val)
        → ((hv : Val) → vs ≡ both (ptr_val d.at) hv ∷ [] → Fits handle hv →
        Seq K 𝓛 (‵ (box_owns (g.dealloc_token d.alloc) R d.at d.value) ∷ ‵ (Z.own_val d.alloc (hv ∷ []))
        ∷ Γ) G)
        → Seq K 𝓛 (‵ (Bare.own_val d vs) ∷ Γ) G
    bare_out t d vs k =
        fsplit t $ fpick t (λ vss. fsplit t $ feq_l t
        (λ all. fsplit t $ feq_l t (λ e₀. fsplit t $ handle_tells handle t d.alloc vss.1.0
        (λ hv e₁ fits. move t (1 ∷ []) $ drop t $ move t (1 ∷ []) $
        k hv (all ∙ (λ i. vstruct (of_list (e₀ i ++ (e₁ i ++ []))) ∷ [])) fits))))

    pub bare_in : K → (d : Bare.Denot) (hv : Val)
        → Step K 𝓛 (‵ (Bare.own_val d (both (ptr_val d.at) hv ∷ [])) ∷ Γ) G
        (‵ (box_owns (g.dealloc_token d.alloc) R d.at d.value) ∷ ‵ (Z.own_val d.alloc (hv ∷ [])) ∷ Γ) G
    bare_in t d hv = step (λ s.
        let v : Val = both (ptr_val d.at) hv in
        nothing t $ move t (2 ∷ 0 ∷ []) $ fjoin t $ feq_i t (List Val) (ptr_val d.at ∷ [])
        (ptr_val d.at ∷ []) refl $ fjoin t $ feq_i t (List Val) (v ∷ []) (v ∷ []) refl $ fjoin t $
        fpack t (Valss (shape (U.the_type R Z g)).fields)
        (within (shape (U.the_type R Z g)) (d.at, (d.alloc, tt)) (v ∷ []))
        (ptr_val d.at ∷ [], (hv ∷ [], tt)) $ fjoin t $ s)
