-- `get_mut` lends the node, and the owner ends with the last value of the loan.
use Rattle.std.proofs.Common.{◌≡◌, ◌∙◌, ℕ, [], ◌∷◌, List, refl, sym, ap}
use seplogic.Ra.Ura.{Ura}
use base.Fraction.{full_share}
use base.Logic.{SProp, ent, sep, id⊢, fst∗, never}
use base.Fml.{Fml, GName, ftrue, fsep, flft}
use mir.Raw.{raw as bare}
use mir.Syntax.{named}
use mir.Val.{Val, vptr}
use types.Logic.{Logic, sem}
use types.Kit.{‵, raw, ◌⊛◌, some, later, at_ret, ◌$◌, ◌∵◌, !, qed, move, keep, drop, use1, split, join, fsplit, fsplit3, fjoin, pick, fpack, await, group, rewrite, suffices, frame, done}
use types.Part.{whole, sub, look_in}
use types.Run.{stop, hop, fld, of_opd, addr, first, blocks, exec, returns, enter}
use types.ByLocal.{alloc_all, pass_all, free_all, look_at, get, through, sets, sets_last, env}
use contract.Running.{tables}
use denote.Exit.{no}
use denote.Follow.{follows, Part, lends_Part}
use denote.Memory.{part_at, part_of, mem, cell_at, lone}
use denote.RattleType.{owns}
use denote.RawPtr.{Ptr, ptr_val, block_ptr, null_ptr, in_a_block}
use denote.Ref.{MutRef, mut_vals, mut_Tells}
use denote.Signature.{plain, mut_ref_to}
use denote.Steps.{nothing, opens}
use denote.Triple.Walked.{says, Stays, stay_dropped, Goes-spent_ref, walk_of, ends_at}
use Rattle.std.proofs.raw_atomic.Walks.{proved}
use Rattle.std_heap.specs.contracts.Global.{the_row as Heap}
use Rattle.std_heap.specs.contracts.GlobalAllocator.TheImpl.{ghosts}
use Rattle.wf_queue_parts.specs.Links.{node_owns}
use Rattle.wf_queue_parts.specs.OwnedNode.{with_node}
use Rattle.wf_queue_parts.specs.declared.chain.node.Node.{Node}
use Rattle.wf_queue_parts.specs.contracts.chain.node.Node.{the_row as Node-row}
use Rattle.wf_queue_parts.proofs.PointerSteps.{both}
use Rattle.wf_queue_parts.proofs.Nodes.{Owned, owned_out, owned_in}
use Rattle.wf_queue_parts.specs.contracts.chain.unboxed.Unboxed+Node+Global.get_mut as f
use Rattle.wf_queue_parts.proofs.chain.unboxed.Unboxed+Node+Global.get_mut.Statement.{statement}
use Rattle.wf_queue_parts.proofs.chain.unboxed.Unboxed+Node+Global.get_mut.Code as code

abbrev stayed : Stays f.ended.signature.params f.ended.kept
stayed = (stay_dropped (mut_ref_to (0 ∷ []) tt (plain (λ _. Owned))) no, tt)

module _ {M : Type 1} {𝓤 : Ura M} (𝓛 : Logic 𝓤) (d : Owned.Denot) (hv : Val) (rb ro b o : ℕ) where
  -- all of the owner but the node
  abbrev Rest : Fml
  Rest = fsep (fsep (ghosts.dealloc_token d.alloc (bare (lone Node-row.mir)) (block_ptr b o))
      (Heap.own_val d.alloc (hv ∷ []))) (cell_at full_share Owned.mir (both (vptr b o) hv ∷ []) rb ro)

  back : d.at ≡ block_ptr b o → (w : Node) → ent 𝓤 (sep 𝓤 (sem 𝓛 ((mem Node-row).own_at w b o)) (sem 𝓛 Rest))
      (sem 𝓛 ((mem Owned).own_at (with_node d w) rb ro))
  unfolding part_of
  back e w =
      qed 𝓛 (‵ (part_at Node-row full_share w b o) ∷ ‵ Rest ∷ []) ∵ move !
      (1 ∷ []) $ fsplit ! $ fsplit ! $ move ! (3 ∷ 0 ∷ []) $ fjoin ! $
      rewrite ! 0 (λ (p : Ptr). ‵ (node_owns (p, w))) (sym e) refl $ owned_in ! (with_node d w) hv $
      rewrite ! 0 (λ (p : Ptr). ‵ (Owned.own_val (with_node d w) (both (ptr_val p) hv ∷ []))) e refl $ move !
      (1 ∷ 0 ∷ []) $ fjoin ! $
      fpack ! (List Val) (λ us. fsep (cell_at full_share Owned.mir us rb ro)
      (Owned.own_val (with_node d w) us)) (both (vptr b o) hv ∷ []) $ done !

pub get_mut_spec : {M : Type 1} → statement M
get_mut_spec 𝓤 𝓛 𝓜 𝓡 wired =
    let c = f.clauses 𝓛 𝓜.mem 𝓡.returns in let W = walk_of 𝓛 f.ended stayed c in
    let 𝓣 = tables 𝓤 𝓛.H 𝓜 𝓡 𝓡.env in
    proved 𝓛 f.ended stayed c 𝓜 𝓡 (Goes-spent_ref 𝓛 1 (0 ∷ []) tt (plain (λ _. Owned)), tt) f.Key.name
    code.function (code.unfolded 𝓤 𝓛.H 𝓜 𝓡 wired)
    (λ κs. (mut_vals, tt)) (λ κs. (mut_Tells (named 0) κs.0 Owned, tt)) (λ κs qs bounds a _ are.
    let κ = κs.0 in let q = qs.0 in let rb = a.0.ref_ptr.0 in let ro = a.0.ref_ptr.1 in
    let γ = a.0.ghost_name in let d = a.0.now in let vs = mut_vals a.0 in
    let y : W.Ghost = ((κs, qs, bounds, a, (vs, tt)), tt) in
    let Post : Val → SProp 𝓤 = W.post y in
    qed 𝓛 (((‵ (flft κ q) ⊛ ‵ ftrue) ⊛ ‵ (owns (MutRef (named 0) κ Owned ∷ []) a (vs, tt))) ∷ ‵ ftrue ∷ []) ∵
    split ! $
    enter ! 𝓣.C 𝓣.Λ code.function (vptr rb ro ∷ []) Post $ alloc_all ! (λ l. pass_all ! refl ((tt, tt), tt) $
    let En = env (code.function).locals l in
    move ! (1 ∷ []) $ fsplit ! $ fsplit3 ! $ drop ! $ move ! (3 ∷ []) $ split ! $ move ! (2 ∷ 3 ∷ 0 ∷ []) $
    opens ! tt Owned {h = d} rb ro (λ us. move ! (1 ∷ []) $ owned_out ! d us (λ hv e fits.
    in_a_block ! d.at (λ p. node_owns (p, d.value))
    (fst∗ 𝓤 (never 𝓤) (sem 𝓛 (ghosts.dealloc_token d.alloc (bare (lone Node-row.mir)) null_ptr)))
    (λ b o ep. fsplit ! $
    -- [the node; the right to free it; the handle; the owner's cell; the open borrow, in three entries]
    rewrite ! 3 (λ (ws : List Val). ‵ (cell_at full_share Owned.mir ws rb ro))
    (e ∙ ap (λ (p : Ptr). both (ptr_val p) hv ∷ []) ep) refl $
    first ! $ blocks ! $
    sets_last ! (addr ! (through ! refl (fld ! refl (hop ! (look_in ! 3 (sub ! 0 refl (whole !))) (stop !)))))
    refl (tt, tt) $
    exec ! 𝓣.C 𝓣.Λ En code.Mir.t-2 (at_ret En Post) $
    sets ! (of_opd ! (get ! refl)) refl (tt, tt) $
    move ! (1 ∷ 2 ∷ []) $ fjoin ! $ move ! (0 ∷ 2 ∷ []) $ fjoin ! $ move !
    (2 ∷ 3 ∷ 4 ∷ 1 ∷ 0 ∷ []) $ group ! 5 $
    use1 𝓛 (later (some (λ (γ' : GName). raw (Part 𝓛 Owned Node-row (with_node d) (named 0) κ q rb ro b o γ
    (sem 𝓛 (Rest 𝓛 d hv rb ro b o)) (back 𝓛 d hv rb ro b o ep) d.value γ'))))
    (lends_Part 𝓛 Owned Node-row (with_node d) (named 0) κ q rb ro b o γ (sem 𝓛 (Rest 𝓛 d hv rb ro b o))
    (back 𝓛 d hv rb ro b o ep) (Owned.coded.code d) (Owned.coded.code d) d.value) $ await ! tt $ pick !
    (λ γ'.
    returns ! (look_at ! 0 refl) $ free_all ! refl $ keep ! (0 ∷ []) $
    use1 𝓛 (‵ ((MutRef (named 0) κ Node-row).own_val
    (record { ref_ptr = (b, o); ghost_name = γ'; now = d.value }) (vptr b o ∷ [])) ⊛ ‵ (flft κ q) ⊛ ‵
    (follows Owned Node-row γ γ' (with_node d))) (id⊢ 𝓤 _) $ split ! $ move ! (1 ∷ []) $ split ! $ move !
    (2 ∷ 0 ∷ 1 ∷ []) $
    suffices ! _ (ends_at 𝓛 f.ended stayed c y (vptr b o)
    (record { ref_ptr = (b, o); ghost_name = γ'; now = d.value }) (tt, tt) (tt, tt)) $
    nothing ! $ nothing ! $ fjoin ! $ join ! $ nothing ! $ move !
    (2 ∷ 0 ∷ []) $ join ! $ join ! $ frame ! $ says ! refl $ done !))))))
