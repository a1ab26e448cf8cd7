-- `get` reads through a `&`.
use Rattle.std.proofs.Common.{◌+◌, ℕ, [], ◌∷◌, List, refl}
use seplogic.Ra.Ura.{Ura}
use mir.Syntax.{named}
use mir.Val.{Val, vptr}
use base.Logic.{SProp, ent, sep}
use base.Fml.{Lft, ftrue, flft}
use types.Logic.{Logic, sem}
use types.Kit.{‵, raw, ◌⊛◌, at_ret, ◌$◌, ◌∵◌, !, qed, move, keep, drop, use1, split, join, fsplit, fjoin, feq_i, suffices, frame, done}
use types.Run.{look, stop, hop, fld, of_opd, addr, first, blocks, exec, returns, enter}
use types.ByLocal.{alloc_all, pass_all, free_all, look_at, get, through, sets, sets_last, env}
use contract.Monad.{fact}
use contract.Running.{tables}
use denote.Exit.{yes}
use denote.RattleType.{RattleType, RowLaws, owns}
use denote.Memory.{hidden_shr}
use denote.Opens.{shr_dup, unhide, hide}
use denote.RawPtr.{RawPtr, block_of, count_of, InBlock, ptr_row_laws}
use denote.Ref.{ShrRef, shr_vals, shr_Tells}
use denote.Signature.{plain}
use denote.Steps.{heard, nothing}
use denote.Struct.Struct.{Struct, Struct-row_laws}
use denote.Struct.Owning.{shape}
use denote.Struct.Lending.{lent_at, in_block_says, lent_out}
use base.Fml.{fhide}
use denote.Triple.Walked.{says, Stays, stay_none_ref, Goes-none_ref, walk_of, ends_at}
use Rattle.std.proofs.raw_atomic.Walks.{proved}
use Rattle.std_alloc.proofs.Words.{pointer_in, pointer_out}
use Rattle.std_heap.specs.contracts.Global.{the_row as Heap}
use Rattle.std_heap.proofs.Global.TheLaws.{the_row_laws as Heap-laws}
use Rattle.std_heap.specs.contracts.GlobalAllocator.TheImpl.{ghosts}
use Rattle.wf_queue_parts.specs.contracts.chain.node.Node.{the_row as Node-row}
use Rattle.wf_queue_parts.proofs.chain.node.Node.TheLaws.{the_row_laws as Node-laws}
use Rattle.wf_queue_parts.specs.contracts.chain.unboxed.Unboxed as U
use Rattle.wf_queue_parts.proofs.chain.unboxed.Unboxed.TheLaws.{the_row_laws}
use Rattle.wf_queue_parts.proofs.Nodes.{Owned}
use Rattle.wf_queue_parts.specs.contracts.chain.unboxed.Unboxed+Node+Global.get as f
use Rattle.wf_queue_parts.proofs.chain.unboxed.Unboxed+Node+Global.get.Statement.{statement}
use Rattle.wf_queue_parts.proofs.chain.unboxed.Unboxed+Node+Global.get.Code as code

abbrev stayed : Stays f.ended.signature.params f.ended.kept
stayed = (stay_none_ref (0 ∷ []) tt (plain (λ _. Owned)) yes, tt)

-- the two words of an owned node
abbrev Words : RattleType
Words = Struct (shape (U.the_type Node-row Heap ghosts))

words_laws : RowLaws Words
words_laws = Struct-row_laws (shape (U.the_type Node-row Heap ghosts))
    (ptr_row_laws, (Heap-laws.shr_laws, tt))

abbrev fields : Owned.Denot → Words.Denot
fields d = (d.at, (d.alloc, tt))

shows_at : {M : Type 1} {𝓤 : Ura M} (𝓛 : Logic 𝓤) (κ : Lft) (b o : ℕ) (d : Owned.Denot)
    → ent 𝓤 (sem 𝓛 (hidden_shr Words κ (fields d) b o))
    (sep 𝓤 (sem 𝓛 (hidden_shr RawPtr κ d.at b (o + 0))) (sem 𝓛 (hidden_shr Words κ (fields d) b o)))
shows_at 𝓛 κ b o d = qed 𝓛 (‵ (hidden_shr Words κ (fields d) b o) ∷ []) ∵ shr_dup ! Words words_laws
    (fields d) b o κ $ unhide ! $ fsplit ! $ fsplit ! $ hide ! $ keep ! (0 ∷ 3 ∷ []) $ done !

pub get_spec : {M : Type 1} → statement M
get_spec 𝓤 𝓛 𝓜 𝓡 wired =
    let c = f.clauses 𝓛 𝓜.mem 𝓡.returns in let W = walk_of 𝓛 f.ended stayed c in
    let 𝓣 = tables 𝓤 𝓛.H 𝓜 𝓡 𝓡.env in
    proved 𝓛 f.ended stayed c 𝓜 𝓡 (Goes-none_ref 𝓛 1 (0 ∷ []) tt (plain (λ _. Owned)) yes, tt) f.Key.name
    code.function (code.unfolded 𝓤 𝓛.H 𝓜 𝓡 wired)
    (λ κs. (shr_vals, tt)) (λ κs. (shr_Tells (named 0) κs.0 Owned, tt)) (λ κs qs bounds a _ are.
    let κ = κs.0 in let q = qs.0 in let b = a.0.ref_ptr.0 in let o = a.0.ref_ptr.1 in let d = a.0.now in
    let y : W.Ghost = ((κs, qs, bounds, a, (vptr b o ∷ [], tt)), tt) in
    let Post : Val → SProp 𝓤 = W.post y in
    let at : ℕ × ℕ = (block_of d.at, count_of d.at) in
    qed 𝓛 (((‵ (flft κ q) ⊛ ‵ ftrue) ⊛ ‵ (owns (ShrRef (named 0) κ Owned ∷ []) a (vptr b o ∷ [], tt)))
    ∷ ‵ ftrue ∷ []) ∵ split ! $
    enter ! 𝓣.C 𝓣.Λ code.function (vptr b o ∷ []) Post $ alloc_all ! (λ l. pass_all ! refl ((tt, tt), tt) $
    let En = env (code.function).locals l in
    move ! (1 ∷ []) $ fsplit ! $ fsplit ! $ drop ! $ shr_dup ! Owned
    (the_row_laws Node-row Heap ghosts Node-laws Heap-laws).shr_laws d b o κ $
    use1 𝓛 (‵ (hidden_shr Words κ (fields d) b o) ⊛ ‵ (fhide (lent_at Node-row d.at d.value κ)))
    (lent_out 𝓛 (U.struct Node-row Heap ghosts) (U.the_codes Node-row.Denot Heap.Denot Node-row.coded
    Heap.coded) (U.the_heap Node-row Heap ghosts) (U.the_lent Node-row Heap ghosts) κ d b o) $ split ! $
    move ! (1 ∷ []) $
    unhide ! $ fsplit ! $ use1 𝓛 (raw (fact 𝓤 (InBlock d.at))) (in_block_says 𝓛 d.at) $ heard ! (InBlock d.at)
    (λ inb. hide ! $
    -- [a `&` to the node; to the words; to the owner; true; the token and true]
    move ! (4 ∷ []) $ split ! $ move ! (3 ∷ 0 ∷ 2 ∷ 4 ∷ []) $
    first ! $ blocks ! $ pointer_in ! tt d.at inb b (o + 0) (shows_at 𝓛 κ b o d) (λ q'.
    sets_last ! (addr ! (through ! refl (fld ! refl (hop ! (look ! 1 refl) (stop !))))) refl (tt, tt) $
    exec ! 𝓣.C 𝓣.Λ En code.Mir.t-2 (at_ret En Post) $ pointer_out ! tt d.at inb b (o + 0) $
    sets ! (of_opd ! (get ! refl)) refl (tt, tt) $
    returns ! (look_at ! 0 refl) $ free_all ! refl $ keep ! (0 ∷ 3 ∷ 2 ∷ []) $
    suffices ! _ (ends_at 𝓛 f.ended stayed c y (vptr at.0 at.1) (record { ref_ptr = at; now = d.value })
    (tt, tt) (tt, tt)) $ says ! refl $
    nothing ! $ move ! (1 ∷ 0 ∷ []) $ join ! $ frame ! $ feq_i ! (List Val) (vptr b o ∷ [])
    (vptr b o ∷ []) refl $ fjoin ! $ nothing ! $ move ! (1 ∷ 0 ∷ []) $ fjoin ! $ frame ! $
    feq_i ! (List Val) (vptr at.0 at.1 ∷ []) (vptr at.0 at.1 ∷ []) refl $ fjoin ! $ done !))))
