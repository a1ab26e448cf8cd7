-- `first` reads through a `&`.
use Rattle.std.proofs.Common.{◌<◌, ◌+◌, ℕ, List, [], ◌∷◌, length, refl, sym, subst}
use seplogic.Ra.Ura.{Ura}
use mir.Syntax.{named}
use mir.Val.{Val, vptr}
use base.Logic.{SProp, ent, sep}
use base.Fml.{Lft, ftrue, fhide, flft}
use types.Logic.{Logic, sem}
use types.Kit.{‵, raw, ◌⊛◌, at_ret, ◌$◌, ◌∵◌, !, qed, move, keep, drop, use1, split, join, fsplit, fjoin, feq_i, rewrite, suffices, frame, done}
use types.Run.{look, stop, hop, fld, of_opd, addr, first, blocks, exec, returns, enter}
use types.ByLocal.{alloc_all, pass_all, free_all, look_at, get, through, sets, sets_last, env}
use contract.Monad.{fact}
use contract.Running.{tables}
use denote.Exit.{yes}
use denote.RattleType.{RattleType, RowLaws, owns}
use denote.Memory.{hidden_shr}
use denote.Opens.{shr_dup, unhide, hide}
use denote.RawPtr.{Ptr, RawPtr, block_of, count_of, InBlock, ptr_row_laws}
use denote.Ref.{ShrRef, shr_vals, shr_Tells}
use denote.Signature.{plain}
use denote.Steps.{heard, nothing}
use denote.Struct.Struct.{Struct, Struct-row_laws}
use denote.Struct.Owning.{shape}
use denote.Struct.Lending.{lent_at, in_block_says, lent_out}
use denote.Triple.Walked.{says, Stays, stay_none_ref, Goes-none_ref, walk_of, ends_at}
use Rattle.std.proofs.raw_atomic.Walks.{proved}
use Rattle.std_alloc.proofs.Words.{pointer_in, pointer_out}
use Rattle.wf_queue_parts.specs.Links.{Placed, IsFirst, IsLinked, first_lent}
use Rattle.wf_queue_parts.proofs.Linked.{linked_had, uncons}
use Rattle.wf_queue_parts.specs.declared.chain.run.Run.{Run}
use Rattle.wf_queue_parts.specs.contracts.chain.node.Node.{the_row as Node-row}
use Rattle.wf_queue_parts.specs.contracts.chain.run.Run as C
use Rattle.wf_queue_parts.proofs.chain.run.Run.TheLaws.{the_row_laws}
use Rattle.wf_queue_parts.specs.contracts.chain.run.Run.first as f
use Rattle.wf_queue_parts.proofs.chain.run.Run.first.Statement.{statement}
use Rattle.wf_queue_parts.proofs.chain.run.Run.first.Code as code

abbrev stayed : Stays f.ended.signature.params f.ended.kept
stayed = (stay_none_ref (0 ∷ []) tt (plain (λ _. C.the_row)) yes, tt)

-- the two words of a run
abbrev Words : RattleType
Words = Struct (shape C.the_type)

words_laws : RowLaws Words
words_laws = Struct-row_laws (shape C.the_type) (ptr_row_laws, (ptr_row_laws, tt))

abbrev fields : Run → Words.Denot
fields d = (d.head, (d.tail, tt))

shows_head : {M : Type 1} {𝓤 : Ura M} (𝓛 : Logic 𝓤) (κ : Lft) (b o : ℕ) (d : Run)
    → ent 𝓤 (sem 𝓛 (hidden_shr Words κ (fields d) b o))
    (sep 𝓤 (sem 𝓛 (hidden_shr RawPtr κ d.head b (o + 0))) (sem 𝓛 (hidden_shr Words κ (fields d) b o)))
shows_head 𝓛 κ b o d = qed 𝓛 (‵ (hidden_shr Words κ (fields d) b o) ∷ []) ∵ shr_dup ! Words words_laws
    (fields d) b o κ $ unhide ! $ fsplit ! $ fsplit ! $ hide ! $ keep ! (0 ∷ 3 ∷ []) $ done !

pub first_spec : {M : Type 1} → statement M
first_spec 𝓤 𝓛 𝓜 𝓡 wired =
    let c = f.clauses 𝓛 𝓜.mem 𝓡.returns in let W = walk_of 𝓛 f.ended stayed c in
    let 𝓣 = tables 𝓤 𝓛.H 𝓜 𝓡 𝓡.env in
    proved 𝓛 f.ended stayed c 𝓜 𝓡 (Goes-none_ref 𝓛 1 (0 ∷ []) tt (plain (λ _. C.the_row)) yes, tt) f.Key.name
    code.function (code.unfolded 𝓤 𝓛.H 𝓜 𝓡 wired)
    (λ κs. (shr_vals, tt)) (λ κs. (shr_Tells (named 0) κs.0 C.the_row, tt)) (λ κs qs bounds a _ are.
    let κ = κs.0 in let q = qs.0 in let b = a.0.ref_ptr.0 in let o = a.0.ref_ptr.1 in let d = a.0.now in
    let y : W.Ghost = ((κs, qs, bounds, a, (vptr b o ∷ [], tt)), tt) in
    let Post : Val → SProp 𝓤 = W.post y in
    let at : ℕ × ℕ = (block_of d.head, count_of d.head) in
    qed 𝓛 (((‵ (flft κ q) ⊛ ‵ ftrue) ⊛ ‵ (owns (ShrRef (named 0) κ C.the_row ∷ []) a (vptr b o ∷ [], tt)))
    ∷ raw (fact 𝓤 (0 < length d.nodes)) ∷ []) ∵ move ! (1 ∷ []) $ heard ! (0 < length d.nodes)
    (λ some. split ! $
    let t = uncons d.nodes some in let n : Placed = t.0 in let ns : List Placed = t.1 in
    let linked : IsLinked d.head d.tail (n ∷ ns) =
    subst (IsLinked d.head d.tail) t.2 (linked_had d.head d.tail d.nodes d.linked) in
    enter ! 𝓣.C 𝓣.Λ code.function (vptr b o ∷ []) Post $ alloc_all ! (λ l. pass_all ! refl ((tt, tt), tt) $
    let En = env (code.function).locals l in
    move ! (1 ∷ []) $ fsplit ! $ fsplit ! $ drop ! $ shr_dup ! C.the_row the_row_laws.shr_laws d b o κ $
    use1 𝓛 (‵ (hidden_shr Words κ (fields d) b o) ⊛ ‵ (fhide (first_lent d.nodes κ)))
    (lent_out 𝓛 C.struct C.the_codes C.the_heap C.the_lent κ d b o) $ split ! $ move ! (1 ∷ []) $
    rewrite ! 0 (λ (ks : List Placed). ‵ (fhide (first_lent ks κ))) t.2 refl $ rewrite ! 0
    (λ (p : Ptr). ‵ (fhide (lent_at Node-row p n.1 κ))) (sym linked.0.0) refl $
    unhide ! $ fsplit ! $ use1 𝓛 (raw (fact 𝓤 (InBlock d.head))) (in_block_says 𝓛 d.head) $ heard !
    (InBlock d.head) (λ inb. hide ! $
    -- [a `&` to the node; to the words; to the run; true; the token and true]
    move ! (4 ∷ []) $ split ! $ move ! (3 ∷ 0 ∷ 2 ∷ 4 ∷ []) $
    first ! $ blocks ! $ pointer_in ! tt d.head inb b (o + 0) (shows_head 𝓛 κ b o d) (λ q'.
    sets_last ! (addr ! (through ! refl (fld ! refl (hop ! (look ! 1 refl) (stop !))))) refl (tt, tt) $
    exec ! 𝓣.C 𝓣.Λ En code.Mir.t-2 (at_ret En Post) $ pointer_out ! tt d.head inb b (o + 0) $
    sets ! (of_opd ! (get ! refl)) refl (tt, tt) $
    returns ! (look_at ! 0 refl) $ free_all ! refl $ keep ! (0 ∷ 3 ∷ 2 ∷ []) $
    suffices ! _ (ends_at 𝓛 f.ended stayed c y (vptr at.0 at.1) (record { ref_ptr = at; now = n.1 }) (tt, tt)
    (tt, tt)) $ says ! (subst (λ (ks : List Placed). IsFirst ks n.1) (sym t.2) refl) $
    nothing ! $ move ! (1 ∷ 0 ∷ []) $ join ! $ frame ! $ feq_i ! (List Val) (vptr b o ∷ [])
    (vptr b o ∷ []) refl $ fjoin ! $ nothing ! $ move ! (1 ∷ 0 ∷ []) $ fjoin ! $ frame ! $
    feq_i ! (List Val) (vptr at.0 at.1 ∷ []) (vptr at.0 at.1 ∷ []) refl $ fjoin ! $ done !)))))
