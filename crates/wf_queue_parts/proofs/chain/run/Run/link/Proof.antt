-- `link` writes the start of the second run into the last node of the first.
use Rattle.std.proofs.Common.{◌≡◌, ◌<◌, List, [], ◌∷◌, ◌++◌, length, refl, sym, ap, subst, ◌∙◌}
use mir.Val.{Val}
use mir.Raw.{raw as bare}
use base.Logic.{SProp, ent, id⊢, never, fst∗}
use base.Fml.{ftrue}
use prog.Wp.{WpFn}
use types.Logic.{sem}
use types.Kit.{‵, raw, ◌⊛◌, at_ret, ◌$◌, ◌∵◌, !, qed, move, keep, drop, use1, use2, split, join, fsplit, fjoin, rewrite, suffices, done}
use types.Run.{stop, fld, of_opd, no_more, and_then, assigns_last, first, blocks, exec, returns, enter}
use types.ByLocal.{alloc_all, pass_all, free_all, look_at, get, get_in, through, sets, env}
use types.Part.{agg, sub, whole, store_in}
use contract.Monad.{fact}
use contract.Running.{tables}
use denote.Exit.{yes}
use denote.RattleType.{owns}
use denote.Memory.{lone}
use denote.Signature.{plain}
use denote.Steps.{nothing, heard}
use denote.RawPtr.{Ptr, block_ptr, null_ptr, in_a_block}
use denote.Triple.Walked.{says, Stays, stay_dropped, Goes-dropped, walk_of, ends_at}
use Rattle.std.proofs.raw_atomic.Walks.{proved_at}
use Rattle.std_alloc.proofs.RcSteps.{Ptr-Good}
use Rattle.std_heap.specs.contracts.GlobalAllocator.TheImpl.{ghosts}
use Rattle.wf_queue_parts.specs.Links.{Placed, IsLinked, frames_of, node_owns, nodes_own}
use Rattle.wf_queue_parts.proofs.Linked.{linked_had, linked_last, linked_join, leading, uncons, unsnoc, frames_join}
use Rattle.wf_queue_parts.proofs.PointerSteps.{words, run_good, run_out, run_in, append_out, append_in, node_opens, node_closes}
use Rattle.wf_queue_parts.specs.declared.chain.run.Run.{Run}
use Rattle.wf_queue_parts.specs.contracts.chain.node.Node.{the_row as Node-row}
use Rattle.wf_queue_parts.specs.contracts.chain.run.Run.{the_row as Run-row}
use Rattle.wf_queue_parts.specs.contracts.chain.run.Run.link as f
use Rattle.wf_queue_parts.proofs.chain.run.Run.link.Statement.{statement}
use Rattle.wf_queue_parts.proofs.chain.run.Run.link.Code as code

abbrev stayed : Stays f.ended.signature.params f.ended.kept
stayed = (stay_dropped (plain (λ _. Run-row)) yes, (stay_dropped (plain (λ _. Run-row)) yes, tt))

pub link_spec : {M : Type 1} → statement M
link_spec 𝓤 𝓛 𝓜 𝓡 wired =
    let c = f.clauses 𝓛 𝓜.mem 𝓡.returns in let 𝓣 = tables 𝓤 𝓛.H 𝓜 𝓡 𝓡.env in
    let goes = Goes-dropped 𝓛 0 (plain (λ _. Run-row)) yes (λ κs x w. refl) in
    proved_at 𝓛 f.ended stayed c 𝓜 𝓡 (goes, (goes, tt)) f.Key.name code.function
    (code.unfolded 𝓤 𝓛.H 𝓜 𝓡 wired) (λ z are.
    let d = z.0.3.0 in let e = z.0.3.1.0 in
    let Post : Val → SProp 𝓤 = (walk_of 𝓛 f.ended stayed c).post z in
    let Goes : List Val → List Val → SProp 𝓤 = λ us vs.
    WpFn 𝓤 𝓛.H 𝓣.C 𝓣.Λ code.function (us ++ (vs ++ [])) Post in
    qed 𝓛 ((‵ ftrue ⊛ ‵ (owns (Run-row ∷ Run-row ∷ []) z.0.3 z.0.4))
    ∷ raw (fact 𝓤 ((0 < length d.nodes) × (0 < length e.nodes))) ∷ []) ∵ split ! $ drop ! $ fsplit ! $
    run_out ! d z.0.4.0 (λ eu. move ! (1 ∷ []) $ fsplit ! $ run_out ! e z.0.4.1.0
    (λ ev. move ! (3 ∷ []) $ heard ! ((0 < length d.nodes) × (0 < length e.nodes)) (λ some.
    let s = unsnoc d.nodes some.0 in let ns : List Placed = s.0 in let m : Placed = s.1 in
    let t = uncons e.nodes some.1 in let k : Placed = t.0 in let ks : List Placed = t.1 in
    let linked : IsLinked d.head d.tail (ns ++ m ∷ []) =
    subst (IsLinked d.head d.tail) s.2 (linked_had d.head d.tail d.nodes d.linked) in
    let behind : IsLinked e.head e.tail (k ∷ ks) =
    subst (IsLinked e.head e.tail) t.2 (linked_had e.head e.tail e.nodes e.linked) in
    let m' : Placed = leading m e.head in
    let new : Run = record {
      head = d.head;
      tail = e.tail;
      nodes = ns ++ m' ∷ k ∷ ks;
      linked =
          ∣ linked_join d.head d.tail e.head e.tail ns m k ks linked behind ∣₁;
    } in
    -- [the nodes of the second; true; the nodes of the first]
    move ! (2 ∷ 0 ∷ []) $ rewrite ! 0 (λ (l : List Placed). ‵ (nodes_own l)) s.2 refl $
    use1 𝓛 (‵ (nodes_own ns) ⊛ ‵ (nodes_own (m ∷ []))) (append_out 𝓛 ns (m ∷ [])) $ split ! $ move !
    (1 ∷ []) $ fsplit ! $
    in_a_block ! m.0 (λ q. node_owns (q, m.1)) (fst∗ 𝓤 (never 𝓤)
    (sem 𝓛 (ghosts.dealloc_token m.1.alloc (bare (lone Node-row.mir)) null_ptr))) (λ b o ep. fsplit ! $
    node_opens ! b o m.1 (λ us vs.
    -- [the last node's cell; the rest of that node; its token; true; the nodes before it; the nodes of the
    -- second; true]
    let x = words d.head (block_ptr b o) in let y = words e.head e.tail in
    let eu' : z.0.4.0 ≡ x ∷ [] = eu ∙ ap (λ (q : Ptr). words d.head q ∷ [])
    (linked_last d.head d.tail ns m linked ∙ ep) in
    suffices ! (Goes (x ∷ []) (y ∷ [])) (subst (λ (ws : List Val × List Val).
    ent 𝓤 (Goes (x ∷ []) (y ∷ [])) (Goes ws.0 ws.1)) (sym (λ i. (eu' i, ev i)))
    (id⊢ 𝓤 (Goes (x ∷ []) (y ∷ [])))) $
    enter ! 𝓣.C 𝓣.Λ code.function (x ∷ y ∷ []) Post $ alloc_all !
    (λ l. pass_all ! refl (run_good d.head (block_ptr b o), (run_good e.head e.tail, tt)) $
    let En = env (code.function).locals l in
    sets ! (of_opd ! (get_in ! (fld ! refl (stop !)) (sub ! 0 refl (whole !)))) refl (Ptr-Good d.head) $
    sets ! (of_opd ! (get_in ! (fld ! refl (stop !)) (sub ! 1 refl (whole !)))) refl (tt, tt) $
    sets ! (of_opd ! (get_in ! (fld ! refl (stop !)) (sub ! 0 refl (whole !)))) refl (Ptr-Good e.head) $
    sets ! (of_opd ! (get_in ! (fld ! refl (stop !)) (sub ! 1 refl (whole !)))) refl (Ptr-Good e.tail) $
    first ! $ blocks ! $ assigns_last ! (of_opd ! (get ! refl)) (through ! refl (fld ! refl (stop !)))
    (store_in ! 0 (sub ! 0 refl (whole !)) (Ptr-Good e.head)) $
    exec ! 𝓣.C 𝓣.Λ En code.Mir.t-6 (at_ret En Post) $
    sets ! (agg ! (and_then ! (get ! refl) (and_then ! (get ! refl) (no_more !)))) refl
    (run_good d.head e.tail) $
    node_closes ! b o m'.1 us vs $ move ! (0 ∷ 1 ∷ []) $ fjoin ! $ rewrite ! 0
    (λ (q : Ptr). ‵ (node_owns (q, m'.1))) (sym ep) refl $
    -- [the last node; true; the nodes before it; the nodes of the second; true]
    move ! (0 ∷ 3 ∷ []) $ fjoin ! $ move ! (2 ∷ 0 ∷ []) $ use2 𝓛 (‵ (nodes_own (ns ++ m' ∷ e.nodes)))
    (append_in 𝓛 ns (m' ∷ e.nodes)) $
    rewrite ! 0 (λ (l : List Placed). ‵ (nodes_own (ns ++ m' ∷ l))) t.2 refl $ run_in ! new $
    returns ! (look_at ! 0 refl) $ free_all ! refl $ keep ! (0 ∷ []) $
    suffices ! _ (ends_at 𝓛 f.ended stayed c z (words d.head e.tail) new (tt, (tt, tt)) (tt, (tt, tt))) $
    says ! (frames_join e.head ns m (k ∷ ks) ∙ (λ i. frames_of (sym s.2 i) ++ frames_of (sym t.2 i))) $
    nothing ! $ nothing ! $ join ! $ nothing ! $ join ! $ nothing ! $ done !)))))))
