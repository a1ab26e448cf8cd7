-- `split_first` returns the first node's block.
use Rattle.std.proofs.Common.{◌≡◌, List, [], ◌∷◌, ◌++◌, refl, sym, ap, subst, ◌∙◌}
use mir.Val.{Val}
use base.Logic.{SProp, ent, id⊢}
use base.Fml.{ftrue}
use prog.Wp.{WpFn}
use types.Kit.{‵, raw, ◌⊛◌, ◌$◌, ◌∵◌, !, qed, move, keep, drop, split, join, fsplit, feq_l, rewrite, suffices, done}
use types.Run.{stop, fld, of_opd, no_more, and_then, returns, enter}
use types.ByLocal.{alloc_all, pass_all, free_all, look_at, get, get_in, sets}
use types.Part.{agg, sub, whole}
use contract.Monad.{fact}
use contract.Running.{tables}
use denote.Exit.{yes}
use denote.RattleType.{owns}
use denote.Memory.{lone}
use denote.Signature.{plain}
use denote.Steps.{nothing, heard}
use denote.Builtin.{RawPtr}
use denote.RawPtr.{Ptr, ptr_val}
use denote.Struct.Struct.{as_fields}
use denote.Triple.Walked.{says, Stays, stay_dropped, Goes-dropped, walk_of, ends_at}
use Rattle.core.proofs.alloc.Calls.{handle_tells}
use Rattle.std.proofs.raw_atomic.Walks.{proved_at}
use Rattle.std_alloc.proofs.RcSteps.{Ptr-Good}
use Rattle.std_heap.specs.contracts.Global.{the_row as Heap}
use Rattle.wf_queue_parts.specs.Links.{Placed, LeadsOn, IsLinked, nodes_own}
use Rattle.wf_queue_parts.proofs.Linked.{linked_had, linked_rest, leads}
use Rattle.wf_queue_parts.proofs.PointerSteps.{words, both, run_good, run_out, run_in, pair_in}
use Rattle.wf_queue_parts.proofs.Nodes.{heap, Owned, owned_in, owned_good}
use Rattle.wf_queue_parts.specs.declared.chain.run.Run.{Run}
use Rattle.wf_queue_parts.specs.contracts.chain.run.Run.{the_row as Run-row}
use Rattle.wf_queue_parts.specs.contracts.chain.run.Run.split_first as f
use Rattle.wf_queue_parts.proofs.chain.run.Run.split_first.Statement.{statement}
use Rattle.wf_queue_parts.proofs.chain.run.Run.split_first.Code as code

abbrev stayed : Stays f.ended.signature.params f.ended.kept
stayed = (
  stay_dropped (plain (λ _. Run-row)) yes,
  (stay_dropped (plain (λ _. RawPtr)) yes, (stay_dropped (plain (λ _. Heap)) yes, tt)),
)

pub split_first_spec : {M : Type 1} → statement M
split_first_spec 𝓤 𝓛 𝓜 𝓡 wired =
    let c = f.clauses 𝓛 𝓜.mem 𝓡.returns in let 𝓣 = tables 𝓤 𝓛.H 𝓜 𝓡 𝓡.env in
    proved_at 𝓛 f.ended stayed c 𝓜 𝓡 (
      Goes-dropped 𝓛 0 (plain (λ _. Run-row)) yes (λ κs x w. refl),
      (
        Goes-dropped 𝓛 0 (plain (λ _. RawPtr)) yes (λ κs x w. refl),
        (Goes-dropped 𝓛 0 (plain (λ _. Heap)) yes (λ κs x w. refl), tt),
      ),
    )
    f.Key.name code.function (code.unfolded 𝓤 𝓛.H 𝓜 𝓡 wired) (λ z are.
    let d = z.0.3.0 in let next = z.0.3.1.0 in let a = z.0.3.1.1.0 in
    let Post : Val → SProp 𝓤 = (walk_of 𝓛 f.ended stayed c).post z in
    let Goes : List Val → List Val → List Val → SProp 𝓤 =
    λ us vs ws. WpFn 𝓤 𝓛.H 𝓣.C 𝓣.Λ code.function (us ++ (vs ++ (ws ++ []))) Post in
    qed 𝓛 ((‵ ftrue ⊛ ‵ (owns (Run-row ∷ RawPtr ∷ Heap ∷ []) z.0.3 z.0.4))
    ∷ raw (fact 𝓤 (LeadsOn d.nodes next)) ∷ []) ∵ split ! $ drop ! $ fsplit ! $
    run_out ! d z.0.4.0 (λ eu. move ! (1 ∷ []) $ fsplit ! $ feq_l !
    (λ ev. fsplit ! $ handle_tells heap ! a z.0.4.1.1.0
    (λ hv ew fits. move ! (3 ∷ []) $ heard ! (LeadsOn d.nodes next) (λ says_so.
    -- [the handle; true; the nodes]
    let s = leads d.nodes next says_so in let m : Placed = s.0 in let ms : List Placed = s.1 in let p = m.0 in
    let linked : IsLinked d.head d.tail (m ∷ ms) =
    subst (IsLinked d.head d.tail) s.2 (linked_had d.head d.tail d.nodes d.linked) in
    let rest : Run = record {
      head = next;
      tail = d.tail;
      nodes = ms;
      linked =
          ∣ subst (λ (q : Ptr). IsLinked q d.tail ms) (sym s.3) (linked_rest d.head d.tail m ms linked) ∣₁;
    } in
    let out : Owned.Denot = record { at = p; alloc = a; value = m.1 } in
    let x = words p d.tail in let y = ptr_val next in let b = both (ptr_val p) hv in
    let r = words next d.tail in
    let eu' : z.0.4.0 ≡ x ∷ [] = eu ∙ ap (λ (q : Ptr). words q d.tail ∷ []) linked.0.0 in
    suffices ! (Goes (x ∷ []) (y ∷ []) (hv ∷ []))
    (subst (λ (us : List Val × List Val × List Val).
    ent 𝓤 (Goes (x ∷ []) (y ∷ []) (hv ∷ [])) (Goes us.0 us.1 us.2)) (sym (λ i. (eu' i, ev i, ew i)))
    (id⊢ 𝓤 (Goes (x ∷ []) (y ∷ []) (hv ∷ [])))) $
    move ! (2 ∷ 0 ∷ []) $ rewrite ! 0 (λ (ks : List Placed). ‵ (nodes_own ks)) s.2 refl $ fsplit ! $ move !
    (0 ∷ 2 ∷ 1 ∷ []) $
    -- [the first node's block; the handle; the other nodes; true]
    enter ! 𝓣.C 𝓣.Λ code.function (x ∷ y ∷ hv ∷ []) Post $ alloc_all !
    (λ l. pass_all ! refl (run_good p d.tail, (Ptr-Good next, (fits, tt))) $
    sets ! (of_opd ! (get_in ! (fld ! refl (stop !)) (sub ! 0 refl (whole !)))) refl (Ptr-Good p) $
    sets ! (of_opd ! (get_in ! (fld ! refl (stop !)) (sub ! 1 refl (whole !)))) refl (Ptr-Good d.tail) $
    sets ! (agg ! (and_then ! (get ! refl) (and_then ! (get ! refl) (no_more !)))) refl
    (owned_good p hv fits) $
    sets ! (agg ! (and_then ! (get ! refl) (and_then ! (get ! refl) (no_more !)))) refl
    (run_good next d.tail) $
    sets ! (agg ! (and_then ! (get ! refl) (and_then ! (get ! refl) (no_more !)))) refl
    (as_fields (lone Owned.mir ∷ lone Run-row.mir ∷ []) (b ∷ r ∷ [])
    (owned_good p hv fits, (run_good next d.tail, tt))) $
    owned_in ! out hv $ move ! (1 ∷ []) $ run_in ! rest $ move !
    (1 ∷ 0 ∷ []) $ pair_in ! Owned Run-row out rest b r $
    returns ! (look_at ! 0 refl) $ free_all ! refl $ keep ! (0 ∷ []) $
    suffices ! _ (ends_at 𝓛 f.ended stayed c z (both b r) (out, rest) (tt, (tt, (tt, tt)))
    (tt, (tt, (tt, tt)))) $ says ! s.2 $
    nothing ! $ nothing ! $ join ! $ nothing ! $ join ! $ nothing ! $ join ! $ nothing ! $ done !))))))
