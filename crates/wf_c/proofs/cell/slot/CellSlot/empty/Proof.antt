-- Proves `empty`: the pointer of an empty handle is null.
use Rattle.std.proofs.Common.{List, [], ◌∷◌, ◌++◌, refl, sym, subst}
use mir.Val.{Val}
use base.Logic.{SProp, ent, id⊢}
use base.Fml.{feq, ftrue}
use prog.Wp.{WpFn}
use types.Kit.{‵, ◌⊛◌, ◌$◌, ◌∵◌, !, qed, keep, drop, split, join, fsplit, suffices, feq_i, done}
use types.Run.{lit, no_more, and_then, returns, enter}
use types.ByLocal.{alloc_all, pass_all, free_all, look_at, get, sets}
use types.Part.{agg}
use contract.Running.{tables}
use denote.Exit.{yes}
use denote.RattleType.{owns}
use denote.Signature.{plain}
use denote.Steps.{nothing}
use denote.RawPtr.{Ptr, ptr_val, null_ptr}
use denote.Triple.Walked.{says, Stays, stay_dropped, Goes-dropped, walk_of, ends_at}
use Rattle.core.proofs.alloc.Calls.{handle_tells}
use Rattle.std.specs.Prelude.{None}
use Rattle.std.proofs.raw_atomic.Walks.{proved_at}
use Rattle.std_heap.specs.contracts.Global.{the_row as Heap}
use Rattle.wf_c.proofs.Words.{both}
use Rattle.wf_c.proofs.Slots.{heap, words_good, words_in}
use Rattle.wf_c.specs.contracts.cell.slot.CellSlot.{the_row as Slot}
use Rattle.wf_c.specs.contracts.cell.slot.CellSlot.empty as f
use Rattle.wf_c.proofs.cell.slot.CellSlot.empty.Statement.{statement}
use Rattle.wf_c.proofs.cell.slot.CellSlot.empty.Code as code

abbrev stayed : Stays f.ended.signature.params f.ended.kept
stayed = (stay_dropped (plain (λ _. Heap)) yes, tt)

pub empty_spec : {M : Type 1} → statement M
empty_spec 𝓤 𝓛 𝓜 𝓡 wired =
    let c = f.clauses 𝓛 𝓜.mem 𝓡.returns in let 𝓣 = tables 𝓤 𝓛.H 𝓜 𝓡 𝓡.env in
    proved_at 𝓛 f.ended stayed c 𝓜 𝓡 (Goes-dropped 𝓛 0 (plain (λ _. Heap)) yes (λ κs x w. refl), tt)
    f.Key.name code.function (code.unfolded 𝓤 𝓛.H 𝓜 𝓡 wired) (λ z are.
    let a = z.0.3.0 in
    let Post : Val → SProp 𝓤 = (walk_of 𝓛 f.ended stayed c).post z in
    let Goes : List Val → SProp 𝓤 = λ ws. WpFn 𝓤 𝓛.H 𝓣.C 𝓣.Λ code.function (ws ++ []) Post in
    let new : Slot.Denot = record { at = null_ptr; alloc = a; value = None } in
    qed 𝓛 ((‵ ftrue ⊛ ‵ (owns (Heap ∷ []) z.0.3 z.0.4)) ∷ ‵ ftrue ∷ []) ∵ split ! $ drop ! $ fsplit ! $
    handle_tells heap ! a z.0.4.0 (λ hv e fits. keep ! (0 ∷ []) $
    suffices ! (Goes (hv ∷ [])) (subst (λ (us : List Val). ent 𝓤 (Goes (hv ∷ [])) (Goes us)) (sym e)
    (id⊢ 𝓤 (Goes (hv ∷ [])))) $
    enter ! 𝓣.C 𝓣.Λ code.function (hv ∷ []) Post $ alloc_all ! (λ l. pass_all ! refl (fits, tt) $
    sets ! (agg ! (and_then ! (lit ! tt) (and_then ! (get ! refl) (no_more !)))) refl
    (words_good null_ptr hv fits) $
    feq_i ! Ptr null_ptr null_ptr refl $ words_in ! null_ptr a (feq Ptr null_ptr null_ptr) hv $
    returns ! (look_at ! 0 refl) $ free_all ! refl $
    suffices ! _ (ends_at 𝓛 f.ended stayed c z (both (ptr_val null_ptr) hv) new (tt, tt) (tt, tt)) $ says !
    refl $
    nothing ! $ nothing ! $ join ! $ nothing ! $ done !)))
