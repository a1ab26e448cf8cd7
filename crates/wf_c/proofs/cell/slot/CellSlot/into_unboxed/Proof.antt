-- Proves `into_unboxed`: it returns the block that the handle owned, or none if the pointer is null.
use Rattle.std.proofs.Common.{◌≡◌, ◌∙◌, List, [], ◌∷◌, ◌++◌, refl, sym, ap, subst, lit<}
use mir.Val.{Val, vcons, vnil}
use base.Logic.{SProp, ent, id⊢}
use base.Fml.{Fml, ftrue}
use prog.Wp.{WpFn}
use types.Kit.{‵, at_ret, ◌⊛◌, ◌$◌, ◌∵◌, !, qed, keep, drop, split, join, fsplit, suffices, use0, use1, done}
use types.Run.{stop, fld, lit, of_opd, bin, no_more, and_then, first, branches, exec, returns, enter}
use types.ByLocal.{alloc_all, pass_all, free_all, look_at, get, get_in, sets, sets_last, env}
use types.Match.{live}
use types.Part.{agg, sub, whole}
use contract.Running.{tables}
use denote.Exit.{yes}
use denote.RattleType.{RattleType, owns}
use denote.Signature.{plain}
use denote.Steps.{nothing}
use denote.RawPtr.{Ptr, block_ptr, null_ptr, ptr_val, tests_null}
use denote.Triple.Walked.{says, Stays, stay_dropped, Goes-dropped, walk_of, ends_at}
use Rattle.core.proofs.option.Made.{Some-of, none_of}
use Rattle.core.specs.contracts.option.Option as option
use Rattle.std.specs.Prelude.{Option, Some, None}
use Rattle.std.proofs.raw_atomic.Walks.{proved_at}
use Rattle.std_alloc.proofs.RcSteps.{Ptr-Good}
use Rattle.std_alloc.proofs.ResultValues.{and_tt}
use Rattle.wf_c.proofs.Words.{both}
use Rattle.wf_c.specs.Slots.{slot_owns}
use Rattle.wf_c.proofs.Slots.{Owned, null_or_full, words_good, words_in, words_out}
use Rattle.wf_c.specs.declared.cell.held.HeldCell.{HeldCell as Held}
use Rattle.wf_c.specs.contracts.cell.held.HeldCell.{the_row as Held-row}
use Rattle.wf_c.specs.contracts.cell.slot.CellSlot.{the_row as Slot}
use Rattle.wf_c.specs.contracts.cell.slot.CellSlot.into_unboxed as f
use Rattle.wf_c.proofs.cell.slot.CellSlot.into_unboxed.Statement.{statement}
use Rattle.wf_c.proofs.cell.slot.CellSlot.into_unboxed.Code as code

abbrev stayed : Stays f.ended.signature.params f.ended.kept
stayed = (stay_dropped (plain (λ _. Slot)) yes, tt)

pub into_unboxed_spec : {M : Type 1} → statement M
into_unboxed_spec 𝓤 𝓛 𝓜 𝓡 wired =
    let c = f.clauses 𝓛 𝓜.mem 𝓡.returns in let 𝓣 = tables 𝓤 𝓛.H 𝓜 𝓡 𝓡.env in
    proved_at 𝓛 f.ended stayed c 𝓜 𝓡 (Goes-dropped 𝓛 0 (plain (λ _. Slot)) yes (λ κs x w. refl), tt)
    f.Key.name code.function (code.unfolded 𝓤 𝓛.H 𝓜 𝓡 wired) (λ z are.
    let d = z.0.3.0 in let p = d.at in let Owns : Option Held → Fml = slot_owns Held-row d.alloc p in
    let Out : RattleType = option.the_row (Owned Held-row) in
    let Post : Val → SProp 𝓤 = (walk_of 𝓛 f.ended stayed c).post z in
    let Goes : List Val → SProp 𝓤 = λ ws. WpFn 𝓤 𝓛.H 𝓣.C 𝓣.Λ code.function (ws ++ []) Post in
    qed 𝓛 ((‵ ftrue ⊛ ‵ (owns (Slot ∷ []) z.0.3 z.0.4)) ∷ ‵ ftrue ∷ []) ∵
    split ! $ drop ! $ fsplit ! $ words_out ! p d.alloc (Owns d.value) z.0.4.0 (λ hv e fits.
    keep ! (0 ∷ 1 ∷ []) $ null_or_full Held-row d.alloc ! p d.value
    (λ is_null is_none. drop ! $
    let w = both (ptr_val null_ptr) hv in
    let is : z.0.4.0 ≡ w ∷ [] = e ∙ ap (λ (q : Ptr). both (ptr_val q) hv ∷ []) is_null in
    suffices ! (Goes (w ∷ [])) (subst (λ (us : List Val). ent 𝓤 (Goes (w ∷ [])) (Goes us)) (sym is)
    (id⊢ 𝓤 (Goes (w ∷ [])))) $
    enter ! 𝓣.C 𝓣.Λ code.function (w ∷ []) Post $ alloc_all !
    (λ l. pass_all ! refl (words_good null_ptr hv fits, tt) $
    let En = env (code.function).locals l in
    sets ! (of_opd ! (get_in ! (fld ! refl (stop !)) (sub ! 0 refl (whole !)))) refl (Ptr-Good null_ptr) $
    sets ! (of_opd ! (get_in ! (fld ! refl (stop !)) (sub ! 1 refl (whole !)))) refl fits $
    sets ! (bin ! (get ! refl) (lit ! tt) tt) refl (tt, tt) $
    first ! $ branches ! (get ! refl)
    (λ _. sets_last ! (agg ! (and_then ! (lit ! tt) (no_more !))) refl
    (tt, (record { fits = lit< tt }, tt)) $
    exec ! 𝓣.C 𝓣.Λ En code.Mir.t-5 (at_ret En Post) $
    sets ! (of_opd ! (get ! refl)) refl (tt, (record { fits = lit< tt }, tt)) $
    returns ! (look_at ! 0 refl) $ free_all ! refl $
    suffices ! _ (ends_at 𝓛 f.ended stayed c z (live 0 vnil) None (tt, tt) (tt, tt)) $ says ! is_none $
    use0 𝓛 (‵ (Out.own_val None (live 0 vnil ∷ []))) (none_of 𝓛 (Owned Held-row)) $
    nothing ! $ nothing ! $ join ! $ nothing ! $ done !)
    (λ wrong. absurd wrong)))
    (λ b k x at_block is_full may.
    let q = block_ptr b k in let w = both (ptr_val q) hv in
    let is : z.0.4.0 ≡ w ∷ [] = e ∙ ap (λ (r : Ptr). both (ptr_val r) hv ∷ []) at_block in
    let out : (Owned Held-row).Denot = record { at = q; alloc = d.alloc; value = x } in
    let v : Val = live 1 (vcons w vnil) in
    let good = words_good q hv fits in
    suffices ! (Goes (w ∷ [])) (subst (λ (us : List Val). ent 𝓤 (Goes (w ∷ [])) (Goes us)) (sym is)
    (id⊢ 𝓤 (Goes (w ∷ [])))) $
    enter ! 𝓣.C 𝓣.Λ code.function (w ∷ []) Post $ alloc_all !
    (λ l. pass_all ! refl (good, tt) $
    let En = env (code.function).locals l in
    -- [the block; the allocator]
    sets ! (of_opd ! (get_in ! (fld ! refl (stop !)) (sub ! 0 refl (whole !)))) refl (Ptr-Good q) $
    sets ! (of_opd ! (get_in ! (fld ! refl (stop !)) (sub ! 1 refl (whole !)))) refl fits $
    sets ! (bin ! (get ! refl) (lit ! tt) (tests_null q may)) refl (tt, tt) $
    first ! $ branches ! (get ! refl) (λ wrong. absurd wrong)
    (λ _. sets ! (of_opd ! (get ! refl)) refl (Ptr-Good q) $
    sets ! (agg ! (and_then ! (get ! refl) (and_then ! (get ! refl) (no_more !)))) refl good $
    sets_last ! (agg ! (and_then ! (lit ! tt) (and_then ! (get ! refl) (no_more !)))) refl
    (and_tt _ good.0, (record { fits = lit< tt }, (good.1, tt))) $
    exec ! 𝓣.C 𝓣.Λ En code.Mir.t-5 (at_ret En Post) $
    sets ! (of_opd ! (get ! refl)) refl (and_tt _ good.0, (record { fits = lit< tt }, (good.1, tt))) $
    words_in ! q d.alloc (slot_owns Held-row d.alloc q (Some x)) hv $
    use1 𝓛 (‵ (Out.own_val (Some out) (v ∷ []))) (Some-of 𝓛 (Owned Held-row) out w) $
    returns ! (look_at ! 0 refl) $ free_all ! refl $
    suffices ! _ (ends_at 𝓛 f.ended stayed c z v (Some out) (tt, tt) (tt, tt)) $ says ! is_full $
    nothing ! $ nothing ! $ join ! $ nothing ! $ done !)))))
