-- `new` owns nothing.
use Rattle.std.proofs.Common.{[], ◌∷◌, refl, lit<}
use base.Fml.{ftrue}
use types.Kit.{‵, raw, ◌$◌, ◌∵◌, !, qed, drop, join, suffices, done}
use types.Run.{lit, and_then, no_more, returns, enter}
use types.ByLocal.{alloc_all, pass_all, free_all, look_at, sets}
use types.Part.{agg}
use denote.RawPtr.{null_ptr}
use denote.Steps.{nothing}
use denote.Triple.Entry.{on_entry}
use denote.Triple.Walked.{says, Stays, walk_of, ends_at}
use Rattle.std.proofs.raw_atomic.Walks.{proved}
use Rattle.wf_queue_parts.proofs.PointerSteps.{words, run_in}
use Rattle.wf_queue_parts.specs.declared.chain.run.Run.{Run}
use Rattle.wf_queue_parts.specs.contracts.chain.run.Run.new as f
use Rattle.wf_queue_parts.proofs.chain.run.Run.new.Statement.{statement}
use Rattle.wf_queue_parts.proofs.chain.run.Run.new.Code as code

abbrev stayed : Stays f.ended.signature.params f.ended.kept
stayed = tt

abbrev none : Run
none = record { head = null_ptr; tail = null_ptr; nodes = []; linked = ∣ (tt, tt) ∣₁ }

pub new_spec : {M : Type 1} → statement M
new_spec 𝓤 𝓛 𝓜 𝓡 wired =
    let c = f.clauses 𝓛 𝓜.mem 𝓡.returns in let W = walk_of 𝓛 f.ended stayed c in
    proved 𝓛 f.ended stayed c 𝓜 𝓡 tt f.Key.name code.function (code.unfolded 𝓤 𝓛.H 𝓜 𝓡 wired)
    (λ κs. tt) (λ κs. tt) (λ κs qs bounds a _ are.
    let y : W.Ghost = ((κs, qs, bounds, a, tt), tt) in
    qed 𝓛 (raw (on_entry 𝓛 f.signature κs qs a tt) ∷ ‵ ftrue ∷ []) ∵ drop ! $
    enter ! _ _ _ _ _ $ alloc_all ! (λ l. pass_all ! refl tt $
    sets ! (agg ! (and_then ! (lit ! tt) (and_then ! (lit ! tt) (no_more !)))) refl
    (tt, (record { fits = lit< tt }, (record { fits = lit< tt }, tt))) $
    returns ! (look_at ! 0 refl) $ free_all ! refl $ run_in ! none $
    suffices ! _ (ends_at 𝓛 f.ended stayed c y (words null_ptr null_ptr) none tt tt) $ says ! refl $
    nothing ! $ join ! $ nothing ! $ join ! $ done !))
