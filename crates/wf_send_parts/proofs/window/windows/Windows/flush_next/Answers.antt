-- Proves the contract of `Windows::flush_next` from that of the one window that changes.
use Rattle.std.proofs.Common.{subst, sym, Option, Some, None}
use Rattle.std.specs.Prelude.{IfNone}
use Rattle.wf_send_parts.specs.Window.{WindowValue, WindowStandsFor}
use Rattle.wf_send_parts.proofs.Changes.{before_is, stands_now}
use Rattle.wf_send_parts.proofs.window.windows.Windows.flush_next.Goals as goal

none_then : {X : Type 0} {P Q : Type 0} (found : Option X) → (P → Q) → IfNone found P → IfNone found Q
none_then None f p = f p
none_then (Some x) f p = p

pub returns-clause-none : goal.returns-clause-none
returns-clause-none c = none_then c.flush_next.result (λ none s bodies n stands on_air low high. (
  (none s bodies n (subst (λ (w : WindowValue). WindowStandsFor w s bodies)
      (sym (before_is c.self.inside.windows.items c.args.self.now c.self.view_is c.args.station c.args.tid
      c.tid_number.result c.tid_number.ensures c.requires.within c.index_mut.result.now
      c.index_mut.ensures.value)) stands) on_air low high).0,
  stands_now c.self.inside.windows.items c.args.self.now c.self.view_is c.args.station c.args.tid
      c.tid_number.result c.tid_number.ensures c.requires.within c.index_mut.result.now
      c.index_mut.ensures.value c.flush_next.new.self s s bodies
      (λ here. (none s bodies n here on_air low high).1) stands,
)) c.flush_next.ensures.none
