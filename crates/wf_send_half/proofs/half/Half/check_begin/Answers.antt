-- Proves what `Half::check_begin` promises: each test is one row of the world's refusals of a Begin. By cases
-- of the first test that fails.
use Rattle.std.proofs.Common.{◌∙◌, sym, ap, refl, not, ◌≡◌, ◌==◌, ◌&&◌, ℕ, nat_lt, Some, None, if◌then◌else◌}
use Rattle.std.specs.Prelude.{count_by}
use Rattle.std.proofs.lemmas.Result.{err_from_is_err_and}
use Rattle.wf_frame.specs.declared.notes.Refusal.TheVariants.{Open, Waits}
use Rattle.wf_def_world.specs.Refusals.{open_of_tid}
use Rattle.wf_send_parts.specs.Window.{WindowValue, waits}
use Rattle.wf_send_parts.specs.Windows.{window_of}
use Rattle.wf_send_half_model.specs.Half.{TransmitValue}
use Rattle.wf_send_half.proofs.Rows.{row_refuses, row_passes, last_row, out_of_range, in_range, not_there, there, live_of, held_row, open_row, waits_row, told_row_refuses, told_row_passes}
use Rattle.wf_send_half.proofs.half.Half.check_begin.Goals as goal

pub returns-in_err-in_range-clause-refused : goal.returns-in_err-in_range-clause-refused
returns-in_err-in_range-clause-refused c w bodies h =
    let p = err_from_is_err_and c.from_residual.result
    c.from_residual.ensures.1 in rw (p.1, p.2)
    (out_of_range c.args.self.now w bodies h c.args.station _ _ c.in_err-in_range.ensures.refused)

pub returns-in_err-check_tid-clause-refused : goal.returns-in_err-check_tid-clause-refused
returns-in_err-check_tid-clause-refused c w bodies h =
    let p = err_from_is_err_and c.from_residual-in_err-check_tid.result
    c.from_residual-in_err-check_tid.ensures.1 in rw (p.1, p.2)
    (row_refuses _ _ _ _ _ refl c.in_err-check_tid.ensures.refused
    ∙ sym (in_range c.args.self.now w bodies h c.args.station _ c.in_ok-in_range.ensures.refused))

pub returns-in_err-check_window-clause-refused : goal.returns-in_err-check_window-clause-refused
returns-in_err-check_window-clause-refused c w bodies h =
    let p = err_from_is_err_and c.from_residual-in_err-check_window.result
    c.from_residual-in_err-check_window.ensures.1 in rw (p.1, p.2)
    (row_refuses _ _ _ _ _ refl c.in_err-check_window.ensures.refused
    ∙ sym (row_passes _ _ _ _ refl c.in_ok-check_tid.ensures.refused)
    ∙ sym (in_range c.args.self.now w bodies h c.args.station _ c.in_ok-in_range.ensures.refused))

pub returns-in_err-live-clause-refused : goal.returns-in_err-live-clause-refused
returns-in_err-live-clause-refused c w bodies h =
    let p = err_from_is_err_and c.from_residual-in_err-live.result
    c.from_residual-in_err-live.ensures.1 in rw (p.1, p.2)
    (not_there c.args.self.now w bodies h c.args.station _ _ c.in_err-live.ensures.refused
    ∙ sym (row_passes _ _ _ _ refl c.in_ok-check_window.ensures.refused)
    ∙ sym (row_passes _ _ _ _ refl c.in_ok-check_tid.ensures.refused)
    ∙ sym (in_range c.args.self.now w bodies h c.args.station _ c.in_ok-in_range.ensures.refused))

pub returns-in_err-held-clause-refused : goal.returns-in_err-held-clause-refused
returns-in_err-held-clause-refused c w bodies h =
    let p = err_from_is_err_and c.from_residual-in_err-held.result
    c.from_residual-in_err-held.ensures.1 in rw (p.1, p.2)
    (row_refuses _ _ _ _ _ (ap not (held_row c.args.self.now w bodies h c.args.station c.args.tid
    (live_of c.args.self.now w bodies h c.args.station c.in_ok-live.ensures.live)
    c.in_ok-check_tid.ensures.within))
    c.in_err-held.ensures
    ∙ sym (there c.args.self.now w bodies h c.args.station _ c.in_ok-live.ensures.refused)
    ∙ sym (row_passes _ _ _ _ refl c.in_ok-check_window.ensures.refused)
    ∙ sym (row_passes _ _ _ _ refl c.in_ok-check_tid.ensures.refused)
    ∙ sym (in_range c.args.self.now w bodies h c.args.station _ c.in_ok-in_range.ensures.refused))

pub returns-in_err-refuse_where-clause-refused : goal.returns-in_err-refuse_where-clause-refused
returns-in_err-refuse_where-clause-refused c w bodies h =
    let p = err_from_is_err_and c.from_residual-in_err-refuse_where.result
    c.from_residual-in_err-refuse_where.ensures.1 in
    let opened : open_of_tid w c.args.station c.args.tid ≡ c.of_tid-count.result =
    open_row c.args.self.now w bodies h c.args.station c.args.tid
    ∙ sym (c.of_tid-count.ensures ∙ ap (λ (v : TransmitValue).
    count_by (λ x. (x.station == c.args.station) && (x.tid == c.args.tid)) v.opened) c.self.view_is) in rw
    (p.1, p.2)
    (told_row_refuses Open _ _ _ _ opened c.in_err-refuse_where.ensures.refused
    ∙ sym (row_passes _ _ _ _ (ap not (held_row c.args.self.now w bodies h c.args.station c.args.tid
    (live_of c.args.self.now w bodies h c.args.station c.in_ok-live.ensures.live)
    c.in_ok-check_tid.ensures.within))
    c.in_ok-held.ensures)
    ∙ sym (there c.args.self.now w bodies h c.args.station _ c.in_ok-live.ensures.refused)
    ∙ sym (row_passes _ _ _ _ refl c.in_ok-check_window.ensures.refused)
    ∙ sym (row_passes _ _ _ _ refl c.in_ok-check_tid.ensures.refused)
    ∙ sym (in_range c.args.self.now w bodies h c.args.station _ c.in_ok-in_range.ensures.refused))

pub returns-clause-refused : goal.returns-clause-refused
returns-clause-refused c w bodies h =
    let opened : open_of_tid w c.args.station c.args.tid ≡ c.of_tid-count.result =
    open_row c.args.self.now w bodies h c.args.station c.args.tid
    ∙ sym (c.of_tid-count.ensures ∙ ap (λ (v : TransmitValue).
    count_by (λ x. (x.station == c.args.station) && (x.tid == c.args.tid)) v.opened) c.self.view_is) in
    c.refuse_where-2.ensures.refused
    ∙ ap (λ (n : ℕ). if nat_lt 0 n then Some (Waits n) else None)
    (c.waiting_count-count.ensures.shown
    ∙ ap (λ (z : WindowValue). count_by waits z.places) c.at.ensures
    ∙ ap (λ (v : TransmitValue). count_by waits (window_of v.windows c.args.station c.args.tid).places)
    c.self.view_is
    ∙ sym (waits_row c.args.self.now w bodies h c.args.station c.args.tid
    (live_of c.args.self.now w bodies h c.args.station c.in_ok-live.ensures.live)
    c.in_ok-check_tid.ensures.within))
    ∙ last_row _ _ _ refl
    ∙ sym (told_row_passes Open _ _ _ opened c.in_ok-refuse_where.ensures.refused)
    ∙ sym (row_passes _ _ _ _ (ap not (held_row c.args.self.now w bodies h c.args.station c.args.tid
    (live_of c.args.self.now w bodies h c.args.station c.in_ok-live.ensures.live)
    c.in_ok-check_tid.ensures.within))
    c.in_ok-held.ensures)
    ∙ sym (there c.args.self.now w bodies h c.args.station _ c.in_ok-live.ensures.refused)
    ∙ sym (row_passes _ _ _ _ refl c.in_ok-check_window.ensures.refused)
    ∙ sym (row_passes _ _ _ _ refl c.in_ok-check_tid.ensures.refused)
    ∙ sym (in_range c.args.self.now w bodies h c.args.station _ c.in_ok-in_range.ensures.refused)
