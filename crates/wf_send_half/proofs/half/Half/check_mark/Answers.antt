-- Proves what `Half::check_mark` promises: the tests are the world's, for the exchange's number, the index of
-- the transmission, and its marks. By cases of the first test that fails.
use Rattle.std.proofs.Common.{◌==◌, ◌∙◌, ap, ap₂, sym, ℕ}
use Rattle.std.proofs.lemmas.Result.{err_from_is_err_and}
use Rattle.std.specs.Prelude.{find, nat_le}
use Rattle.wf_send_parts.specs.declared.exchanges.opened.Open.{Open}
use Rattle.wf_send_parts.specs.Exchanges.{has_mark}
use Rattle.wf_send_half_model.specs.Half.{TransmitValue}
use Rattle.wf_send_half.proofs.Marked.{judged, unsent_unknown, give_up_unknown, unsent_judged, give_up_judged, no_such, has_one}
use Rattle.wf_send_half.proofs.half.Half.check_mark.Goals as goal

-- no exchange has the number

pub returns-in_default-clause-unsent : goal.returns-in_default-clause-unsent
returns-in_default-clause-unsent c w bodies h untold =
    unsent_unknown c.args.self.now w bodies h c.args.exchange c.args.index
    (c.in_default.ensures ∙ ap (λ (z : TransmitValue).
    find (λ (k : Open). k.number == c.args.exchange) z.opened) c.self.view_is)

pub returns-in_default-clause-give_up : goal.returns-in_default-clause-give_up
returns-in_default-clause-give_up c w bodies h =
    give_up_unknown c.args.self.now w bodies h c.args.exchange c.args.index
    (c.in_default.ensures ∙ ap (λ (z : TransmitValue).
    find (λ (k : Open). k.number == c.args.exchange) z.opened) c.self.view_is)

-- it has no transmission with this index

pub returns-in_err-refuse_where-clause-unsent : goal.returns-in_err-refuse_where-clause-unsent
returns-in_err-refuse_where-clause-unsent c w bodies h untold =
    let p = err_from_is_err_and c.from_residual.result c.from_residual.ensures.1 in rw (p.1, p.2)
    (no_such _ (has_mark c.in-Some.open.now c.args.index) _ c.in_err-refuse_where.ensures.refused
    ∙ ap (λ (n : ℕ). judged (nat_le n c.args.index) (has_mark c.in-Some.open.now c.args.index))
    c.count.ensures.count
    ∙ sym (unsent_judged c.args.self.now w bodies h c.args.exchange c.args.index c.in-Some.open.now
    (c.in-Some.ensures ∙ ap (λ (z : TransmitValue).
    find (λ (k : Open). k.number == c.args.exchange) z.opened) c.self.view_is) untold))

pub returns-in_err-refuse_where-clause-give_up : goal.returns-in_err-refuse_where-clause-give_up
returns-in_err-refuse_where-clause-give_up c w bodies h =
    let p = err_from_is_err_and c.from_residual.result c.from_residual.ensures.1 in rw (p.1, p.2)
    (no_such _ (has_mark c.in-Some.open.now c.args.index) _ c.in_err-refuse_where.ensures.refused
    ∙ ap (λ (n : ℕ). judged (nat_le n c.args.index) (has_mark c.in-Some.open.now c.args.index))
    c.count.ensures.count
    ∙ sym (give_up_judged c.args.self.now w bodies h c.args.exchange c.args.index c.in-Some.open.now
    (c.in-Some.ensures ∙ ap (λ (z : TransmitValue).
    find (λ (k : Open). k.number == c.args.exchange) z.opened) c.self.view_is)))

-- the transmission has a mark

pub returns-in_err-refuse_where-2-clause-unsent : goal.returns-in_err-refuse_where-2-clause-unsent
returns-in_err-refuse_where-2-clause-unsent c w bodies h untold =
    let p = err_from_is_err_and c.from_residual-in_err-refuse_where-2.result
    c.from_residual-in_err-refuse_where-2.ensures.1 in rw (p.1, p.2)
    (has_one _ _ _ c.in_ok-refuse_where.ensures.refused c.in_err-refuse_where-2.ensures.refused
    ∙ ap₂ judged (ap (λ (n : ℕ). nat_le n c.args.index) c.count.ensures.count) c.is_marked.ensures
    ∙ sym (unsent_judged c.args.self.now w bodies h c.args.exchange c.args.index c.in-Some.open.now
    (c.in-Some.ensures ∙ ap (λ (z : TransmitValue).
    find (λ (k : Open). k.number == c.args.exchange) z.opened) c.self.view_is) untold))

pub returns-in_err-refuse_where-2-clause-give_up : goal.returns-in_err-refuse_where-2-clause-give_up
returns-in_err-refuse_where-2-clause-give_up c w bodies h =
    let p = err_from_is_err_and c.from_residual-in_err-refuse_where-2.result
    c.from_residual-in_err-refuse_where-2.ensures.1 in rw (p.1, p.2)
    (has_one _ _ _ c.in_ok-refuse_where.ensures.refused c.in_err-refuse_where-2.ensures.refused
    ∙ ap₂ judged (ap (λ (n : ℕ). nat_le n c.args.index) c.count.ensures.count) c.is_marked.ensures
    ∙ sym (give_up_judged c.args.self.now w bodies h c.args.exchange c.args.index c.in-Some.open.now
    (c.in-Some.ensures ∙ ap (λ (z : TransmitValue).
    find (λ (k : Open). k.number == c.args.exchange) z.opened) c.self.view_is)))

-- it may be marked

pub returns-clause-unsent : goal.returns-clause-unsent
returns-clause-unsent c w bodies h untold =
    has_one _ _ _ c.in_ok-refuse_where.ensures.refused c.in_ok-refuse_where-2.ensures.refused
    ∙ ap₂ judged (ap (λ (n : ℕ). nat_le n c.args.index) c.count.ensures.count) c.is_marked.ensures
    ∙ sym (unsent_judged c.args.self.now w bodies h c.args.exchange c.args.index c.in-Some.open.now
    (c.in-Some.ensures ∙ ap (λ (z : TransmitValue).
    find (λ (k : Open). k.number == c.args.exchange) z.opened) c.self.view_is) untold)

pub returns-clause-give_up : goal.returns-clause-give_up
returns-clause-give_up c w bodies h =
    has_one _ _ _ c.in_ok-refuse_where.ensures.refused c.in_ok-refuse_where-2.ensures.refused
    ∙ ap₂ judged (ap (λ (n : ℕ). nat_le n c.args.index) c.count.ensures.count) c.is_marked.ensures
    ∙ sym (give_up_judged c.args.self.now w bodies h c.args.exchange c.args.index c.in-Some.open.now
    (c.in-Some.ensures ∙ ap (λ (z : TransmitValue).
    find (λ (k : Open). k.number == c.args.exchange) z.opened) c.self.view_is))
