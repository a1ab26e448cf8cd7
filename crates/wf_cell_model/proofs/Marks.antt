-- Proves that the marks change as the open exchanges do, if one of these changes.
use Rattle.std.proofs.Common.{◌≡◌, refl, ap, ap₂, sym, ◌∙◌, arith, ℕ, suc, ◌<◌, ◌==◌, Bool, true, false, List, [], ◌∷◌, map, find, Option, Some, if◌then◌else◌}
use Rattle.wf_law_rules.proofs.Lemmas.Numbers.{on_bool, eq_yes, not_eq}
use Rattle.wf_def_world.specs.World.{World, Exchange}
use Rattle.wf_law_runs.specs.Windows.{OpenRises, KeepsWindows}
use Rattle.wf_law_runs.proofs.Windows.Law.{window_law}
use Rattle.wf_law_driver.proofs.Opened.{with_replaced}
use Rattle.wf_recv_marks.specs.declared.marks.Mark.{Mark}
use Rattle.wf_recv_marks.specs.Marks.{with_changed}
use Rattle.wf_send_half_model.specs.Standing.{IsReached}
use Rattle.wf_send_half_model.proofs.Reached.{by_law}
use Rattle.wf_cell_model.specs.Hearing.{mark_of}

pub rises_now : (w : World) → IsReached w → OpenRises 0 w.exchanges w.opened
rises_now w reached = (by_law KeepsWindows w reached (window_law w.config reached.history)).rising

past_marks : (lo hi e : ℕ) (xs : List Exchange) (z : Exchange) (f : Mark → Mark) → e < lo → z.number ≡ e →
    OpenRises lo hi xs →
    with_changed e f (map mark_of xs) ≡ map mark_of (with_replaced z xs)
past_marks lo hi e [] z f low n rises = refl
past_marks lo hi e (y ∷ ys) z f low n rises =
    let other : (y.number == e) ≡ false = not_eq y.number e (λ h. omega (arith, h, low, rises.0)) in
    let apart : (y.number == z.number) ≡ false = not_eq y.number z.number
    (λ h. omega (arith, h, n, low, rises.0)) in
    ap₂ (λ (m : Mark) (ms : List Mark). m ∷ ms)
    (ap (λ (b : Bool). if b then f (mark_of y) else mark_of y) other
    ∙ sym (ap (λ (b : Bool). mark_of (if b then z else y)) apart))
    (past_marks (suc y.number) hi e ys z f (omega (arith, low, rises.0)) n rises.2)

first_found : (b : Bool) (y x : Exchange) (o : Option Exchange) → (if b then Some y else o) ≡ Some x →
    b ≡ true → y ≡ x
first_found true y x o h e = cc h
first_found false y x o h e = absurd (cc e)

later_found : (b : Bool) (y x : Exchange) (o : Option Exchange) → (if b then Some y else o) ≡ Some x →
    b ≡ false → o ≡ Some x
later_found true y x o h e = absurd (cc e)
later_found false y x o h e = h

pub changed_marks : (lo hi e : ℕ) (xs : List Exchange) (x z : Exchange) (f : Mark → Mark) →
    OpenRises lo hi xs →
    find (λ y. y.number == e) xs ≡ Some x → z.number ≡ e → f (mark_of x) ≡ mark_of z →
    with_changed e f (map mark_of xs) ≡ map mark_of (with_replaced z xs)
changed_marks lo hi e [] x z f rises found n same = refl
changed_marks lo hi e (y ∷ ys) x z f rises found n same =
    let at_z : (y.number == z.number) ≡ (y.number == e) = ap (λ (k : ℕ). y.number == k) n in
    let rest : with_changed e f (map mark_of ys) ≡ map mark_of (with_replaced z ys) = on_bool (y.number == e)
    (λ yes. past_marks (suc y.number) hi e ys z f (omega (arith, eq_yes y.number e yes)) n rises.2)
    (λ no. changed_marks (suc y.number) hi e ys x z f rises.2
    (later_found (y.number == e) y x _ found no) n same) in
    on_bool (y.number == e)
    (λ yes. ap₂ (λ (m : Mark) (ms : List Mark). m ∷ ms)
    (ap (λ (b : Bool). if b then f (mark_of y) else mark_of y) yes
    ∙ (ap (λ (k : Exchange). f (mark_of k)) (first_found (y.number == e) y x _ found yes)
    ∙ (same ∙ sym (ap (λ (b : Bool). mark_of (if b then z else y)) (at_z ∙ yes)))))
    rest)
    (λ no. ap₂ (λ (m : Mark) (ms : List Mark). m ∷ ms)
    (ap (λ (b : Bool). if b then f (mark_of y) else mark_of y) no
    ∙ sym (ap (λ (b : Bool). mark_of (if b then z else y)) (at_z ∙ no)))
    rest)
