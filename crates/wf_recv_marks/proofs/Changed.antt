-- Proves that changing the mark of one exchange keeps the invariant, since the numbers do not change.
use Rattle.std.proofs.Common.{◌≡◌, refl, ap, sym, ◌∙◌, subst, arith, ℕ, zero, suc, ◌==◌, List, [], ◌∷◌, map, get_or, set, length-set}
use Rattle.std.specs.Prelude.{position, Some}
use Rattle.wf_def_lists.specs.Lists.{IsRising}
use Rattle.wf_send_parts.proofs.Rising.{changed_at}
use Rattle.wf_recv_marks.specs.declared.marks.Mark.{Mark}
use Rattle.wf_recv_marks.specs.Marks.{mark_number, with_changed}
use Rattle.wf_send_parts.specs.Kept.{AreKept}

-- replacing a mark by one of the same number leaves the numbers
numbers_stay : (marks : List Mark) (i : ℕ) (m d : Mark) → mark_number m ≡ mark_number (get_or marks i d) →
    map mark_number (set marks i m) ≡ map mark_number marks
numbers_stay [] i m d same = refl
numbers_stay (x ∷ marks) zero m d same = ap (λ (n : ℕ). n ∷ map mark_number marks) same
numbers_stay (x ∷ marks) (suc i) m d same = ap (λ (ns : List ℕ). mark_number x ∷ ns)
    (numbers_stay marks i m d same)

pub kept_changed : (marks : List Mark) (capacity i : ℕ) (m d : Mark) → d ≡ get_or marks i d →
    mark_number m ≡ mark_number d → AreKept mark_number marks capacity →
    AreKept mark_number (set marks i m) capacity
kept_changed marks capacity i m d here same ok = record {
  few = omega (arith, length-set marks i m, ok.few);
  reserved = ok.reserved;
  rising = subst (IsRising 0) (sym (numbers_stay marks i m d (same ∙ ap mark_number here))) ok.rising;
}

pub changed_where : (f : Mark → Mark) (number i : ℕ) (marks now : List Mark) (d : Mark) → marks ≡ now →
    IsRising 0 (map mark_number marks) → Some i ≡ position (λ m. m.number == number) now →
    d ≡ get_or marks i d
    → set marks i (f d) ≡ with_changed number f now
changed_where f number i marks now d same rising found here =
    ap (λ (m : Mark). set marks i (f m)) here
    ∙ changed_at mark_number f number marks i d rising
    (ap (position (λ m. m.number == number)) same ∙ sym found)
    ∙ ap (with_changed number f) same
