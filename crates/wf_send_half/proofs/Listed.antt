-- Proves the list of a class that a station is on from the result of the scheduler.
use Rattle.std.proofs.Common.{◌≡◌, refl, sym, ap, ◌∙◌, subst, ℕ, ◌==◌, Bool, true, false, List, [], ◌∷◌, ◌++◌, Option, Some, None}
use Rattle.std.specs.Prelude.{◌||◌, IfNone, IfSome, if◌then◌else◌}
use Rattle.std.proofs.lemmas.Bool.{eqb-true}
use Rattle.wf_def_lists.specs.Lists.{IsOnce}
use Rattle.wf_def_lists.specs.Table.{has}
use Rattle.wf_def_rotation.specs.Rotation.{Rotation, has_key, in_order}
use Rattle.wf_law_rules.proofs.Lemmas.Joined.{has_append}
use Rattle.wf_rotation.specs.Lists.{side_of}
use Rattle.wf_rotation.specs.declared.side.Side.{Side}
use Rattle.wf_rotation.specs.declared.side.Side.TheVariants.{New, Old}
use Rattle.wf_send_half.specs.Listed.{list_of}

first_false : (a b : Bool) → (a || b) ≡ false → a ≡ false
first_false true b e = absurd (cc e)
first_false false b e = refl

second_false : (a b : Bool) → (a || b) ≡ false → b ≡ false
second_false true b e = absurd (cc e)
second_false false b e = e

-- if no number is twice in two lists together, a number of the first is not on the second
apart : (s : ℕ) (xs ys : List ℕ) → IsOnce (xs ++ ys) → has xs s ≡ true → has ys s ≡ false
apart s [] ys once h = absurd (cc h)
apart s (x ∷ xs) ys once h = go (x == s) refl h (apart s xs ys once.1)
  where
    go : (b : Bool) → (x == s) ≡ b → (b || has xs s) ≡ true → (has xs s ≡ true → has ys s ≡ false) →
        has ys s ≡ false
    go true is k later = second_false (has xs s) (has ys s)
        (sym (has_append xs ys s) ∙ subst (λ (n : ℕ). has (xs ++ ys) n ≡ false) (eqb-true x s is) once.0)
    go false is k later = later k

pub list_is : (r : Rotation) (s : ℕ) (o : Option Side) → IsOnce (in_order r) →
    IfNone o (has_key r s ≡ false) → IfSome o (λ side. has (side_of r side) s ≡ true) → o ≡ list_of r s
list_is r s None once none some =
    sym (ap (λ (b : Bool). if b then Some New else if has r.old s then Some Old else None)
    (first_false (has r.new s) (has r.old s) none)
    ∙ ap (λ (b : Bool). if b then Some Old else None) (second_false (has r.new s) (has r.old s) none))
list_is r s (Some New) once none some =
    sym (ap (λ (b : Bool). if b then Some New else if has r.old s then Some Old else None) some)
list_is r s (Some Old) once none some =
    sym (ap (λ (b : Bool). if b then Some New else if has r.old s then Some Old else None)
    (apart s r.old r.new once some)
    ∙ ap (λ (b : Bool). if b then Some Old else None) some)

-- a station that is not live is on neither list
pub unlisted : (listed live : Bool) → (listed ≡ true → live ≡ true) → live ≡ false → listed ≡ false
unlisted true live f e = absurd (cc (f refl, e))
unlisted false live f e = refl
