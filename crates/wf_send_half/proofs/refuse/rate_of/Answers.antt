-- Proves that `rate_of` refuses exactly the numbers of which no rate exists, or of which the setting `legacy`
-- does not allow it. By cases of `made_rate`.
use Rattle.std.proofs.Common.{◌≡◌, ◌<◌, ◌≤◌, ℕ, ap, ap₂, sym, arith, not, ◌&&◌, Bool, true, false, if◌then◌else◌, Some, None}
use Rattle.std.proofs.lemmas.Bool.{le-leb, lt-leb}
use Rattle.wf_frame.specs.declared.notes.Refusal.TheVariants.{BadRate}
use Rattle.wf_def_air.specs.Airtime.{Rate, is_rate, is_allowed, legacy_of}
use Rattle.wf_def_world.specs.Rates.{rate_asked, is_rate_with}
use Rattle.wf_send_half.proofs.refuse.rate_of.Goals as goal

-- n is the least value of the setting `legacy` that allows the rate x, which is r
allowed : (legacy n : ℕ) (x r : Rate) → is_rate r ≡ true → x ≡ r → n ≡ legacy_of x → n ≤ legacy →
    is_rate_with legacy r ≡ true
allowed legacy n x r exists same least low = ap₂ (λ (a b : Bool). a && b) exists
    (le-leb (legacy_of r) legacy (omega (arith, least, ap legacy_of same, low)))

not_allowed : (legacy n : ℕ) (x r : Rate) → is_rate r ≡ true → x ≡ r → n ≡ legacy_of x → legacy < n →
    is_rate_with legacy r ≡ false
not_allowed legacy n x r exists same least high = ap₂ (λ (a b : Bool). a && b) exists
    (lt-leb (legacy_of r) legacy (omega (arith, least, ap legacy_of same, high)))

pub returns-then-legacy-clause-refused : goal.returns-then-legacy-clause-refused
returns-then-legacy-clause-refused c = ap (λ (b : Bool). if not b then Some BadRate else None)
    (sym (allowed c.args.legacy c.legacy.result c.in-Ok.rate (rate_asked c.args.asked) c.in-Ok.ensures.within
    c.in-Ok.ensures.made c.legacy.ensures.exact c.if-legacy.true))

pub returns-else-legacy-clause-refused : goal.returns-else-legacy-clause-refused
returns-else-legacy-clause-refused c = ap (λ (b : Bool). if not b then Some BadRate else None)
    (sym (not_allowed c.args.legacy c.legacy.result c.in-Ok.rate (rate_asked c.args.asked)
    c.in-Ok.ensures.within c.in-Ok.ensures.made c.legacy.ensures.exact c.if-legacy.false))

pub returns-in-Err-clause-refused : goal.returns-in-Err-clause-refused
returns-in-Err-clause-refused c =
    ap (λ (b : Bool). if not (b && is_allowed c.args.legacy (rate_asked c.args.asked)) then Some BadRate
    else None) (sym c.in-Err.ensures.refused)
