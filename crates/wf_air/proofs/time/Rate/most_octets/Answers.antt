-- The limit is computed by a shift, which is exact for the exponents 0 to 3.
use Rattle.std.proofs.Common.{◌≡◌, ◌∙◌, sym, ap, subst, ℕ, ◌+◌, ◌-◌, ◌^◌, arith, Bool, inl, inr, ◌⊎◌}
use Rattle.wf_def_air.specs.Fit.{most_octets}
use Rattle.wf_air.specs.Rates.{rate_of}
use Rattle.wf_air.specs.declared.time.Format.{Format}
use Rattle.wf_air.specs.declared.time.Format.TheVariants.{Vht as OfVht, He as OfHe}
use Rattle.wf_air.proofs.Most.{IsLater, ht_least, shifted, most_is, unstated}
use Rattle.wf_air.proofs.time.Rate.most_octets.Goals as goal

-- a format of VHT or HE
later : (f : Format) →
    ((mcs : ℕ) × (mhz : ℕ) × (short : Bool) × (n : ℕ) × (f ≡ OfVht mcs mhz short n))
    ⊎ ((mcs : ℕ) × (mhz : ℕ) × (guard : ℕ) × (n : ℕ) × (f ≡ OfHe mcs mhz guard n)) → IsLater (rate_of f)
later f (inl (mcs, mhz, short, n, is)) = subst (λ (g : Format). IsLater (rate_of g)) (sym is) tt
later f (inr (mcs, mhz, guard, n, is)) = subst (λ (g : Format). IsLater (rate_of g)) (sym is) tt

pub returns-in-Ht-clause-least : goal.returns-in-Ht-clause-least
returns-in-Ht-clause-least c = ht_least c.args.exponent c.requires.exponent_in

pub returns-in-None : goal.returns-in-None
returns-in-None c =
    let none : IsLater c.args.self = subst IsLater c.self.view_is (later c.self.inside.format c.in-Vht.is) in
    let computed = shifted c.args.exponent c.requires.exponent_in in
    let is : most_octets c.args.self c.args.exponent c.args.stated ≡ 2 ^ (17 + c.args.exponent) - 1 =
    ap (most_octets c.args.self c.args.exponent) c.in-None.is ∙ unstated c.args.self c.args.exponent none in
    let bounds = most_is c.args.self c.args.exponent c.args.stated c.requires.exponent_in c.requires.stated_in in
    record {
      exact = computed ∙ sym is;
      least = omega (arith, computed, is, bounds.least);
      most = omega (arith, computed, is, bounds.most);
    }
