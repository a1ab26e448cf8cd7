-- No VHT rate has more than 15 encoders.
use Rattle.std.proofs.Common.{subst}
use Rattle.wf_def_air.specs.Airtime.{Vht, IsRate}
use Rattle.wf_air.specs.declared.time.Format.{Format}
use Rattle.wf_air.specs.Rates.{rate_of}
use Rattle.wf_air.proofs.Bounds.{few_encoders}
use Rattle.wf_air.proofs.time.Format.encoders.Goals as goal

pub returns-in-Vht-clause-most : goal.returns-in-Vht-clause-most
returns-in-Vht-clause-most c =
    rw (c.vht_encoders.ensures, c.bits.ensures.exact)
    (few_encoders (Vht c.in-Vht.mcs c.in-Vht.mhz c.in-Vht.short c.in-Vht.streams)
    (subst (λ (f : Format). IsRate (rate_of f)) c.in-Vht.is c.requires))
