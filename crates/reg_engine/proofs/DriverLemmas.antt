-- What a command makes of a register that a store admits, and why it makes nothing.
use Rattle.std.proofs.Common.{inl, inr, subst}
use Rattle.reg_op.specs.Contents.{Content}
use Rattle.reg_engine.specs.declared.fault.CliFault.{CliFault}
use Rattle.reg_engine.specs.Store.{Admission, AsLoaded, Screened, Admits, Bars, WorksOn, StopsIn}

pub works_on : (a : Admission) (Holds : Content → Type 0) (x z : Content) → Admits a x z → Holds z → WorksOn a Holds x
works_on AsLoaded Holds x z is h = subst Holds is h
works_on (Screened makes bars) Holds x z is h = (z, is, h)

module _ (Unmet : Content → CliFault → Type 0) (Reads : Content → Type 0) (Refuses : Content → Content → CliFault → Type 0) (x : Content) (f : CliFault) where
  pub unmet_in : (a : Admission) → (Unmet x f → Refuses x x f) → Unmet x f → StopsIn a Unmet Reads Refuses x f
  unmet_in AsLoaded law h = law h
  unmet_in (Screened makes bars) law h = inl h

  pub barred_in : (a : Admission) → Reads x → Bars a x f → StopsIn a Unmet Reads Refuses x f
  barred_in AsLoaded read h = absurd h
  barred_in (Screened makes bars) read h = inr (inl (read, h))

  pub refused_in : (a : Admission) (z : Content) → Admits a x z → Refuses x z f → StopsIn a Unmet Reads Refuses x f
  refused_in AsLoaded z is h = subst (λ (k : Content). Refuses x k f) is h
  refused_in (Screened makes bars) z is h = inr (inr (z, is, h))
