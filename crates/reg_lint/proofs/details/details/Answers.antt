use Rattle.std.proofs.Common.{List, sym, subst}
use Rattle.reg_lint.specs.declared.kept.KeptSubject.{KeptSubject}
use Rattle.reg_lint.specs.Subjects.{AreKept}
use Rattle.reg_lint.proofs.details.details.Goals as goal

pub returns-in-Own : goal.returns-in-Own
returns-in-Own c = rw c.in-Own.is (λ ss are settled. c.own_details.ensures ss (subst (λ (ks : List KeptSubject). AreKept ks ss) (sym c.requires) are))

pub returns-in-Wide : goal.returns-in-Wide
returns-in-Wide c = rw c.in-Wide.is c.wide_details.ensures
