use Rattle.reg_disorder.proofs.linking.passing.heir_link.Goals as goal

pub returns-in_default-clause-none : goal.returns-in_default-clause-none
returns-in_default-clause-none c = λ h i. c.in_default.ensures.none h.old i.old

pub returns-in_default-heir_of-clause-none : goal.returns-in_default-heir_of-clause-none
returns-in_default-heir_of-clause-none c = λ h i. c.in_default-heir_of.ensures.none h.newer i.newer
