use Rattle.reg_disorder.proofs.Passes.{passes_on, comes_from, linked_is_superseded, same_links}
use Rattle.reg_disorder.proofs.linking.laws.links_pass_on.Goals as goal

pub returns-clause-passes : goal.returns-clause-passes
returns-clause-passes c = λ x m y replica note noted bodies made ids links old newer a b d plain p linked is_a is_b differ.
    passes_on x m y replica note noted bodies made ids links d plain p old newer a b linked is_a is_b differ

pub returns-clause-superseded : goal.returns-clause-superseded
returns-clause-superseded c = λ x m y replica note noted bodies made ids links old newer a b d plain p linked is_a is_b differ.
    linked_is_superseded y.ops a b (passes_on x m y replica note noted bodies made ids links d plain p old newer a b linked is_a is_b differ)

pub returns-clause-no_other : goal.returns-clause-no_other
returns-clause-no_other c = λ x m y replica note noted bodies made ids links a b d plain p h.
    comes_from x m y replica note noted bodies made ids links d plain p a b h

pub returns-clause-same : goal.returns-clause-same
returns-clause-same c = λ x m y replica note noted bodies made ids links a b d plain p same differ.
    same_links x m y replica note noted bodies made ids links d plain p same a b differ
