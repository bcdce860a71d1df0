use Rattle.reg_desk.proofs.AfterRetiring.{links_same, links_superseded}
use Rattle.reg_desk.proofs.laws.settling_keeps_links.Goals as goal

pub returns-clause-same : goal.returns-clause-same
returns-clause-same c = λ x y replica note ids made a b s is differ. links_same x y replica note ids made s a b differ

pub returns-clause-superseded : goal.returns-clause-superseded
returns-clause-superseded c = λ x y replica note ids made old newer a b s linked is_a is_b differ. links_superseded x y replica note ids made s old newer a b linked is_a is_b differ
