use Rattle.reg_disorder.proofs.Passes.{linked_is_superseded}
use Rattle.reg_desk.proofs.ImportedLinks.{import_passes, import_no_other}
use Rattle.reg_desk.proofs.laws.importing_keeps_links.Goals as goal

pub returns-clause-passes : goal.returns-clause-passes
returns-clause-passes c = λ o x y readings ts links old newer a b l linked is_a is_b differ. import_passes o x y readings ts links l old newer a b linked is_a is_b differ

pub returns-clause-superseded : goal.returns-clause-superseded
returns-clause-superseded c = λ o x y readings ts links old newer a b l linked is_a is_b differ. linked_is_superseded y.ops a b (import_passes o x y readings ts links l old newer a b linked is_a is_b differ)

pub returns-clause-no_other : goal.returns-clause-no_other
returns-clause-no_other c = λ o x y readings ts links a b l h. import_no_other o x y readings ts links l a b h
