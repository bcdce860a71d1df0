use Rattle.reg_import.proofs.LawLemmas.{are_keyed, import_again, refused_again}
use Rattle.reg_import.proofs.laws.importing_again_makes_nothing.Goals as goal

pub returns-clause-nothing : goal.returns-clause-nothing
returns-clause-nothing c = λ x y z replica note again noted d keep_going texts readings ts us is ahead read m n. import_again x y replica note again noted d keep_going readings ts is ahead (are_keyed texts readings read) m z us n

pub returns-clause-passes : goal.returns-clause-passes
returns-clause-passes c = λ x y replica note again noted d keep_going texts readings ts f is ahead read m h. refused_again x y replica note again noted d keep_going readings ts is ahead (are_keyed texts readings read) m f h
