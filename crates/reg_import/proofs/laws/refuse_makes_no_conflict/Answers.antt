use Rattle.reg_import.proofs.ModeLemmas as law
use Rattle.reg_import.proofs.laws.refuse_makes_no_conflict.Goals as goal

pub returns : goal.returns
returns c = record { conflicts = law.refused; retires = law.refused_quietly; beside = law.beside_quietly }
