use Rattle.reg_import.proofs.import.Importing.is_spent.Goals as goal

pub returns : goal.returns
returns c = λ x replica note differs rs ts h. h.spent
