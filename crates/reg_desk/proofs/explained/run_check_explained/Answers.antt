use Rattle.reg_desk.proofs.explained.run_check_explained.Goals as goal

pub returns-in-Err-clause-fault : goal.returns-in-Err-clause-fault
returns-in-Err-clause-fault g c = (c.in-Err.fault, c.in-Err.ensures.fault, c.explained_fault.ensures.fault)
