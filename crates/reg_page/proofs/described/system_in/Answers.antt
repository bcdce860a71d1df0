use Rattle.reg_page.proofs.described.system_in.Goals as goal

pub returns : goal.returns
returns c = record { crs = c.in_ok-crs.crs; spelled = c.in_ok-crs.ensures; shows = c.in_ok-made.ensures }
