use Rattle.reg_file.proofs.ranges.seen_of.Goals as goal

pub returns-clause-ok : goal.returns-clause-ok
returns-clause-ok c = let a = c.in-Ok-add_groups.ensures.ok in record { count = c.in-Ok.read.0; all = a.all; reads = (c.in-Ok.read.1.now, c.in-Ok.ensures, a.reads); ids = a.ids }
