use Rattle.std.proofs.Common.{◌∙◌, sym, arith}
use Rattle.crs_exact.proofs.NameLemmas.{too_short}
use Rattle.crs_exact.proofs.names.begins.Goals as goal

pub returns-in_default : goal.returns-in_default
returns-in_default c = sym (c.loop-wanted.invariant ∙ too_short c.args.part.now c.loop-wanted.rest.now c.loop-wanted.wanted-index (omega arith) c.in_default.ensures.cases)
