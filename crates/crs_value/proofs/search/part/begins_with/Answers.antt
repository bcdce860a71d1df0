use Rattle.std.proofs.Common.{refl}
use Rattle.crs_value.proofs.PartLemmas.{begins}
use Rattle.crs_value.proofs.search.part.begins_with.Goals as goal

pub returns : goal.returns
returns c = begins c.args.part.now c.args.text.now _ c.eq_ignore_ascii_case.result c.if-text-part.false refl c.eq_ignore_ascii_case.ensures.test
