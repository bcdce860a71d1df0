use Rattle.std.proofs.Common.{◌∙◌}
use Rattle.reg_query.proofs.AskedLemmas.{among}
use Rattle.reg_query.proofs.log.asked.is_among.Goals as goal

pub returns : goal.returns
returns c = c.is_ok.ensures.value ∙ among c.args.ids.now c.args.id c.binary_search.result c.requires c.binary_search.ensures.bound c.binary_search.ensures.position
