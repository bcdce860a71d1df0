use Rattle.reg_report.proofs.FoundLemmas.{among}
use Rattle.reg_report.proofs.distinct.is_among.Goals as goal

pub returns : goal.returns
returns c = among c.args.ids.now c.args.id c.binary_search.result c.is_ok.result c.is_ok.ensures.value c.requires c.binary_search.ensures.bound c.binary_search.ensures.position
