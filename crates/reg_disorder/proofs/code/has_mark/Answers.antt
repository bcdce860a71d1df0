use Rattle.reg_disorder.proofs.MarkOrder.{among_marks}
use Rattle.reg_disorder.proofs.code.has_mark.Goals as goal

pub returns : goal.returns
returns c = among_marks c.args.marks.now c.args.mark.now c.binary_search.result c.is_ok.result c.is_ok.ensures.value c.requires c.binary_search.ensures.bound c.binary_search.ensures.position
