use Rattle.reg_news.proofs.RisenLemmas.{are_risen}
use Rattle.reg_news.proofs.gained.risen.offices_risen.Goals as goal

pub returns : goal.returns
returns c =
    are_risen (λ made. made.items) c.args.seen.now c.args.came.now c.in_ok-figures.figures.items c.deref.result.now c.risen_among.result c.in_ok-figures.ensures c.deref.ensures.value
    c.risen_among.ensures
