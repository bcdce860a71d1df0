use Rattle.std.proofs.Common.{Some, None, ap, ◌∙◌}
use Rattle.reg_sense.specs.Tallies.{counted}
use Rattle.reg_sense.proofs.TallyLemmas.{count_found}
use Rattle.reg_sense.proofs.most.count_of.Goals as goal

pub returns-in-Some : goal.returns-in-Some
returns-in-Some c = λ vs has. count_found c.args.word.now c.args.content.now vs (counted (Some c.in-Some.tally.now)) (ap counted c.in-Some.ensures.value ∙ has (record { word = c.args.word; content = c.args.content }))

pub returns-in-None : goal.returns-in-None
returns-in-None c = λ vs has. count_found c.args.word.now c.args.content.now vs (counted None) (ap counted c.in-None.ensures.value ∙ has (record { word = c.args.word; content = c.args.content }))
