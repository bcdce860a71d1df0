use Rattle.reg_report.specs.Conflicts.{bytes_of}
use Rattle.reg_query.proofs.FoundLemmas.{by_its_key, by_its_name}
use Rattle.reg_query.proofs.find.query.is_sought_by.Goals as goal

pub returns-then-by_key : goal.returns-then-by_key
returns-then-by_key c = λ rs tells. by_its_key rs c.args.word.now (bytes_of c.args.key.now) c.args.name.now c.args.by_key c.names_key.result c.if-by_key.true tells c.names_key.ensures

pub returns : goal.returns
returns c = λ rs tells. by_its_name rs c.args.word.now (bytes_of c.args.key.now) c.args.name.now c.args.by_key c.is_titled.result c.if-by_key.false tells c.is_titled.ensures
