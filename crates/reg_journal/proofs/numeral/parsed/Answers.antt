use Rattle.std.proofs.Common.{◌∙◌, ap, arith}
use Rattle.std.specs.Result.{result_ok}
use Rattle.std.proofs.lemmas.Fmt.{parse-decimal}
use Rattle.reg_journal.proofs.numeral.parsed.Goals as goal

pub returns : goal.returns
returns c = λ n lt e. c.ok.ensures.value ∙ ap result_ok (parse-decimal 32 n c.args.number.now c.parse.result lt (omega arith) e c.parse.ensures.value.0)
