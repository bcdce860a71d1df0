use Rattle.std.proofs.Common.{arith}
use Rattle.std.proofs.lemmas.Str.{IsUtf8-from_ascii}
use Rattle.std.proofs.lemmas.Fmt.{IsAscii-decimal}
use Rattle.reg_journal.proofs.numeral.numeral_of.Goals as goal

pub returns-in_default-clause-none : goal.returns-in_default-clause-none
returns-in_default-clause-none c = λ n fits h. c.in_default.ensures.cases.0 (rw h (IsUtf8-from_ascii _ (IsAscii-decimal n (omega arith))))
