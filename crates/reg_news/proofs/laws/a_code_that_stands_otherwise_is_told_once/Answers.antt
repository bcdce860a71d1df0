use Rattle.reg_news.proofs.CodeLaws.{told_once, told_others, told_alike}
use Rattle.reg_news.proofs.laws.a_code_that_stands_otherwise_is_told_once.Goals as goal

pub returns : goal.returns
returns c = record {
  otherwise = told_once;
  others = λ rs ss k a b by. told_others rs ss k b by;
  alike = told_alike;
}
