use Rattle.reg_report.specs.Keys.{key_bytes}
use Rattle.reg_news.proofs.CodeLemmas.{off_is}
use Rattle.reg_news.proofs.codes.was_off.Goals as goal

pub returns : goal.returns
returns c = λ rs are. off_is rs (key_bytes c.args.key) c.standing_of-standing.result c.is_off.result (c.standing_of-standing.ensures rs are) c.is_off.ensures
