use Rattle.std.proofs.Common.{sym}
use Rattle.reg_news.proofs.codes.code_of.Goals as goal

pub returns : goal.returns
returns c = λ live. λ j. record { key = c.in_ok-key.ensures j; live = sym live j; superseded = c.args.mark.now.superseded; by = c.in_ok-by.ensures j }
