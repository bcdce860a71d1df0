use Rattle.reg_report.specs.Between.{gaps_at}
use Rattle.reg_page.specs.Page.{named}
use Rattle.reg_page.proofs.GapPieces.{no_gap_pushed}
use Rattle.reg_page.proofs.gaps.push_gap_before.Goals as goal

pub returns-in_default : goal.returns-in_default
returns-in_default c = no_gap_pushed (named c.args.names.now) (gaps_at c.args.before c.args.run) c.args.page.now.items c.in_default.ensures.none
