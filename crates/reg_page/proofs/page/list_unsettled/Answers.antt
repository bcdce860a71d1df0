use Rattle.std.proofs.Common.{map, ap}
use Rattle.html_page.proofs.JoinLemmas.{next}
use Rattle.html_page.specs.Templates.{section, conflict}
use Rattle.html_page.specs.declared.markup.TheConstants.{CONFLICTS_START, CONFLICTS_END}
use Rattle.reg_lint.proofs.VoiceLemmas.{map_twice}
use Rattle.reg_report.specs.Contenders.{conflict_seen}
use Rattle.reg_page.specs.Page.{conflict_of}
use Rattle.reg_page.proofs.LoopLemmas.{as_others}
use Rattle.reg_page.proofs.page.list_unsettled.Goals as goal

pub returns : goal.returns
returns c = λ m.
    next
    (as_others _ (section CONFLICTS_START.now (conflict m.named) CONFLICTS_END.now (map (conflict_of c.args.described.now) (map conflict_seen c.args.conflicts.now)))
    (ap (section CONFLICTS_START.now (conflict m.named) CONFLICTS_END.now) (map_twice (conflict_of c.args.described.now) conflict_seen c.args.conflicts.now)) (c.in_ok-list_conflicts.ensures m))
    (c.in_ok-list_awaited.ensures m)
