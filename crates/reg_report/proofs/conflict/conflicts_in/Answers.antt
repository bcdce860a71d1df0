use Rattle.std.proofs.Common.{List, map, subst}
use Rattle.reg_report.specs.declared.contender.Contender.{Contender}
use Rattle.reg_report.specs.Contenders.{conflict_seen, Tells}
use Rattle.reg_report.specs.Seen.{row_seen}
use Rattle.reg_report.proofs.ContenderLemmas.{conflicts_are}
use Rattle.reg_report.proofs.conflict.conflicts_in.Goals as goal

pub returns : goal.returns
returns c =
    let made = map conflict_seen c.in_ok-made.made.items in
    conflicts_are (map row_seen c.args.rows.now) c.in_ok-contenders.contenders.items made c.in_ok-contenders.ensures.contenders
    (subst (λ (cs : List Contender). Tells cs made) c.deref.ensures.value c.in_ok-made.ensures)
