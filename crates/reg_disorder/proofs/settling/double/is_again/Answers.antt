use Rattle.std.specs.BTreeSet.{contains}
use Rattle.reg_report.specs.Seen.{row_seen}
use Rattle.reg_disorder.specs.SettledTexts.{bytes_cmp}
use Rattle.reg_disorder.proofs.Repeated.{again_is, one_added}
use Rattle.reg_disorder.proofs.settling.double.is_again.Goals as goal

pub returns-clause-again : goal.returns-clause-again
returns-clause-again c = λ done texts.
    again_is done (row_seen c.args.row.now) c.as_bytes.result.now c.in_ok-added.added (contains bytes_cmp c.args.texts.now c.as_bytes.result) c.in_ok-added.ensures.added c.as_bytes.ensures.bytes
    (c.is_live.ensures.0 c.if-not-is_live.false) (texts c.as_bytes.result)

pub returns-clause-texts : goal.returns-clause-texts
returns-clause-texts c = λ done texts q.
    one_added done (row_seen c.args.row.now) c.as_bytes.result.now q.now (contains bytes_cmp c.args.texts.now q) (contains bytes_cmp c.insert.new.self q) (c.is_live.ensures.0 c.if-not-is_live.false) c.as_bytes.ensures.bytes
    (c.in_ok-added.ensures.updates.0 q) (texts q)
