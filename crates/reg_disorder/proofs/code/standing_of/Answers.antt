use Rattle.std.proofs.Common.{map}
use Rattle.std.specs.Prelude.{Contains}
use Rattle.reg_report.specs.Keys.{key_bytes}
use Rattle.reg_disorder.specs.Marks.{mark_seen}
use Rattle.reg_disorder.proofs.StandingLemmas.{superseded_is, valid_is, withdrawn_is, absent_is}
use Rattle.reg_disorder.proofs.code.standing_of.Goals as goal

pub returns-then-has_status : goal.returns-then-has_status
returns-then-has_status c = λ rs are.
    superseded_is rs (key_bytes c.args.key) (Contains (map mark_seen c.args.marks.now)) are.each c.has_status.result c.has_status.ensures c.if-has_status.true

pub returns-then-has_status-2 : goal.returns-then-has_status-2
returns-then-has_status-2 c = λ rs are.
    valid_is rs (key_bytes c.args.key) (Contains (map mark_seen c.args.marks.now)) are.each c.has_status.result c.has_status.ensures c.if-has_status.false c.has_status-2.result c.has_status-2.ensures c.if-has_status-2.true

pub returns-then-has_status-3 : goal.returns-then-has_status-3
returns-then-has_status-3 c = λ rs are.
    withdrawn_is rs (key_bytes c.args.key) (Contains (map mark_seen c.args.marks.now)) are.each c.has_status.result c.has_status.ensures c.if-has_status.false c.has_status-2.result c.has_status-2.ensures
    c.if-has_status-2.false c.has_status-3.result c.has_status-3.ensures c.if-has_status-3.true

pub returns : goal.returns
returns c = λ rs are.
    absent_is rs (key_bytes c.args.key) (Contains (map mark_seen c.args.marks.now)) are.each c.has_status.result c.has_status.ensures c.if-has_status.false c.has_status-2.result c.has_status-2.ensures
    c.if-has_status-2.false c.has_status-3.result c.has_status-3.ensures c.if-has_status-3.false
