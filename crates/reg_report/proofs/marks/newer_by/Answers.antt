use Rattle.std.proofs.Common.{◌∙◌, sym}
use Rattle.reg_report.proofs.MarkLemmas.{none_newer, newer_are}
use Rattle.reg_report.proofs.marks.newer_by.Goals as goal

pub returns-in_default : goal.returns-in_default
returns-in_default c = λ s e told. c.new.ensures.items ∙ sym (none_newer s e c.args.own.now told c.mark-item.result c.loop-mark.mark-index c.loop-mark-test.true c.mark-item.is c.in_default.is)

pub returns : goal.returns
returns c = λ s e told. c.distinct.ensures ∙ newer_are s e c.args.own.now told c.loop-mark.newer.items c.loop-mark.mark-index c.loop-mark-test.false c.loop-mark.invariant
