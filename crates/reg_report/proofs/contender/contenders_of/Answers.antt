use Rattle.std.proofs.Common.{rules}
use Rattle.std.proofs.lemmas.List.Sorted.{answers_always}
use Rattle.std.specs.Ordering.{is_lt}
use Rattle.reg_report.specs.Contenders.{contender_cmp}
use Rattle.reg_report.proofs.ConflictLemmas.{by_key}
use Rattle.reg_report.proofs.ContenderLemmas.{contenders_more, all_contenders}
use Rattle.reg_report.proofs.contender.contenders_of.Goals as goal

pub loop-row-preserved : goal.loop-row-preserved
loop-row-preserved c = contenders_more c.args.rows.now c.loop-row.row-index c.row-item.result c.loop-row.made.items c.push_contender.new.contenders.items c.loop-row-test.true c.row-item.is c.in_ok-push_contender.ensures c.loop-row.invariant

pub returns-clause-sorted : goal.returns-clause-sorted
returns-clause-sorted c = c.sort_unstable_by.ensures.sorted (λ a b. is_lt (contender_cmp a b)) by_key (answers_always _ _ _ (λ f a r g h. search rules))

pub returns-clause-contenders : goal.returns-clause-contenders
returns-clause-contenders c = all_contenders c.args.rows.now c.loop-row.row-index c.loop-row.made.items c.sort_unstable_by.new.self.items c.loop-row-test.false c.sort_unstable_by.ensures.permutation c.loop-row.invariant
