use Rattle.std.proofs.Common.{filter, ap, ◌∙◌}
use Rattle.std.proofs.lemmas.List.{take_all}
use Rattle.reg_page.specs.Descriptions.{at}
use Rattle.reg_page.specs.Page.{is_among}
use Rattle.reg_page.proofs.PartLemmas.{part_more}
use Rattle.reg_page.proofs.table.part_of.Goals as goal

pub loop-i-preserved : goal.loop-i-preserved
loop-i-preserved c =
    part_more (is_among c.args.gone c.args.register.now.ops) c.args.rows.now c.loop-i.i c.index-rows-i.result (at c.loop-i.made.items) (at c.push_one.new.made.items) c.loop-i-test.true c.index-rows-i.is
    c.loop-i.invariant c.in_ok-push_one.ensures

pub returns : goal.returns
returns c =
    c.loop-i.invariant ∙ ap (λ l. filter (is_among c.args.gone c.args.register.now.ops) (at l)) (take_all c.loop-i.i c.args.rows.now c.loop-i-test.false)
