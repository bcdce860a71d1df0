use Rattle.reg_page.proofs.BlockLemmas.{all_listed}
use Rattle.reg_page.proofs.page.first_blocks.Goals as goal

pub returns : goal.returns
returns c = λ m. all_listed m c.new-blocks.result.items c.list_unsettled.new.blocks.items _ c.new-blocks.ensures.items (c.in_ok-list_unsettled.ensures m)
