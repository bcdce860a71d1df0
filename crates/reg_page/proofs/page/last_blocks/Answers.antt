use Rattle.reg_page.proofs.BlockLemmas.{all_listed}
use Rattle.reg_page.proofs.page.last_blocks.Goals as goal

pub returns : goal.returns
returns c =
    let entries = c.in_ok-list_table.ensures in (
      entries.0,
      entries.1,
      (λ m. all_listed m c.new-blocks.result.items c.list_table.new.blocks.items _ c.new-blocks.ensures.items (entries.2 m)),
    )
