use Rattle.std.specs.List.{flat_map}
use Rattle.html_page.proofs.JoinLemmas.{next}
use Rattle.html_page.specs.Templates.{pair}
use Rattle.reg_page.specs.Page.{pairs_among}
use Rattle.reg_page.proofs.BlockLemmas.{listed}
use Rattle.reg_page.proofs.LoopLemmas.{as_others}
use Rattle.reg_page.proofs.contested.list_conflict.Goals as goal

pub returns : goal.returns
returns c = λ m.
    let k = c.args.one.now in
    next (listed m c.args.blocks.now.items c.push.new.self.items _ c.in_ok-push.ensures.items)
    (as_others _ (flat_map (pair m.named) (pairs_among c.args.described.now k.entries.items)) (λ j. flat_map (pair m.named) (pairs_among c.args.described.now (c.deref.ensures.value j))) (c.in_ok-list_pairs.ensures m))
