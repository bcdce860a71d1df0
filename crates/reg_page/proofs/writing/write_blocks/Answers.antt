use Rattle.std.proofs.Common.{◌∷◌, ◌++◌, ◌+◌, drop, sym, ap, ◌∙◌}
use Rattle.std.proofs.lemmas.List.{drop_more, drop_all}
use Rattle.reg_page.specs.declared.block.Block.{Block}
use Rattle.reg_page.specs.Blocks.{setting, bytes_of}
use Rattle.reg_page.proofs.WritingLemmas.{one_block, no_block}
use Rattle.reg_page.proofs.writing.write_blocks.Goals as goal

pub loop-i-init : goal.loop-i-init
loop-i-init g c = λ first text tail h. h

pub returns-in-Err-clause-fault : goal.returns-in-Err-clause-fault
returns-in-Err-clause-fault g c = λ first text tail h.
    let m = setting c.args.names.now c.args.register.now.ops c.args.described.now c.args.acts.now in
    let bs = c.args.blocks.now in
    let b = c.index-blocks-i.result in
    let others = drop (c.loop-i.i + 1) bs in
    c.in-Err.ensures.fault first text (bytes_of m others ++ tail)
    (one_block m b others tail (c.loop-i.invariant first text tail h) (drop_more bs c.loop-i.i b c.loop-i-test.true ∙ ap (λ (y : Block). y ∷ others) (sym c.index-blocks-i.is)))

pub loop-i-preserved : goal.loop-i-preserved
loop-i-preserved g c = λ first text tail h.
    let m = setting c.args.names.now c.args.register.now.ops c.args.described.now c.args.acts.now in
    let bs = c.args.blocks.now in
    let b = c.index-blocks-i.result in
    let others = drop (c.loop-i.i + 1) bs in
    c.in-Ok.ensures.passed first text (bytes_of m others ++ tail)
    (one_block m b others tail (c.loop-i.invariant first text tail h) (drop_more bs c.loop-i.i b c.loop-i-test.true ∙ ap (λ (y : Block). y ∷ others) (sym c.index-blocks-i.is)))

pub returns-clause-passed : goal.returns-clause-passed
returns-clause-passed g c = λ first text tail h.
    no_block (setting c.args.names.now c.args.register.now.ops c.args.described.now c.args.acts.now) (c.loop-i.invariant first text tail h) (drop_all c.loop-i.i c.args.blocks.now c.loop-i-test.false)
