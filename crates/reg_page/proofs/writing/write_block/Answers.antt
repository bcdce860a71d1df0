use Rattle.reg_page.specs.Blocks.{setting, pieces_of}
use Rattle.reg_page.proofs.WritingLemmas.{made}
use Rattle.reg_page.proofs.writing.write_block.Goals as goal

pub returns-in-Err-pass_enough-clause-fault : goal.returns-in-Err-pass_enough-clause-fault
returns-in-Err-pass_enough-clause-fault g c = λ first text rest h.
    c.in-Err-pass_enough.ensures.fault first text rest
    (made (pieces_of (setting c.args.names.now c.args.register.now.ops c.args.described.now c.args.acts.now) c.args.block.now) h c.in_default.ensures)
