use Rattle.reg_report.specs.Between.{gaps_at}
use Rattle.reg_page.specs.Blocks.{gap_pieces}
use Rattle.reg_page.specs.Page.{named}
use Rattle.reg_page.proofs.WritingLemmas.{made}
use Rattle.reg_page.proofs.gap_writing.write_gap.Goals as goal

pub returns-in-Err-pass_enough-clause-fault : goal.returns-in-Err-pass_enough-clause-fault
returns-in-Err-pass_enough-clause-fault g c = λ first text rest h.
    c.in-Err-pass_enough.ensures.fault first text rest (made (gap_pieces (named c.args.names.now) (gaps_at c.args.before c.args.run)) h c.in_default.ensures)
