use Rattle.std.proofs.Common.{sym}
use Rattle.reg_page.specs.Page.{described_at}
use Rattle.reg_page.specs.Blocks.{bytes_of}
use Rattle.reg_page.proofs.BlockLemmas.{listed}
use Rattle.reg_page.proofs.EventLemmas.{no_pair, no_second, both_sides}
use Rattle.reg_page.proofs.contested.list_pair.Goals as goal

pub returns-in_default : goal.returns-in_default
returns-in_default c = λ m. no_pair m.named (described_at c.args.described.now c.args.first) (described_at c.args.described.now c.args.second) (bytes_of m c.args.blocks.now.items) (sym c.in_default.ensures)

pub returns-in_default-described_at : goal.returns-in_default-described_at
returns-in_default-described_at c = λ m. no_second m.named (described_at c.args.described.now c.args.first) (described_at c.args.described.now c.args.second) c.in-Some.one.now (bytes_of m c.args.blocks.now.items) (sym c.in-Some.ensures) (sym c.in_default-described_at.ensures)

pub returns : goal.returns
returns c = λ m.
    both_sides m.named (described_at c.args.described.now c.args.first) (described_at c.args.described.now c.args.second) c.in-Some.one.now c.in-Some-described_at.other.now
    (sym c.in-Some.ensures) (sym c.in-Some-described_at.ensures) (listed m c.args.blocks.now.items c.push.new.self.items _ c.in_ok-push.ensures.items)
