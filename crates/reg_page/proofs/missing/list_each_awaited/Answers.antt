use Rattle.std.proofs.lemmas.List.{nil_from_length}
use Rattle.html_page.proofs.JoinLemmas.{leads_init, leads_more}
use Rattle.html_page.specs.Templates.{awaited}
use Rattle.reg_op.specs.Ids.{Id}
use Rattle.reg_op.specs.Text.{printed}
use Rattle.reg_page.specs.Blocks.{bytes_of}
use Rattle.reg_page.proofs.BlockLemmas.{listed}
use Rattle.reg_page.proofs.LoopLemmas.{mapped}
use Rattle.reg_page.proofs.missing.list_each_awaited.Goals as goal

pub loop-id-init : goal.loop-id-init
loop-id-init c = λ m. leads_init (λ (i : Id). awaited m.named (printed i)) (bytes_of m c.args.blocks.now.items) c.args.ids.now

pub loop-id-preserved : goal.loop-id-preserved
loop-id-preserved c = λ m.
    leads_more {x = c.in-Some.id.now} (c.loop-id.invariant m) c.in-Some.ensures.cases.0
    (listed m c.loop-id.blocks.items c.push.new.self.items _ c.in_ok-push.ensures.items)

pub returns : goal.returns
returns c = λ m. mapped (awaited m.named) printed (bytes_of m c.args.blocks.now.items) c.args.ids.now (c.loop-id.invariant m) (nil_from_length _ c.in_default.ensures.cases)
