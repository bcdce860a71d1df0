use Rattle.std.proofs.lemmas.List.{nil_from_length}
use Rattle.html_page.proofs.JoinLemmas.{leads_init, leads_more}
use Rattle.reg_report.specs.declared.conflict.Conflict.{Conflict}
use Rattle.reg_report.specs.Contenders.{conflict_seen}
use Rattle.html_page.specs.Templates.{conflict}
use Rattle.reg_page.specs.Blocks.{bytes_of}
use Rattle.reg_page.specs.Page.{conflict_of}
use Rattle.reg_page.proofs.LoopLemmas.{mapped}
use Rattle.reg_page.proofs.contested.list_each.Goals as goal

pub loop-one-init : goal.loop-one-init
loop-one-init c = λ m. leads_init (λ (k : Conflict). conflict m.named (conflict_of c.args.described.now (conflict_seen k))) (bytes_of m c.args.blocks.now.items) c.args.conflicts.now

pub loop-one-preserved : goal.loop-one-preserved
loop-one-preserved c = λ m. leads_more {x = c.in-Some.one.now} (c.loop-one.invariant m) c.in-Some.ensures.cases.0 (c.in_ok-list_conflict.ensures m)

pub returns : goal.returns
returns c = λ m.
    mapped (conflict m.named) (λ (k : Conflict). conflict_of c.args.described.now (conflict_seen k)) (bytes_of m c.args.blocks.now.items) c.args.conflicts.now (c.loop-one.invariant m)
    (nil_from_length _ c.in_default.ensures.cases)
