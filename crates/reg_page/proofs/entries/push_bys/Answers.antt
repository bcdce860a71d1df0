use Rattle.std.proofs.lemmas.List.{nil_from_length}
use Rattle.std.specs.List.{flat_map}
use Rattle.html_page.proofs.JoinLemmas.{leads_init, leads_more}
use Rattle.reg_page.proofs.LoopLemmas.{flattened}
use Rattle.reg_op.specs.Operations.{Op}
use Rattle.html_page.specs.Templates.{by}
use Rattle.reg_page.specs.Page.{links_in, named}
use Rattle.reg_page.proofs.entries.push_bys.Goals as goal

pub loop-op-init : goal.loop-op-init
loop-op-init c = leads_init (λ (o : Op). flat_map (by (named c.args.names.now)) (links_in c.args.described.now c.args.entry o)) c.args.page.now.items c.args.acts.now

pub loop-op-preserved : goal.loop-op-preserved
loop-op-preserved c = leads_more {x = c.in-Some.op.now} c.loop-op.invariant c.in-Some.ensures.cases.0 c.in_ok-push_by.ensures

pub returns : goal.returns
returns c = flattened (by (named c.args.names.now)) (links_in c.args.described.now c.args.entry) c.args.page.now.items c.args.acts.now c.loop-op.invariant (nil_from_length _ c.in_default.ensures.cases)
