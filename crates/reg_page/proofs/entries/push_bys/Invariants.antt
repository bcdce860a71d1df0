use Rattle.std.proofs.Common.{◌++◌, length}
use Rattle.std.specs.List.{flat_map}
use Rattle.html_page.specs.Pieces.{html}
use Rattle.html_page.proofs.JoinLemmas.{Leads}
use Rattle.reg_op.specs.Operations.{Op}
use Rattle.html_page.specs.Templates.{by}
use Rattle.reg_page.specs.Page.{links_in, named}
use Rattle.reg_page.proofs.entries.push_bys.Given as goal

abbrev pub invariant-loop-op : goal.invariant-loop-op
invariant-loop-op l = Leads (λ (o : Op). flat_map (by (named l.names)) (links_in l.described l.entry o)) l.page.items l.rest (l.initial.page.items ++ html (flat_map (λ (o : Op). flat_map (by (named l.names)) (links_in l.described l.entry o)) l.acts))

abbrev pub decreases-loop-op : goal.decreases-loop-op
decreases-loop-op l = length l.rest
