use Rattle.std.proofs.Common.{◌++◌, length, ℕ}
use Rattle.std.specs.List.{flat_map}
use Rattle.html_page.specs.Pieces.{html}
use Rattle.html_page.proofs.JoinLemmas.{Leads}
use Rattle.std.specs.Global.{Vec}
use Rattle.html_page.specs.Templates.{area}
use Rattle.reg_page.proofs.entries.push_areas.Given as goal

abbrev pub invariant-loop-one : goal.invariant-loop-one
invariant-loop-one l = Leads (λ (a : Vec ℕ). area a.items) l.page.items l.rest (l.initial.page.items ++ html (flat_map (λ (a : Vec ℕ). area a.items) l.areas))

abbrev pub decreases-loop-one : goal.decreases-loop-one
decreases-loop-one l = length l.rest
