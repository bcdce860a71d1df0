use Rattle.std.proofs.Common.{◌++◌, length}
use Rattle.std.specs.List.{flat_map}
use Rattle.html_page.specs.Pieces.{html}
use Rattle.html_page.proofs.JoinLemmas.{Leads}
use Rattle.html_page.specs.Templates.{map_of}
use Rattle.reg_page.specs.declared.boxes.Edges.{Edges}
use Rattle.reg_page.specs.Boxes.{box_seen}
use Rattle.reg_page.proofs.entries.push_maps.Given as goal

abbrev pub invariant-loop-one : goal.invariant-loop-one
invariant-loop-one l = Leads (λ (e : Edges). map_of (box_seen e)) l.page.items l.rest (l.initial.page.items ++ html (flat_map (λ (e : Edges). map_of (box_seen e)) l.boxes))

abbrev pub decreases-loop-one : goal.decreases-loop-one
decreases-loop-one l = length l.rest
