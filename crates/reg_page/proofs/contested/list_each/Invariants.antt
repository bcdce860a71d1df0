use Rattle.std.proofs.Common.{◌++◌, length}
use Rattle.std.specs.List.{flat_map}
use Rattle.html_page.specs.Pieces.{html}
use Rattle.html_page.proofs.JoinLemmas.{Leads}
use Rattle.reg_report.specs.declared.conflict.Conflict.{Conflict}
use Rattle.reg_report.specs.Contenders.{conflict_seen}
use Rattle.html_page.specs.Templates.{conflict}
use Rattle.reg_page.specs.Blocks.{Setting, bytes_of}
use Rattle.reg_page.specs.Page.{conflict_of}
use Rattle.reg_page.proofs.contested.list_each.Given as goal

abbrev pub invariant-loop-one : goal.invariant-loop-one
invariant-loop-one l = (m : Setting) → Leads (λ (k : Conflict). conflict m.named (conflict_of l.described (conflict_seen k))) (bytes_of m l.blocks.items) l.rest
    (bytes_of m l.initial.blocks.items ++ html (flat_map (λ (k : Conflict). conflict m.named (conflict_of l.described (conflict_seen k))) l.conflicts))

abbrev pub decreases-loop-one : goal.decreases-loop-one
decreases-loop-one l = length l.rest
