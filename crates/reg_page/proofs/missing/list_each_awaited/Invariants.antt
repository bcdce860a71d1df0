use Rattle.std.proofs.Common.{◌++◌, length}
use Rattle.std.specs.List.{flat_map}
use Rattle.html_page.specs.Pieces.{html}
use Rattle.html_page.proofs.JoinLemmas.{Leads}
use Rattle.html_page.specs.Templates.{awaited}
use Rattle.reg_op.specs.Ids.{Id}
use Rattle.reg_op.specs.Text.{printed}
use Rattle.reg_page.specs.Blocks.{Setting, bytes_of}
use Rattle.reg_page.proofs.missing.list_each_awaited.Given as goal

abbrev pub invariant-loop-id : goal.invariant-loop-id
invariant-loop-id l = (m : Setting) → Leads (λ (i : Id). awaited m.named (printed i)) (bytes_of m l.blocks.items) l.rest
    (bytes_of m l.initial.blocks.items ++ html (flat_map (λ (i : Id). awaited m.named (printed i)) l.ids))

abbrev pub decreases-loop-id : goal.decreases-loop-id
decreases-loop-id l = length l.rest
