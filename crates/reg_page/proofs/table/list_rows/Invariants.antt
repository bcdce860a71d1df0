use Rattle.std.proofs.Common.{map, take}
use Rattle.std.specs.Borrow.{Bor}
use Rattle.std.specs.List.{flat_map}
use Rattle.html_page.specs.Templates.{entry}
use Rattle.reg_page.specs.declared.described.Described.{Described}
use Rattle.reg_page.specs.Blocks.{Setting, Lists}
use Rattle.reg_report.specs.Contenders.{conflict_seen}
use Rattle.reg_page.specs.Descriptions.{at}
use Rattle.reg_page.specs.Page.{row_of}
use Rattle.reg_page.proofs.table.list_rows.Given as goal

abbrev pub invariant-loop-i : goal.invariant-loop-i
invariant-loop-i l = (m : Setting) → Lists m l.initial.blocks.items l.blocks.items (flat_map (entry m.named) (map (λ (t : Bor Described). row_of m.ops m.described m.acts (map conflict_seen l.conflicts) (at l.told) t.now) (take l.i l.rows)))
