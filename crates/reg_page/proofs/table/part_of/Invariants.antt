use Rattle.std.proofs.Common.{◌≡◌, take, filter}
use Rattle.reg_page.specs.Descriptions.{at}
use Rattle.reg_page.specs.Page.{is_among}
use Rattle.reg_page.proofs.table.part_of.Given as goal

abbrev pub invariant-loop-i : goal.invariant-loop-i
invariant-loop-i l = at l.made.items ≡ filter (is_among l.gone l.register.ops) (at (take l.i l.rows))
