use Rattle.std.proofs.Common.{◌≡◌, ◌++◌, length}
use Rattle.std.specs.List.{flat_map}
use Rattle.html_page.specs.Pieces.{html}
use Rattle.html_page.specs.Templates.{pair}
use Rattle.reg_page.specs.Page.{pairs_from}
use Rattle.reg_page.specs.Blocks.{Setting, bytes_of}
use Rattle.reg_page.proofs.contested.list_others.Given as goal

abbrev pub invariant-loop-second : goal.invariant-loop-second
invariant-loop-second l = (m : Setting) → bytes_of m l.blocks.items ++ html (flat_map (pair m.named) (pairs_from l.described l.last l.rest))
    ≡ bytes_of m l.initial.blocks.items ++ html (flat_map (pair m.named) (pairs_from l.described l.fn.first l.others))

abbrev pub decreases-loop-second : goal.decreases-loop-second
decreases-loop-second l = length l.rest
