use Rattle.std.proofs.Common.{◌≡◌, ◌++◌, map, take}
use Rattle.html_page.specs.Pieces.{seen, html}
use Rattle.html_page.proofs.pieces.push_each.Given as goal

abbrev pub invariant-loop-piece : goal.invariant-loop-piece
invariant-loop-piece l = l.page.items ≡ l.initial.page.items ++ html (map seen (take l.piece-index l.pieces))
