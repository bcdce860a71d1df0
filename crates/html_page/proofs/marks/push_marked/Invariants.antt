use Rattle.std.proofs.Common.{◌≡◌, ◌++◌, length}
use Rattle.html_page.specs.Escaped.{escaped}
use Rattle.html_page.specs.Marks.{marked}
use Rattle.html_page.proofs.marks.push_marked.Given as goal

abbrev pub invariant-loop-byte : goal.invariant-loop-byte
invariant-loop-byte l = l.page.items ++ escaped (marked l.feeds l.rest) ≡ l.initial.page.items ++ escaped (marked l.feeds l.text)

abbrev pub decreases-loop-byte : goal.decreases-loop-byte
decreases-loop-byte l = length l.rest
