use Rattle.std.proofs.Common.{◌≡◌, ◌++◌, length}
use Rattle.html_page.specs.Escaped.{escaped}
use Rattle.html_page.proofs.escaping.push_escaped.Given as goal

abbrev pub invariant-loop-byte : goal.invariant-loop-byte
invariant-loop-byte l = l.page.items ++ escaped l.rest ≡ l.initial.page.items ++ escaped l.text

abbrev pub decreases-loop-byte : goal.decreases-loop-byte
decreases-loop-byte l = length l.rest
