use Rattle.std.proofs.Common.{◌≡◌, ◌++◌, length}
use Rattle.crs_export.specs.SqlQuotes.{escaped}
use Rattle.crs_export.proofs.sql_quotes.push_escaped.Given as goal

abbrev pub invariant-loop-byte : goal.invariant-loop-byte
invariant-loop-byte l = l.text.items ++ escaped l.rest ≡ l.initial.text.items ++ escaped l.bytes

abbrev pub decreases-loop-byte : goal.decreases-loop-byte
decreases-loop-byte l = length l.rest
