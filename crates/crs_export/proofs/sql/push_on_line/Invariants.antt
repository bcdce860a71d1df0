use Rattle.std.proofs.Common.{◌≡◌, ◌++◌, map, take}
use Rattle.crs_export.specs.Sql.{on_line}
use Rattle.crs_export.proofs.sql.push_on_line.Given as goal

abbrev pub invariant-loop-byte : goal.invariant-loop-byte
invariant-loop-byte l = l.text.items ≡ l.fn.text.items ++ map on_line (take l.byte-index l.bytes)
