use Rattle.std.proofs.Common.{◌≡◌, ◌++◌, length}
use Rattle.csv_table.specs.Shown.{shown, shown_from}
use Rattle.csv_table.proofs.offices.shown.named_in.Given as goal

-- the text so far, followed by what the rest becomes, is the whole text
abbrev pub invariant-loop-byte : goal.invariant-loop-byte
invariant-loop-byte l = l.out.items ++ shown_from l.rest l.skip l.starts l.fn.keeps l.fn.names ≡ shown l.fn.keeps l.fn.names l.fn.text

abbrev pub decreases-loop-byte : goal.decreases-loop-byte
decreases-loop-byte l = length l.rest
