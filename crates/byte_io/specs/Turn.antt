-- The state of a file that is opened at its first read.
use Rattle.std.specs.Prelude.{Bool, true, false}
use Rattle.byte_io.specs.declared.late_file.Turn.{Turn}
use Rattle.byte_io.specs.declared.late_file.Turn.TheVariants as turn

-- it did not open
abbrev pub is_shut : {F : Type 0} → Turn F → Bool
is_shut turn.Waits = false
is_shut (turn.Open file) = false
is_shut turn.Closed = false
is_shut turn.Failed = false
is_shut turn.Shut = true

-- it is open
abbrev pub is_open : {F : Type 0} → Turn F → Bool
is_open turn.Waits = false
is_open (turn.Open file) = true
is_open turn.Closed = false
is_open turn.Failed = false
is_open turn.Shut = false
