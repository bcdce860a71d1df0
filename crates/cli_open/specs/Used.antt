-- The office file of a command.
use Rattle.std.specs.Prelude.{Option, Some, None}
use Rattle.clap.specs.declared.parser.matches.ValueSource.{ValueSource}
use Rattle.clap.specs.declared.parser.matches.ValueSource.TheVariants as source

-- the office file that is named, unless the words of the command line have a UUID
abbrev pub used_office : {A : Type 0} → Option ValueSource → Option A → Option A
used_office (Some source.CommandLine) file = None
used_office uuid file = file
