-- The law of the command that supersedes from a list.
use Rattle.std.specs.Prelude.{ℕ, List}
use Rattle.byte_io.specs.Device.{SourceState}
use Rattle.reg_op.specs.Contents.{Content}
use Rattle.reg_engine.specs.declared.fault.CliFault.{CliFault}
use Rattle.reg_engine.specs.declared.fault.CliFault.TheVariants as cli
use Rattle.reg_engine.specs.WholeFile.{IsUnread}
use Rattle.reg_supersede.specs.declared.fault.RefusedLine.{RefusedLine}
use Rattle.reg_supersede.specs.Lists.{Task}
use Rattle.reg_supersede.specs.Engine.{CannotSupersede}

-- a list that was not read supersedes nothing, whatever the register is
pub unread_is_refused : (t : Task) (number : ℕ) (old new : SourceState) (bytes : List ℕ) (x : Content) (before told : List RefusedLine) (f : CliFault) → IsUnread number old new f
    → CannotSupersede t number old new bytes x before told f
unread_is_refused t number old new bytes x before told (cli.Refused r) h = absurd h
unread_is_refused t number old new bytes x before told (cli.File k f) h = h
unread_is_refused t number old new bytes x before told (cli.Out f) h = absurd h
unread_is_refused t number old new bytes x before told cli.Memory h = tt
unread_is_refused t number old new bytes x before told (cli.Shelf p) h = absurd h
unread_is_refused t number old new bytes x before told (cli.Office n) h = absurd h
