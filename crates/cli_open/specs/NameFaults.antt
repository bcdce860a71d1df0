-- How a command ends that cannot read its file of names.
use Rattle.std.specs.Prelude.{ℕ, Bool, true, false, if◌then◌else◌}
use Rattle.csv_table.specs.declared.offices.fault.NamesFault.TheVariants as fault
use Rattle.reg_engine.specs.declared.fault.CliFault.TheVariants as cli
use Rattle.reg_engine.specs.Fault.{status_of}
use Rattle.cli_open.specs.declared.naming.NamesProblem.{NamesProblem}
use Rattle.cli_open.specs.declared.naming.NamesProblem.TheVariants as problem

-- whether memory ran out
abbrev pub is_memory : NamesProblem → Bool
is_memory problem.Memory = true
is_memory (problem.Unread fault.Memory) = true
is_memory p = false

-- the exit status: that of any fault of memory, or that for a file
abbrev pub names_status : NamesProblem → ℕ
names_status p = if is_memory p then status_of cli.Memory else 3
