-- The numbers of the files that a command reads.
use Rattle.std.specs.Prelude.{ℕ}
use Rattle.cli_open.specs.declared.stores.OpenedRegister.{OpenedRegister}
use Rattle.cli_open.specs.declared.stores.OpenedRegister.TheVariants as opened
use Rattle.cli_open.specs.declared.targets.RegisterTarget.{RegisterTarget}
use Rattle.cli_open.specs.declared.targets.RegisterTarget.TheVariants as target

-- the number of the first file that is read after a register: the register's file is file 1, and a shelf has no number
abbrev pub after_opened : {F : Type 0} → OpenedRegister F → ℕ
after_opened (opened.File source) = 2
after_opened (opened.Shelf disk) = 1

-- the same for a register that is changed
abbrev pub after_target : {F : Type 0} → {P : Type 0} → RegisterTarget F P → ℕ
after_target (target.File source place) = 2
after_target (target.Shelf disk) = 1
