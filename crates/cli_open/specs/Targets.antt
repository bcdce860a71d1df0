-- The store of a register that a command changes, or reads in a dry run.
use Rattle.std.specs.Prelude.{◌≡◌, Option, Some, None}
use Rattle.std.specs.Borrow.{Bor}
use Rattle.reg_journal.specs.Journal.{Journal}
use Rattle.reg_engine.specs.declared.kinds.Either.{Either}
use Rattle.reg_engine.specs.declared.kinds.Either.TheVariants as either
use Rattle.reg_guard.specs.declared.store.GuardedFile.{GuardedFile}
use Rattle.reg_guard.specs.declared.store.GuardedShelf.{GuardedShelf}
use Rattle.reg_guard.specs.declared.trying.TriedFile.{TriedFile}
use Rattle.reg_guard.specs.declared.trying.TriedShelf.{TriedShelf}
use Rattle.cli_open.specs.declared.offices.OpenOffice.{OpenOffice}

-- it is one with this office file
abbrev pub HasOffice : {S P D Q : Type 0} → Journal → Either (GuardedFile S P Q) (GuardedShelf D Q) → Type 0
HasOffice office (either.One store) = store.file.now ≡ office
HasOffice office (either.Other store) = store.file.now ≡ office

-- it is one with the office file of the office, if there is one, and otherwise one without
abbrev pub IsStoreOf : {A S P D Q : Type 0} → Option (OpenOffice Q) → Either A (Either (GuardedFile S P Q) (GuardedShelf D Q)) → Type 0
IsStoreOf None (either.One store) = Unit {0}
IsStoreOf (Some office) (either.Other store) = HasOffice office.file store
IsStoreOf office store = ⊥

-- that of a dry run admits a register with this office file
abbrev pub Admits : {S D : Type 0} → Journal → Either (TriedFile S) (TriedShelf D) → Type 0
Admits office (either.One store) = store.file.now ≡ office
Admits office (either.Other store) = store.file.now ≡ office

-- it admits one with the office file, if there is one, and otherwise as it is
abbrev pub IsTriedBy : {A S D : Type 0} → Option (Bor Journal) → Either A (Either (TriedFile S) (TriedShelf D)) → Type 0
IsTriedBy None (either.One store) = Unit {0}
IsTriedBy (Some office) (either.Other store) = Admits office.now store
IsTriedBy office store = ⊥
