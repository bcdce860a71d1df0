-- Why a register is not kept on a shelf, or not restored.
use Rattle.std.specs.Prelude.{◌≡◌, ◌⊎◌, ℕ, List}
use Rattle.byte_shelf.specs.Keep as slots
use Rattle.byte_shelf.specs.declared.fault.ShelfFault.{ShelfFault}
use Rattle.byte_shelf.specs.declared.fault.ShelfFault.TheVariants as fault
use Rattle.reg_file.specs.Contents.{Content}
use Rattle.reg_file.specs.Files.{IsFileOf}

-- the content's file has more bytes than any slot takes, or than those of this shelf do
abbrev pub IsTooLarge : List ℕ → Content → Type 0
IsTooLarge image x = (bytes : List ℕ) × IsFileOf x bytes × slots.IsTooLarge image bytes

-- a fault with which nothing is kept
abbrev pub IsRestoreFault : ShelfFault → Type 0
IsRestoreFault f = (f ≡ fault.NotShelf) ⊎ (f ≡ fault.Memory) ⊎ (f ≡ fault.DiskFailed)
