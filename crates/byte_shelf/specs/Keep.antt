-- The effects of the calls of a shelf on its disk.
use Rattle.std.specs.Prelude.{◌≡◌, ◌⊎◌, ◌<◌, ◌+◌, ℕ, List, length, Ok, Err}
use Rattle.std.specs.declared.result.Result.{Result}
use Rattle.byte_disk.specs.Disk.{LeavesOnly}
use Rattle.byte_shelf.specs.Shelf.{HasHead}
use Rattle.byte_shelf.specs.declared.fault.ShelfFault.{ShelfFault}
use Rattle.byte_shelf.specs.declared.fault.ShelfFault.TheVariants as fault

-- the disk reads as before, and a stop leaves nothing that it might not have left before, then or now
pub record AddsNothing {D : Type 0} (seen : D → List ℕ) (images : D → List ℕ → Type 0) (moment : D → ℕ) (since : D → ℕ → List ℕ → Type 0) (old new : D) : Type 0 where
  pub same : seen new ≡ seen old
  pub fewer : (c : List ℕ) → images new c → images old c
  pub any_moment : LeavesOnly moment since old new (images old)

-- the disk failed once if that is the fault, and otherwise not
abbrev pub CountsFault : {T : Type 0} → Result T ShelfFault → ℕ → ℕ → Type 0
CountsFault (Ok x) old new = new ≡ old
CountsFault (Err fault.BadSize) old new = new ≡ old
CountsFault (Err fault.TooLarge) old new = new ≡ old
CountsFault (Err fault.NotShelf) old new = new ≡ old
CountsFault (Err fault.Memory) old new = new ≡ old
CountsFault (Err fault.DiskFailed) old new = new ≡ old + 1

-- the bytes are more than any shelf takes, or than this one does
abbrev pub IsTooLarge : List ℕ → List ℕ → Type 0
IsTooLarge image bytes = (67108864 < length bytes) ⊎ ((gate : ℕ) × (size : ℕ) × HasHead image gate size × (size < length bytes))
