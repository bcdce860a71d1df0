-- Whether the register that an import makes has room in its store.
use Rattle.std.specs.Prelude.{ℕ, ◌≤◌, List, IsTrue, length}
use Rattle.byte_shelf.specs.Shelf.{HasHead}
use Rattle.reg_op.specs.Contents.{Content}
use Rattle.reg_file.specs.Files.{Holds, IsTooLarge}
use Rattle.reg_engine.specs.declared.fault.OutFault.TheVariants as out
use Rattle.reg_engine.specs.declared.fault.ShelfProblem.TheVariants as problem
use Rattle.reg_engine.specs.declared.fault.CliFault.{CliFault}
use Rattle.reg_engine.specs.declared.fault.CliFault.TheVariants as cli
use Rattle.reg_engine.specs.Shelf.{Disks, Has, HasNoRoom, StaysOn, IsUnrestored}
use Rattle.reg_engine.specs.Store.{Around, on_shelf}
use Rattle.reg_engine.specs.declared.kinds.Either.{Either}
use Rattle.reg_engine.specs.declared.kinds.Either.TheVariants as either

pub record Room : Type 1 where
  -- the first register was read, the second has room, and nothing was changed
  pub fits : Content → Content → Type 0
  -- the first was read, and the second has no room, or none is known to be there, for this reason
  pub full : Content → Content → CliFault → Type 0

-- ---- a store of one kind or of another

abbrev pub never : Room
never = record { fits = λ x y. ⊥; full = λ x y f. ⊥ }

abbrev pub room_either : {A : Type 0} → {B : Type 0} → (A → A → Room) → (B → B → Room) → Either A B → Either A B → Room
room_either a b (either.One s) (either.One t) = a s t
room_either a b (either.Other s) (either.Other t) = b s t
room_either a b s t = never

-- ---- a file

-- a register has a file that is not too large
abbrev pub HasFile : Content → Type 0
HasFile y = (bytes : List ℕ) × Holds bytes y

-- its file is too large; or there is no memory for it
abbrev pub HasNoFile : Content → CliFault → Type 0
HasNoFile y (cli.Refused r) = ⊥
HasNoFile y (cli.File k f) = ⊥
HasNoFile y (cli.Out out.TooLarge) = IsTooLarge y
HasNoFile y (cli.Out f) = ⊥
HasNoFile y cli.Memory = Unit {0}
HasNoFile y (cli.Shelf p) = ⊥
HasNoFile y (cli.Office t) = ⊥

abbrev pub room_in_file : Around → Room
room_in_file a = record {
  fits = λ x y. a.came x × HasFile y;
  full = λ x y f. a.came x × HasNoFile y f;
}

-- ---- a shelf

-- a register has a file, which is not longer than the slots of the shelf as which the disk reads
abbrev pub HasRoom : {D : Type 0} → Disks D → D → Content → Type 0
HasRoom d old y = (bytes : List ℕ) × Holds bytes y × (IsTrue (d.tells old) → (gate : ℕ) × (size : ℕ) × HasHead (d.seen old) gate size × (length bytes ≤ size))

-- its file is too long for the shelf; or the size of the shelf was not read; the disk stays as it was
abbrev pub IsFull : {D : Type 0} → Disks D → D → D → Content → CliFault → Type 0
IsFull d old new y (cli.Refused r) = ⊥
IsFull d old new y (cli.File k f) = ⊥
IsFull d old new y (cli.Out f) = ⊥
IsFull d old new y cli.Memory = StaysOn d old new
IsFull d old new y (cli.Shelf problem.NotOpened) = ⊥
IsFull d old new y (cli.Shelf problem.Busy) = ⊥
IsFull d old new y (cli.Shelf problem.NotLocked) = ⊥
IsFull d old new y (cli.Shelf problem.NotShelf) = (IsTrue (d.tells old) → ⊥) × StaysOn d old new
IsFull d old new y (cli.Shelf problem.TooLarge) = HasNoRoom d old y × StaysOn d old new
IsFull d old new y (cli.Shelf problem.DiskFailed) = IsUnrestored d old new (cli.Shelf problem.DiskFailed)
IsFull d old new y (cli.Office t) = ⊥

abbrev pub room_on_shelf : {D : Type 0} → Disks D → D → D → Room
room_on_shelf d old new = record {
  fits = λ x y. (on_shelf d old new).came x × HasRoom d old y;
  full = λ x y f. Has d old x × IsFull d old new y f;
}
