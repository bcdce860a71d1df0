-- The effects of commands on the disk of a shelf, and the commands that make a shelf or write its register to a file.
use Rattle.std.specs.Prelude.{◌≡◌, ◌⊎◌, ◌+◌, Bool, IsTrue, List, [], ℕ}
use Rattle.byte_disk.specs.Disk.{Only, SameImages, LeavesOnly}
use Rattle.byte_shelf.specs.Shelf.{IsSize, EndsWithin}
use Rattle.byte_shelf.specs.Keep.{AddsNothing}
use Rattle.byte_shelf.specs.declared.keeping.Frame.{Frame}
use Rattle.reg_op.specs.Contents.{Content, nothing}
use Rattle.reg_shelf.specs.Shelf.{IsShelf, IsShelfOf, IsNoShelf, HasFile}
use Rattle.reg_shelf.specs.Keep.{IsTooLarge}
use Rattle.reg_shelf.specs.Ready.{IsReady}
use Rattle.reg_engine.specs.declared.fault.Refusal.TheVariants as refusal
use Rattle.reg_engine.specs.declared.fault.ShelfProblem.{ShelfProblem}
use Rattle.reg_engine.specs.declared.fault.ShelfProblem.TheVariants as problem
use Rattle.reg_engine.specs.declared.fault.CliFault.{CliFault}
use Rattle.reg_engine.specs.declared.fault.CliFault.TheVariants as cli

-- the members of a disk of a type
pub record Disks (D : Type 0) : Type 1 where
  pub tells : D → Bool
  pub seen : D → List ℕ
  pub images : D → List ℕ → Type 0
  pub moment : D → ℕ
  pub since : D → ℕ → List ℕ → Type 0
  pub failures : D → ℕ

abbrev pub disks : {D : Type 0} → (D → Bool) → (D → List ℕ) → (D → List ℕ → Type 0) → (D → ℕ) → (D → ℕ → List ℕ → Type 0) → (D → ℕ) → Disks D
disks tells seen images moment since failures = record { tells = tells; seen = seen; images = images; moment = moment; since = since; failures = failures }

-- ---- the content of a disk

-- if it tells, it reads as a shelf of the content; as a shelf of none
abbrev pub Has : {D : Type 0} → Disks D → D → Content → Type 0
Has d old x = IsTrue (d.tells old) → IsShelf (d.seen old) x

abbrev pub HasNoContent : {D : Type 0} → Disks D → D → Type 0
HasNoContent d old = IsTrue (d.tells old) → IsNoShelf (d.seen old)

-- a stop leaves nothing but what it reads as
abbrev pub IsSure : {D : Type 0} → Disks D → D → Type 0
IsSure d now = IsTrue (d.tells now) → Only (d.seen now) (d.images now)

-- ---- the effect of a command on the disk

-- it reads as before, and a stop leaves nothing that it might not have left before
abbrev pub AddsNothingTo : {D : Type 0} → Disks D → D → D → Type 0
AddsNothingTo d old new = IsTrue (d.tells old) → AddsNothing d.seen d.images d.moment d.since old new

-- nor did it fail
pub record StaysOn {D : Type 0} (d : Disks D) (old new : D) : Type 0 where
  pub quiet : d.failures new ≡ d.failures old
  pub nothing : AddsNothingTo d old new

-- of a shelf of the first content and of this size, a stop on the way leaves what it might have left before, or a shelf of that size
-- of the first content, or of the second
abbrev pub PassesOn : {D : Type 0} → Disks D → Content → Content → D → D → Type 0
PassesOn d x y old new = IsTrue (d.tells old) → (size : ℕ) → IsShelfOf (d.seen old) size x
    → LeavesOnly d.moment d.since old new (λ c. d.images old c ⊎ (IsShelfOf c size x ⊎ IsShelfOf c size y))

-- the slots of a shelf of the first content keep their size under the second, and the disk does not grow past them
abbrev pub KeepsSize : {D : Type 0} → Disks D → Content → Content → D → D → Type 0
KeepsSize d x y old new = IsTrue (d.tells old) → (size : ℕ) → IsShelfOf (d.seen old) size x → IsShelfOf (d.seen new) size y × EndsWithin size (d.seen old) (d.seen new)

-- a shelf of the first content is now one of the second, and a stop leaves nothing else
pub record KeepsOn {D : Type 0} (d : Disks D) (x y : Content) (old new : D) : Type 0 where
  pub quiet : d.failures new ≡ d.failures old
  pub file : HasFile y
  pub has : Has d new y
  pub sized : KeepsSize d x y old new
  pub sure : IsSure d new
  pub passes : PassesOn d x y old new

-- it failed, once
abbrev pub Fails : {D : Type 0} → Disks D → D → D → Type 0
Fails d old new = d.failures new ≡ d.failures old + 1

-- the content has too many bytes for the shelf as which the disk reads
abbrev pub HasNoRoom : {D : Type 0} → Disks D → D → Content → Type 0
HasNoRoom d old y = IsTrue (d.tells old) → IsTooLarge (d.seen old) y

-- ---- the steps

-- why no register was restored; nothing changed
abbrev pub IsUnrestored : {D : Type 0} → Disks D → D → D → CliFault → Type 0
IsUnrestored d old new (cli.Refused r) = ⊥
IsUnrestored d old new (cli.File k f) = ⊥
IsUnrestored d old new (cli.Out f) = ⊥
IsUnrestored d old new cli.Memory = StaysOn d old new
IsUnrestored d old new (cli.Shelf problem.NotOpened) = ⊥
IsUnrestored d old new (cli.Shelf problem.Busy) = ⊥
IsUnrestored d old new (cli.Shelf problem.NotLocked) = ⊥
IsUnrestored d old new (cli.Shelf problem.NotShelf) = HasNoContent d old × StaysOn d old new
IsUnrestored d old new (cli.Shelf problem.TooLarge) = ⊥
IsUnrestored d old new (cli.Shelf problem.DiskFailed) = Fails d old new × AddsNothingTo d old new
IsUnrestored d old new (cli.Office t) = ⊥

-- why the second content was not kept; a disk that tells is known to read as a shelf
abbrev pub IsUnkept : {D : Type 0} → Disks D → Content → Content → D → D → CliFault → Type 0
IsUnkept d x y old new (cli.Refused r) = ⊥
IsUnkept d x y old new (cli.File k f) = ⊥
IsUnkept d x y old new (cli.Out f) = ⊥
IsUnkept d x y old new cli.Memory = StaysOn d old new
IsUnkept d x y old new (cli.Shelf problem.NotOpened) = ⊥
IsUnkept d x y old new (cli.Shelf problem.Busy) = ⊥
IsUnkept d x y old new (cli.Shelf problem.NotLocked) = ⊥
IsUnkept d x y old new (cli.Shelf problem.NotShelf) = (IsTrue (d.tells old) → ⊥) × StaysOn d old new
IsUnkept d x y old new (cli.Shelf problem.TooLarge) = HasNoRoom d old y × StaysOn d old new
IsUnkept d x y old new (cli.Shelf problem.DiskFailed) = Fails d old new × PassesOn d x y old new
IsUnkept d x y old new (cli.Office t) = ⊥

-- the content has a file, and on a disk that tells the frame is ready with it
abbrev pub IsReadyOn : {D : Type 0} → Disks D → D → Content → Frame → Type 0
IsReadyOn d now y frame = HasFile y × (IsTrue (d.tells now) → IsReady (d.seen now) y frame)

-- why no frame was made ready for the content; nothing was written
abbrev pub IsUnready : {D : Type 0} → Disks D → Content → D → D → CliFault → Type 0
IsUnready d y old new (cli.Refused r) = ⊥
IsUnready d y old new (cli.File k f) = ⊥
IsUnready d y old new (cli.Out f) = ⊥
IsUnready d y old new cli.Memory = StaysOn d old new
IsUnready d y old new (cli.Shelf problem.NotOpened) = ⊥
IsUnready d y old new (cli.Shelf problem.Busy) = ⊥
IsUnready d y old new (cli.Shelf problem.NotLocked) = ⊥
IsUnready d y old new (cli.Shelf problem.NotShelf) = (IsTrue (d.tells old) → ⊥) × StaysOn d old new
IsUnready d y old new (cli.Shelf problem.TooLarge) = HasNoRoom d old y × StaysOn d old new
IsUnready d y old new (cli.Shelf problem.DiskFailed) = Fails d old new × AddsNothingTo d old new
IsUnready d y old new (cli.Office t) = ⊥

-- why the frame with the second content was not put on the shelf: the disk failed, and nothing else can be the reason
abbrev pub IsUnput : {D : Type 0} → Disks D → Content → Content → D → D → CliFault → Type 0
IsUnput d x y old new f = (f ≡ cli.Shelf problem.DiskFailed) × Fails d old new × PassesOn d x y old new

-- ---- a command that makes one content of another

-- the problem of the shelf: it was not read, and neither was anything else; or it was, and the new content is not kept
abbrev pub IsShelfFault : {D : Type 0} → Disks D → Type 0 → (Content → Content → Type 0) → D → D → ShelfProblem → Type 0
IsShelfFault d Unread Makes old new p = (IsUnrestored d old new (cli.Shelf p) × Unread)
    ⊎ ((x : Content) × (y : Content) × Has d old x × Makes x y × IsUnkept d x y old new (cli.Shelf p))

-- ---- a new shelf

-- the disk was opened, once, which emptied it
pub record IsEmptied {D : Type 0} (d : Disks D) (openings : D → ℕ) (old new : D) : Type 0 where
  pub opened : openings new ≡ openings old + 1
  pub quiet : d.failures new ≡ d.failures old
  pub empty : IsTrue (d.tells old) → d.seen new ≡ []

-- the disk was opened, and made a shelf of the empty register, of this size
pub record IsNewShelf {D : Type 0} (d : Disks D) (openings : D → ℕ) (size : ℕ) (old new : D) : Type 0 where
  pub between : D
  pub emptied : IsEmptied d openings old between
  pub quiet : d.failures new ≡ d.failures old
  pub sized : IsSize size
  pub has : IsTrue (d.tells new) → IsShelfOf (d.seen new) size nothing
  pub sure : IsSure d new

-- why it was not; of a size that no shelf has nothing is opened, and without memory it is left empty
abbrev pub IsUnformatted : {D : Type 0} → Disks D → (D → ℕ) → ℕ → D → D → CliFault → Type 0
IsUnformatted d openings size old new (cli.Refused refusal.BadSize) = (IsSize size → ⊥) × (new ≡ old)
IsUnformatted d openings size old new (cli.Refused r) = ⊥
IsUnformatted d openings size old new (cli.File k f) = ⊥
IsUnformatted d openings size old new (cli.Out f) = ⊥
IsUnformatted d openings size old new cli.Memory = IsSize size × IsEmptied d openings old new
IsUnformatted d openings size old new (cli.Shelf problem.NotOpened) = IsSize size × Fails d old new × (openings new ≡ openings old)
    × (IsTrue (d.tells old) → (d.seen new ≡ d.seen old) × SameImages (d.images old) (d.images new))
IsUnformatted d openings size old new (cli.Shelf problem.Busy) = ⊥
IsUnformatted d openings size old new (cli.Shelf problem.NotLocked) = ⊥
IsUnformatted d openings size old new (cli.Shelf problem.NotShelf) = ⊥
IsUnformatted d openings size old new (cli.Shelf problem.TooLarge) = ⊥
IsUnformatted {D = D} d openings size old new (cli.Shelf problem.DiskFailed) = IsSize size × Fails d old new × ((between : D) × IsEmptied d openings old between)
IsUnformatted d openings size old new (cli.Office t) = ⊥
