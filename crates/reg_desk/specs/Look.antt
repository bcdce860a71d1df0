-- Files and shelves that are inspected: the register that each has, or its fault.
use Rattle.std.specs.Prelude.{◌≡◌, ◌⊎◌, ℕ, ◌≤◌, ◌<◌, Bool, true, false, IsTrue, List, [], ◌∷◌, length, Result, Ok, Err}
use Rattle.byte_io.specs.Device.{SourceState}
use Rattle.reg_op.specs.Contents.{Content}
use Rattle.reg_file.specs.Files.{most, ReadsAs, ReadsBytes}
use Rattle.reg_file.specs.Reading.{HasFault}
use Rattle.reg_engine.specs.declared.fault.InputFault.{InputFault}
use Rattle.reg_engine.specs.declared.fault.InputFault.TheVariants as file
use Rattle.reg_engine.specs.declared.fault.ShelfProblem.{ShelfProblem}
use Rattle.reg_engine.specs.declared.fault.ShelfProblem.TheVariants as problem
use Rattle.reg_engine.specs.declared.fault.CliFault.TheVariants as cli
use Rattle.reg_engine.specs.Inputs.{IsFileFault}
use Rattle.reg_engine.specs.Shelf.{Disks, StaysOn, IsUnrestored}
use Rattle.reg_shelf.specs.Shelf.{IsShelf}
use Rattle.reg_query.specs.Figures.{AreFigures}
use Rattle.reg_desk.specs.declared.look.Look.{Look}
use Rattle.reg_desk.specs.declared.look.Look.TheVariants as look
use Rattle.reg_desk.specs.declared.look.OpenedDisk.{OpenedDisk}
use Rattle.reg_desk.specs.declared.look.OpenedDisk.TheVariants as opened

-- some bytes are not a register's file, and this is their first fault
abbrev pub IsNoRegister : List ℕ → InputFault → Type 0
IsNoRegister bytes (file.BadFile f place) = (length bytes ≤ most) × HasFault bytes f place
IsNoRegister bytes f = ⊥

-- the inspection of a register with this file size
abbrev pub IsLookOf : Content → ℕ → Look → Type 0
IsLookOf x n (look.Figures m figures) = (m ≡ n) × AreFigures x figures
IsLookOf x n (look.NoRegister m f) = ⊥
IsLookOf x n (look.Unread f) = ⊥
IsLookOf x n (look.NoShelf p) = ⊥

-- the result for some bytes
abbrev pub HasLook : List ℕ → Look → Type 0
HasLook bytes (look.Figures n figures) = (n ≡ length bytes) × ((x : Content) × ReadsAs bytes x × AreFigures x figures)
HasLook bytes (look.NoRegister n f) = (n ≡ length bytes) × IsNoRegister bytes f
HasLook bytes (look.Unread f) = (f ≡ file.TooLarge) × (most < length bytes)
HasLook bytes (look.NoShelf p) = ⊥

-- the source gave all its bytes, and this is what they have; or it was not read whole, for this reason
abbrev pub IsLook : SourceState → SourceState → Look → Type 0
IsLook old new (look.Figures n figures) = (bytes : List ℕ) × ReadsBytes old new bytes × HasLook bytes (look.Figures n figures)
IsLook old new (look.NoRegister n f) = (bytes : List ℕ) × ReadsBytes old new bytes × HasLook bytes (look.NoRegister n f)
IsLook old new (look.Unread (file.BadFile f place)) = ⊥
IsLook old new (look.Unread f) = IsFileFault f old new
IsLook old new (look.NoShelf p) = ⊥

-- a file that was not read, since it did not open
abbrev pub unopened_if : Bool → InputFault → InputFault
unopened_if true (file.ReadFailed n) = file.NotOpened
unopened_if true f = f
unopened_if false f = f

-- the look at a file whose first read failed to open it, or did not
abbrev pub look_if : Bool → Look → Look
look_if shut (look.Figures n figures) = look.Figures n figures
look_if shut (look.NoRegister n f) = look.NoRegister n f
look_if shut (look.Unread f) = look.Unread (unopened_if shut f)
look_if shut (look.NoShelf p) = look.NoShelf p

-- the same of a file that is opened at its first read: if that failed to open it, the file is not opened
abbrev pub LateLooksAt : SourceState → SourceState → Bool → Look → Type 0
LateLooksAt old new shut l = (seen : Look) × IsLook old new seen × (l ≡ look_if shut seen)

-- the disk reads as a shelf with a file of this size, of a register with these figures, and is unchanged; or nothing was
-- restored, for this reason
abbrev pub IsShelfLook : {D : Type 0} → Disks D → D → D → Look → Type 0
IsShelfLook d old new (look.Figures n figures) = (x : Content) × (IsTrue (d.tells old) → (s : IsShelf (d.seen old) x) × (n ≡ length s.bytes)) × AreFigures x figures × StaysOn d old new
IsShelfLook d old new (look.NoRegister n f) = ⊥
IsShelfLook d old new (look.Unread f) = ⊥
IsShelfLook d old new (look.NoShelf p) = IsUnrestored d old new (cli.Shelf p)

-- the look for the bytes of a shelf: their number and the figures of their register; or that they are the file of none
abbrev pub IsRegisterLook : List ℕ → Look → Type 0
IsRegisterLook bytes (look.Figures n figures) = HasLook bytes (look.Figures n figures)
IsRegisterLook bytes (look.NoRegister n f) = ⊥
IsRegisterLook bytes (look.Unread f) = ⊥
IsRegisterLook bytes (look.NoShelf p) = (p ≡ problem.NotShelf) × ((x : Content) → ReadsAs bytes x → ⊥)

-- ---- opened or not

abbrev pub itself : {T : Type 0} → T → T
itself it = it

-- the state of a disk, or why it was not opened
abbrev pub opened_state : {S T : Type 0} → (S → T) → OpenedDisk S → Result T ShelfProblem
opened_state state (opened.Source source) = Ok (state source)
opened_state state (opened.Unopened p) = Err p

-- the result for it; that of a disk that was not opened is the reason
abbrev pub LooksAt : {T : Type 0} → (T → T → Look → Type 0) → Result T ShelfProblem → Result T ShelfProblem → Look → Type 0
LooksAt Is (Err p) (Err q) l = l ≡ look.NoShelf p
LooksAt Is (Err p) (Ok new) l = ⊥
LooksAt Is (Ok old) (Err q) l = ⊥
LooksAt Is (Ok old) (Ok new) l = Is old new l

-- a disk tells what it told before
abbrev pub StillTells : {D : Type 0} → Disks D → D → D → Type 0
StillTells d old new = d.tells new ≡ d.tells old

abbrev pub ShelfLooksAt : {D : Type 0} → Disks D → Result D ShelfProblem → Result D ShelfProblem → Look → Type 0
ShelfLooksAt d = LooksAt (λ old new l. IsShelfLook d old new l × StillTells d old new)

-- a disk that was opened is unchanged
abbrev pub StaysAt : {T : Type 0} → (T → T → Type 0) → Result T ShelfProblem → Result T ShelfProblem → Type 0
StaysAt Stays (Err p) (Err q) = q ≡ p
StaysAt Stays (Err p) (Ok new) = ⊥
StaysAt Stays (Ok old) (Err q) = ⊥
StaysAt Stays (Ok old) (Ok new) = Stays old new

abbrev pub ShelfStaysAt : {D : Type 0} → Disks D → Result D ShelfProblem → Result D ShelfProblem → Type 0
ShelfStaysAt d = StaysAt (λ old new. StaysOn d old new × StillTells d old new)

-- the result for each, in order
abbrev pub AreLooks : {T : Type 0} → (T → T → Look → Type 0) → List T → List T → List Look → Type 0
AreLooks At [] [] [] = Unit {0}
AreLooks At [] [] (l ∷ ls) = ⊥
AreLooks At [] (n ∷ ns) ls = ⊥
AreLooks At (o ∷ os) [] ls = ⊥
AreLooks At (o ∷ os) (n ∷ ns) [] = ⊥
AreLooks At (o ∷ os) (n ∷ ns) (l ∷ ls) = At o n l × AreLooks At os ns ls

-- each was inspected, up to one where memory ran out: that one is unchanged or untouched, and those after it are untouched
abbrev pub AreLeft : {T : Type 0} → (T → T → Look → Type 0) → (T → T → Type 0) → List T → List T → Type 0
AreLeft At Stays [] new = new ≡ []
AreLeft At Stays (o ∷ os) [] = ⊥
AreLeft At Stays (o ∷ os) (n ∷ ns) = (((l : Look) × At o n l) × AreLeft At Stays os ns) ⊎ (((n ≡ o) ⊎ Stays o n) × (ns ≡ os))
