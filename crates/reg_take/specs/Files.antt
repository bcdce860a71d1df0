-- Files of registers and pieces that are opened in turn: what each gave.
use Rattle.std.specs.Prelude.{◌≡◌, ◌⊎◌, ◌+◌, ◌++◌, ◌∷◌, [], Bool, true, false, IsTrue, List, ℕ, Option, Some, None, option_map}
use Rattle.std.specs.List.{flat_map}
use Rattle.byte_io.specs.Device.{SourceState}
use Rattle.reg_op.specs.Set as set
use Rattle.reg_op.specs.Ids.{Id}
use Rattle.reg_op.specs.Operations.{Op}
use Rattle.reg_op.specs.declared.operation.OpBody.{OpBody as Body}
use Rattle.reg_op.specs.declared.operation.OpBody.TheVariants.{Enter, Supersede, Retire}
use Rattle.reg_op.specs.Contents.{Content}
use Rattle.reg_op.specs.Pieces.{part_of}
use Rattle.reg_state.specs.Walks.{IsLeastOf}
use Rattle.reg_journal.specs.Journal.{Journal}
use Rattle.reg_journal.specs.Standing.{is_forged, IsHonest}
use Rattle.reg_tree.specs.Offices.{from_offices}
use Rattle.reg_file.specs.Parts.{FindsPart}
use Rattle.reg_file.specs.declared.parts.Part.{Part}
use Rattle.reg_file.specs.declared.parts.Part.TheVariants as part
use Rattle.reg_file.specs.declared.fault.ReadFileFault.{ReadFileFault}
use Rattle.reg_file.specs.declared.fault.ReadFileFault.TheVariants as reading
use Rattle.reg_engine.specs.declared.fault.InputFault.{InputFault}
use Rattle.reg_engine.specs.declared.fault.InputFault.TheVariants as file
use Rattle.reg_engine.specs.declared.fault.CliFault.{CliFault}
use Rattle.reg_engine.specs.declared.fault.CliFault.TheVariants as cli
use Rattle.reg_engine.specs.Fault.{file_fault}
use Rattle.reg_engine.specs.Inputs.{IsPartFault}
use Rattle.reg_take.specs.declared.options.TakeOptions.{TakeOptions}
use Rattle.reg_take.specs.declared.files.Arrival.{Arrival}
use Rattle.reg_take.specs.declared.files.Arrival.TheVariants as arrival

-- a file: what it gave, and whether it failed to open
pub record FileState : Type 0 where
  pub source : SourceState
  pub shut : Bool

abbrev pub file_state : SourceState → Bool → FileState
file_state source shut = record { source = source; shut = shut }

-- the fault of the file with this number, which may have failed to open
abbrev pub fault_in : ℕ → Bool → ReadFileFault → CliFault
fault_in number true (reading.ReadFailed n) = cli.File number file.NotOpened
fault_in number false (reading.ReadFailed n) = file_fault number (reading.ReadFailed n)
fault_in number shut (reading.File f place) = file_fault number (reading.File f place)
fault_in number shut reading.TooLarge = file_fault number reading.TooLarge
fault_in number shut reading.Memory = file_fault number reading.Memory

-- why a file gave neither a register nor a piece
abbrev pub IsFault : InputFault → FileState → FileState → Type 0
IsFault file.NotOpened old new = IsTrue new.shut × ((n : ℕ) × IsPartFault (file.ReadFailed n) old.source new.source)
IsFault (file.ReadFailed n) old new = (new.shut ≡ false) × IsPartFault (file.ReadFailed n) old.source new.source
IsFault file.TooLarge old new = IsPartFault file.TooLarge old.source new.source
IsFault (file.BadFile f place) old new = IsPartFault (file.BadFile f place) old.source new.source
IsFault file.Busy old new = ⊥
IsFault file.NotOffice old new = ⊥

-- that of this number has this fault
abbrev pub HasFault : ℕ → FileState → FileState → CliFault → Type 0
HasFault number old new (cli.Refused r) = ⊥
HasFault number old new (cli.File k f) = (k ≡ number) × IsFault f old new
HasFault number old new (cli.Out f) = ⊥
HasFault number old new cli.Memory = ⊥
HasFault number old new (cli.Shelf p) = ⊥
HasFault number old new (cli.Office t) = ⊥

-- it was not read, for this reason
abbrev pub IsUnread : ℕ → FileState → FileState → CliFault → Type 0
IsUnread number old new f = (f ≡ cli.Memory) ⊎ HasFault number old new f

-- what is joined of a part: all of it, unless offices are named; then what the part has of these offices, as a register
abbrev pub brought : List (List ℕ) → Part → Part
brought [] p = p
brought (u ∷ us) (part.Register x) = part.Register (from_offices (u ∷ us) x)
brought (u ∷ us) (part.Piece p) = part.Register (from_offices (u ∷ us) (part_of p))

-- the operations and the numbers that a part brings
abbrev pub content_of : Part → Content
content_of (part.Register x) = x
content_of (part.Piece p) = part_of p

abbrev pub arrived : Part → Arrival
arrived (part.Register x) = arrival.Register x
arrived (part.Piece p) = arrival.Piece p

-- the office file that tells which numbers its office gave, if there is one
abbrev pub judged : TakeOptions → Option Journal
judged how = option_map (λ f. f.now) how.office

-- nobody else gave a number in the office's name
abbrev pub IsHonestTo : Option Journal → Content → Type 0
IsHonestTo None x = Unit {0}
IsHonestTo (Some f) x = IsHonest f x

-- somebody did, and this is the least such number
abbrev pub IsForgedTo : Option Journal → Content → Id → Type 0
IsForgedTo None x id = ⊥
IsForgedTo (Some f) x id = IsLeastOf (is_forged f x) id

-- this arrives of what is joined of a part: all of it; or the number that somebody else gave in the office's name
abbrev pub IsScreened : Option Journal → Part → Arrival → Type 0
IsScreened office p (arrival.Register x) = (arrival.Register x ≡ arrived p) × IsHonestTo office (content_of p)
IsScreened office p (arrival.Piece q) = (arrival.Piece q ≡ arrived p) × IsHonestTo office (content_of p)
IsScreened office p (arrival.Unread k f) = ⊥
IsScreened office p (arrival.Forged id) = IsForgedTo office (content_of p) id

-- the file of some part was read, and this arrives of it
abbrev pub Brings : TakeOptions → FileState → FileState → Arrival → Type 0
Brings how old new a = (p : Part) × FindsPart old.source new.source p × IsScreened (judged how) (brought how.offices.items p) a

-- what a file gave: what arrives of it; or this fault, after which the command continues
abbrev pub IsArrival : TakeOptions → ℕ → FileState → FileState → Arrival → Type 0
IsArrival how number old new (arrival.Register x) = Brings how old new (arrival.Register x)
IsArrival how number old new (arrival.Piece p) = Brings how old new (arrival.Piece p)
IsArrival how number old new (arrival.Unread k f) = IsTrue how.keep_going × HasFault number old new (cli.File k f)
IsArrival how number old new (arrival.Forged id) = Brings how old new (arrival.Forged id)

-- the command ends with this fault
abbrev pub IsLast : TakeOptions → ℕ → FileState → FileState → CliFault → Type 0
IsLast how number old new f = (f ≡ cli.Memory) ⊎ ((how.keep_going ≡ false) × HasFault number old new f)

-- each file, in order: the first has this number, and the others one more each
abbrev pub AreArrivals : TakeOptions → ℕ → List FileState → List FileState → List Arrival → Type 0
AreArrivals how number [] [] [] = Unit {0}
AreArrivals how number [] [] (a ∷ gave) = ⊥
AreArrivals how number [] (n ∷ ns) gave = ⊥
AreArrivals how number (o ∷ os) [] gave = ⊥
AreArrivals how number (o ∷ os) (n ∷ ns) [] = ⊥
AreArrivals how number (o ∷ os) (n ∷ ns) (a ∷ gave) = IsArrival how number o n a × AreArrivals how (number + 1) os ns gave

-- ---- what is not joined of files, where offices are named

-- the entry that an operation retires
abbrev pub retired_in_body : Body → List Id
retired_in_body (Enter text) = []
retired_in_body (Supersede old newer) = []
retired_in_body (Retire entry) = entry ∷ []

abbrev pub retired_by : List Op → List Id
retired_by os = flat_map (λ (o : Op). retired_in_body o.body) os

-- the entries that are retired in a part, where offices are named
abbrev pub retired_in : List (List ℕ) → Part → List Id
retired_in [] p = []
retired_in (u ∷ us) p = retired_by (set.items (content_of p).ops)

-- a file gave a part in which these entries are retired; or it was not read, and the command continues
abbrev pub IsRetiredIn : TakeOptions → ℕ → FileState → FileState → List Id → Type 0
IsRetiredIn how number old new ids = ((p : Part) × FindsPart old.source new.source p × (ids ≡ retired_in how.offices.items p))
    ⊎ (IsTrue how.keep_going × ((k : ℕ) × (f : InputFault) × HasFault number old new (cli.File k f)) × (ids ≡ []))

-- these are retired in the files, in their order: the first file has this number, and the others one more each
abbrev pub AreRetired : TakeOptions → ℕ → List FileState → List FileState → List Id → Type 0
AreRetired how number [] [] ids = ids ≡ []
AreRetired how number [] (n ∷ ns) ids = ⊥
AreRetired how number (o ∷ os) [] ids = ⊥
AreRetired how number (o ∷ os) (n ∷ ns) ids = (these : List Id) × (rest : List Id) × IsRetiredIn how number o n these × AreRetired how (number + 1) os ns rest × (ids ≡ these ++ rest)

-- one has this fault; each before it gave the file of a part, and those after it were not read
abbrev pub StopsAt : ℕ → CliFault → List FileState → List FileState → Type 0
StopsAt number f [] new = ⊥
StopsAt number f (o ∷ os) [] = ⊥
StopsAt number f (o ∷ os) (n ∷ ns) = (HasFault number o n f × (ns ≡ os)) ⊎ (((p : Part) × FindsPart o.source n.source p) × StopsAt (number + 1) f os ns)

-- not all were read: out of memory, or the first fault of a file ends the command
abbrev pub IsStopped : TakeOptions → ℕ → List FileState → List FileState → CliFault → Type 0
IsStopped how number old new f = (f ≡ cli.Memory) ⊎ ((how.keep_going ≡ false) × StopsAt number f old new)
