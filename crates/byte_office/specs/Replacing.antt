-- Replacing a file, and an office file before it.
use Rattle.std.specs.Prelude.{◌≡◌, ◌≤◌, List, ℕ, Option, None, length}
use Rattle.byte_io.specs.Publish.{Publishes}
use Rattle.byte_out.specs.Place.{PlaceState, IfReported}
use Rattle.byte_out.specs.Replace.{Replaces, IsReplaceFault, IsKept, FailsWhole, ReportsNone}
use Rattle.byte_out.specs.declared.fault.ReplaceFault.{ReplaceFault}
use Rattle.byte_out.specs.declared.fault.ReplaceFault.TheVariants as replaced
use Rattle.byte_office.specs.Noting.{NotesIf, IsUnnotedIf}
use Rattle.byte_office.specs.declared.fault.UnreplacedFault.{UnreplacedFault}
use Rattle.byte_office.specs.declared.fault.UnreplacedFault.TheVariants as fault

-- the new file was whole, and was removed: the old one still has the name
abbrev pub IsWithdrawn : List ℕ → PlaceState → PlaceState → Type 0
IsWithdrawn bytes old new = Publishes bytes old.sink new.sink × IfReported IsKept old.files new.files

-- the new file was whole, and could not be renamed; or it was, and a stop may leave the old one. A place that does not report its
-- files may also lose the new one to another program, or write in place
abbrev pub IsLate : Option (List ℕ) → List ℕ → PlaceState → PlaceState → ReplaceFault → Type 0
IsLate read bytes old new replaced.NotOpened = FailsWhole bytes old.sink new.sink × IfReported (λ f g. IsKept f g × (f.beside ≡ None)) old.files new.files
IsLate read bytes old new replaced.NewExists = ⊥
IsLate read bytes old new (replaced.WriteFailed n) = (n ≤ length bytes) × FailsWhole bytes old.sink new.sink × ReportsNone old new
IsLate read bytes old new (replaced.ReadFailed n) = ⊥
IsLate read bytes old new replaced.Changed = Publishes bytes old.sink new.sink × ReportsNone old new
IsLate read bytes old new replaced.NotSynced = IsReplaceFault read bytes old new replaced.NotSynced

-- the file has these bytes, and the office file this text, if there is one
abbrev pub ReplacesAfter : Option (List ℕ) → List ℕ → Option (List ℕ) → PlaceState → PlaceState → PlaceState → PlaceState → Type 0
ReplacesAfter read bytes text old new office noted = Replaces read bytes old new × NotesIf text office noted

-- the new file was not made ready, and the office file is unchanged; or the office file was not replaced, or not for sure, and
-- the old file still has the name; or the office file has the text, and the new file did not get the name, or not for sure
abbrev pub IsUnreplaced : Option (List ℕ) → List ℕ → Option (List ℕ) → PlaceState → PlaceState → PlaceState → PlaceState → UnreplacedFault → Type 0
IsUnreplaced read bytes text old new office noted (fault.Unready f) = IsReplaceFault read bytes old new f × (noted ≡ office)
IsUnreplaced read bytes text old new office noted (fault.Unnoted f) = IsWithdrawn bytes old new × IsUnnotedIf text office noted f
IsUnreplaced read bytes text old new office noted (fault.Late f) = IsLate read bytes old new f × NotesIf text office noted
