-- Keeping a register after the office file got what a command made.
use Rattle.std.specs.Prelude.{◌≡◌, ◌⊎◌, ◌&&◌, nat_eq, nat_lt, Bool, true, false, List, ℕ, Option, Some, None, is_some}
use Rattle.byte_out.specs.Place.{PlaceState}
use Rattle.byte_out.specs.Replace.{Replaces, IsReplaceFault}
use Rattle.byte_out.specs.declared.fault.ReplaceFault.{ReplaceFault}
use Rattle.byte_out.specs.declared.fault.ReplaceFault.TheVariants as replaced
use Rattle.byte_office.specs.Noting.{NotesIf, IsUnnoted, IsUnnotedIf}
use Rattle.byte_office.specs.Noting.{Notes as Makes}
use Rattle.byte_office.specs.Replacing.{IsWithdrawn, IsLate}
use Rattle.byte_office.specs.declared.fault.OfficeFileFault.{OfficeFileFault}
use Rattle.byte_office.specs.declared.fault.OfficeFileFault.TheVariants as note
use Rattle.byte_office.specs.declared.fault.UnreplacedFault.{UnreplacedFault}
use Rattle.byte_office.specs.declared.fault.UnreplacedFault.TheVariants as unreplaced
use Rattle.reg_op.specs.Contents.{Content}
use Rattle.reg_file.specs.Files.{Holds}
use Rattle.reg_journal.specs.Journal.{Journal}
use Rattle.reg_journal.specs.Text.{HoldsOffice, IsOfficeTooLarge}
use Rattle.reg_journal.specs.Adding.{is_changed, landed}
use Rattle.reg_engine.specs.declared.fault.OutFault.TheVariants as out
use Rattle.reg_engine.specs.declared.fault.CliFault.{CliFault}
use Rattle.reg_engine.specs.declared.fault.CliFault.TheVariants as cli
use Rattle.reg_engine.specs.Fault.{replace_fault}
use Rattle.reg_engine.specs.Outputs.{PublishesFile, IsUnpublished}
use Rattle.reg_engine.specs.Shelf.{Disks, StaysOn, KeepsOn, IsUnready, IsUnput}

-- the text, if it is another one than before
abbrev pub if_changed : Bool → List ℕ → Option (List ℕ)
if_changed true text = Some text
if_changed false text = None

-- the office file had the first office file's text, and has that of the second one
abbrev pub Notes : Journal → Journal → PlaceState → PlaceState → Type 0
Notes f g office noted = (text : List ℕ) × HoldsOffice text g × NotesIf (if_changed (is_changed f g) text) office noted

-- it does not, or not for sure
abbrev pub IsUnnotedBy : Journal → Journal → PlaceState → PlaceState → OfficeFileFault → Type 0
IsUnnotedBy f g office noted note.TooLarge = IsOfficeTooLarge g × (noted ≡ office)
IsUnnotedBy f g office noted t = (text : List ℕ) × HoldsOffice text g × IsUnnotedIf (if_changed (is_changed f g) text) office noted t

-- the register that is left is the one that was read, it has a number of the office, and the office file does not know yet that one
-- stood in a register
abbrev pub is_first : Bool → Journal → Bool
is_first same f = same && (nat_eq f.stood 0 && nat_lt 0 f.last)

-- the text of the office file once its last number stands in a register; there is none if it does not stand there for the first time, or
-- if the text would be too large
abbrev pub IsLandedText : Bool → Journal → Option (List ℕ) → Type 0
IsLandedText true f (Some text) = HoldsOffice text (landed f)
IsLandedText true f None = IsOfficeTooLarge (landed f)
IsLandedText false f (Some text) = ⊥
IsLandedText false f None = Unit {0}

-- the office file has the first text, and gets the second one; or that fails. If it was replaced before, its new file has to be made
-- again, and the old one compared; otherwise its new file is there already
abbrev pub Tries : Bool → List ℕ → List ℕ → PlaceState → PlaceState → Type 0
Tries true text next old new = Replaces (Some text) next old new ⊎ ((t : ReplaceFault) × IsReplaceFault (Some text) next old new t)
Tries false text next old new = Makes next old new ⊎ ((t : OfficeFileFault) × IsUnnoted next old new t)

-- the same if there is a second text
abbrev pub TriesIf : Bool → List ℕ → Option (List ℕ) → PlaceState → PlaceState → Type 0
TriesIf changed text None old new = new ≡ old
TriesIf changed text (Some next) old new = Tries changed text next old new

-- the office file, which was replaced before or not, has noted that its last number stands in a register, if it does for the first
-- time; or that failed
abbrev pub Tells : Bool → Bool → Journal → PlaceState → PlaceState → Type 0
Tells changed first f old new = (text : List ℕ) × (next : Option (List ℕ)) × HoldsOffice text f × IsLandedText first f next × TriesIf changed text next old new

-- the office file has the second one's text, and the register's file is there. If that is the file that was read, the office file
-- knows that its last number stands in a register
pub record PublishesAfter (f g : Journal) (y : Content) (read : Option (List ℕ)) (place after office told : PlaceState) : Type 0 where
  pub noted : PlaceState
  pub notes : Notes f g office noted
  pub publishes : PublishesFile y read place after
  pub tells : Tells (is_changed f g) (is_first (is_some read) g) g noted told

-- the file of the register was ready, and the old one is still there; or nothing was made ready
abbrev pub IsWithdrawnFile : Content → PlaceState → PlaceState → Type 0
IsWithdrawnFile y old new = (bytes : List ℕ) × Holds bytes y × IsWithdrawn bytes old new

-- the file of the register was ready, and did not get its name, or not for sure
abbrev pub IsLateFile : Content → Option (List ℕ) → PlaceState → PlaceState → CliFault → Type 0
IsLateFile y read old new (cli.Out out.NotOpened) = (bytes : List ℕ) × Holds bytes y × IsLate read bytes old new replaced.NotOpened
IsLateFile y read old new (cli.Out (out.WriteFailed n)) = (bytes : List ℕ) × Holds bytes y × IsLate read bytes old new (replaced.WriteFailed n)
IsLateFile y read old new (cli.Out out.Changed) = (bytes : List ℕ) × Holds bytes y × IsLate read bytes old new replaced.Changed
IsLateFile y read old new (cli.Out out.NotSynced) = (bytes : List ℕ) × Holds bytes y × IsLate read bytes old new replaced.NotSynced
IsLateFile y read old new f = ⊥

abbrev pub unkept_fault : UnreplacedFault → CliFault
unkept_fault (unreplaced.Unready f) = replace_fault f
unkept_fault (unreplaced.Unnoted t) = cli.Office t
unkept_fault (unreplaced.Late f) = replace_fault f

-- the office file would be too large, and nothing was written; or it was not replaced, or not for sure, and the old file is there;
-- or the new file was not made ready, and the office file is unchanged; or that has its text, and the new file is not there, or
-- not for sure
abbrev pub IsUnpublishedAfter : Journal → Journal → Content → Option (List ℕ) → PlaceState → PlaceState → PlaceState → PlaceState → CliFault → Type 0
IsUnpublishedAfter f g y read place after office noted (cli.Office note.TooLarge) = IsUnnotedBy f g office noted note.TooLarge × (after ≡ place)
IsUnpublishedAfter f g y read place after office noted (cli.Office t) = IsWithdrawnFile y place after × IsUnnotedBy f g office noted t
IsUnpublishedAfter f g y read place after office noted fault = (IsUnpublished y read place after fault × (noted ≡ office))
    ⊎ (IsLateFile y read place after fault × Notes f g office noted)

-- the same for a shelf of a first register
pub record KeepsAfter {D : Type 0} (d : Disks D) (f g : Journal) (x y : Content) (old new : D) (office told : PlaceState) : Type 0 where
  pub noted : PlaceState
  pub notes : Notes f g office noted
  pub keeps : KeepsOn d x y old new
  pub tells : Tells (is_changed f g) (is_first true g) g noted told

-- the office file would be too large, and nothing was written; or it was not replaced, or not for sure; or no frame was made
-- ready, and the office file is unchanged; or that has its text, and the disk failed
abbrev pub IsUnkeptAfter : {D : Type 0} → Disks D → Journal → Journal → Content → Content → D → D → PlaceState → PlaceState → CliFault → Type 0
IsUnkeptAfter d f g x y old new office noted (cli.Office t) = StaysOn d old new × IsUnnotedBy f g office noted t
IsUnkeptAfter d f g x y old new office noted fault = (IsUnready d y old new fault × (noted ≡ office))
    ⊎ (IsUnput d x y old new fault × Notes f g office noted)
