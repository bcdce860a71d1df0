-- Stores: where a command reads its register, and where it keeps the new one.
use Rattle.std.specs.Prelude.{◌≡◌, ◌⊎◌, ℕ, Bool, true, false, List, Option, IsTrue}
use Rattle.byte_io.specs.Device.{SourceState, SinkState}
use Rattle.byte_io.specs.Whole.{WritesAll, IsCutAt}
use Rattle.byte_out.specs.Place.{PlaceState}
use Rattle.byte_out.specs.Replace.{Replaces}
use Rattle.reg_op.specs.Contents.{Content}
use Rattle.reg_file.specs.Files.{Finds}
use Rattle.reg_engine.specs.declared.fault.OutFault.TheVariants as out
use Rattle.reg_engine.specs.declared.fault.CliFault.{CliFault}
use Rattle.reg_engine.specs.declared.fault.CliFault.TheVariants as cli
use Rattle.reg_engine.specs.Fault.{is_after}
use Rattle.reg_engine.specs.Inputs.{IsUnread}
use Rattle.reg_engine.specs.Outputs.{PublishesFile, IsUnpublished, IsUnpublishedOf}
use Rattle.reg_engine.specs.Shelf.{Disks, Has, IsSure, StaysOn, KeepsOn, IsUnrestored, IsUnkept}

-- the events at a store between two moments
pub record Around : Type 1 where
  -- it gave this register, and nothing else happened to it
  pub came : Content → Type 0
  -- it gave none, for this reason, and nothing else happened to it
  pub none : CliFault → Type 0
  -- it gave the first register, and has the second one now
  pub left : Content → Content → Type 0
  -- it gave the first register, and does not have the second one, or possibly does not, for this reason
  pub unleft : Content → Content → CliFault → Type 0

-- a register's file, which is file 1, and the place of the next one; and what the file gave, if it is that of the place
abbrev pub in_file : SourceState → PlaceState → SourceState → Option (List ℕ) → PlaceState → Around
in_file source place next read after = record {
  came = λ x. Finds source next x × (after ≡ place);
  none = λ f. IsUnread 1 source next f × (after ≡ place);
  left = λ x y. Finds source next x × PublishesFile y read place after;
  unleft = λ x y f. Finds source next x × IsUnpublished y read place after f;
}

-- a register's file with this number that is only read, so it never has another register
abbrev pub file_numbered : ℕ → SourceState → SourceState → Around
file_numbered number source next = record {
  came = λ x. Finds source next x;
  none = λ f. IsUnread number source next f;
  left = λ x y. ⊥;
  unleft = λ x y f. ⊥;
}

-- the first file that a command reads
abbrev pub of_file : SourceState → SourceState → Around
of_file source next = file_numbered 1 source next

-- a shelf
abbrev pub on_shelf : {D : Type 0} → Disks D → D → D → Around
on_shelf d old new = record {
  came = λ x. Has d old x × StaysOn d old new × IsSure d new;
  none = λ f. IsUnrestored d old new f;
  left = λ x y. Has d old x × KeepsOn d x y old new;
  unleft = λ x y f. Has d old x × IsUnkept d x y old new f;
}

-- ---- the register on which a command works

-- the one that was loaded; or one that the store makes of it, which it may also refuse to do
pub data Admission : Type 1 where
  AsLoaded : Admission
  Screened : (makes : Content → Content → Type 0) → (bars : Content → CliFault → Type 0) → Admission

-- the store admits the loaded register: a command works on the second one
abbrev pub Admits : Admission → Content → Content → Type 0
Admits AsLoaded x z = z ≡ x
Admits (Screened makes bars) x z = makes x z

-- it does not, for this reason
abbrev pub Bars : Admission → Content → CliFault → Type 0
Bars AsLoaded x f = ⊥
Bars (Screened makes bars) x f = bars x f

-- the register x was loaded, and this holds of the one on which the command works
abbrev pub WorksOn : Admission → (Content → Type 0) → Content → Type 0
WorksOn AsLoaded Holds x = Holds x
WorksOn (Screened makes bars) Holds x = (z : Content) × makes x z × Holds z

-- of that one y and these lines are made
abbrev pub MakesIn : Admission → (Content → Content → Content → List ℕ → Type 0) → Content → Content → List ℕ → Type 0
MakesIn a Makes x y lines = WorksOn a (λ z. Makes x z y lines) x

-- why nothing is made: the command did not read what it needs; or it did, and the store does not admit the register; or it does,
-- and the command is refused
abbrev pub StopsIn : Admission → (Content → CliFault → Type 0) → (Content → Type 0) → (Content → Content → CliFault → Type 0) → Content → CliFault → Type 0
StopsIn AsLoaded Unmet Reads Refuses x f = Refuses x x f
StopsIn (Screened makes bars) Unmet Reads Refuses x f = Unmet x f ⊎ ((Reads x × bars x f) ⊎ ((z : Content) × makes x z × Refuses x z f))

-- ---- a command that prints something of a register

-- it refuses no register; memory may run out
abbrev pub Never : Content → CliFault → Type 0
Never x f = f ≡ cli.Memory

-- exactly the first bytes of the text were written
abbrev pub AreCut : List ℕ → SinkState → SinkState → CliFault → Type 0
AreCut text before after (cli.Out (out.WriteFailed n)) = IsCutAt n text before after
AreCut text before after f = ⊥

-- a register was read, and a text of it was written
abbrev pub IsPrinted : Around → (Content → List ℕ → Type 0) → SinkState → SinkState → Type 0
IsPrinted a Prints before after = (x : Content) × a.came x × ((text : List ℕ) × Prints x text × WritesAll text before after)

-- none was read; or there is no text of it; or not all of the text was written
abbrev pub IsUnprinted : Around → (Content → List ℕ → Type 0) → (Content → CliFault → Type 0) → SinkState → SinkState → CliFault → Type 0
IsUnprinted a Prints Refuses before after f = (a.none f × (after ≡ before))
    ⊎ ((x : Content) × a.came x × ((Refuses x f × (after ≡ before)) ⊎ ((text : List ℕ) × Prints x text × AreCut text before after f)))

-- ---- a command that writes a file of a register

-- a register was read, and a file of it is in the place; this was read from the file of the place, if it is the register's
abbrev pub IsGiven : Around → (Content → List ℕ → Type 0) → Option (List ℕ) → PlaceState → PlaceState → Type 0
IsGiven a Gives read before after = (x : Content) × a.came x × ((bytes : List ℕ) × Gives x bytes × Replaces read bytes before after)

-- none was read, and nothing else was; or there is no file of it; or the file is not in the place
abbrev pub IsUngiven : Around → (Content → List ℕ → Type 0) → (Content → CliFault → Type 0) → Type 0 → Option (List ℕ) → PlaceState → PlaceState → CliFault → Type 0
IsUngiven a Gives Refuses Unread read before after f = (a.none f × Unread × (after ≡ before))
    ⊎ ((x : Content) × a.came x × ((Refuses x f × (after ≡ before)) ⊎ ((bytes : List ℕ) × Gives x bytes × IsUnpublishedOf read bytes before after f)))

-- ---- a command that changes a register

-- a register was read; the one that is made of it is kept, and then the lines were written
abbrev pub IsChanged : Around → (Content → Content → List ℕ → Type 0) → SinkState → SinkState → Type 0
IsChanged a Makes before after = (x : Content) × (y : Content) × (lines : List ℕ) × Makes x y lines × a.left x y × WritesAll lines before after

-- the lines were written, as what was made is kept; or nothing was
abbrev pub WritesIf : Bool → List ℕ → SinkState → SinkState → Type 0
WritesIf true lines before after = WritesAll lines before after
WritesIf false lines before after = after ≡ before

-- the store has the second register, certainly or not
abbrev pub IsKeptIn : Around → Content → Content → Type 0
IsKeptIn a x y = a.left x y ⊎ ((f : CliFault) × IsTrue (is_after f) × a.unleft x y f)

-- the store has the second register in the place of the first, and then the lines were written
abbrev pub IsTold : Around → Content → Content → List ℕ → SinkState → SinkState → Type 0
IsTold a x y lines before after = a.left x y × WritesAll lines before after

-- it does not, and nothing was written, or not for sure, and all lines were; or it does, and not all of them were
abbrev pub IsUntold : Around → Content → Content → List ℕ → SinkState → SinkState → CliFault → Type 0
IsUntold a x y lines before after f = (a.unleft x y f × WritesIf (is_after f) lines before after) ⊎ (IsKeptIn a x y × AreCut lines before after f)

-- none was read, and nothing else was; or none is made of it; or the one that is made is not kept, or its lines were not written
abbrev pub IsUnchanged : Around → (Content → Content → List ℕ → Type 0) → (Content → CliFault → Type 0) → Type 0 → SinkState → SinkState → CliFault → Type 0
IsUnchanged a Makes Refuses Unread before after f = (a.none f × Unread × (after ≡ before))
    ⊎ (((x : Content) × a.came x × Refuses x f × (after ≡ before))
    ⊎ ((x : Content) × (y : Content) × (lines : List ℕ) × Makes x y lines × IsUntold a x y lines before after f))
