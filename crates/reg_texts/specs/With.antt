-- Texts of a file that are compared with a register: what is read and written.
use Rattle.std.specs.Prelude.{◌≡◌, ◌≢◌, ◌⊎◌, ◌↔◌, ℕ, Bool, List, [], IsTrue, Option, Some, None}
use Rattle.byte_io.specs.Device.{SourceState, SinkState}
use Rattle.byte_io.specs.Whole.{WritesAll}
use Rattle.reg_engine.specs.WholeFile.{Gives, IsUnread}
use Rattle.wkt_tree.specs.Tree.{Piece}
use Rattle.wkt_compare.specs.Texts.{IsCutInto}
use Rattle.reg_op.specs.Contents.{Content}
use Rattle.reg_op.specs.Rows.{rows}
use Rattle.reg_engine.specs.declared.fault.CliFault.{CliFault}
use Rattle.reg_engine.specs.declared.fault.CliFault.TheVariants as cli
use Rattle.reg_engine.specs.Store.{Around, AreCut}
use Rattle.reg_texts.specs.declared.against.UnreadTexts.{UnreadTexts}
use Rattle.reg_texts.specs.declared.against.UnreadTexts.TheVariants as unread
use Rattle.reg_texts.specs.Given.{IsFileAgainst, IsFileAgainstWhereRead, IsFileUnread, IsTextOrNone, IsFirstLeft}
use Rattle.reg_texts.specs.Gathered.{Each}
use Rattle.reg_texts.specs.declared.engines.with.ComparedPart.{ComparedPart}
use Rattle.reg_texts.specs.declared.engines.with.WithFault.{WithFault}
use Rattle.reg_texts.specs.declared.engines.with.WithFault.TheVariants as with

-- a register and a file were read; what differs between each text of the file and the entries of its key was written; the result
-- is whether anything was written
abbrev pub IsComparedWithFile : Around → List ℕ → SourceState → SourceState → SinkState → SinkState → Bool → Type 0
IsComparedWithFile a name old new before after any = (x : Content) × (bytes : List ℕ) × (text : List ℕ) × a.came x × Gives old new bytes × IsFileAgainst name bytes x text
    × (IsTrue any ↔ (text ≢ [])) × WritesAll text before after

-- the fault of a text, in a file of these bytes with this number; or memory ran out
abbrev pub IsRefusedIn : ℕ → List ℕ → WithFault → Type 0
IsRefusedIn number bytes (with.Cli f) = f ≡ cli.Memory
IsRefusedIn number bytes (with.Refused f at place len k) = (k ≡ number) × IsFileUnread bytes (unread.Refused f at place len)

-- the fault is not about a text
abbrev pub IsCli : (CliFault → Type 0) → WithFault → Type 0
IsCli Is (with.Cli f) = Is f
IsCli Is (with.Refused f at place len k) = ⊥

-- neither the register nor the file was read; or only the register; or a text of the file is not a definition; or not all of what
-- differs was written
abbrev pub IsUncomparedWith : Around → ℕ → List ℕ → SourceState → SourceState → SinkState → SinkState → WithFault → Type 0
IsUncomparedWith a next name old new before after w = (IsCli a.none w × (new ≡ old) × (after ≡ before))
    ⊎ ((x : Content) × a.came x × ((IsCli (IsUnread next old new) w × (after ≡ before))
    ⊎ ((bytes : List ℕ) × Gives old new bytes × ((IsRefusedIn next bytes w × (after ≡ before))
    ⊎ ((text : List ℕ) × IsFileAgainst name bytes x text × IsCli (AreCut text before after) w)))))

-- ---- texts that are passed over

-- each text is a definition; or the first that is none has this fault
abbrev pub IsLeftIn : ℕ → List ℕ → List Piece → Option WithFault → Type 0
IsLeftIn number bytes cuts None = IsFirstLeft cuts None
IsLeftIn number bytes cuts (Some w) = IsRefusedIn number bytes w

-- what differs between each text of a file that is a definition and the entries of its key; the first other text is this one
pub record IsPart (name bytes : List ℕ) (next : ℕ) (x : Content) (text : List ℕ) (left : Option WithFault) : Type 0 where
  pub cuts : List Piece
  pub cut : IsCutInto bytes cuts
  pub against : Each (IsTextOrNone name (rows x.ops)) cuts text
  pub first : IsLeftIn next bytes cuts left

-- a register and a file were read, and that was written
abbrev pub IsComparedInPart : Around → ℕ → List ℕ → SourceState → SourceState → SinkState → SinkState → ComparedPart → Type 0
IsComparedInPart a next name old new before after p = (x : Content) × (bytes : List ℕ) × (text : List ℕ) × a.came x × Gives old new bytes × IsPart name bytes next x text p.left
    × (IsTrue p.differs ↔ (text ≢ [])) × WritesAll text before after

-- neither the register nor the file was read; or only the register; or memory ran out; or not all of what differs was written
abbrev pub IsUncomparedInPart : Around → ℕ → List ℕ → SourceState → SourceState → SinkState → SinkState → CliFault → Type 0
IsUncomparedInPart a next name old new before after f = (a.none f × (new ≡ old) × (after ≡ before))
    ⊎ ((x : Content) × a.came x × ((IsUnread next old new f × (after ≡ before))
    ⊎ ((bytes : List ℕ) × Gives old new bytes × (((f ≡ cli.Memory) × (after ≡ before))
    ⊎ ((text : List ℕ) × (first : Option UnreadTexts) × IsFileAgainstWhereRead name bytes x text first × AreCut text before after f)))))
