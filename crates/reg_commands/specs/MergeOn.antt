-- A merge into the register of a shelf, which is joined first.
use Rattle.std.specs.Prelude.{◌≡◌, ◌∷◌, List}
use Rattle.byte_io.specs.Device.{SourceState}
use Rattle.reg_op.specs.Contents.{Content}
use Rattle.reg_file.specs.declared.parts.Part.{Part}
use Rattle.reg_file.specs.declared.parts.Part.TheVariants as part
use Rattle.reg_engine.specs.declared.fault.Refusal.TheVariants as refusal
use Rattle.reg_engine.specs.declared.fault.CliFault.{CliFault}
use Rattle.reg_engine.specs.declared.fault.CliFault.TheVariants as cli
use Rattle.reg_engine.specs.Inputs.{HoldAll, StopsAt, NoneFails}
use Rattle.reg_commands.specs.Merge.{JoinTo, ClashAt, BasisAt}
use Rattle.reg_engine.specs.Shelf.{Disks, Has, StaysOn, KeepsOn, IsShelfFault}

-- the states of a merge's sources and disk
pub record ShelfEnds (D : Type 0) : Type 0 where
  pub sources : List SourceState
  pub disk : D

abbrev pub shelf_ends : {D : Type 0} → List SourceState → D → ShelfEnds D
shelf_ends sources disk = record { sources = sources; disk = disk }

-- each source gave the file of a part, and the first content and these parts join to the second
abbrev pub MergesTo : List SourceState → List SourceState → Content → Content → Type 0
MergesTo old new x y = (ps : List Part) × HoldAll old new ps × JoinTo (part.Register x ∷ ps) y

-- the shelf had a content, and the join of it and the parts is kept
abbrev pub IsMergedOn : {D : Type 0} → Disks D → ShelfEnds D → ShelfEnds D → Type 0
IsMergedOn d old new = (x : Content) × Has d old.disk x × ((y : Content) × MergesTo old.sources new.sources x y × KeepsOn d x y old.disk new.disk)

-- the effect for each fault; the files have numbers from 1
abbrev pub IsMergeFaultOn : {D : Type 0} → Disks D → ShelfEnds D → ShelfEnds D → CliFault → Type 0
IsMergeFaultOn d old new (cli.Refused (refusal.Clash id)) = (x : Content) × Has d old.disk x
    × ((ps : List Part) × HoldAll old.sources new.sources ps × ClashAt (part.Register x ∷ ps) id) × StaysOn d old.disk new.disk
IsMergeFaultOn d old new (cli.Refused (refusal.Basis id)) = (x : Content) × Has d old.disk x
    × ((ps : List Part) × HoldAll old.sources new.sources ps × BasisAt (part.Register x ∷ ps) id) × StaysOn d old.disk new.disk
IsMergeFaultOn d old new (cli.Refused r) = ⊥
IsMergeFaultOn d old new (cli.File k f) = ((x : Content) × Has d old.disk x) × StopsAt k f old.sources new.sources × StaysOn d old.disk new.disk
IsMergeFaultOn d old new (cli.Out f) = ⊥
IsMergeFaultOn d old new cli.Memory = NoneFails old.sources new.sources × StaysOn d old.disk new.disk
IsMergeFaultOn d old new (cli.Shelf p) = IsShelfFault d (new.sources ≡ old.sources) (MergesTo old.sources new.sources) old.disk new.disk p
IsMergeFaultOn d old new (cli.Office t) = ⊥
