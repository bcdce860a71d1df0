-- A merge of registers and pieces: its input and its output.
use Rattle.std.specs.Prelude.{◌≡◌, ◌++◌, List, ℕ, Option, Result, Ok, Err, map}
use Rattle.byte_io.specs.Device.{SourceState}
use Rattle.byte_out.specs.Place.{PlaceState}
use Rattle.reg_op.specs.Contents.{Content, nothing, joined}
use Rattle.reg_op.specs.Ids.{Id}
use Rattle.reg_op.specs.Pieces.{PieceRefusal, Basis, Clash, part_of}
use Rattle.reg_op.specs.Joining.{all_joined}
pub use Rattle.reg_tree.specs.Chain.{with_pieces}
use Rattle.reg_file.specs.Files.{Holds}
use Rattle.reg_file.specs.declared.parts.Part.{Part}
use Rattle.reg_engine.specs.declared.fault.Refusal.TheVariants as refusal
use Rattle.reg_engine.specs.declared.fault.CliFault.{CliFault}
use Rattle.reg_engine.specs.declared.fault.CliFault.TheVariants as cli
use Rattle.reg_engine.specs.Inputs.{HoldAll, StopsAt, NoneFails, registers, pieces}
use Rattle.reg_engine.specs.Outputs.{PublishesFile, IsOutFault}

-- ---- the join of files

-- a join of registers, to which pieces are joined
abbrev pub begun : Result Content Id → Result Content PieceRefusal
begun (Ok x) = Ok x
begun (Err id) = Err (Clash id)

-- all registers joined, and then all pieces
abbrev pub join_of : List Part → Result Content PieceRefusal
join_of ps = with_pieces (begun (all_joined joined (Ok nothing) (registers ps))) (pieces ps)

-- the fault that reports a refused join
abbrev pub IsUnjoined : Result Content PieceRefusal → CliFault → Type 0
IsUnjoined r (cli.Refused (refusal.Clash id)) = r ≡ Err (Clash id)
IsUnjoined r (cli.Refused (refusal.Basis id)) = r ≡ Err (Basis id)
IsUnjoined r (cli.Refused f) = ⊥
IsUnjoined r (cli.File k f) = ⊥
IsUnjoined r (cli.Out f) = ⊥
IsUnjoined r cli.Memory = Unit {0}
IsUnjoined r (cli.Shelf p) = ⊥
IsUnjoined r (cli.Office t) = ⊥

-- the parts join to this content; or the first step that has one meets this clash; or the first piece whose basis is not
-- held by what was joined before it misses this id
abbrev pub JoinTo : List Part → Content → Type 0
JoinTo ps x = join_of ps ≡ Ok x

abbrev pub ClashAt : List Part → Id → Type 0
ClashAt ps id = join_of ps ≡ Err (Clash id)

abbrev pub BasisAt : List Part → Id → Type 0
BasisAt ps id = join_of ps ≡ Err (Basis id)

-- the bytes are the file of the join of the parts
abbrev pub IsMergeOf : List Part → List ℕ → Type 0
IsMergeOf ps bytes = (x : Content) × JoinTo ps x × Holds bytes x

-- the contents that the parts bring: a register its content; a piece its operations, and its seen ids without the basis
abbrev pub brought : List Part → List Content
brought ps = registers ps ++ map part_of (pieces ps)

-- ---- the effect of the command

-- the states of a merge's sources and place, and the bytes that a source gave which is the file of the place
pub record Ends : Type 0 where
  pub sources : List SourceState
  pub read : Option (List ℕ)
  pub place : PlaceState

abbrev pub ends : List SourceState → Option (List ℕ) → PlaceState → Ends
ends sources read place = record { sources = sources; read = read; place = place }

-- each source gave the file of a part, and the file of their join was written
abbrev pub IsMerged : Ends → Ends → Type 0
IsMerged old new = (ps : List Part) × HoldAll old.sources new.sources ps
    × ((x : Content) × JoinTo ps x × PublishesFile x new.read old.place new.place)

-- the effect of a merge, by its fault; after a refusal nothing was opened
abbrev pub IsMergeFault : Ends → Ends → CliFault → Type 0
IsMergeFault old new (cli.Refused (refusal.Clash id)) = (ps : List Part) × HoldAll old.sources new.sources ps × ClashAt ps id × (new.place ≡ old.place)
IsMergeFault old new (cli.Refused (refusal.Basis id)) = (ps : List Part) × HoldAll old.sources new.sources ps × BasisAt ps id × (new.place ≡ old.place)
IsMergeFault old new (cli.Refused r) = ⊥
IsMergeFault old new (cli.File k f) = StopsAt k f old.sources new.sources × (new.place ≡ old.place)
IsMergeFault old new (cli.Out f) = (ps : List Part) × HoldAll old.sources new.sources ps
    × ((x : Content) × JoinTo ps x × IsOutFault x new.read old.place new.place f)
IsMergeFault old new cli.Memory = NoneFails old.sources new.sources × (new.place ≡ old.place)
IsMergeFault old new (cli.Shelf p) = ⊥
IsMergeFault old new (cli.Office t) = ⊥
