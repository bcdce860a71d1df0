-- A merge of which the first register and the join are known.
use Rattle.std.specs.Prelude.{◌≡◌, ◌∷◌, [], List, Result, Ok}
use Rattle.reg_op.specs.Contents.{Content, nothing, joined}
use Rattle.reg_op.specs.Pieces.{Piece, PieceRefusal}
use Rattle.reg_op.specs.Joining.{all_joined}
use Rattle.reg_file.specs.declared.parts.Part.{Part}
use Rattle.reg_file.specs.declared.parts.Part.TheVariants as part
use Rattle.reg_engine.specs.Inputs.{HoldAll, registers, pieces}
use Rattle.reg_engine.specs.Outputs.{PublishesFile}
use Rattle.reg_engine.specs.Shelf.{Disks, Has, KeepsOn}
use Rattle.reg_commands.specs.Merge.{Ends, JoinTo, begun, with_pieces}
use Rattle.reg_commands.specs.MergeOn.{ShelfEnds}
use Rattle.reg_take.specs.declared.merge.merged.Merged.{Merged}

-- the first of the registers; the empty one, if there is none
abbrev pub first_of : List Content → Content
first_of [] = nothing
first_of (x ∷ xs) = x

-- all registers joined, and then all pieces
abbrev pub join_all : List Content → List Piece → Result Content PieceRefusal
join_all xs qs = with_pieces (begun (all_joined joined (Ok nothing) xs)) qs

-- each source gave the file of a part, these are the registers and the pieces among them, and the file of the join of all was written
abbrev pub IsMergedFrom : Ends → Ends → Merged → Type 0
IsMergedFrom old new m = (ps : List Part) × HoldAll old.sources new.sources ps × (m.registers.items ≡ registers ps) × (m.pieces.items ≡ pieces ps)
    × JoinTo ps m.joined × PublishesFile m.joined new.read old.place new.place

-- the content and these parts are joined; the first of the registers is the content
abbrev pub JoinsAfter : Content → List Part → Merged → Type 0
JoinsAfter x ps m = (m.registers.items ≡ x ∷ registers ps) × (m.pieces.items ≡ pieces ps) × JoinTo (part.Register x ∷ ps) m.joined

-- the shelf had a content, each source gave the file of a part, and the join of all is kept
abbrev pub IsMergedOnFrom : {D : Type 0} → Disks D → ShelfEnds D → ShelfEnds D → Merged → Type 0
IsMergedOnFrom d old new m = (x : Content) × Has d old.disk x
    × ((ps : List Part) × HoldAll old.sources new.sources ps × JoinsAfter x ps m) × KeepsOn d x m.joined old.disk new.disk
