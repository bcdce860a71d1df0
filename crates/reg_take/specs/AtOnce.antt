-- The registers and the pieces among files.
use Rattle.std.specs.Prelude.{◌∷◌, [], List}
use Rattle.reg_op.specs.Contents.{Content}
use Rattle.reg_op.specs.Pieces.{Piece}
use Rattle.reg_take.specs.declared.files.Arrival.{Arrival}
use Rattle.reg_take.specs.declared.files.Arrival.TheVariants as arrival

abbrev pub registers_in : List Arrival → List Content
registers_in [] = []
registers_in (arrival.Register z ∷ gave) = z ∷ registers_in gave
registers_in (arrival.Piece p ∷ gave) = registers_in gave
registers_in (arrival.Unread k f ∷ gave) = registers_in gave
registers_in (arrival.Forged id ∷ gave) = registers_in gave

abbrev pub pieces_in : List Arrival → List Piece
pieces_in [] = []
pieces_in (arrival.Register z ∷ gave) = pieces_in gave
pieces_in (arrival.Piece p ∷ gave) = p ∷ pieces_in gave
pieces_in (arrival.Unread k f ∷ gave) = pieces_in gave
pieces_in (arrival.Forged id ∷ gave) = pieces_in gave
