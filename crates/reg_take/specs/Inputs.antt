-- What the files had that were joined to a register.
use Rattle.std.specs.Prelude.{◌++◌, ◌∷◌, [], ◌+◌, Bool, List, ℕ, nat_eq, if◌then◌else◌}
use Rattle.std.specs.List.{list_any}
use Rattle.reg_op.specs.Contents.{Content}
use Rattle.reg_tree.specs.Over.{piece_over}
use Rattle.reg_take.specs.declared.files.Arrival.{Arrival}
use Rattle.reg_take.specs.declared.files.Arrival.TheVariants as arrival
use Rattle.reg_take.specs.declared.taking.LeftOut.{LeftOut}
use Rattle.reg_take.specs.Taken.{file_of}

-- what a file had: a register, or a piece, read over x
abbrev pub read : Content → Arrival → List Content
read x (arrival.Register y) = y ∷ []
read x (arrival.Piece p) = piece_over x p ∷ []
read x (arrival.Unread k f) = []
read x (arrival.Forged id) = []

-- the file with this index is left out
abbrev pub is_left : List LeftOut → ℕ → Bool
is_left left i = list_any (λ (l : LeftOut). nat_eq (file_of l) i) left

abbrev pub joined_at : Content → List LeftOut → ℕ → Arrival → List Content
joined_at x left i a = if is_left left i then [] else read x a

-- what the files had that are not left out, in order. The first has this index, and the others one more each
abbrev pub inputs_from : Content → List LeftOut → ℕ → List Arrival → List Content
inputs_from x left i [] = []
inputs_from x left i (a ∷ gave) = joined_at x left i a ++ inputs_from x left (i + 1) gave
